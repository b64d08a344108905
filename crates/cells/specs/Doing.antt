-- What is done to cells, one step after another: all reading and writing in one form, so that its laws are proved once.
use Rattle.std.specs.Prelude.{◌≡◌, Bool, true, false, ◌||◌, cond, Option, Some}

-- a cell is read, and what follows goes by what it holds; a cell is written; or it is over, with a result
pub data Doing (K C R : Type 0) : Type 0 where
  over : (r : R) → Doing K C R
  reads : (k : K) → (next : Option C → Doing K C R) → Doing K C R
  writes : (k : K) → (x : C) → (next : Doing K C R) → Doing K C R

-- cells: what they hold, which of them were touched, and which were written
pub record Under (K C : Type 0) : Type 0 where
  pub state : K → Option C
  pub touched : K → Bool
  pub written : K → Bool

-- first this, and then what goes by its result
abbrev pub and_then : {K C A B : Type 0} → Doing K C A → (A → Doing K C B) → Doing K C B
and_then (over a) f = f a
and_then (reads k next) f = reads k (λ x. and_then (next x) f)
and_then (writes k x next) f = writes k x (and_then next f)

module _ {K C : Type 0} (same : K → K → Bool) where
  -- a cell that is read is touched
  abbrev pub touching : K → Under K C → Under K C
  touching k u = record u { touched = λ d. same k d || u.touched d }

  -- a cell that is written is touched, too
  abbrev pub holding : K → C → Under K C → Under K C
  holding k x u = record { state = λ d. cond (same k d) (Some x) (u.state d); touched = λ d. same k d || u.touched d; written = λ d. same k d || u.written d }

  -- the result, and the cells then
  abbrev pub play : {R : Type 0} → Doing K C R → Under K C → R × Under K C
  play (over r) u = (r, u)
  play (reads k next) u = play (next (u.state k)) (touching k u)
  play (writes k x next) u = play next (holding k x u)

-- the same cells, holding what another state has
abbrev pub with_state : {K C : Type 0} → (K → Option C) → Under K C → Under K C
with_state s u = record u { state = s }

-- these cells later: none is touched or written no more, what is written is touched, and what is not written is as it was
pub record Later {K C : Type 0} (u v : Under K C) : Type 0 where
  pub touched : (k : K) → u.touched k ≡ true → v.touched k ≡ true
  pub written : (k : K) → u.written k ≡ true → v.written k ≡ true
  pub within : ((k : K) → u.written k ≡ true → u.touched k ≡ true) → (k : K) → v.written k ≡ true → v.touched k ≡ true
  pub stays : (k : K) → v.written k ≡ false → v.state k ≡ u.state k

-- in a state that agrees on the cells touched it goes alike: the same result, the same cells touched and written, and what agreed before
-- agrees after
pub record Alike {K C R : Type 0} (same : K → K → Bool) (d : Doing K C R) (u : Under K C) (s : K → Option C) : Type 0 where
  pub result : (play same d (with_state s u)).0 ≡ (play same d u).0
  pub touched : (play same d (with_state s u)).1.touched ≡ (play same d u).1.touched
  pub written : (play same d (with_state s u)).1.written ≡ (play same d u).1.written
  pub kept : (k : K) → s k ≡ u.state k → (play same d (with_state s u)).1.state k ≡ (play same d u).1.state k

-- what is done behind another goes on from its result and its cells
abbrev pub OneAfterAnother : (K C A B : Type 0) → Type 0
OneAfterAnother K C A B = (same : K → K → Bool) (d : Doing K C A) (f : A → Doing K C B) (u : Under K C)
    → play same (and_then d f) u ≡ play same (f (play same d u).0) (play same d u).1

abbrev pub CellsOnlyGrow : (K C R : Type 0) → Type 0
CellsOnlyGrow K C R = (same : K → K → Bool) (d : Doing K C R) (u : Under K C) → Later u (play same d u).1

abbrev pub GoesAlike : (K C R : Type 0) → Type 0
GoesAlike K C R = (same : K → K → Bool) → ((k : K) → same k k ≡ true) → (d : Doing K C R) (u : Under K C) (s : K → Option C)
    → ((k : K) → (play same d u).1.touched k ≡ true → s k ≡ u.state k) → Alike same d u s
