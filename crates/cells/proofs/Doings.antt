-- What holds of all that is done to cells.
use Rattle.std.proofs.Common.{◌≡◌, Bool, true, false, ◌||◌, cond, Option, Some, refl, ap, ◌∙◌}
use Rattle.std.proofs.lemmas.Bool.{or_left, or_right, or_parts}
use Rattle.cells.specs.Doing.{Doing, over, reads, writes, Under, touching, holding, play, with_state, OneAfterAnother, Later, CellsOnlyGrow, Alike, GoesAlike}

pub one_after_another : (K C A B : Type 0) → OneAfterAnother K C A B
one_after_another K C A B same (over a) f u = refl
one_after_another K C A B same (reads k next) f u = one_after_another K C A B same (next (u.state k)) f (touching same k u)
one_after_another K C A B same (writes k x next) f u = one_after_another K C A B same next f (holding same k x u)

not_written : (q q' : Bool) → (q ≡ true → q' ≡ true) → q' ≡ false → q ≡ false
not_written true q' h e = absurd (cc (h refl, e))
not_written false q' h e = refl

pub then : {K C : Type 0} {u v w : Under K C} → Later u v → Later v w → Later u w
then {v = v} {w = w} f g = record {
  touched = λ k h. g.touched k (f.touched k h);
  written = λ k h. g.written k (f.written k h);
  within = λ h. g.within (f.within h);
  stays = λ k h. g.stays k h ∙ f.stays k (not_written (v.written k) (w.written k) (g.written k) h);
}

both_within : (b p q : Bool) → (q ≡ true → p ≡ true) → (b || q) ≡ true → (b || p) ≡ true
both_within true p q h e = refl
both_within false p q h e = h e

module _ {K C : Type 0} (same : K → K → Bool) where
  touching_later : (k : K) (u : Under K C) → Later u (touching same k u)
  touching_later k u = record {
    touched = λ d h. or_right (same k d) (u.touched d) h;
    written = λ d h. h;
    within = λ h d e. or_right (same k d) (u.touched d) (h d e);
    stays = λ d h. refl;
  }

  holding_later : (k : K) (x : C) (u : Under K C) → Later u (holding same k x u)
  holding_later k x u = record {
    touched = λ d h. or_right (same k d) (u.touched d) h;
    written = λ d h. or_right (same k d) (u.written d) h;
    within = λ h d e. both_within (same k d) (u.touched d) (u.written d) (h d) e;
    stays = λ d h. ap (λ b. cond b (Some x) (u.state d)) (or_parts (same k d) (u.written d) h).0;
  }

  -- what a read found is the same, so what follows is
  read_alike : {R : Type 0} (k : K) (next : Option C → Doing K C R) (u : Under K C) (s : K → Option C) → s k ≡ u.state k → Alike same (next (u.state k)) (touching same k u) s → Alike same (reads k next) u s
  read_alike k next u s e a =
      let goes : play same (next (s k)) (with_state s (touching same k u)) ≡ play same (next (u.state k)) (with_state s (touching same k u)) = ap (λ x. play same (next x) (with_state s (touching same k u))) e in
      record {
        result = ap (λ p. p.0) goes ∙ a.result;
        touched = ap (λ p. p.1.touched) goes ∙ a.touched;
        written = ap (λ p. p.1.written) goes ∙ a.written;
        kept = λ d h. ap (λ p. p.1.state d) goes ∙ a.kept d h;
      }

  -- a write leaves alike what was alike
  written_alike : (s t : K → Option C) (k : K) (x : C) (d : K) → s d ≡ t d → cond (same k d) (Some x) (s d) ≡ cond (same k d) (Some x) (t d)
  written_alike s t k x d e = ap (λ y. cond (same k d) (Some x) y) e

pub cells_only_grow : (K C R : Type 0) → CellsOnlyGrow K C R
cells_only_grow K C R same (over r) u = record { touched = λ k h. h; written = λ k h. h; within = λ h. h; stays = λ k h. refl }
cells_only_grow K C R same (reads k next) u = then (touching_later same k u) (cells_only_grow K C R same (next (u.state k)) (touching same k u))
cells_only_grow K C R same (writes k x next) u = then (holding_later same k x u) (cells_only_grow K C R same next (holding same k x u))

pub goes_alike : (K C R : Type 0) → GoesAlike K C R
goes_alike K C R same self (over r) u s h = record { result = refl; touched = refl; written = refl; kept = λ k e. e }
goes_alike K C R same self (reads k next) u s h =
    read_alike same k next u s (h k ((cells_only_grow K C R same (next (u.state k)) (touching same k u)).touched k (or_left (same k k) (u.touched k) (self k))))
    (goes_alike K C R same self (next (u.state k)) (touching same k u) s h)
goes_alike K C R same self (writes k x next) u s h =
    let a = goes_alike K C R same self next (holding same k x u) (λ d. cond (same k d) (Some x) (s d)) (λ d e. written_alike same s u.state k x d (h d e)) in
    record { result = a.result; touched = a.touched; written = a.written; kept = λ d e. a.kept d (written_alike same s u.state k x d e) }
