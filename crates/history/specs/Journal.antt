-- A journal: entries of events, the newest first, of which some are live. A set of entries is a test.
use Rattle.std.specs.Prelude.{◌≡◌, ◌≢◌, ℕ, ◌<◌, Bool, true, false, cond, ◌&&◌, ◌||◌, ◌==◌, not, List, [], ◌∷◌, Option, map, filter}
use Rattle.std.specs.List.{list_any, AllByRecursion}
use Rattle.history.specs.Subject.{Subject, World, Foot, after, meets}

-- an event, what it read and wrote when it was made, the names of its causes, whether it is live, and the last writers of then of the cells that it touches
pub record Entry (s : Subject) : Type 0 where
  pub event : s.Event
  pub foot : Foot s
  pub causes : List ℕ
  pub live : Bool
  pub lasts : List (s.Key × Option ℕ)

-- the name of its event
abbrev pub name_of : (s : Subject) → Entry s → ℕ
name_of s e = s.name e.event

-- a number is among these
abbrev pub is_in : List ℕ → ℕ → Bool
is_in ns m = list_any (λ n. n == m) ns

-- the entries of these names
abbrev pub named : (s : Subject) → List ℕ → Entry s → Bool
named s ns e = is_in ns (name_of s e)

-- the first entry names the second as a cause
abbrev pub caused : (s : Subject) → Entry s → Entry s → Bool
caused s e a = named s e.causes a

-- the live entries
abbrev pub live_set : (s : Subject) → Entry s → Bool
live_set s e = e.live

-- a set without another, and two sets together
abbrev pub without : {A : Type 0} → (A → Bool) → (A → Bool) → A → Bool
without t c e = t e && not (c e)

abbrev pub both : {A : Type 0} → (A → Bool) → (A → Bool) → A → Bool
both t c e = t e || c e

-- one set is a part of another, among these entries
abbrev pub Part : {A : Type 0} → (A → Bool) → (A → Bool) → List A → Type 0
Part c t es = AllByRecursion (λ a. c a ≡ true → t a ≡ true) es

-- an entry that is live exactly in this set
abbrev pub mark : (s : Subject) → (Entry s → Bool) → Entry s → Entry s
mark s t e = record e { live = t e }

-- the entries with those of the set as the live ones
abbrev pub marked : (s : Subject) → (Entry s → Bool) → List (Entry s) → List (Entry s)
marked s t es = map (mark s t) es

-- the world that the entries of a set leave, by what they wrote when they were made
abbrev pub over : (s : Subject) → World s → (Entry s → Bool) → List (Entry s) → World s
over s start t [] = start
over s start t (e ∷ es) = cond (t e) (after s e.foot (over s start t es)) (over s start t es)

-- the events of these entries are possible one after another, each with the footprint of its entry
pub data Runs (s : Subject) (start : World s) : List (Entry s) → World s → Type 0 where
  runs_none : Runs s start [] start
  runs_more : {e : Entry s} {es : List (Entry s)} {w : World s} → Runs s start es w → s.Does e.event w e.foot → Runs s start (e ∷ es) (after s e.foot w)

-- the causes of an entry are those older members of the set that wrote a cell that it touches
abbrev pub HasCauses : (s : Subject) → (Entry s → Bool) → Entry s → List (Entry s) → Type 0
HasCauses s t e es = AllByRecursion (λ a. caused s e a ≡ (t a && meets s a.foot e.foot)) es

-- each member of the set has its causes, and no others, among the older members
abbrev pub Sound : (s : Subject) → (Entry s → Bool) → List (Entry s) → Type 0
Sound s t [] = Unit {0}
Sound s t (e ∷ es) = (t e ≡ true → HasCauses s t e es) × Sound s t es

-- each entry, live or undone, is possible with its footprint where its causes alone have written
abbrev pub Recorded : (s : Subject) → World s → List (Entry s) → Type 0
Recorded s start [] = Unit {0}
Recorded s start (e ∷ es) = s.Does e.event (over s start (caused s e) es) e.foot × Recorded s start es

-- no entry names a newer one as its cause
abbrev pub Ordered : (s : Subject) → List (Entry s) → Type 0
Ordered s [] = Unit {0}
Ordered s (e ∷ es) = AllByRecursion (λ a. caused s a e ≡ false) es × Ordered s es

-- a set is good for a world: its entries have made it from the start
pub record Good (s : Subject) (start : World s) (t : Entry s → Bool) (es : List (Entry s)) (w : World s) : Type 0 where
  pub recorded : Recorded s start es
  pub sound : Sound s t es
  pub ordered : Ordered s es
  pub world : w ≡ over s start t es

-- no two entries have one name
abbrev pub Distinct : (s : Subject) → List (Entry s) → Type 0
Distinct s [] = Unit {0}
Distinct s (e ∷ es) = AllByRecursion (λ a. name_of s a ≢ name_of s e) es × Distinct s es

-- all names, and the names of all causes, are below a number
abbrev pub Below : (s : Subject) → ℕ → List (Entry s) → Type 0
Below s next es = AllByRecursion (λ a. (name_of s a < next) × AllByRecursion (λ n. n < next) a.causes) es

-- no entry names itself as a cause
abbrev pub NoneNamesItself : (s : Subject) → List (Entry s) → Type 0
NoneNamesItself s es = AllByRecursion (λ a. caused s a a ≡ false) es

-- names are distinct, those from this number on are not used, and no entry names itself as a cause
pub record Named (s : Subject) (next : ℕ) (es : List (Entry s)) : Type 0 where
  pub distinct : Distinct s es
  pub below : Below s next es
  pub own : NoneNamesItself s es

-- a name is free: no entry has it, and none names it as a cause
abbrev pub Free : (s : Subject) → ℕ → List (Entry s) → Type 0
Free s n es = AllByRecursion (λ a. (name_of s a ≢ n) × (is_in a.causes n ≡ false)) es

-- the live entries that wrote a cell that this footprint touches: the names of its causes, the newest first
abbrev pub causes_of : (s : Subject) → Foot s → List (Entry s) → List ℕ
causes_of s f es = map (name_of s) (filter (λ a. a.live && meets s a.foot f) es)

-- these names are those of the causes, in any order
abbrev pub NamesCauses : (s : Subject) → List ℕ → Foot s → List (Entry s) → Type 0
NamesCauses s ns f es = AllByRecursion (λ a. named s ns a ≡ (a.live && meets s a.foot f)) es

-- the entry of a new event
abbrev pub new_entry : (s : Subject) → s.Event → Foot s → List ℕ → List (s.Key × Option ℕ) → Entry s
new_entry s e f ns ls = record { event = e; foot = f; causes = ns; live = true; lasts = ls }

-- a set has each member of t that has one of its members as a cause
abbrev pub Closed : (s : Subject) → (Entry s → Bool) → (Entry s → Bool) → List (Entry s) → Type 0
Closed s t c [] = Unit {0}
Closed s t c (e ∷ es) = (t e ≡ true → AllByRecursion (λ a. c a ≡ true → caused s e a ≡ true → c e ≡ true) es) × Closed s t c es

-- no member of t outside a set has one of the set as a cause
abbrev pub HasNoneOutside : (s : Subject) → (Entry s → Bool) → (Entry s → Bool) → List (Entry s) → Type 0
HasNoneOutside s t c es = AllByRecursion (λ e. t e ≡ true → c e ≡ false → AllByRecursion (λ a. c a ≡ true → caused s e a ≡ false) es) es
