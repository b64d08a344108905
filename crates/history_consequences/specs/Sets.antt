-- Sets of entries, by last writers alone: what is closed, and what is sound.
use Rattle.std.specs.Prelude.{◌≡◌, ℕ, Bool, true, false, ◌&&◌, ◌||◌, ◌==◌, List, [], ◌∷◌, Option, Some, None, ◌⊎◌}
use Rattle.std.specs.List.{list_any, AllByRecursion}
use Rattle.history.specs.Subject.{Subject}
use Rattle.history.specs.Journal.{Entry, name_of}
use Rattle.history.specs.Chains.{last_writer}
use Rattle.history_consequences.specs.Versions.{follows, overtakes}

-- a writer is nobody, or a member among these
abbrev pub is_there : (s : Subject) → (Entry s → Bool) → Option ℕ → List (Entry s) → Bool
is_there s t None es = true
is_there s t (Some n) es = list_any (λ a. t a && (name_of s a == n)) es

-- no member of t outside a set follows a member of it
abbrev pub Unfollowed : (s : Subject) → (Entry s → Bool) → (Entry s → Bool) → List (Entry s) → Type 0
Unfollowed s t c es = AllByRecursion (λ a. c a ≡ true → AllByRecursion (λ r. t r ≡ true → c r ≡ false → follows s (name_of s a) r ≡ false) es) es

-- a set is gathered from an entry: it has the entry, and each other member is a member of t and follows a member
pub record Gathered (s : Subject) (t c : Entry s → Bool) (root : ℕ) (es : List (Entry s)) : Type 0 where
  pub root_in : AllByRecursion (λ e. name_of s e ≡ root → c e ≡ true) es
  pub others : AllByRecursion (λ r. c r ≡ true → (name_of s r ≡ root) ⊎ ((t r ≡ true) × (list_any (λ a. c a && follows s (name_of s a) r) es ≡ true))) es

-- each member has, of each cell that it touched, the set's last writer before it as the last writer
abbrev pub HasLastWriters : (s : Subject) → (Entry s → Bool) → List (Entry s) → Type 0
HasLastWriters s t [] = Unit {0}
HasLastWriters s t (e ∷ es) = (t e ≡ true → AllByRecursion (λ p. p.1 ≡ last_writer s p.0 t es) e.lasts) × HasLastWriters s t es

-- of each member of c, the last writers are there, among the older members of t
abbrev pub MissesNone : (s : Subject) → (Entry s → Bool) → (Entry s → Bool) → List (Entry s) → Type 0
MissesNone s t c [] = Unit {0}
MissesNone s t c (e ∷ es) = (c e ≡ true → AllByRecursion (λ p. is_there s t p.1 es ≡ true) e.lasts) × MissesNone s t c es

-- no member of t stands behind one that wrote over what it found, where one of the two is of c
abbrev pub CrossesNone : (s : Subject) → (Entry s → Bool) → (Entry s → Bool) → List (Entry s) → Type 0
CrossesNone s t c [] = Unit {0}
CrossesNone s t c (e ∷ es) = (t e ≡ true → AllByRecursion (λ f. t f ≡ true → (c e || c f) ≡ true → overtakes s f e ≡ false) es) × CrossesNone s t c es
