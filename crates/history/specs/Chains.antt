-- Causes from last writers: an entry has of each cell that it touches who wrote it last, and its other causes are found from there.
use Rattle.std.specs.Prelude.{◌≡◌, ℕ, Bool, true, false, cond, ◌&&◌, ◌==◌, List, [], ◌∷◌, Option, Some, None, is_some, unwrap_or}
use Rattle.std.specs.List.{list_any, AllByRecursion}
use Rattle.history.specs.Subject.{Subject, Foot, found, new, touches, meets}
use Rattle.history.specs.Journal.{Entry, name_of, caused}

-- the entry wrote the cell
abbrev pub wrote : (s : Subject) → s.Key → Entry s → Bool
wrote s k e = is_some (new s e.foot k)

-- the name of the newest member of a set that wrote the cell
abbrev pub last_writer : (s : Subject) → s.Key → (Entry s → Bool) → List (Entry s) → Option ℕ
last_writer s k t [] = None
last_writer s k t (e ∷ es) = cond (t e && wrote s k e) (Some (name_of s e)) (last_writer s k t es)

-- the last writer of the cell when the entry was made
abbrev pub last_of : (s : Subject) → Entry s → s.Key → Option ℕ
last_of s e k = unwrap_or (found s e.lasts k) None

-- this is the name
abbrev pub is_name : Option ℕ → ℕ → Bool
is_name None m = false
is_name (Some n) m = n == m

-- from a name on: the name of its entry, then that of the last writer of the cell when this was made, and so on
abbrev pub chain : (s : Subject) → s.Key → Option ℕ → List (Entry s) → List ℕ
chain s k o [] = []
chain s k o (e ∷ es) = cond (is_name o (name_of s e)) (name_of s e ∷ chain s k (last_of s e k) es) (chain s k o es)

-- each member of a set that wrote the cell has, of the older ones that wrote it, the members of the set as its causes
abbrev pub Linked : (s : Subject) → s.Key → (Entry s → Bool) → List (Entry s) → Type 0
Linked s k t [] = Unit {0}
Linked s k t (e ∷ es) = (t e ≡ true → wrote s k e ≡ true → AllByRecursion (λ a. (caused s e a && wrote s k a) ≡ (t a && wrote s k a)) es) × Linked s k t es

-- these are the touched cells
abbrev pub HasCells : (s : Subject) → Foot s → List (s.Key × Option ℕ) → Type 0
HasCells s f ls = (k : s.Key) → list_any (λ p. s.same k p.0) ls ≡ touches s f k

-- an entry has of each cell that it touches the newest of its causes that wrote it; its causes wrote such cells, and are linked at each
pub record Traced (s : Subject) (e : Entry s) (es : List (Entry s)) : Type 0 where
  pub cells : HasCells s e.foot e.lasts
  pub lasts : AllByRecursion (λ p. p.1 ≡ last_writer s p.0 (caused s e) es) e.lasts
  pub met : AllByRecursion (λ a. caused s e a ≡ true → meets s a.foot e.foot ≡ true) es
  pub linked : (k : s.Key) → touches s e.foot k ≡ true → Linked s k (caused s e) es

-- each entry is traced among the older ones
abbrev pub Chained : (s : Subject) → List (Entry s) → Type 0
Chained s [] = Unit {0}
Chained s (e ∷ es) = Traced s e es × Chained s es
