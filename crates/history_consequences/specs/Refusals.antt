-- The pairs by which an undo or a redo is refused, by causes and by last writers.
use Rattle.std.specs.Prelude.{ℕ, Bool, false, cond, ◌&&◌, ◌||◌, not, List, [], ◌∷◌, Option, Some, None, option_map}
use Rattle.std.specs.Option.{option_or}
use Rattle.std.specs.List.{list_any}
use Rattle.history.specs.Subject.{Subject, touches, meets}
use Rattle.history.specs.Journal.{Entry, name_of, is_in, caused}
use Rattle.history.specs.Chains.{wrote, last_of, is_name}
use Rattle.history_consequences.specs.Versions.{overtakes}

-- the name of the oldest entry that passes a test
abbrev pub oldest : (s : Subject) → (Entry s → Bool) → List (Entry s) → Option ℕ
oldest s test [] = None
oldest s test (e ∷ es) = option_or (oldest s test es) (cond (test e) (Some (name_of s e)) None)

-- the oldest entry to which something answers, by those that are older, and its answer
abbrev pub first_pair : (s : Subject) → (Entry s → List (Entry s) → Option ℕ) → List (Entry s) → Option (ℕ × ℕ)
first_pair s one [] = None
first_pair s one (e ∷ es) = option_or (first_pair s one es) (option_map (λ n. (name_of s e, n)) (one e es))

-- A CAUSE IS MISSING: the oldest cause of an entry that is no member of t
abbrev pub missing : (s : Subject) → (Entry s → Bool) → Entry s → List (Entry s) → Option ℕ
missing s t e es = oldest s (λ a. caused s e a && not (t a)) es

-- from a writer of a cell back along last writers, until one is a member: the names of those before it
abbrev pub lacking : (s : Subject) → (Entry s → Bool) → s.Key → Option ℕ → List (Entry s) → List ℕ
lacking s t k o [] = []
lacking s t k o (a ∷ es) = cond (is_name o (name_of s a)) (cond (t a) [] (name_of s a ∷ lacking s t k (last_of s a k) es)) (lacking s t k o es)

-- the oldest that is met so from the last writers of an entry
abbrev pub lacked : (s : Subject) → (Entry s → Bool) → Entry s → List (Entry s) → Option ℕ
lacked s t e es = oldest s (λ a. list_any (λ p. is_in (lacking s t p.0 p.1 es) (name_of s a)) e.lasts) es

-- AN ENTRY CROSSES ANOTHER: the oldest member of t that wrote a cell that an entry touches, and is no cause of it
abbrev pub crossed : (s : Subject) → (Entry s → Bool) → Entry s → List (Entry s) → Option ℕ
crossed s t e es = oldest s (λ f. t f && (meets s f.foot e.foot && not (caused s e f))) es

-- the oldest member of t that wrote over what an entry found, where one of the two is of c
abbrev pub overtaken : (s : Subject) → (Entry s → Bool) → (Entry s → Bool) → Entry s → List (Entry s) → Option ℕ
overtaken s t c e es = oldest s (λ f. (t f && (c e || c f)) && overtakes s f e) es

-- A SET IS NOT CLOSED: the oldest member of t outside a set that has an entry as a cause
abbrev pub consequence : (s : Subject) → (Entry s → Bool) → (Entry s → Bool) → Entry s → List (Entry s) → Option ℕ
consequence s t c e es = oldest s (λ r. t r && (not (c r) && caused s r e)) es

-- a writer is one of these
abbrev pub is_of : List ℕ → Option ℕ → Bool
is_of ns None = false
is_of ns (Some n) = is_in ns n

-- a name, and those of the members of a set that wrote the cell and found it as one of these had left it
abbrev pub lineage : (s : Subject) → (Entry s → Bool) → s.Key → ℕ → List (Entry s) → List ℕ
lineage s c k n [] = n ∷ []
lineage s c k n (r ∷ es) = cond (c r && (wrote s k r && is_of (lineage s c k n es) (last_of s r k))) (name_of s r ∷ lineage s c k n es) (lineage s c k n es)

-- the oldest member of t outside the set that found a cell as one of such a line had left it, where the line begins with an entry at a
-- cell that it wrote
abbrev pub outsider : (s : Subject) → (Entry s → Bool) → (Entry s → Bool) → Entry s → List (Entry s) → Option ℕ
outsider s t c e es = oldest s (λ r. t r && (not (c r) && list_any (λ w. touches s r.foot w.0 && is_of (lineage s c w.0 (name_of s e) es) (last_of s r w.0)) e.foot.writes)) es
