-- Versions of cells: a cell as its last writer left it, and the entries that touched it so.
use Rattle.std.specs.Prelude.{ℕ, Bool, true, false, ◌&&◌, ◌==◌, not, Option, Some, None}
use Rattle.std.specs.List.{list_any}
use Rattle.history.specs.Subject.{Subject, touches}
use Rattle.history.specs.Journal.{Entry}
use Rattle.history.specs.Chains.{wrote, last_of, is_name}

-- a cell, and who wrote it last; nobody did where nothing of it was ever written
abbrev pub Version : Subject → Type 0
Version s = s.Key × Option ℕ

-- two last writers are one
abbrev pub is_one : Option ℕ → Option ℕ → Bool
is_one None None = true
is_one None (Some n) = false
is_one (Some m) None = false
is_one (Some m) (Some n) = m == n

-- an entry touched the cell in this version
abbrev pub found_as : (s : Subject) → Version s → Entry s → Bool
found_as s v r = touches s r.foot v.0 && is_one (last_of s r v.0) v.1

-- it wrote over the version
abbrev pub wrote_over : (s : Subject) → Version s → Entry s → Bool
wrote_over s v r = found_as s v r && wrote s v.0 r

-- it follows the entry of a name, which was the last writer of a cell that it touched
abbrev pub follows : (s : Subject) → ℕ → Entry s → Bool
follows s n r = list_any (λ p. is_name p.1 n) r.lasts

-- it follows by a cell of a kind: as an heir by one that it wrote, as a reader by one that it did not write
abbrev pub follows_by : (s : Subject) → (s.Key → Entry s → Bool) → ℕ → Entry s → Bool
follows_by s kind n r = list_any (λ p. is_name p.1 n && kind p.0 r) r.lasts

abbrev pub by_reading : (s : Subject) → s.Key → Entry s → Bool
by_reading s k r = not (wrote s k r)

-- the first wrote over a version that the second found
abbrev pub overtakes : (s : Subject) → Entry s → Entry s → Bool
overtakes s f e = list_any (λ p. wrote_over s p f) e.lasts
