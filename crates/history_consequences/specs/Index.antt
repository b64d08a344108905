-- The index of consequences: who touched what an entry wrote last.
use Rattle.std.specs.Prelude.{◌≡◌, ℕ, Bool, false, cond, ◌&&◌, ◌||◌, ◌==◌, not, List, Option, Some}
use Rattle.std.specs.List.{list_any, AllByRecursion}
use Rattle.history.specs.Subject.{Subject, touches}
use Rattle.history.specs.Journal.{Entry, name_of}
use Rattle.history.specs.Chains.{wrote, last_of, is_name}
use Rattle.history_consequences.specs.Versions.{Version, found_as, follows_by, by_reading}

-- names that are listed, by entries and by cells
pub record Lists (s : Subject) : Type 0 where
  -- the entry of the first name lists the second
  pub at : ℕ → ℕ → Bool
  -- the cell lists the name
  pub of : s.Key → ℕ → Bool

-- Entries are open, which can still be taken back, or of the base. An open entry lists heirs and readers, and so does a cell of those
-- that touched it as the base left it
pub record Index (s : Subject) : Type 0 where
  pub heirs : Lists s
  pub readers : Lists s

-- the entry of a name is one of these and passes a test
abbrev pub passes : (s : Subject) → (Entry s → Bool) → ℕ → List (Entry s) → Bool
passes s test n es = list_any (λ r. (name_of s r == n) && test r) es

-- a writer is one of these
abbrev pub is_among : (s : Subject) → Option ℕ → List (Entry s) → Bool
is_among s o es = list_any (λ b. is_name o (name_of s b)) es

-- an entry touched the cell as the base left it: no open entry was its last writer
abbrev pub from_base : (s : Subject) → List (Entry s) → s.Key → Entry s → Bool
from_base s opens k r = touches s r.foot k && not (is_among s (last_of s r k) opens)

-- each open entry lists just those that follow it by a cell of this kind, and each cell those that touched it so as the base left it
pub record AreRight (s : Subject) (kind : s.Key → Entry s → Bool) (names : Lists s) (opens : List (Entry s)) : Type 0 where
  pub at : AllByRecursion (λ w. (n : ℕ) → names.at (name_of s w) n ≡ passes s (follows_by s kind (name_of s w)) n opens) opens
  pub of : (k : s.Key) (n : ℕ) → names.of k n ≡ passes s (λ r. from_base s opens k r && kind k r) n opens

-- THE INVARIANT: each open entry lists those that touched what it wrote last, among its heirs if they wrote it too, else among its
-- readers; each cell lists so those that touched it as the base left it; and nothing else is listed
pub record Indexed (s : Subject) (index : Index s) (opens : List (Entry s)) : Type 0 where
  pub heirs : AreRight s (wrote s) index.heirs opens
  pub readers : AreRight s (by_reading s) index.readers opens

-- an entry is put in front: it lists nothing, each open entry that it follows lists it, and so does each cell that it touched as the
-- base left it
pub record Adds (s : Subject) (kind : s.Key → Entry s → Bool) (old new : Lists s) (e : Entry s) (opens : List (Entry s)) : Type 0 where
  pub none : (n : ℕ) → new.at (name_of s e) n ≡ false
  pub at : AllByRecursion (λ w. (n : ℕ) → new.at (name_of s w) n ≡ (((name_of s e == n) && follows_by s kind (name_of s w) e) || old.at (name_of s w) n)) opens
  pub of : (k : s.Key) (n : ℕ) → new.of k n ≡ (((name_of s e == n) && (from_base s opens k e && kind k e)) || old.of k n)

-- so it is with heirs and with readers
pub record Links (s : Subject) (old new : Index s) (e : Entry s) (opens : List (Entry s)) : Type 0 where
  pub heirs : Adds s (wrote s) old.heirs new.heirs e opens
  pub readers : Adds s (by_reading s) old.readers new.readers e opens

-- the oldest open entries go over to the base: what stays open lists what it listed, and a cell lists those left of what it listed,
-- and those left that one of the settled lists and that touched it as that one left it
pub record Hands (s : Subject) (kind : s.Key → Entry s → Bool) (old new : Lists s) (opens settled : List (Entry s)) : Type 0 where
  pub at : AllByRecursion (λ w. (n : ℕ) → new.at (name_of s w) n ≡ old.at (name_of s w) n) opens
  pub of : (k : s.Key) (n : ℕ) → new.of k n ≡
      ((old.of k n && not (list_any (λ a. name_of s a == n) settled))
      || list_any (λ w. old.at (name_of s w) n && passes s (λ r. found_as s (k, Some (name_of s w)) r && kind k r) n opens) settled)

-- so it is with heirs and with readers
pub record Settles (s : Subject) (old new : Index s) (opens settled : List (Entry s)) : Type 0 where
  pub heirs : Hands s (wrote s) old.heirs new.heirs opens settled
  pub readers : Hands s (by_reading s) old.readers new.readers opens settled

-- an open entry lists another
abbrev pub lists : (s : Subject) → Index s → Entry s → Entry s → Bool
lists s index w r = index.heirs.at (name_of s w) (name_of s r) || index.readers.at (name_of s w) (name_of s r)

-- a name is listed at a version: by the open entry that left it so, or else by the cell
abbrev pub listed_at : (s : Subject) → Lists s → List (Entry s) → Version s → ℕ → Bool
listed_at s names opens v n = cond (is_among s v.1 opens) (list_any (λ w. is_name v.1 (name_of s w) && names.at (name_of s w) n) opens) (names.of v.0 n)
