-- The laws of what is found from last writers, and of the index.
use Rattle.std.specs.Prelude.{◌≡◌, ◌&&◌, ℕ, Bool, true, false, cond, not, List, [], ◌∷◌, ◌++◌, Some, None}
use Rattle.std.specs.List.{list_any, AllByRecursion}
use Rattle.history.specs.Subject.{Subject, World}
use Rattle.history.specs.Journal.{Entry, name_of, is_in, caused, live_set, both, marked, Sound, Closed}
use Rattle.history.specs.Records.{State, Row, entries_of}
use Rattle.history.specs.Chains.{wrote, last_of, last_writer, chain}
use Rattle.history.specs.Stands.{Stands}
use Rattle.history.specs.Cone.{in_cone}
use Rattle.history_consequences.specs.Orderly.{Orderly}
use Rattle.history_consequences.specs.Versions.{Version, follows, found_as, wrote_over, overtakes}
use Rattle.history_consequences.specs.Sets.{Unfollowed, Gathered, HasLastWriters, MissesNone, CrossesNone}
use Rattle.history_consequences.specs.Refusals.{first_pair, missing, lacking, lacked, crossed, overtaken, consequence, lineage, outsider}
use Rattle.history_consequences.specs.Index.{Index, Indexed, Links, Settles, is_among, from_base, listed_at, lists}

-- the entries of a journal that stands are in order
abbrev pub StandingIsOrderly : Subject → Type 0
StandingIsOrderly s = (start : World s) (next : ℕ) (rows : List (Row s)) (state : State s) → Stands s start next rows state → Orderly s (entries_of rows)

-- the last writers of the cells that an entry touched are causes of it
abbrev pub LastWritersAreCauses : Subject → Type 0
LastWritersAreCauses s = (es : List (Entry s)) → Orderly s es →
    AllByRecursion (λ e. AllByRecursion (λ a. follows s (name_of s a) e ≡ true → caused s e a ≡ true) es) es

-- a set is sound just where each member has its last writers
abbrev pub SoundIsLast : Subject → Type 0
SoundIsLast s = (es : List (Entry s)) → Orderly s es → (t : Entry s → Bool) →
    (Sound s t es → HasLastWriters s t es) × (HasLastWriters s t es → Sound s t es)

-- a set is closed just where no live entry outside it follows a member
abbrev pub ClosedIsUnfollowed : Subject → Type 0
ClosedIsUnfollowed s = (es : List (Entry s)) → Orderly s es → (c : Entry s → Bool) →
    (Closed s (live_set s) c es → Unfollowed s (live_set s) c es) ×
    (Unfollowed s (live_set s) c es → Closed s (live_set s) c es)

-- the cone of an entry is gathered from it by following, and nothing live outside follows it; no other set is so
abbrev pub ConeIsGathered : Subject → Type 0
ConeIsGathered s = (es : List (Entry s)) → Orderly s es → (root : ℕ) →
    Gathered s (live_set s) (in_cone s (live_set s) root es) root es × Unfollowed s (live_set s) (in_cone s (live_set s) root es) es ×
    ((c : Entry s → Bool) → Gathered s (live_set s) c root es → Unfollowed s (live_set s) c es → AllByRecursion (λ e. c e ≡ in_cone s (live_set s) root es e) es)

-- the first live entry outside a set that comes of a live one is found along the heirs, inside the set, of what that one wrote
abbrev pub FirstOutsider : Subject → Type 0
FirstOutsider s = (es : List (Entry s)) → Orderly s es → (c : Entry s → Bool) →
    AllByRecursion (λ e. e.live ≡ true → consequence s (live_set s) c e es ≡ outsider s (live_set s) c e es) es

-- an entry is of the line of a member just where the member is met walking back from it, as long as members are met
abbrev pub LineIsWalkedBack : Subject → Type 0
LineIsWalkedBack s = (es : List (Entry s)) → Orderly s es → (c : Entry s → Bool) (k : s.Key) →
    AllByRecursion (λ e. c e ≡ true → AllByRecursion (λ h. wrote s k h ≡ true →
    is_in (lineage s c k (name_of s e) es) (name_of s h) ≡ is_in (lacking s (λ a. not (c a)) k (Some (name_of s h)) es) (name_of s e)) es) es

-- what is live is sound together with a set just where the last writers of its members are there, and nobody stands behind one that
-- wrote over what it found, where one of the two is of the set
abbrev pub RedoIsExact : Subject → Type 0
RedoIsExact s = (es : List (Entry s)) → Orderly s es → (c : Entry s → Bool) →
    (Sound s (both (live_set s) c) es → MissesNone s (both (live_set s) c) c es × CrossesNone s (both (live_set s) c) c es) ×
    (MissesNone s (both (live_set s) c) c es × CrossesNone s (both (live_set s) c) c es → Sound s (both (live_set s) c) es)

-- of what is live together with a set: the first member of which a cause is missing, and the first such cause, are met by walking back
-- from the last writers of the set's members; where nothing is met, their last writers are there
abbrev pub FirstMissing : Subject → Type 0
FirstMissing s = (es : List (Entry s)) → Orderly s es → (c : Entry s → Bool) →
    (first_pair s (λ e es. cond (both (live_set s) c e) (missing s (both (live_set s) c) e es) None) es
    ≡ first_pair s (λ e es. cond (c e) (lacked s (both (live_set s) c) e es) None) es) ×
    (first_pair s (λ e es. cond (c e) (lacked s (both (live_set s) c) e es) None) es ≡ None → MissesNone s (both (live_set s) c) c es)

-- and where the last writers are there: the first member that crosses another, and the first that it crosses, are the first that found
-- what another one before it wrote over, where one of the two is of the set, and the first such one
abbrev pub FirstCrossing : Subject → Type 0
FirstCrossing s = (es : List (Entry s)) → Orderly s es → (c : Entry s → Bool) →
    MissesNone s (both (live_set s) c) c es →
    first_pair s (λ e es. cond (both (live_set s) c e) (crossed s (both (live_set s) c) e es) None) es
    ≡ first_pair s (λ e es. cond (both (live_set s) c e) (overtaken s (both (live_set s) c) c e es) None) es

-- where no cell lists a name, the index is right for no entries
abbrev pub IndexBegins : Subject → Type 0
IndexBegins s = (index : Index s) → ((k : s.Key) (n : ℕ) → (index.heirs.of k n ≡ false) × (index.readers.of k n ≡ false)) → Indexed s index []

-- it stays right when an entry is put in front and linked
abbrev pub IndexEnters : Subject → Type 0
IndexEnters s = (e : Entry s) (opens base : List (Entry s)) → Orderly s (e ∷ (opens ++ base)) → (old new : Index s) →
    Indexed s old opens → Links s old new e opens → Indexed s new (e ∷ opens)

-- when entries are undone or redone
abbrev pub IndexMarks : Subject → Type 0
IndexMarks s = (index : Index s) (t : Entry s → Bool) (opens : List (Entry s)) → Indexed s index opens → Indexed s index (marked s t opens)

-- when neighbours change places
abbrev pub IndexExchanges : Subject → Type 0
IndexExchanges s = (index : Index s) (xs ys : List (Entry s)) (a b : Entry s) → Indexed s index (xs ++ a ∷ b ∷ ys) → Indexed s index (xs ++ b ∷ a ∷ ys)

-- and when the oldest open entries go over to the base
abbrev pub IndexSettles : Subject → Type 0
IndexSettles s = (opens settled base : List (Entry s)) → Orderly s (opens ++ (settled ++ base)) → (old new : Index s) →
    Indexed s old (opens ++ settled) → Settles s old new opens settled → Indexed s new opens

-- an open entry lists just those that follow it
abbrev pub ListsFollowers : Subject → Type 0
ListsFollowers s = (opens base : List (Entry s)) → Orderly s (opens ++ base) → (index : Index s) →
    Indexed s index opens →
    AllByRecursion (λ w. AllByRecursion (λ r. lists s index w r ≡ follows s (name_of s w) r) (opens ++ base)) opens

-- so a set of open entries is closed just where no member lists a live one outside it
abbrev pub ClosedIsUnlisted : Subject → Type 0
ClosedIsUnlisted s = (opens base : List (Entry s)) → Orderly s (opens ++ base) → (index : Index s) (c : Entry s → Bool) →
    Indexed s index opens → AllByRecursion (λ a. c a ≡ false) base →
    (Closed s (live_set s) c (opens ++ base) → AllByRecursion (λ a. c a ≡ true → AllByRecursion (λ r. r.live ≡ true → c r ≡ false → lists s index a r ≡ false) opens) opens) ×
    (AllByRecursion (λ a. c a ≡ true → AllByRecursion (λ r. r.live ≡ true → c r ≡ false → lists s index a r ≡ false) opens) opens → Closed s (live_set s) c (opens ++ base))

-- whoever of the open entries found a version is listed at it: among the heirs, or among the readers
abbrev pub VersionsAreListed : Subject → Type 0
VersionsAreListed s = (opens base : List (Entry s)) → Orderly s (opens ++ base) → (index : Index s) →
    Indexed s index opens → (v : Version s) →
    AllByRecursion (λ r. found_as s v r ≡ true → (wrote s v.0 r ≡ true → listed_at s index.heirs opens v (name_of s r) ≡ true) × (wrote s v.0 r ≡ false → listed_at s index.readers opens v (name_of s r) ≡ true)) opens

-- the base's last writer of a cell: what a live open entry found that touched it as the base left it; and where none of these wrote it,
-- the last writer of all
abbrev pub BaseIsSeen : Subject → Type 0
BaseIsSeen s = (opens base : List (Entry s)) → Orderly s (opens ++ base) → (k : s.Key) →
    AllByRecursion (λ r. r.live ≡ true → from_base s opens k r ≡ true → last_of s r k ≡ last_writer s k (live_set s) base) opens ×
    (AllByRecursion (λ r. r.live ≡ true → from_base s opens k r ≡ true → wrote s k r ≡ false) opens → last_writer s k (live_set s) (opens ++ base) ≡ last_writer s k (live_set s) base)

-- where all of the base is live: one of the base wrote over what an entry found just where the base has another last writer than the
-- entry found, which was no open one
abbrev pub BaseIsExact : Subject → Type 0
BaseIsExact s = (opens base : List (Entry s)) → Orderly s (opens ++ base) →
    AllByRecursion (λ a. a.live ≡ true) base →
    AllByRecursion (λ e. AllByRecursion (λ v. is_among s v.1 opens ≡ false →
    (list_any (wrote_over s v) base ≡ false → v.1 ≡ last_writer s v.0 (live_set s) base) × (v.1 ≡ last_writer s v.0 (live_set s) base → list_any (wrote_over s v) base ≡ false)) e.lasts) (opens ++ base)

-- in a sound set no two members wrote over one version
abbrev pub HeirsAreOne : Subject → Type 0
HeirsAreOne s = (es : List (Entry s)) → Orderly s es → (t : Entry s → Bool) → Sound s t es → (v : Version s) →
    AllByRecursion (λ f. AllByRecursion (λ g. t f ≡ true → t g ≡ true → wrote_over s v f ≡ true → wrote_over s v g ≡ true → f ≡ g) es) es

-- each member that wrote a cell is met walking back from the set's last writer of it
abbrev pub WritersAreOnChain : Subject → Type 0
WritersAreOnChain s = (es : List (Entry s)) → Orderly s es → (t : Entry s → Bool) → Sound s t es → (k : s.Key) →
    AllByRecursion (λ f. t f ≡ true → wrote s k f ≡ true → is_in (chain s k (last_writer s k t es) es) (name_of s f) ≡ true) es

-- whether one entry wrote over what another found is told by the versions of each of the two
abbrev pub OvertakingIsMutual : Subject → Type 0
OvertakingIsMutual s = (es : List (Entry s)) → Orderly s es →
    AllByRecursion (λ f. AllByRecursion (λ e. overtakes s f e ≡ list_any (λ v. wrote s v.0 f && found_as s v e) f.lasts) es) es
