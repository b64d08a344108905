-- The invariant of a book.
use Rattle.std.specs.Prelude.{ℕ, ◌<◌, ◌≢◌, List, [], ◌∷◌}
use Rattle.std.specs.List.{AllByRecursion}
use Rattle.history.specs.Journal.{Free}
use Rattle.history.specs.Records.{Row, entries_of}
use Rattle.world_cells.specs.World.{empty}
use Rattle.event.specs.Events.{DoesNoted, noted_events}
use Rattle.desk.specs.Desks.{Lent}
use Rattle.undo.specs.Standing.{CoreStands}
use Rattle.undo.specs.declared.undoing.Core.{Core}

-- no two tickets that are out have one number, or are of one vat
abbrev pub Apart : List Lent → Type 0
Apart [] = Unit {0}
Apart (t ∷ out) = AllByRecursion (λ u. (u.number.0 ≢ t.number.0) × (u.vat.0.0 ≢ t.vat.0.0)) out × Apart out

-- rows stand with the core, from the empty world; the numbers of tickets that are out were drawn, and no row has them or names them as causes
pub record Kept (core : Core) (next : ℕ) (out : List Lent) : Type 0 where
  pub rows : List (Row noted_events)
  pub stands : CoreStands DoesNoted empty next rows core
  pub free : AllByRecursion (λ t. Free noted_events t.number.0 (entries_of rows)) out
  pub drawn : AllByRecursion (λ t. t.number.0 < next) out
  pub apart : Apart out

-- THE INVARIANT
abbrev pub Stands : Core → ℕ → List Lent → Type 0
Stands core next out = ∥ Kept core next out ∥₁
