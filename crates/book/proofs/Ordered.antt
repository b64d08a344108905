-- The live events of what is good had their turns in the order of messages.
use Rattle.std.proofs.Common.{List, map, refl}
use Rattle.std.proofs.Math.Logic.{∥∥₁_map}
use Rattle.history.specs.Subject.{Run, run_none, run_more}
use Rattle.history.specs.Journal.{Entry, live_set}
use Rattle.world_cells.specs.Events.{event_in}
use Rattle.world_cells.specs.World.{World, empty}
use Rattle.event.specs.Events.{events}
use Rattle.journal.specs.Lines.{plain, entries_in}
use Rattle.event_ordering.specs.Theorems.{InOrder}
use Rattle.event_ordering.proofs.Runs.{runs_in_order, own_names}
use Rattle.book.specs.Books.{Book}
use Rattle.book.specs.Good.{RunsWithCells, runs_none, runs_more, IsGood, live_events}

pub run_of : {es : List (Entry plain)} {w : World} → RunsWithCells es w → Run events empty (map (λ a. event_in a.event) es) w
run_of runs_none = run_none
run_of (runs_more r does foot) = run_more (run_of r) does.0

pub good_in_order : (b : Book) → IsGood b → InOrder (live_events b) b.world
good_in_order b g = runs_in_order (live_events b) b.world (∥∥₁_map g.footprints (λ r. run_of r)) (own_names plain event_in (λ e. refl) (live_set plain) (entries_in b.journal) g.distinct)
