-- The items of a journal: those that are settled, and those behind them.
use Rattle.std.specs.Prelude.{List}
use Rattle.journal.specs.Items.{Item}
use Rattle.journal.specs.SettledView.{items_in}
pub use Rattle.journal.specs.SettledView.{settled_item, items_in}
use Rattle.journal.specs.declared.journal.Journal.{Journal}

-- all items, the oldest first
abbrev pub items_of : Journal → List Item
items_of j = items_in j.settled.now j.entries.now
