-- The items of settled entries, and of those behind them.
use Rattle.std.specs.Prelude.{true, List, ◌++◌, map}
use Rattle.journal.specs.Items.{Item, item_of}
use Rattle.journal.specs.declared.entry.Entry.{Entry}
use Rattle.journal.specs.declared.settled.Settled.{Settled}

-- the item that a settled entry was; it is live
abbrev pub settled_item : Settled → Item
settled_item s =
    let was = item_of s.was.value in
    record { event = record { name = s.name; act = was.event.act; notes = was.event.notes }; seat = s.seat; live = true; lasts = was.lasts; kept = was.kept }

abbrev pub items_in : List Settled → List Entry → List Item
items_in settled entries = map settled_item settled ++ map item_of entries
