use Rattle.std.proofs.Common.{◌≡◌, ◌++◌, take}
use Rattle.cells.specs.Touches.{touched_list, touched_count}
use Rattle.event.specs.Entries.{entries_in, keys_in}
use Rattle.event.proofs.left.add_keys.Given as goal

-- the keys of the cells up to the place are added
abbrev pub invariant-loop-place : goal.invariant-loop-place
invariant-loop-place g l = record {
  count : l.place-end ≡ touched_count l.touches;
  keys : l.keys.items ≡ l.initial.keys.items ++ keys_in l.vat (entries_in g.K.VatKey.cell g.K.VatKey.content (take l.place (touched_list l.touches)));
}
