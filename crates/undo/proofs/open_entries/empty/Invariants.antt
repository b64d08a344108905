use Rattle.std.proofs.Common.{◌≡◌, true, length, take, drop}
use Rattle.std.specs.List.{list_all}
use Rattle.undo.specs.Emptied.{is_emptied}
use Rattle.undo.proofs.open_entries.empty.Given as goal

abbrev pub invariant-loop-place : goal.invariant-loop-place
invariant-loop-place l = record {
  light : list_all is_emptied (take l.place l.all.items) ≡ true;
  behind : drop l.to l.all.items ≡ drop l.to l.fn.all.items;
  count : length l.all.items ≡ length l.fn.all.items;
}
