use Rattle.std.proofs.Common.{◌≡◌, ◌++◌, drop}
use Rattle.code.specs.Frames.{all_placed, captured_names_of}
use Rattle.code_resolver.proofs.frame.place_all.Given as goal

-- the names so far and those that are left are all, and those so far are found
abbrev pub invariant-loop-name : goal.invariant-loop-name
invariant-loop-name l = record {
  names : captured_names_of l.captures.items ++ drop l.name-index l.names ≡ l.names;
  places : all_placed l.frame l.captures.items;
}
