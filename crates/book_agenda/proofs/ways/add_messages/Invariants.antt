use Rattle.std.proofs.Common.{◌≡◌, ◌++◌, map, take}
use Rattle.book_agenda.specs.declared.ways.Cue.TheVariants as cue
use Rattle.book_agenda.proofs.ways.add_messages.Given as goal

-- what was added so far
abbrev pub invariant-loop-name : goal.invariant-loop-name
invariant-loop-name l = l.cues.items ≡ l.initial.cues.items ++ map cue.Message (take l.name-index l.names)
