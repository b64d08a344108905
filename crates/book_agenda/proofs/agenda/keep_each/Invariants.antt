use Rattle.std.proofs.Common.{take}
use Rattle.book_agenda.specs.AgendaView.{KeepsEach}
use Rattle.book_agenda.proofs.agenda.keep_each.Given as goal

-- it is noted so far
abbrev pub invariant-loop-cue : goal.invariant-loop-cue
invariant-loop-cue l = KeepsEach l.message (take l.cue-index l.cues) l.stays l.initial.watchers l.watchers
