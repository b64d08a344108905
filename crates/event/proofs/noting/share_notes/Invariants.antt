use Rattle.std.proofs.Common.{◌≡◌, map, take}
use Rattle.eval_rules.specs.OutboxView.{note_of}
use Rattle.event.proofs.noting.share_notes.Given as goal

abbrev pub invariant-loop-note : goal.invariant-loop-note
invariant-loop-note l = map note_of l.all.items ≡ map note_of (take l.note-index l.notes)
