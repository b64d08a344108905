use Rattle.std.proofs.Common.{sym}
use Rattle.stepper_printing.specs.Show.{name_of}
use Rattle.stepper_printing.proofs.EventNames.{not_born}
use Rattle.stepper_printing.proofs.gathering.note_birth.Goals as goal

pub returns-in_default : goal.returns-in_default
returns-in_default c = λ v. sym (not_born v c.args.event.now.name c.args.event.now.action (name_of c.args.vats.now.entries v) c.in_default.not-Birth)
