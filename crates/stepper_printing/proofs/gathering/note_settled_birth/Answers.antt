use Rattle.std.proofs.Common.{◌≡◌, Some, rules, ◌∙◌}
use Rattle.stepper_printing.specs.Show.{name_of}
use Rattle.stepper_printing.proofs.EventNames.{born_after, settled_born}
use Rattle.stepper_printing.proofs.gathering.note_settled_birth.Goals as goal

pub returns-in_ok-insert-in-Some : goal.returns-in_ok-insert-in-Some
returns-in_ok-insert-in-Some c = λ v.
    let s = c.args.settled.now in
    let old = name_of c.args.vats.now.entries v in
    let put : name_of c.insert.new.self.entries v ≡ born_after v s.name (Some c.in-Some.name) old = search rules in
    put ∙ settled_born v s (Some c.in-Some.name) old c.in-Some.is

pub returns-in-None : goal.returns-in-None
returns-in-None c = λ v. settled_born v c.args.settled.now _ (name_of c.args.vats.now.entries v) c.in-None.is
