use Rattle.std.proofs.Common.{◌&&◌, ◌∙◌, Bool, ap, length, nat_le, sym}
use Rattle.stepper_commands.proofs.command.is_vat_name.Goals as goal

pub returns-then-is_name : goal.returns-then-is_name
returns-then-is_name c = ap (λ (b : Bool). b && nat_le (length c.args.word.now) 64) (sym c.if-is_name.true ∙ c.is_name.ensures)
