use Rattle.std.proofs.Common.{◌≡◌, ◌∙◌, ◌&&◌, Bool, ap, false, not, sym}
use Rattle.std.specs.Char.{is_ascii_digit}
use Rattle.std.specs.List.{list_all}
use Rattle.stepper_commands.specs.Numbers.{is_numeral}
use Rattle.stepper_commands.proofs.numbers.is_numeral.Goals as goal

pub returns-then-not-is_empty : goal.returns-then-not-is_empty
returns-then-not-is_empty c =
    let some : list_all is_ascii_digit c.args.word.now ≡ is_numeral c.args.word.now =
    ap (λ (b : Bool). not b && list_all is_ascii_digit c.args.word.now) (sym c.if-not-is_empty.true ∙ c.is_empty.ensures) in
    cc

pub returns-else-not-is_empty : goal.returns-else-not-is_empty
returns-else-not-is_empty c =
    let none : false ≡ is_numeral c.args.word.now =
    ap (λ (b : Bool). not b && list_all is_ascii_digit c.args.word.now) (sym c.if-not-is_empty.false ∙ c.is_empty.ensures) in
    ap not c.if-not-is_empty.false ∙ none
