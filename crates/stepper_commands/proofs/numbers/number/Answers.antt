use Rattle.std.proofs.Common.{◌≡◌, ◌∙◌, rules, true}
use Rattle.std.specs.List.{list_all}
use Rattle.std.specs.Char.{is_ascii_digit}
use Rattle.std.proofs.lemmas.Str.Parse.{IsNumeralModel, numerals_by_fold, parse_digits}
use Rattle.stepper_commands.specs.Numbers.{numeral_from, is_numeral}
use Rattle.stepper_commands.proofs.Numerals.{number_is, all_digits_of}
use Rattle.stepper_commands.proofs.numbers.number.Goals as goal

own : IsNumeralModel (λ ds. list_all is_ascii_digit ds ≡ true) (numeral_from 0)
own = numerals_by_fold _ (search rules) numeral_from (search rules)

pub returns-then-is_numeral : goal.returns-then-is_numeral
returns-then-is_numeral c = let is_one : is_numeral c.args.word.now ≡ true = cc in c.ok.ensures.value ∙ number_is _ c.parse.result c.args.word.now (parse_digits own 32 c.args.word.now _ c.parse.ensures.value.0 (all_digits_of c.args.word.now is_one)) is_one
