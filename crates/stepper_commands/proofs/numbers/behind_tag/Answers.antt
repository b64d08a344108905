use Rattle.std.proofs.lemmas.Str.Pattern.{strip_prefix_char}
use Rattle.stepper_commands.proofs.Numerals.{tag_is}
use Rattle.stepper_commands.proofs.numbers.behind_tag.Goals as goal

pub returns : goal.returns
returns c = tag_is c.args.tag c.args.word.now c.strip_prefix.result (strip_prefix_char c.args.tag c.args.word.now c.strip_prefix.result c.strip_prefix.ensures.cases c.requires)
