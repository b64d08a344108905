use Rattle.std.proofs.Common.{subst, sym, ap, ◌∙◌, rules}
use Rattle.std.specs.Str.{IsCharBoundary}
use Rattle.std.specs.List.{position_or_len}
use Rattle.stepper_commands.specs.Words.{is_blank}
use Rattle.stepper_commands.proofs.Boundaries.{word_boundary}
use Rattle.stepper_commands.proofs.words.cut_word.Goals as goal

pub split_at-requires : goal.split_at-requires
split_at-requires c = subst (IsCharBoundary c.args.text.now) (sym (c.word_end.ensures ∙ ap (position_or_len is_blank) c.as_bytes.ensures.value)) (word_boundary c.args.text.now)

pub returns-clause-rest : goal.returns-clause-rest
returns-clause-rest c = search rules
