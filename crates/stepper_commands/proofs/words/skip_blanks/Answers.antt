use Rattle.std.proofs.Common.{subst, sym, ap, ◌∙◌, not, rules}
use Rattle.std.specs.Str.{IsCharBoundary}
use Rattle.std.specs.List.{position_or_len}
use Rattle.stepper_commands.specs.Words.{is_blank}
use Rattle.stepper_commands.proofs.Boundaries.{blanks_boundary}
use Rattle.stepper_commands.proofs.words.skip_blanks.Goals as goal

pub split_at-requires : goal.split_at-requires
split_at-requires c = subst (IsCharBoundary c.args.text.now) (sym (c.blanks_end.ensures ∙ ap (position_or_len (λ b. not (is_blank b))) c.as_bytes.ensures.value)) (blanks_boundary c.args.text.now c.utf8.text)

pub returns : goal.returns
returns c = search rules
