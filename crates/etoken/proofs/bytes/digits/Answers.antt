use Rattle.std.proofs.Common.{sym, ap, ◌∙◌, subst, take, drop}
use Rattle.std.specs.Char.{is_ascii_digit}
use Rattle.std.specs.Str.{IsCharBoundary}
use Rattle.std.proofs.lemmas.List.Folds.{length-prefix_len}
use Rattle.etoken.proofs.Fronts.{ascii_front, digit_ascii, longest_cut}
use Rattle.etoken.proofs.bytes.digits.Goals as goal

pub split_at-requires : goal.split_at-requires
split_at-requires c =
    let count = c.digit_count.ensures ∙ length-prefix_len is_ascii_digit c.args.text.now in
    subst (IsCharBoundary c.args.text.now) (sym count) (ascii_front is_ascii_digit digit_ascii c.args.text.now c.utf8.text)

pub returns : goal.returns
returns c =
    let count = c.digit_count.ensures ∙ length-prefix_len is_ascii_digit c.args.text.now in
    longest_cut is_ascii_digit _ _ _ (c.split_at.ensures.front ∙ ap (λ n. take n c.args.text.now) count) (c.split_at.ensures.back ∙ ap (λ n. drop n c.args.text.now) count)
