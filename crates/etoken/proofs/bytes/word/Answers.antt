use Rattle.std.proofs.Common.{sym, ap, ◌∙◌, subst, take, drop}
use Rattle.etoken.specs.Bytes.{is_word_byte}
use Rattle.std.specs.Str.{IsCharBoundary}
use Rattle.std.proofs.lemmas.List.Folds.{length-prefix_len}
use Rattle.etoken.proofs.Fronts.{ascii_front, word_ascii, longest_cut}
use Rattle.etoken.proofs.bytes.word.Goals as goal

pub split_at-requires : goal.split_at-requires
split_at-requires c =
    let count = c.word_len.ensures ∙ length-prefix_len is_word_byte c.args.text.now in
    subst (IsCharBoundary c.args.text.now) (sym count) (ascii_front is_word_byte word_ascii c.args.text.now c.utf8.text)

pub returns : goal.returns
returns c =
    let count = c.word_len.ensures ∙ length-prefix_len is_word_byte c.args.text.now in
    longest_cut is_word_byte _ _ _ (c.split_at.ensures.front ∙ ap (λ n. take n c.args.text.now) count) (c.split_at.ensures.back ∙ ap (λ n. drop n c.args.text.now) count)
