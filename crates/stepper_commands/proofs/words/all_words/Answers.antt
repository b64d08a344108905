use Rattle.std.proofs.Common.{◌≡◌, ◌==◌, ap, ◌∙◌, true, false, arith, rules, length, drop}
use Rattle.std.specs.List.{position_or_len}
use Rattle.stepper_commands.specs.Words.{is_blank, is_bare}
use Rattle.stepper_commands.proofs.Wording.{blanks_gone, shorter_behind, all_first, all_more, all_done}
use Rattle.stepper_commands.proofs.words.all_words.Goals as goal

pub words-init : goal.words-init
words-init c = record {
  all = all_first c.args.text.now c.skip_blanks-rest.result.now c.new-words.result.items c.new-words.ensures.items c.skip_blanks-rest.ensures;
  begins = ap is_bare c.skip_blanks-rest.ensures ∙ blanks_gone c.args.text.now;
  text = search rules;
}

pub words-preserved : goal.words-preserved
words-preserved c =
    let rest = c.words.rest.now in
    let more : (length rest == 0) ≡ false = grind (arith, c.is_empty.ensures, c.words-test.true) in
    record {
      all = all_more c.args.text.now rest c.cut_word.result.0 c.cut_word.result.1.now c.words.words.items _ c.words.invariant.begins more c.cut_word.ensures.word c.cut_word.ensures.rest c.in_ok-push.ensures.items c.words.invariant.all;
      begins = ap is_bare c.cut_word.ensures.rest ∙ blanks_gone (drop (position_or_len is_blank rest) rest);
      text = search rules;
    }

pub words-smaller : goal.words-smaller
words-smaller c =
    let rest = c.words.rest.now in
    let more : (length rest == 0) ≡ false = grind (arith, c.is_empty.ensures, c.words-test.true) in
    omega (arith, shorter_behind rest c.words.invariant.begins more, ap (λ r. length r) c.cut_word.ensures.rest)

pub returns : goal.returns
returns c =
    let rest = c.words.rest.now in
    let end : (length rest == 0) ≡ true = grind (arith, c.is_empty.ensures, c.words-test.false) in
    all_done c.args.text.now rest c.words.words.items end c.words.invariant.all
