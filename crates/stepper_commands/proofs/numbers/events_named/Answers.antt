use Rattle.std.proofs.Common.{◌≡◌, ◌==◌, ap, ◌∙◌, false, arith, rules, length, drop}
use Rattle.std.specs.List.{position_or_len}
use Rattle.stepper_commands.specs.Words.{is_blank, is_bare}
use Rattle.stepper_commands.proofs.Wording.{blanks_gone, named_first, named_more, named_not, shorter_behind}
use Rattle.stepper_commands.proofs.numbers.events_named.Goals as goal

pub words-init : goal.words-init
words-init c = record {
  named = named_first c.args.words.now c.skip_blanks-rest.result.now _ c.new-events.ensures.items c.skip_blanks-rest.ensures;
  begins = ap is_bare c.skip_blanks-rest.ensures ∙ blanks_gone c.args.words.now;
  text = search rules;
}

pub words-preserved : goal.words-preserved
words-preserved c =
    let rest = c.words.rest.now in
    let more : (length rest == 0) ≡ false = grind (arith, c.is_empty.ensures, c.words-test.true) in
    record {
      named = named_more c.args.words.now rest _ _ c.words.events.items _ c.in-Some.event c.words.invariant.begins more c.cut_word.ensures.word c.cut_word.ensures.rest
          c.in-Some.ensures c.in_ok-push.ensures.items c.words.invariant.named;
      begins = ap is_bare c.cut_word.ensures.rest ∙ blanks_gone (drop (position_or_len is_blank rest) rest);
      text = search rules;
    }

pub words-smaller : goal.words-smaller
words-smaller c =
    let rest = c.words.rest.now in
    let more : (length rest == 0) ≡ false = grind (arith, c.is_empty.ensures, c.words-test.true) in
    omega (arith, shorter_behind rest c.words.invariant.begins more, ap (λ r. length r) c.cut_word.ensures.rest)

pub returns-in_default : goal.returns-in_default
returns-in_default c =
    let rest = c.words.rest.now in
    let more : (length rest == 0) ≡ false = grind (arith, c.is_empty.ensures, c.words-test.true) in
    named_not c.args.words.now rest _ c.words.events.items c.words.invariant.begins more c.cut_word.ensures.word c.in_default.ensures c.words.invariant.named

pub returns : goal.returns
returns c = search rules
