use Rattle.std.proofs.Common.{◌≡◌, ◌==◌, ap, sym, ◌∙◌, false, true, arith, rules, length, drop}
use Rattle.std.specs.List.{position_or_len}
use Rattle.std.specs.Prelude.{is_some}
use Rattle.stepper_commands.specs.Words.{is_blank, is_bare, words_in}
use Rattle.stepper_commands.specs.Numbers.{events_named}
use Rattle.stepper_commands.proofs.Wording.{blanks_gone, words_behind_blanks}
use Rattle.stepper_commands.proofs.Events.{no_word, some_word, event_not, event_here, all_events}
use Rattle.stepper_commands.proofs.numbers.are_events.Goals as goal

pub returns-then-is_empty : goal.returns-then-is_empty
returns-then-is_empty c =
    let rest = c.skip_blanks-rest.result.now in
    let none : (length rest == 0) ≡ true = grind (arith, c.if-is_empty.ensures, c.if-is_empty.true) in
    no_word c.args.words.now rest none c.skip_blanks-rest.ensures

pub words-init : goal.words-init
words-init c =
    let rest = c.skip_blanks-rest.result.now in
    let more : (length rest == 0) ≡ false = grind (arith, c.if-is_empty.ensures, c.if-is_empty.false) in
    record {
      some = some_word c.args.words.now rest more c.skip_blanks-rest.ensures;
      named = ap (λ ws. is_some (events_named ws)) (ap words_in c.skip_blanks-rest.ensures ∙ words_behind_blanks c.args.words.now);
      begins = ap is_bare c.skip_blanks-rest.ensures ∙ blanks_gone c.args.words.now;
      text = search rules;
    }

pub returns-then-is_none : goal.returns-then-is_none
returns-then-is_none c =
    let rest = c.words.rest.now in
    let more : (length rest == 0) ≡ false = grind (arith, c.is_empty.ensures, c.words-test.true) in
    event_not c.args.words.now rest c.cut_word.result.0.now c.cut_word.result.1.now c.words.invariant.begins more c.cut_word.ensures.word c.cut_word.ensures.rest (ap is_some (sym c.event_named.ensures) ∙ c.if-is_none.ensures) c.words.invariant.some c.words.invariant.named

pub words-preserved : goal.words-preserved
words-preserved c =
    let rest = c.words.rest.now in
    let more : (length rest == 0) ≡ false = grind (arith, c.is_empty.ensures, c.words-test.true) in
    record {
      some = c.words.invariant.some;
      named = event_here rest c.cut_word.result.0.now c.cut_word.result.1.now c.words.invariant.begins more c.cut_word.ensures.word c.cut_word.ensures.rest (ap is_some (sym c.event_named.ensures) ∙ c.if-is_none.ensures) ∙ c.words.invariant.named;
      begins = ap is_bare c.cut_word.ensures.rest ∙ blanks_gone (drop (position_or_len is_blank rest) rest);
      text = search rules;
    }

pub returns : goal.returns
returns c =
    let rest = c.words.rest.now in
    let end : (length rest == 0) ≡ true = grind (arith, c.is_empty.ensures, c.words-test.false) in
    all_events c.args.words.now rest end c.words.invariant.some c.words.invariant.named
