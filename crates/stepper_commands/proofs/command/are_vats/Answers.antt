use Rattle.std.proofs.Common.{◌≡◌, ◌==◌, ap, ◌∙◌, false, true, arith, rules, length, drop}
use Rattle.std.specs.List.{position_or_len}
use Rattle.stepper_commands.specs.Words.{is_blank, is_bare, words_in}
use Rattle.stepper_commands.specs.Commands.{are_vats}
use Rattle.stepper_commands.proofs.Wording.{blanks_gone, words_behind_blanks}
use Rattle.stepper_commands.proofs.Vats.{no_vat, vat_twice, vat_once}
use Rattle.stepper_commands.proofs.command.are_vats.Goals as goal

pub words-init : goal.words-init
words-init c = record {
  vats = ap are_vats (ap words_in c.skip_blanks-rest.ensures ∙ words_behind_blanks c.args.text.now);
  begins = ap is_bare c.skip_blanks-rest.ensures ∙ blanks_gone c.args.text.now;
  text = search rules;
}

pub returns-then-not-is_vat_name : goal.returns-then-not-is_vat_name
returns-then-not-is_vat_name c =
    let rest = c.words.rest.now in
    let more : (length rest == 0) ≡ false = grind (arith, c.is_empty.ensures, c.words-test.true) in
    no_vat rest c.cut_word.result.0.now c.cut_word.result.1.now c.words.invariant.begins more c.cut_word.ensures.word c.cut_word.ensures.rest _ c.if-not-is_vat_name.ensures c.words.invariant.vats

pub returns-then-is_among : goal.returns-then-is_among
returns-then-is_among c =
    let rest = c.words.rest.now in
    let more : (length rest == 0) ≡ false = grind (arith, c.is_empty.ensures, c.words-test.true) in
    vat_twice rest c.cut_word.result.0.now c.cut_word.result.1.now c.words.invariant.begins more c.cut_word.ensures.word c.cut_word.ensures.rest _ c.if-not-is_vat_name.ensures c.if-is_among.ensures c.words.invariant.vats

pub words-preserved : goal.words-preserved
words-preserved c =
    let rest = c.words.rest.now in
    let more : (length rest == 0) ≡ false = grind (arith, c.is_empty.ensures, c.words-test.true) in
    record {
      vats = vat_once rest c.cut_word.result.0.now c.cut_word.result.1.now c.words.invariant.begins more c.cut_word.ensures.word c.cut_word.ensures.rest _ c.if-not-is_vat_name.ensures c.if-is_among.ensures c.words.invariant.vats;
      begins = ap is_bare c.cut_word.ensures.rest ∙ blanks_gone (drop (position_or_len is_blank rest) rest);
      text = search rules;
    }
