use Rattle.std.proofs.Common.{◌≡◌, ◌==◌, ap, ◌∙◌, false, true, arith, rules, length, drop}
use Rattle.std.specs.List.{position_or_len}
use Rattle.stepper_commands.specs.Words.{is_blank, is_bare, words_in}
use Rattle.stepper_commands.specs.Commands.{is_among}
use Rattle.stepper_commands.proofs.Wording.{blanks_gone, words_behind_blanks}
use Rattle.stepper_commands.proofs.Vats.{among_not, among_here}
use Rattle.stepper_commands.proofs.command.is_among.Goals as goal

pub words-init : goal.words-init
words-init c = record {
  among = ap (λ ws. is_among ws c.args.word.now) (ap words_in c.skip_blanks-rest.ensures ∙ words_behind_blanks c.args.text.now);
  begins = ap is_bare c.skip_blanks-rest.ensures ∙ blanks_gone c.args.text.now;
  text = search rules;
}

pub words-preserved : goal.words-preserved
words-preserved c =
    let rest = c.words.rest.now in
    let more : (length rest == 0) ≡ false = grind (arith, c.is_empty.ensures, c.words-test.true) in
    record {
      among = among_not rest c.cut_word.result.0.now c.cut_word.result.1.now c.words.invariant.begins more c.cut_word.ensures.word c.cut_word.ensures.rest c.args.word.now _ c.if-eq.ensures c.words.invariant.among;
      begins = ap is_bare c.cut_word.ensures.rest ∙ blanks_gone (drop (position_or_len is_blank rest) rest);
      text = search rules;
    }

pub returns-then-eq : goal.returns-then-eq
returns-then-eq c =
    let rest = c.words.rest.now in
    let more : (length rest == 0) ≡ false = grind (arith, c.is_empty.ensures, c.words-test.true) in
    among_here rest c.cut_word.result.0.now c.cut_word.result.1.now c.words.invariant.begins more c.cut_word.ensures.word c.cut_word.ensures.rest c.args.word.now _ c.if-eq.ensures c.words.invariant.among
