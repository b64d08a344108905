use denote.Shadow.{shadow}
use denote.Text.{Utf8}
use Rattle.std.proofs.Common.{◌≡◌, length, true}
use Rattle.stepper_commands.specs.Words.{is_bare, words_in}
use Rattle.stepper_commands.specs.Commands.{is_among}
use Rattle.stepper_commands.proofs.command.is_among.Given as goal

-- the word is among those that are left where it is among all
abbrev pub invariant-words : goal.invariant-words
invariant-words l = record {
  among : is_among (words_in l.rest) l.word ≡ is_among (words_in l.fn.text) l.word;
  begins : is_bare l.rest ≡ true;
  text : shadow (Utf8 l.rest);
}

abbrev pub decreases-words : goal.decreases-words
decreases-words l = length l.rest
