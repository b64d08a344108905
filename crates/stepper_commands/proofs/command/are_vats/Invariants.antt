use denote.Shadow.{shadow}
use denote.Text.{Utf8}
use Rattle.std.proofs.Common.{◌≡◌, length, true}
use Rattle.stepper_commands.specs.Words.{is_bare, words_in}
use Rattle.stepper_commands.specs.Commands.{are_vats}
use Rattle.stepper_commands.proofs.command.are_vats.Given as goal

-- the words that are left decide
abbrev pub invariant-words : goal.invariant-words
invariant-words l = record {
  vats : are_vats (words_in l.rest) ≡ are_vats (words_in l.fn.text);
  begins : is_bare l.rest ≡ true;
  text : shadow (Utf8 l.rest);
}

abbrev pub decreases-words : goal.decreases-words
decreases-words l = length l.rest
