use denote.Shadow.{shadow}
use denote.Text.{Utf8}
use Rattle.std.proofs.Common.{◌≡◌, ◌==◌, length, true, false}
use Rattle.std.specs.Prelude.{is_some}
use Rattle.stepper_commands.specs.Words.{is_bare, words_in}
use Rattle.stepper_commands.specs.Numbers.{events_named}
use Rattle.stepper_commands.proofs.numbers.are_events.Given as goal

-- there is a word, and all name events where those that are left do
abbrev pub invariant-words : goal.invariant-words
invariant-words l = record {
  some : (length (words_in l.fn.words) == 0) ≡ false;
  named : is_some (events_named (words_in l.rest)) ≡ is_some (events_named (words_in l.fn.words));
  begins : is_bare l.rest ≡ true;
  text : shadow (Utf8 l.rest);
}

abbrev pub decreases-words : goal.decreases-words
decreases-words l = length l.rest
