use denote.Shadow.{shadow}
use denote.Text.{Utf8}
use Rattle.std.proofs.Common.{◌≡◌, ◌++◌, length, true}
use Rattle.std.specs.Option.{option_map}
use Rattle.stepper_commands.specs.Words.{words_in}
use Rattle.stepper_commands.specs.Numbers.{events_named}
use Rattle.stepper_commands.specs.Words.{is_bare}
use Rattle.stepper_commands.proofs.numbers.events_named.Given as goal

-- the events so far, and then those of the words that are left
abbrev pub invariant-words : goal.invariant-words
invariant-words l = record {
  named : events_named (words_in l.fn.words) ≡ option_map (λ es. l.events.items ++ es) (events_named (words_in l.rest));
  begins : is_bare l.rest ≡ true;
  text : shadow (Utf8 l.rest);
}

abbrev pub decreases-words : goal.decreases-words
decreases-words l = length l.rest
