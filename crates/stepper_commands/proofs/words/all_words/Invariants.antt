use denote.Shadow.{shadow}
use denote.Text.{Utf8}
use Rattle.std.proofs.Common.{◌≡◌, ◌++◌, length, map, true}
use Rattle.stepper_commands.specs.Words.{is_bare, words_in}
use Rattle.stepper_commands.proofs.words.all_words.Given as goal

-- the words so far, and then those that are left
abbrev pub invariant-words : goal.invariant-words
invariant-words l = record {
  all : map (λ w. w.now) l.words.items ++ words_in l.rest ≡ words_in l.fn.text;
  begins : is_bare l.rest ≡ true;
  text : shadow (Utf8 l.rest);
}

abbrev pub decreases-words : goal.decreases-words
decreases-words l = length l.rest
