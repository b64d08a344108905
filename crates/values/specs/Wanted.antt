-- Which verbs of data look at the datum that their argument leads to.
use Rattle.std.specs.Prelude.{Bool, true, false, Option, Some, None, List, ℕ}
use Rattle.values.specs.Data.{Val, int, text, list}
use Rattle.values.specs.Verbs.{word_of}
use Rattle.values.specs.declared.verb.Word.{Word}
use Rattle.values.specs.declared.verb.Word.TheVariants as word

-- of an integer, those with an argument
abbrev pub int_wants : Word → Bool
int_wants word.Negate = false
int_wants word.Not = false
int_wants word.Size = false
int_wants word.With = false
int_wants word.Get = false
int_wants _ = true

-- of a text, `add`
abbrev pub text_wants : Word → Bool
text_wants word.Add = true
text_wants _ = false

-- of a list, `add` and `get`; what `with` adds is not looked at
abbrev pub list_wants : Word → Bool
list_wants word.Add = true
list_wants word.Get = true
list_wants _ = false

abbrev pub word_wants : Val → Word → Bool
word_wants (int x) w = int_wants w
word_wants (text s) w = text_wants w
word_wants (list vs) w = list_wants w
word_wants _ w = false

abbrev pub wanting : Val → Option Word → Bool
wanting v None = false
wanting v (Some w) = word_wants v w

-- whether a verb with one argument looks at where that leads
abbrev pub wants_datum : Val → List ℕ → Bool
wants_datum v verb = wanting v (word_of verb)
