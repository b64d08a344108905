-- What the program's values stand for.
use Rattle.std.specs.Prelude.{ℕ, List, [], ◌∷◌, codes}
use Rattle.values.specs.Data.{Val, null, bool, int, text, list, object, ejector, promise, broken, Vals, no_vals, and_val, Reply, gives, throws}
use Rattle.values.specs.Replies.{no_method, wrong_kind}
use Rattle.values.specs.declared.integers.IntReply.{IntReply}
use Rattle.values.specs.declared.integers.IntReply.TheVariants as int-reply
use Rattle.values.specs.declared.value.Value.TheVariants as code
use Rattle.values.specs.declared.value.Value.{Value}
use Rattle.values.specs.declared.value.Answer.{Answer}
use Rattle.values.specs.declared.value.Answer.TheVariants as answer

abbrev pub val_of : Value → Val
val_of code.Null = null
val_of (code.Bool b) = bool b
val_of (code.Int z) = int z
val_of (code.Text s) = text s
val_of (code.List items) = list items.value
val_of (code.Object o) = object o
val_of (code.Ejector j) = ejector j
val_of (code.Promise p) = promise p
val_of (code.Broken s) = broken s

-- items of a list, or arguments
abbrev pub vals_of : List Value → Vals
vals_of [] = no_vals
vals_of (v ∷ vs) = and_val (val_of v) (vals_of vs)

abbrev pub reply_of : Answer → Reply
reply_of (answer.Gives v) = gives (val_of v)
reply_of (answer.Throws p) = throws p

-- what an integer leads to with one argument
abbrev pub int_reply : IntReply → List ℕ → Val → Reply
int_reply (int-reply.Integer z) verb v = gives (int z)
int_reply (int-reply.Truth b) verb v = gives (bool b)
int_reply int-reply.TooLarge verb v = throws (codes "integer too large")
int_reply int-reply.DivisionByZero verb v = throws (codes "division by zero")
int_reply int-reply.WrongArgument verb v = wrong_kind v
int_reply int-reply.NoMethod verb v = no_method verb (and_val v no_vals)
