-- What grows where it stands.
use Rattle.std.specs.Prelude.{◌≡◌, ℕ, Bool, true, false, cond, is_some, Option, Some, None, List, ◌++◌, codes}
use Rattle.std.specs.Str.{bytes_eq}
use Rattle.std.specs.declared.sync.Arc.{Arc}
use Rattle.std.specs.declared.alloc.Global.{Global}
use Rattle.values.specs.Data.{Val, list, text, Vals, no_vals, and_val, Reply, gives}
use Rattle.values.specs.Replies.{items_in, text_in, joined, list_reply, text_reply}
use Rattle.values.specs.View.{val_of}
use Rattle.values.specs.declared.value.Value.{Value}

-- the items that a verb with one argument adds to a list, if it adds any
abbrev pub items_added : List ℕ → Val → Option Vals
items_added verb v = cond (bytes_eq verb (codes "add")) (items_in v) (cond (bytes_eq verb (codes "with")) (Some (and_val v no_vals)) None)

-- the text that it adds to a text
abbrev pub text_added : List ℕ → Val → Option (List ℕ)
text_added verb v = cond (bytes_eq verb (codes "add")) (text_in v) None

-- whether it adds something to a value
abbrev pub adds_to : Val → List ℕ → Val → Bool
adds_to (list vs) verb v = is_some (items_added verb v)
adds_to (text s) verb v = is_some (text_added verb v)
adds_to _ verb v = false

-- a value is what a reply gives, where it grew; else it is as it was
abbrev pub Grown : Bool → Value → Reply → Value → Type 0
Grown true old reply new = reply ≡ gives (val_of new)
Grown false old reply new = new ≡ old

-- the same of a list with more items, and of a text with more text
abbrev pub ListGrown : Bool → Arc Vals Global → Vals → Arc Vals Global → Type 0
ListGrown true old more new = list_reply (joined old.value more) ≡ gives (list new.value)
ListGrown false old more new = new ≡ old

abbrev pub TextGrown : Bool → List ℕ → List ℕ → List ℕ → Type 0
TextGrown true old more new = text_reply (old ++ more) ≡ gives (text new)
TextGrown false old more new = new ≡ old
