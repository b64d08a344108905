-- What the steps of an evaluation end with that bind names, capture them, and make objects and whens of them, and what they leave.
use Rattle.std.specs.Prelude.{◌≡◌, List, [], Option}
use Rattle.ids.specs.declared.names.ObjId.{ObjId}
use Rattle.kernele.specs.Tree.{Name, Trees, Methods}
use Rattle.kernele.specs.declared.tree.Pattern.{Pattern}
use Rattle.values.specs.Data.{Val, Vals, no_vals, and_val}
use Rattle.values.specs.Data as reply
use Rattle.values.specs.Replies.{data_reply}
use Rattle.heap.specs.State.{Nouns, Plain}
use Rattle.post.specs.Delivery.{Handler}
use Rattle.eval_rules.specs.At.{At}
use Rattle.eval_rules.specs.Doings.{has_object_room}
use Rattle.eval_rules.specs.Outcomes.{Halt, End, value, halt}
use Rattle.eval_rules.specs.Rules.{parts_of, parts_bound, parts_end, captured, missing, all_captured, all_sought, capture_of, capturing, placed, placed_end, with_object, object_end, undefined_noun, when_end, when_made, Target, gives, no_such_method, method_in, method_target, callee_of, callee_target, callee_read}
use Rattle.eval_rules.specs.declared.entry.MethodEntry.{MethodEntry}
use Rattle.eval_objects.specs.View.{entered_or}

-- a list of patterns takes the items of an end, where a value was given
abbrev pub TakesParts : List Pattern → Val → End → At → End → At → Type 0
TakesParts ps v end a o b = (o ≡ parts_end (value v) (parts_of ps end)) × (b ≡ parts_bound ps (parts_of ps end) a)

-- all these names are captured
abbrev pub CapturesAll : List Name → At → Nouns → At → Type 0
CapturesAll xs a ns b = (captured ns ≡ all_captured (captured []) xs a) × (b ≡ all_sought (captured []) xs a)

-- one of them stands for nothing, and throws
abbrev pub MissesOne : List Name → At → Halt → At → Type 0
MissesOne xs a h b = (x : Name) × (missing x ≡ all_captured (captured []) xs a) × (halt h ≡ undefined_noun x) × (b ≡ all_sought (captured []) xs a)

-- an object is made of this and bound, where there is room for it
abbrev pub PlacesObject : Pattern → Plain → At → End → At → Type 0
PlacesObject p plain a o b = (o ≡ placed_end (has_object_room a) a) × (b ≡ placed (has_object_room a) p plain a)

-- an object with these methods captures what it names, and is made and bound
abbrev pub DefinesObject : Pattern → Methods → At → End → At → Type 0
DefinesObject p ms a o b = (o ≡ object_end (capture_of p ms a) a) × (b ≡ with_object p ms (capture_of p ms a) (capturing p ms a))

-- a when with this block and this handler captures what it names, and is made on a value
abbrev pub DefinesWhen : Trees → Option Handler → Val → At → End → At → Type 0
DefinesWhen block handler v a o b = (o ≡ when_end block handler (value v) a) × (b ≡ when_made block handler (value v) a)

-- a verb gives this value on data, for the only one of these arguments
abbrev pub GivesForOne : Val → Name → Vals → Val → Type 0
GivesForOne u verb args v = (m : Val) × (args ≡ and_val m no_vals) × (data_reply u verb (and_val m no_vals) ≡ reply.gives v)

-- a call on an end leads so far
abbrev pub CallsEnd : Val → Name → Vals → At → Target → At → Type 0
CallsEnd v verb vs a t b = (t ≡ callee_target (callee_of a.vat v) v verb vs a) × (b ≡ callee_read (callee_of a.vat v) v verb vs a)

-- a call on an object enters the method that is found for it, or none
abbrev pub EntersMethod : ObjId → Plain → Name → Vals → Option MethodEntry → Type 0
EntersMethod i plain verb vs e = entered_or (gives (no_such_method verb vs)) e ≡ method_target i plain verb vs (method_in plain.methods verb vs)
