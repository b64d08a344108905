-- Where a method stands among the methods of an object.
use Rattle.std.specs.Prelude.{◌≡◌, ℕ, ◌+◌, Bool, nat_eq, ◌&&◌, cond, Option, Some, None, length}
use Rattle.std.specs.Option.{option_map}
use Rattle.std.specs.Str.{bytes_eq}
use Rattle.std.specs.HashMap.{get}
use Rattle.std.specs.declared.sync.Arc.{Arc}
use Rattle.std.specs.declared.alloc.Global.{Global}
use Rattle.kernele.specs.Tree.{Name, Methods, no_methods, and_method}
use Rattle.code.specs.declared.index.MethodKey.{MethodKey}
use Rattle.code.specs.declared.index.MethodIndex.{MethodIndex}

-- the position of the first method with this verb and so many parameters
abbrev pub position_in : Methods → Name → ℕ → Option ℕ
position_in no_methods verb count = None
position_in (and_method m ps body ms) verb count = cond (bytes_eq m verb && nat_eq (length ps) count) (Some 0) (option_map (λ i. i + 1) (position_in ms verb count))

-- two keys are the same where the verbs and the numbers of parameters are
abbrev pub same_key : MethodKey → MethodKey → Bool
same_key j k = bytes_eq j.verb k.verb && nat_eq j.count k.count

-- what a verb and a number of parameters are looked up by
abbrev pub key_of : Name → ℕ → MethodKey
key_of verb count = record { verb = verb; count = count }

-- where an index finds a method
abbrev pub found_at : MethodIndex → Name → ℕ → Option ℕ
found_at index verb count = get same_key index.positions (key_of verb count)

-- an index finds each method of an object where it stands, and no other
abbrev pub Indexes : MethodIndex → Methods → Type 0
Indexes index ms = (verb : Name) (count : ℕ) → found_at index verb count ≡ position_in ms verb count

-- the index of an object, if it has one
abbrev pub index_in : Option (Arc MethodIndex Global) → Option MethodIndex
index_in index = option_map (λ i. i.value) index

-- it is that of the object's methods
abbrev pub index_fits : Option MethodIndex → Methods → Type 0
index_fits None ms = Unit {0}
index_fits (Some index) ms = Indexes index ms
