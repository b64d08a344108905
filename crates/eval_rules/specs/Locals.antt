-- What the names of frames stand for.
use Rattle.std.specs.Prelude.{ℕ, ◌-◌, Option, Some, None, List, [], ◌∷◌, map, length, take, drop, Vec}
use Rattle.std.specs.declared.sync.Arc.{Arc}
use Rattle.std.specs.declared.alloc.Global.{Global}
use Rattle.kernele.specs.Tree.{Name}
use Rattle.heap.specs.State.{Nouns}
use Rattle.heap.specs.View.{bind_of, nouns_of}
use Rattle.heap.specs.declared.state.Noun.{Noun}
use Rattle.eval_rules.specs.declared.local.Local.{Local}

-- the names of a frame as the program has them: the oldest first
abbrev pub local_names : List Local → List Name
local_names items = map (λ n. n.name.value) items

-- what an object captured, the oldest first: nothing is shared where it captured nothing
abbrev pub captured_in : Option (Arc (Vec Noun Global) Global) → List Noun
captured_in (Some shared) = shared.value.items
captured_in None = []

-- names, the newest first: the program pushes the newest at the end
abbrev pub locals_after : Nouns → List Local → Nouns
locals_after ns [] = ns
locals_after ns (n ∷ rest) = locals_after ((n.name.value, bind_of n.binding) ∷ ns) rest

-- so many of the names that were captured, and those of a frame in front of them
abbrev pub names_in : List Noun → ℕ → List Local → Nouns
names_in captured older items = locals_after (nouns_of (take older captured)) items

-- so many of the names, from the oldest on
abbrev pub oldest : ℕ → Nouns → Nouns
oldest n ns = drop (length ns - n) ns
