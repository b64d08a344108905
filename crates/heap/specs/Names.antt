-- The names of nouns.
use Rattle.std.specs.Prelude.{List, map}
use Rattle.kernele.specs.Tree.{Name}
use Rattle.heap.specs.declared.state.Noun.{Noun}

-- as the program has them: the oldest first
abbrev pub names_of : List Noun → List Name
names_of items = map (λ n. n.name) items
