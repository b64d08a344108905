-- What the search for free names has found: name after name, each once.
use Rattle.std.specs.Prelude.{List, [], ◌∷◌, ◌++◌, if◌then◌else◌}
use Rattle.kernele.specs.Tree.{Name}
use Rattle.kernele_scopes.specs.Free.{is_among}

-- one more name, if it is not among them
abbrev pub with_new : List Name → Name → List Name
with_new xs x = if is_among xs x then xs else xs ++ x ∷ []

-- more names, each once
abbrev pub with_all_new : List Name → List Name → List Name
with_all_new xs [] = xs
with_all_new xs (y ∷ ys) = with_all_new (with_new xs y) ys
