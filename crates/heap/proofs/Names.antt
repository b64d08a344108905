-- The names of the program's nouns are those of the nouns that they stand for.
use Rattle.std.proofs.Common.{◌≡◌, List, [], ◌∷◌, ◌++◌, sym, ◌∙◌, append_assoc, append-nil}
use Rattle.heap.specs.State.{Nouns, frame_of}
use Rattle.heap.specs.Names.{names_of}
use Rattle.heap.specs.View.{bind_of, nouns_of, nouns_after}
use Rattle.heap.specs.declared.state.Noun.{Noun}

frame_after : (ns : Nouns) (xs : List Noun) → frame_of (nouns_after ns xs) ≡ frame_of ns ++ names_of xs
frame_after ns [] = sym (append-nil (frame_of ns))
frame_after ns (x ∷ xs) = frame_after ((x.name, bind_of x.binding) ∷ ns) xs ∙ append_assoc (frame_of ns) (x.name ∷ []) (names_of xs)

pub frame_of_nouns : (xs : List Noun) → frame_of (nouns_of xs) ≡ names_of xs
frame_of_nouns xs = frame_after [] xs
