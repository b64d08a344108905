-- The names of a frame are those of the nouns that they stand for.
use Rattle.std.proofs.Common.{◌≡◌, List, [], ◌∷◌, ◌++◌, length, arith, length-append, refl, sym, ap, ◌∙◌, append_assoc, append-nil}
use Rattle.heap.specs.State.{Nouns, frame_of}
use Rattle.heap.specs.Names.{names_of}
use Rattle.heap.specs.View.{bind_of, nouns_of, nouns_after}
use Rattle.heap.specs.declared.state.Noun.{Noun}
use Rattle.heap.proofs.Names.{frame_of_nouns}
use Rattle.eval_rules.specs.Locals.{local_names, locals_after}
use Rattle.eval_rules.specs.declared.local.Local.{Local}

frame_after : (ns : Nouns) (xs : List Local) → frame_of (locals_after ns xs) ≡ frame_of ns ++ local_names xs
frame_after ns [] = sym (append-nil (frame_of ns))
frame_after ns (x ∷ xs) = frame_after ((x.name.value, bind_of x.binding) ∷ ns) xs ∙ append_assoc (frame_of ns) (x.name.value ∷ []) (local_names xs)

pub frame_of_locals : (cs : List Noun) (xs : List Local) → frame_of (locals_after (nouns_of cs) xs) ≡ names_of cs ++ local_names xs
frame_of_locals cs xs = frame_after (nouns_of cs) xs ∙ ap (λ f. f ++ local_names xs) (frame_of_nouns cs)

nouns_after-append : (ns : Nouns) (xs ys : List Noun) → nouns_after ns (xs ++ ys) ≡ nouns_after (nouns_after ns xs) ys
nouns_after-append ns [] ys = refl
nouns_after-append ns (x ∷ xs) ys = nouns_after-append ((x.name, bind_of x.binding) ∷ ns) xs ys

-- the newest of captured names is the last one pushed
pub nouns_of-push : (xs : List Noun) (n : Noun) → nouns_of (xs ++ n ∷ []) ≡ ((n.name, bind_of n.binding) ∷ nouns_of xs)
nouns_of-push xs n = nouns_after-append [] xs (n ∷ [])

nouns_after-split : (ns : Nouns) (xs : List Noun) → nouns_after ns xs ≡ nouns_of xs ++ ns
nouns_after-split ns [] = refl
nouns_after-split ns (x ∷ xs) =
    nouns_after-split ((x.name, bind_of x.binding) ∷ ns) xs
    ∙ sym (ap (λ ms. ms ++ ns) (nouns_after-split ((x.name, bind_of x.binding) ∷ []) xs) ∙ append_assoc (nouns_of xs) ((x.name, bind_of x.binding) ∷ []) ns)

pub length-nouns_of : (xs : List Noun) → length (nouns_of xs) ≡ length xs
length-nouns_of [] = refl
length-nouns_of (x ∷ xs) = ap length (nouns_after-split ((x.name, bind_of x.binding) ∷ []) xs) ∙ omega (arith, length-append (nouns_of xs) ((x.name, bind_of x.binding) ∷ []), length-nouns_of xs)

-- later ones stand in front of those before them
pub nouns_of-append : (xs ys : List Noun) → nouns_of (xs ++ ys) ≡ nouns_of ys ++ nouns_of xs
nouns_of-append xs ys = nouns_after-append [] xs ys ∙ nouns_after-split (nouns_of xs) ys
