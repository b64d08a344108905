-- Finding the free names of an object, part by part: they are its distinct free names.
use Rattle.std.proofs.Common.{◌≡◌, ℕ, List, length, take, [], ◌∷◌, ◌++◌, Result, Ok, Err, Bool, true, false, if◌then◌else◌, append_assoc, append-nil, ap, sym, refl, ◌∙◌, rules}
use Rattle.std.proofs.Math.Seq.{take-append_seam}
use Rattle.std.proofs.lemmas.Slice.Eq.{bytes_eq-Decides}
use Rattle.std.specs.Prelude.{IfOk, vec_len, Vec}
use Rattle.std.specs.declared.alloc.Global.{Global}
use Rattle.std.specs.Str.{bytes_eq}
use Rattle.kernele.specs.Tree.{Name, Tree}
use Rattle.kernele_scopes.specs.Free.{free, is_among, without, distinct}
use Rattle.kernele_scopes.specs.Parts.{NamePart, first, second, third, part_names, part_free}
use Rattle.kernele_scopes.proofs.Constructs.{free_in_parts}
use Rattle.kernele_scopes.specs.Found.{with_new, with_all_new}
use Rattle.kernele_scopes.specs.declared.naming.TopName.{TopName}

-- the names of two lists are found one list after the other
pub all_new_two : (xs ys zs : List Name) → with_all_new xs (ys ++ zs) ≡ with_all_new (with_all_new xs ys) zs
all_new_two xs [] zs = refl
all_new_two xs (y ∷ ys) zs = all_new_two (with_new xs y) ys zs

-- a list of names is as long as its vector says
pub as_long : (names : Vec TopName Global) {n : ℕ} → n ≡ vec_len names → n ≡ length names.items
as_long names e = search rules

-- what was added is taken away again
pub truncated : {was now all last : List TopName} (n : ℕ) (xs ys : List TopName) → n ≡ length was → now ≡ was ++ xs → all ≡ now ++ ys → last ≡ take n all → last ≡ was
truncated {was = was} n xs ys outer entered added back = back ∙ (λ i. take (outer i) ((added ∙ ap (λ names. names ++ ys) entered ∙ append_assoc was xs ys) i)) ∙ take-append_seam was (xs ++ ys)

-- what is found in the third part of a tree behind the others, is found in the tree
pub found_left : (t : Tree) (inside : List TopName) (was : List Name) {one two three : NamePart} {behind last : List TopName} {now all : List Name}
    → one ≡ first t → behind ≡ inside ++ part_names one → now ≡ with_all_new was (part_free one inside)
    → two ≡ second t → last ≡ behind ++ part_names two → all ≡ with_all_new now (part_free two behind)
    → three ≡ third t → with_all_new all (part_free three last) ≡ with_all_new was (free t inside)
found_left t inside was {one = one} {two = two} {three = three} is defined found next more found' end =
    (λ i. with_all_new (found' i) (part_free three (more i)))
    ∙ (λ i. with_all_new (with_all_new (found i) (part_free two (defined i))) (part_free three (defined i ++ part_names two)))
    ∙ (λ i. with_all_new (with_all_new (with_all_new was (part_free (is i) inside)) (part_free (next i) (inside ++ part_names (is i)))) (part_free (end i) ((inside ++ part_names (is i)) ++ part_names (next i))))
    ∙ ap (λ names. with_all_new names last_free) (sym (all_new_two was first_free second_free))
    ∙ sym (all_new_two was (first_free ++ second_free) last_free)
    ∙ ap (with_all_new was) (sym (free_in_parts t inside))
  where
    first_free : List Name
    first_free = part_free (first t) inside

    second_free : List Name
    second_free = part_free (second t) (inside ++ part_names (first t))

    last_free : List Name
    last_free = part_free (third t) ((inside ++ part_names (first t)) ++ part_names (second t))

-- what holds anyway holds of a success
pub holds_anyway : {T E P : Type 0} (r : Result T E) → P → IfOk r (λ _. P)
holds_anyway (Ok x) h = h
holds_anyway (Err e) h = tt

-- what is found in a part, and then in the rest behind what the part defines, is found in both
pub then_found : (rest : List TopName → List Name) (was : List Name) {now : List Name} {inside : List TopName} (first : List Name) (defined : List TopName) → now ≡ with_all_new was first → inside ≡ defined → with_all_new now (rest inside) ≡ with_all_new was (first ++ rest defined)
then_found rest was {now = now} first defined found inside =
    ap (λ names. with_all_new now (rest names)) inside ∙ ap (λ names. with_all_new names (rest defined)) found ∙ sym (all_new_two was first (rest defined))

same_name : (y x : Name) → bytes_eq y x ≡ true → y ≡ x
same_name y x e = search (rules, bytes_eq-Decides)

-- a name is among two lists where it is among one
among_more : (here there other : Bool) {both : Bool} → both ≡ (if there then true else other) → (if here then true else both) ≡ (if (if here then true else there) then true else other)
among_more true there other e = refl
among_more false there other e = e

among_two : (xs ys : List Name) (z : Name) → is_among (xs ++ ys) z ≡ (if is_among xs z then true else is_among ys z)
among_two [] ys z = refl
among_two (x ∷ xs) ys z = among_more (bytes_eq x z) (is_among xs z) (is_among ys z) (among_two xs ys z)

-- a name before others, unless it is left out
abbrev unless : Bool → Name → List Name → List Name
unless out z zs = if out then zs else z ∷ zs

left_out : (out : Bool) (z : Name) (zs : List Name) → zs ≡ unless (if out then true else true) z zs
left_out true z zs = refl
left_out false z zs = refl

not_left_out : (out : Bool) (z : Name) (zs : List Name) → unless out z zs ≡ unless (if out then true else false) z zs
not_left_out true z zs = refl
not_left_out false z zs = refl

without_unless : (xs : List Name) (out : Bool) (z : Name) (zs : List Name) → without xs (unless out z zs) ≡ unless (if is_among xs z then true else out) z (without xs zs)
without_unless xs true z zs = left_out (is_among xs z) z (without xs zs)
without_unless xs false z zs = not_left_out (is_among xs z) z (without xs zs)

-- what is left out one list after the other is left out at once
without_two : (xs ys zs : List Name) → without xs (without ys zs) ≡ without (xs ++ ys) zs
without_two xs ys [] = refl
without_two xs ys (z ∷ zs) =
    without_unless xs (is_among ys z) z (without ys zs) ∙ ap (unless (if is_among xs z then true else is_among ys z) z) (without_two xs ys zs)
    ∙ ap (λ out. unless out z (without (xs ++ ys) zs)) (sym (among_two xs ys z))

-- a name that is among the others leaves out no more than they do
last_case : (there here : Bool) → (here ≡ true → there ≡ true) → (if there then true else (if here then true else false)) ≡ there
last_case true here h = refl
last_case false true h = sym (h refl)
last_case false false h = refl

among_last : (xs : List Name) (y z : Name) → is_among xs y ≡ true → is_among (xs ++ y ∷ []) z ≡ is_among xs z
among_last xs y z e = among_two xs (y ∷ []) z ∙ last_case (is_among xs z) (bytes_eq y z) (λ h. ap (is_among xs) (sym (same_name y z h)) ∙ e)

without_last : (xs : List Name) (y : Name) (zs : List Name) → is_among xs y ≡ true → without (xs ++ y ∷ []) zs ≡ without xs zs
without_last xs y [] e = refl
without_last xs y (z ∷ zs) e = ap (λ out. unless out z (without (xs ++ y ∷ []) zs)) (among_last xs y z e) ∙ ap (unless (is_among xs z) z) (without_last xs y zs e)

-- names found one by one are those that were found before, and each other name once
one_more : (xs : List Name) (y : Name) (ys : List Name) (there : Bool) → is_among xs y ≡ there → with_all_new xs ys ≡ xs ++ without xs (distinct ys)
    → with_all_new (xs ++ y ∷ []) ys ≡ (xs ++ y ∷ []) ++ without (xs ++ y ∷ []) (distinct ys)
    → with_all_new (if there then xs else xs ++ y ∷ []) ys ≡ xs ++ unless there y (without xs (without (y ∷ []) (distinct ys)))
one_more xs y ys true e old new = old ∙ ap (λ zs. xs ++ zs) (sym (without_last xs y (distinct ys) e) ∙ sym (without_two xs (y ∷ []) (distinct ys)))
one_more xs y ys false e old new =
    new ∙ append_assoc xs (y ∷ []) (without (xs ++ y ∷ []) (distinct ys)) ∙ ap (λ zs. xs ++ y ∷ zs) (sym (without_two xs (y ∷ []) (distinct ys)))

all_new : (xs ys : List Name) → with_all_new xs ys ≡ xs ++ without xs (distinct ys)
all_new xs [] = sym (append-nil xs)
all_new xs (y ∷ ys) = one_more xs y ys (is_among xs y) refl (all_new xs ys) (all_new (xs ++ y ∷ []) ys)

without_none : (ys : List Name) → without [] ys ≡ ys
without_none [] = refl
without_none (y ∷ ys) = ap (λ zs. y ∷ zs) (without_none ys)

-- names found one by one are the distinct names
pub found_all : (ys : List Name) → with_all_new [] ys ≡ distinct ys
found_all ys = all_new [] ys ∙ without_none (distinct ys)

-- what is found in two blocks, one after the other, where nothing was defined or found before, is distinct in both
pub found_in_two : {inside after : List TopName} {start now last : List Name} (one two : List TopName → List Name) → inside ≡ [] → start ≡ [] → after ≡ inside → now ≡ with_all_new start (one inside) → last ≡ with_all_new now (two after) → last ≡ distinct (one [] ++ two [])
found_in_two {now = now} one two begins fresh stays found found' =
    found' ∙ ap (λ bs. with_all_new now (two bs)) (stays ∙ begins)
    ∙ ap (λ names. with_all_new names (two [])) (found ∙ λ i. with_all_new (fresh i) (one (begins i)))
    ∙ sym (all_new_two [] (one []) (two []))
    ∙ found_all (one [] ++ two [])
