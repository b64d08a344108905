use Rattle.std.proofs.Common.{◌≡◌, ℕ, zero, suc, List, [], ◌∷◌, ◌++◌, length, drop, min, refl, sym, ap, ◌∙◌, append-nil, arith, rules}
use Rattle.std.proofs.lemmas.List.{drop_all}
use Rattle.std.proofs.lemmas.Slice.Zip.{zip_end}
use Rattle.ids.specs.declared.names.VatNo.{VatNo}
use Rattle.kernele.specs.Tree.{Name}
use Rattle.event.specs.Effects.{known_by}
use Rattle.event.proofs.effects.known_as.Goals as goal

none_named : (xs : List Name) → known_by xs [] ≡ []
none_named [] = refl
none_named (x ∷ xs) = refl

-- where one of the lists is at its end no vat is left
none_left : (n : ℕ) (xs : List Name) (vs : List VatNo) → n ≡ min (length xs) (length vs) → known_by (drop n xs) (drop n vs) ≡ []
none_left n [] vs h = ap (λ l. known_by l (drop n vs)) (drop_all n [] (omega arith))
none_left n (x ∷ xs) [] h = ap (known_by (drop n (x ∷ xs))) (drop_all n [] (omega arith)) ∙ none_named (drop n (x ∷ xs))
none_left zero (x ∷ xs) (v ∷ vs) h = absurd (omega (arith, h))
none_left (suc n) (x ∷ xs) (v ∷ vs) h = none_left n xs vs (omega (arith, h))

pub returns : goal.returns
returns c =
    let l = c.loop-name in
    let n = zip_end c.args.names.now c.args.vats.now l.yielded c.into_iter-name-iterator.result l.name-iterator c.next.new.self c.next.result (search rules) (search rules) l.yielded_by c.in-None.is c.next.ensures.steps in
    sym (l.invariant ∙ ap (λ ys. l.row.items ++ ys) (none_left (length l.yielded) c.args.names.now c.args.vats.now n) ∙ append-nil l.row.items)
