use Rattle.std.proofs.Common.{◌≡◌, ◌∙◌, ◌++◌, [], ◌∷◌, List, ℕ, append_assoc, sym, ap}
use Rattle.causality.proofs.selection.in_order.Goals as goal

pub loop-place-preserved : goal.loop-place-preserved
loop-place-preserved c =
    let all = c.loop-place.all.items in
    let p = c.in-Some.place.now in
    let rest = c.next.new.self in
    let cut : c.loop-place.place-iterator ≡ p ∷ rest = c.in-Some.ensures.steps in
    ap (λ (xs : List ℕ). xs ++ rest) c.in_ok-push.ensures.items ∙ append_assoc all (p ∷ []) rest ∙ ap (λ (xs : List ℕ). all ++ xs) (sym cut) ∙ c.loop-place.invariant
