use Rattle.std.proofs.Common.{◌≡◌, true, Bool, ◌&&◌, refl, ap₂, subst, ◌∙◌, rules}
use Rattle.std.specs.Bool.{Decides}
use Rattle.std.specs.Str.{bytes_eq}
use Rattle.std.specs.Cmp.Lexicographic.{pointwise}
use Rattle.std.proofs.lemmas.Bool.{and_parts}
use Rattle.std.proofs.lemmas.Slice.Eq.{bytes_eq-Decides, slice_eq-Decides}
use Rattle.ids.proofs.CellKeys.{promises_agree}
use Rattle.ids.proofs.Keys.{promise_self}
use Rattle.ids.specs.KeyLaws.{same_three, exact_promise}
use Rattle.ids.specs.declared.names.PromId.{PromId}
use Rattle.post.specs.declared.earlier.Earlier.{Earlier}
use Rattle.post.proofs.earlier.same_earlier.Goals as goal

abbrev same_promise : PromId → PromId → Bool
same_promise p q = same_three p.event.0 q.event.0 p.index q.index p.home.0.0 q.home.0.0

-- as the program tests it
abbrev same : Earlier → Earlier → Bool
same a b = bytes_eq a.name b.name && same_promise a.opening b.opening

itself : (a : Earlier) → same a a ≡ true
itself a = ap₂ (λ p q. p && q) ((bytes_eq-Decides a.name a.name).1 refl) (promises_agree a.opening a.opening ∙ promise_self a.opening)

equal : (a b : Earlier) → same a b ≡ true → a ≡ b
equal a b h =
    let p = and_parts (bytes_eq a.name b.name) (same_promise a.opening b.opening) h in
    λ i. record { name = (bytes_eq-Decides a.name b.name).0 p.0 i; opening = exact_promise a.opening b.opening p.1 i }

decides : (a b : Earlier) → Decides (same a b) (a ≡ b)
decides a b = (equal a b, λ e. subst (λ (x : Earlier). same a x ≡ true) e (itself a))

pub returns : goal.returns
returns c =
    let p : c.as_slice.result.now ≡ c.args.xs.now.value.items = search rules in
    let q : c.as_slice-2.result.now ≡ c.args.ys.now.value.items = search rules in
    slice_eq-Decides decides c.args.xs.now.value.items c.args.ys.now.value.items c.eq.result (c.eq.ensures ∙ ap₂ (pointwise same) p q)
