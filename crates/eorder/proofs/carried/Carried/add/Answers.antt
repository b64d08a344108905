use Rattle.std.proofs.Common.{◌≡◌, false, sym, ap, subst, ◌∙◌}
use Rattle.std.proofs.lemmas.Bool.{false≢true}
use Rattle.eorder.specs.Carried.{carries, with_fence, EachOnce}
use Rattle.eorder.proofs.CarriedFences.{inserted, added, once_more, has}
use Rattle.eorder.proofs.carried.Carried.add.Goals as goal

pub invariant_of-self-2 : goal.invariant_of-self-2
invariant_of-self-2 c =
    let absent : carries c.self.inside.fences.entries c.args.reference ≡ false = ap (λ x. carries x c.args.reference) c.self.view_is ∙ sym c.carries.ensures ∙ c.if-carries.false in
    subst EachOnce (sym (c.in_ok-insert.ensures.entries ∙ inserted c.self.inside.fences.entries c.args.reference c.args.fence absent)) (once_more c.self.inside.fences.entries c.args.reference c.args.fence c.self.invariant absent (has c.args.fence (λ e. false≢true (c.if-is_empty.ensures.1 e))))

pub returns-clause-ok : goal.returns-clause-ok
returns-clause-ok c =
    let absent : carries c.self.inside.fences.entries c.args.reference ≡ false = ap (λ x. carries x c.args.reference) c.self.view_is ∙ sym c.carries.ensures ∙ c.if-carries.false in
    c.in_ok-insert.ensures.entries ∙ added c.self.inside.fences.entries c.args.reference c.args.fence absent (λ e. false≢true (c.if-is_empty.ensures.1 e)) ∙ ap (λ x. with_fence x c.args.reference c.args.fence) c.self.view_is
