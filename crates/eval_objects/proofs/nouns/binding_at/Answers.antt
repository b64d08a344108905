use Rattle.std.proofs.Common.{◌≡◌, ◌-◌, ap, arith, sym, ◌∙◌, get_or, length}
use Rattle.eval_rules.specs.Locals.{captured_in}
use Rattle.eval_rules.proofs.Scopes.{length-names_in}
use Rattle.eval_objects.proofs.Places.{captured_there, local_there}
use Rattle.eval_objects.proofs.nouns.binding_at.Goals as goal

pub index-requires-else-position-w : goal.index-requires-else-position-w
index-requires-else-position-w c =
    omega (arith, c.requires, c.if-position-w.false, length-names_in (captured_in c.args.w.now.captured) c.args.w.now.older c.args.w.now.nouns.items c.args.w.now.within, c.args.w.now.nouns.ok)

pub index-requires-in-None : goal.index-requires-in-None
index-requires-in-None c =
    omega (arith, c.requires, c.args.w.now.within, ap (λ o. length (captured_in o)) c.in-None.is, length-names_in (captured_in c.args.w.now.captured) c.args.w.now.older c.args.w.now.nouns.items c.args.w.now.within, c.args.w.now.nouns.ok)

pub returns-then-position-w : goal.returns-then-position-w
returns-then-position-w c =
    let shared = sym (ap captured_in c.in-Some.is) in
    let is = c.index.ensures ∙ ap (λ v. get_or v.items c.args.position c.index.result.now) c.deref.ensures ∙ ap (λ cs. get_or cs c.args.position c.index.result.now) shared in
    λ x e. captured_there (captured_in c.args.w.now.captured) c.args.w.now.older c.args.w.now.nouns.items c.args.position c.index.result.now x c.args.w.now.within c.if-position-w.true is e

pub returns-else-position-w : goal.returns-else-position-w
returns-else-position-w c = λ x e. local_there (captured_in c.args.w.now.captured) c.args.w.now.older c.args.w.now.nouns.items c.args.position _ x c.args.w.now.within (omega (arith, c.if-position-w.false)) c.index-else-position-w.ensures e

pub returns-in-None : goal.returns-in-None
returns-in-None c =
    let none : c.args.w.now.older ≡ 0 = omega (arith, c.args.w.now.within, ap (λ o. length (captured_in o)) c.in-None.is) in
    let there : c.args.position ≡ c.args.position - c.args.w.now.older = omega (arith, none) in
    let is = c.index-in-None.ensures ∙ ap (λ i. get_or c.args.w.now.nouns.items i c.index-in-None.result.now) there in
    λ x e. local_there (captured_in c.args.w.now.captured) c.args.w.now.older c.args.w.now.nouns.items c.args.position c.index-in-None.result.now x c.args.w.now.within (omega (arith, none)) is e
