use Rattle.std.proofs.Common.{◌≡◌, ap, sym, subst, ◌∙◌}
use Rattle.heap.specs.State.{State, object_cell, read}
use Rattle.heap.specs.Drafts.{draft_of, counts_of, began_with, touched_of, written_of}
use Rattle.values.specs.View.{vals_of}
use Rattle.eval_rules.specs.At.{At}
use Rattle.eval_rules.specs.Outcomes.{halt}
use Rattle.eval_rules.specs.Rules.{Target, gives, no_such_method, object_target, reached, resolver_target}
use Rattle.eval_rules.specs.View.{at}
use Rattle.eval_rules.proofs.Answering.{handed_on}
use Rattle.eval_objects.specs.View.{met_as, IsNoMethod}
use Rattle.eval_objects.proofs.Drafted.{drafted_reached}
use Rattle.eval_objects.proofs.Leading.{led_weaker, led_to_end}
use Rattle.eval_objects.proofs.objects.object_target.Goals as goal

pub returns-in-Method : goal.returns-in-Method
returns-in-Method c =
    let vs = vals_of c.args.args.now in
    let verb = c.args.verb.now in
    let i = c.args.id in
    let a = at c.args.w.now in
    let d = c.reach_object.new.self in
    let e = c.in_ok-reach_object.ensures in
    let place = c.empty_frame-frame.ensures.place ∙ drafted_reached (object_cell i) a (draft_of d) (counts_of d) (began_with d) (touched_of d) (written_of d) e.state e.counts e.began e.touched e.written in
    let met = ap (λ m. met_as m verb vs) (sym c.in-Method.is) ∙ c.in_ok-met.ensures.met
    ∙ ap (λ m. object_target i m verb vs) (ap (λ (z : At). read z.state (object_cell i)) c.empty_frame-frame.ensures.place ∙ ap (λ (s : State). read s (object_cell i)) e.state)
    in
    (met, place)

pub returns-in_ok-call_resolver-in-Resolver : goal.returns-in_ok-call_resolver-in-Resolver
returns-in_ok-call_resolver-in-Resolver c =
    let vs = vals_of c.args.args.now in
    let verb = c.args.verb.now in
    let i = c.args.id in
    let a = at c.args.w.now in
    let d = c.reach_object.new.self in
    let e = c.in_ok-reach_object.ensures in
    let place = c.empty_frame-frame.ensures.place ∙ drafted_reached (object_cell i) a (draft_of d) (counts_of d) (began_with d) (touched_of d) (written_of d) e.state e.counts e.began e.touched e.written in
    let met = ap (λ m. met_as m verb vs) (sym c.in-Resolver.is) ∙ c.in_ok-met.ensures.met
    ∙ ap (λ m. object_target i m verb vs) (ap (λ (z : At). read z.state (object_cell i)) c.empty_frame-frame.ensures.place ∙ ap (λ (s : State). read s (object_cell i)) e.state)
    in
    let kept = c.in_ok-met.ensures.kept (subst IsNoMethod (sym c.in-Resolver.is) tt) in
    let Q : Target → At → Type 0 = λ t b. (t ≡ object_target i (read a.state (object_cell i)) verb vs) × (b ≡ reached (object_cell i) a) in
    let P : Target → At → Type 0 = λ t b. (t ≡ resolver_target c.in-Resolver.promise verb (vals_of c.meet.new.args)) × (b ≡ at c.empty_frame-frame.new.w) in
    led_weaker P Q _ _ (λ t b p. (p.0 ∙ ap (λ xs. resolver_target c.in-Resolver.promise verb (vals_of xs)) kept ∙ met, p.1 ∙ place)) c.in_ok-call_resolver-in-Resolver.ensures

pub returns-in_err-call_resolver-in-Resolver : goal.returns-in_err-call_resolver-in-Resolver
returns-in_err-call_resolver-in-Resolver c =
    let vs = vals_of c.args.args.now in
    let verb = c.args.verb.now in
    let i = c.args.id in
    let a = at c.args.w.now in
    let d = c.reach_object.new.self in
    let e = c.in_ok-reach_object.ensures in
    let place = c.empty_frame-frame.ensures.place ∙ drafted_reached (object_cell i) a (draft_of d) (counts_of d) (began_with d) (touched_of d) (written_of d) e.state e.counts e.began e.touched e.written in
    let met = ap (λ m. met_as m verb vs) (sym c.in-Resolver.is) ∙ c.in_ok-met.ensures.met
    ∙ ap (λ m. object_target i m verb vs) (ap (λ (z : At). read z.state (object_cell i)) c.empty_frame-frame.ensures.place ∙ ap (λ (s : State). read s (object_cell i)) e.state)
    in
    let kept = c.in_ok-met.ensures.kept (subst IsNoMethod (sym c.in-Resolver.is) tt) in
    let Q : Target → At → Type 0 = λ t b. (t ≡ object_target i (read a.state (object_cell i)) verb vs) × (b ≡ reached (object_cell i) a) in
    let P : Target → At → Type 0 = λ t b. (t ≡ resolver_target c.in-Resolver.promise verb (vals_of c.meet.new.args)) × (b ≡ at c.empty_frame-frame.new.w) in
    handed_on c.from_residual-in_err-call_resolver-in-Resolver.result c.in_err-call_resolver-in-Resolver.field-0.0 c.call_resolver.new.w _ _ _ c.from_residual-in_err-call_resolver-in-Resolver.ensures.1 c.in_err-call_resolver-in-Resolver.ensures
    (λ h b l. led_weaker P Q (halt h) b (λ t b p. (p.0 ∙ ap (λ xs. resolver_target c.in-Resolver.promise verb (vals_of xs)) kept ∙ met, p.1 ∙ place)) l)

pub returns-in_ok-no_such_method-in-Nothing : goal.returns-in_ok-no_such_method-in-Nothing
returns-in_ok-no_such_method-in-Nothing c =
    let vs = vals_of c.args.args.now in
    let verb = c.args.verb.now in
    let i = c.args.id in
    let a = at c.args.w.now in
    let d = c.reach_object.new.self in
    let e = c.in_ok-reach_object.ensures in
    let place = c.empty_frame-frame.ensures.place ∙ drafted_reached (object_cell i) a (draft_of d) (counts_of d) (began_with d) (touched_of d) (written_of d) e.state e.counts e.began e.touched e.written in
    let met = ap (λ m. met_as m verb vs) (sym c.in-Nothing.is) ∙ c.in_ok-met.ensures.met
    ∙ ap (λ m. object_target i m verb vs) (ap (λ (z : At). read z.state (object_cell i)) c.empty_frame-frame.ensures.place ∙ ap (λ (s : State). read s (object_cell i)) e.state)
    in
    let kept = c.in_ok-met.ensures.kept (subst IsNoMethod (sym c.in-Nothing.is) tt) in
    let Q : Target → At → Type 0 = λ t b. (t ≡ object_target i (read a.state (object_cell i)) verb vs) × (b ≡ reached (object_cell i) a) in
    led_to_end Q (no_such_method verb (vals_of c.meet.new.args)) _ (at c.empty_frame-frame.new.w) _ (ap (λ xs. gives (no_such_method verb (vals_of xs))) kept ∙ met, place) c.in_ok-no_such_method-in-Nothing.ensures

pub returns-in_err-no_such_method-in-Nothing : goal.returns-in_err-no_such_method-in-Nothing
returns-in_err-no_such_method-in-Nothing c =
    let vs = vals_of c.args.args.now in
    let verb = c.args.verb.now in
    let i = c.args.id in
    let a = at c.args.w.now in
    let d = c.reach_object.new.self in
    let e = c.in_ok-reach_object.ensures in
    let place = c.empty_frame-frame.ensures.place ∙ drafted_reached (object_cell i) a (draft_of d) (counts_of d) (began_with d) (touched_of d) (written_of d) e.state e.counts e.began e.touched e.written in
    let met = ap (λ m. met_as m verb vs) (sym c.in-Nothing.is) ∙ c.in_ok-met.ensures.met
    ∙ ap (λ m. object_target i m verb vs) (ap (λ (z : At). read z.state (object_cell i)) c.empty_frame-frame.ensures.place ∙ ap (λ (s : State). read s (object_cell i)) e.state)
    in
    let kept = c.in_ok-met.ensures.kept (subst IsNoMethod (sym c.in-Nothing.is) tt) in
    let Q : Target → At → Type 0 = λ t b. (t ≡ object_target i (read a.state (object_cell i)) verb vs) × (b ≡ reached (object_cell i) a) in
    handed_on c.from_residual-in_err-no_such_method-in-Nothing.result c.in_err-no_such_method-in-Nothing.field-0.0 c.no_such_method.new.w _ _ _ c.from_residual-in_err-no_such_method-in-Nothing.ensures.1 c.in_err-no_such_method-in-Nothing.ensures
    (λ h b p. led_to_end Q (no_such_method verb (vals_of c.meet.new.args)) (halt h) (at c.empty_frame-frame.new.w) b (ap (λ xs. gives (no_such_method verb (vals_of xs))) kept ∙ met, place) p)
