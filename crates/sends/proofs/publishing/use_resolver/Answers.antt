use Rattle.std.proofs.Common.{Some, None, refl, sym, ap, ◌∙◌}
use Rattle.heap.specs.State.{view_cell, viewed, resolved}
use Rattle.heap.specs.View.{view_of}
use Rattle.values.specs.View.{val_of}
use Rattle.sends.specs.View.{published_of, making_of}
use Rattle.sends.proofs.Did.{touched_one}
use Rattle.sends.proofs.Publications.{used_now, used_before}
use Rattle.sends.proofs.publishing.use_resolver.Goals as goal

pub returns-in_ok-publish-in-Some-Open-clause-did : goal.returns-in_ok-publish-in-Some-Open-clause-did
returns-in_ok-publish-in-Some-Open-clause-did c =
    used_now c.args.promise (val_of c.args.value) (published_of c.in_ok-publish-in-Some-Open.field-0) c.args.draft.now c.reach_view.new.self c.publish.new.draft
    (touched_one (view_cell c.args.promise) c.args.draft.now c.reach_view.new.self c.in_ok-reach_view.ensures.state c.in_ok-reach_view.ensures.touched c.in_ok-reach_view.ensures.written)
    (sym c.in-Some-Open.ensures ∙ ap (λ k. Some (viewed (view_of k))) c.in-Some-Open.field-0-is) c.in_ok-publish-in-Some-Open.ensures.did

pub returns-in-Some-Resolved-clause-did : goal.returns-in-Some-Resolved-clause-did
returns-in-Some-Resolved-clause-did c =
    used_before c.no_use.result (making_of published_of) c.args.promise (val_of c.args.value) (Some (viewed (resolved (val_of c.in-Some-Resolved.field-0-0)))) c.args.draft.now c.reach_view.new.self
    (touched_one (view_cell c.args.promise) c.args.draft.now c.reach_view.new.self c.in_ok-reach_view.ensures.state c.in_ok-reach_view.ensures.touched c.in_ok-reach_view.ensures.written)
    (sym c.in-Some-Resolved.ensures ∙ ap (λ k. Some (viewed (view_of k))) c.in-Some-Resolved.field-0-is) refl c.no_use.ensures

pub returns-in-None-clause-did : goal.returns-in-None-clause-did
returns-in-None-clause-did c =
    used_before c.no_use-in-None.result (making_of published_of) c.args.promise (val_of c.args.value) None c.args.draft.now c.reach_view.new.self
    (touched_one (view_cell c.args.promise) c.args.draft.now c.reach_view.new.self c.in_ok-reach_view.ensures.state c.in_ok-reach_view.ensures.touched c.in_ok-reach_view.ensures.written)
    (sym c.in-None.ensures) refl c.no_use-in-None.ensures
