use Rattle.std.proofs.Common.{[], true, ap, rules, subst, sym, ◌∙◌}
use Rattle.code.specs.Frames.{fits_all}
use Rattle.code.specs.View.{trees_of_codes}
use Rattle.values.specs.Data.{null}
use Rattle.post.specs.DeliveryView.{delivery_of}
use Rattle.post.specs.declared.delivery.Delivery.{Delivery}
use Rattle.eval_rules.specs.Answered.{OnEnd}
use Rattle.eval_rules.specs.Rules.{Items}
use Rattle.eval_rules.specs.View.{at}
use Rattle.eval_rules.proofs.Steps.{slice_of}
use Rattle.turn_deliveries.specs.Outcomes.{found_of}
use Rattle.turn_deliveries.specs.Turn.{knowing}
use Rattle.turn.specs.Runs.{Does, is_opening}
use Rattle.turn.proofs.Deliveries.{question_fits}
use Rattle.turn.proofs.delivery.run.Goals as goal

pub run_opening-requires : goal.run_opening-requires
run_opening-requires c = record {
  own = c.requires.own ∙ ap (λ (d : Delivery). is_opening (delivery_of d)) c.in-Opening.is;
  bare = c.requires.bare;
  fits = subst (fits_all true []) (sym (slice_of c.deref-in-Opening-3.ensures.value c.deref-in-Opening-2.ensures)) c.in-Opening.script.fits;
}

pub returns-in-Opening : goal.returns-in-Opening
returns-in-Opening c =
    let a = at c.args.w.now in
    let known = slice_of c.deref-in-Opening.ensures.value c.deref.ensures in
    let items = slice_of c.deref-in-Opening-3.ensures.value c.deref-in-Opening-2.ensures in
    subst (λ (d : Delivery). OnEnd c.run_opening.result c.run_opening.new.into c.run_opening.new.w (Does (delivery_of d) (found_of c.args.lead.now) a)) (sym c.in-Opening.is)
    (subst (λ (f : Type 0). f) (λ i. OnEnd c.run_opening.result c.run_opening.new.into c.run_opening.new.w (Items 1 null (trees_of_codes (items i)) (knowing (known i) a))) c.run_opening.ensures)

pub eval_items-requires : goal.eval_items-requires
eval_items-requires c = record {
  level = search rules;
  fits = question_fits (at c.args.w.now) (c.requires.own ∙ ap (λ (d : Delivery). is_opening (delivery_of d)) c.in-Asked.is) c.requires.bare (slice_of c.deref-in-Asked-2.ensures.value c.deref-in-Asked.ensures) c.in-Asked.question.fits;
}

pub returns-in-Asked : goal.returns-in-Asked
returns-in-Asked c =
    let a = at c.args.w.now in
    let items = slice_of c.deref-in-Asked-2.ensures.value c.deref-in-Asked.ensures in
    subst (λ (d : Delivery). OnEnd c.eval_items.result c.eval_items.new.into c.eval_items.new.w (Does (delivery_of d) (found_of c.args.lead.now) a)) (sym c.in-Asked.is)
    (subst (λ (f : Type 0). f) (λ i. OnEnd c.eval_items.result c.eval_items.new.into c.eval_items.new.w (Items 1 null (trees_of_codes (items i)) a)) c.eval_items.ensures)

pub returns-in-Sent : goal.returns-in-Sent
returns-in-Sent c = subst (λ (d : Delivery). OnEnd c.run_call.result c.run_call.new.into c.run_call.new.w (Does (delivery_of d) (found_of c.args.lead.now) (at c.args.w.now))) (sym c.in-Sent.is) c.run_call.ensures

pub returns-in-Waiting : goal.returns-in-Waiting
returns-in-Waiting c = subst (λ (d : Delivery). OnEnd c.run_when.result c.run_when.new.into c.run_when.new.w (Does (delivery_of d) (found_of c.args.lead.now) (at c.args.w.now))) (sym c.in-Waiting.is) c.run_when.ensures
