use Rattle.std.proofs.Common.{ap, sym, ◌∙◌}
use Rattle.std.proofs.lemmas.Result.{on_ok_weaker}
use Rattle.values.specs.View.{vals_of}
use Rattle.sends.specs.Vats.{coming_in, nothing, references_in}
use Rattle.post.specs.DeliveryView.{call_of}
use Rattle.eval_messages.proofs.Behind.{did_leave}
use Rattle.eval_rules.specs.Doings.{behind}
use Rattle.eval_rules.specs.View.{at}
use Rattle.eval_rules.proofs.Steps.{slice_of}
use Rattle.turn_deliveries.specs.Outcomes.{found_of}
use Rattle.turn_deliveries.specs.Turn.{list_coming}
use Rattle.turn.proofs.Calling.{behind_both}
use Rattle.turn.proofs.calls.bring_in.Goals as goal

pub returns : goal.returns
returns c =
    let a = at c.args.w.now in
    let call = call_of c.args.call.now in
    let f = found_of c.args.lead.now in
    let came = c.in_ok-receive_all.ensures in
    let fences = c.deref.ensures in
    let arguments = slice_of c.deref-3.ensures.value c.deref-2.ensures in
    let first = did_leave (coming_in c.deref.result.now (references_in (vals_of c.deref-3.result.now))) a c.args.w.now.draft c.receive_all.new.draft nothing came.did came.turn
    ∙ (λ i. behind (coming_in (fences i) (references_in (vals_of (arguments i)))) a) in
    on_ok_weaker c.bring_list.result (λ e. e ∙ ap (behind (list_coming f.fences f.end)) first ∙ sym (behind_both (coming_in call.fences (references_in call.arguments)) (list_coming f.fences f.end) a)) c.bring_list.ensures
