use Rattle.std.proofs.Common.{ap, sym, ◌∙◌}
use Rattle.std.proofs.lemmas.Result.{on_ok_weaker}
use Rattle.values.specs.View.{val_of}
use Rattle.values.specs.declared.value.Value.{Value}
use Rattle.sends.specs.Vats.{coming_in, nothing, references}
use Rattle.eval_messages.proofs.Behind.{did_leave}
use Rattle.eval_rules.specs.Doings.{behind}
use Rattle.eval_rules.specs.View.{at}
use Rattle.turn_deliveries.specs.Turn.{list_coming}
use Rattle.turn.proofs.calls.bring_list.Goals as goal

pub returns-in-List : goal.returns-in-List
returns-in-List c =
    let a = at c.args.w.now in
    let end = c.args.lead.now.end in
    let fences = c.args.lead.now.fences.value in
    let is = ap (λ (v : Value). behind (coming_in fences (references (val_of v))) a) c.in-List.is ∙ ap (λ (v : Value). behind (list_coming fences (val_of v)) a) (sym c.in-List.is) in
    on_ok_weaker c.receive.result (λ came. did_leave (coming_in c.deref.result.now (references (val_of end))) a c.args.w.now.draft c.receive.new.draft nothing came c.receive.ensures.turn ∙ ap (λ f. behind (coming_in f (references (val_of end))) a) c.deref.ensures ∙ is) c.receive.ensures.did
