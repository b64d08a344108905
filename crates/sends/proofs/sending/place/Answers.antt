use Rattle.std.proofs.Common.{Option, List, subst, sym, ap, ◌∙◌}
use Rattle.ids.specs.declared.names.PromId.{PromId}
use Rattle.ids.specs.declared.names.VatNo.{VatNo}
use Rattle.ids.specs.declared.reference.Reference.{Reference}
use Rattle.cells.specs.Doing.{Under}
use Rattle.heap.specs.State.{Cell, Content}
use Rattle.values.specs.declared.value.Value.{Value}
use Rattle.values.specs.View.{val_of, vals_of}
use Rattle.sends.specs.Vats.{sent_after, leaving, references_in, comes_in, nothing}
use Rattle.sends.specs.Making.{Making, Sent, makes}
use Rattle.sends.specs.Playing.{under, Did}
use Rattle.sends.proofs.Messages.{did_place}
use Rattle.sends.proofs.sending.place.Goals as goal

pub returns-clause-did : goal.returns-clause-did
returns-clause-did c =
    let result : VatNo → PromId = λ home. record { event = c.args.draw.event; index = c.args.draw.index; home = home } in
    let sent : VatNo → Making Sent × Under Cell Content = λ v. (makes (record { target = val_of c.args.target; arguments = vals_of c.args.arguments.items; fences = c.in_ok-fences.fences; after = c.in_ok-after.after; result = result v }), under c.come_in.new.draft) in
    did_place c.args.draw.here c.args.draw.message result (val_of c.args.target) (vals_of c.args.arguments.items) c.in_ok-after.after c.in_ok-fences.fences c.args.draft.now c.send_on.new.draft c.leave_all.new.draft c.come_in.new.draft
    (subst (λ (t : Option Reference). Did (sent_after c.args.draw.message t) c.args.draft.now c.in_ok-after.after c.send_on.new.draft) c.reference_of.ensures c.in_ok-after.ensures.did)
    (subst (λ (vs : List Value). Did (leaving (references_in (vals_of vs))) c.send_on.new.draft c.in_ok-fences.fences c.leave_all.new.draft) c.as_slice.ensures.value c.in_ok-fences.ensures.did)
    (subst (λ (v : VatNo). Did (comes_in (result v)) c.leave_all.new.draft nothing c.come_in.new.draft) c.home_of.ensures c.in_ok-come_in.ensures.did)
    ∙ ap sent (sym c.home_of.ensures)
