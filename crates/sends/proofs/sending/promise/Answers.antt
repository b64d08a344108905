use Rattle.std.proofs.Common.{◌≡◌, ap, ◌∙◌, subst}
use Rattle.ids.specs.declared.names.ObjId.{ObjId}
use Rattle.heap.specs.State.{object_cell, made, resolver}
use Rattle.heap.specs.Drafts.{Counts}
use Rattle.sends.specs.Making.{makes, promising}
use Rattle.sends.specs.Playing.{Did, next_object}
use Rattle.sends.proofs.Did.{written_one}
use Rattle.sends.proofs.Messages.{did_promise}
use Rattle.sends.proofs.sending.promise.Goals as goal

pub returns-clause-did : goal.returns-clause-did
returns-clause-did c =
    let named : Counts → ObjId = λ n. record { event = n.event; index = n.objects; vat = n.vat } in
    let its : c.in_ok-resolver.resolver ≡ next_object c.args.draft.now = c.in_ok-resolver.ensures.named ∙ ap named c.in_ok-come_in.ensures.turn.counts in
    subst (λ (o : ObjId). Did (promising c.args.room c.args.promise o) c.args.draft.now (makes c.in_ok-resolver.resolver) c.new_object.new.self) its
    (did_promise c.args.room c.args.promise c.in_ok-resolver.resolver c.args.draft.now c.come_in.new.draft c.new_object.new.self c.if-not-room.false c.in_ok-come_in.ensures.did
    (written_one (object_cell c.in_ok-resolver.resolver) (made (resolver c.args.promise)) c.come_in.new.draft c.new_object.new.self c.in_ok-resolver.ensures.made c.in_ok-resolver.ensures.touched c.in_ok-resolver.ensures.written))
