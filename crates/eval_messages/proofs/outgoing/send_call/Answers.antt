use Rattle.std.proofs.Common.{refl, ap, sym, ◌∙◌}
use Rattle.ids.specs.declared.names.VatNo.{VatNo}
use Rattle.ids.specs.declared.names.PromId.{PromId}
use Rattle.eval_rules.specs.Doings.{send_of, send_end, send_out, behind}
use Rattle.eval_rules.specs.View.{at}
use Rattle.sends.specs.View.{making_of, sent_of}
use Rattle.values.specs.View.{val_of, vals_of}
use Rattle.eval_messages.proofs.Behind.{did_give, did_leave}
use Rattle.eval_messages.proofs.Made.{did_as, still_next, nothing_made}
use Rattle.eval_messages.proofs.Rooms.{send_drawn, sent_in_room}
use Rattle.eval_messages.proofs.outgoing.send_call.Goals as goal

pub post_call-requires-clause-message : goal.post_call-requires-clause-message
post_call-requires-clause-message c =
    let result : VatNo → PromId = λ home. record { event = c.draw-draw.result.event; index = c.draw-draw.result.index; home = home } in
    let room = sent_in_room c.draw-draw.result.here c.draw-draw.result.message c.draw-draw.result.room result (val_of c.args.receiver.now) (vals_of c.args.args.now) _ _ c.args.w.now.draft c.send.new.draft c.in_ok-making.ensures.did (ap (making_of sent_of) c.in-Makes.is) in
    c.draw-draw.ensures.message room ∙ still_next (at c.args.w.now) c.args.w.now.draft c.send.new.draft c.in_ok-making.ensures.turn

pub returns-in_ok-post_call-in-Makes : goal.returns-in_ok-post_call-in-Makes
returns-in_ok-post_call-in-Makes c =
    let a = at c.args.w.now in
    let d = c.args.w.now.draft in
    let e = c.send.new.draft in
    let f = send_of (val_of c.args.receiver.now) (vals_of c.args.args.now) a in
    let draws = c.draw-draw.ensures in
    let result : VatNo → PromId = λ home. record { event = c.draw-draw.result.event; index = c.draw-draw.result.index; home = home } in
    let did = did_as _ f d e _ (send_drawn a c.draw-draw.result.here c.draw-draw.result.message c.draw-draw.result.room result (val_of c.args.receiver.now) (vals_of c.args.args.now) draws.here draws.message draws.room draws.promise) c.in_ok-making.ensures.did in
    let given = did_give f a d e _ did ∙ ap (making_of sent_of) c.in-Makes.is in
    let leave = did_leave f a d e _ did c.in_ok-making.ensures.turn in (
      c.in_ok-post_call-in-Makes.ensures.end ∙ ap send_end (sym given),
      c.in_ok-post_call-in-Makes.ensures.place ∙ (λ i. send_out c.args.verb.now (sym given i) (leave i)),
    )

pub returns-in-Refused : goal.returns-in-Refused
returns-in-Refused c =
    let a = at c.args.w.now in
    let d = c.args.w.now.draft in
    let e = c.send.new.draft in
    let f = send_of (val_of c.args.receiver.now) (vals_of c.args.args.now) a in
    let draws = c.draw-draw.ensures in
    let result : VatNo → PromId = λ home. record { event = c.draw-draw.result.event; index = c.draw-draw.result.index; home = home } in
    let did = did_as _ f d e _ (send_drawn a c.draw-draw.result.here c.draw-draw.result.message c.draw-draw.result.room result (val_of c.args.receiver.now) (vals_of c.args.args.now) draws.here draws.message draws.room draws.promise) c.in_ok-making.ensures.did in
    let given = did_give f a d e _ did ∙ ap (making_of sent_of) c.in-Refused.is in
    let leave = did_leave f a d e _ did c.in_ok-making.ensures.turn in
    nothing_made c.refused.result c.refused.new.w _ _ send_end (send_out c.args.verb.now) _ (behind f a) given refl refl leave c.refused.ensures
