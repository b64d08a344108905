use Rattle.std.proofs.Common.{option_map, ap, ◌∙◌}
use Rattle.ids.specs.declared.names.PromId.{PromId}
use Rattle.ids.specs.declared.names.VatNo.{VatNo}
use Rattle.values.specs.View.{val_of, vals_of}
use Rattle.sends.specs.Making.{makes, refused, turn_too_large, send_placed}
use Rattle.sends.specs.Playing.{under}
use Rattle.sends.specs.View.{sent_of, refusal_of}
use Rattle.sends.proofs.Messages.{no_receiver, no_arguments, all_are, has_room, has_none}
use Rattle.sends.proofs.sending.send.Goals as goal

pub returns-in_default-clause-did : goal.returns-in_default-clause-did
returns-in_default-clause-did c =
    let result : VatNo → PromId = λ home. record { event = c.args.draw.event; index = c.args.draw.index; home = home } in
    no_receiver c.args.draw.here c.args.draw.message result c.args.draw.room (val_of c.args.receiver.now) (vals_of c.args.arguments.now) (refusal_of c.in_ok-refuse.field-0) c.args.draft.now c.settle.new.draft
    (c.in_ok-target.ensures.did ∙ ap (λ o. (option_map val_of o, under c.settle.new.draft)) c.in_default.is) c.in_ok-refuse.ensures

pub returns-in_default-2-clause-did : goal.returns-in_default-2-clause-did
returns-in_default-2-clause-did c =
    let result : VatNo → PromId = λ home. record { event = c.args.draw.event; index = c.args.draw.index; home = home } in
    no_arguments c.args.draw.here c.args.draw.message result c.args.draw.room (val_of c.args.receiver.now) (vals_of c.args.arguments.now) (val_of c.in-Some.target) (refusal_of c.in_ok-refuse-2.field-0) c.args.draft.now c.settle.new.draft c.settle_all.new.draft
    (c.in_ok-target.ensures.did ∙ ap (λ o. (option_map val_of o, under c.settle.new.draft)) c.in-Some.is)
    (c.in_ok-arguments.ensures.did ∙ ap (λ o. (option_map (λ r. vals_of r.items) o, under c.settle_all.new.draft)) c.in_default-2.is) c.in_ok-refuse-2.ensures

pub returns-then-not-draw-clause-did : goal.returns-then-not-draw-clause-did
returns-then-not-draw-clause-did c =
    let result : VatNo → PromId = λ home. record { event = c.args.draw.event; index = c.args.draw.index; home = home } in
    all_are c.args.draw.here c.args.draw.message result c.args.draw.room (val_of c.args.receiver.now) (vals_of c.args.arguments.now) (val_of c.in-Some.target) (vals_of c.in-Some-2.arguments.items) (refused turn_too_large) c.args.draft.now c.settle.new.draft c.settle_all.new.draft c.settle_all.new.draft
    (c.in_ok-target.ensures.did ∙ ap (λ o. (option_map val_of o, under c.settle.new.draft)) c.in-Some.is)
    (c.in_ok-arguments.ensures.did ∙ ap (λ o. (option_map (λ r. vals_of r.items) o, under c.settle_all.new.draft)) c.in-Some-2.is)
    (has_none c.args.draw.room (send_placed c.args.draw.here c.args.draw.message result (val_of c.in-Some.target) (vals_of c.in-Some-2.arguments.items)) c.settle_all.new.draft c.if-not-draw.true)

pub returns-clause-did : goal.returns-clause-did
returns-clause-did c =
    let result : VatNo → PromId = λ home. record { event = c.args.draw.event; index = c.args.draw.index; home = home } in
    all_are c.args.draw.here c.args.draw.message result c.args.draw.room (val_of c.args.receiver.now) (vals_of c.args.arguments.now) (val_of c.in-Some.target) (vals_of c.in-Some-2.arguments.items) (makes (sent_of c.in_ok-place.field-0)) c.args.draft.now c.settle.new.draft c.settle_all.new.draft c.place.new.draft
    (c.in_ok-target.ensures.did ∙ ap (λ o. (option_map val_of o, under c.settle.new.draft)) c.in-Some.is)
    (c.in_ok-arguments.ensures.did ∙ ap (λ o. (option_map (λ r. vals_of r.items) o, under c.settle_all.new.draft)) c.in-Some-2.is)
    (has_room c.args.draw.room (send_placed c.args.draw.here c.args.draw.message result (val_of c.in-Some.target) (vals_of c.in-Some-2.arguments.items)) (makes (sent_of c.in_ok-place.field-0)) c.settle_all.new.draft c.place.new.draft c.if-not-draw.false c.in_ok-place.ensures.did)
