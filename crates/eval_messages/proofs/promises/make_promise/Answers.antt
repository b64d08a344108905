use Rattle.std.proofs.Common.{◌+◌, ltb, refl, ap, sym, ◌∙◌}
use Rattle.heap.specs.Drafts.{counts_of}
use Rattle.eval_rules.specs.At.{At}
use Rattle.eval_rules.specs.Doings.{next_promise, next_object, pair_end, pair_out, promise_pair, behind}
use Rattle.eval_rules.specs.Outcomes.{value}
use Rattle.eval_rules.specs.View.{at}
use Rattle.sends.specs.Making.{promising}
use Rattle.sends.specs.View.{making_of, and_resolver}
use Rattle.values.specs.Data.{and_val, list, no_vals, object, promise}
use Rattle.eval_messages.proofs.Behind.{did_give, did_leave, did_leave_resolver}
use Rattle.eval_messages.proofs.Made.{did_as, nothing_made}
use Rattle.eval_messages.proofs.promises.make_promise.Goals as goal

pub returns-in_ok-into-in-Makes : goal.returns-in_ok-into-in-Makes
returns-in_ok-into-in-Makes c =
    let a = at c.args.w.now in
    let d = c.args.w.now.draft in
    let e = c.promise.new.draft in
    let f = promise_pair a in
    let name = c.draw-draw.ensures.promise c.draw-draw.result.here ∙ ap (next_promise a) c.draw-draw.ensures.here in
    let did = did_as _ f d e _ (λ i. promising (ltb (c.object_count-room.ensures i) 4096) (name i) (next_object a)) c.in_ok-making.ensures.did in
    let given = did_give f a d e _ did ∙ ap (making_of (λ o. o)) c.in-Makes.is in
    let leave = did_leave_resolver f a d e _ did (c.in_ok-making.ensures.counts ∙ ap (λ m. and_resolver m (counts_of d)) c.in-Makes.is) c.promise.ensures.began in (
      ap value c.in_ok-into-in-Makes.ensures ∙ ap (λ p. value (list (and_val (promise p) (and_val (object c.in-Makes.resolver) no_vals)))) name ∙ (λ i. pair_end (sym given i) a),
      ap (λ (z : At). record z { out = record a.out { promises = a.out.promises + 1 } }) leave ∙ ap (λ m. pair_out m (behind f a)) (sym given),
    )

pub returns-in-Refused : goal.returns-in-Refused
returns-in-Refused c =
    let a = at c.args.w.now in
    let d = c.args.w.now.draft in
    let e = c.promise.new.draft in
    let f = promise_pair a in
    let name = c.draw-draw.ensures.promise c.draw-draw.result.here ∙ ap (next_promise a) c.draw-draw.ensures.here in
    let did = did_as _ f d e _ (λ i. promising (ltb (c.object_count-room.ensures i) 4096) (name i) (next_object a)) c.in_ok-making.ensures.did in
    let given = did_give f a d e _ did ∙ ap (making_of (λ o. o)) c.in-Refused.is in
    let leave = did_leave f a d e _ did (record { counts = c.in_ok-making.ensures.counts ∙ ap (λ m. and_resolver m (counts_of d)) c.in-Refused.is; began = c.promise.ensures.began }) in
    nothing_made c.refused.result c.refused.new.w _ _ (λ m. pair_end m a) pair_out _ (behind f a) given refl refl leave c.refused.ensures
