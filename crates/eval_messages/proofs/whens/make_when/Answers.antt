use Rattle.std.proofs.Common.{◌≡◌, false, refl, ap, sym, subst, ◌∙◌}
use Rattle.std.specs.Prelude.{option_map}
use Rattle.code.specs.Frames.{fits_all}
use Rattle.code.specs.View.{trees_of_codes}
use Rattle.heap.specs.Names.{names_of}
use Rattle.heap.specs.View.{nouns_of}
use Rattle.post.specs.Blocks.{handler_fits}
use Rattle.post.specs.DeliveryView.{handler_of}
use Rattle.heap.specs.Drafts.{Counts}
use Rattle.post.specs.Delivery.{When}
use Rattle.eval_rules.specs.Doings.{next_promise, wait_of, wait_end, wait_out, behind}
use Rattle.eval_rules.specs.Outcomes.{value}
use Rattle.eval_rules.specs.View.{at}
use Rattle.sends.specs.View.{making_of}
use Rattle.values.specs.View.{val_of}
use Rattle.values.specs.Data.{promise}
use Rattle.eval_messages.proofs.Behind.{did_give, did_leave, with_draft}
use Rattle.eval_messages.proofs.Made.{did_as, still_next, when_posted, nothing_made}
use Rattle.eval_messages.proofs.Rooms.{wait_drawn, waits_in_room}
use Rattle.eval_messages.proofs.whens.make_when.Goals as goal

pub invariant_of-when : goal.invariant_of-when
invariant_of-when c =
    let shared = sym c.in_ok-captured-in-Makes.ensures.ok in
    let same = sym c.in_ok-block-in-Makes.ensures in
    record {
      fits = subst (λ b. fits_all false (names_of c.in_ok-captured-in-Makes.captured.value.items) b.items) same (subst (λ ns. fits_all false (names_of ns.items) c.args.block.now.value.items) shared c.requires.fits);
      handled = subst (λ ns. handler_fits (names_of ns.items) c.args.handler) shared c.requires.handled;
    }

pub returns-in_ok-post-in-Makes : goal.returns-in_ok-post-in-Makes
returns-in_ok-post-in-Makes c =
    let a = at c.args.w.now in
    let d = c.args.w.now.draft in
    let e = c.wait.new.draft in
    let f = wait_of (val_of c.args.value) a in
    let draws = c.draw-draw.ensures in
    let turn = c.in_ok-making.ensures.turn in
    let name = draws.promise c.draw-draw.result.here ∙ ap (next_promise a) draws.here in
    let room = waits_in_room c.draw-draw.result.room _ (val_of c.args.value) _ c.in-Makes.condition d e c.in_ok-making.ensures.did (ap (making_of (λ p. p)) c.in-Makes.is) in
    let did = did_as _ f d e _ (wait_drawn a c.draw-draw.result.room _ (val_of c.args.value) draws.room name) c.in_ok-making.ensures.did in
    let given = did_give f a d e _ did ∙ ap (making_of (λ p. p)) c.in-Makes.is in
    let leave = did_leave f a d e _ did turn in
    let noted : When = record {
      value = val_of c.args.value;
      captured = nouns_of c.in_ok-captured-in-Makes.captured.value.items;
      block = trees_of_codes c.in_ok-block-in-Makes.block.value.items;
      handler = option_map handler_of c.args.handler;
    } in
    let block : When = record {
      value = val_of c.args.value;
      captured = nouns_of c.args.captured.items;
      block = trees_of_codes c.args.block.now.value.items;
      handler = option_map handler_of c.args.handler;
    } in
    let made : noted ≡ block = λ i. record {
      value = val_of c.args.value;
      captured = nouns_of (c.in_ok-captured-in-Makes.ensures.ok i).items;
      block = trees_of_codes (c.in_ok-block-in-Makes.ensures i).items;
      handler = option_map handler_of c.args.handler;
    } in (
      ap (λ p. value (promise p)) name ∙ (λ i. wait_end (sym given i) a),
      when_posted (with_draft e a) _ _ c.in-Makes.condition _ c.draw-draw.result.here c.draw-draw.result.message _
          (draws.here ∙ ap (λ (n : Counts). n.vat) (sym turn.counts)) (draws.message room ∙ still_next a d e turn)
          (name ∙ ap (λ (n : Counts). record { event = n.event; index = a.out.promises; home = n.vat }) (sym turn.counts))
          c.in_ok-message-in-Makes.ensures c.in_ok-post-in-Makes.ensures
          ∙ (λ i. wait_out (made i) (sym given i) (leave i)),
    )

pub returns-in-Refused : goal.returns-in-Refused
returns-in-Refused c =
    let a = at c.args.w.now in
    let d = c.args.w.now.draft in
    let e = c.wait.new.draft in
    let f = wait_of (val_of c.args.value) a in
    let draws = c.draw-draw.ensures in
    let name = draws.promise c.draw-draw.result.here ∙ ap (next_promise a) draws.here in
    let did = did_as _ f d e _ (wait_drawn a c.draw-draw.result.room _ (val_of c.args.value) draws.room name) c.in_ok-making.ensures.did in
    let given = did_give f a d e _ did ∙ ap (making_of (λ p. p)) c.in-Refused.is in
    let leave = did_leave f a d e _ did c.in_ok-making.ensures.turn in
    let block : When = record {
      value = val_of c.args.value;
      captured = nouns_of c.args.captured.items;
      block = trees_of_codes c.args.block.now.value.items;
      handler = option_map handler_of c.args.handler;
    } in
    nothing_made c.refused.result c.refused.new.w _ _ (λ m. wait_end m a) (wait_out block) _ (behind f a) given refl refl leave c.refused.ensures
