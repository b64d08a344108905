use Rattle.std.proofs.Common.{◌≡◌, ◌∙◌, sym, ap, subst}
use Rattle.std.specs.Option.{option_map}
use Rattle.std.proofs.lemmas.Bool.{false≢true}
use Rattle.std.proofs.lemmas.Result.{on_ok_weaker, IfErr-weaker, IfOk-weaker}
use Rattle.history.specs.Records.{contents}
use Rattle.ids.specs.declared.cells.CellKey.TheVariants as key
use Rattle.heap.specs.Found.{Found}
use Rattle.post.specs.MessageView.{message_of}
use Rattle.world_cells.specs.Theory.{cells}
use Rattle.world_cells.specs.View.{world_of}
use Rattle.post.specs.Messages.{Message}
use Rattle.world_cells.specs.World.{World, message, vat_state}
use Rattle.event.specs.ReadyView.{IsWay}
use Rattle.book.specs.BookView.{book_of}
use Rattle.book.specs.Calls.{LeadsAsBefore}
use Rattle.book.specs.TurnFaults.{TellsLost}
use Rattle.book.proofs.Committing.{same_message, fresh_waiting, none_waits}
use Rattle.book.proofs.Freshness.{lost_stale}
use Rattle.book.proofs.book.Book.check_fresh.Goals.{in_default-via-in-Some+then-is_at+then-is_at-2+else-is_found_at, in_default-via-in-Some+then-is_at+else-is_at-2, in_default-via-in-Some+else-is_at, in_default-via-in_default}
use Rattle.book.proofs.book.Book.check_fresh.Goals as goal

pub returns-in-Some-clause-ok : goal.returns-in-Some-clause-ok
returns-in-Some-clause-ok c =
    let b = book_of c.args.self.now in
    let r = c.args.ran.now in
    let same : world_of c.world-world.result.now ≡ b.world = ap (contents cells) c.world-world.ensures in
    let there = c.is_at-then-is_at.ensures.0 c.if-is_at-2.true in
    on_ok_weaker c.same_way.result (λ leads. record {
      waiting = fresh_waiting b r.carried (message_of c.in-Some.message.now) c.requires
          (ap (λ (w : World). w (key.Msg r.carried.name)) (sym same) ∙ sym c.message.ensures ∙ ap (option_map (λ g. message (message_of g.now))) c.in-Some.is)
          (c.is_at.ensures.0 c.if-is_at.true) there;
      there = there;
      leads = subst (λ (w : World). LeadsAsBefore w r.carried) same leads;
      found = subst (λ (w : World). Found r.outcome.footprint (vat_state w r.carried.vat)) same (c.is_found_at.ensures.0 c.if-is_found_at.true);
    }) c.same_way.ensures.ok

pub returns-in-Some-clause-way : goal.returns-in-Some-clause-way
returns-in-Some-clause-way c =
    let b = book_of c.args.self.now in
    let r = c.args.ran.now in
    let same : world_of c.world-world.result.now ≡ b.world = ap (contents cells) c.world-world.ensures in
    IfOk-weaker c.same_way.result _ _ (λ way h. subst (λ (w : World). IsWay w r.carried.vat (message_of r.carried.message) way) same h) c.same_way.ensures.way

pub returns-in-Some-clause-err : goal.returns-in-Some-clause-err
returns-in-Some-clause-err c =
    let b = book_of c.args.self.now in
    let r = c.args.ran.now in
    let same : world_of c.world-world.result.now ≡ b.world = ap (contents cells) c.world-world.ensures in
    IfErr-weaker c.same_way.result _ _ (λ f h. lost_stale f b r (subst (λ (w : World). TellsLost f w r.carried) same h)) c.same_way.ensures.err

pub returns-in_default-clause-err : goal.returns-in_default-clause-err
returns-in_default-clause-err c =
    let b = book_of c.args.self.now in
    let r = c.args.ran.now in
    let same : world_of c.world-world.result.now ≡ b.world = ap (contents cells) c.world-world.ensures in
    λ k.
    elim c.in_default.branch [
      | in_default-via-in-Some+then-is_at+then-is_at-2+else-is_found_at w ↦
          false≢true (sym w.if-is_found_at.false ∙ w.is_found_at.ensures.1 (subst (λ (v : World). Found r.outcome.footprint (vat_state v r.carried.vat)) (sym same) k.found))
      | in_default-via-in-Some+then-is_at+else-is_at-2 w ↦ false≢true (sym w.if-is_at-2.false ∙ w.is_at-then-is_at.ensures.1 k.there)
      | in_default-via-in-Some+else-is_at w ↦
          false≢true (sym w.if-is_at.false ∙ w.is_at.ensures.1 (ap (λ (g : Message). g.place)
          (same_message _ _ (ap (option_map (λ g. message (message_of g.now))) (sym w.in-Some.is) ∙ c.message.ensures ∙ ap (λ (v : World). v (key.Msg r.carried.name)) same ∙ k.waiting)) ∙ k.there))
      | in_default-via-in_default w ↦ none_waits c.message.result (λ g. message_of g.now) w.in_default.is (c.message.ensures ∙ ap (λ (v : World). v (key.Msg r.carried.name)) same ∙ k.waiting)
    ]
