use Rattle.std.proofs.Common.{◌≡◌, ap, ◌∙◌}
use Rattle.std.proofs.Math.Logic.{∥∥₁_map}
use Rattle.history.specs.Records.{contents, swap_state}
use Rattle.history.proofs.Exchanges.{contents_after}
use Rattle.world_cells.specs.EventView.{event_of}
use Rattle.world_cells.specs.Theory.{cells, kepts_of, numbered, state_of_world}
use Rattle.world_cells.specs.View.{seen_of_world}
use Rattle.event.specs.Events.{noted_events}
use Rattle.event.proofs.Law.{noted_laws}
use Rattle.undo.proofs.Positions.{on_err}
use Rattle.world.proofs.step.step.Goals as goal

pub returns-in_err-records-clause-unchanged : goal.returns-in_err-records-clause-unchanged
returns-in_err-records-clause-unchanged c = on_err (seen_of_world c.effects_of.new.world ≡ seen_of_world c.args.world.now) _ c.effects_of.ensures.seen

pub returns-in_err-make_rooms-clause-unchanged : goal.returns-in_err-make_rooms-clause-unchanged
returns-in_err-make_rooms-clause-unchanged c = on_err (seen_of_world c.make_rooms.new.world ≡ seen_of_world c.args.world.now) _ (c.make_rooms.ensures.seen ∙ c.effects_of.ensures.seen)

pub returns-clause-ok : goal.returns-clause-ok
returns-clause-ok c =
    let h = c.in_ok-records.ensures.ok in
    let kept = kepts_of c.in_ok-records.field-0.records.items in
    let state : state_of_world c.make_rooms.new.world ≡ state_of_world c.args.world.now = λ i k. numbered ((c.make_rooms.ensures.seen ∙ c.effects_of.ensures.seen) i k) in
    record {
      foot = h.0;
      does = ∥∥₁_map h.1.does (λ d. d.0);
      step = ap (contents cells) (c.swap_records.ensures.state ∙ ap (λ l. swap_state cells (kepts_of l) (state_of_world c.make_rooms.new.world)) c.deref_mut.ensures.value ∙ ap (swap_state cells kept) state)
          ∙ contents_after noted_events noted_laws (event_of c.args.event.now).name.0 h.0 kept (state_of_world c.args.world.now) h.1.brings.write;
    }
