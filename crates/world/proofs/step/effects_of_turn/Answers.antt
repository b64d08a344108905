use Rattle.std.proofs.Common.{◌≡◌, List, map, ap, subst, ◌∙◌}
use Rattle.std.proofs.lemmas.Result.{err_from_is_err_and}
use Rattle.turn_deliveries.specs.Turn.{Found}
use Rattle.eval_rules.specs.OutboxView.{letter_of}
use Rattle.eval_rules.specs.declared.outbox.Letter.{Letter}
use Rattle.event.specs.Events.{AreNew, letters_from}
use Rattle.world_cells.specs.View.{State, world_of}
use Rattle.world_cells.specs.World.{World, vat_state}
use Rattle.world.specs.Steps.{RunsAt}
use Rattle.world.proofs.Stepping.{turn_done, tells_old}
use Rattle.world.proofs.step.effects_of_turn.Goals as goal

pub returns-clause-ok : goal.returns-clause-ok
returns-clause-ok c =
    let w = world_of c.args.world.now in
    let u = world_of c.run_at.new.world in
    let same : u ≡ w = ap {B = World} (λ (s : State) k. (s k).0) c.in_ok-ran.ensures.seen in
    let e = c.args.event in
    let m = c.args.name in
    let g = c.in_ok-message.message in
    let v = c.args.vat in
    let r = c.in_ok-ran.ran in
    let runs = subst (λ (f : Found). RunsAt w e m c.args.budget g f v r) (c.in_ok-lead.ensures ∙ c.in_ok-message.ensures.way.lead) c.in_ok-ran.ensures.ok in
    let fresh = subst (λ (ls : List Letter). AreNew u (letters_from e 0 (map letter_of ls))) c.as_slice.ensures.value c.in_ok-check_new.ensures.ok in
    turn_done e w m c.args.budget g v r c.in_ok-message.ensures.ok runs u same c.in_ok-message.way c.in_ok-message.ensures.way fresh c.in_ok-turn_effects.field-0 (λ waits new way. c.in_ok-turn_effects.ensures waits new way (vat_state w v))

pub returns-in_err-check_new-clause-err : goal.returns-in_err-check_new-clause-err
returns-in_err-check_new-clause-err c =
    let w = world_of c.args.world.now in
    let u = world_of c.run_at.new.world in
    let same : u ≡ w = ap {B = World} (λ (s : State) k. (s k).0) c.in_ok-ran.ensures.seen in
    let e = c.args.event in
    let m = c.args.name in
    let g = c.in_ok-message.message in
    let v = c.args.vat in
    let r = c.in_ok-ran.ran in
    let fault = c.in_err-check_new.field-0.0 in
    let runs = subst (λ (f : Found). RunsAt w e m c.args.budget g f v r) (c.in_ok-lead.ensures ∙ c.in_ok-message.ensures.way.lead) c.in_ok-ran.ensures.ok in
    let p = err_from_is_err_and c.from_residual-in_err-check_new.result c.from_residual-in_err-check_new.ensures.1 in
    rw (p.1, p.2) (tells_old e w m c.args.budget g v r c.in_ok-message.ensures.ok runs fault u same (rw c.as_slice.ensures.value at c.in_err-check_new.ensures.err))

pub returns-in_err-turn_effects-clause-err : goal.returns-in_err-turn_effects-clause-err
returns-in_err-turn_effects-clause-err c = let p = err_from_is_err_and c.from_residual-in_err-turn_effects.result c.from_residual-in_err-turn_effects.ensures.1 in rw (p.1, p.2) tt
