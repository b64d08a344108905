use Rattle.std.proofs.Common.{◌≡◌, ◌+◌, List, [], drop, map, reverse, ap, subst}
use Rattle.std.proofs.lemmas.List.{drop_all}
use Rattle.world_cells.specs.EventView.{event_of}
use Rattle.world_cells.specs.Events.{Event}
use Rattle.world_cells.specs.View.{world_of}
use Rattle.event_ordering.proofs.Runs.{runs_in_order}
use Rattle.world.proofs.Going.{Joined, joined_start, joined_step, joined_end, tells_run, from_here}
use Rattle.world.proofs.run.plain_run.Goals as goal

pub loop-event-init : goal.loop-event-init
loop-event-init c = joined_start (world_of c.new-world.result) (map event_of c.args.events.now) (λ i k. (c.new-world.ensures.nothing k i).0)

pub returns-clause-ok : goal.returns-clause-ok
returns-clause-ok c =
    let w = world_of c.loop-event.world in
    let xs = c.args.events.now in
    let none : map event_of (drop c.loop-event.event-index xs) ≡ [] = ap (map event_of) (drop_all c.loop-event.event-index xs c.loop-event-test.false) in
    joined_end (map event_of xs) w (subst (λ (es : List Event). Joined w es (map event_of xs)) none c.loop-event.invariant)

pub returns-clause-order : goal.returns-clause-order
returns-clause-order c own = runs_in_order (reverse (map event_of c.args.events.now)) (world_of c.loop-event.world) (returns-clause-ok c) own

pub returns-in-Err-clause-err : goal.returns-in-Err-clause-err
returns-in-Err-clause-err c =
    let xs = c.args.events.now in
    let i = c.loop-event.event-index in
    let e = c.event-item.result in
    let w = world_of c.loop-event.world in
    let here = from_here (map event_of) xs i e c.loop-event-test.true c.event-item.is in
    tells_run c.in-Err.fault (event_of e) (map event_of (drop (i + 1) xs)) (map event_of xs) w (subst (λ (es : List Event). Joined w es (map event_of xs)) here c.loop-event.invariant) c.in-Err.ensures.err

pub loop-event-preserved : goal.loop-event-preserved
loop-event-preserved c =
    let xs = c.args.events.now in
    let i = c.loop-event.event-index in
    let e = c.event-item.result in
    let w = world_of c.loop-event.world in
    let here = from_here (map event_of) xs i e c.loop-event-test.true c.event-item.is in
    joined_step (event_of e) (map event_of (drop (i + 1) xs)) (map event_of xs) w (world_of c.step.new.world) (subst (λ (es : List Event). Joined w es (map event_of xs)) here c.loop-event.invariant) c.in-Ok.ensures.ok
