use Rattle.std.proofs.Common.{◌==◌, ◌&&◌, ◌+◌, ◌∙◌, length, map, get_or, drop, arith}
use Rattle.std.proofs.lemmas.List.{at_drop_more}
use Rattle.history.specs.Journal.{is_in}
use Rattle.ids.specs.declared.names.EventName.{EventName}
use Rattle.journal.specs.Items.{item_of}
use Rattle.causality.specs.Placed.{is_outsider}
use Rattle.causality.specs.Selections.{numbers}
use Rattle.causality.proofs.Outsiders.{any_more, any_done}
use Rattle.causality.proofs.parting.add_listed.Goals as goal

pub loop-event-preserved : goal.loop-event-preserved
loop-event-preserved c = λ e.
    let j = c.args.journal in
    let xs = c.args.events.now in
    let i = c.loop-event.event-index in
    let d : EventName = record { 0 = 0 } in
    any_more (λ f. (f.0 == e.0) && is_outsider c.args.names.now (map item_of j.entries.now) (length j.settled.now) j.places.now f) (get_or xs i d) (drop i xs) (drop (i + 1) xs) (is_in (numbers c.loop-event.outsiders.items) e.0) (is_in (numbers c.add_outsider.new.outsiders.items) e.0)
    (at_drop_more (λ ys. ys) xs i d c.loop-event-test.true) (c.in_ok-add_outsider.ensures e)
    ∙ c.loop-event.invariant e

pub returns : goal.returns
returns c = λ e.
    let j = c.args.journal in
    any_done (λ f. (f.0 == e.0) && is_outsider c.args.names.now (map item_of j.entries.now) (length j.settled.now) j.places.now f) c.args.events.now c.loop-event.event-index (omega (arith, c.loop-event-test.false)) (is_in (numbers c.loop-event.outsiders.items) e.0)
    ∙ c.loop-event.invariant e
