use Rattle.std.proofs.Common.{◌==◌, ◌&&◌, ◌+◌, ◌∙◌, length, map, drop, arith}
use Rattle.history.specs.Journal.{is_in}
use Rattle.journal.specs.Items.{item_of}
use Rattle.journal.specs.declared.entry.Entry.{Entry}
use Rattle.causality.specs.Placed.{is_outsider}
use Rattle.causality.specs.Selections.{numbers}
use Rattle.causality.proofs.Along.{from_here}
use Rattle.causality.proofs.Outsiders.{any_more, any_done}
use Rattle.causality.proofs.parting.add_any.Goals as goal

pub loop-entry-preserved : goal.loop-entry-preserved
loop-entry-preserved c = λ e.
    let j = c.args.journal in
    let xs = j.entries.now in
    let i = c.loop-entry.entry-index in
    any_more (λ (x : Entry). (x.event.name.0 == e.0) && is_outsider c.args.names.now (map item_of j.entries.now) (length j.settled.now) j.places.now x.event.name) c.entry-item.result (drop i xs) (drop (i + 1) xs) (is_in (numbers c.loop-entry.outsiders.items) e.0) (is_in (numbers c.add_outsider.new.outsiders.items) e.0)
    (from_here (λ ys. ys) xs i c.entry-item.result c.loop-entry-test.true c.entry-item.is) (c.in_ok-add_outsider.ensures e)
    ∙ c.loop-entry.invariant e

pub returns : goal.returns
returns c = λ e.
    let j = c.args.journal in
    any_done (λ (x : Entry). (x.event.name.0 == e.0) && is_outsider c.args.names.now (map item_of j.entries.now) (length j.settled.now) j.places.now x.event.name) j.entries.now c.loop-entry.entry-index (omega (arith, c.loop-entry-test.false)) (is_in (numbers c.loop-entry.outsiders.items) e.0)
    ∙ c.loop-entry.invariant e
