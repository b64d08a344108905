use Rattle.std.proofs.Common.{◌+◌, ◌∙◌, ◌||◌, length, map, drop, ap, arith}
use Rattle.history.specs.Chains.{is_name}
use Rattle.journal.specs.Items.{item_of}
use Rattle.journal.specs.declared.entry.Entry.{Entry}
use Rattle.causality.specs.Causes.{has_place}
use Rattle.causality.specs.Placed.{is_follower, place_if}
use Rattle.causality.proofs.Along.{from_here}
use Rattle.causality.proofs.Placed.{placed_more, placed_all}
use Rattle.causality.proofs.cone.add_any.Goals as goal

pub loop-entry-preserved : goal.loop-entry-preserved
loop-entry-preserved c = λ q.
    let j = c.args.journal in
    let xs = j.entries.now in
    let i = c.loop-entry.entry-index in
    let old = c.loop-entry.places.keys in
    placed_more (λ (x : Entry). place_if j.places.now (is_follower c.args.event.0 (map item_of j.entries.now) (length j.settled.now)) x.event.name) c.entry-item.result (drop i xs) (drop (i + 1) xs) (from_here (λ ys. ys) xs i c.entry-item.result c.loop-entry-test.true c.entry-item.is) old c.add_place.new.places.keys
    (λ r. c.in_ok-add_place.ensures r ∙ ap (λ o. is_name o r || has_place old r) c.follower_place.ensures) q
    ∙ c.loop-entry.invariant q

pub returns : goal.returns
returns c = λ q.
    let j = c.args.journal in
    placed_all (λ (x : Entry). place_if j.places.now (is_follower c.args.event.0 (map item_of j.entries.now) (length j.settled.now)) x.event.name) j.entries.now c.loop-entry.entry-index (omega (arith, c.loop-entry-test.false)) c.loop-entry.places.keys q
    ∙ c.loop-entry.invariant q
