use Rattle.std.proofs.Common.{◌+◌, ◌∙◌, ◌||◌, length, map, get_or, drop, ap, arith}
use Rattle.std.proofs.lemmas.List.{at_drop_more}
use Rattle.history.specs.Chains.{is_name}
use Rattle.ids.specs.declared.names.EventName.{EventName}
use Rattle.journal.specs.Items.{item_of}
use Rattle.causality.specs.Causes.{has_place}
use Rattle.causality.specs.Placed.{is_follower, place_if}
use Rattle.causality.proofs.Placed.{placed_more, placed_all}
use Rattle.causality.proofs.cone.add_listed.Goals as goal

pub loop-follower-preserved : goal.loop-follower-preserved
loop-follower-preserved c = λ q.
    let j = c.args.journal in
    let xs = c.args.followers.now in
    let i = c.loop-follower.follower-index in
    let d : EventName = record { 0 = 0 } in
    let old = c.loop-follower.places.keys in
    placed_more (place_if j.places.now (is_follower c.args.event.0 (map item_of j.entries.now) (length j.settled.now))) (get_or xs i d) (drop i xs) (drop (i + 1) xs) (at_drop_more (λ ys. ys) xs i d c.loop-follower-test.true) old c.add_place.new.places.keys
    (λ r. c.in_ok-add_place.ensures r ∙ ap (λ o. is_name o r || has_place old r) c.follower_place.ensures) q
    ∙ c.loop-follower.invariant q

pub returns : goal.returns
returns c = λ q.
    let j = c.args.journal in
    placed_all (place_if j.places.now (is_follower c.args.event.0 (map item_of j.entries.now) (length j.settled.now))) c.args.followers.now c.loop-follower.follower-index (omega (arith, c.loop-follower-test.false)) c.loop-follower.places.keys q
    ∙ c.loop-follower.invariant q
