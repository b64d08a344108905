use Rattle.std.proofs.Common.{Option, Some, None, ℕ, map, reverse, sym, subst, ◌∙◌}
use Rattle.journal.specs.Items.{item_of, last_of}
use Rattle.journal.specs.Journals.{items_of}
use Rattle.causality.specs.Missing.{met_back}
use Rattle.causality.specs.Walks.{stays}
use Rattle.causality.proofs.Collecting.{place_falls}
use Rattle.causality.proofs.Missed.{Going, going_in, going_on, goes_down, gone, going_within, going_open}
use Rattle.causality.proofs.missing.met_back.Goals as goal

pub loop-place-init : goal.loop-place-init
loop-place-init c =
    let j = c.args.journal in
    let all = items_of j in
    let names = c.args.names.now in
    let k = c.args.cell.now.key in
    subst (λ o. Going names all k o None (met_back (stays names) k (last_of c.args.cell.now).1 (reverse all))) (sym c.absent_place-place.ensures)
    (going_in j.places.now all names k j.placed c.requires c.args.cell.now.writer)

pub writer_at-requires-clause-there : goal.writer_at-requires-clause-there
writer_at-requires-clause-there c = going_within c.args.names.now (items_of c.args.journal) c.args.cell.now.key c.loop-place.place c.loop-place.oldest _ c.in-Some.here c.in-Some.is c.loop-place.invariant

pub writer_at-requires-clause-wrote : goal.writer_at-requires-clause-wrote
writer_at-requires-clause-wrote c = λ i at.
    going_open c.args.names.now c.args.journal.settled.now (map item_of c.args.journal.entries.now) c.args.cell.now.key c.loop-place.place c.loop-place.oldest _ c.in-Some.here c.in-Some.is c.loop-place.invariant i at

pub loop-place-smaller : goal.loop-place-smaller
loop-place-smaller c =
    let j = c.args.journal in
    place_falls c.absent_place-place-in-Some.result c.loop-place.place c.in-Some.here c.in-Some.is
    (λ p is. goes_down j.places.now (items_of j) c.args.names.now c.args.cell.now.key j.placed c.requires c.in-Some.here c.writer_at.result c.loop-place.place c.loop-place.oldest _ c.in-Some.is
    c.writer_at.ensures c.loop-place.invariant p (sym c.absent_place-place-in-Some.ensures ∙ is))

pub loop-place-preserved : goal.loop-place-preserved
loop-place-preserved c =
    let j = c.args.journal in
    let all = items_of j in
    let names = c.args.names.now in
    let k = c.args.cell.now.key in
    let wanted : Option ℕ = met_back (stays names) k (last_of c.args.cell.now).1 (reverse all) in
    subst (λ o. Going names all k o (Some c.in-Some.here) wanted) (sym c.absent_place-place-in-Some.ensures)
    (going_on j.places.now all names k j.placed c.requires c.in-Some.here c.writer_at.result c.loop-place.place c.loop-place.oldest wanted c.in-Some.is c.writer_at.ensures c.loop-place.invariant)

pub returns : goal.returns
returns c = gone c.args.names.now (items_of c.args.journal) c.args.cell.now.key c.loop-place.place c.loop-place.oldest _ c.in_default.is c.loop-place.invariant
