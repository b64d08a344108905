use Rattle.std.proofs.Common.{◌≡◌, ◌||◌, map, sym, ap, ◌∙◌, subst}
use Rattle.journal.specs.Items.{number_of}
use Rattle.journal.specs.Journals.{items_of, settled_item}
use Rattle.journal.specs.Lines.{writer_of}
use Rattle.causality.specs.Causes.{IsWriter, has_place, reached_at}
use Rattle.causality.proofs.Following.{named_place, all_place}
use Rattle.causality.proofs.Collecting.{reached_first, place_within, reached_more, older_place, writer_wrote, some_there, before_there, place_falls, none_more}
use Rattle.causality.proofs.Telling.{journal_tells}
use Rattle.causality.proofs.Written.{writers_wrote, found_writer}
use Rattle.causality.proofs.causes.follow.Goals as goal

pub loop-place-init : goal.loop-place-init
loop-place-init c =
    let items = items_of c.args.journal in
    let k = c.args.cell.now.key in
    let w = c.args.cell.now.writer in
    record {
      reached = λ q. ap (λ b. has_place c.args.places.now.keys q || b)
          (ap (λ o. reached_at items k (named_place items o) q) c.writer_place-place.ensures ∙ reached_first items c.args.journal.places.now c.args.journal.placed k w q);
      within = λ p is. place_within items c.args.journal.places.now c.args.journal.placed w p (sym c.writer_place-place.ensures ∙ is);
      wrote = λ p is i at. writer_wrote items c.args.journal.places.now c.args.journal.placed k w c.requires.wrote p (sym c.writer_place-place.ensures ∙ is) i at;
    }

pub writer_at-requires-clause-there : goal.writer_at-requires-clause-there
writer_at-requires-clause-there c = c.loop-place.invariant.within c.in-Some.here c.in-Some.is

pub writer_at-requires-clause-wrote : goal.writer_at-requires-clause-wrote
writer_at-requires-clause-wrote c = λ i at.
    c.loop-place.invariant.wrote c.in-Some.here c.in-Some.is i (before_there (map settled_item c.args.journal.settled.now) _ c.in-Some.here i at)

pub loop-place-smaller : goal.loop-place-smaller
loop-place-smaller c =
    let items = items_of c.args.journal in
    let here = c.in-Some.here in
    let (i, at) = some_there items here (c.loop-place.invariant.within here c.in-Some.is) in
    place_falls c.writer_place-place-in-Some.result c.loop-place.place here c.in-Some.is
    (λ p is. older_place items c.args.journal.places.now c.args.journal.placed c.requires.journal c.args.cell.now.key here i at c.writer_at.result (c.writer_at.ensures i at) p (sym c.writer_place-place-in-Some.ensures ∙ is))

pub loop-place-preserved : goal.loop-place-preserved
loop-place-preserved c =
    let items = items_of c.args.journal in
    let k = c.args.cell.now.key in
    let here = c.in-Some.here in
    let w = c.writer_at.result in
    let (i, at) = some_there items here (c.loop-place.invariant.within here c.in-Some.is) in
    let writer : number_of w ≡ writer_of i k = c.writer_at.ensures i at in
    let wrote : IsWriter items k (number_of w) = subst (IsWriter items k) (sym writer)
    (found_writer items k i.lasts (all_place _ items (writers_wrote items (journal_tells items c.requires.journal)) here i at)) in
    record {
      reached = λ q.
          ap (λ o. has_place c.insert.new.self.keys q || reached_at items k (named_place items o) q) c.writer_place-place-in-Some.ensures
          ∙ reached_more items c.args.journal.places.now c.args.journal.placed c.requires.journal k here i at w writer c.loop-place.places.keys c.insert.new.self.keys c.in_ok-insert.ensures.updates.0 q
          ∙ ap (λ o. has_place c.loop-place.places.keys q || reached_at items k (named_place items o) q) (sym c.in-Some.is)
          ∙ c.loop-place.invariant.reached q;
      within = λ p is. place_within items c.args.journal.places.now c.args.journal.placed w p (sym c.writer_place-place-in-Some.ensures ∙ is);
      wrote = λ p is j there. writer_wrote items c.args.journal.places.now c.args.journal.placed k w wrote p (sym c.writer_place-place-in-Some.ensures ∙ is) j there;
    }

pub returns : goal.returns
returns c = λ q.
    let items = items_of c.args.journal in
    none_more items c.args.cell.now.key c.loop-place.places.keys q
    ∙ ap (λ o. has_place c.loop-place.places.keys q || reached_at items c.args.cell.now.key (named_place items o) q) (sym c.in_default.is)
    ∙ c.loop-place.invariant.reached q
