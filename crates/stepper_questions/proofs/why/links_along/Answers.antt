use Rattle.std.proofs.Common.{◌≡◌, ◌-◌, ◌<◌, length, drop, subst, arith}
use Rattle.journal.specs.Journals.{items_of}
use Rattle.journal.specs.Lines.{lines_of}
use Rattle.causality.proofs.Telling.{journal_tells}
use Rattle.stepper_questions.specs.WhyView.{AreLinks}
use Rattle.stepper_questions.proofs.Linking.{some_places, place_low, place_high, place_link, links_begin, links_next}
use Rattle.stepper_questions.proofs.why.links_along.Goals as goal

pub overflow_sub-left : goal.overflow_sub-left
overflow_sub-left c =
    let j = c.args.journal in
    omega (arith, some_places (lines_of (items_of j)) (journal_tells (items_of j) c.requires.journal) _ _ c.args.places.now c.requires.chain)

pub loop-left-init : goal.loop-left-init
loop-left-init c =
    let j = c.args.journal in
    let some = some_places (lines_of (items_of j)) (journal_tells (items_of j) c.requires.journal) _ _ c.args.places.now c.requires.chain in
    record {
      within = omega (arith, some);
      known = links_begin (lines_of (items_of j)) c.args.places.now (length c.args.places.now - 1) _ c.new-links.ensures.items (omega (arith, some));
    }

pub link_of-requires-clause-behind : goal.link_of-requires-clause-behind
link_of-requires-clause-behind c =
    let j = c.args.journal in
    place_low (lines_of (items_of j)) (journal_tells (items_of j) c.requires.journal) _ _ c.args.places.now c.requires.chain c.loop-left.left c.loop-left.invariant.within

pub link_of-requires-clause-there : goal.link_of-requires-clause-there
link_of-requires-clause-there c =
    let j = c.args.journal in
    let lt : c.loop-left.left < length c.args.places.now = c.loop-left.invariant.within in
    place_high (lines_of (items_of j)) (journal_tells (items_of j) c.requires.journal) _ _ c.args.places.now c.requires.chain (c.loop-left.left - 1) (omega arith)

pub link_of-requires-clause-link : goal.link_of-requires-clause-link
link_of-requires-clause-link c =
    let j = c.args.journal in
    place_link (lines_of (items_of j)) (journal_tells (items_of j) c.requires.journal) _ _ c.args.places.now c.requires.chain c.loop-left.left c.loop-left-test.true c.loop-left.invariant.within

pub loop-left-preserved : goal.loop-left-preserved
loop-left-preserved c =
    let lt : c.loop-left.left < length c.args.places.now = c.loop-left.invariant.within in
    record {
      within = omega arith;
      known = links_next (lines_of (items_of c.args.journal)) c.args.places.now c.loop-left.left c.loop-left.links.items _ _ c.in_ok-push.ensures.items c.loop-left-test.true lt c.loop-left.invariant.known c.in_ok-link_of.ensures;
    }

pub returns : goal.returns
returns c =
    let none : c.loop-left.left ≡ 0 = omega (arith, c.loop-left-test.false) in
    subst (λ n. AreLinks (lines_of (items_of c.args.journal)) (drop n c.args.places.now) c.loop-left.links.items) none c.loop-left.invariant.known
