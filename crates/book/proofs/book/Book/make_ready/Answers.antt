use Rattle.std.proofs.Common.{◌∙◌, ℕ, ◌≤◌, List, All, sym, ap, ap₂, subst}
use Rattle.journal.specs.Items.{Item}
use Rattle.journal.specs.Lines.{lines_of}
use Rattle.causality.specs.Journals.{IsJournal}
use Rattle.causality.specs.Selections.{first_settled, places_from}
use Rattle.undo.specs.CoreView.{items_of, settled_of}
use Rattle.desk.specs.DeskView.{out_of}
use Rattle.book.proofs.Choosing.{stands_journal, places_within}
use Rattle.book.proofs.Entering.{stands_same}
use Rattle.book.proofs.Noting.{noted_same}
use Rattle.book.proofs.Within.{within_same}
use Rattle.book.proofs.book.Book.make_ready.Goals as goal

pub positions-requires-clause-journal : goal.positions-requires-clause-journal
positions-requires-clause-journal c =
    let b = c.args.self.now in
    subst IsJournal (sym c.journal.ensures.items) (stands_journal b.core b.next (out_of b.desk) b.stands)

pub positions-requires-clause-open : goal.positions-requires-clause-open
positions-requires-clause-open c = ap₂ (λ n (items : List Item). first_settled c.args.names.now n (lines_of items)) c.journal.ensures.settled c.journal.ensures.items ∙ c.requires

pub written_at-requires-clause-within : goal.written_at-requires-clause-within
written_at-requires-clause-within c =
    places_within c.args.names.now (items_of c.args.self.now.core) c.deref.result.now
    (c.deref.ensures.value ∙ c.in_ok-positions.ensures.places ∙ ap (λ (items : List Item). places_from 0 c.args.names.now (lines_of items)) c.journal.ensures.items)

pub prepare-requires-clause-within : goal.prepare-requires-clause-within
prepare-requires-clause-within c =
    places_within c.args.names.now (items_of c.args.self.now.core) c.deref-2.result.now
    (c.deref-2.ensures.value ∙ c.in_ok-positions.ensures.places ∙ ap (λ (items : List Item). places_from 0 c.args.names.now (lines_of items)) c.journal.ensures.items)

pub written_at-requires-clause-behind : goal.written_at-requires-clause-behind
written_at-requires-clause-behind c =
    subst (λ (ps : List ℕ). All (λ p. settled_of c.args.self.now.core ≤ p) ps) (sym c.deref.ensures.value)
    (subst (λ n. All (λ p. n ≤ p) c.in_ok-positions.positions.items) c.journal.ensures.settled c.in_ok-positions.ensures.behind)

pub prepare-requires-clause-behind : goal.prepare-requires-clause-behind
prepare-requires-clause-behind c =
    subst (λ (ps : List ℕ). All (λ p. settled_of c.args.self.now.core ≤ p) ps) (sym c.deref-2.ensures.value)
    (subst (λ n. All (λ p. n ≤ p) c.in_ok-positions.positions.items) c.journal.ensures.settled c.in_ok-positions.ensures.behind)

pub invariant_of-self-2 : goal.invariant_of-self-2
invariant_of-self-2 c =
    let b = c.args.self.now in
    record { in_range = b.in_range; stands = stands_same b.core c.prepare.new.self b.next (out_of b.desk) c.prepare.ensures.shown b.stands; within = within_same b.core c.prepare.new.self c.prepare.ensures.shown c.prepare.ensures.settled b.within; noted = noted_same b.core c.prepare.new.self b.agenda c.prepare.ensures.shown b.noted }
