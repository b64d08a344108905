use Rattle.std.proofs.Common.{List, ap, sym, subst}
use Rattle.history.specs.Records as theory
use Rattle.heap.specs.State.{State}
use Rattle.post.specs.MessageView.{published_of}
use Rattle.world_cells.specs.Events.{learn}
use Rattle.world_cells.specs.World.{vat_state}
use Rattle.world_cells.specs.Theory.{cells}
use Rattle.event.specs.Learning.{Learns}
use Rattle.event.specs.Effects.{BringsLearnt, Happens}
use Rattle.journal.specs.Items.{Item}
use Rattle.journal.specs.Lines.{lines_of}
use Rattle.undo.specs.CoreView.{items_of, swaps_of}
use Rattle.desk.specs.DeskView.{out_of}
use Rattle.book.specs.Books.{Book}
use Rattle.book.specs.BookView.{book_of}
use Rattle.book.specs.Calls.{EntersNext}
use Rattle.book.proofs.Admitting.{learnt_happens}
use Rattle.book.proofs.Entering.{stands_same, book_same}
use Rattle.book.proofs.Counting.{counts_from}
use Rattle.book.proofs.Noting.{noted_same}
use Rattle.book.proofs.Within.{within_same}
use Rattle.book.proofs.book.Book.learn_at.Goals as goal

pub invariant_of-self : goal.invariant_of-self
invariant_of-self c =
    let b = c.args.self.now in
    record {
      in_range = b.in_range;
      stands = stands_same b.core _ b.next (out_of b.desk) c.share_vat.ensures.shown b.stands;
      within = within_same b.core c.share_vat.new.self c.share_vat.ensures.shown c.share_vat.ensures.settled b.within;
      noted = noted_same b.core c.share_vat.new.self b.agenda c.share_vat.ensures.shown b.noted;
    }

pub enter_event-requires-clause-possible : goal.enter_event-requires-clause-possible
enter_event-requires-clause-possible c =
    let s = c.args.self.now in
    let b = book_of s in
    let e = c.in_ok-event.event in
    let v = c.args.vat in
    let p = c.args.promise in
    let q = published_of c.in_ok-event.published in
    let same = book_same s.core c.share_vat.new.self s.next (out_of s.desk) c.share_vat.ensures.shown c.share_vat.ensures.settled in
    let learns : Learns (vat_state b.world v) p q c.in_ok-footprint.footprint = subst (λ (u : State). Learns u p q c.in_ok-footprint.footprint) c.in_ok-state.ensures.shared c.in_ok-footprint.ensures in
    let h = learnt_happens b.world v p e q c.in_ok-effects.effects c.in_ok-event.ensures.ok.can (c.in_ok-effects.ensures b.world q learns) in
    (h.0, subst (λ (k : Book). Happens (record { name = e; act = learn v p }) h.0 k.world c.in_ok-effects.effects) (sym same) h.1)

pub enter_event-requires-clause-quiet : goal.enter_event-requires-clause-quiet
enter_event-requires-clause-quiet c =
    let b = book_of c.args.self.now in
    let v = c.args.vat in
    let p = c.args.promise in
    let q = published_of c.in_ok-event.published in
    let learns : Learns (vat_state b.world v) p q c.in_ok-footprint.footprint = subst (λ (u : State). Learns u p q c.in_ok-footprint.footprint) c.in_ok-state.ensures.shared c.in_ok-footprint.ensures in
    let brings : BringsLearnt c.in_ok-event.event b.world v p q c.in_ok-effects.effects = c.in_ok-effects.ensures b.world q learns in
    brings.quiet

pub returns-clause-ok : goal.returns-clause-ok
returns-clause-ok c =
    let s = c.args.self.now in
    let b = book_of s in
    let e = c.in_ok-event.event in
    let v = c.args.vat in
    let p = c.args.promise in
    let q = published_of c.in_ok-event.published in
    let same = book_same s.core c.share_vat.new.self s.next (out_of s.desk) c.share_vat.ensures.shown c.share_vat.ensures.settled in
    let learns : Learns (vat_state b.world v) p q c.in_ok-footprint.footprint = subst (λ (u : State). Learns u p q c.in_ok-footprint.footprint) c.in_ok-state.ensures.shared c.in_ok-footprint.ensures in
    let h = learnt_happens b.world v p e q c.in_ok-effects.effects c.in_ok-event.ensures.ok.can (c.in_ok-effects.ensures b.world q learns) in
    let enters = c.in_ok-enter_event.ensures.ok h.0 (subst (λ (k : Book). Happens (record { name = e; act = learn v p }) h.0 k.world c.in_ok-effects.effects) (sym same) h.1) in
    (c.in_ok-event.ensures.ok.refusal, (h.0, subst (λ (k : Book). EntersNext (record { name = e; act = learn v p }) h.0 c.args.seat k (book_of c.enter_event.new.self)) same enters))

pub returns-clause-counted : goal.returns-clause-counted
returns-clause-counted c =
    let b = c.args.self.now in
    let same = ap (λ (j : List Item × theory.State cells). lines_of j.0) c.share_vat.ensures.shown in
    counts_from (lines_of (items_of b.core)) (lines_of (items_of c.share_vat.new.self)) (book_of c.enter_event.new.self).journal (swaps_of b.core) (swaps_of c.share_vat.new.self) (swaps_of c.enter_event.new.self.core) same c.share_vat.ensures.counted c.in_ok-enter_event.ensures.counted
