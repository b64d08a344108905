use Rattle.std.proofs.Common.{◌≡◌, ◌≤◌, true, List, length, take, refl, sym, ap, subst, arith}
use Rattle.std.specs.List.{AllByRecursion}
use Rattle.std.proofs.lemmas.List.{length-map}
use Rattle.history.specs.Records.{State}
use Rattle.world_cells.specs.Theory.{cells}
use Rattle.journal.specs.Items.{Item, item_of}
use Rattle.undo.specs.CoreView.{settled_of}
use Rattle.desk.specs.DeskView.{out_of}
use Rattle.book.specs.BookView.{book_of}
use Rattle.book.specs.Calls.{BaseGoesOn}
use Rattle.book.proofs.Blank.{stands_run}
use Rattle.book.proofs.Entering.{stands_same}
use Rattle.book.proofs.Noting.{noted_same}
use Rattle.book.proofs.Settling.{open_same, never_less, base_goes_on, book_settled}
use Rattle.book.proofs.book.Book.settle.Goals as goal

pub settle-requires-clause-within : goal.settle-requires-clause-within
settle-requires-clause-within c =
    let same = ap length (open_same c.journal.result c.args.self.now.core c.journal.ensures.items c.journal.ensures.settled) in
    let many = length-map c.journal.result.entries.now item_of in
    omega (arith, c.in_ok-count.ensures.there.1, same, many)

pub settle-requires-clause-live : goal.settle-requires-clause-live
settle-requires-clause-live c =
    subst (λ (items : List Item). AllByRecursion (λ i. i.live ≡ true) (take c.in_ok-count.count items)) (open_same c.journal.result c.args.self.now.core c.journal.ensures.items c.journal.ensures.settled) c.in_ok-count.ensures.live

pub invariant_of-self : goal.invariant_of-self
invariant_of-self c =
    let b = c.args.self.now in
    let same = ap (λ (j : List Item × State cells). length j.0) c.settle.ensures.shown in
    let more : settled_of b.core ≤ settled_of c.settle.new.self = never_less c.in_ok-count.count c.settle.result c.settle.ensures.ok c.settle.ensures.err in
    record {
      in_range = b.in_range;
      stands = stands_same b.core c.settle.new.self b.next (out_of b.desk) c.settle.ensures.shown b.stands;
      within = omega (arith, same, more, b.within);
      noted = noted_same b.core c.settle.new.self b.agenda c.settle.ensures.shown b.noted;
    }

pub returns-clause-base : goal.returns-clause-base
returns-clause-base c =
    let b = c.args.self.now in
    let more : settled_of b.core ≤ settled_of c.settle.new.self = omega (arith, c.in_ok-settle.ensures.ok) in
    subst (BaseGoesOn (book_of b)) (sym (book_settled b.core c.settle.new.self b.next (out_of b.desk) (settled_of c.settle.new.self) c.settle.ensures.shown refl))
    (base_goes_on (book_of b) (settled_of c.settle.new.self) more (stands_run b.core b.next (out_of b.desk) b.stands))
