use Rattle.std.proofs.Common.{◌≡◌, ◌∙◌, ◌-◌, ◌+◌, ◌<◌, Bool, true, List, None, length, sym, ap, ap₂, subst, arith}
use Rattle.std.specs.Prelude.{not, if◌then◌else◌}
use Rattle.history.specs.Records.{State}
use Rattle.world_cells.specs.Theory.{cells}
use Rattle.journal.specs.Items.{Item, may_exchange, neighbours, exchanged}
use Rattle.journal.specs.Lines.{lines_of}
use Rattle.undo.specs.CoreView.{items_of, settled_of, state_of, shown}
use Rattle.desk.specs.DeskView.{out_of}
use Rattle.book_refusals.specs.Refusals.{refuse_where, dependent}
use Rattle.book_refusals.specs.Checks.{StoodAt, placed_refusal}
use Rattle.book.proofs.Choosing.{stands_journal}
use Rattle.book.proofs.Exchanging.{refused_where, book_exchanged, tried_stands}
use Rattle.book.proofs.Noting.{noted_kept}
use Rattle.book.proofs.Within.{within_tried}
use Rattle.book.proofs.book.Book.exchange.Goals as goal

pub exchange-requires-clause-behind : goal.exchange-requires-clause-behind
exchange-requires-clause-behind c =
    let open_at : settled_of c.args.self.now.core < c.args.position = subst (λ n. n < c.args.position) c.journal.ensures.settled c.in_ok-first.ensures.open in omega (arith, open_at)

pub exchange-requires-clause-within : goal.exchange-requires-clause-within
exchange-requires-clause-within c =
    let p = c.args.position in
    let open_at : settled_of c.args.self.now.core < p = subst (λ n. n < p) c.journal.ensures.settled c.in_ok-first.ensures.open in
    let inside : p < length (items_of c.args.self.now.core) = subst (λ (xs : List Item). p < length xs) c.journal.ensures.items c.in_ok-first.ensures.there in
    omega (arith, open_at, inside)

pub invariant_of-self : goal.invariant_of-self
invariant_of-self c =
    let b = c.args.self.now in
    let p = c.args.position in
    let open_at : settled_of b.core < p = subst (λ n. n < p) c.journal.ensures.settled c.in_ok-first.ensures.open in
    let inside : p < length (items_of b.core) = subst (λ (xs : List Item). p < length xs) c.journal.ensures.items c.in_ok-first.ensures.there in
    let there : (p - 1) + 1 < length (items_of b.core) = omega (arith, open_at, inside) in
    record {
      in_range = b.in_range;
      stands = tried_stands b.core c.exchange.new.self b.next (out_of b.desk) (p - 1) there c.exchange.result c.exchange.ensures.done c.exchange.ensures.shown b.stands;
      within = within_tried b.core c.exchange.new.self (p - 1) c.exchange.result c.exchange.ensures.shown c.exchange.ensures.settled b.within;
      noted = noted_kept b.core c.exchange.new.self b.agenda (ap (λ (j : List Item × State cells). j.1) c.exchange.ensures.shown) b.noted;
    }

pub returns-then-exchange-clause-ok : goal.returns-then-exchange-clause-ok
returns-then-exchange-clause-ok c =
    let b = c.args.self.now in
    let p = c.args.position in
    let open_at : settled_of b.core < p = subst (λ n. n < p) c.journal.ensures.settled c.in_ok-first.ensures.open in
    let inside : p < length (items_of b.core) = subst (λ (xs : List Item). p < length xs) c.journal.ensures.items c.in_ok-first.ensures.there in
    let there : (p - 1) + 1 < length (items_of b.core) = omega (arith, open_at, inside) in
    let at : p ≡ (p - 1) + 1 = omega (arith, open_at) in
    let placed : placed_refusal (settled_of b.core) (lines_of (items_of b.core)) p ≡ None =
    ap₂ (λ n (items : List Item). placed_refusal n (lines_of items) p) (sym c.journal.ensures.settled) (sym c.journal.ensures.items) ∙ c.in_ok-first.ensures.ok in
    let stood : StoodAt p (lines_of (items_of b.core)) c.in_ok-first.first c.in_ok-first.second =
    subst (λ (items : List Item). StoodAt p (lines_of items) c.in_ok-first.first c.in_ok-first.second) c.journal.ensures.items c.in_ok-first.ensures.stood in
    let refused = refused_where (items_of b.core) (stands_journal b.core b.next (out_of b.desk) b.stands) (settled_of b.core) p (p - 1) at c.in_ok-first.first c.in_ok-first.second placed stood in
    let may : neighbours may_exchange (p - 1) (items_of b.core) ≡ true = sym c.exchange.ensures.done ∙ c.if-exchange.true in
    let is : shown c.exchange.new.self ≡ (exchanged (p - 1) (items_of b.core), state_of b.core) =
    c.exchange.ensures.shown ∙ ap (λ (r : Bool). (if r then exchanged (p - 1) (items_of b.core) else items_of b.core, state_of b.core)) c.if-exchange.true in (
      refused ∙ ap (λ (r : Bool). refuse_where (not r) (dependent c.in_ok-first.first c.in_ok-first.second)) may,
      book_exchanged b.core c.exchange.new.self b.next (out_of b.desk) (p - 1) there may is b.stands c.exchange.ensures.settled p at,
      stood,
    )

pub returns-else-exchange-clause-err : goal.returns-else-exchange-clause-err
returns-else-exchange-clause-err c =
    let b = c.args.self.now in
    let p = c.args.position in
    let open_at : settled_of b.core < p = subst (λ n. n < p) c.journal.ensures.settled c.in_ok-first.ensures.open in
    let at : p ≡ (p - 1) + 1 = omega (arith, open_at) in
    let placed : placed_refusal (settled_of b.core) (lines_of (items_of b.core)) p ≡ None =
    ap₂ (λ n (items : List Item). placed_refusal n (lines_of items) p) (sym c.journal.ensures.settled) (sym c.journal.ensures.items) ∙ c.in_ok-first.ensures.ok in
    let stood : StoodAt p (lines_of (items_of b.core)) c.in_ok-first.first c.in_ok-first.second =
    subst (λ (items : List Item). StoodAt p (lines_of items) c.in_ok-first.first c.in_ok-first.second) c.journal.ensures.items c.in_ok-first.ensures.stood in
    let refused = refused_where (items_of b.core) (stands_journal b.core b.next (out_of b.desk) b.stands) (settled_of b.core) p (p - 1) at c.in_ok-first.first c.in_ok-first.second placed stood in
    refused ∙ ap (λ (r : Bool). refuse_where (not r) (dependent c.in_ok-first.first c.in_ok-first.second)) (sym c.exchange.ensures.done ∙ c.if-exchange.false)
