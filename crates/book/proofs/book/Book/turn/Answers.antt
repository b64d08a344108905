use Rattle.std.proofs.Common.{◌≡◌, ◌∙◌, inr, refl, sym, ap, subst}
use Rattle.desk.specs.DeskView.{out_of}
use Rattle.post.specs.MessageView.{message_of}
use Rattle.event.specs.ReadyView.{IsWay}
use Rattle.turn_deliveries.specs.Outcomes.{told_of}
use Rattle.turn_deliveries.specs.declared.outcome.Outcome.{Outcome}
use Rattle.turn.specs.declared.ticket.Out.{Out}
use Rattle.turn.specs.declared.ticket.Task.{Task}
use Rattle.turn.specs.declared.ticket.Ran.{Ran}
use Rattle.book_refusals.specs.declared.fault.BookFault.{BookFault}
use Rattle.book.specs.Books.{Book}
use Rattle.book.specs.BookView.{book_of, swaps_of}
use Rattle.book.specs.Calls.{lent_of, turn_in, IsKnown, IsFresh, Commits}
use Rattle.book.specs.TurnFaults.{Unturned}
use Rattle.desk.specs.Desks.{without}
use Rattle.book.proofs.Committing.{lent_known, lent_fresh, lent_room, lent_way, turned, struck}
use Rattle.book.proofs.Counting.{counts_from}
use Rattle.book.proofs.TicketsOut.{lent_without}
use Rattle.book.proofs.book.Book.turn.Goals as goal

pub returns-in-Err-clause-unchanged : goal.returns-in-Err-clause-unchanged
returns-in-Err-clause-unchanged c =
    let s = c.args.self.now in
    let t = c.in_ok-ticket.ticket in
    let lends = c.in_ok-ticket.ensures.ok.1 in
    let back = lent_without s.core s.next (out_of s.desk) (lent_of t.carried) lends.named s.stands in
    let number = ap (λ (o : Task). o.event) c.carried.ensures ∙ ap (λ (k : Out). k.carried.event) c.in-Err.ensures.err in
    subst (λ (f : BookFault). Unturned f (book_of s) (book_of c.drop_turn.new.self)) (sym c.drop_turn.ensures.same)
    (inr (struck c.args.message c.args.budget 0 t (book_of s) (book_of c.lend.new.self) _ c.carried.result.now.event lends number back c.drop_turn.ensures.gone))

pub returns-in_default-clause-unchanged : goal.returns-in_default-clause-unchanged
returns-in_default-clause-unchanged c =
    let s = c.args.self.now in
    let t = c.in_ok-ticket.ticket in
    let lends = c.in_ok-ticket.ensures.ok.1 in
    let back = lent_without s.core s.next (out_of s.desk) (lent_of t.carried) lends.named s.stands in
    let number = ap (λ (r : Ran). r.carried.event) c.ran.ensures ∙ ap (λ (o : Task). o.event) c.in-Ok.ensures.ok in
    subst (λ (f : BookFault). Unturned f (book_of s) (book_of c.drop_turn-in_default.new.self)) (sym c.drop_turn-in_default.ensures.same)
    (inr (struck c.args.message c.args.budget 0 t (book_of s) (book_of c.lend.new.self) _ c.ran.result.now.carried.event lends number back c.drop_turn-in_default.ensures.gone))

pub enter_ran-requires : goal.enter_ran-requires
enter_ran-requires c =
    let t = c.in_ok-ticket.ticket in
    let r = c.in-Ok.ran in
    let lent = c.in_ok-ticket.ensures.ok in
    let old = book_of c.args.self.now in
    let mid = book_of c.lend.new.self in
    let there : c.ran-2.result.now ≡ r = c.ran-2.ensures in
    let back : r ≡ c.ran-2.result.now = sym there in
    record {
      known = subst (λ (x : Ran). IsKnown mid x.carried) back (lent_known c.args.message c.args.budget 0 t old mid r lent.1 c.in-Ok.ensures.ok c.in-Ok.ensures.found lent.0);
      fresh = subst (IsFresh mid) back (lent_fresh c.args.message c.args.budget 0 t old mid r lent.1 c.in-Ok.ensures.ok c.in-Ok.ensures.found lent.0);
      room = lent_room c.args.message c.args.budget 0 t old mid r lent.1 c.in-Ok.ensures.ok c.in-Ok.ensures.found lent.0;
      way = subst (λ (x : Ran). IsWay mid.world x.carried.vat (message_of x.carried.message) c.in_ok-ticket.way) back
          (lent_way c.args.message c.args.budget 0 t old mid r lent.1 c.in-Ok.ensures.ok c.in-Ok.ensures.found lent.0 c.in_ok-ticket.way c.in_ok-ticket.ensures.way);
    }

pub returns-in-Ok-enter_ran-clause-ok : goal.returns-in-Ok-enter_ran-clause-ok
returns-in-Ok-enter_ran-clause-ok c =
    let s = c.args.self.now in
    let t = c.in_ok-ticket.ticket in
    let r = c.in-Ok.ran in
    let lends = c.in_ok-ticket.ensures.ok.1 in
    let back = lent_without s.core s.next (out_of s.desk) (lent_of t.carried) lends.named s.stands in
    let mid = book_of c.lend.new.self in
    let now = book_of c.enter_ran.new.self in
    let committed = subst (λ (x : Ran). Commits x mid now) c.ran-2.ensures c.in-Ok-enter_ran.ensures.ok in
    let u = turn_in mid.world r in (
      c.in_ok-ticket.ensures.ok.0,
      (
        u,
        turned c.args.message c.args.budget 0 t (book_of s) mid r lends c.in-Ok.ensures.ok c.in-Ok.ensures.found c.in_ok-ticket.ensures.ok.0 u now c.ran.result.now.carried.event refl (ap (λ (x : Ran). x.carried.event) c.ran.ensures) refl back committed,
        c.in-Ok-share.ensures ∙ ap (λ (o : Outcome). told_of o.ended) c.outcome.ensures,
      ),
    )

pub returns-in-Ok-enter_ran-clause-counted : goal.returns-in-Ok-enter_ran-clause-counted
returns-in-Ok-enter_ran-clause-counted c =
    let s = c.args.self.now in
    let mid = c.lend.new.self in
    let same = ap (λ (b : Book). b.journal) c.in_ok-ticket.ensures.ok.1.lent in
    counts_from (book_of s).journal (book_of mid).journal (book_of c.enter_ran.new.self).journal (swaps_of s) (swaps_of mid) (swaps_of c.enter_ran.new.self) same c.lend.ensures.counted c.in-Ok-enter_ran.ensures.counted

pub returns-clause-unchanged : goal.returns-clause-unchanged
returns-clause-unchanged c =
    let s = c.args.self.now in
    let t = c.in_ok-ticket.ticket in
    let lends = c.in_ok-ticket.ensures.ok.1 in
    let back = lent_without s.core s.next (out_of s.desk) (lent_of t.carried) lends.named s.stands in
    let number = ap (λ (r : Ran). r.carried.event) c.ran.ensures ∙ ap (λ (o : Task). o.event) c.in-Ok.ensures.ok in
    let gone = c.drop_turn-in-Err-enter_ran.ensures.gone ∙ ap (λ (k : Book). record k { out = without c.ran.result.now.carried.event k.out }) c.in-Err-enter_ran.ensures.unchanged in
    subst (λ (f : BookFault). Unturned f (book_of s) (book_of c.drop_turn-in-Err-enter_ran.new.self)) (sym c.drop_turn-in-Err-enter_ran.ensures.same)
    (inr (struck c.args.message c.args.budget 0 t (book_of s) (book_of c.lend.new.self) _ c.ran.result.now.carried.event lends number back gone))

pub returns-in-Err-clause-none : goal.returns-in-Err-clause-none
returns-in-Err-clause-none c = c.drop_turn.ensures.counted ∙ c.lend.ensures.counted

pub returns-in_default-clause-none : goal.returns-in_default-clause-none
returns-in_default-clause-none c = c.drop_turn-in_default.ensures.counted ∙ c.lend.ensures.counted
