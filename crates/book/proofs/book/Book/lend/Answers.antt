use Rattle.std.proofs.Common.{◌+◌, sym, subst, arith}
use Rattle.post.specs.MessageView.{message_of}
use Rattle.desk.specs.DeskView.{out_of}
use Rattle.book.specs.BookView.{book_of}
use Rattle.book.specs.Standing.{Stands}
use Rattle.book.proofs.Entering.{stands_same}
use Rattle.book.proofs.Checkouts.{vat_is_free}
use Rattle.book.proofs.TicketsOut.{stands_lent}
use Rattle.book.proofs.Noting.{noted_same}
use Rattle.book.proofs.Within.{within_same}
use Rattle.book.proofs.book.Book.lend.Goals as goal

pub invariant_of-self : goal.invariant_of-self
invariant_of-self c =
    let b = c.args.self.now in
    record { in_range = b.in_range; stands = stands_same b.core _ b.next (out_of b.desk) c.share_vat.ensures.shown b.stands; within = within_same b.core c.share_vat.new.self c.share_vat.ensures.shown c.share_vat.ensures.settled b.within; noted = noted_same b.core c.share_vat.new.self b.agenda c.share_vat.ensures.shown b.noted }

pub invariant_of-self-in-Break-branch-4 : goal.invariant_of-self-in-Break-branch-4
invariant_of-self-in-Break-branch-4 c =
    let b = c.args.self.now in
    record {
      in_range = b.in_range;
      stands = subst (Stands c.share_vat.new.self b.next) (sym c.in_err-lend.ensures.err) (stands_same b.core _ b.next (out_of b.desk) c.share_vat.ensures.shown b.stands);
      within = within_same b.core c.share_vat.new.self c.share_vat.ensures.shown c.share_vat.ensures.settled b.within;
      noted = noted_same b.core c.share_vat.new.self b.agenda c.share_vat.ensures.shown b.noted;
    }

pub invariant_of-self-2 : goal.invariant_of-self-2
invariant_of-self-2 c =
    let b = c.args.self.now in
    let admitted = c.in_ok-carried.ensures.ok in
    record {
      in_range = omega (arith, c.in_ok-carried.ensures.in_range);
      stands = subst (Stands c.share_vat.new.self (b.next + 1)) (sym c.in_ok-lend.ensures.ok)
          (stands_lent c.share_vat.new.self b.next (out_of b.desk) _ admitted.named (vat_is_free (book_of b) c.args.message c.args.budget (message_of c.in_ok-carried.carried) c.in_ok-carried.vat admitted.waiting admitted.there admitted.refusal) (stands_same b.core _ b.next (out_of b.desk) c.share_vat.ensures.shown b.stands));
      within = within_same b.core c.share_vat.new.self c.share_vat.ensures.shown c.share_vat.ensures.settled b.within;
      noted = noted_same b.core c.share_vat.new.self b.agenda c.share_vat.ensures.shown b.noted;
    }
