use Rattle.std.proofs.Common.{◌+◌, ◌<◌, All, subst, rules}
use Rattle.book.specs.BookView.{book_of}
use Rattle.bench.proofs.Agrees.{below_next, none_seated, counted_none}
use Rattle.bench.proofs.under_lock.SharedBook.new.Goals as goal

pub invariant_of-result : goal.invariant_of-result
invariant_of-result g c =
    let r = c.requires in
    let b = book_of c.args.book in
    let entries = subst (λ n. All (λ l. l.seat < n + 1) b.journal) r.began.1 (below_next (λ l. l.seat) c.args.before b.journal r.greatest.entries) in
    let tickets = subst (λ n. All (λ t. t.seat < n + 1) b.out) r.began.1 (below_next (λ t. t.seat) c.args.before b.out r.greatest.tickets) in
    (r.keeper.0, r.began.1, none_seated _ _ _ b r.keeper.1 r.began.0 entries tickets, counted_none _ _ b (search rules) r.began.0, search rules, search rules, search rules)
