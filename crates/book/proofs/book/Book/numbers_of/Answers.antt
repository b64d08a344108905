use Rattle.std.proofs.Common.{◌∙◌, Some, ap, sym}
use Rattle.kernele.specs.Tree.{Name}
use Rattle.post.specs.MessageView.{vat_of}
use Rattle.world_cells.specs.World.{vat_in}
use Rattle.book_refusals.specs.Refusals.{no_vat}
use Rattle.book.specs.BookView.{book_of}
use Rattle.event.proofs.Naming.{numbers_more, numbers_all}
use Rattle.book.proofs.Named.{absent_at, none_absent}
use Rattle.book.proofs.book.Book.numbers_of.Goals as goal

pub loop-name-preserved : goal.loop-name-preserved
loop-name-preserved c =
    numbers_more (book_of c.args.self.now).world c.args.names.now c.loop-name.name-index c.name-item.result (vat_of c.in-Some.vat.now) c.loop-name.numbers.items c.push.new.self.items c.loop-name-test.true c.name-item.is (ap vat_in (sym c.in-Some.ensures))
    c.in_ok-push.ensures.items c.loop-name.invariant

pub returns-in_default-clause-err : goal.returns-in_default-clause-err
returns-in_default-clause-err c =
    absent_at (book_of c.args.self.now).world c.args.names.now c.loop-name.numbers.items c.loop-name.name-index c.name-item.result c.loop-name.invariant c.loop-name-test.true c.name-item.is (ap vat_in (sym c.in_default.ensures))
    ∙ ap (λ (x : Name). Some (no_vat x)) (sym c.in_ok-share.ensures)

pub returns-clause-numbers : goal.returns-clause-numbers
returns-clause-numbers c = numbers_all (book_of c.args.self.now).world c.args.names.now c.loop-name.name-index c.loop-name.numbers.items c.loop-name-test.false c.loop-name.invariant

pub returns-clause-ok : goal.returns-clause-ok
returns-clause-ok c =
    none_absent (book_of c.args.self.now).world c.args.names.now c.loop-name.numbers.items
    (numbers_all (book_of c.args.self.now).world c.args.names.now c.loop-name.name-index c.loop-name.numbers.items c.loop-name-test.false c.loop-name.invariant)
