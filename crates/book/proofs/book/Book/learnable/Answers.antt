use Rattle.std.proofs.Common.{◌≡◌, ◌∙◌, sym, ap, subst}
use Rattle.history.specs.Records.{contents}
use Rattle.post.specs.Messages.{Published}
use Rattle.post.specs.MessageView.{published_of}
use Rattle.world_cells.specs.Theory.{cells}
use Rattle.world_cells.specs.View.{world_of}
use Rattle.book.specs.BookView.{book_of}
use Rattle.book.specs.Calls.{CanLearn}
use Rattle.book.proofs.Admitting.{closed_learning, unpublished_learning, some_learning, learns_it}
use Rattle.book.proofs.book.Book.learnable.Goals as goal

pub returns-then-not-is_open-clause-err : goal.returns-then-not-is_open-clause-err
returns-then-not-is_open-clause-err c =
    let b = book_of c.args.self.now in
    let w = world_of c.world-world.result.now in
    let same : w ≡ b.world = ap (contents cells) c.world-world.ensures in
    closed_learning b w same c.args.vat c.args.promise (sym c.is_open.ensures ∙ c.if-not-is_open.true)

pub returns-in-None-clause-err : goal.returns-in-None-clause-err
returns-in-None-clause-err c =
    let b = book_of c.args.self.now in
    let w = world_of c.world-world.result.now in
    let same : w ≡ b.world = ap (contents cells) c.world-world.ensures in
    unpublished_learning b w same c.args.vat c.args.promise (sym c.in-None.ensures)

pub returns-in_ok-share-in-Some-clause-ok : goal.returns-in_ok-share-in-Some-clause-ok
returns-in_ok-share-in-Some-clause-ok c =
    let b = book_of c.args.self.now in
    let w = world_of c.world-world.result.now in
    let same : w ≡ b.world = ap (contents cells) c.world-world.ensures in
    some_learning b w same c.args.vat c.args.promise (published_of c.in-Some.published.now) (sym c.is_open.ensures ∙ c.if-not-is_open.false) (sym c.in-Some.ensures)

pub returns-in_ok-share-in-Some-clause-can : goal.returns-in_ok-share-in-Some-clause-can
returns-in_ok-share-in-Some-clause-can c =
    let b = book_of c.args.self.now in
    let w = world_of c.world-world.result.now in
    let same : w ≡ b.world = ap (contents cells) c.world-world.ensures in
    subst (λ (q : Published). CanLearn b.world c.args.vat c.args.promise q) (sym c.in_ok-share-in-Some.ensures)
    (learns_it b w same c.args.vat c.args.promise (published_of c.in-Some.published.now) (sym c.is_open.ensures ∙ c.if-not-is_open.false) (sym c.in-Some.ensures))
