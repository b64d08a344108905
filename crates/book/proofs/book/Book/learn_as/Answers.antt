use Rattle.std.proofs.Common.{◌≡◌, ◌∙◌, Some, None, ap, sym, subst}
use Rattle.std.proofs.lemmas.Result.{IfOk-weaker, IfErr-weaker}
use Rattle.kernele.specs.Tree.{Name}
use Rattle.post.specs.MessageView.{vat_of}
use Rattle.world_cells.specs.World.{vat_in, vat_named}
use Rattle.book_refusals.specs.Fault.{Tells}
use Rattle.book_refusals.specs.Refusals.{no_vat}
use Rattle.book.specs.BookView.{book_of}
use Rattle.book.proofs.Learnings.{nameless, named_learning}
use Rattle.book.proofs.book.Book.learn_as.Goals as goal

pub returns-in-None-clause-err : goal.returns-in-None-clause-err
returns-in-None-clause-err c =
    let none : vat_named (book_of c.args.self.now).world c.args.name.now ≡ None = ap vat_in (sym c.in-None.ensures) in
    nameless (book_of c.args.self.now) c.args.name.now c.args.promise none ∙ ap (λ (y : Name). Some (no_vat y)) (sym c.in_ok-share-in-None.ensures)

pub returns-clause-ok : goal.returns-clause-ok
returns-clause-ok c =
    let b = book_of c.args.self.now in
    let x = c.args.name.now in
    let v = vat_of c.in-Some.vat.now in
    let named : vat_named b.world x ≡ Some v = ap vat_in (sym c.in-Some.ensures) in
    IfOk-weaker c.learn_at.result _ _ (λ e h. (named_learning b x v c.args.promise named ∙ h.0, (v, h.1.0, named, h.1.1))) c.learn_at.ensures.ok

pub returns-clause-err : goal.returns-clause-err
returns-clause-err c =
    let b = book_of c.args.self.now in
    let x = c.args.name.now in
    let v = vat_of c.in-Some.vat.now in
    let named : vat_named b.world x ≡ Some v = ap vat_in (sym c.in-Some.ensures) in
    IfErr-weaker c.learn_at.result _ _ (λ f h. subst (Tells f) (sym (named_learning b x v c.args.promise named)) h) c.learn_at.ensures.err
