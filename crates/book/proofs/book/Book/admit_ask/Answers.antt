use Rattle.std.proofs.Common.{◌∙◌, Option, Some, refl, ap, sym}
use Rattle.kernele_scopes.specs.Scope.{checked_program}
use Rattle.post.specs.MessageView.{vat_of}
use Rattle.kernele.specs.Tree.{Name}
use Rattle.kernele.specs.View.{program_of}
use Rattle.world_cells.specs.World.{Content, vat_in}
use Rattle.book_refusals.specs.Refusals.{Refusal, no_vat, first}
use Rattle.book.specs.BookView.{book_of}
use Rattle.book.specs.Refusals.{ask_refusal_by, check_refusal, full_refusal}
use Rattle.book.proofs.book.Book.admit_ask.Goals as goal

pub returns-in_default-clause-err : goal.returns-in_default-clause-err
returns-in_default-clause-err c =
    ap (λ (o : Option Content). ask_refusal_by (vat_in o) (book_of c.args.self.now) c.args.name.now (program_of c.args.program.now)) (sym c.in_default.ensures) ∙ ap (λ (x : Name). Some (no_vat x)) (sym c.in_ok-share.ensures)

pub returns-clause-ok : goal.returns-clause-ok
returns-clause-ok c =
    let b = book_of c.args.self.now in
    let x = c.args.name.now in
    let p = program_of c.args.program.now in
    let named = ap vat_in (sym c.in-Some.ensures) in (
      c.in_ok-event.ensures.ok.0,
      c.in_ok-event.ensures.ok.1,
      (vat_of c.in-Some.vat.now, named, refl),
      ap (λ (o : Option Content). ask_refusal_by (vat_in o) b x p) (sym c.in-Some.ensures)
          ∙ ap (λ s. first (check_refusal (checked_program p s)) (full_refusal b)) (sym c.outer.ensures)
          ∙ ap (λ (o : Option Refusal). first o (full_refusal b)) c.in_ok-check_program.ensures.ok ∙ c.in_ok-event.ensures.ok.2,
    )
