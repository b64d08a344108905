use Rattle.std.proofs.Common.{◌≡◌, ap, ◌∙◌}
use Rattle.history.specs.Records.{contents}
use Rattle.world_cells.specs.Theory.{cells}
use Rattle.world_cells.specs.View.{world_of}
use Rattle.desk.specs.DeskView.{out_of}
use Rattle.book.specs.BookView.{book_of}
use Rattle.std.proofs.Common.{sym, subst}
use Rattle.book_agenda.specs.AgendaView.{NotedIn}
use Rattle.undo.specs.CoreView.{state_of}
use Rattle.book.specs.Books.{Book}
use Rattle.book.proofs.Noting.{noted_some, all_told}
use Rattle.book.proofs.book.Book.enabled.Goals as goal

pub invariant_of-self : goal.invariant_of-self
invariant_of-self c =
    let b = c.agenda.new.self in
    record { in_range = b.in_range; stands = b.stands; within = b.within; noted = noted_some c.in_ok-agenda.agenda (state_of b.core) (subst (λ (k : Book). NotedIn k.world c.in_ok-agenda.agenda) (sym c.in_ok-agenda.ensures.same) c.in_ok-agenda.ensures.noted) }

pub returns-clause-all : goal.returns-clause-all
returns-clause-all c =
    let b = book_of c.args.self.now in
    let same : world_of c.world.result.now ≡ b.world = ap (contents cells) c.world.ensures ∙ ap (λ (k : Book). k.world) c.in_ok-agenda.ensures.same in
    let out : out_of c.agenda.new.self.desk ≡ b.out = ap (λ (k : Book). k.out) c.in_ok-agenda.ensures.same in
    all_told b (world_of c.world.result.now) c.agenda.new.self.desk c.in_ok-agenda.agenda same out c.in_ok-agenda.ensures.noted (λ steps. steps.items) c.all-steps.result c.all-steps.ensures
