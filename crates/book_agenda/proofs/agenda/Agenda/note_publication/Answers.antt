use Rattle.std.proofs.Common.{arith, ◌∙◌}
use Rattle.std.proofs.lemmas.Iterator.Adapters.{YieldsList-from_vec}
use Rattle.std.proofs.lemmas.Iterator.Consumers.{YieldsList-end}
use Rattle.book_agenda.proofs.Noting.{told_views}
use Rattle.book_agenda.proofs.Noted.{seen_all, open_at}
use Rattle.book_agenda.proofs.agenda.Agenda.note_publication.Goals as goal

pub returns : goal.returns
returns c =
    let gives = c.into_iter-vat-iterator.ensures.into_iter_gives in
    let vats = c.in_ok-vat-items.vat-items.items in
    let whole = (YieldsList-end (YieldsList-from_vec vats gives.0 (omega (arith, gives.1, c.in_ok-vat-items.vat-items.ok.0))) c.loop-vat.yielded c.loop-vat.vat-iterator c.loop-vat.yielded_by c.next.result c.next.new.self c.in-None.is c.next.ensures.steps).0 in
    told_views _ _ _ _ _ c.loop-vat.invariant
    (open_at c.args.self.now c.args.promise c.loop-vat.yielded (λ v. seen_all c.loop-vat.yielded vats whole v ∙ c.in_ok-vat-items.ensures v))
