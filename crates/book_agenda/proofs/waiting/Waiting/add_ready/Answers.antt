use Rattle.std.proofs.Common.{refl, subst}
use Rattle.world_cells.proofs.Worlds.{ok_follows}
use Rattle.book_agenda.specs.Waiting.{FirstAt}
use Rattle.book_agenda.proofs.Fronts.{gets_beside, gets_alone}
use Rattle.book_agenda.proofs.waiting.Waiting.add_ready.Goals as goal

pub returns-in-Some : goal.returns-in-Some
returns-in-Some c = ok_follows c.replace_front.result _ _ c.replace_front.ensures (λ _ r.
    gets_beside c.args.vat c.args.name c.in-Some.first c.args.self.now _ _ (subst (FirstAt c.args.self.now c.args.vat) c.in-Some.is c.first_at-first.ensures) refl refl (λ u m. c.in_ok-insert.ensures.updates.0 (record { vat = u; message = m })) r)

pub returns-in-None : goal.returns-in-None
returns-in-None c = ok_follows c.add_front.result _ _ c.add_front.ensures (λ _ f.
    gets_alone c.args.vat c.args.name c.args.self.now _ _ (subst (FirstAt c.args.self.now c.args.vat) c.in-None.is c.first_at-first.ensures) refl refl (λ u m. c.in_ok-insert.ensures.updates.0 (record { vat = u; message = m })) f)
