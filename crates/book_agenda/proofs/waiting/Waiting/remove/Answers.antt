use Rattle.std.proofs.Common.{◌≡◌, Some, false, cond, refl, sym, ap, ◌∙◌}
use Rattle.std.proofs.lemmas.Option.{none-some}
use Rattle.world_cells.proofs.Worlds.{ok_follows}
use Rattle.book_agenda.specs.Waiting.{how, is_front}
use Rattle.book_agenda.specs.declared.waiting.Waits.TheVariants as waits
use Rattle.book_agenda.proofs.Fronts.{not_moving, not_behind, removes, leaves_next, leaves_none}
use Rattle.book_agenda.proofs.waiting.Waiting.remove.Goals as goal

pub returns-in-None : goal.returns-in-None
returns-in-None c = removes c.args.name c.args.self.now _ (λ m. c.remove.ensures.updates.0 m) (λ v e. none-some (waits.Ready v) (sym c.in-None.is ∙ c.remove.ensures.value ∙ e)) refl (λ m ne f. f)

pub returns-in-Some-Behind : goal.returns-in-Some-Behind
returns-in-Some-Behind c =
    let was : how c.args.self.now c.args.name ≡ Some waits.Behind = sym c.remove.ensures.value ∙ c.in-Some-Behind.is ∙ ap (λ x. Some x) c.in-Some-Behind.field-0-is in
    removes c.args.name c.args.self.now _ (λ m. c.remove.ensures.updates.0 m) (λ v e. not_behind v (sym was ∙ e)) refl (λ m ne f. f)

pub returns-in-Some-Moving : goal.returns-in-Some-Moving
returns-in-Some-Moving c =
    let was : how c.args.self.now c.args.name ≡ Some waits.Moving = sym c.remove.ensures.value ∙ c.in-Some-Moving.is ∙ ap (λ x. Some x) c.in-Some-Moving.field-0-is in
    removes c.args.name c.args.self.now _ (λ m. c.remove.ensures.updates.0 m) (λ v e. not_moving v (sym was ∙ e)) refl
    (λ m ne f. c.remove-in-Some-Moving.ensures.updates.0 m ∙ ap (λ b. cond b false (is_front c.args.self.now m)) ne ∙ f)

pub returns-in-Some : goal.returns-in-Some
returns-in-Some c =
    let u = c.in-Some-Ready.vat in
    let was : how c.args.self.now c.args.name ≡ Some (waits.Ready u) = sym c.remove.ensures.value ∙ c.in-Some-Ready.is ∙ ap (λ x. Some x) c.in-Some-Ready.field-0-is in
    ok_follows c.add_front.result _ _ c.add_front.ensures (λ _ f.
    leaves_next c.args.name c.in-Some.next u c.args.self.now _ _ c.first_at.result (λ m. c.remove.ensures.updates.0 m) was
    (λ v m. c.remove-in-Some-Ready.ensures.updates.0 (record { vat = v; message = m })) (λ m. c.remove-in-Some-Ready-2.ensures.updates.0 m) c.first_at.ensures c.in-Some.is f)

pub returns-in-None-first_at : goal.returns-in-None-first_at
returns-in-None-first_at c =
    let u = c.in-Some-Ready.vat in
    let was : how c.args.self.now c.args.name ≡ Some (waits.Ready u) = sym c.remove.ensures.value ∙ c.in-Some-Ready.is ∙ ap (λ x. Some x) c.in-Some-Ready.field-0-is in
    leaves_none c.args.name u c.args.self.now _ c.first_at.result (λ m. c.remove.ensures.updates.0 m) was
    (λ v m. c.remove-in-Some-Ready.ensures.updates.0 (record { vat = v; message = m })) (λ m. c.remove-in-Some-Ready-2.ensures.updates.0 m) c.first_at.ensures c.in-None-first_at.is
