use Rattle.std.proofs.Common.{false, [], refl, sym, ap, ◌∙◌}
use Rattle.world_cells.proofs.Worlds.{ok_follows}
use Rattle.book_agenda.specs.AgendaView.{cues_if}
use Rattle.book_agenda.proofs.Noting.{keeps_none, told_keeps, unwatched}
use Rattle.book_agenda.proofs.agenda.Agenda.unwatch.Goals as goal

pub returns-in-Some : goal.returns-in-Some
returns-in-Some c = ok_follows c.keep_each.result _ _ c.keep_each.ensures (λ _ keeps. unwatched c.args.name _ _ c.remove.result c.remove.ensures.value (λ n. c.remove.ensures.updates.0 n) (told_keeps c.args.name c.as_slice.result.now (cues_if c.remove.result) false _ _ (c.as_slice.ensures.value ∙ ap cues_if (sym c.in-Some.is)) keeps) refl refl refl)

pub returns-in-None : goal.returns-in-None
returns-in-None c = unwatched c.args.name _ _ c.remove.result c.remove.ensures.value (λ n. c.remove.ensures.updates.0 n) (told_keeps c.args.name [] (cues_if c.remove.result) false _ _ (ap cues_if (sym c.in-None.is)) (keeps_none c.args.name false _)) refl refl refl
