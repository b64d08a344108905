use Rattle.std.proofs.Common.{[], ◌∷◌, ◌++◌, map, ap, ap₂, ◌∙◌}
use Rattle.ids.specs.declared.cells.CellKey.TheVariants as key
use Rattle.post.specs.MessageView.{message_of}
use Rattle.eval_rules.specs.OutboxView.{letter_of, note_of}
use Rattle.eval_rules.specs.PublicationsView.{publications_of}
use Rattle.world_cells.specs.View.{world_of}
use Rattle.event.specs.Entries.{entries_of, keys_in}
use Rattle.event.specs.Events.{letters_from}
use Rattle.event.proofs.Leaving.{turn_brings}
use Rattle.event.proofs.effects.turn_effects.Goals as goal

pub returns : goal.returns
returns c =
    let o = c.args.outcome.now in
    let rest = keys_in c.args.vat (entries_of o.footprint) ++ (map (λ p. p.0) (letters_from c.args.event 0 (map letter_of o.out.letters.items)) ++ key.Msg c.args.name ∷ []) in
    λ is new way u.
    turn_brings c.args.event (world_of c.args.world.now) c.args.name (message_of c.args.message.now) c.args.vat o u c.in_ok-turn_touched.ensures.once is new c.in_ok-turn_touched.ensures.published _
    (c.in_ok-turn_touched.ensures.touched
    ∙ ap₂ (λ ps ms. (map key.Board ps ++ (map key.Msg ms ++ map (λ b. key.Board b.0) (publications_of o.out.publications))) ++ rest) way.through way.awaited)
    (c.in_ok-turn_records.ensures u)
    (c.in_ok-share_notes.ensures ∙ ap (map note_of) c.as_slice.ensures.value)
