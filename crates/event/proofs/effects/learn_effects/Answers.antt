use Rattle.std.proofs.Common.{[], ◌∷◌, ◌++◌, ap, ◌∙◌}
use Rattle.ids.specs.declared.cells.CellKey.TheVariants as key
use Rattle.world_cells.specs.Theory.{kepts_of}
use Rattle.event.specs.Entries.{entries_of, keys_in, left_in, kept_left}
use Rattle.event.proofs.Leaving.{learning_brings}
use Rattle.event.proofs.effects.learn_effects.Goals as goal

pub returns : goal.returns
returns c =
    let v = c.args.vat in
    let r = c.args.footprint.now in
    λ w b h.
    learning_brings c.args.event w v c.args.promise b r _ c.in_ok-touch_cells.ensures.once h
    (c.in_ok-touch_cells.ensures.keys ∙ ap (λ xs. xs ++ keys_in v (entries_of r)) (c.in_ok-push.ensures.items ∙ ap (λ xs. xs ++ key.Board c.args.promise ∷ []) c.new-touched.ensures.items))
    (c.in_ok-record_cells.ensures ∙ ap (λ xs. kepts_of xs ++ kept_left c.args.event v (left_in (entries_of r))) c.new-records.ensures.items)
    c.new-notes.ensures.items
