use Rattle.std.proofs.Common.{[], ◌∷◌, ◌++◌, Some, List, ap, ◌∙◌}
use Rattle.ids.specs.declared.cells.CellKey.TheVariants as key
use Rattle.code.specs.View.{trees_of_codes}
use Rattle.post.specs.MessageView.{message_of}
use Rattle.world_cells.specs.Theory.{kepts_of, kept_of}
use Rattle.kernele_scopes.specs.declared.naming.TopName.{TopName}
use Rattle.world_cells.specs.World.{message, vat}
use Rattle.event.specs.Events.{opening_message}
use Rattle.event.proofs.Bringing.{birth_brings, earlier_same}
use Rattle.event.proofs.effects.birth_effects.Goals as goal

pub returns-clause-brings : goal.returns-clause-brings
returns-clause-brings c =
    λ found numbers tops.
    let script = trees_of_codes c.args.script.now.items.value.items in
    birth_brings c.args.event c.args.name.now c.args.earlier.now found script c.in_ok-touched.touched.items c.push.new.self.items c.push-2.new.self.items (kepts_of c.in_ok-vec.field-0.items)
    (kept_of c.in_ok-name_record.field-0) (kept_of c.message_record.result) (message_of c.in_ok-message.message)
    c.in_ok-touched.ensures (c.in_ok-push.ensures.items ∙ ap (λ x. c.in_ok-touched.touched.items ++ key.Name x ∷ []) c.in_ok-share.ensures)
    (c.in_ok-push-2.ensures.items ∙ ap (λ m. c.push.new.self.items ++ key.Msg m ∷ []) c.first_message-first.ensures) (ap kepts_of c.in_ok-vec.ensures.items)
    (c.in_ok-name_record.ensures ∙ ap (λ (ts : List TopName). (key.Name c.args.name.now, (Some (vat (record { number = record { 0 = c.args.event }; earlier = c.args.earlier.now; tops = ts })), Some c.args.event.0))) tops) (c.message_record.ensures ∙ ap (λ m. (key.Msg m, (Some (message (message_of c.in_ok-message.message)), Some c.args.event.0))) c.first_message-first.ensures)
    (c.in_ok-message.ensures ∙ ap (λ ys. opening_message c.args.event ys script) (c.in_ok-known_as.ensures ∙ earlier_same c.args.earlier.now found c.args.vats.now numbers))
