use Rattle.std.proofs.Common.{map, sym, ap, ◌∙◌}
use Rattle.std.specs.Option.{option_or}
use Rattle.journal.specs.Items.{item_of}
use Rattle.journal.specs.Journals.{settled_item}
use Rattle.causewaylog.specs.Live.{live_of}
use Rattle.causewaylog.specs.Turns.{vat_called}
use Rattle.causewaylog.proofs.Living.{called_either}
use Rattle.causewaylog.proofs.turns.vat_called.Goals as goal

pub returns-in-Some : goal.returns-in-Some
returns-in-Some c =
    let x = c.args.name.now in
    let es = live_of (map item_of c.args.journal.entries.now) in
    ap (λ o. option_or o (vat_called x es)) (sym c.in-Some.is ∙ c.settled_vat.ensures) ∙ sym (called_either x (map settled_item c.args.journal.settled.now) (map item_of c.args.journal.entries.now))

pub returns-in-None : goal.returns-in-None
returns-in-None c =
    let x = c.args.name.now in
    let es = live_of (map item_of c.args.journal.entries.now) in
    c.open_vat.ensures ∙ ap (λ o. option_or o (vat_called x es)) (sym c.in-None.is ∙ c.settled_vat.ensures) ∙ sym (called_either x (map settled_item c.args.journal.settled.now) (map item_of c.args.journal.entries.now))
