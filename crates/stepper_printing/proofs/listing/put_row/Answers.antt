use Rattle.std.proofs.Common.{ap, sym, ◌∙◌}
use Rattle.stepper_streams.proofs.Giving.{tells_both, tells_as}
use Rattle.stepper_printing.specs.Listing.{names_text}
use Rattle.stepper_printing.proofs.EventNames.{names_back}
use Rattle.stepper_printing.proofs.listing.put_row.Goals as goal

pub returns : goal.returns
returns g c =
    let causes = c.args.row.now.causes.items in
    let names = tells_as g.W.Write.contents (ap names_text (c.deref.ensures.value ∙ sym (names_back causes))) c.put_names.ensures in
    let mark = tells_as g.W.Write.contents c.mark_word.ensures c.put-3.ensures in
    tells_both g.W.Write.contents c.put_number.ensures (tells_both g.W.Write.contents c.put.ensures (tells_both g.W.Write.contents c.put_event.ensures (tells_both g.W.Write.contents c.put-2.ensures
    (tells_both g.W.Write.contents mark (tells_both g.W.Write.contents c.put-4.ensures (tells_both g.W.Write.contents c.put_action.ensures (tells_both g.W.Write.contents c.put-5.ensures (tells_both g.W.Write.contents names c.put-6.ensures))))))))
