use Rattle.std.proofs.Common.{◌+◌, ap}
use Rattle.stepper_streams.proofs.Giving.{tells_both, tells_as}
use Rattle.stepper_printing.specs.Show.{name_of}
use Rattle.stepper_printing.specs.ListingView.{rows_text}
use Rattle.stepper_printing.proofs.listing.put_journal.Goals as goal

pub returns : goal.returns
returns g c =
    let l = c.args.listing.now in
    tells_both g.W.Write.contents c.put_base.ensures (tells_as g.W.Write.contents (ap (rows_text (name_of l.vats.entries) (l.settled + 1)) c.deref.ensures.value) c.put_rows.ensures)
