use Rattle.causality.proofs.Placed.{put_if}
use Rattle.causality.proofs.selection.add_place.Goals as goal

pub returns-in_ok-insert : goal.returns-in_ok-insert
returns-in_ok-insert c = put_if c.args.place c.in-Some.place c.args.places.now.keys c.insert.new.self.keys c.in-Some.is c.in_ok-insert.ensures.updates.0
