use Rattle.std.proofs.Common.{sym, ◌∙◌}
use Rattle.stepper_streams.specs.Held.{held_bytes}
use Rattle.stepper_streams.proofs.Gathering.{part_to_feed, part_of_all}
use Rattle.stepper_streams.proofs.held.Held.give_part.Goals as goal

pub returns-in_ok-add-in-Some-clause-ok : goal.returns-in_ok-add-in-Some-clause-ok
returns-in_ok-add-in-Some-clause-ok c =
    part_to_feed c.args.line.now c.add.new.self c.as_slice-bytes.result.now (held_bytes c.args.self.now) (held_bytes c.take.new.self) c.as_slice-bytes.ensures
    c.in-Some.at (sym c.line_feed_in.ensures ∙ c.in-Some.is) c.take.ensures c.in_ok-add-in-Some.ensures

pub returns-in_ok-add-in-None-clause-ok : goal.returns-in_ok-add-in-None-clause-ok
returns-in_ok-add-in-None-clause-ok c =
    part_of_all c.args.line.now c.add-in-None.new.self c.as_slice-bytes.result.now (held_bytes c.args.self.now) (held_bytes c.take-in-None.new.self) c.as_slice-bytes.ensures
    (sym c.line_feed_in.ensures ∙ c.in-None.is) c.take-in-None.ensures c.in_ok-add-in-None.ensures
