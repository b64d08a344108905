use Rattle.std.proofs.Common.{map}
use Rattle.eval_rules.specs.OutboxView.{letter_of}
use Rattle.world_cells.specs.View.{world_of}
use Rattle.world.proofs.Numbering.{Left}
use Rattle.world.proofs.step.check_new.Given as goal

-- those before this place are new
abbrev pub invariant-loop-place : goal.invariant-loop-place
invariant-loop-place l = Left (world_of l.world) l.event (map letter_of l.letters) l.place
