use Rattle.std.proofs.Common.{◌≡◌, drop}
use Rattle.eval_rules.specs.View.{at}
use Rattle.turn_deliveries.specs.Turn.{knowing}
use Rattle.turn.proofs.opening.know.Given as goal

-- what knowing the vats that are left comes to is what knowing all comes to
abbrev pub invariant-loop-vat : goal.invariant-loop-vat
invariant-loop-vat l = knowing (drop l.vat-index l.earlier) (at l.w) ≡ knowing l.earlier (at l.initial.w)
