use Rattle.std.proofs.Common.{◌-◌, length}
use Rattle.values.specs.View.{val_of}
use Rattle.eval_rules.specs.View.{at}
use Rattle.eval_quick.proofs.AtHand.{NamedSoFar}
use Rattle.eval_quick.proofs.direct.name_all.Given as goal

-- the value that is named next stands before so many arguments
abbrev pub invariant-names : goal.invariant-names
invariant-names l = NamedSoFar (at l.w) l.args l.steps l.own l.fn.id l.parameters l.initial.frame.items l.frame.items l.pattern (val_of l.value) l.left l.next

abbrev pub decreases-names : goal.decreases-names
decreases-names l = length l.args - l.next
