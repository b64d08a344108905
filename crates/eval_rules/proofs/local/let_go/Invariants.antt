use Rattle.std.proofs.Common.{◌≡◌, length, take}
use Rattle.eval_rules.proofs.local.let_go.Given as goal

-- the names that are kept stand there
abbrev pub invariant-loop-nouns : goal.invariant-loop-nouns
invariant-loop-nouns l = take l.left l.nouns.items ≡ take l.left l.initial.nouns.items

abbrev pub decreases-loop-nouns : goal.decreases-loop-nouns
decreases-loop-nouns l = length l.nouns.items
