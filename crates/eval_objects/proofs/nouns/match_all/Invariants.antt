use Rattle.std.proofs.Common.{◌≡◌, drop}
use Rattle.eval_rules.specs.Rules.{matched_all}
use Rattle.eval_rules.specs.View.{at}
use Rattle.values.specs.View.{vals_of}
use Rattle.eval_objects.proofs.nouns.match_all.Given as goal

-- what the patterns that are left bind is what all bind
abbrev pub invariant-loop-i : goal.invariant-loop-i
invariant-loop-i l = matched_all (drop l.i l.patterns) (vals_of (drop l.i l.values)) (at l.w) ≡ matched_all l.patterns (vals_of l.values) (at l.initial.w)
