use Rattle.std.proofs.Common.{sym, ◌∙◌}
use Rattle.heap.proofs.Alike.{objects_told, named_otherwise, captures_otherwise}
use Rattle.heap.proofs.sameness.same_plain.Goals as goal
use Rattle.heap.proofs.sameness.same_plain.Goals.{then-same_pattern, else-same_pattern}

pub returns-then-same_nouns : goal.returns-then-same_nouns
returns-then-same_nouns c = elim c.if-same_pattern.branch [
  | then-same_pattern w ↦ objects_told c.args.a.now c.args.b.now c.same_methods.result (sym c.same_pattern.ensures ∙ w.if-same_pattern.true) (w.same_nouns.ensures.0 (sym w.value-is ∙ c.if-same_nouns.true)) c.same_methods.ensures
  | else-same_pattern w ↦ absurd (cc)
]

pub returns-else-same_nouns : goal.returns-else-same_nouns
returns-else-same_nouns c = elim c.if-same_pattern.branch [
  | then-same_pattern w ↦ captures_otherwise c.args.a.now c.args.b.now c.if-same_nouns.false w.value-is w.same_nouns.ensures
  | else-same_pattern w ↦ named_otherwise c.args.a.now c.args.b.now c.if-same_nouns.false w.if-same_pattern.ensures
]
