use Rattle.std.proofs.Common.{◌≡◌, ◌++◌, map, take}
use Rattle.book_agenda.specs.declared.ways.Cue.TheVariants as cue
use Rattle.book_agenda.proofs.ways.add_views.Given as goal

-- what was added so far
abbrev pub invariant-loop-promise : goal.invariant-loop-promise
invariant-loop-promise l = l.cues.items ≡ l.initial.cues.items ++ map (λ p. cue.View l.vat p) (take l.promise-index l.promises)
