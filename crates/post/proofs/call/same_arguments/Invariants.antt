use Rattle.values.specs.Same.{same_items}
use Rattle.values.specs.View.{vals_of}
use Rattle.code.proofs.Zipped.{Left}
use Rattle.post.proofs.call.same_arguments.Given as goal

-- the other arguments decide
abbrev pub invariant-loop-x : goal.invariant-loop-x
invariant-loop-x l = Left (λ xs ys. same_items (vals_of xs) (vals_of ys)) l.x-iterator.a.rest.now l.x-iterator.b.rest.now l.xs.value.items l.ys.value.items
