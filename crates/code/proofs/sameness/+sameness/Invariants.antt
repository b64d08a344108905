use Rattle.code.specs.View.{trees_of_codes, methods_of_codes}
use Rattle.code.specs.Sameness.{all_alike, methods_alike}
use Rattle.code.proofs.Zipped.{Left}
use Rattle.code.proofs.sameness.+sameness.Given as goal

-- the other items decide
abbrev pub invariant-same_codes-loop-x : goal.invariant-same_codes-loop-x
invariant-same_codes-loop-x l = Left (λ xs ys. all_alike (trees_of_codes xs) (trees_of_codes ys)) l.x-iterator.a.rest.now l.x-iterator.b.rest.now l.xs.value.items l.ys.value.items

-- the other methods decide
abbrev pub invariant-same_methods-loop-m : goal.invariant-same_methods-loop-m
invariant-same_methods-loop-m l = Left (λ ms ns. methods_alike (methods_of_codes ms) (methods_of_codes ns)) l.m-iterator.a.rest.now l.m-iterator.b.rest.now l.ms.value.items l.ns.value.items
