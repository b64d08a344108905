use Rattle.code.specs.View.{methods_of_codes}
use Rattle.heap.specs.View.{nouns_of}
use Rattle.eval_objects.proofs.objects.make.Goals as goal

pub returns : goal.returns
returns c = λ i. record { own = c.in_ok-own.ensures i; captured = nouns_of (c.in_ok-captured.ensures.ok i).items; methods = methods_of_codes (c.in_ok-methods.ensures i).items }
