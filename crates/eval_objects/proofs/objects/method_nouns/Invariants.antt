use Rattle.std.proofs.Common.{◌≡◌, drop, length}
use Rattle.values.specs.Data.{object}
use Rattle.values.specs.View.{vals_of}
use Rattle.eval_rules.specs.Rules.{named, named_all}
use Rattle.heap.specs.View.{nouns_of}
use Rattle.eval_rules.specs.Locals.{locals_after}
use Rattle.eval_objects.proofs.objects.method_nouns.Given as goal

-- what the parameters that are left name is what all name, and the arguments that are left are there
abbrev pub invariant-loop-i : goal.invariant-loop-i
invariant-loop-i l =
    (named_all (drop l.i l.parameters) (vals_of (drop l.i l.args)) (locals_after (nouns_of l.object.captured.value.items) l.nouns.items)
    ≡ named_all l.parameters (vals_of l.initial.args) (named l.object.own (object l.fn.id) (nouns_of l.object.captured.value.items)))
    × (length l.args ≡ length l.parameters)
