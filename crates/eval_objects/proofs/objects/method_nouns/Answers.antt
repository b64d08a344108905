use Rattle.std.proofs.Common.{drop, ap, sym, ◌∙◌}
use Rattle.values.specs.Data.{object}
use Rattle.values.specs.View.{vals_of}
use Rattle.eval_rules.specs.Rules.{named, named_all}
use Rattle.heap.specs.View.{nouns_of}
use Rattle.eval_rules.specs.Locals.{locals_after}
use Rattle.eval_rules.proofs.Captures.{named_end}
use Rattle.eval_objects.proofs.objects.method_nouns.Goals as goal

pub loop-i-init : goal.loop-i-init
loop-i-init c =
    let older = nouns_of c.args.object.now.captured.value.items in (
      ap (named_all c.args.parameters.now (vals_of c.args.args.now))
          (c.in_ok-name_value.ensures older ∙ ap (λ xs. named c.args.object.now.own (object c.args.id) (locals_after older xs)) c.requires.empty),
      c.requires.count,
    )

pub returns : goal.returns
returns c = sym (named_end c.args.parameters.now (vals_of (drop c.loop-i.i c.loop-i.args)) c.loop-i.i (locals_after (nouns_of c.args.object.now.captured.value.items) c.loop-i.nouns.items) c.loop-i-test.false) ∙ c.loop-i.invariant.0
