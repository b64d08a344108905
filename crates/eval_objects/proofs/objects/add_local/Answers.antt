use Rattle.std.proofs.Common.{ap, ◌∷◌, ◌∙◌}
use Rattle.heap.specs.View.{bind_of}
use Rattle.eval_rules.specs.Locals.{locals_after}
use Rattle.eval_rules.proofs.Scopes.{locals_after-push}
use Rattle.eval_objects.proofs.objects.add_local.Goals as goal

pub returns : goal.returns
returns c = λ ns.
    ap (locals_after ns) c.in_ok-push.ensures.items ∙ locals_after-push ns c.args.nouns.now.items _
    ∙ ap (λ x. (x, bind_of c.args.binding) ∷ locals_after ns c.args.nouns.now.items) c.of-name.ensures
