use Rattle.std.proofs.Common.{ap, take, ◌∷◌, ◌∙◌}
use Rattle.heap.specs.View.{bind_of, nouns_of}
use Rattle.eval_rules.specs.Locals.{captured_in, locals_after}
use Rattle.eval_rules.specs.View.{at}
use Rattle.eval_rules.proofs.Scopes.{locals_after-push, bound_inside}
use Rattle.eval_objects.proofs.nouns.bind_local.Goals as goal

pub returns : goal.returns
returns c =
    let older = nouns_of (take c.args.w.now.older (captured_in c.args.w.now.captured)) in
    bound_inside c.args.name.now (bind_of c.args.binding) (at c.args.w.now) _ c.requires
    (ap (locals_after older) c.in_ok-push.ensures.items ∙ locals_after-push older c.args.w.now.nouns.items _ ∙ ap (λ x. (x, bind_of c.args.binding) ∷ (at c.args.w.now).nouns) c.of-name.ensures)
