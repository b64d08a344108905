use Rattle.std.proofs.Common.{ap, ◌∙◌}
use Rattle.eval_rules.specs.At.{At}
use Rattle.eval_rules.specs.Locals.{captured_in, names_in}
use Rattle.eval_rules.specs.View.{at}
use Rattle.eval_objects.proofs.calls.leave_method.Goals as goal

pub returns-clause-place : goal.returns-clause-place
returns-clause-place c =
    let own = c.args.caller.own_scope in
    ap (λ (b : At). record b { own_scope = own }) c.replace_captured.ensures.place
    ∙ (λ i. record (at c.args.w.now) { nouns = names_in (captured_in c.args.caller.captured) c.args.caller.older (c.replace-frame.ensures.after i).items; own_scope = own })
