use Rattle.std.proofs.Common.{ap, ◌∙◌}
use Rattle.std.proofs.lemmas.Result.{on_ok_weaker}
use Rattle.heap.specs.State.{fixed}
use Rattle.values.specs.Data.{promise}
use Rattle.sends.specs.Vats.{comes_in, nothing}
use Rattle.eval_messages.proofs.Behind.{did_leave}
use Rattle.eval_rules.specs.Rules.{binding}
use Rattle.eval_rules.specs.View.{at}
use Rattle.turn.proofs.opening.know_vat.Goals as goal

pub returns : goal.returns
returns c =
    let vat = c.args.vat.now in
    let place = did_leave (comes_in vat.opening) (at c.args.w.now) c.args.w.now.draft c.come_in.new.draft nothing c.in_ok-come_in.ensures.did c.in_ok-come_in.ensures.turn in
    on_ok_weaker c.bind.result (λ e. e ∙ ap (binding vat.name (fixed (promise vat.opening))) place) c.bind.ensures
