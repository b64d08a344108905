use Rattle.std.proofs.Common.{ap, sym}
use Rattle.eval_rules.specs.Doings.{resolver_end, resolver_out}
use Rattle.eval_rules.specs.View.{at}
use Rattle.eval_rules.proofs.Answering.{end_to}
use Rattle.sends.specs.Making.{resolving}
use Rattle.values.specs.View.{val_of}
use Rattle.eval_messages.proofs.Behind.{did_give, did_leave}
use Rattle.eval_messages.proofs.promises.use_resolve.Goals as goal

pub returns : goal.returns
returns c =
    let f = resolving c.args.promise (val_of c.args.value.now) in
    let a = at c.args.w.now in
    let given = did_give f a c.args.w.now.draft c.resolve.new.draft _ c.in_ok-making.ensures.did in
    let leave = did_leave f a c.args.w.now.draft c.resolve.new.draft _ c.in_ok-making.ensures.did c.in_ok-making.ensures.turn in
    end_to c.finish_use.result c.finish_use.new.into c.finish_use.new.w _ _ _ _ (ap resolver_end (sym given)) (λ i. resolver_out c.args.promise (sym given i) (leave i)) c.finish_use.ensures
