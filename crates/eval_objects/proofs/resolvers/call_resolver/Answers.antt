use Rattle.std.proofs.Common.{◌≡◌, refl, rules}
use Rattle.values.specs.View.{vals_of}
use Rattle.eval_rules.specs.At.{At}
use Rattle.eval_rules.specs.Rules.{Target, no_such_method, resolver_target}
use Rattle.eval_rules.specs.View.{at}
use Rattle.eval_rules.proofs.Answering.{ends_weaker}
use Rattle.eval_objects.specs.View.{Led}
use Rattle.eval_objects.proofs.Leading.{led_to_end, lacks_unless_one, one_value}
use Rattle.eval_objects.proofs.resolvers.call_resolver.Goals as goal

pub use_resolver-requires : goal.use_resolver-requires
use_resolver-requires c = one_value c.args.args.now _ (search rules) c.index-args-0.is

pub returns-else-args-eq1 : goal.returns-else-args-eq1
returns-else-args-eq1 c =
    let p = c.args.promise in
    let verb = c.args.verb.now in
    let vs = vals_of c.args.args.now in
    let a = at c.args.w.now in
    let Q : Target → At → Type 0 = λ t b. (t ≡ resolver_target p verb vs) × (b ≡ a) in
    ends_weaker c.no_such_method.result c.no_such_method.new.into c.no_such_method.new.w _ (Led Q) c.no_such_method.ensures
    (λ o b e. led_to_end Q (no_such_method verb vs) o a b (lacks_unless_one p verb c.args.args.now c.if-args-eq1.false, refl) e)
