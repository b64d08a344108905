use Rattle.std.proofs.Common.{◌≡◌, refl, rules}
use Rattle.values.specs.View.{val_of, vals_of}
use Rattle.eval_rules.specs.At.{At}
use Rattle.eval_rules.specs.Rules.{Target, no_such_method, resolver_target}
use Rattle.eval_rules.specs.View.{at}
use Rattle.eval_rules.proofs.Answering.{ends_weaker}
use Rattle.sends.specs.Making.{resolving, smashing}
use Rattle.eval_objects.specs.View.{Led}
use Rattle.eval_objects.proofs.Leading.{led_to_end, led_to_use, resolves, smashes, lacks}
use Rattle.eval_objects.proofs.resolvers.use_resolver.Goals as goal

pub returns-then-eq : goal.returns-then-eq
returns-then-eq c =
    let p = c.args.promise in
    let v = val_of c.args.given.now in
    let a = at c.args.w.now in
    let Q : Target → At → Type 0 = λ t b. (t ≡ resolver_target p c.args.verb.now (vals_of c.args.args.now)) × (b ≡ a) in
    ends_weaker c.use_resolve.result c.use_resolve.new.into c.use_resolve.new.w _ (Led Q) c.use_resolve.ensures
    (λ o b e. led_to_use Q p (resolving p v) a o b (resolves p c.args.verb.now v (vals_of c.args.args.now) c.requires (search rules), refl) e)

pub returns-then-eq-2 : goal.returns-then-eq-2
returns-then-eq-2 c =
    let p = c.args.promise in
    let v = val_of c.args.given.now in
    let a = at c.args.w.now in
    let Q : Target → At → Type 0 = λ t b. (t ≡ resolver_target p c.args.verb.now (vals_of c.args.args.now)) × (b ≡ a) in
    ends_weaker c.use_smash.result c.use_smash.new.into c.use_smash.new.w _ (Led Q) c.use_smash.ensures
    (λ o b e. led_to_use Q p (smashing p v) a o b (smashes p c.args.verb.now v (vals_of c.args.args.now) c.requires (search rules) (search rules), refl) e)

pub returns-else-eq-2 : goal.returns-else-eq-2
returns-else-eq-2 c =
    let p = c.args.promise in
    let v = val_of c.args.given.now in
    let vs = vals_of c.args.args.now in
    let a = at c.args.w.now in
    let Q : Target → At → Type 0 = λ t b. (t ≡ resolver_target p c.args.verb.now vs) × (b ≡ a) in
    ends_weaker c.no_such_method.result c.no_such_method.new.into c.no_such_method.new.w _ (Led Q) c.no_such_method.ensures
    (λ o b e. led_to_end Q (no_such_method c.args.verb.now vs) o a b (lacks p c.args.verb.now v vs c.requires (search rules) (search rules), refl) e)
