use Rattle.std.proofs.Common.{ap, sym, refl, ◌∙◌}
use Rattle.eval_rules.specs.Doings.{resolver_end, resolver_out}
use Rattle.eval_rules.specs.View.{at}
use Rattle.sends.specs.View.{making_of, published_of}
use Rattle.eval_messages.proofs.Made.{nothing_made}
use Rattle.eval_messages.proofs.promises.finish_use.Goals as goal

pub returns-in_ok-publish-in-Makes : goal.returns-in_ok-publish-in-Makes
returns-in_ok-publish-in-Makes c =
    let is = ap (making_of published_of) (sym c.in-Makes.is) in
    (ap resolver_end is, c.in_ok-publish-in-Makes.ensures ∙ ap (λ m. resolver_out c.args.promise m (at c.args.w.now)) is)

pub returns-in-Refused : goal.returns-in-Refused
returns-in-Refused c = nothing_made c.refused.result c.refused.new.w _ _ resolver_end (resolver_out c.args.promise) _ (at c.args.w.now) (ap (making_of published_of) c.in-Refused.is) refl refl refl c.refused.ensures
