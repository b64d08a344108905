use Rattle.std.proofs.Common.{option_map, ap, ◌∙◌}
use Rattle.values.specs.View.{val_of}
use Rattle.sends.specs.Playing.{under}
use Rattle.sends.specs.View.{published_of, making_of, refusal_of}
use Rattle.sends.proofs.Publications.{resolved_to, not_resolved}
use Rattle.sends.proofs.publishing.resolve.Goals as goal

pub returns-in-Some-clause-did : goal.returns-in-Some-clause-did
returns-in-Some-clause-did c =
    resolved_to c.use_resolver.result (making_of published_of) c.args.promise (val_of c.args.value.now) (val_of c.in-Some.settled) c.args.draft.now c.settle.new.draft c.use_resolver.new.draft
    (c.in_ok-settled.ensures.did ∙ ap (λ o. (option_map val_of o, under c.settle.new.draft)) c.in-Some.is) c.use_resolver.ensures.did

pub returns-in_ok-refuse-in-None-clause-did : goal.returns-in_ok-refuse-in-None-clause-did
returns-in_ok-refuse-in-None-clause-did c =
    not_resolved c.args.promise (val_of c.args.value.now) (refusal_of c.in_ok-refuse-in-None.field-0) c.args.draft.now c.settle.new.draft
    (c.in_ok-settled.ensures.did ∙ ap (λ o. (option_map val_of o, under c.settle.new.draft)) c.in-None.is) c.in_ok-refuse-in-None.ensures
