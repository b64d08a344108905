use Rattle.std.proofs.Common.{ap, sym, ◌∙◌}
use Rattle.std.specs.Prelude.{codes}
use Rattle.std.specs.Option.{option_map}
use Rattle.values.specs.View.{val_of}
use Rattle.eval_rules.specs.Rules.{listing_by, unlisted}
use Rattle.eval_rules.proofs.Answering.{unwanted}
use Rattle.eval_rules.proofs.wanted.items_of.Goals as goal

pub returns-in-None : goal.returns-in-None
returns-in-None c = unwanted c.mismatch.result c.mismatch.new.w unlisted _ _ _ (ap (listing_by (codes "not a list") (val_of c.args.value.now)) (sym c.in_ok-listed.ensures ∙ ap (option_map (λ a. a.value)) c.in-None.is)) c.mismatch.ensures
