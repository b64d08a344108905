use Rattle.std.proofs.Common.{ap, ◌∙◌}
use Rattle.std.specs.Prelude.{codes}
use Rattle.values.specs.View.{val_of}
use Rattle.eval_rules.specs.Outcomes.{value}
use Rattle.eval_rules.specs.Rules.{listing_by, parts_bound, parts_end}
use Rattle.eval_rules.specs.View.{at}
use Rattle.eval_rules.proofs.Answering.{stop_to}
use Rattle.eval_objects.proofs.nouns.bind_parts.Goals as goal

pub match_all-requires : goal.match_all-requires
match_all-requires c = c.in-Some.ensures.count

pub returns-in_ok-match_all-in-Some : goal.returns-in_ok-match_all-in-Some
returns-in_ok-match_all-in-Some c =
    let v = val_of c.args.value.now in (
      ap (λ m. parts_end (value v) (listing_by (codes "wrong list") v m)) c.in-Some.ensures.items,
      c.in_ok-match_all-in-Some.ensures ∙ ap (λ m. parts_bound c.args.patterns.now (listing_by (codes "wrong list") v m) (at c.args.w.now)) c.in-Some.ensures.items,
    )

pub returns-in-None : goal.returns-in-None
returns-in-None c =
    let v = val_of c.args.value.now in
    stop_to c.mismatch.result c.mismatch.new.w _ _ _ _ (ap (λ m. parts_end (value v) (listing_by (codes "wrong list") v m)) c.in-None.ensures.items)
    (ap (λ m. parts_bound c.args.patterns.now (listing_by (codes "wrong list") v m) (at c.args.w.now)) c.in-None.ensures.items) c.mismatch.ensures
