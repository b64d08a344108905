use Rattle.std.proofs.Common.{rules, subst}
use Rattle.code.specs.View.{trees_of_codes}
use Rattle.values.specs.Data.{null}
use Rattle.eval_rules.specs.Answered.{OnEnd}
use Rattle.eval_rules.specs.Rules.{Items}
use Rattle.eval_rules.specs.View.{at}
use Rattle.turn.proofs.Knowing.{script_fits}
use Rattle.turn.proofs.opening.run_opening.Goals as goal

pub eval_items-requires : goal.eval_items-requires
eval_items-requires c = record {
  level = search rules;
  fits = script_fits c.args.earlier.now (at c.args.w.now) (at c.know.new.w) c.args.items.now c.in_ok-know.ensures c.requires.own c.requires.bare c.requires.fits;
}

pub returns : goal.returns
returns c = subst (λ a. OnEnd c.eval_items.result c.eval_items.new.into c.eval_items.new.w (Items 1 null (trees_of_codes c.args.items.now) a)) c.in_ok-know.ensures c.eval_items.ensures
