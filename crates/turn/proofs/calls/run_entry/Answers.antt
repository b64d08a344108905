use Rattle.std.proofs.Common.{rules, subst}
use Rattle.code.specs.View.{trees_of_codes}
use Rattle.values.specs.Data.{null}
use Rattle.eval_rules.specs.Answered.{OnEnd}
use Rattle.eval_rules.specs.Locals.{captured_in}
use Rattle.eval_rules.specs.Rules.{Items}
use Rattle.eval_rules.specs.View.{at}
use Rattle.eval_rules.proofs.Fitting.{entry_fits}
use Rattle.eval_rules.proofs.Steps.{slice_of}
use Rattle.turn.proofs.calls.run_entry.Goals as goal

pub eval_items-requires : goal.eval_items-requires
eval_items-requires c = record {
  level = search rules;
  fits = entry_fits (captured_in c.args.entry.captured) c.args.entry.nouns.items (at c.args.w.now) _ c.enter_method.ensures.place (slice_of c.deref-2.ensures.value c.deref.ensures) c.args.entry.fits;
}

pub returns : goal.returns
returns c =
    subst (λ a. OnEnd c.eval_items.result c.eval_items.new.into c.eval_items.new.w (Items 1 null (trees_of_codes c.args.entry.body.value.items) a)) c.enter_method.ensures.place
    (subst (λ xs. OnEnd c.eval_items.result c.eval_items.new.into c.eval_items.new.w (Items 1 null (trees_of_codes xs) (at c.enter_method.new.w))) (slice_of c.deref-2.ensures.value c.deref.ensures) c.eval_items.ensures)
