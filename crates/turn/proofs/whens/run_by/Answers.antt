use Rattle.std.proofs.Common.{◌≡◌, ap, rules, subst, sym}
use Rattle.code.specs.View.{trees_of_codes}
use Rattle.values.specs.Data.{null}
use Rattle.values.specs.View.{val_of}
use Rattle.values.specs.declared.value.Value.{Value}
use Rattle.post.specs.DeliveryView.{when_of}
use Rattle.eval_rules.specs.Answered.{OnEnd}
use Rattle.eval_rules.specs.Rules.{enters, Items}
use Rattle.eval_rules.specs.View.{at}
use Rattle.eval_rules.proofs.Answering.{ends_weaker}
use Rattle.eval_rules.proofs.Steps.{slice_of}
use Rattle.turn_deliveries.specs.Turn.{Led, when_met}
use Rattle.turn.proofs.Waiting.{captured_fits, entered_there}
use Rattle.turn.proofs.whens.run_by.Goals as goal

pub returns-in-Broken : goal.returns-in-Broken
returns-in-Broken c = subst (λ (v : Value). OnEnd c.handle.result c.handle.new.into c.handle.new.w (Led (when_met (when_of c.args.when.now) (val_of v)) (at c.args.w.now))) (sym c.in-Broken.is) c.handle.ensures

pub eval_items-requires : goal.eval_items-requires
eval_items-requires c =
    let when = c.args.when.now in
    record {
      level = search rules;
      fits = captured_fits when.captured.value.items (at c.args.w.now) (at c.enter_when.new.w) c.in_ok-enter_when-in-Null.ensures (slice_of c.deref-in-Null.ensures.value c.deref.ensures) when.fits;
    }

pub returns-in_ok-enter_when-in-Null : goal.returns-in_ok-enter_when-in-Null
returns-in_ok-enter_when-in-Null c =
    let when = when_of c.args.when.now in
    let a = at c.args.w.now in
    let v = val_of c.args.value.now in
    let is : when_met when v ≡ enters when.captured when.block = search rules in
    let items = slice_of c.deref-in-Null.ensures.value c.deref.ensures in
    ends_weaker c.eval_items.result c.eval_items.new.into c.eval_items.new.w (Items 1 null _ (at c.enter_when.new.w)) (Led (when_met when v) a) c.eval_items.ensures (λ o b r. entered_there is (ap trees_of_codes items) c.in_ok-enter_when-in-Null.ensures r)
