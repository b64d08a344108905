use Rattle.std.proofs.Common.{arith, rules, Option, subst}
use Rattle.std.specs.Prelude.{IfSome}
use Rattle.code.specs.View.{tree_of_code}
use Rattle.values.specs.View.{val_of}
use Rattle.eval_rules.specs.View.{at}
use Rattle.eval_rules.proofs.Fitting.{fits_from}
use Rattle.eval_quick.specs.Leaves.{AtHand}
use Rattle.eval_quick.specs.declared.direct.Given.{Given}
use Rattle.eval_quick.proofs.AtHand.{none_named, one_named, all_named}
use Rattle.eval_quick.proofs.direct.name_all.Goals as goal

pub names-init : goal.names-init
names-init c = none_named (at c.args.w.now) c.args.args.now c.args.steps c.args.own.now c.args.id c.args.parameters.now c.args.frame.now.items c.requires.fits

pub argument_at_hand-requires : goal.argument_at_hand-requires
argument_at_hand-requires c = (fits_from _ _ c.args.args.now c.names.next _ (omega arith) c.index-args-next.is c.names.invariant.fits).0

pub names-preserved : goal.names-preserved
names-preserved c =
    let a = at c.args.w.now in
    let at_hand = subst (λ (o : Option Given). IfSome o (λ (g : Given). AtHand a (tree_of_code c.index-args-next.result) g.steps (val_of g.value))) c.in-Some.is c.in_ok-given.ensures in
    one_named a c.args.args.now c.args.own.now c.args.id c.args.parameters.now c.in-Some.given.value c.in-Some.given.steps c.names.invariant (omega arith) (omega arith) c.index-args-next.is c.index-parameters-next.is
    c.in_ok-name_value.ensures at_hand (omega arith)

pub returns-then-next-args : goal.returns-then-next-args
returns-then-next-args c =
    all_named (at c.args.w.now) c.args.args.now c.args.steps c.args.own.now c.args.id c.args.parameters.now c.args.frame.now.items _ _ _ _ _ _ c.names.invariant (search rules) c.requires.count c.in_ok-name_value.ensures
