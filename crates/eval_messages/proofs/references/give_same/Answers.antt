use Rattle.std.proofs.Common.{ap, sym, ◌∙◌}
use Rattle.std.specs.Prelude.{option_map}
use Rattle.values.specs.View.{val_of}
use Rattle.eval_rules.specs.Doings.{both_settled, same_forms}
use Rattle.eval_rules.specs.Outcomes.{reply_end}
use Rattle.eval_rules.specs.View.{at}
use Rattle.eval_rules.proofs.Answering.{stop_to, end_to}
use Rattle.sends.proofs.Playing.{same_turn}
use Rattle.eval_messages.proofs.Behind.{did_give, did_leave}
use Rattle.eval_messages.proofs.Same.{left_too_large, right_too_large, both_there}
use Rattle.eval_messages.proofs.references.give_same.Goals as goal

pub returns-in_default : goal.returns-in_default
returns-in_default c =
    let v = val_of c.args.left.now in
    let w = val_of c.args.into.now in
    let a = at c.args.w.now in
    let d = c.args.w.now.draft in
    let e = c.settle.new.draft in
    let f = both_settled v w in
    let did = left_too_large v w _ d e c.in_ok-left.ensures.did (ap (option_map val_of) c.in_default.is) in
    stop_to c.too_large.result c.too_large.new.w _ _ _ _ (ap same_forms (sym (did_give f a d e _ did))) (did_leave f a d e _ did c.in_ok-left.ensures.turn) c.too_large.ensures

pub returns-in_default-2 : goal.returns-in_default-2
returns-in_default-2 c =
    let v = val_of c.args.left.now in
    let w = val_of c.args.into.now in
    let a = at c.args.w.now in
    let d = c.args.w.now.draft in
    let e = c.settle.new.draft in
    let k = c.settle-2.new.draft in
    let f = both_settled v w in
    let did = right_too_large v w (val_of c.in-Some.left) _ _ d e k c.in_ok-left.ensures.did (ap (option_map val_of) c.in-Some.is) c.in_ok-right.ensures.did (ap (option_map val_of) c.in_default-2.is) in
    stop_to c.too_large-in_default-2.result c.too_large-in_default-2.new.w _ _ _ _ (ap same_forms (sym (did_give f a d k _ did))) (did_leave f a d k _ did (same_turn d e k c.in_ok-left.ensures.turn c.in_ok-right.ensures.turn)) c.too_large-in_default-2.ensures

pub returns : goal.returns
returns c =
    let v = val_of c.args.left.now in
    let w = val_of c.args.into.now in
    let a = at c.args.w.now in
    let d = c.args.w.now.draft in
    let e = c.settle.new.draft in
    let k = c.settle-2.new.draft in
    let f = both_settled v w in
    let did = both_there v w (val_of c.in-Some.left) (val_of c.in-Some-2.right) _ _ d e k c.in_ok-left.ensures.did (ap (option_map val_of) c.in-Some.is) c.in_ok-right.ensures.did (ap (option_map val_of) c.in-Some-2.is) in
    end_to c.give.result c.give.new.into c.give.new.w _ _ _ _ (ap reply_end c.in_ok-answer.ensures ∙ ap same_forms (sym (did_give f a d k _ did))) (did_leave f a d k _ did (same_turn d e k c.in_ok-left.ensures.turn c.in_ok-right.ensures.turn)) c.give.ensures
