use Rattle.std.proofs.Common.{◌≡◌, ◌∙◌, List, ap, sym}
use Rattle.kernele.specs.declared.tree.Pattern.{Pattern}
use Rattle.code.specs.declared.code.Code.{Code}
use Rattle.values.specs.View.{val_of}
use Rattle.eval_rules.specs.Doings.{datum_of, datum_read}
use Rattle.eval_rules.specs.Outcomes.{value}
use Rattle.eval_rules.specs.Rules.{parts_bound, parts_end, parts_of, primitive_end}
use Rattle.eval_rules.specs.View.{at}
use Rattle.eval_rules.proofs.Answering.{end_to}
use Rattle.eval_rules.proofs.Steps.{slice_of}
use Rattle.eval.specs.Sides.{taken_at, taken_end}
use Rattle.eval.proofs.Sides.{takes_nothing}
use Rattle.eval.proofs.right.take.Goals as goal

pub returns-in_ok-match_pattern-in-Def : goal.returns-in_ok-match_pattern-in-Def
returns-in_ok-match_pattern-in-Def c =
    let o = value (val_of c.args.into.now) in
    let a = at c.args.w.now in
    (ap (λ (e : Code). taken_end e o a) (sym c.in-Def.is), c.in_ok-match_pattern-in-Def.ensures ∙ ap (λ (e : Code). taken_at e o a) (sym c.in-Def.is))

pub returns-in-DefList : goal.returns-in-DefList
returns-in-DefList c =
    let o = value (val_of c.args.into.now) in
    let a = at c.args.w.now in
    let slice : c.deref-in-DefList.result.now ≡ c.in-DefList.patterns.value.items = slice_of c.deref-in-DefList.ensures.value c.deref.ensures in
    end_to c.take_parts.result c.args.into.now c.take_parts.new.w _ _ _ _ (ap (λ (ps : List Pattern). parts_end o (parts_of ps (datum_of o a))) slice ∙ ap (λ (e : Code). taken_end e o a) (sym c.in-DefList.is))
    (ap (λ (ps : List Pattern). parts_bound ps (parts_of ps (datum_of o a)) (datum_read o a)) slice ∙ ap (λ (e : Code). taken_at e o a) (sym c.in-DefList.is)) c.take_parts.ensures

pub returns-in-Var : goal.returns-in-Var
returns-in-Var c =
    let o = value (val_of c.args.into.now) in
    let a = at c.args.w.now in
    end_to c.declare.result c.args.into.now c.declare.new.w _ _ _ _ (ap (λ (e : Code). taken_end e o a) (sym c.in-Var.is)) (ap (λ (e : Code). taken_at e o a) (sym c.in-Var.is)) c.declare.ensures

pub returns-in-Assign : goal.returns-in-Assign
returns-in-Assign c =
    let o = value (val_of c.args.into.now) in
    let a = at c.args.w.now in
    end_to c.assign.result c.args.into.now c.assign.new.w _ _ _ _ (ap (λ (e : Code). taken_end e o a) (sym c.in-Assign.is)) (ap (λ (e : Code). taken_at e o a) (sym c.in-Assign.is)) c.assign.ensures

pub returns-in_ok-take_end-in-Primitive : goal.returns-in_ok-take_end-in-Primitive
returns-in_ok-take_end-in-Primitive c =
    let o = value (val_of c.args.into.now) in
    let a = at c.args.w.now in
    let taken = c.in_ok-take_end-in-Primitive.ensures in
    end_to c.give_made.result c.give_made.new.into c.give_made.new.w _ _ _ _ ((λ i. primitive_end (value (taken.end i)) (taken.place i).vat c.in-Primitive.primitive) ∙ ap (λ (e : Code). taken_end e o a) (sym c.in-Primitive.is)) (taken.place ∙ ap (λ (e : Code). taken_at e o a) (sym c.in-Primitive.is)) c.give_made.ensures

pub returns-in_default : goal.returns-in_default
returns-in_default c = takes_nothing c.args.e.now (value (val_of c.args.into.now)) (at c.args.w.now) c.in_default.not-Def c.in_default.not-Var c.in_default.not-Assign c.in_default.not-DefList c.in_default.not-Primitive
