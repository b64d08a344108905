use Rattle.std.proofs.Common.{◌≡◌, ◌+◌, ◌≤◌, ap, sym, ◌∙◌, arith}
use Rattle.std.proofs.lemmas.Slice.Zip.{either_empty_from_Zip}
use Rattle.values.specs.Data.{list}
use Rattle.values.specs.Same.{same_as}
use Rattle.values.specs.View.{val_of, vals_of}
use Rattle.values.specs.Limits.{weight, weights}
use Rattle.values.proofs.Views.{list_is}
use Rattle.values.proofs.Differing.{other_null, other_bool, other_int, other_text, other_list, other_object, other_ejector, other_promise, other_broken, lengths_differ, differs_here, same_rest, same_end, lengths_rest}
use Rattle.values.proofs.Weighing.{next_weighs}
use Rattle.values.proofs.sameness.+sameness.Goals as goal

pub same-returns-in_default : goal.same-returns-in_default
same-returns-in_default t c = other_null c.args.b.now c.in_default.not-Null-1 ∙ ap (λ a. same_as (val_of a) (val_of c.args.b.now)) (sym c.in_default.is-0)

pub same-returns-in_default-2 : goal.same-returns-in_default-2
same-returns-in_default-2 t c = other_bool c.in_default.field-0-0 c.args.b.now c.in_default.not-Bool-1 ∙ ap (λ a. same_as (val_of a) (val_of c.args.b.now)) (sym c.in_default.is-0)

pub same-returns-in_default-3 : goal.same-returns-in_default-3
same-returns-in_default-3 t c = other_int c.in_default.field-0-0 c.args.b.now c.in_default.not-Int-1 ∙ ap (λ a. same_as (val_of a) (val_of c.args.b.now)) (sym c.in_default.is-0)

pub same-returns-in_default-4 : goal.same-returns-in_default-4
same-returns-in_default-4 t c = other_text c.in_default.field-0-0 c.args.b.now c.in_default.not-Text-1 ∙ ap (λ a. same_as (val_of a) (val_of c.args.b.now)) (sym c.in_default.is-0)

pub same-returns-in_default-5 : goal.same-returns-in_default-5
same-returns-in_default-5 t c = other_list _ c.args.b.now c.in_default.not-List-1 ∙ ap (λ a. same_as (val_of a) (val_of c.args.b.now)) (sym c.in_default.is-0)

pub same-returns-in_default-6 : goal.same-returns-in_default-6
same-returns-in_default-6 t c = other_object c.in_default.field-0-0 c.args.b.now c.in_default.not-Object-1 ∙ ap (λ a. same_as (val_of a) (val_of c.args.b.now)) (sym c.in_default.is-0)

pub same-returns-in_default-7 : goal.same-returns-in_default-7
same-returns-in_default-7 t c = other_ejector c.in_default.field-0-0 c.args.b.now c.in_default.not-Ejector-1 ∙ ap (λ a. same_as (val_of a) (val_of c.args.b.now)) (sym c.in_default.is-0)

pub same-returns-in_default-8 : goal.same-returns-in_default-8
same-returns-in_default-8 t c = other_promise c.in_default.field-0-0 c.args.b.now c.in_default.not-Promise-1 ∙ ap (λ a. same_as (val_of a) (val_of c.args.b.now)) (sym c.in_default.is-0)

pub same-returns-in_default-9 : goal.same-returns-in_default-9
same-returns-in_default-9 t c = other_broken c.in_default.field-0-0 c.args.b.now c.in_default.not-Broken-1 ∙ ap (λ a. same_as (val_of a) (val_of c.args.b.now)) (sym c.in_default.is-0)

pub same-returns-in-List-List : goal.same-returns-in-List-List
same-returns-in-List-List t c =
    c.same_items.ensures
    ∙ ap (λ v. same_as v (list (vals_of c.as_slice-in-List-List.result.now))) (sym (list_is c.args.a.now c.in-List-List.xs c.deref.result.now c.as_slice.result.now c.in-List-List.is-0 c.deref.ensures c.as_slice.ensures))
    ∙ ap (same_as (val_of c.args.a.now)) (sym (list_is c.args.b.now c.in-List-List.ys c.deref-in-List-List.result.now c.as_slice-in-List-List.result.now c.in-List-List.is-1 c.deref-in-List-List.ensures c.as_slice-in-List-List.ensures))

pub same_items-returns-then-xs-ys : goal.same_items-returns-then-xs-ys
same_items-returns-then-xs-ys t c = lengths_differ c.args.xs.now c.args.ys.now c.if-xs-ys.true

pub same_items-returns-then-not-same : goal.same_items-returns-then-not-same
same_items-returns-then-not-same t c = differs_here c.loop-x.x-iterator.a.rest.now c.loop-x.x-iterator.b.rest.now c.next.new.self.a.rest.now c.next.new.self.b.rest.now c.in-Some.x.now c.in-Some.y.now _ c.in-Some.ensures.steps.0 c.in-Some.ensures.steps.1 c.loop-x.invariant.1 c.if-not-same.ensures

pub same_items-loop-x-preserved : goal.same_items-loop-x-preserved
same_items-loop-x-preserved t c = (
  lengths_rest c.loop-x.x-iterator.a.rest.now c.loop-x.x-iterator.b.rest.now c.next.new.self.a.rest.now c.next.new.self.b.rest.now c.in-Some.x.now c.in-Some.y.now c.in-Some.ensures.steps.0 c.in-Some.ensures.steps.1 c.loop-x.invariant.0,
  same_rest c.loop-x.x-iterator.a.rest.now c.loop-x.x-iterator.b.rest.now c.next.new.self.a.rest.now c.next.new.self.b.rest.now c.in-Some.x.now c.in-Some.y.now _ c.in-Some.ensures.steps.0 c.in-Some.ensures.steps.1 c.loop-x.invariant.1 c.if-not-same.ensures,
  (next_weighs c.loop-x.x-iterator.a.rest.now c.next.new.self.a.rest.now c.in-Some.x.now _ c.in-Some.ensures.steps.0 c.loop-x.invariant.2).1,
)

pub same_items-returns : goal.same_items-returns
same_items-returns t c = same_end c.loop-x.x-iterator.a.rest.now c.loop-x.x-iterator.b.rest.now _ c.loop-x.invariant.0 (either_empty_from_Zip c.loop-x.x-iterator c.next.new.self c.next.result c.in-None.is c.next.ensures.steps) c.loop-x.invariant.1

pub same-same_items-requires : goal.same-same_items-requires
same-same_items-requires t c =
    let w : weight (val_of c.args.a.now) ≡ 1 + weights (vals_of c.as_slice.result.now) = ap weight (list_is c.args.a.now c.in-List-List.xs c.deref.result.now c.as_slice.result.now c.in-List-List.is-0 c.deref.ensures c.as_slice.ensures) in
    (omega arith, tt)

pub same_items-same-requires : goal.same_items-same-requires
same_items-same-requires t c =
    let w : weight (val_of c.in-Some.x.now) ≤ weights (vals_of c.args.xs.now) = (next_weighs c.loop-x.x-iterator.a.rest.now c.next.new.self.a.rest.now c.in-Some.x.now _ c.in-Some.ensures.steps.0 c.loop-x.invariant.2).0 in
    (omega arith, tt)
