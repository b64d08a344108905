use Rattle.std.proofs.Common.{true, false}
use Rattle.std.proofs.lemmas.Slice.Zip.{either_empty_from_Zip}
use Rattle.values.specs.View.{vals_of}
use Rattle.code.proofs.Zipped.{counted, counts_differ, left_after, differ_here, none_left}
use Rattle.post.proofs.Arguments.{values_by, arguments_told}
use Rattle.post.proofs.call.same_arguments.Goals as goal

pub returns-then-len : goal.returns-then-len
returns-then-len c =
    arguments_told (vals_of c.args.xs.now.value.items) (vals_of c.args.ys.now.value.items) false
    (counts_differ values_by c.args.xs.now.value.items c.args.ys.now.value.items (counted c.args.xs.now.value c.len.ensures c.deref.ensures) (counted c.args.ys.now.value c.len-2.ensures c.deref-2.ensures) c.if-len.true)

pub returns-then-not-same : goal.returns-then-not-same
returns-then-not-same c =
    arguments_told (vals_of c.args.xs.now.value.items) (vals_of c.args.ys.now.value.items) false
    (differ_here values_by c.loop-x.x-iterator.a.rest.now c.loop-x.x-iterator.b.rest.now c.args.xs.now.value.items c.args.ys.now.value.items c.next.new.self.a.rest.now c.next.new.self.b.rest.now c.in-Some.x.now c.in-Some.y.now c.loop-x.invariant c.in-Some.ensures.steps.0 c.in-Some.ensures.steps.1 c.if-not-same.ensures)

pub loop-x-preserved : goal.loop-x-preserved
loop-x-preserved c = left_after values_by c.loop-x.x-iterator.a.rest.now c.loop-x.x-iterator.b.rest.now c.args.xs.now.value.items c.args.ys.now.value.items c.next.new.self.a.rest.now c.next.new.self.b.rest.now c.in-Some.x.now c.in-Some.y.now c.loop-x.invariant c.in-Some.ensures.steps.0 c.in-Some.ensures.steps.1 c.if-not-same.ensures

pub returns : goal.returns
returns c =
    arguments_told (vals_of c.args.xs.now.value.items) (vals_of c.args.ys.now.value.items) true
    (none_left values_by c.loop-x.x-iterator.a.rest.now c.loop-x.x-iterator.b.rest.now c.args.xs.now.value.items c.args.ys.now.value.items c.loop-x.invariant (either_empty_from_Zip c.loop-x.x-iterator c.next.new.self c.next.result c.in-None.is c.next.ensures.steps))
