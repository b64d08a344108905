use Rattle.std.proofs.Common.{refl}
use Rattle.std.proofs.lemmas.Slice.Zip.{either_empty_from_Zip}
use Rattle.code.specs.Sameness.{pattern_alike, patterns_alike}
use Rattle.code.proofs.Zipped.{ItemByItem, counted, counts_differ, left_after, differ_here, none_left}
use Rattle.code.proofs.sameness.same_patterns.Goals as goal

patterns_by : ItemByItem pattern_alike patterns_alike
patterns_by = record { ends = refl; longer = λ x xs. refl; shorter = λ y ys. refl; items = λ x y xs ys. refl }

pub returns-then-len : goal.returns-then-len
returns-then-len c = counts_differ patterns_by c.args.ps.now.value.items c.args.qs.now.value.items (counted c.args.ps.now.value c.len.ensures c.deref.ensures) (counted c.args.qs.now.value c.len-2.ensures c.deref-2.ensures) c.if-len.true

pub returns-then-not-same_pattern : goal.returns-then-not-same_pattern
returns-then-not-same_pattern c = differ_here patterns_by c.loop-p.p-iterator.a.rest.now c.loop-p.p-iterator.b.rest.now c.args.ps.now.value.items c.args.qs.now.value.items c.next.new.self.a.rest.now c.next.new.self.b.rest.now c.in-Some.p.now c.in-Some.q.now c.loop-p.invariant c.in-Some.ensures.steps.0 c.in-Some.ensures.steps.1 c.if-not-same_pattern.ensures

pub loop-p-preserved : goal.loop-p-preserved
loop-p-preserved c = left_after patterns_by c.loop-p.p-iterator.a.rest.now c.loop-p.p-iterator.b.rest.now c.args.ps.now.value.items c.args.qs.now.value.items c.next.new.self.a.rest.now c.next.new.self.b.rest.now c.in-Some.p.now c.in-Some.q.now c.loop-p.invariant c.in-Some.ensures.steps.0 c.in-Some.ensures.steps.1 c.if-not-same_pattern.ensures

pub returns : goal.returns
returns c = none_left patterns_by c.loop-p.p-iterator.a.rest.now c.loop-p.p-iterator.b.rest.now c.args.ps.now.value.items c.args.qs.now.value.items c.loop-p.invariant (either_empty_from_Zip c.loop-p.p-iterator c.next.new.self c.next.result c.in-None.is c.next.ensures.steps)
