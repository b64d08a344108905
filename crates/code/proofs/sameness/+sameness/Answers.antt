use Rattle.std.proofs.Common.{refl, arith}
use Rattle.std.proofs.lemmas.Slice.Zip.{either_empty_from_Zip}
use Rattle.code.specs.View.{tree_of_code, trees_of_codes, methods_of_codes}
use Rattle.code.specs.Sameness.{alike, all_alike, methods_alike, method_alike}
use Rattle.code.proofs.Pairs.{calls_pair, lists_pair, hides_pair, ifs_pair, whiles_pair, fors_pair, tries_pair, objects_pair, escapes_pair, sends_pair, whens_pair, when_catches_pair}
use Rattle.code.proofs.Zipped.{ItemByItem, counted, counts_differ, left_after, differ_here, none_left}
use Rattle.code.proofs.sameness.+sameness.Goals as goal

codes_by : ItemByItem (λ x y. alike (tree_of_code x) (tree_of_code y)) (λ xs ys. all_alike (trees_of_codes xs) (trees_of_codes ys))
codes_by = record { ends = refl; longer = λ x xs. refl; shorter = λ y ys. refl; items = λ x y xs ys. refl }

methods_by : ItemByItem method_alike (λ ms ns. methods_alike (methods_of_codes ms) (methods_of_codes ns))
methods_by = record { ends = refl; longer = λ m ms. refl; shorter = λ n ns. refl; items = λ m n ms ns. refl }

pub same_codes-returns-then-len : goal.same_codes-returns-then-len
same_codes-returns-then-len t c = counts_differ codes_by c.args.xs.now.value.items c.args.ys.now.value.items (counted c.args.xs.now.value c.len.ensures c.deref.ensures) (counted c.args.ys.now.value c.len-2.ensures c.deref-2.ensures) c.if-len.true

pub same_codes-returns-then-not-same_code : goal.same_codes-returns-then-not-same_code
same_codes-returns-then-not-same_code t c = differ_here codes_by c.loop-x.x-iterator.a.rest.now c.loop-x.x-iterator.b.rest.now c.args.xs.now.value.items c.args.ys.now.value.items c.next.new.self.a.rest.now c.next.new.self.b.rest.now c.in-Some.x.now c.in-Some.y.now c.loop-x.invariant c.in-Some.ensures.steps.0 c.in-Some.ensures.steps.1 c.if-not-same_code.ensures

pub same_codes-loop-x-preserved : goal.same_codes-loop-x-preserved
same_codes-loop-x-preserved t c = left_after codes_by c.loop-x.x-iterator.a.rest.now c.loop-x.x-iterator.b.rest.now c.args.xs.now.value.items c.args.ys.now.value.items c.next.new.self.a.rest.now c.next.new.self.b.rest.now c.in-Some.x.now c.in-Some.y.now c.loop-x.invariant c.in-Some.ensures.steps.0 c.in-Some.ensures.steps.1 c.if-not-same_code.ensures

pub same_codes-returns : goal.same_codes-returns
same_codes-returns t c = none_left codes_by c.loop-x.x-iterator.a.rest.now c.loop-x.x-iterator.b.rest.now c.args.xs.now.value.items c.args.ys.now.value.items c.loop-x.invariant (either_empty_from_Zip c.loop-x.x-iterator c.next.new.self c.next.result c.in-None.is c.next.ensures.steps)

pub same_methods-returns-then-len : goal.same_methods-returns-then-len
same_methods-returns-then-len t c = counts_differ methods_by c.args.ms.now.value.items c.args.ns.now.value.items (counted c.args.ms.now.value c.len.ensures c.deref.ensures) (counted c.args.ns.now.value c.len-2.ensures c.deref-2.ensures) c.if-len.true

pub same_methods-returns-then-not-same_method : goal.same_methods-returns-then-not-same_method
same_methods-returns-then-not-same_method t c = differ_here methods_by c.loop-m.m-iterator.a.rest.now c.loop-m.m-iterator.b.rest.now c.args.ms.now.value.items c.args.ns.now.value.items c.next.new.self.a.rest.now c.next.new.self.b.rest.now c.in-Some.m.now c.in-Some.n.now c.loop-m.invariant c.in-Some.ensures.steps.0 c.in-Some.ensures.steps.1 c.if-not-same_method.ensures

pub same_methods-loop-m-preserved : goal.same_methods-loop-m-preserved
same_methods-loop-m-preserved t c = left_after methods_by c.loop-m.m-iterator.a.rest.now c.loop-m.m-iterator.b.rest.now c.args.ms.now.value.items c.args.ns.now.value.items c.next.new.self.a.rest.now c.next.new.self.b.rest.now c.in-Some.m.now c.in-Some.n.now c.loop-m.invariant c.in-Some.ensures.steps.0 c.in-Some.ensures.steps.1 c.if-not-same_method.ensures

pub same_methods-returns : goal.same_methods-returns
same_methods-returns t c = none_left methods_by c.loop-m.m-iterator.a.rest.now c.loop-m.m-iterator.b.rest.now c.args.ms.now.value.items c.args.ns.now.value.items c.loop-m.invariant (either_empty_from_Zip c.loop-m.m-iterator c.next.new.self c.next.result c.in-None.is c.next.ensures.steps)

pub same_code-returns-then-same_code : goal.same_code-returns-then-same_code
same_code-returns-then-same_code t c =
    let e = calls_pair c.args.a.now c.args.b.now c.in-Call-Call.r c.in-Call-Call.s c.in-Call-Call.v c.in-Call-Call.w c.in-Call-Call.xs c.in-Call-Call.ys c.in-Call-Call.is-0 c.in-Call-Call.is-1 in
    grind arith

pub same_code-returns-in-List-List : goal.same_code-returns-in-List-List
same_code-returns-in-List-List t c =
    let e = lists_pair c.args.a.now c.args.b.now c.in-List-List.xs c.in-List-List.ys c.in-List-List.is-0 c.in-List-List.is-1 in
    grind arith

pub same_code-returns-in-Hide-Hide : goal.same_code-returns-in-Hide-Hide
same_code-returns-in-Hide-Hide t c =
    let e = hides_pair c.args.a.now c.args.b.now c.in-Hide-Hide.xs c.in-Hide-Hide.ys c.in-Hide-Hide.is-0 c.in-Hide-Hide.is-1 in
    grind arith

pub same_code-returns-then-same_codes : goal.same_code-returns-then-same_codes
same_code-returns-then-same_codes t c =
    let e = ifs_pair c.args.a.now c.args.b.now c.in-If-If.c c.in-If-If.d c.in-If-If.xs c.in-If-If.ys c.in-If-If.us c.in-If-If.vs c.in-If-If.is-0 c.in-If-If.is-1 in
    grind arith

pub same_code-returns-else-same_codes : goal.same_code-returns-else-same_codes
same_code-returns-else-same_codes t c =
    let e = ifs_pair c.args.a.now c.args.b.now c.in-If-If.c c.in-If-If.d c.in-If-If.xs c.in-If-If.ys c.in-If-If.us c.in-If-If.vs c.in-If-If.is-0 c.in-If-If.is-1 in
    grind arith

pub same_code-returns-then-same_code-4 : goal.same_code-returns-then-same_code-4
same_code-returns-then-same_code-4 t c =
    let e = whiles_pair c.args.a.now c.args.b.now c.in-While-While.c c.in-While-While.d c.in-While-While.xs c.in-While-While.ys c.in-While-While.is-0 c.in-While-While.is-1 in
    grind arith

pub same_code-returns-then-same_code-5 : goal.same_code-returns-then-same_code-5
same_code-returns-then-same_code-5 t c =
    let e = fors_pair c.args.a.now c.args.b.now c.in-For-For.p c.in-For-For.q c.in-For-For.e c.in-For-For.f c.in-For-For.xs c.in-For-For.ys c.in-For-For.is-0 c.in-For-For.is-1 in
    grind arith

pub same_code-returns-then-same_pattern-3 : goal.same_code-returns-then-same_pattern-3
same_code-returns-then-same_pattern-3 t c =
    let e = tries_pair c.args.a.now c.args.b.now c.in-Try-Try.p c.in-Try-Try.q c.in-Try-Try.xs c.in-Try-Try.ys c.in-Try-Try.us c.in-Try-Try.vs c.in-Try-Try.is-0 c.in-Try-Try.is-1 in
    grind arith

pub same_code-returns-else-same_pattern-3 : goal.same_code-returns-else-same_pattern-3
same_code-returns-else-same_pattern-3 t c =
    let e = tries_pair c.args.a.now c.args.b.now c.in-Try-Try.p c.in-Try-Try.q c.in-Try-Try.xs c.in-Try-Try.ys c.in-Try-Try.us c.in-Try-Try.vs c.in-Try-Try.is-0 c.in-Try-Try.is-1 in
    grind arith

pub same_code-returns-then-same_pattern-4 : goal.same_code-returns-then-same_pattern-4
same_code-returns-then-same_pattern-4 t c =
    let e = objects_pair c.args.a.now c.args.b.now c.in-Object-Object.p c.in-Object-Object.q _ _ c.in-Object-Object.ms c.in-Object-Object.ns _ _ c.in-Object-Object.is-0 c.in-Object-Object.is-1 in
    grind arith

pub same_code-returns-then-eq-4 : goal.same_code-returns-then-eq-4
same_code-returns-then-eq-4 t c =
    let e = escapes_pair c.args.a.now c.args.b.now c.in-Escape-Escape.x c.in-Escape-Escape.y c.in-Escape-Escape.xs c.in-Escape-Escape.ys c.in-Escape-Escape.is-0 c.in-Escape-Escape.is-1 in
    grind arith

pub same_code-returns-then-same_code-6 : goal.same_code-returns-then-same_code-6
same_code-returns-then-same_code-6 t c =
    let e = sends_pair c.args.a.now c.args.b.now c.in-Send-Send.r c.in-Send-Send.s c.in-Send-Send.v c.in-Send-Send.w c.in-Send-Send.xs c.in-Send-Send.ys c.in-Send-Send.is-0 c.in-Send-Send.is-1 in
    grind arith

pub same_code-returns-then-same_code-7 : goal.same_code-returns-then-same_code-7
same_code-returns-then-same_code-7 t c =
    let e = whens_pair c.args.a.now c.args.b.now c.in-When-When.e c.in-When-When.f _ _ c.in-When-When.xs c.in-When-When.ys c.in-When-When.is-0 c.in-When-When.is-1 in
    grind arith

pub same_code-returns-then-same_pattern-5 : goal.same_code-returns-then-same_pattern-5
same_code-returns-then-same_pattern-5 t c =
    let w = c.in-WhenCatch-WhenCatch in
    let e = when_catches_pair c.args.a.now c.args.b.now w.e w.f _ _ w.xs w.ys w.p w.q w.us w.vs w.is-0 w.is-1 in
    grind arith

pub same_code-returns-else-same_pattern-5 : goal.same_code-returns-else-same_pattern-5
same_code-returns-else-same_pattern-5 t c =
    let w = c.in-WhenCatch-WhenCatch in
    let e = when_catches_pair c.args.a.now c.args.b.now w.e w.f _ _ w.xs w.ys w.p w.q w.us w.vs w.is-0 w.is-1 in
    grind arith
