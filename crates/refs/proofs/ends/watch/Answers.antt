use Rattle.std.proofs.Common.{◌+◌, true, false, Some, length, length-append, ◌≡◌, ◌∷◌, [], ◌++◌, ◌∙◌, sym, ap, drop, arith, subst, List, append-nil}
use Rattle.ids.specs.declared.names.PromId.{PromId}
use Rattle.values.specs.Data.{promise}
use Rattle.values.specs.View.{val_of}
use Rattle.refs.specs.Walks.{came}
use Rattle.refs.proofs.Way.{IsOnTheWay, way_begins, way_circles, way_open, way_ends, way_goes, added_none, added_one, added, is_promise, shared_is, on_ok}
use Rattle.refs.proofs.ends.watch.Goals as goal

pub loop-init : goal.loop-init
loop-init g c =
    let none = added_none c.len-start.result c.args.through.now.items (omega arith) in
    let P : List PromId → Type 0 = λ seen. IsOnTheWay (g.R.Resolve.resolutions c.args.map.now) c.args.first seen c.args.first 0 in
    record {
      before = sym (append-nil _) ∙ ap (λ xs. c.args.through.now.items ++ xs) (sym none);
      start = omega arith;
      count = omega arith;
      way = subst P (sym none) (way_begins (g.R.Resolve.resolutions c.args.map.now) c.args.first);
    }

pub returns-then-is_among : goal.returns-then-is_among
returns-then-is_among g c =
    let seen : true ≡ came c.loop.promise (drop c.len-start.result c.loop.through.items) = c.if-is_among.ensures ∙ ap (came c.loop.promise) (c.split_at.ensures.back ∙ ap (drop c.len-start.result) c.as_slice.ensures.value) in
    let w = way_circles (g.R.Resolve.resolutions c.args.map.now) c.args.first (drop c.len-start.result c.loop.through.items) c.loop.promise c.loop.counter c.loop.invariant.way seen in
    record { end = sym w.1; through = c.loop.invariant.before ∙ ap (λ ps. c.args.through.now.items ++ ps) (sym w.0) }

pub returns-in-None : goal.returns-in-None
returns-in-None g c =
    let new : false ≡ came c.loop.promise (drop c.len-start.result c.loop.through.items) = c.if-is_among.ensures ∙ ap (came c.loop.promise) (c.split_at.ensures.back ∙ ap (drop c.len-start.result) c.as_slice.ensures.value) in
    let w = way_open (g.R.Resolve.resolutions c.args.map.now) c.args.first (drop c.len-start.result c.loop.through.items) c.loop.promise c.loop.counter c.loop.invariant.way (omega arith) new (sym c.in-None.ensures) in
    record {
      end = sym w.1;
      through = added c.len-start.result c.args.through.now.items c.loop.through.items c.push.new.self.items c.loop.promise c.loop.invariant.before c.loop.invariant.start c.in_ok-push.ensures.items
          ∙ ap (λ ps. c.args.through.now.items ++ ps) (sym w.0);
    }

pub returns-in-None-as_promise : goal.returns-in-None-as_promise
returns-in-None-as_promise g c =
    let new : false ≡ came c.loop.promise (drop c.len-start.result c.loop.through.items) = c.if-is_among.ensures ∙ ap (came c.loop.promise) (c.split_at.ensures.back ∙ ap (drop c.len-start.result) c.as_slice.ensures.value) in
    let w = way_ends (g.R.Resolve.resolutions c.args.map.now) c.args.first (drop c.len-start.result c.loop.through.items) c.loop.promise c.loop.counter (val_of c.in-Some.value.now) c.loop.invariant.way (omega arith) new (sym c.in-Some.ensures) (sym c.in-None-as_promise.ensures) in
    record {
      end = shared_is c.share.result (val_of c.in-Some.value.now) _ (sym w.1) c.share.ensures;
      through = on_ok c.share.result
          (added c.len-start.result c.args.through.now.items c.loop.through.items c.push.new.self.items c.loop.promise c.loop.invariant.before c.loop.invariant.start c.in_ok-push.ensures.items
          ∙ ap (λ ps. c.args.through.now.items ++ ps) (sym w.0));
    }

pub loop-preserved : goal.loop-preserved
loop-preserved g c =
    let new : false ≡ came c.loop.promise (drop c.len-start.result c.loop.through.items) = c.if-is_among.ensures ∙ ap (came c.loop.promise) (c.split_at.ensures.back ∙ ap (drop c.len-start.result) c.as_slice.ensures.value) in
    let to : g.R.Resolve.resolutions c.args.map.now c.loop.promise ≡ Some (promise c.in-Some-as_promise.next) = sym c.in-Some.ensures ∙ ap Some (is_promise (val_of c.in-Some.value.now) c.in-Some-as_promise.next c.in-Some-as_promise.ensures) in
    let w = way_goes (g.R.Resolve.resolutions c.args.map.now) c.args.first (drop c.len-start.result c.loop.through.items) c.loop.promise c.in-Some-as_promise.next c.loop.counter c.loop.invariant.way (omega arith) new to in
    let one = added_one c.len-start.result c.args.through.now.items c.loop.through.items c.push.new.self.items c.loop.promise c.loop.invariant.before c.loop.invariant.start c.in_ok-push.ensures.items in
    let P : List PromId → Type 0 = λ seen. IsOnTheWay (g.R.Resolve.resolutions c.args.map.now) c.args.first seen c.in-Some-as_promise.next (c.loop.counter + 1) in
    record {
      before = added c.len-start.result c.args.through.now.items c.loop.through.items c.push.new.self.items c.loop.promise c.loop.invariant.before c.loop.invariant.start c.in_ok-push.ensures.items
          ∙ ap (λ ps. c.args.through.now.items ++ ps) (sym one);
      start = c.loop.invariant.start;
      count = omega (arith, ap length c.in_ok-push.ensures.items, length-append c.loop.through.items (c.loop.promise ∷ []), c.loop.invariant.count);
      way = subst P (sym one) w;
    }
