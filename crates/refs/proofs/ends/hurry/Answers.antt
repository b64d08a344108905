use Rattle.std.proofs.Common.{◌≡◌, ◌∷◌, [], ◌++◌, ◌∙◌, Some, length, length-append, append_assoc, append-nil, sym, ap, subst, arith, List}
use Rattle.ids.specs.declared.names.PromId.{PromId}
use Rattle.values.specs.Data.{promise}
use Rattle.values.specs.View.{val_of}
use Rattle.refs.specs.Leads.{Leads, at_value, at_open, leads_on}
use Rattle.refs.proofs.Way.{is_promise}
use Rattle.refs.proofs.Hurried.{led_to, added_behind, kept_before}
use Rattle.refs.proofs.ends.hurry.Goals as goal

pub loop-count-init : goal.loop-count-init
loop-count-init g c = record { long = omega arith; seen = []; all = sym (append-nil c.args.through.now.items); leads = λ w qs l. l }

pub returns-in-None : goal.returns-in-None
returns-in-None g c =
    let m = g.R.Resolve.resolutions c.args.map.now in
    let i = c.loop-count.invariant in
    let e = added_behind c.args.through.now.items i.seen c.loop-count.through.items c.push.new.self.items c.loop-count.promise i.all c.in_ok-push.ensures.items in
    let l = i.leads (promise c.loop-count.promise) (c.loop-count.promise ∷ []) (at_open c.loop-count.promise (sym c.in-None.ensures)) in
    let f = led_to m c.args.first (promise c.loop-count.promise) c.args.through.now.items i.seen c.push.new.self.items (c.loop-count.promise ∷ []) l e (omega arith) in
    record { end = f.0; through = f.1; kept = kept_before c.args.through.now.items (i.seen ++ c.loop-count.promise ∷ []) c.push.new.self.items e }

pub returns-in-None-as_promise : goal.returns-in-None-as_promise
returns-in-None-as_promise g c =
    let m = g.R.Resolve.resolutions c.args.map.now in
    let i = c.loop-count.invariant in
    let e = added_behind c.args.through.now.items i.seen c.loop-count.through.items c.push.new.self.items c.loop-count.promise i.all c.in_ok-push.ensures.items in
    let v = val_of c.in-Some.value.now in
    let l = i.leads v (c.loop-count.promise ∷ []) (leads_on c.loop-count.promise v v [] (sym c.in-Some.ensures) (at_value v (sym c.in-None-as_promise.ensures))) in
    let f = led_to m c.args.first v c.args.through.now.items i.seen c.push.new.self.items (c.loop-count.promise ∷ []) l e (omega arith) in
    record { end = c.in_ok-share-in-None-as_promise.ensures ∙ f.0; through = f.1; kept = kept_before c.args.through.now.items (i.seen ++ c.loop-count.promise ∷ []) c.push.new.self.items e }

pub returns-then-eq : goal.returns-then-eq
returns-then-eq g c =
    let i = c.loop-count.invariant in
    let e = added_behind c.args.through.now.items i.seen c.loop-count.through.items c.push.new.self.items c.loop-count.promise i.all c.in_ok-push.ensures.items in
    record { end = tt; through = tt; kept = kept_before c.args.through.now.items (i.seen ++ c.loop-count.promise ∷ []) c.push.new.self.items e }

pub loop-count-preserved : goal.loop-count-preserved
loop-count-preserved g c =
    let m = g.R.Resolve.resolutions c.args.map.now in
    let i = c.loop-count.invariant in
    let to : m c.loop-count.promise ≡ Some (promise c.in-Some-as_promise.next) = sym c.in-Some.ensures ∙ ap Some (is_promise (val_of c.in-Some.value.now) c.in-Some-as_promise.next c.in-Some-as_promise.ensures) in
    let e = added_behind c.args.through.now.items i.seen c.loop-count.through.items c.push.new.self.items c.loop-count.promise i.all c.in_ok-push.ensures.items in
    record {
      long = omega (arith, ap length c.in_ok-push.ensures.items, length-append c.loop-count.through.items (c.loop-count.promise ∷ []), i.long);
      seen = i.seen ++ c.loop-count.promise ∷ [];
      all = e;
      leads = λ w qs l.
          let P : List PromId → Type 0 = λ ps. Leads m (promise c.args.first) ps w in
          subst P (sym (append_assoc i.seen (c.loop-count.promise ∷ []) qs)) (i.leads w (c.loop-count.promise ∷ qs) (leads_on c.loop-count.promise (promise c.in-Some-as_promise.next) w qs to l));
    }
