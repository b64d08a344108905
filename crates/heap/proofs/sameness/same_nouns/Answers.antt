use Rattle.std.proofs.Common.{◌≡◌, sym, ◌∙◌, rules}
use Rattle.std.proofs.lemmas.Slice.Zip.{either_empty_from_Zip}
use Rattle.code.proofs.Zipped.{counted}
use Rattle.heap.proofs.Alike.{lengths_tell, all_remain, remain_after, differ_here, none_remain}
use Rattle.heap.proofs.sameness.same_nouns.Goals as goal

pub returns-then-len : goal.returns-then-len
returns-then-len c = lengths_tell c.args.xs.now.value.items c.args.ys.now.value.items (λ e. c.if-len.true (counted c.args.xs.now.value c.len.ensures c.deref.ensures ∙ e ∙ sym (counted c.args.ys.now.value c.len-2.ensures c.deref-2.ensures)))

pub loop-x-init : goal.loop-x-init
loop-x-init c =
    let p : c.into_iter-x-iterator.result.a.rest.now ≡ c.args.xs.now.value.items = search rules in
    let q : c.into_iter-x-iterator.result.b.rest.now ≡ c.args.ys.now.value.items = search rules in
    all_remain _ _ _ _ p q (counted c.args.xs.now.value c.len.ensures c.deref.ensures) (counted c.args.ys.now.value c.len-2.ensures c.deref-2.ensures) c.if-len.false

pub returns-then-not-same_noun : goal.returns-then-not-same_noun
returns-then-not-same_noun c = differ_here c.loop-x.x-iterator.a.rest.now c.loop-x.x-iterator.b.rest.now c.args.xs.now.value.items c.args.ys.now.value.items c.next.new.self.a.rest.now c.next.new.self.b.rest.now c.in-Some.x.now c.in-Some.y.now c.loop-x.invariant c.in-Some.ensures.steps.0 c.in-Some.ensures.steps.1 c.if-not-same_noun.ensures

pub loop-x-preserved : goal.loop-x-preserved
loop-x-preserved c = remain_after c.loop-x.x-iterator.a.rest.now c.loop-x.x-iterator.b.rest.now c.args.xs.now.value.items c.args.ys.now.value.items c.next.new.self.a.rest.now c.next.new.self.b.rest.now c.in-Some.x.now c.in-Some.y.now c.loop-x.invariant c.in-Some.ensures.steps.0 c.in-Some.ensures.steps.1 c.if-not-same_noun.ensures

pub returns : goal.returns
returns c = none_remain c.loop-x.x-iterator.a.rest.now c.loop-x.x-iterator.b.rest.now c.args.xs.now.value.items c.args.ys.now.value.items c.loop-x.invariant (either_empty_from_Zip c.loop-x.x-iterator c.next.new.self c.next.result c.in-None.is c.next.ensures.steps)
