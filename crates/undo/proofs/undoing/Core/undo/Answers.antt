use Rattle.std.proofs.Common.{◌<◌, ◌≤◌, ◌+◌, ◌-◌, ◌%◌, ◌^◌, false, length, take, get_or, reverse, sym, ap, ◌∙◌, subst, arith}
use Rattle.history.specs.Walks.{walk}
use Rattle.undo.specs.CoreView.{items_of, shown, ready_of, swaps_of}
use Rattle.journal.specs.Items.{keys_at, pass, swap_item}
use Rattle.undo.proofs.Looping.{counted_on}
use Rattle.undo.proofs.Positions.{pass_at, pass_same, count_same, count_back, walk_back}
use Rattle.undo.proofs.undoing.Core.undo.Goals as goal

pub swap_entry-requires-clause-behind : goal.swap_entry-requires-clause-behind
swap_entry-requires-clause-behind c =
    let ps = c.args.positions.now in
    let i = c.loop-i.i in
    let h : i - 1 < length ps = omega arith in
    subst (λ n. n ≤ get_or ps (i - 1) 0) (sym c.loop-i.invariant.settled) (c.requires.behind (i - 1) 0 h)

pub swap_entry-requires-clause-ready : goal.swap_entry-requires-clause-ready
swap_entry-requires-clause-ready c =
    let ps = c.args.positions.now in
    let i = c.loop-i.i in
    let h : i - 1 < length ps = omega arith in
    let room = ready_of c.args.self.now in
    let items = items_of c.args.self.now in
    pass_same room (ready_of c.loop-i.self) (keys_at items (get_or ps (i - 1) 0)) (keys_at (items_of c.loop-i.self) (get_or ps (i - 1) 0)) c.loop-i.invariant.ready (c.loop-i.invariant.keys (get_or ps (i - 1) 0))
    (pass_at (λ p. pass room (keys_at items p)) ps (i - 1) h c.requires.ready)

pub loop-i-preserved : goal.loop-i-preserved
loop-i-preserved c =
    let ps = c.args.positions.now in
    let i = c.loop-i.i in
    let items = items_of c.args.self.now in
    let p = get_or ps (i - 1) 0 in
    let some : 0 < i = omega arith in
    let within : i ≤ length ps = omega arith in
    record {
      bound = omega arith;
      settled = c.swap_entry.ensures.settled ∙ c.loop-i.invariant.settled;
      ready = c.swap_entry.ensures.ready ∙ c.loop-i.invariant.ready;
      keys = λ q. c.swap_entry.ensures.keys q ∙ c.loop-i.invariant.keys q;
      rest = ap (walk (swap_item false) (reverse (take (i - 1) ps))) c.swap_entry.ensures.shown ∙ walk_back (swap_item false) ps i (shown c.loop-i.self) some within ∙ c.loop-i.invariant.rest;
      counted = counted_on (2 ^ 64) (swaps_of c.args.self.now) (swaps_of c.loop-i.self) (swaps_of c.swap_entry.new.self) _ _ c.loop-i.invariant.counted
          (c.swap_entry.ensures.counted ∙ ap (λ n. (swaps_of c.loop-i.self + n) % 2 ^ 64) (count_same (items_of c.loop-i.self) items p (c.loop-i.invariant.keys p)))
          ∙ ap (λ n. (swaps_of c.args.self.now + n) % 2 ^ 64) (count_back items ps i some within);
    }
