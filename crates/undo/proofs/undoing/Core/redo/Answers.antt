use Rattle.std.proofs.Common.{◌<◌, ◌≤◌, ◌+◌, ◌%◌, ◌^◌, true, length, drop, get_or, sym, ap, ◌∙◌, subst, arith}
use Rattle.history.specs.Walks.{walk}
use Rattle.undo.specs.CoreView.{items_of, shown, ready_of, swaps_of}
use Rattle.journal.specs.Items.{keys_at, pass, swap_item}
use Rattle.undo.proofs.Looping.{counted_on}
use Rattle.undo.proofs.Positions.{pass_at, pass_same, count_same, count_on, walk_on}
use Rattle.undo.proofs.undoing.Core.redo.Goals as goal

pub swap_entry-requires-clause-behind : goal.swap_entry-requires-clause-behind
swap_entry-requires-clause-behind c =
    let ps = c.args.positions.now in
    let i = c.loop-position.position-index in
    let h : i < length ps = omega arith in
    subst (λ n. n ≤ get_or ps (i) 0) (sym c.loop-position.invariant.settled) (c.requires.behind (i) 0 h)

pub swap_entry-requires-clause-ready : goal.swap_entry-requires-clause-ready
swap_entry-requires-clause-ready c =
    let ps = c.args.positions.now in
    let i = c.loop-position.position-index in
    let h : i < length ps = omega arith in
    let room = ready_of c.args.self.now in
    let items = items_of c.args.self.now in
    pass_same room (ready_of c.loop-position.self) (keys_at items (get_or ps i 0)) (keys_at (items_of c.loop-position.self) (get_or ps i 0)) c.loop-position.invariant.ready (c.loop-position.invariant.keys (get_or ps i 0))
    (pass_at (λ p. pass room (keys_at items p)) ps i h c.requires.ready)

pub loop-position-preserved : goal.loop-position-preserved
loop-position-preserved c =
    let ps = c.args.positions.now in
    let i = c.loop-position.position-index in
    let items = items_of c.args.self.now in
    let p = get_or ps i 0 in
    let h : i < length ps = omega arith in
    record {
      settled = c.swap_entry.ensures.settled ∙ c.loop-position.invariant.settled;
      ready = c.swap_entry.ensures.ready ∙ c.loop-position.invariant.ready;
      keys = λ q. c.swap_entry.ensures.keys q ∙ c.loop-position.invariant.keys q;
      rest = ap (walk (swap_item true) (drop (i + 1) ps)) c.swap_entry.ensures.shown ∙ walk_on (swap_item true) ps i (shown c.loop-position.self) h ∙ c.loop-position.invariant.rest;
      counted = counted_on (2 ^ 64) (swaps_of c.args.self.now) (swaps_of c.loop-position.self) (swaps_of c.swap_entry.new.self) _ _ c.loop-position.invariant.counted
          (c.swap_entry.ensures.counted ∙ ap (λ n. (swaps_of c.loop-position.self + n) % 2 ^ 64) (count_same (items_of c.loop-position.self) items p (c.loop-position.invariant.keys p)))
          ∙ ap (λ n. (swaps_of c.args.self.now + n) % 2 ^ 64) (count_on items ps i h);
    }
