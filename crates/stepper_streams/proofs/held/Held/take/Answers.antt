use Rattle.std.proofs.Common.{◌≡◌, ℕ, ◌+◌, ◌-◌, ◌≤◌, List, length, take, drop, slice_range, sym, ap, ◌∙◌, arith, length-take, drop-drop}
use Rattle.std.proofs.lemmas.List.{drop-take}
use Rattle.stepper_streams.proofs.held.Held.take.Goals as goal

-- a range that begins later
range_behind : (xs : List ℕ) (a e n : ℕ) → n ≤ length (slice_range xs a e) → slice_range xs (a + n) e ≡ drop n (slice_range xs a e)
range_behind xs a e n h =
    let within : n ≤ e - a = omega (arith, h, length-take (e - a) (drop a xs)) in
    let whole : n + (e - (a + n)) ≡ e - a = omega arith in
    ap (take (e - (a + n))) (sym (drop-drop n a xs)) ∙ sym (drop-take n (e - (a + n)) (drop a xs)) ∙ ap (λ k. drop n (take k (drop a xs))) whole

pub returns : goal.returns
returns c = range_behind c.args.self.now.block.items c.args.self.now.start c.args.self.now.end c.args.count c.requires
