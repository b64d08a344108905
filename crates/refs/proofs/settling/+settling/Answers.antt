use Rattle.std.proofs.Common.{◌≡◌, ℕ, ◌+◌, ◌-◌, ◌++◌, take, drop, Some, option_map, inl, inr, sym, ap, ◌∙◌, subst, append_assoc, append-nil, arith}
use Rattle.std.proofs.lemmas.List.{take_all}
use Rattle.values.specs.Data.{list, Vals}
use Rattle.values.specs.Limits.{weight}
use Rattle.values.specs.Replies.{items_in, list_reply, value_given}
use Rattle.values.specs.View.{val_of, vals_of}
use Rattle.values.proofs.Tables.{vals_from}
use Rattle.refs.specs.Forms.{formed}
use Rattle.refs.specs.Settling.{settle_end, settle_at, list_at}
use Rattle.refs.specs.Walks.{walked}
use Rattle.refs.proofs.Settled.{settle_within}
use Rattle.refs.proofs.Making.{IsSettled, end_found, own_of, plain_end, list_end, list_one, settled_more, settled_ends, list_given, settled_is, other_is, through_is, none_left, in_row, row_more}
use Rattle.refs.proofs.settling.+settling.Goals as goal

pub settle_at-by_end-requires : goal.settle_at-by_end-requires
settle_at-by_end-requires g t c = own_of (g.R.Resolve.resolutions c.args.map.now) (val_of c.args.value.now) (val_of c.in_ok-end.end) c.in_ok-end.ensures.end

pub settle_at-returns : goal.settle_at-returns
settle_at-returns g t c =
    let m = g.R.Resolve.resolutions c.args.map.now in
    let v = val_of c.args.value.now in
    let e = val_of c.in_ok-end.end in
    let more = (settle_end (list_at m c.args.depth) c.args.left e (items_in e)).through in
    let f = end_found m c.args.depth c.args.left v e c.in_ok-end.ensures.end in
    record {
      settled = c.by_end.ensures ∙ c.in_ok-form.ensures.settled ∙ sym f.0;
      through = c.in_ok-form.ensures.through ∙ ap (λ ps. ps ++ more) c.in_ok-end.ensures.through ∙ append_assoc c.args.through.now.items (walked m v) more ∙ ap (λ ps. c.args.through.now.items ++ ps) (sym f.1);
    }

pub settle_end-returns-in-Some : goal.settle_end-returns-in-Some
settle_end-returns-in-Some g t c =
    let f = list_end (g.R.Resolve.resolutions c.args.map.now) c.args.depth c.args.left (val_of c.args.end.now) (vals_of c.in-Some.items.now) c.in-Some.ensures in
    record {
      settled = settled_is c.settle_list.result _ _ _ _ f.0 (ap (λ s. s.settled) f.1) c.settle_list.ensures.settled;
      through = through_is c.settle_list.result c.args.through.now.items c.settle_list.new.through.items _ _ (ap (λ s. s.through) f.1) c.settle_list.ensures.through;
    }

pub settle_end-returns-in-None : goal.settle_end-returns-in-None
settle_end-returns-in-None g t c =
    let f = plain_end (g.R.Resolve.resolutions c.args.map.now) c.args.depth c.args.left (val_of c.args.end.now) (inl c.in-None.ensures) in
    record { settled = c.fitting-in-None.ensures ∙ sym (ap (λ s. s.settled) f); through = sym (append-nil c.args.through.now.items) ∙ ap (λ s. c.args.through.now.items ++ s.through) (sym f) }

pub settle_end-returns-then-not-has_promise : goal.settle_end-returns-then-not-has_promise
settle_end-returns-then-not-has_promise g t c =
    let f = plain_end (g.R.Resolve.resolutions c.args.map.now) c.args.depth c.args.left (val_of c.args.end.now) (inr (sym c.if-not-has_promise.ensures)) in
    record { settled = c.fitting.ensures ∙ sym (ap (λ s. s.settled) f); through = sym (append-nil c.args.through.now.items) ∙ ap (λ s. c.args.through.now.items ++ s.through) (sym f) }

pub settle_list-item_weight-rest-requires : goal.settle_list-item_weight-rest-requires
settle_list-item_weight-rest-requires g t c =
    let v = val_of c.index-items-index.result in
    let s = ap (option_map (formed v)) (sym c.in-Some.is) ∙ c.in_ok-form.ensures.settled in
    let k = settle_within (g.R.Resolve.resolutions c.args.map.now) (c.args.depth - 1) c.loop-index.rest v (formed v c.in-Some.form) (sym s) in
    let e = ap weight c.of.ensures in
    omega (arith, e, k.0, c.loop-index.invariant.light, c.requires.light)

pub settle_list-overflow_sub-rest-in-Some : goal.settle_list-overflow_sub-rest-in-Some
settle_list-overflow_sub-rest-in-Some g t c =
    let v = val_of c.index-items-index.result in
    let s = ap (option_map (formed v)) (sym c.in-Some.is) ∙ c.in_ok-form.ensures.settled in
    let k = settle_within (g.R.Resolve.resolutions c.args.map.now) (c.args.depth - 1) c.loop-index.rest v (formed v c.in-Some.form) (sym s) in
    let e = c.item_weight-rest.ensures ∙ ap weight c.of.ensures in
    omega (arith, e, k.0)

pub settle_list-loop-index-preserved : goal.settle_list-loop-index-preserved
settle_list-loop-index-preserved g t c =
    let m = g.R.Resolve.resolutions c.args.map.now in
    let i = c.loop-index.index in
    let v = val_of c.index-items-index.result in
    let w = formed v c.in-Some.form in
    let all = vals_of c.args.items.now in
    let rest = vals_of (drop (i + 1) c.args.items.now) in
    let row = in_row (vals_of (take i c.args.items.now)) c.loop-index.row in
    let s = ap (option_map (formed v)) (sym c.in-Some.is) ∙ c.in_ok-form.ensures.settled in
    let k = settle_within m (c.args.depth - 1) c.loop-index.rest v w (sym s) in
    let H : Vals → Type 0 = λ vs. IsSettled (settle_at m (c.args.depth - 1)) (c.args.depth - 1) (c.args.left - 1) c.args.through.now.items c.loop-index.through.items all vs row c.loop-index.rest in
    let h = subst H (vals_from c.args.items.now i c.index-items-index.result c.loop-index-test.true c.index-items-index.is) c.loop-index.invariant in
    let n = settled_more (settle_at m (c.args.depth - 1)) (c.args.depth - 1) (c.args.left - 1) c.args.through.now.items c.loop-index.through.items c.settle_at.new.through.items all rest row c.loop-index.rest v w h c.in_ok-form.ensures.through s k in
    let r = row_more c.args.items.now i c.index-items-index.result c.loop-index.row c.in_ok-row-in-Some.row w c.loop-index-test.true c.index-items-index.is c.in_ok-row-in-Some.ensures in
    let R : Vals → Type 0 = λ vs. IsSettled (settle_at m (c.args.depth - 1)) (c.args.depth - 1) (c.args.left - 1) c.args.through.now.items c.settle_at.new.through.items all rest vs (c.loop-index.rest - weight w) in
    let L : ℕ → Type 0 = λ l. IsSettled (settle_at m (c.args.depth - 1)) (c.args.depth - 1) (c.args.left - 1) c.args.through.now.items c.settle_at.new.through.items all rest (in_row (vals_of (take (i + 1) c.args.items.now)) c.in_ok-row-in-Some.row) (c.loop-index.rest - l) in
    subst L (sym (c.item_weight-rest.ensures ∙ ap weight c.of.ensures)) (subst R r n)

pub settle_list-returns-in-Some-row-clause-settled : goal.settle_list-returns-in-Some-row-clause-settled
settle_list-returns-in-Some-row-clause-settled g t c =
    let m = g.R.Resolve.resolutions c.args.map.now in
    let own = vals_of (take c.loop-index.index c.args.items.now) in
    let row = in_row own c.loop-index.row in
    let H : Vals → Type 0 = λ vs. IsSettled (settle_at m (c.args.depth - 1)) (c.args.depth - 1) (c.args.left - 1) c.args.through.now.items c.loop-index.through.items (vals_of c.args.items.now) vs row c.loop-index.rest in
    let h = subst H (none_left c.args.items.now c.loop-index.index c.loop-index-test.false) c.loop-index.invariant in
    let e = settled_ends (settle_at m (c.args.depth - 1)) (c.args.depth - 1) (c.args.left - 1) c.args.through.now.items c.loop-index.through.items (vals_of c.args.items.now) row c.loop-index.rest h in
    let l = list_given (c.args.depth - 1) (c.args.left - 1) c.loop-index.rest row (omega arith) (omega arith) c.loop-index.invariant.light c.loop-index.invariant.shallow in
    let q : row ≡ vals_of c.in-Some-row.row.items = ap (in_row own) c.in-Some-row.is in
    other_is c.other_list.result _ _ _ (ap (λ vs. value_given (list_reply vs)) (sym q) ∙ l ∙ ap (option_map list) (sym e.0) ∙ sym (list_one m c.args.depth c.args.left (vals_of c.args.items.now) (omega arith) (omega arith)).0) c.other_list.ensures

pub settle_list-returns-in-None-row-clause-settled : goal.settle_list-returns-in-None-row-clause-settled
settle_list-returns-in-None-row-clause-settled g t c =
    let m = g.R.Resolve.resolutions c.args.map.now in
    let own = vals_of (take c.loop-index.index c.args.items.now) in
    let row = in_row own c.loop-index.row in
    let H : Vals → Type 0 = λ vs. IsSettled (settle_at m (c.args.depth - 1)) (c.args.depth - 1) (c.args.left - 1) c.args.through.now.items c.loop-index.through.items (vals_of c.args.items.now) vs row c.loop-index.rest in
    let h = subst H (none_left c.args.items.now c.loop-index.index c.loop-index-test.false) c.loop-index.invariant in
    let e = settled_ends (settle_at m (c.args.depth - 1)) (c.args.depth - 1) (c.args.left - 1) c.args.through.now.items c.loop-index.through.items (vals_of c.args.items.now) row c.loop-index.rest h in
    let q : row ≡ vals_of c.args.items.now = ap (in_row own) c.in-None-row.is ∙ ap vals_of (take_all c.loop-index.index c.args.items.now c.loop-index-test.false) in
    ap (λ vs. Some (list vs)) (sym q) ∙ ap (option_map list) (sym e.0) ∙ sym (list_one m c.args.depth c.args.left (vals_of c.args.items.now) (omega arith) (omega arith)).0
