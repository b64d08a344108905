-- Where an evaluation stands, once something was done to the cells under its turn.
use Rattle.std.proofs.Common.{◌≡◌, ◌+◌, ℕ, zero, suc, [], ◌∷◌, ◌++◌, None, sym, ap}
use Rattle.cells.specs.Doing.{over, and_then}
use Rattle.values.specs.Data.{Val}
use Rattle.values.specs.Promises.{promise_of}
use Rattle.heap.specs.Drafted.{Drafted}
use Rattle.heap.specs.Drafts.{draft_of, touched_of, written_of, counts_of, began_with}
use Rattle.refs.specs.Walks.{most_walked}
use Rattle.sends.specs.Vats.{Vat, walk, walked_from, walked_no_more, ended}
use Rattle.sends.specs.Playing.{Did, IsSameTurn}
use Rattle.std.specs.Option.{unwrap_or}
use Rattle.std.specs.Prelude.{Some}
use Rattle.eval_rules.specs.At.{At}
use Rattle.eval_rules.specs.Doings.{given_by, behind}

-- the same place of a turn that stands so
abbrev pub with_draft : Drafted → At → At
with_draft d a = record a { state = draft_of d; event = (counts_of d).event; vat = (counts_of d).vat; began = began_with d; slots = (counts_of d).slots; objects = (counts_of d).objects; touched = touched_of d; written = written_of d }

-- what was done under a turn is done from the place where the evaluation stands: it gives the same
pub did_give : {R : Type 0} (f : Vat R) (a : At) (d e : Drafted) (r : R) → Did f d r e → given_by f (with_draft d a) ≡ r
did_give f a d e r h = ap (λ p. p.0) h

-- and the evaluation stands behind it then
pub did_leave : {R : Type 0} (f : Vat R) (a : At) (d e : Drafted) (r : R) → Did f d r e → IsSameTurn d e → with_draft e a ≡ behind f (with_draft d a)
did_leave f a d e r h turn =
    let g = sym h in
    λ i. record a {
      state = (g i).1.state;
      event = (turn.counts i).event;
      vat = (turn.counts i).vat;
      began = turn.began i;
      slots = (turn.counts i).slots;
      objects = (turn.counts i).objects;
      touched = (g i).1.touched;
      written = (g i).1.written;
    }

-- the same where the turn made a resolver, too
pub did_leave_resolver : {R : Type 0} (f : Vat R) (a : At) (d e : Drafted) (r : R) → Did f d r e → counts_of e ≡ record (counts_of d) { objects = (counts_of d).objects + 1 } → began_with e ≡ began_with d
    → with_draft e a ≡ record (behind f (with_draft d a)) { objects = (counts_of d).objects + 1 }
did_leave_resolver f a d e r h counts began =
    let g = sym h in
    λ i. record a {
      state = (g i).1.state;
      event = (counts i).event;
      vat = (counts i).vat;
      began = began i;
      slots = (counts i).slots;
      objects = (counts i).objects;
      touched = (g i).1.touched;
      written = (g i).1.written;
    }

-- ---- a value that is no promise

own_walk : (n : ℕ) (v : Val) → promise_of v ≡ None → walk n [] v ≡ over (Some v)
unfolding walk
own_walk zero v h = ap (walked_no_more v) h
own_walk (suc n) v h = ap (λ p. walked_from [] v p (λ p w. walk n ([] ++ p ∷ []) w)) h

-- is its own end, and touches nothing
pub own_end : (v : Val) → promise_of v ≡ None → ended v ≡ over v
own_end v h = ap (λ d. and_then d (λ o. over (unwrap_or o v))) (own_walk most_walked v h)

pub own_given : (v : Val) (a : At) → promise_of v ≡ None → given_by (ended v) a ≡ v
own_given v a h = ap (λ d. given_by d a) (own_end v h)

pub own_behind : (v : Val) (a : At) → promise_of v ≡ None → behind (ended v) a ≡ a
own_behind v a h = ap (λ d. behind d a) (own_end v h)
