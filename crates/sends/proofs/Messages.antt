-- What is sent, and what waits.
use Rattle.std.proofs.Common.{◌≡◌, Bool, true, false, Some, None, List, refl}
use Rattle.ids.specs.declared.names.VatNo.{VatNo}
use Rattle.ids.specs.declared.names.MsgId.{MsgId}
use Rattle.ids.specs.declared.names.PromId.{PromId}
use Rattle.ids.specs.declared.names.ObjId.{ObjId}
use Rattle.cells.specs.Doing.{over, writes, holding, and_then}
use Rattle.eorder.specs.Carried.{Carried}
use Rattle.values.specs.Data.{Val, Vals}
use Rattle.heap.specs.State.{object_cell, made, resolver, same_cell}
use Rattle.heap.specs.Drafted.{Drafted}
use Rattle.sends.specs.Vats.{Vat, Nothing, nothing, ended, settled, all_settled, reference_in, references_in, leaving, comes_in, sent_after, goes_to}
use Rattle.sends.specs.Making.{Refusal, turn_too_large, Making, refused, makes, value_too_large, of_settled, with_room, Sent, send_placed, sending, condition, waiting, promising}
use Rattle.sends.specs.Playing.{under, Did}
use Rattle.sends.proofs.Playing.{did_then}
use Rattle.sends.proofs.Did.{did_write_then}
use Rattle.sends.proofs.Publications.{did_refuse}

-- there is room, or there is none
pub has_room : {R : Type 0} (room : Bool) (f : Vat (Making R)) (m : Making R) (d e : Drafted) → room ≡ true → Did f d m e → Did (with_room room f) d m e
has_room true f m d e h i = i
has_room false f m d e h i = absurd (cc)

pub has_none : {R : Type 0} (room : Bool) (f : Vat (Making R)) (d : Drafted) → room ≡ false → Did (with_room room f) d (refused turn_too_large) d
has_none true f d h = absurd (cc)
has_none false f d h = refl

module _ (here : VatNo) (m : MsgId) (result : VatNo → PromId) where
  -- a message was sent on a settled target
  pub did_place : (t : Val) (us : Vals) (after : List MsgId) (c : Carried) (d e k l : Drafted) → Did (sent_after m (reference_in t)) d after e → Did (leaving (references_in us)) e c k → Did (comes_in (result (goes_to here t))) k nothing l
      → Did (send_placed here m result t us) d (makes (record { target = t; arguments = us; fences = c; after = after; result = result (goes_to here t) })) l
  did_place t us after c d e k l g h i =
      let sent : List MsgId → Carried → Making Sent = λ after c. makes (record { target = t; arguments = us; fences = c; after = after; result = result (goes_to here t) }) in
      let last : List MsgId → Carried → Nothing → Vat (Making Sent) = λ after c n. over (sent after c) in
      did_then (sent_after m (reference_in t)) (λ after. and_then (leaving (references_in us)) (λ c. and_then (comes_in (result (goes_to here t))) (last after c))) d e l after (sent after c) g
      (did_then (leaving (references_in us)) (λ c. and_then (comes_in (result (goes_to here t))) (last after c)) e k l c (sent after c) h
      (did_then (comes_in (result (goes_to here t))) (last after c) k l l nothing (sent after c) i refl))

  module _ (room : Bool) (v : Val) (vs : Vals) where
    -- the receiver has no settled form
    pub no_receiver : (w : Refusal) (d e : Drafted) → Did (settled v) d None e → w ≡ value_too_large → Did (sending here m room result v vs) d (refused w) e
    no_receiver w d e h r = did_then (settled v) (of_settled (λ t. and_then (all_settled vs) (of_settled (λ us. with_room room (send_placed here m result t us))))) d e e None (refused w) h (did_refuse w value_too_large e r)

    -- an argument has none
    pub no_arguments : (t : Val) (w : Refusal) (d e k : Drafted) → Did (settled v) d (Some t) e → Did (all_settled vs) e None k → w ≡ value_too_large → Did (sending here m room result v vs) d (refused w) k
    no_arguments t w d e k h i r =
        did_then (settled v) (of_settled (λ t. and_then (all_settled vs) (of_settled (λ us. with_room room (send_placed here m result t us))))) d e k (Some t) (refused w) h
        (did_then (all_settled vs) (of_settled (λ us. with_room room (send_placed here m result t us))) e k k None (refused w) i (did_refuse w value_too_large k r))

    -- all are settled
    pub all_are : (t : Val) (us : Vals) (s : Making Sent) (d e k l : Drafted) → Did (settled v) d (Some t) e → Did (all_settled vs) e (Some us) k → Did (with_room room (send_placed here m result t us)) k s l → Did (sending here m room result v vs) d s l
    all_are t us s d e k l h i j =
        did_then (settled v) (of_settled (λ t. and_then (all_settled vs) (of_settled (λ us. with_room room (send_placed here m result t us))))) d e l (Some t) s h
        (did_then (all_settled vs) (of_settled (λ us. with_room room (send_placed here m result t us))) e k l (Some us) s i j)

-- a when was made, or there was no room for it
module _ (room : Bool) (p : PromId) (v : Val) where
  pub did_wait : (w : Val) (d e k : Drafted) → Did (ended v) d w e → room ≡ true → Did (comes_in p) e nothing k → Did (waiting room p v) d (makes (condition p w)) k
  did_wait w d e k h q i =
      did_then (ended v) (λ w. with_room room (and_then (comes_in p) (λ n. over (makes (condition p w))))) d e k w (makes (condition p w)) h
      (has_room room (and_then (comes_in p) (λ n. over (makes (condition p w)))) (makes (condition p w)) e k q
      (did_then (comes_in p) (λ n. over (makes (condition p w))) e k k nothing (makes (condition p w)) i refl))

  pub no_wait : (w : Val) (d e : Drafted) → Did (ended v) d w e → room ≡ false → Did (waiting room p v) d (refused turn_too_large) e
  no_wait w d e h q =
      did_then (ended v) (λ w. with_room room (and_then (comes_in p) (λ n. over (makes (condition p w))))) d e e w (refused turn_too_large) h
      (has_none room (and_then (comes_in p) (λ n. over (makes (condition p w)))) e q)

-- a promise and its resolver were made
pub did_promise : (room : Bool) (p : PromId) (o : ObjId) (d e k : Drafted) → room ≡ true → Did (comes_in p) d nothing e → under k ≡ holding same_cell (object_cell o) (made (resolver p)) (under e) → Did (promising room p o) d (makes o) k
did_promise room p o d e k q h w =
    has_room room (and_then (comes_in p) (λ n. writes (object_cell o) (made (resolver p)) (over (makes o)))) (makes o) d k q
    (did_then (comes_in p) (λ n. writes (object_cell o) (made (resolver p)) (over (makes o))) d e k nothing (makes o) h
    (did_write_then (object_cell o) (made (resolver p)) (over (makes o)) e k k (makes o) w refl))
