-- Calls on what is no promise, and on data: nothing is touched for an end that is at hand.
use Rattle.std.proofs.Common.{◌≡◌, Bool, true, false, cond, refl, ap, ◌∙◌}
use Rattle.std.specs.Prelude.{codes, None}
use Rattle.std.specs.Str.{bytes_eq}
use Rattle.std.proofs.lemmas.Slice.Eq.{bytes_eq-Decides}
use Rattle.ids.specs.declared.names.VatNo.{VatNo}
use Rattle.ids.specs.declared.names.PromId.{PromId}
use Rattle.cells.specs.Doing.{over, and_then}
use Rattle.kernele.specs.Tree.{Name}
use Rattle.values.specs.Data.{Val, null, bool, int, text, list, object, ejector, promise, broken, Vals, no_vals, and_val, Reply, gives, throws}
use Rattle.values.specs.Promises.{promise_of}
use Rattle.values.specs.Replies.{data_reply}
use Rattle.values.specs.Wanted.{wants_datum}
use Rattle.eval_rules.specs.At.{At}
use Rattle.eval_rules.specs.Doings.{given_by, behind, data_with, data_of}
use Rattle.eval_rules.specs.Outcomes.{value, values, reply_end}
use Rattle.eval_rules.specs.Rules as rules
use Rattle.eval_rules.specs.Rules.{on_datum, callee_of, callee_target, callee_read, target_of, called}
use Rattle.eval_messages.proofs.Behind.{own_end, own_given, own_behind}

-- a call on what is its own end
pub own_target : (v : Val) (verb : Name) (vs : Vals) (a : At) → promise_of v ≡ None → target_of v verb (values vs) a ≡ callee_target (callee_of a.vat v) v verb vs a
own_target v verb vs a h = λ i. callee_target (callee_of a.vat (own_given v a h i)) (own_given v a h i) verb vs (own_behind v a h i)

pub own_called : (v : Val) (verb : Name) (vs : Vals) (a : At) → promise_of v ≡ None → called v verb (values vs) a ≡ callee_read (callee_of a.vat v) v verb vs a
own_called v verb vs a h = λ i. callee_read (callee_of a.vat (own_given v a h i)) (own_given v a h i) verb vs (own_behind v a h i)

-- an argument whose end is at hand, or is not wanted
end_at_hand : (q : Bool) (v : Val) (verb : Name) (m : Val) → promise_of m ≡ None → data_with q v verb m ≡ over (data_reply v verb (and_val m no_vals))
end_at_hand true v verb m h = ap (λ d. and_then d (λ u. over (data_reply v verb (and_val u no_vals)))) (own_end m h)
end_at_hand false v verb m h = refl

-- ---- a verb that gives a value for a promise does not look at it

passed_over : (q : Bool) (words : Name) (r : Reply) {v : Val} → cond q (throws words) r ≡ gives v → r ≡ gives v
passed_over true words r h = absurd (cc)
passed_over false words r h = h

taken_there : (q : Bool) (r s : Reply) {v : Val} → cond q r s ≡ gives v → (s ≡ gives v → q ≡ true) → q ≡ true
taken_there true r s h f = refl
taken_there false r s h f = f h

no_list_verb : (vs : Vals) (verb : Name) → verb ≡ codes "with" → wants_datum (list vs) verb ≡ false
no_list_verb vs verb is = ap (λ s. wants_datum (list vs) s) is

unwanted : (u : Val) (verb : Name) (p : PromId) (v : Val) → data_reply u verb (and_val (promise p) no_vals) ≡ gives v → wants_datum u verb ≡ false
unwanted null verb p v h = absurd (cc)
unwanted (bool b) verb p v h = absurd (cc)
unwanted (int x) verb p v h =
    let g = passed_over (bytes_eq verb (codes "atLeast")) _ _ (passed_over (bytes_eq verb (codes "moreThan")) _ _ (passed_over (bytes_eq verb (codes "atMost")) _ _ (passed_over (bytes_eq verb (codes "lessThan")) _ _
    (passed_over (bytes_eq verb (codes "floorDivide")) _ _ (passed_over (bytes_eq verb (codes "multiply")) _ _ (passed_over (bytes_eq verb (codes "subtract")) _ _ (passed_over (bytes_eq verb (codes "add")) _ _ h)))))))
    in
    absurd (cc)
unwanted (text s) verb p v h = let g = passed_over (bytes_eq verb (codes "add")) _ _ h in absurd (cc)
unwanted (list vs) verb p v h =
    no_list_verb vs verb ((bytes_eq-Decides verb (codes "with")).0
    (taken_there (bytes_eq verb (codes "with")) _ _ (passed_over (bytes_eq verb (codes "add")) _ _ h) (λ k. let g = passed_over (bytes_eq verb (codes "get")) _ _ k in absurd (cc))))
unwanted (object o) verb p v h = absurd (cc)
unwanted (ejector j) verb p v h = absurd (cc)
unwanted (promise q) verb p v h = absurd (cc)
unwanted (broken problem) verb p v h = absurd (cc)

-- ---- a call on data that gives a value touches nothing

on_data : (u : Val) (here : VatNo) (verb : Name) (vs : Vals) (v : Val) → data_reply u verb vs ≡ gives v → (callee_of here u ≡ on_datum) × (promise_of u ≡ None)
on_data null here verb vs v h = (refl, refl)
on_data (bool b) here verb vs v h = (refl, refl)
on_data (int z) here verb vs v h = (refl, refl)
on_data (text s) here verb vs v h = (refl, refl)
on_data (list us) here verb vs v h = (refl, refl)
on_data (object o) here verb vs v h = absurd (cc)
on_data (ejector j) here verb vs v h = absurd (cc)
on_data (promise p) here verb vs v h = absurd (cc)
on_data (broken p) here verb vs v h = (refl, refl)

at_hand : (u : Val) (verb : Name) (m v : Val) → data_reply u verb (and_val m no_vals) ≡ gives v → data_of u verb (and_val m no_vals) ≡ over (data_reply u verb (and_val m no_vals))
at_hand u verb (promise p) v h = ap (λ q. data_with q u verb (promise p)) (unwanted u verb p v h)
at_hand u verb null v h = end_at_hand (wants_datum u verb) u verb null refl
at_hand u verb (bool b) v h = end_at_hand (wants_datum u verb) u verb (bool b) refl
at_hand u verb (int z) v h = end_at_hand (wants_datum u verb) u verb (int z) refl
at_hand u verb (text s) v h = end_at_hand (wants_datum u verb) u verb (text s) refl
at_hand u verb (list us) v h = end_at_hand (wants_datum u verb) u verb (list us) refl
at_hand u verb (object o) v h = end_at_hand (wants_datum u verb) u verb (object o) refl
at_hand u verb (ejector j) v h = end_at_hand (wants_datum u verb) u verb (ejector j) refl
at_hand u verb (broken p) v h = end_at_hand (wants_datum u verb) u verb (broken p) refl

pub datum_target : (u : Val) (verb : Name) (m v : Val) (a : At) → data_reply u verb (and_val m no_vals) ≡ gives v → target_of u verb (values (and_val m no_vals)) a ≡ rules.gives (value v)
datum_target u verb m v a h =
    let d = on_data u a.vat verb (and_val m no_vals) v h in
    own_target u verb (and_val m no_vals) a d.1 ∙ ap (λ k. callee_target k u verb (and_val m no_vals) a) d.0
    ∙ ap (λ f. rules.gives (reply_end (given_by f a))) (at_hand u verb m v h) ∙ ap (λ r. rules.gives (reply_end r)) h

pub datum_called : (u : Val) (verb : Name) (m v : Val) (a : At) → data_reply u verb (and_val m no_vals) ≡ gives v → called u verb (values (and_val m no_vals)) a ≡ a
datum_called u verb m v a h =
    let d = on_data u a.vat verb (and_val m no_vals) v h in
    own_called u verb (and_val m no_vals) a d.1 ∙ ap (λ k. callee_read k u verb (and_val m no_vals) a) d.0 ∙ ap (λ f. behind f a) (at_hand u verb m v h)
