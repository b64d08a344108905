-- The program's arguments, and rows that they pass by.
use Rattle.std.proofs.Common.{◌≡◌, ℕ, ◌+◌, ◌<◌, ◌≤◌, List, [], ◌∷◌, ◌++◌, length, get_or, drop, suc, add-one, drop-cons, refl, sym, ap, ◌∙◌, arith, codes, Result, Ok, Err, IfOk, Option, Some, None, IfSome, MatchOption, zero, option_map, Bor, OkIff, ℤ, pos, negsuc, nat_abs, Bool, true, false, cond, ◌⊎◌, inl, inr}
use Rattle.std.specs.Int.{FitsUnsignedBits}
use Rattle.std.specs.Result.{result_ok}
use Rattle.values.specs.Limits.{within_limits}
use Rattle.std.specs.List.{HoldsAt}
use Rattle.std.specs.declared.alloc.AllocError.{AllocError}
use Rattle.values.specs.declared.value.Answer.{Answer}
use Rattle.std.specs.Fmt.{decimal}
use Rattle.values.specs.Data.{Val, Vals, no_vals, and_val, int, Reply, gives, throws}
use Rattle.values.specs.Replies.{Table, count_of, no_method, data_reply, joined, item_at, limited, value_given}
use Rattle.values.specs.View.{val_of, vals_of, reply_of, int_reply}
use Rattle.values.specs.declared.integers.IntReply.{IntReply}
use Rattle.values.specs.declared.integers.IntReply.TheVariants as int-reply
use Rattle.values.specs.declared.value.Value.{Value}
use Rattle.values.specs.declared.value.Value.TheVariants as code
use Rattle.ids.specs.declared.names.ObjId.{ObjId}
use Rattle.ids.specs.declared.names.EjId.{EjId}
use Rattle.ids.specs.declared.names.PromId.{PromId}

pub count_of-vals_of : (vs : List Value) → count_of (vals_of vs) ≡ length vs
count_of-vals_of [] = refl
count_of-vals_of (v ∷ vs) = omega (arith, count_of-vals_of vs)

abbrev missing : List ℕ → ℕ → Reply
missing verb n = throws (codes "no method " ++ (verb ++ (codes "/" ++ decimal n)))

-- where every row passes by, there is no such method
pub no_row : (verb : List ℕ) (vs : List Value) → no_method verb (vals_of vs) ≡ missing verb (length vs)
no_row verb vs = ap (missing verb) (count_of-vals_of vs)

-- a table whose rows take at most one argument
pub beyond_one : (t : Table) (verb : List ℕ) → ((v w : Val) (ws : Vals) → t verb (and_val v (and_val w ws)) ≡ no_method verb (and_val v (and_val w ws))) → (vs : List Value) → 2 ≤ length vs → t verb (vals_of vs) ≡ missing verb (length vs)
beyond_one t verb h [] l = absurd (omega arith)
beyond_one t verb h (v ∷ []) l = absurd (omega arith)
beyond_one t verb h (v ∷ w ∷ ws) l = h (val_of v) (val_of w) (vals_of ws) ∙ no_row verb (v ∷ w ∷ ws)

-- a table whose rows take no argument
pub beyond_none : (t : Table) (verb : List ℕ) → ((v : Val) (vs : Vals) → t verb (and_val v vs) ≡ no_method verb (and_val v vs)) → (vs : List Value) → 1 ≤ length vs → t verb (vals_of vs) ≡ missing verb (length vs)
beyond_none t verb h [] l = absurd (omega arith)
beyond_none t verb h (v ∷ vs) l = h (val_of v) (vals_of vs) ∙ no_row verb (v ∷ vs)

pub joined-vals_of : (xs ys : List Value) → vals_of (xs ++ ys) ≡ joined (vals_of xs) (vals_of ys)
joined-vals_of [] ys = refl
joined-vals_of (x ∷ xs) ys = ap (and_val (val_of x)) (joined-vals_of xs ys)

pub joined-joined : (us vs ws : Vals) → joined (joined us vs) ws ≡ joined us (joined vs ws)
joined-joined no_vals vs ws = refl
joined-joined (and_val u us) vs ws = ap (and_val u) (joined-joined us vs ws)

pub joined-no_vals : (us : Vals) → joined us no_vals ≡ us
joined-no_vals no_vals = refl
joined-no_vals (and_val u us) = ap (and_val u) (joined-no_vals us)

-- an answer to the same reply
pub replied : (r : Result Answer AllocError) (p q : Reply) → p ≡ q → IfOk r (λ a. reply_of a ≡ p) → IfOk r (λ a. reply_of a ≡ q)
replied (Ok a) p q e h = h ∙ e
replied (Err x) p q e h = tt

-- the items from an index on
pub vals_from : (xs : List Value) (i : ℕ) (x : Value) → i < length xs → x ≡ get_or xs i x → vals_of (drop i xs) ≡ and_val (val_of x) (vals_of (drop (i + 1) xs))
vals_from xs i x h e = rw add-one (ap vals_of (drop-cons xs i x h) ∙ ap (λ y. and_val (val_of y) (vals_of (drop (suc i) xs))) (sym e))

-- one more item, shared, behind the others
pub joined_more : (us xs : List Value) (u : Value) (i : ℕ) (x : Value) → i < length xs → x ≡ get_or xs i x → val_of u ≡ val_of x → joined (vals_of (us ++ u ∷ [])) (vals_of (drop (i + 1) xs)) ≡ joined (vals_of us) (vals_of (drop i xs))
joined_more us xs u i x h e f =
    ap (λ vs. joined vs (vals_of (drop (i + 1) xs))) (joined-vals_of us (u ∷ []))
    ∙ joined-joined (vals_of us) (and_val (val_of u) no_vals) (vals_of (drop (i + 1) xs))
    ∙ ap (joined (vals_of us)) (ap (λ v. and_val v (vals_of (drop (i + 1) xs))) f ∙ sym (vals_from xs i x h e))

-- one more item behind a list's own
pub joined_next : (us : Vals) (xs : List Value) (y : Val) (i : ℕ) (x : Value) → i < length xs → x ≡ get_or xs i x → y ≡ val_of x → joined (joined us (and_val y no_vals)) (vals_of (drop (i + 1) xs)) ≡ joined us (vals_of (drop i xs))
joined_next us xs y i x h e f =
    joined-joined us (and_val y no_vals) (vals_of (drop (i + 1) xs))
    ∙ ap (joined us) (ap (λ v. and_val v (vals_of (drop (i + 1) xs))) f ∙ sym (vals_from xs i x h e))

pub item_at-inside : (xs : List Value) (i : ℕ) (x : Value) → i < length xs → x ≡ get_or xs i x → Some (val_of x) ≡ item_at (vals_of xs) i
item_at-inside [] i x h e = absurd (omega arith)
item_at-inside (y ∷ ys) zero x h e = ap (λ v. Some (val_of v)) e
item_at-inside (y ∷ ys) (suc i) x h e = item_at-inside ys i x (omega arith) e

pub item_at-beyond : (xs : List Value) (i : ℕ) → length xs ≤ i → None ≡ item_at (vals_of xs) i
item_at-beyond [] i h = refl
item_at-beyond (y ∷ ys) zero h = absurd (omega arith)
item_at-beyond (y ∷ ys) (suc i) h = item_at-beyond ys i (omega arith)

-- what a slice gives at an index
pub item_at-got : (r : Option (Bor Value)) (xs : List Value) (i : ℕ) → IfSome r (λ x. x.now ≡ get_or xs i x.now) → MatchOption r (length xs ≤ i) (λ x. (i < length xs) × HoldsAt (λ y. x.now ≡ y) xs i) → option_map (λ v. val_of v.now) r ≡ item_at (vals_of xs) i
item_at-got None xs i e h = item_at-beyond xs i h
item_at-got (Some x) xs i e h = item_at-inside xs i x.now h.0 e

-- a signed number as an index
pub index_from : {E : Type 0} (r : Result ℕ E) (z : ℤ) (n : ℕ) → OkIff r (FitsUnsignedBits 64 z) (nat_abs z) → Some n ≡ result_ok r → pos n ≡ z
index_from (Ok x) (pos m) n h e = ap pos (let f : x ≡ m = h.1 in cc)
index_from (Ok x) (negsuc m) n h e = absurd h.0
index_from (Err x) z n h e = cc

-- a value that keeps the limits
pub kept : (v : Val) (b : Bool) → b ≡ within_limits v → b ≡ true → gives v ≡ limited v
kept v b e f = ap (λ t. cond t (gives v) (throws (codes "value too large"))) (sym f ∙ e)

pub refused : (v : Val) (b : Bool) → b ≡ within_limits v → b ≡ false → throws (codes "value too large") ≡ limited v
refused v b e f = ap (λ t. cond t (gives v) (throws (codes "value too large"))) (sym f ∙ e)

-- null and references have no verbs of data
pub no_verbs : (v : Value) → (v ≡ code.Null) ⊎ (((o : ObjId) × (v ≡ code.Object o)) ⊎ (((j : EjId) × (v ≡ code.Ejector j)) ⊎ ((p : PromId) × (v ≡ code.Promise p)))) → data_reply (val_of v) ≡ no_method
no_verbs v (inl e) = ap (λ x. data_reply (val_of x)) e
no_verbs v (inr (inl f)) = ap (λ x. data_reply (val_of x)) f.1
no_verbs v (inr (inr (inl f))) = ap (λ x. data_reply (val_of x)) f.1
no_verbs v (inr (inr (inr f))) = ap (λ x. data_reply (val_of x)) f.1

-- an integer's reply that throws gives no value
pub none_given : (r : IntReply) (verb : List ℕ) (y : ℤ) (q : Reply) → (r ≡ int-reply.TooLarge) ⊎ ((r ≡ int-reply.DivisionByZero) ⊎ ((r ≡ int-reply.WrongArgument) ⊎ (r ≡ int-reply.NoMethod))) → int_reply r verb (int y) ≡ q → None ≡ value_given q
none_given r verb y q (inl e) h = ap value_given (ap (λ s. int_reply s verb (int y)) (sym e) ∙ h)
none_given r verb y q (inr (inl e)) h = ap value_given (ap (λ s. int_reply s verb (int y)) (sym e) ∙ h)
none_given r verb y q (inr (inr (inl e))) h = ap value_given (ap (λ s. int_reply s verb (int y)) (sym e) ∙ h)
none_given r verb y q (inr (inr (inr e))) h = ap value_given (ap (λ s. int_reply s verb (int y)) (sym e) ∙ h)

-- what is given is what the reply gives
pub value_is_given : (o : Option Value) (r : Reply) → option_map val_of o ≡ value_given r → IfSome o (λ v. r ≡ gives (val_of v))
value_is_given None r h = tt
value_is_given (Some v) (gives w) h = cc
value_is_given (Some v) (throws problem) h = absurd (cc)
