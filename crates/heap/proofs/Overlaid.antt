-- On a state with what a turn made over it.
use Rattle.std.proofs.Common.{◌≡◌, ℕ, ◌<◌, List, [], ◌∷◌, ◌++◌, length, get_or, set, Option, Some, None, Bool, true, false, cond, refl, sym, ap, ◌∙◌, suc, zero, arith}
use Rattle.std.specs.Prelude.{◌==◌, ◌&&◌, ◌||◌, ltb, is_some}
use Rattle.std.specs.List.{slice_get}
use Rattle.std.specs.Ordering.{nat_cmp, ordering_then, is_eq}
use Rattle.std.specs.declared.cmp.Ordering.{Ordering}
use Rattle.std.specs.declared.cmp.Ordering.TheVariants.{Less, Equal, Greater}
use Rattle.std.proofs.lemmas.Bool.{and_parts, eqb-true, ltb-true, ltb-false, ne_eqb}
use Rattle.std.proofs.lemmas.Option.{slice_get_past, slice_get_read}
use Rattle.std.proofs.Math.Dec.{eqb-zero-suc, eqb-suc-zero, eqb-suc-suc}
use Rattle.ids.specs.declared.names.EventName.{EventName}
use Rattle.ids.specs.declared.names.VatNo.{VatNo}
use Rattle.ids.specs.declared.names.SlotId.{SlotId}
use Rattle.ids.specs.declared.names.ObjId.{ObjId}
use Rattle.values.specs.declared.value.Value.{Value}
use Rattle.values.specs.View.{val_of}
use Rattle.heap.specs.State.{Cell, slot_cell, object_cell, Content, held, made, State, Cells, also, same_cell, write}
use Rattle.heap.specs.View.{object_of}
use Rattle.heap.specs.Drafts.{is_of, own_item, over, with_slots, with_objects, and_slots, and_objects}
use Rattle.heap.specs.declared.made.Made.{Made}

-- ---- numbers

then_is : (a b : Ordering) → is_eq (ordering_then a b) ≡ (is_eq a && is_eq b)
then_is Less b = refl
then_is Equal b = refl
then_is Greater b = refl

by_tests : (p q : Bool) → (p ≡ true → q ≡ false) → is_eq (cond p Less (cond q Equal Greater)) ≡ q
by_tests true q h = sym (h refl)
by_tests false true h = refl
by_tests false false h = refl

cmp_is : (m n : ℕ) → is_eq (nat_cmp m n) ≡ (m == n)
cmp_is m n = by_tests (ltb m n) (m == n) (λ e. ne_eqb m n (λ p. omega (arith, ltb-true m n e)))

-- the names of two cells are the same where their numbers are
abbrev same_numbers : ℕ → ℕ → ℕ → ℕ → ℕ → ℕ → Bool
same_numbers a i v b j w = is_eq (ordering_then (nat_cmp a b) (ordering_then (nat_cmp i j) (nat_cmp v w)))

numbers_are : (a i v b j w : ℕ) → same_numbers a i v b j w ≡ ((a == b) && ((i == j) && (v == w)))
numbers_are a i v b j w =
    then_is (nat_cmp a b) (ordering_then (nat_cmp i j) (nat_cmp v w))
    ∙ (λ k. cmp_is a b k && (then_is (nat_cmp i j) (nat_cmp v w) ∙ (λ l. cmp_is i j l && cmp_is v w l)) k)

-- ---- items

get_pushed : {X : Type 0} (xs : List X) (x : X) (j : ℕ) → slice_get (xs ++ x ∷ []) j ≡ cond (length xs == j) (Some x) (slice_get xs j)
get_pushed [] x zero = refl
get_pushed [] x (suc j) = sym (ap (λ b. cond b (Some x) None) (eqb-zero-suc j))
get_pushed (y ∷ xs) x zero = sym (ap (λ b. cond b (Some x) (Some y)) (eqb-suc-zero (length xs)))
get_pushed (y ∷ xs) x (suc j) = get_pushed xs x j ∙ sym (ap (λ b. cond b (Some x) (slice_get xs j)) (eqb-suc-suc (length xs) j))

get_replaced : {X : Type 0} (xs : List X) (i : ℕ) (x : X) (j : ℕ) → i < length xs → slice_get (set xs i x) j ≡ cond (i == j) (Some x) (slice_get xs j)
get_replaced [] i x j h = absurd (omega arith)
get_replaced (y ∷ xs) zero x zero h = refl
get_replaced (y ∷ xs) zero x (suc j) h = sym (ap (λ b. cond b (Some x) (slice_get xs j)) (eqb-zero-suc j))
get_replaced (y ∷ xs) (suc i) x zero h = sym (ap (λ b. cond b (Some x) (Some y)) (eqb-suc-zero i))
get_replaced (y ∷ xs) (suc i) x (suc j) h = get_replaced xs i x j (omega arith) ∙ sym (ap (λ b. cond b (Some x) (slice_get xs j)) (eqb-suc-suc i j))

-- a list of no length is empty
pub empty_list : {X : Type 0} (xs : List X) → length xs ≡ 0 → xs ≡ []
empty_list [] h = refl
empty_list (x ∷ xs) h = absurd (omega arith)

none_either_way : {X : Type 0} (q : Bool) (x : Option X) → x ≡ None → cond q x None ≡ None
none_either_way true x h = h
none_either_way false x h = refl

-- there is no own item where a cell is not of the turn, or its number is past them
none_own : {X : Type 0} (q : Bool) (xs : List X) (i n : ℕ) (r : Bool) → n ≡ length xs → r ≡ (q && ltb i n) → r ≡ false → own_item q xs i ≡ None
none_own true xs i n r l e h = slice_get_past xs i (omega (arith, ltb-false i n (sym e ∙ h), l))
none_own false xs i n r l e h = refl

-- and there is one otherwise
pub own_there : (q : Bool) (i n : ℕ) (r : Bool) → r ≡ (q && ltb i n) → r ≡ true → (q ≡ true) × (i < n)
own_there q i n r e h = let parts = and_parts q (ltb i n) (sym e ∙ h) in (parts.0, ltb-true i n parts.1)

-- an own item is read
pub read_own : {X : Type 0} (f : X → Content) (q : Bool) (xs : List X) (i n : ℕ) (r : Bool) (x : X) (c : Option Content) → n ≡ length xs → r ≡ (q && ltb i n) → r ≡ true → x ≡ get_or xs i x → Some (f x) ≡ over f (own_item q xs i) c
read_own f q xs i n r x c l e h is =
    let there = own_there q i n r e h in
    sym (ap (λ t. over f (own_item t xs i) c) there.0 ∙ ap (λ y. over f y c) (slice_get_read xs n i x l there.1 is))

-- what is beneath is read
pub read_beneath : {X : Type 0} (f : X → Content) (q : Bool) (xs : List X) (i n : ℕ) (r : Bool) (b c : Option Content) → n ≡ length xs → r ≡ (q && ltb i n) → r ≡ false → b ≡ c → b ≡ over f (own_item q xs i) c
read_beneath f q xs i n r b c l e h is = is ∙ sym (ap (λ y. over f y c) (none_own q xs i n r l e h))

-- ---- one more item, or another one in its place

over_more : {X : Type 0} (f : X → Content) (e i v : Bool) (x : X) (y : Option X) (c : Option Content)
    → over f (cond (e && v) (cond i (Some x) y) None) c ≡ cond (e && (i && v)) (Some (f x)) (over f (cond (e && v) y None) c)
over_more f true true true x y c = refl
over_more f true true false x y c = refl
over_more f true false true x y c = refl
over_more f true false false x y c = refl
over_more f false i v x y c = refl

-- what is over a cell once an item of that number is x
placed : {X : Type 0} (f : X → Content) (a v b w i j : ℕ) (xs ys : List X) (x : X) (c : Option Content) → slice_get ys j ≡ cond (i == j) (Some x) (slice_get xs j)
    → over f (own_item ((a == b) && (v == w)) ys j) c ≡ cond (same_numbers a i v b j w) (Some (f x)) (over f (own_item ((a == b) && (v == w)) xs j) c)
placed f a v b w i j xs ys x c e =
    ap (λ y. over f (cond ((a == b) && (v == w)) y None) c) e
    ∙ over_more f (a == b) (i == j) (v == w) x (slice_get xs j) c
    ∙ sym (ap (λ t. cond t (Some (f x)) (over f (own_item ((a == b) && (v == w)) xs j) c)) (numbers_are a i v b j w))

-- ---- a write beneath

over_by : {X : Type 0} (f : X → Content) (t : Bool) (y : Option X) (d : Content) (c : Option Content) → (t ≡ true → y ≡ None) → over f y (cond t (Some d) c) ≡ cond t (Some d) (over f y c)
over_by f true y d c h = ap (λ z. over f z (Some d)) (h refl)
over_by f false y d c h = refl

-- a cell with the same numbers has no own item either
none_alike : {X : Type 0} (a v g h b w i j : ℕ) (xs : List X) → own_item ((a == g) && (v == h)) xs i ≡ None → same_numbers g i h b j w ≡ true → own_item ((a == b) && (v == w)) xs j ≡ None
none_alike a v g h b w i j xs e t =
    let parts = and_parts (g == b) ((i == j) && (h == w)) (sym (numbers_are g i h b j w) ∙ t) in
    let more = and_parts (i == j) (h == w) parts.1 in
    let p = eqb-true g b parts.0 in
    let q = eqb-true i j more.0 in
    let r = eqb-true h w more.1 in
    sym (λ k. own_item ((a == p k) && (v == r k)) xs (q k)) ∙ e

beneath : {X : Type 0} (f : X → Content) (a v g h b w i j : ℕ) (xs : List X) (d : Content) (c : Option Content) → own_item ((a == g) && (v == h)) xs i ≡ None
    → over f (own_item ((a == b) && (v == w)) xs j) (cond (same_numbers g i h b j w) (Some d) c) ≡ cond (same_numbers g i h b j w) (Some d) (over f (own_item ((a == b) && (v == w)) xs j) c)
beneath f a v g h b w i j xs d c e = over_by f (same_numbers g i h b j w) (own_item ((a == b) && (v == w)) xs j) d c (none_alike a v g h b w i j xs e)

-- ---- slots

slot_placed : (e : EventName) (v : VatNo) (xs ys : List Value) (s : State) (i : ℕ) (x : Value) → ((j : ℕ) → slice_get ys j ≡ cond (i == j) (Some x) (slice_get xs j)) → (c : Cell)
    → with_slots e v ys s c ≡ write (with_slots e v xs s) (slot_cell (record { event = e; index = i; vat = v })) (held (val_of x)) c
slot_placed e v xs ys s i x h (slot_cell t) = placed (λ x. held (val_of x)) e.0 v.0.0 t.event.0 t.vat.0.0 i t.index xs ys x (s (slot_cell t)) (h t.index)
slot_placed e v xs ys s i x h _ = refl

-- an own slot with another value is a cell that was written
slots_placed : (e : EventName) (v : VatNo) (xs ys : List Value) (s : State) (i : ℕ) (x : Value) → ((j : ℕ) → slice_get ys j ≡ cond (i == j) (Some x) (slice_get xs j))
    → with_slots e v ys s ≡ write (with_slots e v xs s) (slot_cell (record { event = e; index = i; vat = v })) (held (val_of x))
slots_placed e v xs ys s i x h = λ k c. slot_placed e v xs ys s i x h c k

slot_beneath : (e : EventName) (v : VatNo) (xs : List Value) (s : State) (i : SlotId) (d : Content) → own_item (is_of e v i.event i.vat) xs i.index ≡ None → (c : Cell)
    → with_slots e v xs (write s (slot_cell i) d) c ≡ write (with_slots e v xs s) (slot_cell i) d c
slot_beneath e v xs s i d h (slot_cell t) = beneath (λ x. held (val_of x)) e.0 v.0.0 i.event.0 i.vat.0.0 t.event.0 t.vat.0.0 i.index t.index xs d (s (slot_cell t)) h
slot_beneath e v xs s i d h _ = refl

-- a slot that is not the turn's own is written beneath
slots_beneath : (e : EventName) (v : VatNo) (xs : List Value) (s : State) (i : SlotId) (d : Content) → own_item (is_of e v i.event i.vat) xs i.index ≡ None
    → with_slots e v xs (write s (slot_cell i) d) ≡ write (with_slots e v xs s) (slot_cell i) d
slots_beneath e v xs s i d h = λ k c. slot_beneath e v xs s i d h c k

slot_none : (e : EventName) (v : VatNo) (s : State) (c : Cell) → with_slots e v [] s c ≡ s c
slot_none e v s (slot_cell t) = ap (λ y. over (λ x. held (val_of x)) y (s (slot_cell t))) (none_either_way (is_of e v t.event t.vat) None refl)
slot_none e v s _ = refl

-- no slots over a state leave it as it is
pub slots_none : (e : EventName) (v : VatNo) (xs : List Value) (s : State) → xs ≡ [] → with_slots e v xs s ≡ s
slots_none e v xs s h = ap (λ xs. with_slots e v xs s) h ∙ (λ k c. slot_none e v s c k)

-- ---- objects

object_placed : (e : EventName) (v : VatNo) (xs ys : List Made) (s : State) (i : ℕ) (x : Made) → ((j : ℕ) → slice_get ys j ≡ cond (i == j) (Some x) (slice_get xs j)) → (c : Cell)
    → with_objects e v ys s c ≡ write (with_objects e v xs s) (object_cell (record { event = e; index = i; vat = v })) (made (object_of x)) c
object_placed e v xs ys s i x h (object_cell t) = placed (λ m. made (object_of m)) e.0 v.0.0 t.event.0 t.vat.0.0 i t.index xs ys x (s (object_cell t)) (h t.index)
object_placed e v xs ys s i x h _ = refl

-- one more object is a cell that was written
objects_placed : (e : EventName) (v : VatNo) (xs ys : List Made) (s : State) (i : ℕ) (x : Made) → ((j : ℕ) → slice_get ys j ≡ cond (i == j) (Some x) (slice_get xs j))
    → with_objects e v ys s ≡ write (with_objects e v xs s) (object_cell (record { event = e; index = i; vat = v })) (made (object_of x))
objects_placed e v xs ys s i x h = λ k c. object_placed e v xs ys s i x h c k

object_beneath : (e : EventName) (v : VatNo) (xs : List Made) (s : State) (i : ObjId) (d : Content) → own_item (is_of e v i.event i.vat) xs i.index ≡ None → (c : Cell)
    → with_objects e v xs (write s (object_cell i) d) c ≡ write (with_objects e v xs s) (object_cell i) d c
object_beneath e v xs s i d h (object_cell t) = beneath (λ m. made (object_of m)) e.0 v.0.0 i.event.0 i.vat.0.0 t.event.0 t.vat.0.0 i.index t.index xs d (s (object_cell t)) h
object_beneath e v xs s i d h _ = refl

-- an object that is not the turn's own is written beneath
objects_beneath : (e : EventName) (v : VatNo) (xs : List Made) (s : State) (i : ObjId) (d : Content) → own_item (is_of e v i.event i.vat) xs i.index ≡ None
    → with_objects e v xs (write s (object_cell i) d) ≡ write (with_objects e v xs s) (object_cell i) d
objects_beneath e v xs s i d h = λ k c. object_beneath e v xs s i d h c k

object_none : (e : EventName) (v : VatNo) (s : State) (c : Cell) → with_objects e v [] s c ≡ s c
object_none e v s (object_cell t) = ap (λ y. over (λ m. made (object_of m)) y (s (object_cell t))) (none_either_way (is_of e v t.event t.vat) None refl)
object_none e v s _ = refl

-- no objects over a state leave it as it is
pub objects_none : (e : EventName) (v : VatNo) (xs : List Made) (s : State) → xs ≡ [] → with_objects e v xs s ≡ s
objects_none e v xs s h = ap (λ xs. with_objects e v xs s) h ∙ (λ k c. object_none e v s c k)

-- ---- cells of other kinds

other_passes : (e : EventName) (v : VatNo) (xs : List Value) (os : List Made) (s : State) (k : Cell) (d : Content) → ((t : SlotId) → same_cell k (slot_cell t) ≡ false) → ((t : ObjId) → same_cell k (object_cell t) ≡ false) → (c : Cell)
    → with_objects e v os (with_slots e v xs (write s k d)) c ≡ write (with_objects e v os (with_slots e v xs s)) k d c
other_passes e v xs os s k d p q (slot_cell t) =
    ap (λ b. over (λ x. held (val_of x)) (own_item (is_of e v t.event t.vat) xs t.index) (cond b (Some d) (s (slot_cell t)))) (p t)
    ∙ sym (ap (λ b. cond b (Some d) (over (λ x. held (val_of x)) (own_item (is_of e v t.event t.vat) xs t.index) (s (slot_cell t)))) (p t))
other_passes e v xs os s k d p q (object_cell t) =
    ap (λ b. over (λ m. made (object_of m)) (own_item (is_of e v t.event t.vat) os t.index) (cond b (Some d) (s (object_cell t)))) (q t)
    ∙ sym (ap (λ b. cond b (Some d) (over (λ m. made (object_of m)) (own_item (is_of e v t.event t.vat) os t.index) (s (object_cell t)))) (q t))
other_passes e v xs os s k d p q _ = refl

-- what is no slot and no object is written beneath
pub others_pass : (e : EventName) (v : VatNo) (xs : List Value) (os : List Made) (s : State) (k : Cell) (d : Content) → ((t : SlotId) → same_cell k (slot_cell t) ≡ false) → ((t : ObjId) → same_cell k (object_cell t) ≡ false)
    → with_objects e v os (with_slots e v xs (write s k d)) ≡ write (with_objects e v os (with_slots e v xs s)) k d
others_pass e v xs os s k d p q = λ i c. other_passes e v xs os s k d p q c i

slot_passes : (e : EventName) (v : VatNo) (os : List Made) (s : State) (i : SlotId) (d : Content) (c : Cell) → with_objects e v os (write s (slot_cell i) d) c ≡ write (with_objects e v os s) (slot_cell i) d c
slot_passes e v os s i d (object_cell t) = refl
slot_passes e v os s i d _ = refl

-- a slot is written beneath the objects
slots_pass : (e : EventName) (v : VatNo) (os : List Made) (s : State) (i : SlotId) (d : Content) → with_objects e v os (write s (slot_cell i) d) ≡ write (with_objects e v os s) (slot_cell i) d
slots_pass e v os s i d = λ k c. slot_passes e v os s i d c k

-- ---- what the calls do

-- the name of a cell of the turn
own_slot : (e : EventName) (v : VatNo) (i : SlotId) → is_of e v i.event i.vat ≡ true → record { event = e; index = i.index; vat = v } ≡ i
own_slot e v i h =
    let parts = and_parts (e.0 == i.event.0) (v.0.0 == i.vat.0.0) h in
    let p = eqb-true e.0 i.event.0 parts.0 in
    let q = eqb-true v.0.0 i.vat.0.0 parts.1 in
    λ k. record { event = record { 0 = p k }; index = i.index; vat = record { 0 = record { 0 = q k } } }

-- an own slot holds another value
pub own_written : (e : EventName) (v : VatNo) (xs : List Value) (os : List Made) (s : State) (i : SlotId) (x : Value) (n : ℕ) (r : Bool) → n ≡ length xs → r ≡ (is_of e v i.event i.vat && ltb i.index n) → r ≡ true
    → with_objects e v os (with_slots e v (set xs i.index x) s) ≡ write (with_objects e v os (with_slots e v xs s)) (slot_cell i) (held (val_of x))
own_written e v xs os s i x n r l t h =
    let there = own_there (is_of e v i.event i.vat) i.index n r t h in
    ap (with_objects e v os) (slots_placed e v xs (set xs i.index x) s i.index x (λ j. get_replaced xs i.index x j (omega (arith, there.1, l))))
    ∙ slots_pass e v os (with_slots e v xs s) (record { event = e; index = i.index; vat = v }) (held (val_of x))
    ∙ ap (λ i. write (with_objects e v os (with_slots e v xs s)) (slot_cell i) (held (val_of x))) (own_slot e v i there.0)

-- a slot that is not the turn's own holds another value
pub beneath_written : (e : EventName) (v : VatNo) (xs : List Value) (os : List Made) (s t : State) (i : SlotId) (x : Value) (n : ℕ) (r : Bool) → n ≡ length xs → r ≡ (is_of e v i.event i.vat && ltb i.index n) → r ≡ false
    → t ≡ write s (slot_cell i) (held (val_of x)) → with_objects e v os (with_slots e v xs t) ≡ write (with_objects e v os (with_slots e v xs s)) (slot_cell i) (held (val_of x))
beneath_written e v xs os s t i x n r l f h w =
    ap (λ u. with_objects e v os (with_slots e v xs u)) w
    ∙ ap (with_objects e v os) (slots_beneath e v xs s i (held (val_of x)) (none_own (is_of e v i.event i.vat) xs i.index n r l f h))
    ∙ slots_pass e v os (with_slots e v xs s) i (held (val_of x))

-- one more slot
pub slot_made : (e : EventName) (v : VatNo) (xs ys : List Value) (os : List Made) (s : State) (x : Value) (n : ℕ) → n ≡ length xs → ys ≡ xs ++ x ∷ []
    → with_objects e v os (with_slots e v ys s) ≡ write (with_objects e v os (with_slots e v xs s)) (slot_cell (record { event = e; index = n; vat = v })) (held (val_of x))
slot_made e v xs ys os s x n l p =
    ap (λ ys. with_objects e v os (with_slots e v ys s)) p
    ∙ ap (with_objects e v os) (slots_placed e v xs (xs ++ x ∷ []) s (length xs) x (get_pushed xs x))
    ∙ slots_pass e v os (with_slots e v xs s) (record { event = e; index = length xs; vat = v }) (held (val_of x))
    ∙ sym (ap (λ n. write (with_objects e v os (with_slots e v xs s)) (slot_cell (record { event = e; index = n; vat = v })) (held (val_of x))) l)

-- one more object
pub object_made : (e : EventName) (v : VatNo) (xs ys : List Made) (s : State) (x : Made) (n : ℕ) → n ≡ length xs → ys ≡ xs ++ x ∷ []
    → with_objects e v ys s ≡ write (with_objects e v xs s) (object_cell (record { event = e; index = n; vat = v })) (made (object_of x))
object_made e v xs ys s x n l p =
    ap (λ ys. with_objects e v ys s) p
    ∙ objects_placed e v xs (xs ++ x ∷ []) s (length xs) x (get_pushed xs x)
    ∙ sym (ap (λ n. write (with_objects e v xs s) (object_cell (record { event = e; index = n; vat = v })) (made (object_of x))) l)

-- the newest slot goes to the state beneath
pub slots_kept : (e : EventName) (v : VatNo) (xs rest : List Value) (x : Value) (s t : State) (n : ℕ) → xs ≡ rest ++ x ∷ [] → n ≡ length rest → t ≡ write s (slot_cell (record { event = e; index = n; vat = v })) (held (val_of x))
    → with_slots e v rest t ≡ with_slots e v xs s
slots_kept e v xs rest x s t n p l w =
    ap (with_slots e v rest) (w ∙ ap (λ n. write s (slot_cell (record { event = e; index = n; vat = v })) (held (val_of x))) l)
    ∙ slots_beneath e v rest s (record { event = e; index = length rest; vat = v }) (held (val_of x)) (none_either_way (is_of e v e v) (slice_get rest (length rest)) (slice_get_past rest (length rest) (omega arith)))
    ∙ sym (slots_placed e v rest (rest ++ x ∷ []) s (length rest) x (get_pushed rest x))
    ∙ sym (ap (λ xs. with_slots e v xs s) p)

-- the newest object goes to the state beneath
pub objects_kept : (e : EventName) (v : VatNo) (xs rest : List Made) (x : Made) (s t : State) (n : ℕ) → xs ≡ rest ++ x ∷ [] → n ≡ length rest → t ≡ write s (object_cell (record { event = e; index = n; vat = v })) (made (object_of x))
    → with_objects e v rest t ≡ with_objects e v xs s
objects_kept e v xs rest x s t n p l w =
    ap (with_objects e v rest) (w ∙ ap (λ n. write s (object_cell (record { event = e; index = n; vat = v })) (made (object_of x))) l)
    ∙ objects_beneath e v rest s (record { event = e; index = length rest; vat = v }) (made (object_of x)) (none_either_way (is_of e v e v) (slice_get rest (length rest)) (slice_get_past rest (length rest) (omega arith)))
    ∙ sym (objects_placed e v rest (rest ++ x ∷ []) s (length rest) x (get_pushed rest x))
    ∙ sym (ap (λ xs. with_objects e v xs s) p)

-- ---- sets of cells

some_over : {X : Type 0} (f : X → Content) (y : Option X) → is_some (over f y None) ≡ is_some y
some_over f (Some x) = refl
some_over f None = refl

some_cond : {X : Type 0} (b : Bool) (x : X) (y : Option X) → is_some (cond b (Some x) y) ≡ (b || is_some y)
some_cond true x y = refl
some_cond false x y = refl

-- there is an item of a number once one of this number is x
is_placed : {X : Type 0} (f : X → Content) (a v b w i j : ℕ) (xs ys : List X) (x : X) → slice_get ys j ≡ cond (i == j) (Some x) (slice_get xs j)
    → is_some (own_item ((a == b) && (v == w)) ys j) ≡ (same_numbers a i v b j w || is_some (own_item ((a == b) && (v == w)) xs j))
is_placed f a v b w i j xs ys x e =
    sym (some_over f (own_item ((a == b) && (v == w)) ys j))
    ∙ ap is_some (placed f a v b w i j xs ys x None e)
    ∙ some_cond (same_numbers a i v b j w) (f x) (over f (own_item ((a == b) && (v == w)) xs j) None)
    ∙ ap (λ p. same_numbers a i v b j w || p) (some_over f (own_item ((a == b) && (v == w)) xs j))

or_before : (a b c : Bool) → ((a || b) || c) ≡ (a || (b || c))
or_before true b c = refl
or_before false b c = refl

or_between : (a b c : Bool) → (a || (b || c)) ≡ (b || (a || c))
or_between true true c = refl
or_between true false c = refl
or_between false b c = refl

slot_in_set : (e : EventName) (v : VatNo) (xs ys : List Value) (q : Cells) (i : ℕ) (x : Value) → ((j : ℕ) → slice_get ys j ≡ cond (i == j) (Some x) (slice_get xs j)) → (c : Cell)
    → and_slots e v ys q c ≡ also (slot_cell (record { event = e; index = i; vat = v })) (and_slots e v xs q) c
slot_in_set e v xs ys q i x h (slot_cell t) =
    ap (λ p. p || q (slot_cell t)) (is_placed (λ x. held (val_of x)) e.0 v.0.0 t.event.0 t.vat.0.0 i t.index xs ys x (h t.index))
    ∙ or_before (same_numbers e.0 i v.0.0 t.event.0 t.index t.vat.0.0) (is_some (own_item (is_of e v t.event t.vat) xs t.index)) (q (slot_cell t))
slot_in_set e v xs ys q i x h _ = refl

object_in_set : (e : EventName) (v : VatNo) (xs ys : List Made) (q : Cells) (i : ℕ) (x : Made) → ((j : ℕ) → slice_get ys j ≡ cond (i == j) (Some x) (slice_get xs j)) → (c : Cell)
    → and_objects e v ys q c ≡ also (object_cell (record { event = e; index = i; vat = v })) (and_objects e v xs q) c
object_in_set e v xs ys q i x h (object_cell t) =
    ap (λ p. p || q (object_cell t)) (is_placed (λ m. made (object_of m)) e.0 v.0.0 t.event.0 t.vat.0.0 i t.index xs ys x (h t.index))
    ∙ or_before (same_numbers e.0 i v.0.0 t.event.0 t.index t.vat.0.0) (is_some (own_item (is_of e v t.event t.vat) xs t.index)) (q (object_cell t))
object_in_set e v xs ys q i x h _ = refl

slots_swap : (e : EventName) (v : VatNo) (xs : List Value) (q : Cells) (k c : Cell) → and_slots e v xs (also k q) c ≡ also k (and_slots e v xs q) c
slots_swap e v xs q k (slot_cell t) = or_between (is_some (own_item (is_of e v t.event t.vat) xs t.index)) (same_cell k (slot_cell t)) (q (slot_cell t))
slots_swap e v xs q k _ = refl

objects_swap : (e : EventName) (v : VatNo) (xs : List Made) (q : Cells) (k c : Cell) → and_objects e v xs (also k q) c ≡ also k (and_objects e v xs q) c
objects_swap e v xs q k (object_cell t) = or_between (is_some (own_item (is_of e v t.event t.vat) xs t.index)) (same_cell k (object_cell t)) (q (object_cell t))
objects_swap e v xs q k _ = refl

-- a cell is touched beneath
pub touched_beneath : (e : EventName) (v : VatNo) (xs : List Value) (os : List Made) (q r : Cells) (k : Cell) → r ≡ also k q
    → and_objects e v os (and_slots e v xs r) ≡ also k (and_objects e v os (and_slots e v xs q))
touched_beneath e v xs os q r k h =
    ap (λ r. and_objects e v os (and_slots e v xs r)) h
    ∙ ap (and_objects e v os) (λ i c. slots_swap e v xs q k c i)
    ∙ (λ i c. objects_swap e v os (and_slots e v xs q) k c i)

-- one more slot is touched
pub slot_touched : (e : EventName) (v : VatNo) (xs ys : List Value) (os : List Made) (q : Cells) (x : Value) (n : ℕ) → n ≡ length xs → ys ≡ xs ++ x ∷ []
    → and_objects e v os (and_slots e v ys q) ≡ also (slot_cell (record { event = e; index = n; vat = v })) (and_objects e v os (and_slots e v xs q))
slot_touched e v xs ys os q x n l p =
    ap (λ ys. and_objects e v os (and_slots e v ys q)) p
    ∙ ap (and_objects e v os) (λ i c. slot_in_set e v xs (xs ++ x ∷ []) q (length xs) x (get_pushed xs x) c i)
    ∙ (λ i c. objects_swap e v os (and_slots e v xs q) (slot_cell (record { event = e; index = length xs; vat = v })) c i)
    ∙ sym (ap (λ n. also (slot_cell (record { event = e; index = n; vat = v })) (and_objects e v os (and_slots e v xs q))) l)

-- an own slot is touched when it is written
pub own_touched : (e : EventName) (v : VatNo) (xs : List Value) (os : List Made) (q : Cells) (i : SlotId) (x : Value) (n : ℕ) (r : Bool) → n ≡ length xs → r ≡ (is_of e v i.event i.vat && ltb i.index n) → r ≡ true
    → and_objects e v os (and_slots e v (set xs i.index x) q) ≡ also (slot_cell i) (and_objects e v os (and_slots e v xs q))
own_touched e v xs os q i x n r l t h =
    let there = own_there (is_of e v i.event i.vat) i.index n r t h in
    ap (and_objects e v os) (λ k c. slot_in_set e v xs (set xs i.index x) q i.index x (λ j. get_replaced xs i.index x j (omega (arith, there.1, l))) c k)
    ∙ (λ k c. objects_swap e v os (and_slots e v xs q) (slot_cell (record { event = e; index = i.index; vat = v })) c k)
    ∙ ap (λ i. also (slot_cell i) (and_objects e v os (and_slots e v xs q))) (own_slot e v i there.0)

-- one more object is touched
pub object_touched : (e : EventName) (v : VatNo) (xs ys : List Made) (q : Cells) (x : Made) (n : ℕ) → n ≡ length xs → ys ≡ xs ++ x ∷ []
    → and_objects e v ys q ≡ also (object_cell (record { event = e; index = n; vat = v })) (and_objects e v xs q)
object_touched e v xs ys q x n l p =
    ap (λ ys. and_objects e v ys q) p
    ∙ (λ i c. object_in_set e v xs (xs ++ x ∷ []) q (length xs) x (get_pushed xs x) c i)
    ∙ sym (ap (λ n. also (object_cell (record { event = e; index = n; vat = v })) (and_objects e v xs q)) l)

set_of_no_slots : (e : EventName) (v : VatNo) (q : Cells) (c : Cell) → and_slots e v [] q c ≡ q c
set_of_no_slots e v q (slot_cell t) = ap (λ p. is_some p || q (slot_cell t)) (none_either_way (is_of e v t.event t.vat) None refl)
set_of_no_slots e v q _ = refl

set_of_no_objects : (e : EventName) (v : VatNo) (q : Cells) (c : Cell) → and_objects e v [] q c ≡ q c
set_of_no_objects e v q (object_cell t) = ap (λ p. is_some p || q (object_cell t)) (none_either_way (is_of e v t.event t.vat) None refl)
set_of_no_objects e v q _ = refl

-- no slots, and no objects, are no cells more
pub no_slots_touched : (e : EventName) (v : VatNo) (xs : List Value) (q : Cells) → xs ≡ [] → and_slots e v xs q ≡ q
no_slots_touched e v xs q h = ap (λ xs. and_slots e v xs q) h ∙ (λ i c. set_of_no_slots e v q c i)

pub no_objects_touched : (e : EventName) (v : VatNo) (xs : List Made) (q : Cells) → xs ≡ [] → and_objects e v xs q ≡ q
no_objects_touched e v xs q h = ap (λ xs. and_objects e v xs q) h ∙ (λ i c. set_of_no_objects e v q c i)

-- the newest slot, or object, goes to the set beneath
pub slots_set_kept : (e : EventName) (v : VatNo) (xs rest : List Value) (x : Value) (q r : Cells) (n : ℕ) → xs ≡ rest ++ x ∷ [] → n ≡ length rest → r ≡ also (slot_cell (record { event = e; index = n; vat = v })) q
    → and_slots e v rest r ≡ and_slots e v xs q
slots_set_kept e v xs rest x q r n p l w =
    ap (and_slots e v rest) (w ∙ ap (λ n. also (slot_cell (record { event = e; index = n; vat = v })) q) l)
    ∙ (λ i c. slots_swap e v rest q (slot_cell (record { event = e; index = length rest; vat = v })) c i)
    ∙ sym (λ i c. slot_in_set e v rest (rest ++ x ∷ []) q (length rest) x (get_pushed rest x) c i)
    ∙ sym (ap (λ xs. and_slots e v xs q) p)

pub objects_set_kept : (e : EventName) (v : VatNo) (xs rest : List Made) (x : Made) (q r : Cells) (n : ℕ) → xs ≡ rest ++ x ∷ [] → n ≡ length rest → r ≡ also (object_cell (record { event = e; index = n; vat = v })) q
    → and_objects e v rest r ≡ and_objects e v xs q
objects_set_kept e v xs rest x q r n p l w =
    ap (and_objects e v rest) (w ∙ ap (λ n. also (object_cell (record { event = e; index = n; vat = v })) q) l)
    ∙ (λ i c. objects_swap e v rest q (object_cell (record { event = e; index = length rest; vat = v })) c i)
    ∙ sym (λ i c. object_in_set e v rest (rest ++ x ∷ []) q (length rest) x (get_pushed rest x) c i)
    ∙ sym (ap (λ xs. and_objects e v xs q) p)

-- the cells that have contents are the same where the contents are
pub same_set : (w u : State) → w ≡ u → ◌≡◌ {A = Cells} (λ c. is_some (w c)) (λ c. is_some (u c))
same_set w u h = λ i c. is_some (h i c)

-- what was written into one cell more was written there too
pub written_also : (k : Cell) (x : Content) (w u : State) → u ≡ write w k x → (λ c. is_some (u c)) ≡ also k (λ c. is_some (w c))
written_also k x w u h = same_set u (write w k x) h ∙ (λ i c. some_cond (same_cell k c) x (w c) i)

-- what is over a cell stands there, whatever is beneath
over_alike : {X : Type 0} (f : X → Content) (y : Option X) (w c : Option Content) (x : Content) → (w ≡ Some x → c ≡ Some x) → over f y w ≡ Some x → over f y c ≡ Some x
over_alike f None w c x h e = h e
over_alike f (Some y) w c x h e = e

-- a cell that a turn wrote holds what it wrote there
pub holds_what_was_written : (e : EventName) (v : VatNo) (xs : List Value) (os : List Made) (w s : State) → ((c : Cell) (x : Content) → w c ≡ Some x → s c ≡ Some x)
    → (c : Cell) (x : Content) → with_objects e v os (with_slots e v xs w) c ≡ Some x → with_objects e v os (with_slots e v xs s) c ≡ Some x
holds_what_was_written e v xs os w s h (slot_cell i) x is = over_alike (λ v. held (val_of v)) (own_item (is_of e v i.event i.vat) xs i.index) (w (slot_cell i)) (s (slot_cell i)) x (h (slot_cell i) x) is
holds_what_was_written e v xs os w s h (object_cell i) x is = over_alike (λ m. made (object_of m)) (own_item (is_of e v i.event i.vat) os i.index) (w (object_cell i)) (s (object_cell i)) x (h (object_cell i) x) is
holds_what_was_written e v xs os w s h c x is = h c x is
