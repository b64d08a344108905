-- On the names of scopes, of which the program pushes the newest at the end.
use Rattle.std.proofs.Common.{◌≡◌, ℕ, ◌+◌, ◌<◌, ◌≤◌, ◌-◌, min, ltb, arith, List, [], ◌∷◌, ◌++◌, length, take, drop, length-append, length-drop, append_assoc, Some, None, true, false, refl, sym, ap, ◌∙◌, suc, zero, inl, inr}
use Rattle.std.specs.Prelude.{Result, Ok, Err, IfOk}
use Rattle.std.proofs.Math.Nat.{min-eq_left, min-eq_right}
use Rattle.std.proofs.lemmas.List.{take-append-drop, length-take-le, drop_at}
use Rattle.std.proofs.lemmas.Bool.{cases_lt}
use Rattle.std.proofs.lemmas.Bool.Decides.{nat_tests}
use Rattle.ids.specs.declared.names.SlotId.{SlotId}
use Rattle.kernele.specs.Tree.{Name}
use Rattle.values.specs.Data.{Val}
use Rattle.heap.specs.State.{Bind, slot, Nouns, top, slot_cell, bound, held}
use Rattle.eval_rules.specs.At.{At}
use Rattle.eval_rules.specs.Outcomes.{value}
use Rattle.eval_rules.specs.Rules.{put, sought_slot, seeking, slot_put, binding, bound_in, next_slot, slot_made, with_slot, variable_made, declared, assigned}
use Rattle.heap.specs.View.{bind_of, nouns_of}
use Rattle.eval_rules.specs.Locals.{locals_after, names_in, oldest}
use Rattle.eval_rules.proofs.Locals.{nouns_of-append, length-nouns_of}
use Rattle.heap.specs.declared.state.Noun.{Noun}
use Rattle.eval_rules.specs.declared.local.Local.{Local}

locals_after-append : (ns : Nouns) (xs ys : List Local) → locals_after ns (xs ++ ys) ≡ locals_after (locals_after ns xs) ys
locals_after-append ns [] ys = refl
locals_after-append ns (x ∷ xs) ys = locals_after-append ((x.name.value, bind_of x.binding) ∷ ns) xs ys

-- the newest name is the last one pushed
pub locals_after-push : (ns : Nouns) (xs : List Local) (n : Local) → locals_after ns (xs ++ n ∷ []) ≡ ((n.name.value, bind_of n.binding) ∷ locals_after ns xs)
locals_after-push ns xs n = locals_after-append ns xs (n ∷ [])

-- in the script's own scope a name is bound by a write of its cell
pub bound_on_top : (x y : Name) (b : Bind) (a z : At) → a.own_scope ≡ true → z ≡ put (top y) (bound b) a → y ≡ x → z ≡ binding x b a
bound_on_top x y b a z h e n = e ∙ ap (λ x. put (top x) (bound b) a) n ∙ sym (ap (λ o. bound_in o x b a) h)

-- in any other scope it is the newest name
pub bound_inside : (x : Name) (b : Bind) (a : At) (ns : Nouns) → a.own_scope ≡ false → ns ≡ ((x, b) ∷ a.nouns) → record a { nouns = ns } ≡ binding x b a
bound_inside x b a ns h e = ap (λ ms. record a { nouns = ms }) e ∙ sym (ap (λ o. bound_in o x b a) h)

-- what holds anyway holds of what was returned
pub if_any : {X E P : Type 0} (r : Result X E) → P → IfOk r (λ x. P)
if_any (Ok x) p = p
if_any (Err e) p = tt

-- an assignment to a slot, once its noun was sought
pub assigned_there : (x : Name) (v w : Val) (i : SlotId) (a b c : At) → sought_slot x a ≡ Some i → b ≡ seeking x a → c ≡ put (slot_cell i) (held w) b → w ≡ v → c ≡ assigned x (value v) a
assigned_there x v w i a b c h g e p = e ∙ (λ j. put (slot_cell i) (held (p j)) (g j)) ∙ sym (ap (λ m. slot_put v m (seeking x a)) h)

-- an assignment to what is no slot
pub assigned_nowhere : (x : Name) (v : Val) (a b : At) → sought_slot x a ≡ None → b ≡ seeking x a → b ≡ assigned x (value v) a
assigned_nowhere x v a b h g = g ∙ sym (ap (λ m. slot_put v m (seeking x a)) h)

pub room : (n : ℕ) → n < 4096 → ltb n 4096 ≡ true
room n h = grind (arith, nat_tests)

pub no_room : (n : ℕ) → 4096 ≤ n → ltb n 4096 ≡ false
no_room n h = grind (arith, nat_tests)

-- a variable for whose slot there is room
pub declared_there : (x : Name) (v w : Val) (i : SlotId) (a b c : At) → a.slots < 4096 → w ≡ v → i ≡ next_slot a → b ≡ slot_made w a → c ≡ binding x (slot i) b → c ≡ declared x (value v) a
declared_there x v w i a b c h p q e f =
    f ∙ (λ j. binding x (slot (q j)) (e j)) ∙ ap (λ u. with_slot x u a) p ∙ sym (ap (λ r. variable_made r x v a) (room a.slots h))

locals_after-split : (ns : Nouns) (xs : List Local) → locals_after ns xs ≡ locals_after [] xs ++ ns
locals_after-split ns [] = refl
locals_after-split ns (x ∷ xs) =
    locals_after-split ((x.name.value, bind_of x.binding) ∷ ns) xs
    ∙ sym (ap (λ ms. ms ++ ns) (locals_after-split ((x.name.value, bind_of x.binding) ∷ []) xs) ∙ append_assoc (locals_after [] xs) ((x.name.value, bind_of x.binding) ∷ []) ns)

pub length-locals_after : (ns : Nouns) (xs : List Local) → length (locals_after ns xs) ≡ length ns + length xs
length-locals_after ns [] = omega arith
length-locals_after ns (x ∷ xs) = omega (arith, length-locals_after ((x.name.value, bind_of x.binding) ∷ ns) xs)

-- as many names as there are of both kinds
pub length-names_in : (cs : List Noun) (k : ℕ) (xs : List Local) → k ≤ length cs → length (names_in cs k xs) ≡ k + length xs
length-names_in cs k xs h = omega (arith, length-locals_after (nouns_of (take k cs)) xs, length-nouns_of (take k cs), length-take-le k cs h)

-- lists that end alike, from equal lengths on
pub same_end : {A : Type 0} (ps qs ss ts : List A) → ps ++ ss ≡ qs ++ ts → length ps ≡ length qs → ss ≡ ts
same_end [] [] ss ts e h = e
same_end [] (q ∷ qs) ss ts e h = absurd (omega arith)
same_end (p ∷ ps) [] ss ts e h = absurd (omega arith)
same_end (p ∷ ps) (q ∷ qs) ss ts e h = same_end ps qs ss ts (cc) (omega arith)

-- behind newer names are the oldest
pub oldest_behind : (more ms ns : Nouns) (n : ℕ) → ms ≡ more ++ ns → length ns ≡ length ms - (length ms - n) → oldest n ms ≡ ns
oldest_behind more ms ns n e h = ap (drop (length ms - n)) e ∙ drop_at more ns (length ms - n) (omega (arith, ap length e, length-append more ns, h))

-- the names that were there before others were added
pub truncated : (ns ms : Nouns) (n : ℕ) → n ≡ length ns → (more : Nouns) × (ms ≡ more ++ ns) → oldest n ms ≡ ns
truncated ns ms n e g = oldest_behind g.0 ms ns n g.1 (omega (arith, ap length g.1, length-append g.0 ns, e))

-- the oldest of captured names
take-take : {A : Type 0} (j k : ℕ) (xs : List A) → j ≤ k → take j (take k xs) ≡ take j xs
take-take zero k xs h = refl
take-take (suc j) zero xs h = absurd (omega arith)
take-take (suc j) (suc k) [] h = refl
take-take (suc j) (suc k) (x ∷ xs) h = ap (λ ys. x ∷ ys) (take-take j k xs (omega arith))

fewer_captured : (cs : List Noun) (j k : ℕ) → j ≤ k → nouns_of (take k cs) ≡ nouns_of (drop j (take k cs)) ++ nouns_of (take j cs)
fewer_captured cs j k h = ap nouns_of (sym (take-append-drop j (take k cs))) ∙ nouns_of-append (take j (take k cs)) (drop j (take k cs)) ∙ ap (λ es. nouns_of (drop j (take k cs)) ++ nouns_of es) (take-take j k cs h)

fewer_locals : (ns : Nouns) (xs : List Local) (m : ℕ) → locals_after ns xs ≡ locals_after [] (drop m xs) ++ locals_after ns (take m xs)
fewer_locals ns xs m = ap (locals_after ns) (sym (take-append-drop m xs)) ∙ locals_after-append ns (take m xs) (drop m xs) ∙ locals_after-split (locals_after ns (take m xs)) (drop m xs)

-- where no captured name ends, only names of the frame do
kept_locals : (cs : List Noun) (xs : List Local) (k m n : ℕ) → k ≤ length cs → k ≤ n → m ≡ n - k → oldest n (names_in cs k xs) ≡ names_in cs k (take m xs)
kept_locals cs xs k m n h less f =
    oldest_behind (locals_after [] (drop m xs)) (names_in cs k xs) (names_in cs k (take m xs)) n (fewer_locals (nouns_of (take k cs)) xs m)
    (omega (arith, length-names_in cs k xs h, length-names_in cs k (take m xs) h, ap length (sym (take-append-drop m xs)), length-append (take m xs) (drop m xs), length-drop m xs, f))

-- where captured names end, the whole frame does
kept_captured : (cs : List Noun) (xs : List Local) (k n : ℕ) → k ≤ length cs → n ≤ k → oldest n (names_in cs k xs) ≡ names_in cs n []
kept_captured cs xs k n h less =
    oldest_behind (locals_after [] xs ++ nouns_of (drop n (take k cs))) (names_in cs k xs) (nouns_of (take n cs)) n
    (locals_after-split (nouns_of (take k cs)) xs ∙ ap (λ ns. locals_after [] xs ++ ns) (fewer_captured cs n k less) ∙ sym (append_assoc (locals_after [] xs) (nouns_of (drop n (take k cs))) (nouns_of (take n cs))))
    (omega (arith, length-names_in cs k xs h, length-nouns_of (take n cs), length-take-le n cs (omega arith)))

-- the oldest names, of which those that were captured come first
pub oldest_kept : (cs : List Noun) (xs ys : List Local) (j k n : ℕ) → k ≤ length cs → j ≡ min k n → ys ≡ take (n - j) xs → names_in cs j ys ≡ oldest n (names_in cs k xs)
oldest_kept cs xs ys j k n h e f =
    elim (cases_lt n k) [
      | inl more ↦
          let last : j ≡ n = e ∙ min-eq_right (omega (arith, more)) in
          let none : n - j ≡ 0 = omega (arith, last) in
          (λ i. names_in cs (last i) (f i)) ∙ ap (λ m. names_in cs n (take m xs)) none ∙ sym (kept_captured cs xs k n h (omega (arith, more)))
      | inr less ↦
          let last : j ≡ k = e ∙ min-eq_left less in
          (λ i. names_in cs (last i) (f i)) ∙ sym (kept_locals cs xs k (n - j) n h less (ap (λ i. n - i) last))
    ]

-- where there are no more than these, all are kept
pub all_kept : (ns : Nouns) (n : ℕ) → length ns ≤ n → ns ≡ oldest n ns
all_kept ns n h =
    let none : length ns - n ≡ 0 = omega arith in
    ap (λ i. drop i ns) (sym none)
