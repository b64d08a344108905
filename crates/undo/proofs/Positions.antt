-- Items at positions, one after another.
use Rattle.std.proofs.Common.{◌≡◌, ℕ, zero, suc, ◌<◌, ◌≤◌, ◌+◌, ◌-◌, Bool, true, ◌&&◌, List, [], ◌∷◌, ◌++◌, Option, Some, None, Ok, Err, Result, OnErr, length, take, drop, get_or, map, reverse, refl, sym, ap, ap₂, ◌∙◌, add-one, arith}
use Rattle.std.specs.List.{list_all, slice_get}
use Rattle.std.proofs.Math.Seq.{drop-cons, set-append_seam}
use Rattle.std.proofs.lemmas.List.{take_more, reverse-append, length-map, map-append}
use Rattle.std.proofs.lemmas.List.Folds.{list_all-append}
use Rattle.history.specs.Walks.{step_at, walk}
use Rattle.history.specs.Records.{State, Record}
use Rattle.ids.specs.declared.cells.CellKey.{CellKey}
use Rattle.world_cells.specs.Events.{Noted}
use Rattle.world_cells.specs.Theory.{cells, all_pass}
use Rattle.journal.specs.Items.{Item, item_of, keys_at, pass, key_count, records_at, swap_item, entered}
use Rattle.journal.specs.declared.entry.Entry.{Entry}
use Rattle.undo.proofs.Looping.{and_first, and_second, both_true}
use Rattle.undo.proofs.Entries.{all_keys, count_at}

-- ---- what is ready

pub pass_at : (P : ℕ → Bool) (ps : List ℕ) (i : ℕ) → i < length ps → list_all P ps ≡ true → P (get_or ps i 0) ≡ true
pass_at P [] i h all = absurd (omega arith)
pass_at P (p ∷ ps) zero h all = and_first _ _ all
pass_at P (p ∷ ps) (suc i) h all = pass_at P ps i (omega arith) (and_second (P p) _ all)

pub pass_same : (t u : CellKey → Bool) (o r : Option (List CellKey)) → u ≡ t → r ≡ o → pass t o ≡ true → (pass u r && true) ≡ true
pass_same t u o r e f h = both_true _ _ (ap₂ pass e f ∙ h) refl

keep_all : {K : Type 0} (P Q : K → Bool) → ((k : K) → P k ≡ true → Q k ≡ true) → (ks : List K) → list_all P ks ≡ true → list_all Q ks ≡ true
keep_all P Q h [] g = refl
keep_all P Q h (k ∷ ks) g = both_true _ _ (h k (and_first _ _ g)) (keep_all P Q h ks (and_second (P k) _ g))

pub pass_kept : (t u : CellKey → Bool) → ((k : CellKey) → t k ≡ true → u k ≡ true) → (o : Option (List CellKey)) → pass t o ≡ true → pass u o ≡ true
pass_kept t u h None g = g
pass_kept t u h (Some ks) g = keep_all t u h ks g

pub pass_more : (P Q : ℕ → Bool) (ps : List ℕ) (i : ℕ) → i < length ps → ((p : ℕ) → P p ≡ true → Q p ≡ true) → Q (get_or ps i 0) ≡ true → list_all P (take i ps) ≡ true → list_all Q (take (i + 1) ps) ≡ true
pass_more P Q ps i h kept one all =
    ap (list_all Q) (take_more ps i 0 h) ∙ list_all-append Q (take i ps) (get_or ps i 0 ∷ []) ∙ both_true _ _ (keep_all P Q kept (take i ps) all) (both_true _ _ one refl)

pub ready_there : (test : CellKey → Bool) (xs : List Entry) (i : ℕ) (d : Entry) → i < length xs → all_pass test (item_of (get_or xs i d)).kept ≡ true → pass test (keys_at (map item_of xs) i) ≡ true
ready_there test [] i d h g = absurd (omega arith)
ready_there test (x ∷ xs) zero d h g = all_keys test (item_of x).kept ∙ g
ready_there test (x ∷ xs) (suc i) d h g = ready_there test xs i d (omega arith) g

get_seam : {A : Type 0} (xs : List A) (x d : A) → get_or (xs ++ x ∷ []) (length xs) d ≡ x
get_seam [] x d = refl
get_seam (y ∷ xs) x d = get_seam xs x d

in_seam : {A : Type 0} (xs : List A) (x : A) → length xs < length (xs ++ x ∷ [])
in_seam [] x = omega arith
in_seam (y ∷ xs) x = let h = in_seam xs x in omega arith

pub ready_last : (test : CellKey → Bool) (xs : List Entry) (e : Entry) → all_pass test (item_of e).kept ≡ true → pass test (keys_at (map item_of (xs ++ e ∷ [])) (length xs)) ≡ true
ready_last test xs e h = ready_there test (xs ++ e ∷ []) (length xs) e (in_seam xs e) (ap (λ x. all_pass test (item_of x).kept) (get_seam xs e e) ∙ h)

-- ---- how many records there are

pub count_same : (xs ys : List Item) (p : ℕ) → keys_at xs p ≡ keys_at ys p → records_at xs (p ∷ []) ≡ records_at ys (p ∷ [])
count_same xs ys p h = ap (λ o. key_count o + 0) h

pub count_back : (items : List Item) (ps : List ℕ) (i : ℕ) → 0 < i → i ≤ length ps → records_at items (drop i ps) + records_at items (get_or ps (i - 1) 0 ∷ []) ≡ records_at items (drop (i - 1) ps)
count_back items ps i h g =
    let within : i - 1 < length ps = omega arith in
    let next : suc (i - 1) ≡ i = omega arith in
    let is : drop (i - 1) ps ≡ get_or ps (i - 1) 0 ∷ drop i ps = drop-cons ps (i - 1) 0 within ∙ ap (λ n. get_or ps (i - 1) 0 ∷ drop n ps) next in
    let sum : records_at items (drop i ps) + (key_count (keys_at items (get_or ps (i - 1) 0)) + 0) ≡ key_count (keys_at items (get_or ps (i - 1) 0)) + records_at items (drop i ps) = omega arith in
    sum ∙ sym (ap (records_at items) is)

count_append : (items : List Item) (ps qs : List ℕ) → records_at items (ps ++ qs) ≡ records_at items ps + records_at items qs
count_append items [] qs = let e : 0 + records_at items qs ≡ records_at items qs = omega arith in sym e
count_append items (p ∷ ps) qs =
    let k = key_count (keys_at items p) in
    let h = count_append items ps qs in
    let e : k + (records_at items ps + records_at items qs) ≡ (k + records_at items ps) + records_at items qs = omega arith in
    ap (λ n. k + n) h ∙ e

pub count_on : (items : List Item) (ps : List ℕ) (i : ℕ) → i < length ps → records_at items (take i ps) + records_at items (get_or ps i 0 ∷ []) ≡ records_at items (take (i + 1) ps)
count_on items ps i h = sym (ap (records_at items) (take_more ps i 0 h) ∙ count_append items (take i ps) (get_or ps i 0 ∷ []))

pub count_last : (xs : List Entry) (e : Entry) → records_at (map item_of (xs ++ e ∷ [])) (length xs ∷ []) ≡ length (item_of e).kept
count_last xs e = count_at (xs ++ e ∷ []) (length xs) e (in_seam xs e) ∙ ap (λ x. length (item_of x).kept) (get_seam xs e e)

-- ---- walks

pub walk_back : {B S : Type 0} (one : B → S → B × S) (ps : List ℕ) (i : ℕ) (j : List B × S) → 0 < i → i ≤ length ps → walk one (reverse (take (i - 1) ps)) (step_at one (get_or ps (i - 1) 0) j) ≡ walk one (reverse (take i ps)) j
walk_back one ps i j h g =
    let within : i - 1 < length ps = omega arith in
    let next : (i - 1) + 1 ≡ i = omega arith in
    sym (ap (λ n. walk one (reverse (take n ps)) j) (sym next) ∙ ap (λ l. walk one (reverse l) j) (take_more ps (i - 1) 0 within) ∙ ap (λ l. walk one l j) (reverse-append (take (i - 1) ps) (get_or ps (i - 1) 0 ∷ [])))

pub walk_on : {B S : Type 0} (one : B → S → B × S) (ps : List ℕ) (i : ℕ) (j : List B × S) → i < length ps → walk one (drop (i + 1) ps) (step_at one (get_or ps i 0) j) ≡ walk one (drop i ps) j
walk_on one ps i j h = sym (ap (λ l. walk one l j) (drop-cons ps i 0 h ∙ ap (λ n. get_or ps i 0 ∷ drop n ps) (sym (add-one i))))

-- ---- an entry more

-- what holds anyway holds at an error
pub on_err : {T E : Type 0} (P : Type 0) (r : Result T E) → P → OnErr r P
on_err P (Ok x) p = tt
on_err P (Err e) p = p

slice_seam : {A : Type 0} (xs : List A) (x : A) → slice_get (xs ++ x ∷ []) (length xs) ≡ Some x
slice_seam [] x = refl
slice_seam (y ∷ xs) x = slice_seam xs x

-- one step of a walk at the last item
step_last : {B S : Type 0} (one : B → S → B × S) (xs : List B) (x : B) (w : S) → step_at one (length xs) (xs ++ x ∷ [], w) ≡ (xs ++ (one x w).0 ∷ [], (one x w).1)
step_last one xs x w = rw (slice_seam xs x, set-append_seam xs x [] (one x w).0) refl

-- an entry that is pushed and exchanged at the end
pub entered_is : (es : List Entry) (e : Entry) (event : Noted) (seat : ℕ) (touched : List CellKey) (kept : Record cells) (w : State cells) (n : ℕ) → n ≡ length es
    → item_of e ≡ record { event = event; seat = seat; live = true; lasts = map (λ k. (k, (w k).1)) touched; kept = kept }
    → step_at (swap_item true) n (map item_of (es ++ e ∷ []), w) ≡ entered event seat touched kept (map item_of es, w)
entered_is es e event seat touched kept w n at is =
    let k : n ≡ length (map item_of es) = at ∙ sym (length-map es item_of) in
    ap₂ (λ i xs. step_at (swap_item true) i (xs, w)) k (map-append item_of es (e ∷ []))
    ∙ step_last (swap_item true) (map item_of es) (item_of e) w
    ∙ ap (λ i. (map item_of es ++ (swap_item true i w).0 ∷ [], (swap_item true i w).1)) is
