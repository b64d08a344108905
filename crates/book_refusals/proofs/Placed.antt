-- The lines at a position of a journal and behind it.
use Rattle.std.proofs.Common.{◌≡◌, ℕ, zero, suc, ◌+◌, ◌-◌, ◌<◌, ◌≤◌, Bool, true, false, cond, List, [], ◌∷◌, ◌++◌, Option, Some, None, get_or, length, map, take, refl, sym, ap, ap₂, ◌∙◌, arith}
use Rattle.std.specs.Prelude.{not, nat_le}
use Rattle.std.specs.List.{slice_get, AllByRecursion}
use Rattle.std.specs.Option.{option_map, option_or}
use Rattle.std.proofs.lemmas.Bool.{leb-true, le-leb}
use Rattle.std.proofs.lemmas.List.{length-append, length-map}
use Rattle.std.proofs.lemmas.Option.{slice_get-map}
use Rattle.ids.specs.declared.names.EventName.{EventName}
use Rattle.journal.specs.Items.{Item, item_of}
use Rattle.journal.specs.Journals.{items_of, settled_item}
use Rattle.journal.specs.Lines.{Line, line_of, lines_of}
use Rattle.journal.specs.declared.entry.Entry.{Entry}
use Rattle.journal.specs.declared.journal.Journal.{Journal}
use Rattle.journal.proofs.Settling.{item_behind}
use Rattle.causality.specs.Selections.{name_of, is_live}
use Rattle.causality.specs.Walks.{first_item}
use Rattle.causality.proofs.Behind.{settled_live}
use Rattle.causality.proofs.Firsts.{some_past}
use Rattle.book_refusals.specs.Refusals.{Refusal, first, refuse_where, not_live, is_settled, no_position}
use Rattle.book_refusals.specs.Checks.{StoodAt, neighbours_by, undone_neighbour, settled_at, placed_refusal, first_undone, settle_refusal_by, settle_refusal}

-- the first of two neighbours is undone, or the second is, or neither
pub undone_first : (a b : Line) → is_live a ≡ false → undone_neighbour a b ≡ Some (not_live (name_of a))
undone_first a b h = ap (λ l. first (refuse_where (not l) (not_live (name_of a))) (refuse_where (not (is_live b)) (not_live (name_of b)))) h

pub undone_second : (a b : Line) → is_live a ≡ true → is_live b ≡ false → undone_neighbour a b ≡ Some (not_live (name_of b))
undone_second a b h g = ap₂ (λ l m. first (refuse_where (not l) (not_live (name_of a))) (refuse_where (not m) (not_live (name_of b)))) h g

pub undone_neither : (a b : Line) → is_live a ≡ true → is_live b ≡ true → undone_neighbour a b ≡ None
undone_neither a b h g = ap₂ (λ l m. first (refuse_where (not l) (not_live (name_of a))) (refuse_where (not m) (not_live (name_of b)))) h g

none_at : {A : Type 0} (xs : List A) (n : ℕ) → length xs ≤ n → slice_get xs n ≡ None
none_at [] n h = refl
none_at (x ∷ xs) zero h = absurd (omega arith)
none_at (x ∷ xs) (suc n) h = none_at xs n (omega arith)

some_at : {A : Type 0} (xs : List A) (n : ℕ) → n < length xs → (x : A) × (slice_get xs n ≡ Some x)
some_at [] n h = absurd (omega arith)
some_at (x ∷ xs) zero h = (x, refl)
some_at (x ∷ xs) (suc n) h = some_at xs n (omega arith)

lines_length : (items : List Item) → length (lines_of items) ≡ length items
lines_length items = length-map items (line_of items)

-- no entry is there, or none behind
pub no_place : (n position : ℕ) (items : List Item) → length items < position → placed_refusal n (lines_of items) position ≡ Some (no_position position)
no_place n zero items h = absurd (omega arith)
no_place n (suc p) items h =
    ap (λ o. neighbours_by (λ a b. first (settled_at n (suc p) a) (undone_neighbour a b)) (suc p) o (slice_get (lines_of items) (suc p)))
    (none_at (lines_of items) p (let m = lines_length items in omega (arith, m, h)))

pub no_place_behind : (n position : ℕ) (items : List Item) → 0 < position → position ≡ length items → placed_refusal n (lines_of items) position ≡ Some (no_position (position + 1))
no_place_behind n zero items h e = absurd (omega arith)
no_place_behind n (suc p) items h e =
    let m = lines_length items in
    let here = some_at (lines_of items) p (omega (arith, m, e)) in
    ap₂ (neighbours_by (λ a b. first (settled_at n (suc p) a) (undone_neighbour a b)) (suc p)) here.1 (none_at (lines_of items) (suc p) (omega (arith, m, e)))

-- the line of an item that is there
line_there : (items : List Item) (n : ℕ) (i : Item) → slice_get items n ≡ Some i → slice_get (lines_of items) n ≡ Some (line_of items i)
line_there items n i h = slice_get-map (line_of items) items n ∙ ap (option_map (line_of items)) h

settled_is : (n position : ℕ) (l : Line) → position ≤ n → settled_at n position l ≡ Some (is_settled (name_of l))
settled_is n position l h = ap (λ b. refuse_where b (is_settled (name_of l))) (le-leb position n h)

open_is : (n position : ℕ) (l : Line) → n < position → settled_at n position l ≡ None
open_is n position l h = ap (λ b. refuse_where b (is_settled (name_of l))) (by (nat_le position n) refl)
  where
    by : (b : Bool) → nat_le position n ≡ b → b ≡ false
    by true e = absurd (omega (arith, h, leb-true position n e))
    by false e = refl

-- the one that is named is settled
pub placed_settled : (n position : ℕ) (items : List Item) (e : EventName) → 0 < position → position < length items → position ≤ n → slice_get (map (λ i. i.event.name) items) (position - 1) ≡ Some e
    → placed_refusal n (lines_of items) position ≡ Some (is_settled e)
placed_settled n zero items e h there within name = absurd (omega arith)
placed_settled n (suc p) items e h there within name =
    let m = lines_length items in
    let same : suc p - 1 ≡ p = omega arith in
    let here = some_at items p (omega arith) in
    let behind = some_at (lines_of items) (suc p) (omega (arith, m, there)) in
    let named : here.0.event.name ≡ e = one_name here.0 (sym (ap (λ k. slice_get (map (λ (i : Item). i.event.name) items) k) same ∙ slice_get-map (λ (i : Item). i.event.name) items p ∙ ap (option_map (λ (i : Item). i.event.name)) here.1) ∙ name) in
    ap₂ (neighbours_by (λ a b. first (settled_at n (suc p) a) (undone_neighbour a b)) (suc p)) (line_there items p here.0 here.1) behind.1
    ∙ ap (λ o. first o (undone_neighbour (line_of items here.0) behind.0)) (settled_is n (suc p) (line_of items here.0) within)
    ∙ ap (λ (x : EventName). let o : Option Refusal = Some (is_settled x) in o) named
  where
    one_name : (i : Item) → Some i.event.name ≡ Some e → i.event.name ≡ e
    one_name i g = cc

-- there are as many entries as are settled, and those behind them
pub items_length : (j : Journal) → length (items_of j) ≡ length j.settled.now + length j.entries.now
items_length j = length-append (map settled_item j.settled.now) (map item_of j.entries.now) ∙ ap₂ (λ a b. a + b) (length-map j.settled.now settled_item) (length-map j.entries.now item_of)

-- two entries that are there and not settled
module _ (j : Journal) (position : ℕ) (d e : Entry) (behind : length j.settled.now < position) (within : position < length (items_of j)) where
  abbrev pub before_it : Entry
  before_it = get_or j.entries.now (position - length j.settled.now - 1) d

  abbrev pub behind_it : Entry
  behind_it = get_or j.entries.now (position - length j.settled.now) e

  abbrev pub line : Entry → Line
  line x = line_of (items_of j) (item_of x)

  many : length (items_of j) ≡ length j.settled.now + length j.entries.now
  many = items_length j

  here : (p : ℕ) → position ≡ suc p → slice_get (lines_of (items_of j)) p ≡ Some (line before_it)
  here p is = line_there (items_of j) p (item_of before_it)
      (item_behind j.settled.now j.entries.now p (position - length j.settled.now - 1) d (omega (arith, is, behind)) (omega (arith, is, behind, within, many)))

  there : (p : ℕ) → position ≡ p → slice_get (lines_of (items_of j)) p ≡ Some (line behind_it)
  there p is = line_there (items_of j) p (item_of behind_it)
      (item_behind j.settled.now j.entries.now p (position - length j.settled.now) e (omega (arith, is, behind)) (omega (arith, is, behind, within, many)))

  pub placed_is : placed_refusal (length j.settled.now) (lines_of (items_of j)) position ≡ undone_neighbour (line before_it) (line behind_it)
  placed_is = by position refl
    where
      by : (k : ℕ) → position ≡ k → placed_refusal (length j.settled.now) (lines_of (items_of j)) k ≡ undone_neighbour (line before_it) (line behind_it)
      by zero is = absurd (omega (arith, is, behind))
      by (suc p) is =
          ap₂ (neighbours_by (λ a b. first (settled_at (length j.settled.now) (suc p) a) (undone_neighbour a b)) (suc p)) (here p is) (there (suc p) is)
          ∙ ap (λ o. first o (undone_neighbour (line before_it) (line behind_it))) (open_is (length j.settled.now) (suc p) (line before_it) (omega (arith, is, behind)))

  pub stood_at : StoodAt position (lines_of (items_of j)) before_it.event.name behind_it.event.name
  stood_at n at = (ap (option_map name_of) (here n (omega (arith, at))), ap (option_map name_of) (there (n + 1) at))

-- ---- settling

pub nothing_settles : (n position : ℕ) (items : List Item) → length items < position → settle_refusal n (lines_of items) position ≡ Some (no_position position)
nothing_settles n zero items h = absurd (omega arith)
nothing_settles n (suc p) items h = ap (settle_refusal_by n (lines_of items) (suc p)) (none_at (lines_of items) p (let m = lines_length items in omega (arith, m, h)))

pub settles_settled : (n position : ℕ) (items : List Item) (e : EventName) → 0 < position → position ≤ length items → position ≤ n → slice_get (map (λ i. i.event.name) items) (position - 1) ≡ Some e
    → settle_refusal n (lines_of items) position ≡ Some (is_settled e)
settles_settled n zero items e h there within name = absurd (omega arith)
settles_settled n (suc p) items e h there within name =
    let same : suc p - 1 ≡ p = omega arith in
    let here = some_at items p (omega arith) in
    let named : here.0.event.name ≡ e = one_name here.0 (sym (ap (λ k. slice_get (map (λ (i : Item). i.event.name) items) k) same ∙ slice_get-map (λ (i : Item). i.event.name) items p ∙ ap (option_map (λ (i : Item). i.event.name)) here.1) ∙ name) in
    ap (settle_refusal_by n (lines_of items) (suc p)) (line_there items p here.0 here.1)
    ∙ ap (λ o. first o (option_map not_live (first_undone (take (suc p) (lines_of items))))) (settled_is n (suc p) (line_of items here.0) within)
    ∙ ap (λ (x : EventName). let o : Option Refusal = Some (is_settled x) in o) named
  where
    one_name : (i : Item) → Some i.event.name ≡ Some e → i.event.name ≡ e
    one_name i g = cc

-- the first that is undone stands behind what is settled
undone_lines : (all items : List Item) → first_undone (map (line_of all) items) ≡ first_item (λ i. not i.live) items
undone_lines all [] = refl
undone_lines all (i ∷ items) = ap (option_or (cond (not i.live) (Some i.event.name) None)) (undone_lines all items)

map_taken : {A B : Type 0} (f : A → B) (n : ℕ) (xs : List A) → take n (map f xs) ≡ map f (take n xs)
map_taken f zero xs = refl
map_taken f (suc n) [] = refl
map_taken f (suc n) (x ∷ xs) = ap (λ l. f x ∷ l) (map_taken f n xs)

take_behind : {A : Type 0} (xs ys : List A) (n : ℕ) → take (length xs + n) (xs ++ ys) ≡ xs ++ take n ys
take_behind [] ys n = let e : 0 + n ≡ n = omega arith in ap (λ k. take k ys) e
take_behind (x ∷ xs) ys n = let e : length (x ∷ xs) + n ≡ suc (length xs + n) = omega arith in ap (λ k. take k (x ∷ (xs ++ ys))) e ∙ ap (λ l. x ∷ l) (take_behind xs ys n)

settled_first : (ss ys : List Item) → AllByRecursion (λ i. i.live ≡ true) ss → first_item (λ i. not i.live) (ss ++ ys) ≡ first_item (λ i. not i.live) ys
settled_first ss ys live = some_past (λ (i : Item). cond (not i.live) (Some i.event.name) None) ss ys (none ss live)
  where
    none : (is : List Item) → AllByRecursion (λ i. i.live ≡ true) is → AllByRecursion (λ (i : Item). cond (not i.live) (Some i.event.name) None ≡ None) is
    none [] h = tt
    none (i ∷ is) (h, hs) = (ap (λ b. cond (not b) (Some i.event.name) None) h, none is hs)

-- what refuses that entries behind the settled ones are settled
pub settles_open : (j : Journal) (position count : ℕ) → position ≡ length j.settled.now + count → 0 < count → count ≤ length j.entries.now
    → settle_refusal (length j.settled.now) (lines_of (items_of j)) position ≡ option_map not_live (first_item (λ i. not i.live) (map item_of (take count j.entries.now)))
settles_open j zero count is some few = absurd (omega arith)
settles_open j (suc p) count is some few =
    let ss = map settled_item j.settled.now in
    let ys = map item_of j.entries.now in
    let m : length ss ≡ length j.settled.now = length-map j.settled.now settled_item in
    let k : length ys ≡ length j.entries.now = length-map j.entries.now item_of in
    let all = length-append ss ys in
    let here = some_at (items_of j) p (omega (arith, is, few, m, k, all)) in
    let long : suc p ≡ length ss + count = omega (arith, is, m) in
    let undone : first_undone (take (suc p) (lines_of (items_of j))) ≡ first_item (λ i. not i.live) (map item_of (take count j.entries.now)) =
    ap first_undone (map_taken (line_of (items_of j)) (suc p) (items_of j)) ∙ undone_lines (items_of j) (take (suc p) (items_of j))
    ∙ ap (first_item (λ i. not i.live)) (ap (λ n. take n (items_of j)) long ∙ take_behind ss ys count)
    ∙ settled_first ss (take count ys) (settled_live j.settled.now) ∙ ap (first_item (λ i. not i.live)) (map_taken item_of count j.entries.now) in
    ap (settle_refusal_by (length j.settled.now) (lines_of (items_of j)) (suc p)) (line_there (items_of j) p here.0 here.1)
    ∙ ap (λ o. first o (option_map not_live (first_undone (take (suc p) (lines_of (items_of j)))))) (open_is (length j.settled.now) (suc p) (line_of (items_of j) here.0) (omega (arith, is, some)))
    ∙ ap (option_map not_live) undone

-- where none of them is undone they are live
pub all_live : (n : ℕ) (xs : List Entry) → first_item (λ i. not i.live) (map item_of (take n xs)) ≡ None → AllByRecursion (λ i. i.live ≡ true) (take n (map item_of xs))
all_live zero xs h = tt
all_live (suc n) [] h = tt
all_live (suc n) (x ∷ xs) h = by (item_of x).live refl h (all_live n xs)
  where
    by : (b : Bool) → (item_of x).live ≡ b → option_or (cond (not b) (Some x.event.name) None) (first_item (λ i. not i.live) (map item_of (take n xs))) ≡ None
        → (first_item (λ i. not i.live) (map item_of (take n xs)) ≡ None → AllByRecursion (λ i. i.live ≡ true) (take n (map item_of xs)))
        → ((item_of x).live ≡ true) × AllByRecursion (λ i. i.live ≡ true) (take n (map item_of xs))
    by true is g rest = (is, rest g)
    by false is g rest = cc
