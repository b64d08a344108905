-- Two live neighbours of which neither wrote a cell that the other touched change places, and the book stands.
use Rattle.std.proofs.Common.{◌≡◌, ℕ, zero, suc, ◌+◌, ◌-◌, ◌<◌, Bool, true, false, List, [], ◌∷◌, ◌++◌, Option, Some, None, length, map, refl, sym, ap, ap₂, ◌∙◌, subst, arith}
use Rattle.std.specs.Prelude.{◌&&◌, ◌||◌, not, if◌then◌else◌}
use Rattle.std.specs.List.{AllByRecursion, slice_get}
use Rattle.std.specs.Option.{option_map}
use Rattle.std.proofs.Math.Logic.{∥∥₁_elim, ∥∥₁_prop}
use Rattle.std.proofs.lemmas.List.{length-map, length-reverse}
use Rattle.history.specs.Subject.{empty}
use Rattle.history.specs.Journal.{Free}
use Rattle.history.specs.Records.{State, Row, contents, entries_of}
use Rattle.history.specs.Chains.{HasCells}
use Rattle.history.proofs.Lists.{all_map, all_mapped, all_swap}
use Rattle.ids.specs.declared.names.EventName.{EventName}
use Rattle.world_cells.specs.Theory.{cells}
use Rattle.event.specs.Events.{DoesNoted, noted_events}
use Rattle.event.proofs.Law.{noted_laws}
use Rattle.journal.specs.Items.{Item, wrote_one_of, may_exchange, neighbours, exchanged}
use Rattle.journal.specs.Lines.{plain, Line, line_of, lines_of, in_order}
use Rattle.journal.specs.Standing.{ItemsStand, told, row_told}
use Rattle.journal.proofs.Exchanging.{lines_exchanged}
use Rattle.journal.proofs.Reversed.{all_unmapped}
use Rattle.causality.specs.Journals.{IsJournal}
use Rattle.causality.specs.Selections.{name_of}
use Rattle.causality.proofs.Facts.{entry_at, cells_items, wrote_meets}
use Rattle.causality.proofs.Telling.{journal_tells}
use Rattle.undo.specs.CoreView.{items_of, settled_of, state_of, shown}
use Rattle.undo.specs.Standing.{CoreStands}
use Rattle.undo.specs.declared.undoing.Core.{Core}
use Rattle.undo.proofs.Neighbours.{exchanges}
use Rattle.desk.specs.Desks.{Lent}
use Rattle.book_refusals.specs.Refusals.{first, refuse_where, dependent}
use Rattle.book_refusals.specs.Checks.{StoodAt, neighbours_by, settled_at, undone_neighbour, dependent_neighbour, placed_refusal, exchange_refusal}
use Rattle.book.specs.Calls.{Exchanges}
use Rattle.book.specs.Standing.{Kept, Stands}
use Rattle.book.proofs.Entering.{book_with, stands_same}
use Rattle.book.proofs.Sets.{Lines-set}

-- a list, the newest first, around the neighbours that have n behind them
record Between {A : Type 0} (n : ℕ) (rows : List A) : Type 0 where
  xs : List A
  a : A
  b : A
  ys : List A
  is : rows ≡ xs ++ a ∷ b ∷ ys
  behind : length ys ≡ n

between : {A : Type 0} (k n : ℕ) (rows : List A) → length rows ≡ k + (n + 2) → Between n rows
between zero n [] e = absurd (omega arith)
between zero n (a ∷ []) e = absurd (omega arith)
between zero n (a ∷ b ∷ ys) e = record { xs = []; a = a; b = b; ys = ys; is = refl; behind = omega arith }
between (suc k) n [] e = absurd (omega arith)
between (suc k) n (x ∷ rows) e =
    let w = between k n rows (omega arith) in
    record { xs = x ∷ w.xs; a = w.a; b = w.b; ys = w.ys; is = ap (λ l. x ∷ l) w.is; behind = w.behind }

-- where nothing refuses the neighbours for their place and marks, it is what they depend on that counts
full_is : (s p : ℕ) (a b : Option Line) → neighbours_by (λ x y. first (settled_at s p x) (undone_neighbour x y)) p a b ≡ None
    → neighbours_by (λ x y. first (first (settled_at s p x) (undone_neighbour x y)) (dependent_neighbour x y)) p a b ≡ neighbours_by dependent_neighbour p a b
full_is s p None b e = refl
full_is s p (Some a) None e = refl
full_is s p (Some a) (Some b) e = ap (λ o. first o (dependent_neighbour a b)) e

either_wrote : (x y : Bool) → (x || y) ≡ not (not x && not y)
either_wrote true y = refl
either_wrote false true = refl
either_wrote false false = refl

-- neighbours depend on one another just where the items may not change places
dependent_is : (all items : List Item) → AllByRecursion (λ i. HasCells plain (entry_at all i).foot i.lasts) items → (n p : ℕ) (e f : EventName)
    → option_map name_of (slice_get (map (line_of all) items) n) ≡ Some e → option_map name_of (slice_get (map (line_of all) items) (suc n)) ≡ Some f
    → neighbours_by dependent_neighbour p (slice_get (map (line_of all) items) n) (slice_get (map (line_of all) items) (suc n)) ≡ refuse_where (not (neighbours may_exchange n items)) (dependent e f)
dependent_is all [] h n p e f g k = cc
dependent_is all (i ∷ []) h zero p e f g k = cc
dependent_is all (i ∷ []) h (suc n) p e f g k = cc
dependent_is all (i ∷ j ∷ items) (h, (q, hs)) zero p e f g k =
    let first_is : i.event.name ≡ e = cc in
    let second_is : j.event.name ≡ f = cc in
    ap₂ refuse_where (ap₂ (λ x y. x || y) (wrote_meets all i j q) (wrote_meets all j i h) ∙ either_wrote (wrote_one_of i j) (wrote_one_of j i)) (ap₂ dependent first_is second_is)
dependent_is all (i ∷ j ∷ items) (h, hs) (suc n) p e f g k = dependent_is all (j ∷ items) hs n p e f g k

-- THE LEMMA: what refuses an exchange of neighbours that are live
pub refused_where : (items : List Item) → IsJournal items → (s position n : ℕ) → position ≡ n + 1 → (e f : EventName) → placed_refusal s (lines_of items) position ≡ None → StoodAt position (lines_of items) e f
    → exchange_refusal s (lines_of items) position ≡ refuse_where (not (neighbours may_exchange n items)) (dependent e f)
refused_where items journal s zero n is e f placed stood = absurd (omega arith)
refused_where items journal s (suc m) n is e f placed stood =
    let same : m ≡ n = omega arith in
    let at = stood m (omega arith) in
    let next : m + 1 ≡ suc m = omega arith in
    let behind : option_map name_of (slice_get (lines_of items) (suc m)) ≡ Some f = subst (λ k. option_map name_of (slice_get (lines_of items) k) ≡ Some f) next at.1 in
    full_is s (suc m) _ _ placed
    ∙ dependent_is items items (cells_items items (journal_tells items journal)) m (suc m) e f at.0 behind
    ∙ ap (λ k. refuse_where (not (neighbours may_exchange k items)) (dependent e f)) same

module _ (old new : Core) (next : ℕ) (out : List Lent) (n : ℕ) (there : n + 1 < length (items_of old)) (may : neighbours may_exchange n (items_of old) ≡ true)
    (is : shown new ≡ (exchanged n (items_of old), state_of old)) where
  items : items_of new ≡ exchanged n (items_of old)
  items = ap (λ (j : List Item × State cells). j.0) is

  module _ (rows : List (Row noted_events)) (h : CoreStands DoesNoted (empty noted_events) next rows old) where
    as_many : length rows ≡ length (items_of old)
    as_many = sym (length-map rows (row_told DoesNoted)) ∙ ap length h.shows ∙ length-reverse (map told (items_of old)) ∙ length-map (items_of old) told

    around : Between n rows
    around = between (length rows - (n + 2)) n rows (let e = as_many in omega arith)

    abbrev after : List (Row noted_events)
    after = around.xs ++ around.b ∷ around.a ∷ around.ys

    before : CoreStands DoesNoted (empty noted_events) next (around.xs ++ around.a ∷ around.b ∷ around.ys) old
    before = subst (λ rs. CoreStands DoesNoted (empty noted_events) next rs old) around.is h

    stood : CoreStands DoesNoted (empty noted_events) next after new
    stood = exchanges DoesNoted noted_laws (empty noted_events) next around.xs around.ys around.a around.b old new n before around.behind may is

    lines : lines_of (items_of new) ≡ map (in_order (exchanged n (lines_of (items_of old)))) (exchanged n (lines_of (items_of old)))
    lines = ap lines_of items ∙ lines_exchanged DoesNoted noted_laws around.xs around.a around.b around.ys n before
        (subst (λ its. ItemsStand DoesNoted (empty noted_events) next after its (state_of new)) items stood) around.behind

    still_free : (m : ℕ) → Free noted_events m (entries_of rows) → Free noted_events m (entries_of after)
    still_free m free = all_mapped (λ (p : Row noted_events). p.0) _ after
        (all_swap _ around.xs around.a around.b around.ys (all_unmapped (λ (p : Row noted_events). p.0) _ _ (subst (λ rs. Free noted_events m (entries_of rs)) around.is free)))

  kept : Kept old next out → Kept new next out
  kept k = record {
    rows = after k.rows k.stands;
    stands = stood k.rows k.stands;
    free = all_map _ _ out (λ t q. still_free k.rows k.stands t.number.0 q) k.free;
    drawn = k.drawn;
    apart = k.apart;
  }

  module _ (h : Stands old next out) where
    -- THE LEMMAS: the book stands, and the neighbours have changed places
    pub exchanged_stands : Stands new next out
    exchanged_stands = ∥∥₁_elim h ∥∥₁_prop (λ k. ∣ kept k ∣₁)

    pub book_exchanged : settled_of new ≡ settled_of old → (position : ℕ) → position ≡ n + 1 → Exchanges position (book_with old next out) (book_with new next out)
    book_exchanged many position at = record {
      places = λ m is_m. (let same : n ≡ m = omega arith in
          subst (λ k. lines_of (items_of new) ≡ map (in_order (exchanged k (lines_of (items_of old)))) (exchanged k (lines_of (items_of old)))) same
          (∥∥₁_elim h (Lines-set _ _) (λ k. lines k.rows k.stands)));
      same_world = ap (λ (j : List Item × State cells). contents cells j.1) is;
      same_settled = many;
      same_next = refl;
      same_out = refl;
    }

-- an exchange that was tried leaves a book that stands
pub tried_stands : (old new : Core) (next : ℕ) (out : List Lent) (n : ℕ) → n + 1 < length (items_of old) → (b : Bool) → b ≡ neighbours may_exchange n (items_of old)
    → shown new ≡ (if b then exchanged n (items_of old) else items_of old, state_of old) → Stands old next out → Stands new next out
tried_stands old new next out n there true may is h = exchanged_stands old new next out n there (sym may) is h
tried_stands old new next out n there false may is h = stands_same old new next out is h
