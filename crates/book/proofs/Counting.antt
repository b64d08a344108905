-- One exchange for each cell that the lines wrote.
use Rattle.std.proofs.Common.{◌≡◌, ℕ, ◌+◌, ◌%◌, ◌^◌, suc, Bool, true, false, cond, List, [], ◌∷◌, ◌++◌, map, length, drop, refl, sym, ap, ap₂, ◌∙◌, append_assoc, arith}
use Rattle.std.specs.List.{filter}
use Rattle.std.proofs.lemmas.List.{length-append, length-map}
use Rattle.std.proofs.lemmas.List.Sums.{sum-map, sum_by-cons}
use Rattle.history.specs.Records.{State, Record, hold, swap_record}
use Rattle.ids.specs.declared.names.EventName.{EventName}
use Rattle.ids.specs.declared.cells.CellKey.{CellKey}
use Rattle.world_cells.specs.Events.{Noted}
use Rattle.world_cells.specs.Theory.{cells}
use Rattle.world_cells.specs.View.{RisesBy}
use Rattle.journal.specs.Items.{Item, keys_at, key_count, records_at, swap_item, entered}
use Rattle.journal.specs.Lines.{Line, line_of, lines_of}
use Rattle.causality.specs.Selections.{chosen, places_from}
use Rattle.undo.specs.CoreView.{items_of, state_of, shown}
use Rattle.undo.specs.declared.undoing.Core.{Core}
use Rattle.undo.proofs.Behind.{keys_behind}
use Rattle.book.specs.Counting.{written_in}

-- how many cells a line wrote
abbrev wrote : Line → ℕ
wrote l = length l.entry.foot.writes

-- as many as its item has records
wrote_kept : (all : List Item) (y : Item) → wrote (line_of all y) ≡ length y.kept
wrote_kept all y = length-map {B = CellKey × Unit {0}} y.kept (λ r. (r.0, tt))

-- what a line and others wrote
first_and_rest : (l : Line) (others : List Line) → written_in (l ∷ others) ≡ wrote l + written_in others
first_and_rest l others = sum-map wrote (l ∷ others) ∙ sum_by-cons wrote l others ∙ ap (λ n. wrote l + n) (sym (sum-map wrote others))

-- one line more, if it is of the set
one_more : (items : List Item) (n : ℕ) (l : Line) (rest : List ℕ) (others : List Line) → records_at items (n ∷ []) ≡ wrote l → records_at items rest ≡ written_in others
    → (b : Bool) → records_at items (cond b (n ∷ rest) rest) ≡ written_in (cond b (l ∷ others) others)
one_more items n l rest others here behind true =
    let both : key_count (keys_at items n) + records_at items rest ≡ wrote l + written_in others = omega (arith, here, behind) in
    both ∙ sym (first_and_rest l others)
one_more items n l rest others here behind false = behind

module _ (all : List Item) (names : List EventName) where
  records_wrote : (ss ys : List Item) (y : Item) (n : ℕ) → n ≡ length ss → records_at (ss ++ y ∷ ys) (n ∷ []) ≡ wrote (line_of all y)
  records_wrote ss ys y n is =
      let at : n ≡ length ss + 0 = omega (arith, is) in
      let keys : key_count (keys_at (ss ++ y ∷ ys) n) ≡ length (map (λ (r : CellKey × _). r.0) y.kept) = ap key_count (keys_behind ss (y ∷ ys) n 0 at) in
      omega (arith, keys, length-map y.kept (λ (r : CellKey × _). r.0), wrote_kept all y)

  records_from : (ss ys : List Item) (n : ℕ) → n ≡ length ss → records_at (ss ++ ys) (places_from n names (map (line_of all) ys)) ≡ written_in (filter (chosen names) (map (line_of all) ys))
  records_from ss [] n is = refl
  records_from ss (y ∷ ys) n is =
      let rest = places_from (n + 1) names (map (line_of all) ys) in
      let next : n + 1 ≡ length (ss ++ y ∷ []) = sym (length-append ss (y ∷ []) ∙ ap (λ k. k + 1) (sym is)) in
      one_more (ss ++ y ∷ ys) n (line_of all y) rest (filter (chosen names) (map (line_of all) ys)) (records_wrote ss ys y n is)
      (ap (λ l. records_at l rest) (sym (append_assoc ss (y ∷ []) ys)) ∙ records_from (ss ++ y ∷ []) ys (n + 1) next) (chosen names (line_of all y))

-- the records at the places of a set are the cells that its lines wrote
pub records_chosen : (names : List EventName) (items : List Item) → records_at items (places_from 0 names (lines_of items)) ≡ written_in (filter (chosen names) (lines_of items))
records_chosen names items = records_from items names [] items 0 refl

-- an exchange keeps the length of a record
swapped_length : (r : Record cells) (w : State cells) → length (swap_record cells r w) ≡ length r
swapped_length [] w = refl
swapped_length (p ∷ ps) w = ap suc (swapped_length ps (hold cells w p.0 p.1))

-- what stands behind the lines before
last_alone : (f g : Item → Line) (xs : List Item) (y : Item) → drop (length (map g xs)) (map f (xs ++ y ∷ [])) ≡ f y ∷ []
last_alone f g [] y = refl
last_alone f g (x ∷ xs) y = last_alone f g xs y

-- an item more wrote as many cells as it has records
added_wrote : (items : List Item) (y : Item) → written_in (drop (length (lines_of items)) (lines_of (items ++ y ∷ []))) ≡ length y.kept
added_wrote items y =
    let alone = ap written_in (last_alone (line_of (items ++ y ∷ [])) (line_of items) items y) in
    omega (arith, alone, wrote_kept (items ++ y ∷ []) y)

entered_wrote : (old now : Core) (e : Noted) (seat : ℕ) (touched : List CellKey) (kept : Record cells) → shown now ≡ entered e seat touched kept (shown old)
    → written_in (drop (length (lines_of (items_of old))) (lines_of (items_of now))) ≡ length kept
entered_wrote old now e seat touched kept is =
    ap (λ (j : List Item × State cells). written_in (drop (length (lines_of (items_of old))) (lines_of j.0))) is
    ∙ added_wrote (items_of old) (swap_item true (record { event = e; seat = seat; live = true; lasts = map (λ k. (k, (state_of old k).1)) touched; kept = kept }) (state_of old)).0
    ∙ swapped_length kept (state_of old)

-- so the count rises by these
pub entered_counts : (old now : Core) (e : Noted) (seat : ℕ) (touched : List CellKey) (kept : Record cells) (n s t : ℕ) → shown now ≡ entered e seat touched kept (shown old)
    → n ≡ length kept → RisesBy n s t → RisesBy (written_in (drop (length (lines_of (items_of old))) (lines_of (items_of now)))) s t
entered_counts old now e seat touched kept n s t is many h = h ∙ ap (λ k. (s + k) % 2 ^ 64) (many ∙ sym (entered_wrote old now e seat touched kept is))

-- where the lines and the count before were the same
pub counts_from : (before lines now : List Line) (r s t : ℕ) → lines ≡ before → s ≡ r → RisesBy (written_in (drop (length lines) now)) s t → RisesBy (written_in (drop (length before) now)) r t
counts_from before lines now r s t same count h = h ∙ ap₂ (λ k (l : List Line). (k + written_in (drop (length l) now)) % 2 ^ 64) count same
