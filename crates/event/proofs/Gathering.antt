-- Lists that are gathered in order, one item after another.
use Rattle.std.proofs.Common.{◌≡◌, ℕ, ◌+◌, ◌<◌, ◌≤◌, List, [], ◌∷◌, ◌++◌, length, get_or, map, take, take_all, Some, slice_get, refl, sym, ap, ap₂, ◌∙◌, append_assoc, append-nil}
use Rattle.std.proofs.lemmas.List.{take_more, map-append}
use Rattle.std.proofs.lemmas.Option.{slice_get_within, get_or_from_slice_get}
use Rattle.ids.specs.declared.names.EventName.{EventName}
use Rattle.ids.specs.declared.names.VatNo.{VatNo}
use Rattle.ids.specs.declared.cells.CellKey.{CellKey}
use Rattle.history.specs.Records.{Record}
use Rattle.heap.specs.State as heap
use Rattle.heap.specs.State.{Cell}
use Rattle.cells.specs.declared.touches.Touch.{Touch}
use Rattle.world_cells.specs.Theory.{cells}
use Rattle.event.specs.Entries.{Entry, entry_in, entries_in, keys_in, left_at, left_in, kept_left, kept_at}

-- the items up to a place, with the next one
take_next : {X : Type 0} (xs : List X) (i : ℕ) (x : X) → slice_get xs i ≡ Some x → take (i + 1) xs ≡ take i xs ++ x ∷ []
take_next xs i x h = take_more xs i x (slice_get_within xs i x h) ∙ ap (λ y. take i xs ++ y ∷ []) (get_or_from_slice_get xs i x x h)

module _ {X Y : Type 0} (F : List X → List Y) (g : X → List Y) (grows : (xs : List X) (x : X) → F (xs ++ x ∷ []) ≡ F xs ++ g x) where
  -- what was gathered up to a place, and what the next item adds
  gathered : (xs : List X) (i : ℕ) (x : X) (base done more : List Y) → slice_get xs i ≡ Some x → done ≡ base ++ F (take i xs) → more ≡ done ++ g x → more ≡ base ++ F (take (i + 1) xs)
  gathered xs i x base done more h e m =
      m ∙ ap (λ l. l ++ g x) e ∙ append_assoc base (F (take i xs)) (g x) ∙ ap (λ l. base ++ l) (sym (grows (take i xs) x)) ∙ ap (λ l. base ++ F l) (sym (take_next xs i x h))

-- what two lists leave
pub left_both : (xs ys : List Entry) → left_in (xs ++ ys) ≡ left_in xs ++ left_in ys
left_both [] ys = refl
left_both (x ∷ xs) ys = ap (λ l. left_at x.0 x.1 ++ l) (left_both xs ys) ∙ sym (append_assoc (left_at x.0 x.1) (left_in xs) (left_in ys))

-- and the records of it
pub kept_both : (e : EventName) (v : VatNo) (xs ys : List (Cell × heap.Content)) → kept_left e v (xs ++ ys) ≡ kept_left e v xs ++ kept_left e v ys
kept_both e v [] ys = refl
kept_both e v (x ∷ xs) ys = ap (λ l. kept_at e v x.0 x.1 ∷ l) (kept_both e v xs ys)

module _ {K V : Type 0} (cell : K → Cell) (content : V → heap.Content) where
  -- the keys of one more cell
  pub keys_next : (v : VatNo) (es : List (K × Touch V)) (i : ℕ) (e : K × Touch V) (base done more : List CellKey) (k : CellKey) → slice_get es i ≡ Some e → done ≡ base ++ keys_in v (entries_in cell content (take i es)) → more ≡ done ++ k ∷ []
      → keys_in v (entry_in cell content e ∷ []) ≡ k ∷ [] → more ≡ base ++ keys_in v (entries_in cell content (take (i + 1) es))
  keys_next v es i e base done more k h d m is =
      gathered (λ xs. keys_in v (entries_in cell content xs)) (λ x. keys_in v (entry_in cell content x ∷ [])) (λ xs x. ap (keys_in v) (map-append (entry_in cell content) xs (x ∷ [])) ∙ map-append _ (entries_in cell content xs) (entries_in cell content (x ∷ []))) es i e base done more h d (m ∙ ap (λ l. done ++ l) (sym is))

  -- the records of one more cell
  pub kept_next : (e : EventName) (v : VatNo) (es : List (K × Touch V)) (i : ℕ) (x : K × Touch V) (base done more : Record cells) → slice_get es i ≡ Some x → done ≡ base ++ kept_left e v (left_in (entries_in cell content (take i es)))
      → more ≡ done ++ kept_left e v (left_at (entry_in cell content x).0 (entry_in cell content x).1) → more ≡ base ++ kept_left e v (left_in (entries_in cell content (take (i + 1) es)))
  kept_next e v es i x base done more h d m =
      gathered (λ xs. kept_left e v (left_in (entries_in cell content xs))) (λ x. kept_left e v (left_at (entry_in cell content x).0 (entry_in cell content x).1))
      (λ xs x. ap (λ l. kept_left e v (left_in l)) (map-append (entry_in cell content) xs (x ∷ [])) ∙ ap (kept_left e v) (left_both (entries_in cell content xs) (entries_in cell content (x ∷ [])) ∙ ap (λ l. left_in (entries_in cell content xs) ++ l) (append-nil (left_at (entry_in cell content x).0 (entry_in cell content x).1))) ∙ kept_both e v (left_in (entries_in cell content xs)) _)
      es i x base done more h d m

-- what was added in front of the rest is what all parts leave
pub kept_more : (e : EventName) (v : VatNo) (xs ys : List Entry) → kept_left e v (left_in (xs ++ ys)) ≡ kept_left e v (left_in xs) ++ kept_left e v (left_in ys)
kept_more e v xs ys = ap (kept_left e v) (left_both xs ys) ∙ kept_both e v (left_in xs) (left_in ys)

-- a part that was added, and then the rest
pub kept_then : (e : EventName) (v : VatNo) (xs ys : List Entry) (start one end : Record cells) → one ≡ start ++ kept_left e v (left_in xs) → end ≡ one ++ kept_left e v (left_in ys) → end ≡ start ++ kept_left e v (left_in (xs ++ ys))
kept_then e v xs ys start one end h g =
    g ∙ ap (λ l. l ++ kept_left e v (left_in ys)) h ∙ append_assoc start (kept_left e v (left_in xs)) (kept_left e v (left_in ys))
    ∙ ap (λ l. start ++ l) (sym (kept_more e v xs ys))

-- the same of keys
pub keys_then : (v : VatNo) (xs ys : List Entry) (start one end : List CellKey) → one ≡ start ++ keys_in v xs → end ≡ one ++ keys_in v ys → end ≡ start ++ keys_in v (xs ++ ys)
keys_then v xs ys start one end h g =
    g ∙ ap (λ l. l ++ keys_in v ys) h ∙ append_assoc start (keys_in v xs) (keys_in v ys) ∙ ap (λ l. start ++ l) (sym (map-append _ xs ys))

-- ---- lists that grow item by item in a loop

-- one more item, and what it is mapped to
pub mapped_next : {X Y : Type 0} (f : X → Y) (xs : List X) (i : ℕ) (x : X) (base done more : List Y) (y : Y) → i < length xs → x ≡ get_or xs i x → done ≡ base ++ map f (take i xs) → more ≡ done ++ y ∷ [] → y ≡ f x
    → more ≡ base ++ map f (take (i + 1) xs)
mapped_next f xs i x base done more y h is d m e =
    m ∙ ap₂ (λ a b. a ++ b ∷ []) d (e ∙ ap f is) ∙ append_assoc base (map f (take i xs)) (f (get_or xs i x) ∷ [])
    ∙ ap (λ l. base ++ l) (sym (map-append f (take i xs) (get_or xs i x ∷ [])) ∙ ap (map f) (sym (take_more xs i x h)))

pub mapped_last : {X Y : Type 0} (f : X → Y) (xs : List X) (i : ℕ) (base done : List Y) → length xs ≤ i → done ≡ base ++ map f (take i xs) → done ≡ base ++ map f xs
mapped_last f xs i base done h d = d ∙ ap (λ l. base ++ map f l) (take_all i xs h)

-- the same where an item is known by its place
pub mapped_at : {X Y : Type 0} (f : X → Y) (xs : List X) (i : ℕ) (x : X) (base done more : List Y) (y : Y) → slice_get xs i ≡ Some x → done ≡ base ++ map f (take i xs) → more ≡ done ++ y ∷ [] → y ≡ f x
    → more ≡ base ++ map f (take (i + 1) xs)
mapped_at f xs i x base done more y h d m e =
    m ∙ ap₂ (λ a b. a ++ b ∷ []) d e ∙ append_assoc base (map f (take i xs)) (f x ∷ []) ∙ ap (λ l. base ++ l) (sym (map-append f (take i xs) (x ∷ [])) ∙ ap (map f) (sym (take_next xs i x h)))
