-- The cells of which entries have records: how they are gathered, and that a walk changes no other ones.
use Rattle.std.proofs.Common.{◌≡◌, ℕ, zero, suc, ◌<◌, ◌+◌, Bool, true, false, ◌||◌, cond, List, [], ◌∷◌, ◌++◌, Option, Some, None, length, take, get_or, set, map, reverse, unwrap_or, refl, sym, ap, ap₂, ◌∙◌, append_assoc}
use Rattle.std.specs.List.{list_any, slice_get}
use Rattle.std.specs.Option.{option_map, option_map_or}
use Rattle.std.proofs.lemmas.Bool.{or_parts, false≢true, false_from_ne_true}
use Rattle.std.proofs.lemmas.List.{append-nil, take_more, map-append, reverse-append}
use Rattle.std.proofs.lemmas.List.Folds.{list_any-append}
use Rattle.std.proofs.lemmas.Option.{same_Some}
use Rattle.history.specs.Walks.{step_at, walk}
use Rattle.history.specs.Records.{State, Record, hold, swap_state}
use Rattle.ids.specs.CellKeys.{same_key}
use Rattle.ids.proofs.CellKeys.{same_exact, same_self}
use Rattle.ids.specs.declared.cells.CellKey.{CellKey}
use Rattle.world_cells.specs.Theory.{cells, kept_of, kepts_of}
use Rattle.world_cells.specs.declared.record.CellRecord.{CellRecord}
use Rattle.journal.specs.Items.{Item, item_of, keys_at, swap_item}
use Rattle.journal.specs.declared.entry.Entry.{Entry}
use Rattle.undo.specs.Written.{written_at}
use Rattle.undo.proofs.Entries.{get-map, keys_after}

-- ---- how they are gathered

abbrev first_keys : List CellRecord → List CellKey
first_keys xs = map (λ r. r.0) (kepts_of xs)

-- the cell of one record more
pub keys_more : (xs : List CellRecord) (i : ℕ) (d : CellRecord) (k : CellKey) (first before after : List CellKey) → i < length xs → d ≡ get_or xs i d → k ≡ (kept_of d).0
    → before ≡ first ++ map (λ r. r.0) (kepts_of (take i xs)) → after ≡ before ++ k ∷ [] → after ≡ first ++ map (λ r. r.0) (kepts_of (take (i + 1) xs))
keys_more xs i d k first before after h at is was now =
    now ∙ ap (λ l. l ++ k ∷ []) was ∙ append_assoc first (first_keys (take i xs)) (k ∷ [])
    ∙ ap (λ l. first ++ l) (ap (λ x. first_keys (take i xs) ++ x ∷ []) (is ∙ ap (λ r. (kept_of r).0) at) ∙ mapped)
  where
    mapped : first_keys (take i xs) ++ (kept_of (get_or xs i d)).0 ∷ [] ≡ first_keys (take (i + 1) xs)
    mapped = sym (ap first_keys (take_more xs i d h)
        ∙ ap (λ (l : Record cells). map (λ r. r.0) l) (map-append kept_of (take i xs) (get_or xs i d ∷ []))
        ∙ map-append (λ (r : CellKey × _). r.0) (kepts_of (take i xs)) (kept_of (get_or xs i d) ∷ []))

written_append : (items : List Item) (ps qs : List ℕ) → written_at items (ps ++ qs) ≡ written_at items ps ++ written_at items qs
written_append items [] qs = refl
written_append items (p ∷ ps) qs = ap (λ l. unwrap_or (keys_at items p) [] ++ l) (written_append items ps qs) ∙ sym (append_assoc (unwrap_or (keys_at items p) []) (written_at items ps) (written_at items qs))

-- those of the first positions, and of one more
pub written_more : (items : List Item) (ps : List ℕ) (i : ℕ) (ks : List CellKey) → i < length ps → keys_at items (get_or ps i 0) ≡ Some ks → written_at items (take i ps) ++ ks ≡ written_at items (take (i + 1) ps)
written_more items ps i ks h e =
    sym (ap (written_at items) (take_more ps i 0 h)
    ∙ written_append items (take i ps) (get_or ps i 0 ∷ [])
    ∙ ap (λ l. written_at items (take i ps) ++ l) (ap (λ (o : Option (List CellKey)). unwrap_or o [] ++ []) e ∙ append-nil ks))

-- those of an entry
pub keys_there : (xs : List Entry) (i : ℕ) (d : Entry) → i < length xs → keys_at (map item_of xs) i ≡ Some (map (λ r. r.0) (item_of (get_or xs i d)).kept)
keys_there xs i d h = ap (option_map (λ (j : Item). map (λ r. r.0) j.kept)) (get-map item_of xs i d h)

-- ---- what a walk changes

-- told apart the other way round
other_key : (k d : CellKey) → same_key k d ≡ false → same_key d k ≡ false
other_key k d h = false_from_ne_true (same_key d k) (λ e. false≢true (sym h ∙ ap (same_key k) (same_exact d k e) ∙ same_self k))

-- a record that is exchanged changes the cells that it is of
pub swap_alike : (r : Record cells) (w : State cells) (k : CellKey) → list_any (same_key k) (map (λ (p : CellKey × _). p.0) r) ≡ false → swap_state cells r w k ≡ w k
swap_alike [] w k h = refl
swap_alike (p ∷ ps) w k h =
    let both = or_parts (same_key k p.0) (list_any (same_key k) (map (λ (q : CellKey × _). q.0) ps)) h in
    swap_alike ps (hold cells w p.0 p.1) k both.1 ∙ ap (λ b. cond b p.1 (w k)) (other_key k p.0 both.0)

-- an item with the same keys in the place of another
keys_set : (xs : List Item) (p : ℕ) (x y : Item) → slice_get xs p ≡ Some x → map (λ r. r.0) y.kept ≡ map (λ r. r.0) x.kept → (q : ℕ) → keys_at (set xs p y) q ≡ keys_at xs q
keys_set [] p x y h e q = refl
keys_set (z ∷ xs) zero x y h e zero = ap Some (e ∙ ap (λ (i : Item). map (λ r. r.0) i.kept) (sym (same_Some z x h)))
keys_set (z ∷ xs) zero x y h e (suc q) = refl
keys_set (z ∷ xs) (suc p) x y h e zero = refl
keys_set (z ∷ xs) (suc p) x y h e (suc q) = keys_set xs p x y h e q

written_same : (xs ys : List Item) → ((q : ℕ) → keys_at xs q ≡ keys_at ys q) → (ps : List ℕ) → written_at xs ps ≡ written_at ys ps
written_same xs ys h [] = refl
written_same xs ys h (p ∷ ps) = ap₂ (λ o l. unwrap_or o [] ++ l) (h p) (written_same xs ys h ps)

module _ (live : Bool) where
  step_alike : (p : ℕ) (j : List Item × State cells) (k : CellKey) → list_any (same_key k) (unwrap_or (keys_at j.0 p) []) ≡ false → (step_at (swap_item live) p j).1 k ≡ j.1 k
  step_alike p j k h = by (slice_get j.0 p) h
    where
      by : (o : Option Item) → list_any (same_key k) (unwrap_or (option_map (λ i. map (λ r. r.0) i.kept) o) []) ≡ false
          → (option_map_or {U = List Item × State cells} (λ x. (set j.0 p (swap_item live x j.1).0, (swap_item live x j.1).1)) o j).1 k ≡ j.1 k
      by None g = refl
      by (Some i) g = swap_alike i.kept j.1 k g

  step_keys : (p : ℕ) (j : List Item × State cells) (q : ℕ) → keys_at (step_at (swap_item live) p j).0 q ≡ keys_at j.0 q
  step_keys p j q = by (slice_get j.0 p) refl
    where
      by : (o : Option Item) → slice_get j.0 p ≡ o → keys_at (option_map_or {U = List Item × State cells} (λ x. (set j.0 p (swap_item live x j.1).0, (swap_item live x j.1).1)) o j).0 q ≡ keys_at j.0 q
      by None e = refl
      by (Some i) e = keys_set j.0 p i (swap_item live i j.1).0 e (keys_after (swap_item live i j.1).0 i j.1 refl) q

  -- THE LEMMA: a walk leaves the cells as they were of which the items at its positions have no records
  pub walk_alike : (ps : List ℕ) (j : List Item × State cells) (k : CellKey) → list_any (same_key k) (written_at j.0 ps) ≡ false → (walk (swap_item live) ps j).1 k ≡ j.1 k
  walk_alike [] j k h = refl
  walk_alike (p ∷ ps) j k h =
      let first = unwrap_or (keys_at j.0 p) [] in
      let both = or_parts (list_any (same_key k) first) (list_any (same_key k) (written_at j.0 ps)) (sym (list_any-append (same_key k) first (written_at j.0 ps)) ∙ h) in
      walk_alike ps (step_at (swap_item live) p j) k (ap (list_any (same_key k)) (written_same (step_at (swap_item live) p j).0 j.0 (step_keys p j) ps) ∙ both.1) ∙ step_alike p j k both.0

or_turned : (a b : Bool) → (a || b) ≡ (b || a)
or_turned true true = refl
or_turned true false = refl
or_turned false true = refl
or_turned false false = refl

-- and so does a walk the other way round
pub any_back : (test : CellKey → Bool) (items : List Item) (ps : List ℕ) → list_any test (written_at items (reverse ps)) ≡ list_any test (written_at items ps)
any_back test items [] = refl
any_back test items (p ∷ ps) =
    let first = unwrap_or (keys_at items p) [] in
    ap (λ l. list_any test (written_at items l)) (reverse-append (p ∷ []) ps)
    ∙ ap (list_any test) (written_append items (reverse ps) (p ∷ []))
    ∙ list_any-append test (written_at items (reverse ps)) (first ++ [])
    ∙ ap₂ (λ a b. a || b) (any_back test items ps) (ap (list_any test) (append-nil first))
    ∙ or_turned (list_any test (written_at items ps)) (list_any test first)
    ∙ sym (list_any-append test first (written_at items ps))
