-- Places and followers stay right as entries come, change places, are exchanged with the cells, and settle.
use Rattle.std.proofs.Common.{◌≡◌, ◌≢◌, ◌∙◌, ℕ, zero, suc, ◌+◌, ◌<◌, Bool, true, false, cond, List, [], ◌∷◌, ◌++◌, Option, Some, None, unwrap_or, length, map, set, get_or, take, drop, slice_get, refl, sym, ap, subst, add-one, arith}
use Rattle.std.specs.List.{AllByRecursion}
use Rattle.std.proofs.lemmas.List.{map-append, take_more, length-map, length-append}
use Rattle.history.specs.Subject.{found}
use Rattle.ids.specs.CellKeys.{same_key}
use Rattle.ids.specs.declared.names.EventName.{EventName}
use Rattle.ids.proofs.CellKeys.{same_exact}
use Rattle.ids.specs.declared.cells.CellKey.{CellKey}
use Rattle.journal_links.specs.Followers.{IsLetGo}
use Rattle.journal_links.specs.declared.followers.Followers.{Followers}
use Rattle.journal_links.proofs.Placing.{Swapped}
use Rattle.journal_links.proofs.Following.{Keeps}
use Rattle.history.specs.Records.{State, Record, hold, swap_record}
use Rattle.history.proofs.Lists.{all_map, all_append}
use Rattle.world_cells.specs.Records.{record_of}
use Rattle.world_cells.specs.Theory.{cells, kept_of, kepts_of}
use Rattle.world_cells.specs.World.{Content}
use Rattle.world_cells.specs.declared.record.CellRecord.{CellRecord}
use Rattle.journal.specs.Items.{Item, item_of, last_of, lasts_of, swap_item, exchanged}
use Rattle.journal.specs.Lines.{last_among, plain}
use Rattle.journal.specs.Links.{lister, IsListed, AreListed, names_of}
use Rattle.journal.specs.Settled.{written_by, written_over}
use Rattle.journal.specs.SettledView.{settled_item, items_in}
use Rattle.journal.specs.declared.entry.Entry.{Entry}
use Rattle.journal.specs.declared.entry.Touched.{Touched}
use Rattle.journal.specs.declared.settled.Settled.{Settled}
use Rattle.journal.proofs.Neighbouring.{map-exchanged}
use Rattle.journal.proofs.Reversed.{map-map}

-- ---- lists in general

map_set_same : {A B : Type 0} (f : A → B) (xs : List A) (i : ℕ) (d y : A) → f y ≡ f (get_or xs i d) → map f (set xs i y) ≡ map f xs
map_set_same f [] i d y h = refl
map_set_same f (x ∷ xs) zero d y h = ap (λ z. z ∷ map f xs) h
map_set_same f (x ∷ xs) (suc i) d y h = ap (λ l. f x ∷ l) (map_set_same f xs i d y h)

all_set : {A B : Type 0} (P : B → Type 0) (f : A → B) (xs : List A) (i : ℕ) (d y : A) → (P (f (get_or xs i d)) → P (f y)) → AllByRecursion P (map f xs) → AllByRecursion P (map f (set xs i y))
all_set P f [] i d y g h = tt
all_set P f (x ∷ xs) zero d y g (h, hs) = (g h, hs)
all_set P f (x ∷ xs) (suc i) d y g (h, hs) = (h, all_set P f xs i d y g hs)

all_end : {B : Type 0} (P : B → Type 0) (xs : List B) (y : B) → AllByRecursion P xs → P y → AllByRecursion P (xs ++ y ∷ [])
all_end P [] y h g = (g, tt)
all_end P (x ∷ xs) y (h, hs) g = (h, all_end P xs y hs g)

all_exchanged : {B : Type 0} (P : B → Type 0) (n : ℕ) (xs : List B) → AllByRecursion P xs → AllByRecursion P (exchanged n xs)
all_exchanged P n [] h = tt
all_exchanged P n (b ∷ []) h = h
all_exchanged P zero (b ∷ a ∷ xs) (h, (g, hs)) = (g, (h, hs))
all_exchanged P (suc n) (b ∷ a ∷ xs) (h, hs) = (h, all_exchanged P n (a ∷ xs) hs)

all_drop : {A B : Type 0} (P : B → Type 0) (f : A → B) (n : ℕ) (xs : List A) → AllByRecursion P (map f xs) → AllByRecursion P (map f (drop n xs))
all_drop P f zero xs h = h
all_drop P f (suc n) [] h = tt
all_drop P f (suc n) (x ∷ xs) (h, hs) = all_drop P f n xs hs

-- ---- names

entry_name : Entry → EventName
entry_name x = (item_of x).event.name

item_name : Item → EventName
item_name i = i.event.name

names_behind : (ss : List Settled) (xs : List Entry) → names_of (items_in ss xs) ≡ names_of (map settled_item ss) ++ map entry_name xs
unfolding entry_name
names_behind ss xs = map-append (λ (i : Item). i.event.name) (map settled_item ss) (map item_of xs) ∙ ap (λ l. names_of (map settled_item ss) ++ l) (map-map (λ (i : Item). i.event.name) item_of xs)

-- an entry in the place of one of this name
pub names_set : (ss : List Settled) (xs : List Entry) (i : ℕ) (d y : Entry) → (item_of y).event.name ≡ (item_of (get_or xs i d)).event.name → names_of (items_in ss (set xs i y)) ≡ names_of (items_in ss xs)
unfolding entry_name
names_set ss xs i d y h = names_behind ss (set xs i y) ∙ ap (λ l. names_of (map settled_item ss) ++ l) (map_set_same entry_name xs i d y h) ∙ sym (names_behind ss xs)

-- an entry more
pub names_more : (ss : List Settled) (xs : List Entry) (y : Entry) → names_of (items_in ss (xs ++ y ∷ [])) ≡ names_of (items_in ss xs) ++ (item_of y).event.name ∷ []
names_more ss xs y = ap (λ l. names_of (map settled_item ss ++ l)) (map-append item_of xs (y ∷ [])) ∙ at_end (map settled_item ss) (map item_of xs) (item_of y)
  where
    at_end : (us vs : List Item) (j : Item) → names_of (us ++ (vs ++ j ∷ [])) ≡ names_of (us ++ vs) ++ j.event.name ∷ []
    at_end [] [] j = refl
    at_end [] (v ∷ vs) j = ap (λ l. v.event.name ∷ l) (at_end [] vs j)
    at_end (u ∷ us) vs j = ap (λ l. u.event.name ∷ l) (at_end us vs j)

pub names_count : (ss : List Settled) (xs : List Entry) → length ss + length xs ≡ length (names_of (items_in ss xs))
names_count ss xs =
    let all = length-map (items_in ss xs) (λ (i : Item). i.event.name) in
    let both = length-append (map settled_item ss) (map item_of xs) in
    let settled = length-map ss settled_item in
    let entries = length-map xs item_of in
    omega (arith, all, both, settled, entries)

-- ---- neighbours change places

first_now : {A : Type 0} (n : ℕ) (xs : List A) (b : A) → slice_get xs (suc n) ≡ Some b → slice_get (exchanged n xs) n ≡ Some b
first_now n [] b h = cc
first_now zero (x ∷ []) b h = cc
first_now (suc n) (x ∷ []) b h = cc
first_now zero (x ∷ y ∷ xs) b h = h
first_now (suc n) (x ∷ y ∷ xs) b h = first_now n (y ∷ xs) b h

second_now : {A : Type 0} (n : ℕ) (xs : List A) (a b : A) → slice_get xs n ≡ Some a → slice_get xs (suc n) ≡ Some b → slice_get (exchanged n xs) (suc n) ≡ Some a
second_now n [] a b h g = cc
second_now zero (x ∷ []) a b h g = cc
second_now (suc n) (x ∷ []) a b h g = cc
second_now zero (x ∷ y ∷ xs) a b h g = h
second_now (suc n) (x ∷ y ∷ xs) a b h g = second_now n (y ∷ xs) a b h g

other_forth : {A : Type 0} (n : ℕ) (xs : List A) (a b : A) → slice_get xs n ≡ Some a → slice_get xs (suc n) ≡ Some b → (r : ℕ) (e : A) → e ≢ a → e ≢ b → slice_get xs r ≡ Some e → slice_get (exchanged n xs) r ≡ Some e
other_forth n [] a b h g r e na nb at = at
other_forth n (x ∷ []) a b h g r e na nb at = at
other_forth zero (x ∷ y ∷ xs) a b h g zero e na nb at = absurd (na (let is : Some e ≡ Some a = sym at ∙ h in cc))
other_forth zero (x ∷ y ∷ xs) a b h g (suc zero) e na nb at = absurd (nb (let is : Some e ≡ Some b = sym at ∙ g in cc))
other_forth zero (x ∷ y ∷ xs) a b h g (suc (suc r)) e na nb at = at
other_forth (suc n) (x ∷ y ∷ xs) a b h g zero e na nb at = at
other_forth (suc n) (x ∷ y ∷ xs) a b h g (suc r) e na nb at = other_forth n (y ∷ xs) a b h g r e na nb at

other_back : {A : Type 0} (n : ℕ) (xs : List A) (a b : A) → slice_get xs n ≡ Some a → slice_get xs (suc n) ≡ Some b → (r : ℕ) (e : A) → e ≢ a → e ≢ b → slice_get (exchanged n xs) r ≡ Some e → slice_get xs r ≡ Some e
other_back n [] a b h g r e na nb at = at
other_back n (x ∷ []) a b h g r e na nb at = at
other_back zero (x ∷ y ∷ xs) a b h g zero e na nb at = absurd (nb (let is : Some e ≡ Some b = sym at ∙ g in cc))
other_back zero (x ∷ y ∷ xs) a b h g (suc zero) e na nb at = absurd (na (let is : Some e ≡ Some a = sym at ∙ h in cc))
other_back zero (x ∷ y ∷ xs) a b h g (suc (suc r)) e na nb at = at
other_back (suc n) (x ∷ y ∷ xs) a b h g zero e na nb at = at
other_back (suc n) (x ∷ y ∷ xs) a b h g (suc r) e na nb at = other_back n (y ∷ xs) a b h g r e na nb at

pub names_swapped : (names : List EventName) (n : ℕ) (a b : EventName) → slice_get names n ≡ Some a → slice_get names (n + 1) ≡ Some b → Swapped names (exchanged n names) n (n + 1) a b
names_swapped names n a b h g =
    let next : slice_get names (suc n) ≡ Some b = ap (slice_get names) (sym (add-one n)) ∙ g in
    record {
      first = first_now n names b next;
      second = ap (slice_get (exchanged n names)) (add-one n) ∙ second_now n names a b h next;
      forth = other_forth n names a b h next;
      back = other_back n names a b h next;
    }

-- ---- what is listed

pub listed_kept : (old new : EventName → EventName → Bool) → Keeps old new → (e : EventName) (lasts : List (CellKey × Option ℕ)) → IsListed old e lasts → IsListed new e lasts
listed_kept old new kept e lasts h = all_map _ _ lasts (λ p on. kept (lister p.0 p.1) e on) h

-- one more cell
pub listed_append : (old new : EventName → EventName → Bool) → Keeps old new → (e : EventName) (lasts : List (CellKey × Option ℕ)) (p : CellKey × Option ℕ) → IsListed old e lasts → new (lister p.0 p.1) e ≡ true → IsListed new e (lasts ++ p ∷ [])
listed_append old new kept e lasts p h g = all_end _ lasts p (listed_kept old new kept e lasts h) g

module _ (lasts : Item → List (CellKey × Option ℕ)) where
  pub items_kept : (old new : EventName → EventName → Bool) → Keeps old new → (items : List Item) → AreListed old lasts items → AreListed new lasts items
  items_kept old new kept items h = all_map _ _ items (λ i listed. listed_kept old new kept i.event.name (lasts i) listed) h

  pub items_more : (on_list : EventName → EventName → Bool) (xs : List Entry) (y : Entry) → AreListed on_list lasts (map item_of xs) → IsListed on_list (item_of y).event.name (lasts (item_of y)) → AreListed on_list lasts (map item_of (xs ++ y ∷ []))
  items_more on_list xs y h g = subst (AreListed on_list lasts) (sym (map-append item_of xs (y ∷ []))) (all_end _ (map item_of xs) (item_of y) h g)

  pub items_set : (on_list : EventName → EventName → Bool) (xs : List Entry) (i : ℕ) (d y : Entry) → (item_of y).event.name ≡ (item_of (get_or xs i d)).event.name → lasts (item_of y) ≡ lasts (item_of (get_or xs i d))
      → AreListed on_list lasts (map item_of xs) → AreListed on_list lasts (map item_of (set xs i y))
  items_set on_list xs i d y name same h = all_set (λ (j : Item). IsListed on_list j.event.name (lasts j)) item_of xs i d y (λ listed. subst (λ e. IsListed on_list e (lasts (item_of y))) (sym name) (subst (IsListed on_list (item_of (get_or xs i d)).event.name) (sym same) listed)) h

  pub items_exchanged : (on_list : EventName → EventName → Bool) (n : ℕ) (xs : List Entry) → AreListed on_list lasts (map item_of xs) → AreListed on_list lasts (map item_of (exchanged n xs))
  items_exchanged on_list n xs h = subst (AreListed on_list lasts) (sym (map-exchanged item_of n xs)) (all_exchanged _ n (map item_of xs) h)

  pub items_left : (on_list : EventName → EventName → Bool) (n : ℕ) (xs : List Entry) → AreListed on_list lasts (map item_of xs) → AreListed on_list lasts (map item_of (drop n xs))
  items_left on_list n xs h = all_drop _ item_of n xs h

  -- those of settled entries and those behind them
  pub items_parts : (on_list : EventName → EventName → Bool) (us vs : List Item) → AreListed on_list lasts (us ++ vs) → AreListed on_list lasts us × AreListed on_list lasts vs
  items_parts on_list [] vs h = (tt, h)
  items_parts on_list (u ∷ us) vs (h, hs) = let parts = items_parts on_list us vs hs in ((h, parts.0), parts.1)

  pub items_behind : (on_list : EventName → EventName → Bool) (us vs ws : List Item) → (AreListed on_list lasts vs → AreListed on_list lasts ws) → AreListed on_list lasts (us ++ vs) → AreListed on_list lasts (us ++ ws)
  items_behind on_list us vs ws f h = let parts = items_parts on_list us vs h in all_append _ us ws parts.0 (f parts.1)

-- who wrote which cells over stays when records are exchanged with a state
pub written_swapped : (live : Bool) (i : Item) (w : State cells) → written_by (swap_item live i w).0 ≡ written_by i
written_swapped live i w = each i.kept w
  where
    each : (ps : Record cells) (v : State cells) → written_over i.lasts (swap_record cells ps v) ≡ written_over i.lasts ps
    each [] v = refl
    each (p ∷ ps) v = ap (λ l. (p.0, last_among i.lasts p.0) ∷ l) (each ps (hold cells v p.0 p.1))

-- one more of the cells that were touched
pub follows_more : (old new : EventName → EventName → Bool) (e : EventName) (xs : List Touched) (i : ℕ) (d : Touched) → i < length xs → Keeps old new → IsListed old e (lasts_of (take i xs))
    → new (lister (last_of (get_or xs i d)).0 (last_of (get_or xs i d)).1) e ≡ true → IsListed new e (lasts_of (take (i + 1) xs))
follows_more old new e xs i d h kept before here =
    subst (IsListed new e) (sym (ap lasts_of (take_more xs i d h) ∙ map-append last_of (take i xs) (get_or xs i d ∷ [])))
    (listed_append old new kept e (lasts_of (take i xs)) (last_of (get_or xs i d)) before here)

-- and one more of those that were written
pub inherits_more : (old new : EventName → EventName → Bool) (e : EventName) (lasts : List (CellKey × Option ℕ)) (xs : List CellRecord) (i : ℕ) (d : CellRecord) → i < length xs → Keeps old new
    → IsListed old e (written_over lasts (kepts_of (take i xs)))
    → new (lister (record_of (get_or xs i d)).0 (last_among lasts (record_of (get_or xs i d)).0)) e ≡ true
    → IsListed new e (written_over lasts (kepts_of (take (i + 1) xs)))
inherits_more old new e lasts xs i d h kept before here =
    let pair : CellKey × (Option Content × Option ℕ) → CellKey × Option ℕ = λ r. (r.0, last_among lasts r.0) in
    subst (IsListed new e)
    (sym (ap (λ l. map pair (kepts_of l)) (take_more xs i d h) ∙ ap (map pair) (map-append kept_of (take i xs) (get_or xs i d ∷ [])) ∙ map-append pair (kepts_of (take i xs)) (kept_of (get_or xs i d) ∷ [])))
    (listed_append old new kept e (map pair (kepts_of (take i xs))) (pair (kept_of (get_or xs i d))) before here)

-- the list of one entry more was let go
pub gone_more : (old new : Followers) (xs : List Entry) (i : ℕ) (d : Entry) → i < length xs → ((e : EventName) → IsLetGo old e → IsLetGo new e) → IsLetGo new (get_or xs i d).event.name
    → AllByRecursion (λ (x : Entry). IsLetGo old x.event.name) (take i xs) → AllByRecursion (λ (x : Entry). IsLetGo new x.event.name) (take (i + 1) xs)
gone_more old new xs i d h kept here before =
    subst (AllByRecursion (λ (x : Entry). IsLetGo new x.event.name)) (sym (take_more xs i d h))
    (all_end _ (take i xs) (get_or xs i d) (all_map _ _ (take i xs) (λ x was. kept x.event.name was) before) here)

among_at : (on : EventName → Bool) (p : CellKey × Option ℕ) (ps : List (CellKey × Option ℕ)) (k : CellKey) (b : Bool) → same_key p.0 k ≡ b → on (lister p.0 p.1) ≡ true → on (lister k (last_among ps k)) ≡ true
    → on (lister k (unwrap_or (cond b (Some p.1) (found plain ps k)) None)) ≡ true
among_at on p ps k true is h g = subst (λ q. on (lister q p.1) ≡ true) (same_exact p.0 k is) h
among_at on p ps k false is h g = g

-- an event that is listed for each of these cells with their last writers is listed for a cell by the last writer that it has among them,
-- where it is listed for the cell as if nobody had written it
among : (on : EventName → Bool) (lasts : List (CellKey × Option ℕ)) (k : CellKey) → AllByRecursion (λ p. on (lister p.0 p.1) ≡ true) lasts → on (lister k None) ≡ true → on (lister k (last_among lasts k)) ≡ true
among on [] k h g = g
among on (p ∷ ps) k (h, hs) g = among_at on p ps k (same_key p.0 k) refl h (among on ps k hs g)

pub listed_widely : (on_list : EventName → EventName → Bool) (e : EventName) (lasts : List (CellKey × Option ℕ)) (rs : Record cells) → IsListed on_list e lasts
    → IsListed on_list e (written_over [] rs) → IsListed on_list e (written_over lasts rs)
listed_widely on_list e lasts [] h g = tt
listed_widely on_list e lasts (r ∷ rs) h (g, gs) = (among (λ w. on_list w e) lasts r.0 h g, listed_widely on_list e lasts rs h gs)
