-- Places, followers and heirs stay right through the calls of a core.
use Rattle.std.proofs.Common.{◌≡◌, ◌∙◌, ℕ, zero, suc, ◌+◌, ◌<◌, ◌==◌, cond, List, [], ◌∷◌, ◌++◌, Option, Some, None, length, map, set, get_or, drop, slice_get, refl, sym, ap, ap₂, subst, arith}
use Rattle.std.proofs.Math.Bool.{Bool-set}
use Rattle.std.proofs.Math.Logic.{∥∥₁_elim, ∥∥₁_map}
use Rattle.std.proofs.lemmas.List.{length-map}
use Rattle.ids.specs.declared.names.EventName.{EventName}
use Rattle.ids.specs.declared.cells.CellKey.{CellKey}
use Rattle.journal_links.specs.Places.{place_of, HasRoom, ArePlaces}
use Rattle.journal_links.specs.Followers.{may_follow}
use Rattle.journal_links.specs.Heirs.{is_heir}
use Rattle.journal_links.specs.declared.heirs.Heirs.{Heirs}
use Rattle.journal_links.specs.declared.places.Places.{Places}
use Rattle.journal_links.specs.declared.followers.Followers.{Followers}
use Rattle.journal_links.proofs.Placing.{places_none, places_same, places_more, places_swapped, room_of}
use Rattle.journal_links.proofs.Following.{Keeps}
use Rattle.journal.specs.Items.{Item, item_of, exchanged}
use Rattle.journal.specs.Links.{AreFollowers, AreHeirs, IsListed, names_of}
use Rattle.journal.specs.Settled.{written_by}
use Rattle.journal.specs.SettledView.{settled_item, items_in}
use Rattle.journal.specs.declared.entry.Entry.{Entry}
use Rattle.journal.specs.declared.settled.Settled.{Settled}
use Rattle.journal.proofs.Linked.{names_set, names_more, names_count, names_swapped, items_kept, items_more, items_set, items_exchanged, items_left, items_behind}
use Rattle.journal.proofs.Neighbouring.{map-exchanged}
use Rattle.journal.proofs.Settling.{name_behind}
use Rattle.undo.proofs.Behind.{turn_behind}

-- the places of these entries are kept
abbrev pub Placed : Places → List Settled → List Entry → Type 0
Placed places ss xs = ∥ ArePlaces places (names_of (items_in ss xs)) ∥₁

-- and their followers
abbrev pub Followed : Followers → List Entry → Type 0
Followed followers xs = ∥ AreFollowers followers (map item_of xs) ∥₁

-- and their heirs
abbrev pub Inherited : Heirs → List Settled → List Entry → Type 0
Inherited heirs ss xs = ∥ AreHeirs heirs (items_in ss xs) ∥₁

-- the cells that an item touched
abbrev lasts_in : Item → List (CellKey × Option ℕ)
lasts_in i = i.lasts

pub placed_begin : (places : Places) (ss : List Settled) (xs : List Entry) → ss ≡ [] → xs ≡ [] → ((e : EventName) → place_of places e ≡ None) → Placed places ss xs
placed_begin places ss xs s x none = subst (λ ns. ∥ ArePlaces places ns ∥₁) (sym (ap₂ (λ ts ys. names_of (items_in ts ys)) s x)) ∣ places_none places none ∣₁

pub followed_begin : (followers : Followers) (xs : List Entry) → xs ≡ [] → Followed followers xs
followed_begin followers xs x = subst (λ is. ∥ AreFollowers followers is ∥₁) (sym (ap (map item_of) x)) ∣ tt ∣₁

pub placed_same : (old new : Places) (ss : List Settled) (xs : List Entry) → ((e : EventName) → place_of new e ≡ place_of old e) → Placed old ss xs → Placed new ss xs
placed_same old new ss xs same h = ∥∥₁_map h (places_same old new (names_of (items_in ss xs)) same)

pub followed_kept : (old new : Followers) (xs : List Entry) → Keeps (may_follow old) (may_follow new) → Followed old xs → Followed new xs
followed_kept old new xs kept h = ∥∥₁_map h (items_kept lasts_in (may_follow old) (may_follow new) kept (map item_of xs))

pub inherited_begin : (heirs : Heirs) (ss : List Settled) (xs : List Entry) → ss ≡ [] → xs ≡ [] → Inherited heirs ss xs
inherited_begin heirs ss xs s x = subst (λ is. ∥ AreHeirs heirs is ∥₁) (sym (ap₂ items_in s x)) ∣ tt ∣₁

pub inherited_kept : (old new : Heirs) (ss : List Settled) (xs : List Entry) → Keeps (is_heir old) (is_heir new) → Inherited old ss xs → Inherited new ss xs
inherited_kept old new ss xs kept h = ∥∥₁_map h (items_kept written_by (is_heir old) (is_heir new) kept (items_in ss xs))

-- an entry is exchanged with the cells
pub placed_set : (places : Places) (ss : List Settled) (xs : List Entry) (i : ℕ) (d y : Entry) → (item_of y).event.name ≡ (item_of (get_or xs i d)).event.name → Placed places ss xs → Placed places ss (set xs i y)
placed_set places ss xs i d y name h = subst (λ ns. ∥ ArePlaces places ns ∥₁) (sym (names_set ss xs i d y name)) h

pub followed_set : (followers : Followers) (xs : List Entry) (i : ℕ) (d y : Entry) → (item_of y).event.name ≡ (item_of (get_or xs i d)).event.name → (item_of y).lasts ≡ (item_of (get_or xs i d)).lasts
    → Followed followers xs → Followed followers (set xs i y)
followed_set followers xs i d y name lasts h = ∥∥₁_map h (items_set lasts_in (may_follow followers) xs i d y name lasts)

pub inherited_set : (heirs : Heirs) (ss : List Settled) (xs : List Entry) (i : ℕ) (d y : Entry) → (item_of y).event.name ≡ (item_of (get_or xs i d)).event.name → written_by (item_of y) ≡ written_by (item_of (get_or xs i d))
    → Inherited heirs ss xs → Inherited heirs ss (set xs i y)
inherited_set heirs ss xs i d y name same h =
    ∥∥₁_map h (items_behind written_by (is_heir heirs) (map settled_item ss) (map item_of xs) (map item_of (set xs i y)) (items_set written_by (is_heir heirs) xs i d y name same))

-- an entry comes
pub placed_more : (old new : Places) (ss : List Settled) (xs : List Entry) (x : Entry) (n : ℕ) → n ≡ length ss + length xs
    → ((e : EventName) → place_of new e ≡ cond (e.0 == x.event.name.0) (Some n) (place_of old e)) → Placed old ss xs → Placed new ss (xs ++ x ∷ [])
placed_more old new ss xs x n at put h =
    subst (λ ns. ∥ ArePlaces new ns ∥₁) (sym (names_more ss xs x))
    (∥∥₁_map h (places_more old new (names_of (items_in ss xs)) x.event.name n (at ∙ names_count ss xs) put))

pub followed_more : (old new : Followers) (xs : List Entry) (x : Entry) → Keeps (may_follow old) (may_follow new) → IsListed (may_follow new) (item_of x).event.name (item_of x).lasts → Followed old xs → Followed new (xs ++ x ∷ [])
followed_more old new xs x kept listed h = ∥∥₁_map h (λ are. items_more lasts_in (may_follow new) xs x (items_kept lasts_in (may_follow old) (may_follow new) kept (map item_of xs) are) listed)

pub inherited_more : (old new : Heirs) (ss : List Settled) (xs : List Entry) (x : Entry) → Keeps (is_heir old) (is_heir new) → IsListed (is_heir new) (item_of x).event.name (written_by (item_of x)) → Inherited old ss xs → Inherited new ss (xs ++ x ∷ [])
inherited_more old new ss xs x kept listed h =
    ∥∥₁_map h (λ are. items_behind written_by (is_heir new) (map settled_item ss) (map item_of xs) (map item_of (xs ++ x ∷ []))
    (λ behind. items_more written_by (is_heir new) xs x behind listed) (items_kept written_by (is_heir old) (is_heir new) kept (items_in ss xs) are))

-- neighbours change places
names_turned : (ss : List Settled) (xs : List Entry) (p i : ℕ) → p ≡ length ss + i → names_of (items_in ss (exchanged i xs)) ≡ exchanged p (names_of (items_in ss xs))
names_turned ss xs p i at =
    let many = length-map ss settled_item in
    let there : p ≡ length (map settled_item ss) + i = omega (arith, at, many) in
    ap (λ l. names_of (map settled_item ss ++ l)) (map-exchanged item_of i xs)
    ∙ ap names_of (sym (turn_behind (map settled_item ss) (map item_of xs) p i there))
    ∙ map-exchanged (λ j. j.event.name) p (items_in ss xs)

pub placed_turned : (old mid new : Places) (ss : List Settled) (xs : List Entry) (p i : ℕ) (d f : Entry) (a b : EventName) → p ≡ length ss + i → i + 1 < length xs
    → a ≡ (get_or xs i d).event.name → b ≡ (get_or xs (i + 1) f).event.name
    → ((e : EventName) → place_of mid e ≡ cond (e.0 == b.0) (Some p) (place_of old e)) → ((e : EventName) → place_of new e ≡ cond (e.0 == a.0) (Some (p + 1)) (place_of mid e))
    → Placed old ss xs → Placed new ss (exchanged i xs)
placed_turned old mid new ss xs p i d f a b at h is_a is_b first second placed =
    let names = names_of (items_in ss xs) in
    let next : p + 1 ≡ length ss + (i + 1) = omega (arith, at) in
    let here : i < length xs = omega (arith, h) in
    let at_a : slice_get names p ≡ Some a = name_behind ss xs p i d at here ∙ ap Some (sym is_a) in
    let at_b : slice_get names (p + 1) ≡ Some b = name_behind ss xs (p + 1) (i + 1) f next h ∙ ap Some (sym is_b) in
    subst (λ ns. ∥ ArePlaces new ns ∥₁) (sym (names_turned ss xs p i at))
    (∥∥₁_map placed (places_swapped old mid new names (exchanged p names) p (p + 1) a b (names_swapped names p a b at_a at_b) first second))

pub followed_turned : (followers : Followers) (i : ℕ) (xs : List Entry) → Followed followers xs → Followed followers (exchanged i xs)
followed_turned followers i xs h = ∥∥₁_map h (items_exchanged lasts_in (may_follow followers) i xs)

pub inherited_turned : (heirs : Heirs) (ss : List Settled) (i : ℕ) (xs : List Entry) → Inherited heirs ss xs → Inherited heirs ss (exchanged i xs)
inherited_turned heirs ss i xs h =
    ∥∥₁_map h (items_behind written_by (is_heir heirs) (map settled_item ss) (map item_of xs) (map item_of (exchanged i xs)) (items_exchanged written_by (is_heir heirs) i xs))

-- the first entries are settled
pub placed_settled : (places : Places) (ss ts : List Settled) (xs ys : List Entry) → items_in ts ys ≡ items_in ss xs → Placed places ss xs → Placed places ts ys
placed_settled places ss ts xs ys is h = subst (λ its. ∥ ArePlaces places (names_of its) ∥₁) (sym is) h

pub inherited_settled : (heirs : Heirs) (ss ts : List Settled) (xs ys : List Entry) → items_in ts ys ≡ items_in ss xs → Inherited heirs ss xs → Inherited heirs ts ys
inherited_settled heirs ss ts xs ys is h = subst (λ its. ∥ AreHeirs heirs its ∥₁) (sym is) h

pub followed_settled : (old new : Followers) (n : ℕ) (xs ys : List Entry) → ys ≡ drop n xs → Keeps (may_follow old) (may_follow new) → Followed old xs → Followed new ys
followed_settled old new n xs ys is kept h =
    subst (Followed new) (sym is) (∥∥₁_map h (λ are. items_left lasts_in (may_follow new) n xs (items_kept lasts_in (may_follow old) (may_follow new) kept (map item_of xs) are)))

pub first_turned : {A : Type 0} (xs : List A) (i : ℕ) (d : A) → i + 1 < length xs → get_or (exchanged i xs) i d ≡ get_or xs (i + 1) d
first_turned [] i d h = absurd (omega arith)
first_turned (b ∷ []) i d h = absurd (omega arith)
first_turned (b ∷ a ∷ xs) zero d h = refl
first_turned (b ∷ a ∷ xs) (suc i) d h =
    let e : suc (i + 1) ≡ suc i + 1 = omega arith in
    first_turned (a ∷ xs) i d (omega arith) ∙ ap (λ j. get_or (b ∷ a ∷ xs) j d) e

pub second_turned : {A : Type 0} (xs : List A) (i : ℕ) (d : A) → i + 1 < length xs → get_or (exchanged i xs) (i + 1) d ≡ get_or xs i d
second_turned [] i d h = absurd (omega arith)
second_turned (b ∷ []) i d h = absurd (omega arith)
second_turned (b ∷ a ∷ xs) zero d h = refl
second_turned (b ∷ a ∷ xs) (suc i) d h =
    let e : suc i + 1 ≡ suc (i + 1) = omega arith in
    ap (λ j. get_or (exchanged (suc i) (b ∷ a ∷ xs)) j d) e ∙ second_turned (a ∷ xs) i d (omega arith)

-- where an entry stands there is room for its place
pub room_there : (places : Places) (ss : List Settled) (xs : List Entry) (p i : ℕ) (d : Entry) → p ≡ length ss + i → i < length xs → Placed places ss xs → HasRoom places (get_or xs i d).event.name
room_there places ss xs p i d at h placed = room_of places (get_or xs i d).event.name (∥∥₁_elim placed (Bool-set _ _) (λ are. (are (get_or xs i d).event.name).all p (name_behind ss xs p i d at h)))
