-- The live events outside a set that follow a member are found on the lists of followers.
use Rattle.std.proofs.Common.{◌≡◌, ◌∙◌, ℕ, zero, suc, ◌+◌, ◌-◌, ◌≤◌, ◌==◌, Bool, true, false, cond, ◌&&◌, ◌||◌, not, List, [], ◌∷◌, ◌++◌, Option, Some, None, length, map, drop, slice_get, inl, inr, refl, sym, ap, ap₂, arith, true≢false, eq-eqb, nat_lt, ltb-true}
use Rattle.std.specs.List.{list_any, AllByRecursion}
use Rattle.std.specs.Option.{option_map_or, option_and_then}
use Rattle.std.specs.Bool.{then_some}
use Rattle.std.proofs.Math.Bool.{Bool-set}
use Rattle.std.proofs.Math.Logic.{∥∥₁_elim}
use Rattle.std.proofs.lemmas.Bool.{or_left, or_right, or_cases, and_from}
use Rattle.std.proofs.lemmas.List.{map-append, drop_all, length-map}
use Rattle.std.proofs.lemmas.List.Folds.{list_any-append}
use Rattle.history.specs.Chains.{is_name}
use Rattle.history.specs.Journal.{is_in}
use Rattle.history.proofs.Lists.{all_map, all_both, all_of, any_gives, any_none}
use Rattle.ids.specs.declared.names.EventName.{EventName}
use Rattle.ids.specs.declared.cells.CellKey.{CellKey}
use Rattle.journal_links.specs.Places.{place_of, ArePlaces}
use Rattle.journal_links.specs.Followers.{followers_of, may_follow}
use Rattle.journal_links.specs.declared.places.Places.{Places}
use Rattle.journal_links.specs.declared.followers.Followers.{Followers}
use Rattle.journal.specs.Items.{Item, item_of}
use Rattle.journal.specs.SettledView.{settled_item, items_in}
use Rattle.journal.specs.Links.{lister, IsListed, AreFollowers, names_of, open_at}
use Rattle.journal.specs.declared.entry.Entry as code
use Rattle.journal.specs.declared.settled.Settled.{Settled}
use Rattle.causality.specs.Journals.{IsJournal}
use Rattle.causality.specs.Names.{is_writer_in, wrote_last}
use Rattle.causality.specs.Placed.{follows, is_outsider, kept_if, place_if}
use Rattle.causality.specs.Selections.{numbers}
use Rattle.causality.specs.Walks.{is_of}
use Rattle.causality.proofs.Collecting.{all_places, behind_there}
use Rattle.causality.proofs.Following.{number, Apart, all_place}
use Rattle.causality.proofs.Gathering.{false_by, or_nothing, wrote_more}
use Rattle.causality.proofs.NameSets.{in_names}
use Rattle.causality.proofs.Placed.{any_in, named_is, place_there, apart_items}

-- one more of a list was looked at
pub any_more : {A : Type 0} (test : A → Bool) (x : A) (left rest : List A) (old new : Bool) → left ≡ x ∷ rest → new ≡ (test x || old) → (new || list_any test rest) ≡ (old || list_any test left)
any_more test x left rest old new is added =
    ap (λ b. b || list_any test rest) added ∙ regroup (test x) old (list_any test rest) ∙ sym (ap (λ l. old || list_any test l) is)
  where
    regroup : (a b c : Bool) → ((a || b) || c) ≡ (b || (a || c))
    regroup true true c = refl
    regroup true false c = refl
    regroup false b c = refl

pub any_done : {A : Type 0} (test : A → Bool) (xs : List A) (i : ℕ) → length xs ≤ i → (b : Bool) → b ≡ (b || list_any test (drop i xs))
any_done test xs i h b = sym (ap (λ l. b || list_any test l) (drop_all i xs h) ∙ or_nothing b)

-- an event that is added, or not
pub not_added : (same b old : Bool) → b ≡ false → old ≡ ((same && b) || old)
not_added true b old h = ap (λ c. c || old) (sym h)
not_added false b old h = refl

pub was_added : (event e : EventName) (old : List EventName) (b : Bool) → b ≡ true → is_in (numbers (old ++ event ∷ [])) e.0 ≡ (((event.0 == e.0) && b) || is_in (numbers old) e.0)
was_added event e old b h =
    ap (λ ns. is_in ns e.0) (map-append (λ (x : EventName). x.0) old (event ∷ [])) ∙ list_any-append (λ n. n == e.0) (numbers old) (event.0 ∷ [])
    ∙ turned (is_in (numbers old) e.0) (event.0 == e.0) ∙ ap (λ c. ((event.0 == e.0) && c) || is_in (numbers old) e.0) (sym h)
  where
    turned : (a c : Bool) → (a || (c || false)) ≡ ((c && true) || a)
    turned true true = refl
    turned true false = refl
    turned false true = refl
    turned false false = refl

-- whoever follows an event is on its list
listed_name : (followers : Followers) (opens : List Item) (w : EventName) (names : List EventName) → AreFollowers followers opens → followers_of followers w ≡ Some names → (r : ℕ) (i : Item) → slice_get opens r ≡ Some i → follows w.0 i ≡ true → in_names names i.event.name ≡ true
listed_name followers opens w names follow list r i at after =
    sym (ap (λ o. option_map_or (λ es. list_any (λ (f : EventName). f.0 == i.event.name.0) es) o true) list)
    ∙ any_gives (may_follow followers w i.event.name ≡ true) (λ (p : CellKey × Option ℕ). is_name p.1 w.0) i.lasts after
    (all_map _ _ i.lasts (λ p h is. ap (λ o. may_follow followers (lister p.0 o) i.event.name) (sym (named_is p.1 w.0 is)) ∙ h) (all_place (λ (j : Item). IsListed (may_follow followers) j.event.name j.lasts) opens follow r i at))

module _ (places : Places) (ss : List Settled) (xs : List code.Entry) (names : List EventName) (are : ArePlaces places (names_of (items_in ss xs))) (apart : Apart (map number (items_in ss xs))) where
  abbrev open_items : List Item
  open_items = map item_of xs

  abbrev outsider : EventName → Bool
  outsider = is_outsider names open_items (length ss) places

  -- an item that is live and outside the set is an outsider by its name
  outsider_there : (r : ℕ) (i : Item) → slice_get open_items r ≡ Some i → i.live ≡ true → is_of names i ≡ false → outsider i.event.name ≡ true
  outsider_there r i at live outside =
      let many = length-map ss settled_item in
      let p = length (map settled_item ss) + r in
      let there : slice_get (items_in ss xs) p ≡ Some i = behind_there (map settled_item ss) open_items r ∙ at in
      let place : place_of places i.event.name ≡ Some p = place_there places (items_in ss xs) are apart p i there in
      let behind : nat_lt p (length ss) ≡ false = false_by _ (λ e. (let lt = ltb-true p (length ss) e in omega (arith, lt, many))) in
      let back : p - length ss ≡ r = omega (arith, many) in
      ap (λ o. option_map_or (λ j. j.live && not (is_of names j)) (open_at open_items (length ss) o) false) place
      ∙ ap (λ b. option_map_or (λ j. j.live && not (is_of names j)) (cond b None (slice_get open_items (p - length ss))) false) behind
      ∙ ap (λ o. option_map_or (λ j. j.live && not (is_of names j)) o false) (ap (slice_get open_items) back ∙ at)
      ∙ ap₂ (λ a b. a && not b) live outside

module _ (places : Places) (ss : List Settled) (xs : List code.Entry) (names : List EventName) (placed : ∥ ArePlaces places (names_of (items_in ss xs)) ∥₁) (journal : IsJournal (items_in ss xs)) where
  abbrev opens : List Item
  opens = map item_of xs

  -- what is asked of an event that is told by its name
  abbrev is_it : EventName → EventName → Bool
  is_it e f = (f.0 == e.0) && is_outsider names opens (length ss) places f

  outsider_is : (r : ℕ) (j : Item) → slice_get opens r ≡ Some j → j.live ≡ true → is_of names j ≡ false → is_it j.event.name j.event.name ≡ true
  outsider_is r j at live out = ∥∥₁_elim placed (Bool-set _ _) (λ are. ∥∥₁_elim (apart_items (items_in ss xs) journal) (Bool-set _ _) (λ apart.
      and_from _ _ (eq-eqb (number j) (number j) refl) (outsider_there places ss xs names are apart r j at live out)))

  -- THE LEMMA: all that follow an event are added from its list
  pub listed_out : (followers : Followers) (w : EventName) (list old new : List EventName) → ∥ AreFollowers followers opens ∥₁ → followers_of followers w ≡ Some list
      → ((e : EventName) → is_in (numbers new) e.0 ≡ (is_in (numbers old) e.0 || list_any (is_it e) list))
      → AllByRecursion (λ j. j.live ≡ true → is_of names j ≡ false → follows w.0 j ≡ true → is_of new j ≡ true) opens
  listed_out followers w list old new followed has added = all_places _ opens (λ r j at live out after.
      added j.event.name ∙ or_right (is_in (numbers old) (number j)) _
      (∥∥₁_elim followed (Bool-set _ _) (λ follow. any_in (is_it j.event.name) list j.event.name (listed_name followers opens w list follow has r j at after) (outsider_is r j at live out))))

  -- and so they are from all
  pub any_out : (w : EventName) (old new : List EventName) → ((e : EventName) → is_in (numbers new) e.0 ≡ (is_in (numbers old) e.0 || list_any (λ (x : code.Entry). is_it e x.event.name) xs))
      → AllByRecursion (λ j. j.live ≡ true → is_of names j ≡ false → follows w.0 j ≡ true → is_of new j ≡ true) opens
  any_out w old new added = all_places _ opens (λ r j at live out after.
      added j.event.name ∙ or_right (is_in (numbers old) (number j)) _ (entry_in xs r j at (outsider_is r j at live out)))
    where
      entry_in : (ys : List code.Entry) (r : ℕ) (j : Item) → slice_get (map item_of ys) r ≡ Some j → is_it j.event.name j.event.name ≡ true → list_any (λ (x : code.Entry). is_it j.event.name x.event.name) ys ≡ true
      entry_in [] r j at is = cc
      entry_in (y ∷ ys) zero j at is = or_left _ _ (let one : item_of y ≡ j = cc in ap (λ (k : Item). is_it j.event.name k.event.name) one ∙ is)
      entry_in (y ∷ ys) (suc r) j at is = or_right (is_it j.event.name y.event.name) _ (entry_in ys r j at is)

-- ---- those of all members

-- of the members so far all followers are known
abbrev pub HasFollowers : List EventName → List EventName → List EventName → List Item → Type 0
HasFollowers names members found opens = AllByRecursion (λ j. j.live ≡ true → is_of names j ≡ false → wrote_last (numbers members) j ≡ true → is_of found j ≡ true) opens

pub no_members : (names found members : List EventName) (opens : List Item) → members ≡ [] → HasFollowers names members found opens
no_members names found members opens none = all_of _ opens (λ j live out wrote. absurd (true≢false (sym (ap (λ ms. wrote_last (numbers ms) j) (sym none) ∙ wrote) ∙ any_none _ j.lasts (all_of _ j.lasts (λ p. nobody p.1)))))
  where
    nobody : (o : Option ℕ) → is_writer_in [] o ≡ false
    nobody None = refl
    nobody (Some n) = refl

pub more_members : (names old new members next : List EventName) (e : EventName) (opens : List Item) → next ≡ members ++ e ∷ [] → ((f : EventName) → is_in (numbers old) f.0 ≡ true → is_in (numbers new) f.0 ≡ true)
    → AllByRecursion (λ j. j.live ≡ true → is_of names j ≡ false → follows e.0 j ≡ true → is_of new j ≡ true) opens → HasFollowers names members old opens → HasFollowers names next new opens
more_members names old new members next e opens is kept added before =
    all_both _ _ _ opens (λ j f b live out wrote. elim (or_cases (wrote_last (numbers members) j) (follows e.0 j) (sym (wrote_more members e j) ∙ ap (λ ms. wrote_last (numbers ms) j) (sym is) ∙ wrote)) [
      | inl was ↦ kept j.event.name (b live out was)
      | inr after ↦ f live out after
    ]) added before

-- ---- the place of what stands behind another and passes a test

pub some_if : (b : Bool) (p : ℕ) → then_some b p ≡ cond b (Some p) None
some_if true p = refl
some_if false p = refl

pub behind_kept : (places : Places) (test : Item → Bool) (opens : List Item) (settled p q : ℕ) (e : EventName) (o : Option Item) → place_of places e ≡ Some q → o ≡ open_at opens settled (place_of places e) → nat_lt p q ≡ true
    → then_some (option_map_or test o false) q ≡ place_if places (λ r. nat_lt p r && option_map_or test (open_at opens settled (Some r)) false) e
behind_kept places test opens settled p q e o there is lt =
    ap (λ r. then_some (option_map_or test r false) q) (is ∙ ap (open_at opens settled) there)
    ∙ ap (λ b. then_some (b && option_map_or test (open_at opens settled (Some q)) false) q) (sym lt)
    ∙ some_if (nat_lt p q && option_map_or test (open_at opens settled (Some q)) false) q
    ∙ sym (ap (kept_if (λ r. nat_lt p r && option_map_or test (open_at opens settled (Some r)) false)) there)

pub behind_none : (places : Places) (test : Item → Bool) (opens : List Item) (settled p q : ℕ) (e : EventName) → place_of places e ≡ Some q → nat_lt p q ≡ false → None ≡ place_if places (λ r. nat_lt p r && option_map_or test (open_at opens settled (Some r)) false) e
behind_none places test opens settled p q e there ge =
    sym (ap (kept_if (λ r. nat_lt p r && option_map_or test (open_at opens settled (Some r)) false)) there ∙ ap (λ b. cond (b && option_map_or test (open_at opens settled (Some q)) false) (Some q) None) ge)

pub not_less : (p q : ℕ) → q ≤ p → nat_lt p q ≡ false
not_less p q le = by (nat_lt p q) refl
  where
    by : (b : Bool) → nat_lt p q ≡ b → nat_lt p q ≡ false
    by false e = e
    by true e = absurd (let lt = ltb-true p q e in omega (arith, lt, le))

pub kept_there : (places : Places) (test : ℕ → Bool) (e : EventName) (p : ℕ) → place_of places e ≡ Some p → then_some (test p) p ≡ place_if places test e
kept_there places test e p there = some_if (test p) p ∙ sym (ap (kept_if test) there)

-- what is asked of an event that is open, where it stands
pub opened : {A : Type 0} (places : Places) (opens : List Item) (settled : ℕ) (e : EventName) (p : ℕ) (o : Option Item) (f : ℕ → Item → Option A) → place_of places e ≡ Some p → o ≡ open_at opens settled (place_of places e)
    → option_and_then (f p) o ≡ option_and_then (λ q. option_and_then (f q) (open_at opens settled (Some q))) (place_of places e)
opened places opens settled e p o f there is =
    ap (option_and_then (f p)) (is ∙ ap (open_at opens settled) there)
    ∙ sym (ap (option_and_then (λ q. option_and_then (f q) (open_at opens settled (Some q)))) there)
