-- Who has a member of a set as a cause is told by last writers.
use Rattle.std.proofs.Common.{◌≡◌, ◌∙◌, ℕ, Bool, true, false, cond, ◌&&◌, ◌||◌, List, [], ◌∷◌, Option, Some, is_some, refl, sym, ap}
use Rattle.std.specs.List.{list_any, AllByRecursion}
use Rattle.std.proofs.lemmas.Bool.{both_ways, or_left, or_right, and_parts}
use Rattle.history.specs.Subject.{Laws, found, touches, meets}
use Rattle.history.specs.Journal.{Entry, named, caused, Closed}
use Rattle.history.specs.Chains.{wrote, last_writer, Linked, HasCells, Traced}
use Rattle.history.proofs.Lists.{all_map, all_both, all_of, any_gives, any_same, any_none}
use Rattle.ids.specs.CellKeys.{same_key}
use Rattle.ids.specs.declared.cells.CellKey.{CellKey}
use Rattle.ids.proofs.CellKeys.{same_exact, same_self}
use Rattle.journal.specs.Lines.{plain}
use Rattle.causality.specs.Names.{is_writer_in}

-- entries without contents are told apart by the same keys
pub plain_laws : Laws plain
plain_laws = record {
  same_exact = same_exact;
  same_self = same_self;
  law = λ e f w v d agree. absurd d;
  once = λ e w f g d also. absurd d;
}

pub any_or : {A : Type 0} (p q : A → Bool) (xs : List A) → list_any (λ a. p a || q a) xs ≡ (list_any p xs || list_any q xs)
any_or p q [] = refl
any_or p q (x ∷ xs) = ap (λ b. (p x || q x) || b) (any_or p q xs) ∙ mixed (p x) (q x) (list_any p xs) (list_any q xs)
  where
    mixed : (a b c d : Bool) → ((a || b) || (c || d)) ≡ ((a || c) || (b || d))
    mixed true b c d = refl
    mixed false true true d = refl
    mixed false true false d = refl
    mixed false false c d = refl

pub any_and : {A : Type 0} (b : Bool) (p : A → Bool) (xs : List A) → list_any (λ a. b && p a) xs ≡ (b && list_any p xs)
any_and true p xs = refl
any_and false p xs = any_none _ xs (all_of _ xs (λ a. refl))

-- of two lists either may be gone through first
any_turned : {A B : Type 0} (r : A → B → Bool) (xs : List A) (ys : List B) → list_any (λ x. list_any (r x) ys) xs ≡ list_any (λ y. list_any (λ x. r x y) xs) ys
any_turned r [] ys = sym (any_none _ ys (all_of _ ys (λ y. refl)))
any_turned r (x ∷ xs) ys = ap (λ b. list_any (r x) ys || b) (any_turned r xs ys) ∙ sym (any_or (r x) (λ y. list_any (λ z. r z y) xs) ys)

-- an entry wrote a cell where one of its writes is of it
pub wrote_any : (k : CellKey) (ws : List (CellKey × Unit {0})) → is_some (found plain ws k) ≡ list_any (λ w. same_key w.0 k) ws
wrote_any k [] = refl
wrote_any k (w ∷ ws) = first (same_key w.0 k) (wrote_any k ws)
  where
    first : (b : Bool) → is_some (found plain ws k) ≡ list_any (λ v. same_key v.0 k) ws → is_some (cond b (Some w.1) (found plain ws k)) ≡ (b || list_any (λ v. same_key v.0 k) ws)
    first true h = refl
    first false h = h

-- an entry meets another where it wrote one of the cells that this has
pub meets_any : (a e : Entry plain) → HasCells plain e.foot e.lasts → meets plain a.foot e.foot ≡ list_any (λ p. wrote plain p.0 a) e.lasts
meets_any a e cells =
    any_same _ _ a.foot.writes (all_of _ a.foot.writes (λ w. sym (cells w.0)))
    ∙ any_turned (λ (w : CellKey × Unit {0}) (p : CellKey × Option ℕ). same_key w.0 p.0) a.foot.writes e.lasts
    ∙ any_same _ _ e.lasts (all_of _ e.lasts (λ p. sym (wrote_any p.0 a.foot.writes)))

-- the cells that an entry has are those that it touches
pub touched_each : (e : Entry plain) → HasCells plain e.foot e.lasts → AllByRecursion (λ p. touches plain e.foot p.0 ≡ true) e.lasts
touched_each e cells = each e.lasts (λ k q. sym (cells k) ∙ q)
  where
    each : (ps : List (CellKey × Option ℕ)) → ((k : CellKey) → list_any (λ p. same_key k p.0) ps ≡ true → touches plain e.foot k ≡ true) → AllByRecursion (λ p. touches plain e.foot p.0 ≡ true) ps
    each [] f = tt
    each (p ∷ ps) f = (f p.0 (or_left _ _ (plain_laws.same_self p.0)), each ps (λ k q. f k (or_right (same_key k p.0) _ q)))

-- ns names a set of entries, u is a test by which each that has a member as a cause is a member
module _ (ns : List ℕ) (u : Entry plain → Bool) where
  abbrev member : Entry plain → Bool
  member = named plain ns

  abbrev wrote_in : CellKey → (Entry plain → Bool) → Entry plain → Bool
  wrote_in k t a = member a && (t a && wrote plain k a)

  -- of those of t that wrote a cell one is a member just where the newest of them is
  newest_tells : (k : CellKey) (t : Entry plain → Bool) (es : List (Entry plain)) → AllByRecursion (λ a. t a ≡ true → u a ≡ true) es → Linked plain k t es → Closed plain u member es
      → list_any (wrote_in k t) es ≡ is_writer_in ns (last_writer plain k t es)
  newest_tells k t [] part links closed = refl
  newest_tells k t (a ∷ es) (part, rest) (link, links) (closed, more) = by (t a) (wrote plain k a) refl refl (newest_tells k t es rest links more)
    where
      only : (b : Entry plain) → (caused plain a b && wrote plain k b) ≡ (t b && wrote plain k b) → (member b ≡ true → caused plain a b ≡ true → member a ≡ true) → wrote_in k t b ≡ true → member a ≡ true
      only b same joins h = let both = and_parts (member b) _ h in joins both.0 (and_parts (caused plain a b) _ (same ∙ both.1)).0

      absorbed : (c d : Bool) → (d ≡ true → c ≡ true) → ((c && true) || d) ≡ c
      absorbed true d h = refl
      absorbed false true h = absurd (both_ways _ refl (h refl))
      absorbed false false h = refl

      passed : (c d : Bool) → ((c && false) || d) ≡ d
      passed true d = refl
      passed false d = refl

      by : (x y : Bool) → t a ≡ x → wrote plain k a ≡ y → list_any (wrote_in k t) es ≡ is_writer_in ns (last_writer plain k t es)
          → ((member a && (x && y)) || list_any (wrote_in k t) es) ≡ is_writer_in ns (cond (x && y) (Some a.event.name.0) (last_writer plain k t es))
      by true true e f ih = absorbed (member a) (list_any (wrote_in k t) es)
          (λ h. any_gives (member a ≡ true) (wrote_in k t) es h (all_both _ _ _ es (λ b same joins. only b same joins) (link e f) (closed (part e))))
      by true false e f ih = passed (member a) _ ∙ ih
      by false y e f ih = passed (member a) _ ∙ ih

  -- THE LEMMA: an entry has a member as a cause just where one was the last writer of a cell that it touched
  pub last_tells : (e : Entry plain) (es : List (Entry plain)) → Traced plain e es → AllByRecursion (λ a. caused plain e a ≡ true → u a ≡ true) es → Closed plain u member es
      → list_any (λ a. member a && caused plain e a) es ≡ list_any (λ p. is_writer_in ns p.1) e.lasts
  last_tells e es h part closed =
      any_same _ _ es (all_map _ _ es (λ a met. each a (caused plain e a) met) h.met)
      ∙ any_turned (λ (a : Entry plain) (p : CellKey × Option ℕ). wrote_in p.0 (caused plain e) a) es e.lasts
      ∙ any_same _ _ e.lasts (all_both _ _ _ e.lasts (λ p touched last. newest_tells p.0 (caused plain e) es part (h.linked p.0 touched) closed ∙ ap (is_writer_in ns) (sym last)) (touched_each e h.cells) h.lasts)
    where
      met_once : (x m : Bool) → (x ≡ true → m ≡ true) → x ≡ (x && m)
      met_once true m g = sym (g refl)
      met_once false m g = refl

      each : (a : Entry plain) (x : Bool) → (x ≡ true → meets plain a.foot e.foot ≡ true) → (member a && x) ≡ list_any (λ p. member a && (x && wrote plain p.0 a)) e.lasts
      each a x met =
          ap (λ b. member a && b) (met_once x _ met ∙ ap (λ b. x && b) (meets_any a e h.cells) ∙ sym (any_and x (λ p. wrote plain p.0 a) e.lasts))
          ∙ sym (any_and (member a) (λ p. x && wrote plain p.0 a) e.lasts)

-- the causes of a live entry are live
pub live_causes : (e : Entry plain) (es : List (Entry plain)) → AllByRecursion (λ a. caused plain e a ≡ (a.live && meets plain a.foot e.foot)) es → AllByRecursion (λ a. caused plain e a ≡ true → a.live ≡ true) es
live_causes e es h = all_map _ _ es (λ a same is. (and_parts a.live _ (sym same ∙ is)).0) h
