-- The first pair among entries, the newest of which comes first, is the first one along items.
use Rattle.std.proofs.Common.{◌≡◌, ◌∙◌, ℕ, Bool, true, false, cond, List, [], ◌∷◌, ◌++◌, append-nil, append_assoc, Option, Some, None, option_map, map, reverse, refl, sym, ap}
use Rattle.std.specs.Option.{option_or}
use Rattle.std.proofs.lemmas.List.{reverse-append, map-append}
use Rattle.history.specs.Journal.{Entry, name_of}
use Rattle.history_consequences.specs.Refusals.{oldest, first_pair}
use Rattle.ids.specs.declared.names.EventName.{EventName}
use Rattle.journal.specs.Items.{Item}
use Rattle.journal.specs.Lines.{plain, lines_of, entries_in}
use Rattle.causality.specs.Selections.{gap}
use Rattle.causality.specs.Walks.{first_item, first_along}
use Rattle.causality.specs.declared.selection.Gap.{Gap}
use Rattle.causality.proofs.Facts.{entry_at, same_entries}

abbrev pub named : ℕ → EventName
named n = record { 0 = n }

abbrev pub pair_gap : ℕ × ℕ → Gap
pair_gap p = gap (named p.0) (named p.1)

or_none : {A : Type 0} (o : Option A) → o ≡ option_or o None
or_none None = refl
or_none (Some x) = refl

-- one more answer, behind those of what is older
more : {A B C : Type 0} (f : B → C) (o : Option B) (g : A → B) (h : A → C) → ((a : A) → f (g a) ≡ h a) → (x : Option A) (r : Option C) → option_or (option_map f (option_or o (option_map g x))) r ≡ option_or (option_map f o) (option_or (option_map h x) r)
more f None g h e None r = refl
more f None g h e (Some a) r = ap Some (e a)
more f (Some b) g h e x r = refl

module _ (all : List Item) where
  abbrev at : Item → Entry plain
  at = entry_at all

  one_more : (u : Item) (us : List Item) (es : List (Entry plain)) → map at (reverse (u ∷ us)) ++ es ≡ map at (reverse us) ++ at u ∷ es
  one_more u us es =
      ap (λ l. map at l ++ es) (reverse-append (u ∷ []) us) ∙ ap (λ l. l ++ es) (map-append at (reverse us) (u ∷ []))
      ∙ append_assoc (map at (reverse us)) (at u ∷ []) es

  oldest_behind : (test : Entry plain → Bool) (us : List Item) (es : List (Entry plain))
      → option_map named (oldest plain test (map at (reverse us) ++ es)) ≡ option_or (option_map named (oldest plain test es)) (first_item (λ i. test (at i)) us)
  oldest_behind test [] es = or_none (option_map named (oldest plain test es))
  oldest_behind test (u ∷ us) es =
      ap (λ l. option_map named (oldest plain test l)) (one_more u us es) ∙ oldest_behind test us (at u ∷ es) ∙ by (test (at u)) (oldest plain test es)
    where
      by : (b : Bool) (o : Option ℕ) → option_or (option_map named (option_or o (cond b (Some (name_of plain (at u))) None))) (first_item (λ i. test (at i)) us)
          ≡ option_or (option_map named o) (option_or (cond b (Some u.event.name) None) (first_item (λ i. test (at i)) us))
      by b (Some n) = refl
      by true None = refl
      by false None = refl

  -- the oldest entry is the first item
  pub oldest_is : (test : Entry plain → Bool) (us : List Item) → option_map named (oldest plain test (map at (reverse us))) ≡ first_item (λ i. test (at i)) us
  oldest_is test us = ap (λ l. option_map named (oldest plain test l)) (sym (append-nil (map at (reverse us)))) ∙ oldest_behind test us []

  pair_behind : (one : Entry plain → List (Entry plain) → Option ℕ) (before us : List Item)
      → option_map pair_gap (first_pair plain one (map at (reverse us) ++ map at (reverse before)))
      ≡ option_or (option_map pair_gap (first_pair plain one (map at (reverse before)))) (first_along (λ bs i. option_map (λ n. gap i.event.name (named n)) (one (at i) (map at (reverse bs)))) before us)
  pair_behind one before [] = or_none (option_map pair_gap (first_pair plain one (map at (reverse before))))
  pair_behind one before (i ∷ us) =
      let turned : at i ∷ map at (reverse before) ≡ map at (reverse (before ++ i ∷ [])) = ap (map at) (sym (reverse-append before (i ∷ []))) in
      let rest = first_along (λ bs j. option_map (λ n. gap j.event.name (named n)) (one (at j) (map at (reverse bs)))) (before ++ i ∷ []) us in
      ap (λ l. option_map pair_gap (first_pair plain one l)) (one_more i us (map at (reverse before)) ∙ ap (λ l. map at (reverse us) ++ l) turned)
      ∙ pair_behind one (before ++ i ∷ []) us
      ∙ ap (λ l. option_or (option_map pair_gap (first_pair plain one l)) rest) (sym turned)
      ∙ more pair_gap (first_pair plain one (map at (reverse before))) (λ n. (name_of plain (at i), n)) (λ n. gap i.event.name (named n)) (λ n. refl) (one (at i) (map at (reverse before))) rest

  -- THE LEMMA: of entries that pass a test, the first for which an older one is found, and the oldest such one
  pub first_pairs : (who : Entry plain → Bool) (test : Entry plain → List (Entry plain) → Entry plain → Bool)
      → option_map pair_gap (first_pair plain (λ e es. cond (who e) (oldest plain (test e es) es) None) (entries_in (lines_of all)))
      ≡ first_along (λ us i. cond (who (at i)) (option_map (gap i.event.name) (first_item (λ f. test (at i) (map at (reverse us)) (at f)) us)) None) [] all
  first_pairs who test =
      ap (λ l. option_map pair_gap (first_pair plain one l)) (sym (append-nil (map at (reverse all)) ∙ same_entries all))
      ∙ pair_behind one [] all
      ∙ (λ t. first_along (λ us i. each us i t) [] all)
    where
      one : Entry plain → List (Entry plain) → Option ℕ
      one e es = cond (who e) (oldest plain (test e es) es) None

      found : (b : Bool) (i : Item) (o : Option ℕ) (r : Option EventName) → option_map named o ≡ r → option_map (λ n. gap i.event.name (named n)) (cond b o None) ≡ cond b (option_map (gap i.event.name) r) None
      found false i o r h = refl
      found true i None r h = ap (option_map (gap i.event.name)) h
      found true i (Some n) r h = ap (option_map (gap i.event.name)) h

      each : (us : List Item) (i : Item) → option_map (λ n. gap i.event.name (named n)) (cond (who (at i)) (oldest plain (test (at i) (map at (reverse us))) (map at (reverse us))) None)
          ≡ cond (who (at i)) (option_map (gap i.event.name) (first_item (λ f. test (at i) (map at (reverse us)) (at f)) us)) None
      each us i = found (who (at i)) i (oldest plain (test (at i) (map at (reverse us))) (map at (reverse us))) _ (oldest_is (test (at i) (map at (reverse us))) us)
