-- What a set lacks for a redo is found item by item, among those before each.
use Rattle.std.proofs.Common.{◌≡◌, ◌∙◌, Bool, false, cond, ◌&&◌, List, [], ◌∷◌, ◌++◌, map, Option, Some, None, refl, ap, sym, append_assoc}
use Rattle.std.specs.Prelude.{not}
use Rattle.std.specs.Option.{option_map, option_or}
use Rattle.std.specs.List.{AllByRecursion}
use Rattle.std.proofs.lemmas.List.{map-append}
use Rattle.history.specs.Journal.{caused}
use Rattle.history.specs.Subject.{meets}
use Rattle.history.proofs.Lists.{all_map}
use Rattle.ids.specs.declared.names.EventName.{EventName}
use Rattle.journal.specs.Items.{Item}
use Rattle.journal.specs.Lines.{plain, line_of, lines_of}
use Rattle.causality.specs.Selections.{name_of, is_member, first_some, gap, missing_cause, first_missing_cause, crossing, first_crossing_behind, first_crossing}
use Rattle.causality.specs.Walks.{stays, first_item, first_along}
use Rattle.causality.specs.declared.selection.Gap.{Gap}
use Rattle.causality.proofs.Facts.{Older, entry_at, older_items, own_items}
use Rattle.causality.proofs.Firsts.{some_mapped, some_until, cond_none}
use Rattle.causality.proofs.Pairs.{Amid, Around, pairs_around}
use Rattle.causality.proofs.Telling.{Tells}

-- a later item and an earlier one
abbrev Caused : List Item → Item → Item → Bool
Caused all i f = caused plain (entry_at all i) (entry_at all f)

abbrev OlderIn : List Item → Item → Item → Type 0
OlderIn all f i = Older (entry_at all f) (entry_at all i)

module _ (names : List EventName) (all : List Item) where
  abbrev misses : Item → Item → Bool
  misses i f = Caused all i f && not (stays names f)

  -- the first that an item misses, and the first that it crosses, among those before it
  abbrev pub missing_along : List Item → Item → Option Gap
  missing_along before i = cond (stays names i) (option_map (gap i.event.name) (first_item (misses i) before)) None

  abbrev pub crossing_along : List Item → Item → Option Gap
  crossing_along before i =
      cond (stays names i) (option_map (gap i.event.name) (first_item (λ f. stays names f && (meets plain (entry_at all f).foot (entry_at all i).foot && not (Caused all i f))) before)) None

  -- what is missing is looked for among older items alone
  missing_older : (before items : List Item) (i : Item) → all ≡ before ++ i ∷ items → Amid (OlderIn all) before i items → Caused all i i ≡ false → missing_cause names (lines_of all) (line_of all i) ≡ first_item (misses i) before
  missing_older before items i is p own =
      some_mapped (λ f. cond (caused plain (entry_at all i) f.entry && not (is_member names f)) (Some (name_of f)) None) (line_of all) all
      ∙ ap (first_some answer) is
      ∙ some_until answer before (i ∷ items) (none i own, all_map _ _ items (λ f o. none f o.order) p.newer)
    where
      answer : Item → Option EventName
      answer f = cond (misses i f) (Some f.event.name) None

      none : (f : Item) → Caused all i f ≡ false → answer f ≡ None
      none f h = cond_none (misses i f) (Some f.event.name) (ap (λ b. b && not (stays names f)) h)

  missing_from : (before items : List Item) → all ≡ before ++ items → Around (Amid (OlderIn all)) before items → AllByRecursion (λ i. Caused all i i ≡ false) items
      → first_some (λ e. cond (is_member names e) (option_map (gap (name_of e)) (missing_cause names (lines_of all) e)) None) (map (line_of all) items) ≡ first_along missing_along before items
  missing_from before [] is h own = refl
  missing_from before (i ∷ items) is (p, h) (o, own) =
      λ t. option_or
      (cond (stays names i) (option_map (gap i.event.name) (missing_older before items i is p o t)) None)
      (missing_from (before ++ i ∷ []) items (is ∙ sym (append_assoc before (i ∷ []) items)) h own t)

  -- THE FIRST MISSING CAUSE
  pub missing_walked : Tells (lines_of all) → first_missing_cause names (lines_of all) ≡ first_along missing_along [] all
  missing_walked h = missing_from [] all refl (pairs_around (OlderIn all) all (older_items all h)) (own_items all h)

  crossing_from : (before items : List Item) → first_crossing_behind names (map (line_of all) before) (map (line_of all) items) ≡ first_along crossing_along before items
  crossing_from before [] = refl
  crossing_from before (i ∷ items) =
      (λ t. option_or (cond (stays names i) (option_map (gap i.event.name) (here t)) None) (first_crossing_behind names (sym (map-append (line_of all) before (i ∷ [])) t) (map (line_of all) items)))
      ∙ ap (option_or (crossing_along before i)) (crossing_from (before ++ i ∷ []) items)
    where
      here : crossing names (map (line_of all) before) (line_of all i) ≡ first_item (λ f. stays names f && (meets plain (entry_at all f).foot (entry_at all i).foot && not (Caused all i f))) before
      here = some_mapped (λ f. cond (is_member names f && (meets plain f.entry.foot (entry_at all i).foot && not (caused plain (entry_at all i) f.entry))) (Some (name_of f)) None) (line_of all) before

  -- THE FIRST CROSSING
  pub crossing_walked : first_crossing names (lines_of all) ≡ first_along crossing_along [] all
  crossing_walked = crossing_from [] all
