-- What a set of which none is settled lacks is found behind what is settled.
use Rattle.std.proofs.Common.{◌≡◌, ◌∙◌, ℕ, ◌+◌, ◌==◌, Bool, true, false, cond, ◌&&◌, ◌||◌, List, [], ◌∷◌, ◌++◌, Option, Some, None, length, map, take, refl, sym, ap, ap₂, arith}
use Rattle.std.specs.List.{list_any, AllByRecursion}
use Rattle.std.proofs.lemmas.List.{map-append}
use Rattle.history.proofs.Lists.{all_map}
use Rattle.ids.specs.declared.names.EventName.{EventName}
use Rattle.ids.specs.declared.cells.CellKey.{CellKey}
use Rattle.journal.specs.Items.{Item}
use Rattle.journal.specs.Journals.{items_of, settled_item}
use Rattle.journal.specs.Lines.{Line, line_of}
use Rattle.journal.specs.declared.entry.Mark.{Mark}
use Rattle.journal.specs.declared.journal.Journal.{Journal}
use Rattle.journal.specs.declared.settled.Settled.{Settled}
use Rattle.causality.specs.Journals.{NoneSettled}
use Rattle.causality.specs.Names.{is_writer_in, wrote_last}
use Rattle.causality.specs.Selections.{name_of, chosen, first_name, has_mark, first_marked, places_from}
use Rattle.causality.specs.Walks.{is_of, joins, joined_with, gathered}
use Rattle.causality.proofs.Firsts.{some_past, none_each}
use Rattle.causality.proofs.Numbered.{flipped}

-- settled items are live
pub settled_live : (ss : List Settled) → AllByRecursion (λ i. i.live ≡ true) (map settled_item ss)
settled_live [] = tt
settled_live (s ∷ ss) = (refl, settled_live ss)

-- as many lines as are settled
pub lines_taken : {A : Type 0} (f : Item → A) (ss : List Settled) (ys : List Item) → take (length ss) (map f (map settled_item ss ++ ys)) ≡ map f (map settled_item ss)
lines_taken f [] ys = refl
lines_taken f (s ∷ ss) ys = ap (λ l. f (settled_item s) ∷ l) (lines_taken f ss ys)

-- none of them is of the set
not_chosen : (b : Bool) (e : EventName) → cond b (Some e) None ≡ None → b ≡ false
not_chosen true e h = cc
not_chosen false e h = refl

all_unlined : {A : Type 0} (P : A → Type 0) (f : Item → A) (is : List Item) → AllByRecursion P (map f is) → AllByRecursion (λ i. P (f i)) is
all_unlined P f [] h = tt
all_unlined P f (i ∷ is) (h, hs) = (h, all_unlined P f is hs)

pub none_of : (names : List EventName) (j : Journal) → NoneSettled names j → AllByRecursion (λ i. is_of names i ≡ false) (map settled_item j.settled.now)
none_of names j h =
    let f = line_of (items_of j) in
    let taken = lines_taken f j.settled.now _ in
    let none : first_name (chosen names) (map f (map settled_item j.settled.now)) ≡ None = ap (first_name (chosen names)) (sym taken) ∙ h in
    all_map _ _ (map settled_item j.settled.now) (λ i e. not_chosen (is_of names i) i.event.name e)
    (all_unlined (λ l. cond (chosen names l) (Some (name_of l)) None ≡ None) f (map settled_item j.settled.now) (none_each _ (map f (map settled_item j.settled.now)) none))

module _ (names : List EventName) (all : List Item) where
  -- the first with a mark
  pub marked_past : (m : Mark) (ss ys : List Item) → AllByRecursion (λ i. is_of names i ≡ false) ss → first_marked m names (map (line_of all) (ss ++ ys)) ≡ first_marked m names (map (line_of all) ys)
  marked_past m ss ys none =
      ap (first_marked m names) (map-append (line_of all) ss ys)
      ∙ some_past (λ (l : Line). cond (chosen names l && has_mark m l) (Some (name_of l)) None) (map (line_of all) ss) (map (line_of all) ys) (unmarked ss none)
    where
      unmarked : (is : List Item) → AllByRecursion (λ i. is_of names i ≡ false) is → AllByRecursion (λ (l : Line). cond (chosen names l && has_mark m l) (Some (name_of l)) None ≡ None) (map (line_of all) is)
      unmarked [] h = tt
      unmarked (i ∷ is) (h, hs) = (ap (λ b. cond (b && has_mark m (line_of all i)) (Some i.event.name) None) h, unmarked is hs)

  -- positions
  pub places_past : (n : ℕ) (ss ys : List Item) → AllByRecursion (λ i. is_of names i ≡ false) ss → places_from n names (map (line_of all) (ss ++ ys)) ≡ places_from (n + length ss) names (map (line_of all) ys)
  places_past n [] ys none = let e : n ≡ n + 0 = omega arith in ap (λ k. places_from k names (map (line_of all) ys)) e
  places_past n (i ∷ ss) ys (h, none) =
      let e : (n + 1) + length ss ≡ n + length (i ∷ ss) = omega arith in
      ap (λ b. cond b (n ∷ places_from (n + 1) names (map (line_of all) (ss ++ ys))) (places_from (n + 1) names (map (line_of all) (ss ++ ys)))) h
      ∙ places_past (n + 1) ss ys none ∙ ap (λ k. places_from k names (map (line_of all) ys)) e

-- what joins
none_wrote : (i : Item) → wrote_last [] i ≡ false
none_wrote i = never i.lasts
  where
    nobody : (o : Option ℕ) → is_writer_in [] o ≡ false
    nobody None = refl
    nobody (Some n) = refl

    never : (ls : List (CellKey × Option ℕ)) → list_any (λ p. is_writer_in [] p.1) ls ≡ false
    never [] = refl
    never (p ∷ ls) = ap₂ (λ a b. a || b) (nobody p.1) (never ls)

both_not : (a : Bool) → (a && false) ≡ false
both_not true = refl
both_not false = refl

one_not : (a : Bool) → (a || false) ≡ false → a ≡ false
one_not true h = h
one_not false h = refl

pub gathered_past : (root : EventName) (ss ys : List Item) → AllByRecursion (λ i. is_of (root ∷ []) i ≡ false) ss → gathered root [] (ss ++ ys) ≡ gathered root [] ys
gathered_past root [] ys none = refl
gathered_past root (i ∷ ss) ys (h, none) =
    let apart : (i.event.name.0 == root.0) ≡ false = flipped i.event.name.0 root.0 ∙ one_not (root.0 == i.event.name.0) h in
    let out : joins root [] i ≡ false = ap₂ (λ a b. a || (i.live && b)) apart (none_wrote i) ∙ both_not i.live in
    ap (λ b. gathered root (joined_with b [] i) (ss ++ ys)) out ∙ gathered_past root ss ys none
