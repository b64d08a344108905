-- The first gap of a live set is found by what its members wrote.
use Rattle.std.proofs.Common.{◌≡◌, ◌∙◌, Bool, true, false, cond, ◌&&◌, List, [], ◌∷◌, ◌++◌, map, Option, Some, None, refl, ap, sym, append_assoc}
use Rattle.std.specs.Prelude.{not}
use Rattle.std.specs.Option.{option_map, option_or}
use Rattle.std.specs.List.{AllByRecursion}
use Rattle.std.proofs.lemmas.Bool.{and_right}
use Rattle.history.specs.Chains.{HasCells}
use Rattle.history.specs.Journal.{caused}
use Rattle.history.specs.Subject.{meets}
use Rattle.history.proofs.Lists.{all_map, all_both}
use Rattle.ids.specs.declared.names.EventName.{EventName}
use Rattle.journal.specs.Items.{Item, wrote_one_of}
use Rattle.journal.specs.Lines.{plain, line_of, lines_of}
use Rattle.journal.specs.declared.entry.Mark.TheVariants as mark
use Rattle.causality.proofs.Telling.{Tells}
use Rattle.causality.specs.Selections.{name_of, is_live, chosen, first_some, first_marked, gap, consequence, first_gap}
use Rattle.causality.specs.Walks.{is_of, follower, first_followed}
use Rattle.causality.proofs.Facts.{Older, entry_at, older_items, own_items, cells_items, wrote_meets}
use Rattle.causality.proofs.Firsts.{some_mapped, some_same, some_past, none_each, cond_none, cond_same}
use Rattle.causality.proofs.Pairs.{Amid, Around, pairs_around, all_unmapped}

-- what is known of an item: it is not its own cause, its touched cells are known, and it is live if it is of the set
record Known (names : List EventName) (all : List Item) (i : Item) : Type 0 where
  own : caused plain (entry_at all i) (entry_at all i) ≡ false
  cells : HasCells plain (entry_at all i).foot i.lasts
  live : is_of names i ≡ true → i.live ≡ true

pub live_at : (c live : Bool) (e : EventName) → cond (c && not live) (Some e) None ≡ None → c ≡ true → live ≡ true
live_at true true n h e = refl
live_at true false n h e = cc
live_at false live n h e = cc

known : (names : List EventName) (all : List Item) → Tells (lines_of all) → first_marked mark.Undone names (lines_of all) ≡ None → AllByRecursion (Known names all) all
known names all h none =
    let live : AllByRecursion (λ i. is_of names i ≡ true → i.live ≡ true) all =
    all_unmapped (line_of all) (λ l. chosen names l ≡ true → is_live l ≡ true) all (all_map _ _ (lines_of all) (λ l e. live_at (chosen names l) (is_live l) (name_of l) e) (none_each _ (lines_of all) none)) in
    all_both (λ i. caused plain (entry_at all i) (entry_at all i) ≡ false) (λ i. HasCells plain (entry_at all i).foot i.lasts × (is_of names i ≡ true → i.live ≡ true)) (Known names all) all
    (λ i o p. record { own = o; cells = p.0; live = p.1 }) (own_items all h) (all_both _ _ _ all (λ i p q. (p, q)) (cells_items all h) live)

-- a live item has one of the set as a cause just where it touched what that one wrote
follows : (names : List EventName) (all : List Item) (i j : Item) → i.live ≡ true → Older (entry_at all i) (entry_at all j) → Known names all j
    → (j.live && (not (is_of names j) && caused plain (entry_at all j) (entry_at all i))) ≡ (j.live && (not (is_of names j) && wrote_one_of i j))
follows names all i j live o k = at j.live o.causes
  where
    at : (b : Bool) → (b ≡ true → caused plain (entry_at all j) (entry_at all i) ≡ (i.live && meets plain (entry_at all i).foot (entry_at all j).foot))
        → (b && (not (is_of names j) && caused plain (entry_at all j) (entry_at all i))) ≡ (b && (not (is_of names j) && wrote_one_of i j))
    at false h = refl
    at true h = ap (λ c. not (is_of names j) && c) (h refl ∙ ap (λ l. l && meets plain (entry_at all i).foot (entry_at all j).foot) live ∙ wrote_meets all i j k.cells)

walked : (names : List EventName) (all before items : List Item) → all ≡ before ++ items → Around (Amid (λ i j. Older (entry_at all i) (entry_at all j))) before items → AllByRecursion (Known names all) items
    → first_some (λ e. cond (chosen names e) (option_map (gap (name_of e)) (consequence names (lines_of all) e)) None) (map (line_of all) items) ≡ first_followed names items
walked names all before [] is h k = refl
walked names all before (i ∷ items) is (p, h) (k, ks) =
    λ t. option_or
    (cond_same (is_of names i) _ _ None (λ member. ap (option_map (gap i.event.name)) (here member)) t)
    (walked names all (before ++ i ∷ []) items (is ∙ sym (append_assoc before (i ∷ []) items)) h ks t)
  where
    comes : Item → Bool
    comes j = j.live && (not (is_of names j) && caused plain (entry_at all j) (entry_at all i))

    answer : Item → Option EventName
    answer j = cond (comes j) (Some j.event.name) None

    no_answer : (j : Item) → caused plain (entry_at all j) (entry_at all i) ≡ false → answer j ≡ None
    no_answer j h = cond_none (comes j) (Some j.event.name) (and_right j.live _ (and_right (not (is_of names j)) _ h))

    here : is_of names i ≡ true → consequence names (lines_of all) (line_of all i) ≡ follower names i items
    here member =
        some_mapped (λ l. cond (is_live l && (not (chosen names l) && caused plain l.entry (entry_at all i))) (Some (name_of l)) None) (line_of all) all
        ∙ ap (first_some answer) is
        ∙ some_past answer before (i ∷ items) (all_map _ _ before (λ j o. no_answer j o.order) p.older)
        ∙ ap (λ o. option_or o (first_some answer items)) (no_answer i k.own)
        ∙ some_same answer (λ j. cond (j.live && (not (is_of names j) && wrote_one_of i j)) (Some j.event.name) None) items
        (all_both _ _ _ items (λ j o q. ap (λ b. cond b (Some j.event.name) None) (follows names all i j (k.live member) o q)) p.newer ks)

-- THE FIRST GAP of a set that is live
pub gap_walked : (names : List EventName) (all : List Item) → Tells (lines_of all) → first_marked mark.Undone names (lines_of all) ≡ None → first_gap names (lines_of all) ≡ first_followed names all
gap_walked names all h none = walked names all [] all refl (pairs_around _ all (older_items all h)) (known names all h none)
