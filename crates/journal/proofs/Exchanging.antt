-- What the journal tells after neighbours changed places: the same lines with these two exchanged, each with its causes in the new order.
use Rattle.std.proofs.Common.{◌≡◌, ℕ, List, [], ◌∷◌, ◌++◌, map, filter, reverse, length, sym, ap, ◌∙◌}
use Rattle.std.specs.List.{AllByRecursion}
use Rattle.std.proofs.lemmas.List.{reverse-reverse, map-append, length-map}
use Rattle.history.specs.Subject.{Laws}
use Rattle.history.specs.Journal.{Entry, name_of, caused}
use Rattle.history.specs.Records.{State, Row, entries_of}
use Rattle.history.proofs.Lists.{all_map, all_swap, all_reversed, filter_same}
use Rattle.world_cells.specs.World.{World}
use Rattle.world_cells.specs.Theory.{Rule, subject, cells}
use Rattle.journal.specs.Items.{Item, exchanged}
use Rattle.journal.specs.Lines.{plain, Line, entries_in, lines_of, in_order}
use Rattle.journal.specs.Standing.{ItemsStand}
use Rattle.journal.proofs.Reversed.{map-map, map-reverse, filter-map, numbers_reversed, map_same}
use Rattle.journal.proofs.Seats.{lines_same, seats_of, entries_forth}
use Rattle.journal.proofs.Neighbouring.{map-exchanged, exchanged_reversed}
use Rattle.journal.proofs.Telling.{told_entry, entries_told, same_causes}

-- an entry with its causes in the order of these
reordered : List (Entry plain) → Entry plain → Entry plain
reordered es e = record e { causes = map (name_of plain) (filter (caused plain e) es) }

order_entry : (lines : List Line) (l : Line) → (in_order lines l).entry ≡ reordered (map (λ m. m.entry) lines) l.entry
unfolding reordered
order_entry lines l = ap (λ ns. record (l.entry) { causes = ns })
    (sym (ap (map (name_of plain)) (filter-map (λ (m : Line). m.entry) (caused plain l.entry) lines) ∙ map-map (name_of plain) (λ (m : Line). m.entry) _))

-- the entries of lines in order
entries_ordered : (lines : List Line) → entries_in (map (in_order lines) lines) ≡ map (reordered (map (λ m. m.entry) lines)) (entries_in lines)
entries_ordered lines =
    ap reverse (map-map (λ (m : Line). m.entry) (in_order lines) lines ∙ map_same _ _ lines (each lines) ∙ sym (map-map (reordered (map (λ (m : Line). m.entry) lines)) (λ (m : Line). m.entry) lines))
    ∙ sym (map-reverse (reordered (map (λ m. m.entry) lines)) (map (λ m. m.entry) lines))
  where
    each : (ls : List Line) → AllByRecursion (λ l. (in_order lines l).entry ≡ reordered (map (λ m. m.entry) lines) l.entry) ls
    each [] = tt
    each (l ∷ ls) = (order_entry lines l, each ls)

module _ (does : Rule) where
  -- with the causes in the order of others, a row is told as it is among those
  told_reordered : (es : List (Entry (subject does))) (others : List (Row (subject does))) (p : Row (subject does))
      → AllByRecursion (λ q. caused plain (told_entry does es p) (told_entry does es q) ≡ caused (subject does) p.0 q.0) others
      → reordered (reverse (map (told_entry does es) others)) (told_entry does es p) ≡ told_entry does (entries_of others) p
  unfolding reordered
  told_reordered es others p same = ap (λ ns. record (told_entry does es p) { causes = ns })
      (numbers_reversed (told_entry does es) (caused plain (told_entry does es p)) (name_of plain) others
      ∙ ap (map (λ (q : Row (subject does)). name_of (subject does) q.0)) (filter_same _ _ (reverse others) (all_reversed _ others same))
      ∙ sym (numbers_reversed (λ (q : Row (subject does)). q.0) (caused (subject does) p.0) (name_of (subject does)) others))

  module _ (l : Laws (subject does)) {start then : World} {next later : ℕ} {items : List Item} {state other : State cells} (xs : List (Row (subject does))) (a b : Row (subject does)) (ys : List (Row (subject does))) (n : ℕ)
      (h : ItemsStand does start next (xs ++ a ∷ b ∷ ys) items state) (g : ItemsStand does then later (xs ++ b ∷ a ∷ ys) (exchanged n items) other) (behind : length ys ≡ n) where
    abbrev tells : Row (subject does) → Entry plain
    tells = told_entry does (entries_of (xs ++ a ∷ b ∷ ys))

    -- the entries of the exchanged lines
    entries_exchanged : map (λ m. m.entry) (exchanged n (lines_of items)) ≡ reverse (map tells (xs ++ b ∷ a ∷ ys))
    entries_exchanged =
        map-exchanged (λ (m : Line). m.entry) n (lines_of items)
        ∙ ap (exchanged n) (entries_forth (lines_of items) ∙ ap reverse (entries_told does l h ∙ map-append tells xs (a ∷ b ∷ ys)))
        ∙ ap (λ k. exchanged k (reverse (map tells xs ++ tells a ∷ tells b ∷ map tells ys))) (sym behind ∙ sym (length-map ys tells))
        ∙ exchanged_reversed (map tells xs) (tells a) (tells b) (map tells ys)
        ∙ ap reverse (sym (map-append tells xs (b ∷ a ∷ ys)))

    still_caused : AllByRecursion (λ p. AllByRecursion (λ q. caused plain (tells p) (tells q) ≡ caused (subject does) p.0 q.0) (xs ++ b ∷ a ∷ ys)) (xs ++ b ∷ a ∷ ys)
    still_caused = all_swap _ xs a b ys (all_map _ _ (xs ++ a ∷ b ∷ ys) (λ p qs. all_swap _ xs a b ys qs) (same_causes does l h))

    -- THE LEMMA
    pub lines_exchanged : lines_of (exchanged n items) ≡ map (in_order (exchanged n (lines_of items))) (exchanged n (lines_of items))
    lines_exchanged = lines_same _ _
        (seats_of (exchanged n items)
        ∙ map-exchanged (λ (i : Item). i.seat) n items
        ∙ ap (exchanged n) (sym (seats_of items))
        ∙ sym (map-exchanged (λ (m : Line). m.seat) n (lines_of items))
        ∙ sym (map-map (λ (m : Line). m.seat) (in_order (exchanged n (lines_of items))) (exchanged n (lines_of items))))
        (entries_told does l g
        ∙ sym (map_same _ _ (xs ++ b ∷ a ∷ ys) (all_map _ _ (xs ++ b ∷ a ∷ ys) (λ p same. told_reordered (entries_of (xs ++ a ∷ b ∷ ys)) (xs ++ b ∷ a ∷ ys) p same) still_caused))
        ∙ sym (map-map (reordered (reverse (map tells (xs ++ b ∷ a ∷ ys)))) tells (xs ++ b ∷ a ∷ ys))
        ∙ ap (λ (es : List (Entry plain)). map (reordered es) (map tells (xs ++ b ∷ a ∷ ys))) (sym entries_exchanged)
        ∙ ap (map (reordered (map (λ (m : Line). m.entry) (exchanged n (lines_of items))))) (sym (reverse-reverse (map tells (xs ++ b ∷ a ∷ ys))) ∙ ap reverse (sym entries_exchanged))
        ∙ sym (entries_ordered (exchanged n (lines_of items))))
