-- Lines are their seats and their entries.
use Rattle.std.proofs.Common.{◌≡◌, ℕ, List, [], ◌∷◌, map, reverse, zip, refl, sym, ap, ap₂, ◌∙◌}
use Rattle.std.proofs.lemmas.List.{reverse-reverse}
use Rattle.history.specs.Journal.{Entry}
use Rattle.journal.specs.Items.{Item}
use Rattle.journal.specs.Lines.{plain, Line, entries_in, line_of, lines_of}
use Rattle.journal.proofs.Reversed.{map-map}

-- lists of which two things are told are told of both
pub map_pair : {A B C : Type 0} (f : A → B) (g : A → C) (xs : List A) → map (λ x. (f x, g x)) xs ≡ zip (map f xs) (map g xs)
map_pair f g [] = refl
map_pair {B = B} {C = C} f g (x ∷ xs) = ap (λ (l : List (B × C)). (f x, g x) ∷ l) (map_pair f g xs)

line_from : ℕ × Entry plain → Line
line_from p = record { seat = p.0; entry = p.1 }

lines_from : (ls : List Line) → ls ≡ map line_from (zip (map (λ l. l.seat) ls) (map (λ l. l.entry) ls))
unfolding line_from
lines_from [] = refl
lines_from (l ∷ ls) = ap (λ ms. l ∷ ms) (lines_from ls)

pub entries_forth : (ls : List Line) → map (λ l. l.entry) ls ≡ reverse (entries_in ls)
entries_forth ls = sym (reverse-reverse (map (λ l. l.entry) ls))

-- THE LEMMA: lines with the same seats and the same entries are the same
pub lines_same : (ls ms : List Line) → map (λ l. l.seat) ls ≡ map (λ l. l.seat) ms → entries_in ls ≡ entries_in ms → ls ≡ ms
lines_same ls ms seats entries =
    lines_from ls ∙ ap₂ (λ ns es. map line_from (zip ns es)) seats (entries_forth ls ∙ ap reverse entries ∙ sym (entries_forth ms)) ∙ sym (lines_from ms)

pub seats_of : (items : List Item) → map (λ l. l.seat) (lines_of items) ≡ map (λ i. i.seat) items
seats_of items = map-map (λ (l : Line). l.seat) (line_of items) items
