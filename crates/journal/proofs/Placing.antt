-- The places of chosen lines are those of the chosen rows.
use Rattle.std.proofs.Common.{◌≡◌, ℕ, suc, ◌+◌, Bool, true, false, cond, List, [], ◌∷◌, ◌++◌, length, map, reverse, append-nil, refl, sym, ap, ◌∙◌, arith}
use Rattle.std.proofs.lemmas.List.{reverse-append, length-reverse, length-map}
use Rattle.history.specs.Records.{State, Row}
use Rattle.history.specs.Walks.{spots}
use Rattle.world_cells.specs.World.{World}
use Rattle.world_cells.specs.Theory.{Rule, subject, cells}
use Rattle.journal.specs.Items.{Item}
use Rattle.journal.specs.Lines.{line_of, lines_of}
use Rattle.journal.specs.Standing.{Told, told, row_told, ItemsStand}
use Rattle.journal.proofs.Telling.{items_told}

-- the places, counted from n, of those that pass a test
abbrev pub places_where : {A : Type 0} → ℕ → (A → Bool) → List A → List ℕ
places_where n c [] = []
places_where n c (x ∷ xs) = cond (c x) (n ∷ places_where (n + 1) c xs) (places_where (n + 1) c xs)

where-map : {A B : Type 0} (f : A → B) (c : B → Bool) (n : ℕ) (xs : List A) → places_where n c (map f xs) ≡ places_where n (λ a. c (f a)) xs
where-map f c n [] = refl
where-map f c n (x ∷ xs) = ap (λ ps. cond (c (f x)) (n ∷ ps) ps) (where-map f c (n + 1) xs)

spots-map : {A B : Type 0} (f : A → B) (c : B → Bool) (xs : List A) → spots c (map f xs) ≡ spots (λ a. c (f a)) xs
spots-map f c [] = refl
spots-map f c (x ∷ xs) = (λ j. cond (c (f x)) (length-map xs f j ∷ spots-map f c xs j) (spots-map f c xs j))

-- one more at the end
where_last : {A : Type 0} (n : ℕ) (c : A → Bool) (xs : List A) (x : A) → places_where n c (xs ++ x ∷ []) ≡ places_where n c xs ++ (cond (c x) ((n + length xs) ∷ []) [])
where_last n c [] x = (let e : n ≡ n + 0 = omega arith in ap (λ k. cond (c x) (k ∷ []) []) e)
where_last n c (y ∷ xs) x =
    ap (λ ps. cond (c y) (n ∷ ps) ps) (where_last (n + 1) c xs x)
    ∙ grouped (c y) (places_where (n + 1) c xs) (cond (c x) (((n + 1) + length xs) ∷ []) [])
    ∙ (let e : (n + 1) + length xs ≡ n + suc (length xs) = omega arith in ap (λ k. (cond (c y) (n ∷ places_where (n + 1) c xs) (places_where (n + 1) c xs)) ++ (cond (c x) (k ∷ []) [])) e)
  where
    grouped : (b : Bool) (ps qs : List ℕ) → cond b (n ∷ (ps ++ qs)) (ps ++ qs) ≡ (cond b (n ∷ ps) ps ++ qs)
    grouped true ps qs = refl
    grouped false ps qs = refl

-- the positions of a list that stands the newest first are those of the list the oldest first
spots_are : {A : Type 0} (c : A → Bool) (xs : List A) → places_where 0 c (reverse xs) ≡ reverse (spots c xs)
spots_are c [] = refl
spots_are c (x ∷ xs) =
    ap (places_where 0 c) (reverse-append (x ∷ []) xs)
    ∙ where_last 0 c (reverse xs) x
    ∙ ap (λ ps. ps ++ (cond (c x) ((0 + length (reverse xs)) ∷ []) [])) (spots_are c xs)
    ∙ (let e : 0 + length (reverse xs) ≡ length xs = (let r = length-reverse xs in omega arith) in ap (λ k. reverse (spots c xs) ++ cond (c x) (k ∷ []) []) e)
    ∙ last (c x)
  where
    last : (b : Bool) → reverse (spots c xs) ++ cond b (length xs ∷ []) [] ≡ reverse (cond b (length xs ∷ spots c xs) (spots c xs))
    last true = sym (reverse-append (length xs ∷ []) (spots c xs))
    last false = append-nil (reverse (spots c xs))

told_number : Told → ℕ
told_number t = t.event.name.0

-- THE LEMMA: the lines whose names pass a test stand where the rows of these names do
pub places_told : (does : Rule) {start : World} {next : ℕ} {rows : List (Row (subject does))} {items : List Item} {state : State cells} → ItemsStand does start next rows items state → (test : ℕ → Bool)
    → places_where 0 (λ l. test l.entry.event.name.0) (lines_of items) ≡ reverse (spots (λ p. test p.0.event.name.0) rows)
unfolding told_number
places_told does {rows = rows} {items = items} h test =
    where-map (line_of items) (λ l. test l.entry.event.name.0) 0 items
    ∙ sym (where-map told (λ t. test (told_number t)) 0 items)
    ∙ ap (places_where 0 (λ t. test (told_number t))) (items_told does rows items h.shows)
    ∙ spots_are (λ t. test (told_number t)) (map (row_told does) rows)
    ∙ ap reverse (spots-map (row_told does) (λ t. test (told_number t)) rows)
