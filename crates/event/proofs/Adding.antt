-- What a turn made is added to a list item by item.
use Rattle.std.proofs.Common.{◌≡◌, ℕ, zero, suc, ◌+◌, ◌<◌, ◌≤◌, Bool, true, false, cond, List, [], ◌∷◌, ◌++◌, length, drop, map, Option, Some, is_some, slice_get, get_or, refl, sym, ap, ◌∙◌, append_assoc, append-nil, arith}
use Rattle.std.proofs.lemmas.List.{drop_all}
use Rattle.std.proofs.lemmas.Option.{slice_get_within, get_or_from_slice_get}
use Rattle.history.specs.Records.{Record, record_of}
use Rattle.ids.specs.declared.names.EventName.{EventName}
use Rattle.ids.specs.declared.names.PromId.{PromId}
use Rattle.ids.specs.declared.cells.CellKey.{CellKey}
use Rattle.ids.specs.declared.cells.CellKey.TheVariants as key
use Rattle.post.specs.Messages.{Published}
use Rattle.post.specs.MessageView.{message_of}
use Rattle.eval_rules.specs.OutboxView.{letter_of}
use Rattle.eval_rules.specs.declared.outbox.Letter.{Letter}
use Rattle.world_cells.specs.World.{Content, message, published, World, published_as}
use Rattle.world_cells.specs.Theory.{cells}
use Rattle.event.specs.Events.{letters_from, on_the_board, counted}
use Rattle.event.proofs.Waiting.{drop_here}

-- at each place of a list there is an item
some_here : {X : Type 0} (i : ℕ) (xs : List X) → i < length xs → (x : X) × (drop i xs ≡ x ∷ drop (i + 1) xs)
some_here i [] h = absurd (omega (arith, h))
some_here zero (x ∷ xs) h = (x, refl)
some_here (suc i) (x ∷ xs) h =
    let r = some_here i xs (omega (arith, h)) in
    let e : suc (i + 1) ≡ suc i + 1 = omega arith in
    (r.0, r.1 ∙ ap (λ n. r.0 ∷ drop n (x ∷ xs)) e)

drop_at : {X : Type 0} (xs : List X) (i : ℕ) (x : X) → slice_get xs i ≡ Some x → drop i xs ≡ x ∷ drop (i + 1) xs
drop_at xs i x h = drop_here xs i x (slice_get_within xs i x h) (sym (get_or_from_slice_get xs i x x h))

-- ---- messages

abbrev pub keys_from : EventName → ℕ → List Letter → List CellKey
keys_from e i ls = map (λ p. p.0) (letters_from e i (map letter_of ls))

pub touch_next : (e : EventName) (ls : List Letter) (i : ℕ) (all done more : List CellKey) (k : CellKey) → i < length ls → all ≡ done ++ keys_from e i (drop i ls) → more ≡ done ++ k ∷ [] → k ≡ key.Msg (record { event = e; index = i })
    → all ≡ more ++ keys_from e (i + 1) (drop (i + 1) ls)
touch_next e ls i all done more k h inv m is =
    inv ∙ ap (λ xs. done ++ keys_from e i xs) (some_here i ls h).1
    ∙ sym (append_assoc done (key.Msg (record { event = e; index = i }) ∷ []) (keys_from e (i + 1) (drop (i + 1) ls)))
    ∙ ap (λ xs. xs ++ keys_from e (i + 1) (drop (i + 1) ls)) (sym (m ∙ ap (λ q. done ++ q ∷ []) is))

pub touch_last : (e : EventName) (ls : List Letter) (i : ℕ) (all done : List CellKey) → length ls ≤ i → all ≡ done ++ keys_from e i (drop i ls) → done ≡ all
touch_last e ls i all done h inv = sym (inv ∙ ap (λ xs. done ++ keys_from e i xs) (drop_all i ls h) ∙ append-nil done)

abbrev pub letters_kept : EventName → ℕ → List Letter → Record cells
letters_kept e i ls = record_of cells e.0 (letters_from e i (map letter_of ls))

pub record_next : (e : EventName) (ls : List Letter) (i : ℕ) (l : Letter) (all done more : Record cells) (r : CellKey × (Option Content × Option ℕ)) → i < length ls → l ≡ get_or ls i l → all ≡ done ++ letters_kept e i (drop i ls) → more ≡ done ++ r ∷ []
    → r ≡ (key.Msg (record { event = e; index = i }), (Some (message (message_of l.message)), Some e.0)) → all ≡ more ++ letters_kept e (i + 1) (drop (i + 1) ls)
record_next e ls i l all done more r h is inv m kept =
    inv ∙ ap (λ xs. done ++ letters_kept e i xs) (drop_here ls i l h is)
    ∙ sym (append_assoc done ((key.Msg (record { event = e; index = i }), (Some (message (message_of l.message)), Some e.0)) ∷ []) (letters_kept e (i + 1) (drop (i + 1) ls)))
    ∙ ap (λ xs. xs ++ letters_kept e (i + 1) (drop (i + 1) ls)) (sym (m ∙ ap (λ q. done ++ q ∷ []) kept))

pub record_last : (e : EventName) (ls : List Letter) (i : ℕ) (all done : Record cells) → length ls ≤ i → all ≡ done ++ letters_kept e i (drop i ls) → done ≡ all
record_last e ls i all done h inv = sym (inv ∙ ap (λ xs. done ++ letters_kept e i xs) (drop_all i ls h) ∙ append-nil done)

-- ---- publications

abbrev pub board_kept : EventName → World → List (PromId × Published) → Record cells
board_kept e w bs = record_of cells e.0 (on_the_board (counted w bs))

board_more : (e : EventName) (w : World) (b : PromId × Published) (bs : List (PromId × Published)) → board_kept e w (b ∷ bs) ≡ board_kept e w (b ∷ []) ++ board_kept e w bs
board_more e w b bs = by (is_some (published_as w b.0))
  where
    by : (q : Bool) → record_of cells e.0 (on_the_board (cond q (counted w bs) (b ∷ counted w bs))) ≡ record_of cells e.0 (on_the_board (cond q [] (b ∷ []))) ++ board_kept e w bs
    by true = refl
    by false = refl

pub publish_next : (e : EventName) (w : World) (bs : List (PromId × Published)) (i : ℕ) (b : PromId × Published) (all done more : Record cells) → slice_get bs i ≡ Some b → all ≡ done ++ board_kept e w (drop i bs) → more ≡ done ++ board_kept e w (b ∷ [])
    → all ≡ more ++ board_kept e w (drop (i + 1) bs)
publish_next e w bs i b all done more h inv m =
    inv ∙ ap (λ xs. done ++ board_kept e w xs) (drop_at bs i b h) ∙ ap (λ xs. done ++ xs) (board_more e w b (drop (i + 1) bs))
    ∙ sym (append_assoc done (board_kept e w (b ∷ [])) (board_kept e w (drop (i + 1) bs))) ∙ ap (λ xs. xs ++ board_kept e w (drop (i + 1) bs)) (sym m)

pub publish_last : (e : EventName) (w : World) (bs : List (PromId × Published)) (i : ℕ) (all done : Record cells) → length bs ≤ i → all ≡ done ++ board_kept e w (drop i bs) → done ≡ all
publish_last e w bs i all done h inv = sym (inv ∙ ap (λ xs. done ++ board_kept e w xs) (drop_all i bs h) ∙ append-nil done)

-- one publication, where its promise was published before, and where it was not
pub not_again : (e : EventName) (w : World) (b : PromId × Published) (done : Record cells) → is_some (published_as w b.0) ≡ true → done ≡ done ++ board_kept e w (b ∷ [])
not_again e w b done h = sym (ap (λ q. done ++ record_of cells e.0 (on_the_board (cond q [] (b ∷ [])))) h ∙ append-nil done)

pub first_time : (e : EventName) (w : World) (b : PromId × Published) (done more : Record cells) (r : CellKey × (Option Content × Option ℕ)) → is_some (published_as w b.0) ≡ false → more ≡ done ++ r ∷ [] → r ≡ (key.Board b.0, (Some (published b.1), Some e.0)) → more ≡ done ++ board_kept e w (b ∷ [])
first_time e w b done more r h m is = m ∙ ap (λ q. done ++ q ∷ []) is ∙ ap (λ q. done ++ record_of cells e.0 (on_the_board (cond q [] (b ∷ [])))) (sym h)
