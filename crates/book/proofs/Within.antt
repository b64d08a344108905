-- The journal keeps to its limit.
use Rattle.std.proofs.Common.{◌≡◌, ℕ, ◌+◌, ◌≤◌, zero, suc, Bool, true, false, List, [], ◌∷◌, map, Option, Some, None, ◌||◌, length, nat_lt, nat_le, ◌<◌, refl, sym, ap, ◌∙◌, subst, arith}
use Rattle.std.specs.Prelude.{if◌then◌else◌}
use Rattle.std.proofs.lemmas.Bool.{leb-false}
use Rattle.std.proofs.lemmas.List.{length-append, length-map}
use Rattle.history.specs.Records.{State, Record}
use Rattle.ids.specs.declared.cells.CellKey.{CellKey}
use Rattle.world_cells.specs.Events.{Noted}
use Rattle.world_cells.specs.Theory.{cells}
use Rattle.post.specs.Messages.{Vat}
use Rattle.world_cells.specs.World.{vat_named}
use Rattle.kernele.specs.Tree.{Name, Trees}
use Rattle.kernele_scopes.specs.Scope.{checked_program, script_scopes, asked_scopes}
use Rattle.journal.specs.Items.{Item, entered, exchanged}
use Rattle.journal.specs.Lines.{Line, line_of, lines_of}
use Rattle.undo.specs.CoreView.{items_of, settled_of, state_of, shown}
use Rattle.undo.specs.declared.undoing.Core.{Core}
use Rattle.book_refusals.specs.Refusals.{Refusal, first, refuse_where, full}
use Rattle.book.specs.Refusals.{journal_full, full_refusal, check_refusal, taken_refusal, named_refusal, birth_refusal, ask_refusal, ask_refusal_by}
use Rattle.book.specs.Books.{Book, open_count}
use Rattle.book.specs.declared.book.TheConstants.{LAST_NAME, MOST_ENTRIES}

-- behind what is settled there are no more than a journal may have
abbrev pub Within : Core → Type 0
Within core = length (items_of core) ≤ settled_of core + MOST_ENTRIES

within_length : (old new : Core) → length (items_of new) ≡ length (items_of old) → settled_of new ≡ settled_of old → Within old → Within new
within_length old new same many h = omega (arith, same, many, h)

-- what is shown is as many entries
pub within_same : (old new : Core) → shown new ≡ shown old → settled_of new ≡ settled_of old → Within old → Within new
within_same old new is many h = within_length old new (ap (λ (j : List Item × State cells). length j.0) is) many h

-- the second of two refusals, where there is none of both
pub neither : (a b : Option Refusal) → first a b ≡ None → b ≡ None
neither None b e = e
neither (Some refusal) b e = cc

no_room_left : (x y : Bool) → refuse_where (x || y) full ≡ None → refuse_where y full ≡ None
no_room_left x true e = absurd (refused x e)
  where
    refused : (x : Bool) → refuse_where (x || true) full ≡ None → ⊥
    refused true e = cc
    refused false e = cc
no_room_left x false e = refl

-- where names are left and the journal has room, it has room
pub room_for_names : (b : Book) → full_refusal b ≡ None → journal_full b ≡ None
room_for_names b e = no_room_left (nat_lt LAST_NAME b.next) (nat_le MOST_ENTRIES (open_count b)) e

-- and so for a birth, and an asked program, that is not refused
pub room_for_birth : (b : Book) (x : Name) (earlier : List Name) (script : Trees) → birth_refusal b x earlier script ≡ None → full_refusal b ≡ None
room_for_birth b x earlier script e =
    neither (check_refusal (checked_program script (script_scopes earlier))) (full_refusal b) (neither (named_refusal b.world earlier) _ (neither (taken_refusal x (vat_named b.world x)) _ e))

pub room_for_ask : (b : Book) (x : Name) (program : Trees) (v : Vat) → vat_named b.world x ≡ Some v → ask_refusal b x program ≡ None → full_refusal b ≡ None
room_for_ask b x program v is e = neither (check_refusal (checked_program program (asked_scopes v.earlier v.tops))) (full_refusal b) (subst (λ (o : Option Vat). ask_refusal_by o b x program ≡ None) is e)

not_refused : (b : Bool) (refusal : Refusal) → refuse_where b refusal ≡ None → b ≡ false
not_refused true refusal e = cc
not_refused false refusal e = refl

-- where the journal is not full there is room for one more
pub one_more : (b : Book) → journal_full b ≡ None → length b.journal + 1 ≤ b.settled + MOST_ENTRIES
one_more b e = let few : open_count b < MOST_ENTRIES = leb-false MOST_ENTRIES (open_count b) (not_refused (nat_le MOST_ENTRIES (open_count b)) full e) in omega (arith, few)

-- an entry more
pub within_entered : (old new : Core) (e : Noted) (seat : ℕ) (touched : List CellKey) (kept : Record cells) → shown new ≡ entered e seat touched kept (shown old) → settled_of new ≡ settled_of old
    → length (lines_of (items_of old)) + 1 ≤ settled_of old + MOST_ENTRIES → Within new
within_entered old new e seat touched kept is many h =
    let more : length (items_of new) ≡ length (items_of old) + 1 = ap (λ (j : List Item × State cells). length j.0) is ∙ length-append (items_of old) _ in
    let lines : length (lines_of (items_of old)) ≡ length (items_of old) = length-map (items_of old) (line_of (items_of old)) in
    omega (arith, more, lines, many, h)

-- lines that were marked are as many
pub within_marked : (old new : Core) (f : Line → Line) → lines_of (items_of new) ≡ map f (lines_of (items_of old)) → settled_of new ≡ settled_of old → Within old → Within new
within_marked old new f is many h =
    within_length old new
    (sym (length-map (items_of new) (line_of (items_of new))) ∙ ap length is ∙ length-map (lines_of (items_of old)) f ∙ length-map (items_of old) (line_of (items_of old))) many h

length_exchanged : {A : Type 0} (n : ℕ) (xs : List A) → length (exchanged n xs) ≡ length xs
length_exchanged n [] = refl
length_exchanged n (b ∷ []) = refl
length_exchanged zero (b ∷ a ∷ xs) = refl
length_exchanged (suc n) (b ∷ a ∷ xs) = ap suc (length_exchanged n (a ∷ xs))

-- and so are those of an exchange that was tried
pub within_tried : (old new : Core) (n : ℕ) (b : Bool) → shown new ≡ (if b then exchanged n (items_of old) else items_of old, state_of old) → settled_of new ≡ settled_of old → Within old → Within new
within_tried old new n true is many h = within_length old new (ap (λ (j : List Item × State cells). length j.0) is ∙ length_exchanged n (items_of old)) many h
within_tried old new n false is many h = within_same old new is many h
