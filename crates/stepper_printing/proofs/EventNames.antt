-- Names of events, from their numbers, and the lines that have them as causes.
use Rattle.std.proofs.Common.{◌≡◌, ◌<◌, ◌+◌, get_or, ℕ, zero, suc, arith, cond, List, [], ◌∷◌, ◌++◌, length, drop, map, Option, Some, None, refl, sym, ap, ◌∙◌}
use Rattle.std.proofs.Math.Logic.{∥∥₁_elim}
use Rattle.std.proofs.Props.{props}
use Rattle.std.specs.Ordering.{is_eq}
use Rattle.ids.specs.declared.names.EventName.{EventName}
use Rattle.ids.specs.declared.names.VatNo.{VatNo}
use Rattle.kernele.specs.Tree.{Name}
use Rattle.world_cells.specs.EventView.{act_of}
use Rattle.world_cells.specs.declared.event.Action.{Action}
use Rattle.world_cells.specs.declared.event.Action.TheVariants as action
use Rattle.ids.specs.Cells.{vat_cmp}
use Rattle.world_cells.specs.Events.{Act, birth, ask, arrive, forward, learn, turn, event_in}
use Rattle.journal.specs.Items.{Item}
use Rattle.journal.specs.Journals.{settled_item}
use Rattle.journal.specs.Lines.{line_of, causes_in}
use Rattle.journal.specs.Settled.{newborn}
use Rattle.journal.specs.declared.settled.Settled.{Settled}
use Rattle.causality.specs.Selections.{numbers}
use Rattle.std.specs.Prelude.{codes}
use Rattle.std.specs.Fmt.{decimal}
use Rattle.stepper_printing.specs.Listing.{events_of, base_text, born_by, born_as}
use Rattle.std.proofs.lemmas.List.{drop_more}
use Rattle.stepper_printing.specs.ListingView.{line_with, row_text, rows_text}
use Rattle.stepper_printing.specs.declared.rows.Row.{Row}

-- the events of their own numbers
pub names_back : (names : List EventName) → events_of (numbers names) ≡ names
names_back [] = refl
names_back (e ∷ es) = ap (λ ns. e ∷ ns) (names_back es)

-- the line of an item, from the names of its causes
pub cause_line : (items : List Item) (i : Item) (names : List EventName) → numbers names ≡ causes_in items i → line_with (numbers names) i ≡ line_of items i
cause_line items i names causes = ap (λ ns. line_with ns i) causes

-- in another event no vat is born
pub not_born : (v : VatNo) (e : EventName) (a : Action) (other : Option Name) → ((x : _) → (earlier : _) → (script : _) → a ≡ action.Birth x earlier script → ⊥) → born_as v (record { name = e; act = act_of a }) other ≡ other
not_born v e (action.Birth x earlier script) other differs = absurd (differs x earlier script refl)
not_born v e (action.Ask x program) other differs = refl
not_born v e (action.Arrive m) other differs = refl
not_born v e (action.Forward m) other differs = refl
not_born v e (action.Learn w p) other differs = refl
not_born v e (action.Turn w m budget) other differs = refl

-- so it goes by the name of the vat that is born in it, if one is
abbrev pub born_after : VatNo → EventName → Option Name → Option Name → Option Name
born_after v e None other = other
born_after v e (Some x) other = cond (is_eq (vat_cmp (record { 0 = e }) v)) (Some x) other

newborn_told : (v : VatNo) (e : EventName) (a : Act) (other : Option Name) → born_by v e a other ≡ born_after v e (newborn a) other
newborn_told v e (birth x earlier script) other = refl
newborn_told v e (ask x program) other = refl
newborn_told v e (arrive m) other = refl
newborn_told v e (forward m) other = refl
newborn_told v e (learn w p) other = refl
newborn_told v e (turn w m budget) other = refl

names_prop : (x y : Option Name) → IsProp (x ≡ y)
names_prop = hlevel props

-- the name of the vat that was born in a settled event
pub settled_born : (v : VatNo) (s : Settled) (o : Option Name) (other : Option Name) → s.newborn ≡ o → born_after v s.name o other ≡ born_as v (event_in (settled_item s).event) other
settled_born v s o other is = ∥∥₁_elim s.keeps (names_prop _ _) (λ k.
    ap (λ n. born_after v s.name n other) (sym is ∙ k.birth) ∙ sym (newborn_told v s.name (settled_item s).event.act other))

-- the lines behind what is settled
pub lines_left : {A : Type 0} (f : Item → A) (ss : List Settled) (ys : List Item) → drop (length ss) (map f (map settled_item ss ++ ys)) ≡ map f ys
lines_left f [] ys = refl
lines_left f (s ∷ ss) ys = lines_left f ss ys

-- how the base is told, if there is one
pub base_some : (count : ℕ) → 0 < count → base_text count ≡ codes "base " ++ (decimal count ++ (10 ∷ []))
base_some zero l = absurd (omega (arith, l))
base_some (suc n) l = refl

-- the first of the rows that are left, and the others
pub rows_cut : (names : VatNo → Option Name) (rows : List Row) (first i : ℕ) (d : Row) → i < length rows
    → rows_text names (first + i) (drop i rows) ≡ row_text names (first + i) (get_or rows i d) ++ rows_text names (first + (i + 1)) (drop (i + 1) rows)
rows_cut names rows first i d l =
    let next : (first + i) + 1 ≡ first + (i + 1) = omega arith in
    ap (rows_text names (first + i)) (drop_more rows i d l) ∙ ap (λ (k : ℕ). row_text names (first + i) (get_or rows i d) ++ rows_text names k (drop (i + 1) rows)) next
