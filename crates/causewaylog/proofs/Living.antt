-- The live events of a journal along its entries: the vat of a name, and the turns of a vat.
use Rattle.std.proofs.Common.{◌≡◌, ℕ, ◌+◌, ◌<◌, Bool, true, false, cond, List, [], ◌∷◌, ◌++◌, map, filter, drop, length, get_or, Option, Some, None, is_some, refl, ap, ◌∙◌, arith}
use Rattle.std.proofs.Math.Logic.{∥∥₁_elim}
use Rattle.std.proofs.Props.{props}
use Rattle.std.specs.Str.{bytes_eq}
use Rattle.ids.specs.declared.names.EventName.{EventName}
use Rattle.ids.specs.declared.names.MsgId.{MsgId}
use Rattle.std.specs.Option.{option_or}
use Rattle.ids.specs.declared.names.VatNo.{VatNo}
use Rattle.kernele.specs.Tree.{Name}
use Rattle.eval_rules.specs.Outbox.{Note}
use Rattle.eval_rules.specs.OutboxView.{note_of}
use Rattle.world_cells.specs.Events.{Act, birth, ask, arrive, forward, learn, turn, Noted}
use Rattle.world_cells.specs.World.{same_vat}
use Rattle.journal.specs.Items.{Item, item_of}
use Rattle.journal.specs.Journals.{settled_item}
use Rattle.journal.specs.Lines.{Line, line_of}
use Rattle.journal.specs.Settled.{newborn, whose_turn}
use Rattle.journal.specs.declared.settled.Settled.{Settled}
use Rattle.journal.specs.declared.entry.Entry.{Entry}
use Rattle.causality.specs.Selections.{is_live}
use Rattle.causality.proofs.Along.{from_here}
use Rattle.causewaylog.specs.Turns.{Turn, live_in, born_as, vat_called, got_by, and_turn, turns_of}
use Rattle.causewaylog.specs.Live.{live_of, born_in, got_from}

-- the live events of lines are those of the items that the lines tell
pub live_told : (all items : List Item) → live_in (map (line_of all) items) ≡ live_of items
live_told all [] = refl
live_told all (i ∷ items) = by i.live (filter is_live (map (line_of all) items)) (live_of items) (live_told all items)
  where
    by : (b : Bool) (ls : List Line) (es : List Noted) → map (λ l. l.entry.event) ls ≡ es → map (λ l. l.entry.event) (cond b (line_of all i ∷ ls) ls) ≡ cond b (i.event ∷ es) es
    by true ls es h = ap (λ ds. i.event ∷ ds) h
    by false ls es h = h

-- the vat of a name is born in the first item that bears it
pub called_next : (x : Name) (i : Item) (items : List Item) → vat_called x (live_of (i ∷ items)) ≡ option_or (born_in x i) (vat_called x (live_of items))
called_next x i items = by i.live
  where
    by : (b : Bool) → vat_called x (cond b (i.event ∷ live_of items) (live_of items)) ≡ option_or (cond b (born_as x i.event.name i.event.act) None) (vat_called x (live_of items))
    by true = refl
    by false = refl

-- so it is from an entry on
pub called_from : (x : Name) (xs : List Entry) (i : ℕ) (e : Entry) → i < length xs → e ≡ get_or xs i e
    → vat_called x (live_of (map item_of (drop i xs))) ≡ option_or (born_in x (item_of e)) (vat_called x (live_of (map item_of (drop (i + 1) xs))))
called_from x xs i e here is = from_here (λ es. vat_called x (live_of (map item_of es))) xs i e here is ∙ called_next x (item_of e) (map item_of (drop (i + 1) xs))

-- the turns of a vat along items
pub turns_next : (v : VatNo) (i : Item) (items : List Item) → turns_of v (live_of (i ∷ items)) ≡ and_turn (got_from v i) i.event.notes (turns_of v (live_of items))
turns_next v i items = by i.live
  where
    by : (b : Bool) → turns_of v (cond b (i.event ∷ live_of items) (live_of items)) ≡ and_turn (cond b (got_by v i.event.act) None) i.event.notes (turns_of v (live_of items))
    by true = refl
    by false = refl

pub turns_from : (v : VatNo) (xs : List Entry) (i : ℕ) (e : Entry) → i < length xs → e ≡ get_or xs i e
    → turns_of v (live_of (map item_of (drop i xs))) ≡ and_turn (got_from v (item_of e)) (map note_of e.notes.items) (turns_of v (live_of (map item_of (drop (i + 1) xs))))
turns_from v xs i e here is = from_here (λ es. turns_of v (live_of (map item_of es))) xs i e here is ∙ turns_next v (item_of e) (map item_of (drop (i + 1) xs))

-- the same along settled events
pub called_settled : (x : Name) (ss : List Settled) (i : ℕ) (s : Settled) → i < length ss → s ≡ get_or ss i s
    → vat_called x (live_of (map settled_item (drop i ss))) ≡ option_or (born_in x (settled_item s)) (vat_called x (live_of (map settled_item (drop (i + 1) ss))))
called_settled x ss i s here is = from_here (λ ts. vat_called x (live_of (map settled_item ts))) ss i s here is ∙ called_next x (settled_item s) (map settled_item (drop (i + 1) ss))

pub turns_settled : (v : VatNo) (ss : List Settled) (i : ℕ) (s : Settled) → i < length ss → s ≡ get_or ss i s
    → turns_of v (live_of (map settled_item (drop i ss))) ≡ and_turn (got_from v (settled_item s)) (settled_item s).event.notes (turns_of v (live_of (map settled_item (drop (i + 1) ss))))
turns_settled v ss i s here is = from_here (λ ts. turns_of v (live_of (map settled_item ts))) ss i s here is ∙ turns_next v (settled_item s) (map settled_item (drop (i + 1) ss))

-- the live events of items, and of those behind them
pub live_both : (xs ys : List Item) → live_of (xs ++ ys) ≡ live_of xs ++ live_of ys
live_both [] ys = refl
live_both (x ∷ xs) ys = by x.live (live_both xs ys)
  where
    by : (b : Bool) → live_of (xs ++ ys) ≡ live_of xs ++ live_of ys → cond b (x.event ∷ live_of (xs ++ ys)) (live_of (xs ++ ys)) ≡ cond b (x.event ∷ live_of xs) (live_of xs) ++ live_of ys
    by true h = ap (λ es. x.event ∷ es) h
    by false h = h

called_both : (x : Name) (es fs : List Noted) → vat_called x (es ++ fs) ≡ option_or (vat_called x es) (vat_called x fs)
called_both x [] fs = refl
called_both x (e ∷ es) fs = by (born_as x e.name e.act) (called_both x es fs)
  where
    by : (o : Option VatNo) → vat_called x (es ++ fs) ≡ option_or (vat_called x es) (vat_called x fs) → option_or o (vat_called x (es ++ fs)) ≡ option_or (option_or o (vat_called x es)) (vat_called x fs)
    by None h = h
    by (Some v) h = refl

pub called_either : (x : Name) (xs ys : List Item) → vat_called x (live_of (xs ++ ys)) ≡ option_or (vat_called x (live_of xs)) (vat_called x (live_of ys))
called_either x xs ys = ap (vat_called x) (live_both xs ys) ∙ called_both x (live_of xs) (live_of ys)

-- what is kept of a settled event tells whether a vat was born, and whose turn it was
abbrev pub born_named : Name → EventName → Option Name → Option VatNo
born_named x e None = None
born_named x e (Some y) = cond (bytes_eq y x) (Some (record { 0 = e })) None

newborn_named : (x : Name) (e : EventName) (a : Act) → born_named x e (newborn a) ≡ born_as x e a
newborn_named x e (birth y earlier script) = refl
newborn_named x e (ask y program) = refl
newborn_named x e (arrive m) = refl
newborn_named x e (forward m) = refl
newborn_named x e (learn v p) = refl
newborn_named x e (turn v m budget) = refl

abbrev pub is_turn : VatNo → Option VatNo → Bool
is_turn v None = false
is_turn v (Some u) = same_vat u v

turn_told : (v : VatNo) (a : Act) → is_turn v (whose_turn a) ≡ is_some (got_by v a)
turn_told v (birth y earlier script) = refl
turn_told v (ask y program) = refl
turn_told v (arrive m) = refl
turn_told v (forward m) = refl
turn_told v (learn u p) = refl
turn_told v (turn u m budget) = by (same_vat u v)
  where
    by : (b : Bool) → b ≡ is_some (cond b (Some m) None)
    by true = refl
    by false = refl

vats_prop : (x y : Option VatNo) → IsProp (x ≡ y)
vats_prop = hlevel props

tests_prop : (x y : Bool) → IsProp (x ≡ y)
tests_prop = hlevel props

pub settled_born : (x : Name) (s : Settled) → born_named x s.name s.newborn ≡ born_in x (settled_item s)
settled_born x s = ∥∥₁_elim s.keeps (vats_prop _ _) (λ k. ap (born_named x s.name) k.birth ∙ newborn_named x s.name (settled_item s).event.act)

pub settled_turn : (v : VatNo) (s : Settled) → is_turn v s.turn_of ≡ is_some (got_from v (settled_item s))
settled_turn v s = ∥∥₁_elim s.keeps (tests_prop _ _) (λ k. ap (is_turn v) k.turn ∙ turn_told v (settled_item s).event.act)

-- one turn more, or none
pub one_longer : (o : Option MsgId) (notes : List Note) (ts : List Turn) → length (and_turn o notes ts) ≡ cond (is_some o) (length ts + 1) (length ts)
one_longer None notes ts = refl
one_longer (Some m) notes ts = omega arith

-- the lines behind what is settled
pub lines_left : {A : Type 0} (f : Item → A) (ss : List Settled) (ys : List Item) → drop (length ss) (map f (map settled_item ss ++ ys)) ≡ map f ys
lines_left f [] ys = refl
lines_left f (s ∷ ss) ys = lines_left f ss ys
