-- What the program's list of waiting messages stands for, and what becomes of it.
use Rattle.std.specs.Prelude.{◌≡◌, ◌⊎◌, Bool, true, false, cond, Option, Some, None}
use Rattle.std.specs.Ordering.{is_eq, is_gt, ordering_then}
use Rattle.std.specs.BTreeMap as map
use Rattle.std.specs.BTreeSet.{contains}
use Rattle.std.specs.declared.cmp.Ordering.{Ordering}
use Rattle.ids.specs.Cells.{message_cmp, vat_cmp}
use Rattle.ids.specs.declared.names.VatNo.{VatNo}
use Rattle.ids.specs.declared.names.MsgId.{MsgId}
use Rattle.book_agenda.specs.declared.waiting.Waits.{Waits}
use Rattle.book_agenda.specs.declared.waiting.Waits.TheVariants as waits
use Rattle.book_agenda.specs.declared.waiting.Ready.{Ready}
use Rattle.book_agenda.specs.declared.waiting.Waiting.{Waiting}

-- by vat, then by message
abbrev pub ready_cmp : Ready → Ready → Ordering
ready_cmp a b = ordering_then (vat_cmp a.vat b.vat) (message_cmp a.message b.message)

-- how a message waits, if it does
abbrev pub how : Waiting → MsgId → Option Waits
how q m = map.get message_cmp q.all m

-- a message is among those that are ready at a vat
abbrev pub is_ready_at : Waiting → VatNo → MsgId → Bool
is_ready_at q v m = contains ready_cmp q.ready (record { vat = v; message = m })

-- a message is among the fronts
abbrev pub is_front : Waiting → MsgId → Bool
is_front q m = contains message_cmp q.fronts m

-- it waits so as one that is ready at a vat
abbrev pub ready_by : VatNo → Option Waits → Bool
ready_by v (Some (waits.Ready u)) = is_eq (vat_cmp v u)
ready_by v _ = false

-- a front of a vat is not behind a message there
abbrev pub Headed : (MsgId → Option Waits) → (MsgId → Bool) → VatNo → MsgId → Type 0
Headed ways front v m = ∥ ((n : MsgId) × (ways n ≡ Some (waits.Ready v)) × (front n ≡ true) × (is_gt (message_cmp n m) ≡ false)) ∥₁

-- those that are ready are listed by vat, and each that moves is a front, and so is one at each vat where one is ready that is not behind any there
pub record Goes (ways : MsgId → Option Waits) (ready : VatNo → MsgId → Bool) (front : MsgId → Bool) : Type 0 where
  pub listed : (v : VatNo) (m : MsgId) → ready v m ≡ ready_by v (ways m)
  pub moving : (m : MsgId) → ways m ≡ Some waits.Moving → front m ≡ true
  pub heads : (m : MsgId) (v : VatNo) → ways m ≡ Some (waits.Ready v) → Headed ways front v m

abbrev pub Indexed : Waiting → Type 0
Indexed q = Goes (how q) (is_ready_at q) (is_front q)

-- the least of the messages that are ready at a vat, if there is one
abbrev pub FirstAt : Waiting → VatNo → Option MsgId → Type 0
FirstAt q v None = (m : MsgId) → is_ready_at q v m ≡ false
FirstAt q v (Some f) = (is_ready_at q v f ≡ true) × ((m : MsgId) → is_ready_at q v m ≡ true → is_gt (message_cmp f m) ≡ false)

-- a message waits so from now on, and all goes together as before
pub record Puts (name : MsgId) (o : Option Waits) (a b : Waiting) : Type 0 where
  pub ways : (m : MsgId) → how b m ≡ cond (is_eq (message_cmp name m)) o (how a m)
  pub indexed : Indexed a → Indexed b

-- a message is a front too
pub record AddsFront (name : MsgId) (a b : Waiting) : Type 0 where
  pub all : b.all ≡ a.all
  pub ready : b.ready ≡ a.ready
  pub fronts : (m : MsgId) → is_front b m ≡ cond (is_eq (message_cmp name m)) true (is_front a m)

-- a message is a front in place of another one, or comes behind it
pub record ReplacesFront (first name : MsgId) (a b : Waiting) : Type 0 where
  pub all : b.all ≡ a.all
  pub ready : b.ready ≡ a.ready
  pub fronts : ((is_gt (message_cmp first name) ≡ false) × (b.fronts ≡ a.fronts))
      ⊎ ((is_gt (message_cmp name first) ≡ false) × (is_front b name ≡ true) × ((m : MsgId) → is_front a m ≡ true → (is_front b m ≡ true) ⊎ (first ≡ m)))

-- a message is ready too: behind another one at its vat, or as a front, for which only fronts of its vat go
pub record GetsReady (v : VatNo) (name : MsgId) (a b : Waiting) : Type 0 where
  pub all : b.all ≡ a.all
  pub ready : (u : VatNo) (m : MsgId) → is_ready_at b u m ≡ cond (is_eq (ready_cmp (record { vat = v; message = name }) (record { vat = u; message = m }))) true (is_ready_at a u m)
  pub fronts : ((f : MsgId) × (is_ready_at a v f ≡ true) × (is_gt (message_cmp f name) ≡ false) × (b.fronts ≡ a.fronts))
      ⊎ (((m : MsgId) → is_ready_at a v m ≡ true → is_gt (message_cmp name m) ≡ false) × (is_front b name ≡ true) × ((m : MsgId) → is_front a m ≡ true → (is_front b m ≡ true) ⊎ (is_ready_at a v m ≡ true)))
