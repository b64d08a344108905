-- What a vat learns of a promise that is named without its home.
use Rattle.std.specs.Prelude.{◌≡◌, ℕ, true, false, Option, Some, None}
use Rattle.std.specs.Ordering.{is_gt}
use Rattle.ids.specs.Cells.{promise_cmp}
use Rattle.ids.specs.declared.names.EventName.{EventName}
use Rattle.ids.specs.declared.names.PromId.{PromId}
use Rattle.kernele.specs.Tree.{Name}
use Rattle.post.specs.Messages.{Vat}
use Rattle.world_cells.specs.Events.{learn}
use Rattle.world_cells.specs.World.{vat_named}
use Rattle.event.specs.Events.{Foot}
use Rattle.book_refusals.specs.Fault.{Tells}
use Rattle.book_refusals.specs.Refusals.{Refusal}
use Rattle.book_refusals.specs.declared.fault.BookFault.{BookFault}
use Rattle.book.specs.Books.{Book}
use Rattle.book.specs.Calls.{EntersNext}
use Rattle.book_agenda.specs.Agendas.{can_learn}
use Rattle.book.specs.Refusals.{learn_refusal, learning_refusal}

-- a promise of this event and number, wherever its home is
abbrev pub IsNumbered : EventName → ℕ → PromId → Type 0
IsNumbered event index p = (p.event ≡ event) × (p.index ≡ index)

-- the vat of a name learns of the first promise of this event and number that it can learn of, as the event that comes next
pub record LearnsNamed (x : Name) (event : EventName) (index : ℕ) (e : EventName) (old now : Book) : Type 0 where
  pub vat : Vat
  pub named : vat_named old.world x ≡ Some vat
  pub promise : PromId
  pub numbered : IsNumbered event index promise
  pub accepted : learning_refusal old vat.number promise ≡ None
  pub is_first : (q : PromId) → IsNumbered event index q → can_learn old.world vat.number q ≡ true → is_gt (promise_cmp promise q) ≡ false
  pub foot : Foot
  pub enters : EntersNext (record { name = e; act = learn vat.number promise }) foot 0 old now

-- why it does not: there is no such vat, or none of these promises that it can learn of; or it can, and there is no room
pub data RefusesNamed (b : Book) (x : Name) (event : EventName) (index : ℕ) : Refusal → Type 0 where
  nothing_named : {r : Refusal} → ((p : PromId) → IsNumbered event index p → learn_refusal b x p ≡ Some r) → RefusesNamed b x event index r
  not_entered : (v : Vat) (p : PromId) {r : Refusal} → vat_named b.world x ≡ Some v → IsNumbered event index p → can_learn b.world v.number p ≡ true
      → learning_refusal b v.number p ≡ Some r → RefusesNamed b x event index r

-- a fault tells why, unless it is want of memory
pub record TellsNamed (fault : BookFault) (b : Book) (x : Name) (event : EventName) (index : ℕ) : Type 0 where
  pub refusal : Option Refusal
  pub tells : Tells fault refusal
  pub refuses : (r : Refusal) → refusal ≡ Some r → RefusesNamed b x event index r
