-- Why a call of the book is refused.
use Rattle.std.specs.Prelude.{ℕ, cond, Bool, Option, Some, None}
use Rattle.ids.specs.declared.names.EventName.{EventName}
use Rattle.ids.specs.declared.names.MsgId.{MsgId}
use Rattle.kernele.specs.Tree.{Name}
use Rattle.kernele_scopes.specs.Scope as scope
use Rattle.event.specs.declared.ready.Unready.{Unready}
use Rattle.event.specs.declared.ready.Unready.TheVariants as why

-- why a call is refused
pub data Refusal : Type 0 where
  no_vat : (x : Name) → Refusal
  name_taken : (x : Name) → Refusal
  no_message : (m : MsgId) → Refusal
  not_there : Refusal
  -- the message leads elsewhere, or nowhere
  not_ready : Refusal
  before : (m : MsgId) → Refusal
  -- the promise is not open in the vat's view, or was not published
  nothing_to_learn : Refusal
  full : Refusal
  -- the world is no longer as the turn found it
  stale : Refusal
  -- a ticket of the vat is out
  vat_out : Refusal
  -- no such ticket is out
  no_ticket : Refusal
  no_event : (e : EventName) → Refusal
  -- the journal has no entry at this position
  no_position : (position : ℕ) → Refusal
  -- the event can no longer be taken back
  is_settled : (e : EventName) → Refusal
  not_live : (e : EventName) → Refusal
  still_live : (e : EventName) → Refusal
  -- a member of the set, and a live consequence of it outside
  not_closed : (e : EventName) → (f : EventName) → Refusal
  -- a member, and one that it is not a consequence of, but would be now
  crossed : (e : EventName) → (f : EventName) → Refusal
  -- a member, and a cause of it that is not live
  cause_missing : (e : EventName) → (f : EventName) → Refusal
  -- two neighbours, of which one wrote a cell that the other touched
  dependent : (e : EventName) → (f : EventName) → Refusal
  bad_budget : Refusal
  unchecked : (fault : scope.Refusal) → Refusal

-- the first of two refusals, if there is one
abbrev pub first : Option Refusal → Option Refusal → Option Refusal
first None next = next
first (Some refusal) next = Some refusal

abbrev pub refuse_where : Bool → Refusal → Option Refusal
refuse_where b refusal = cond b (Some refusal) None

-- why a message may not be delivered
abbrev pub refusal_of : MsgId → Unready → Refusal
refusal_of m why.NoMessage = no_message m
refusal_of m why.NotThere = not_there
refusal_of m why.NotReady = not_ready
refusal_of m (why.Before n) = before n
