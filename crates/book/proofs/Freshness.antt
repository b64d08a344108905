-- Whether the world is still as a turn found it, and what is worked out of the turn where it is.
use Rattle.std.proofs.Common.{◌≡◌, Some, None, sym, ◌∙◌, subst}
use Rattle.ids.specs.declared.cells.CellKey.TheVariants as key
use Rattle.heap.specs.State.{State}
use Rattle.post.specs.MessageView.{message_of}
use Rattle.world_cells.specs.World.{World, message, vat_state}
use Rattle.turn_deliveries.specs.Outcomes.{found_of}
use Rattle.eval_rules.specs.OutboxView.{outbox_of}
use Rattle.event.specs.Events.{AreNew, letters_from}
use Rattle.event.specs.Effects.{BringsTurn, turn_of}
use Rattle.event.specs.Ready.{unready_at}
use Rattle.event.specs.ReadyView.{IsWay}
use Rattle.event.specs.declared.effects.Effects.{Effects}
use Rattle.event.specs.declared.ready.Unready.{Unready}
use Rattle.event.specs.declared.ready.Way.{Way}
use Rattle.turn.specs.declared.ticket.Task.{Task}
use Rattle.turn.specs.declared.ticket.Ran.{Ran}
use Rattle.book_refusals.specs.declared.fault.BookFault.{BookFault}
use Rattle.book_refusals.specs.declared.fault.BookFault.TheVariants as fault
use Rattle.book.specs.Books.{Book}
use Rattle.book.specs.Calls.{IsKnown, IsFresh, LeadsAsBefore, turn_in, changed}
use Rattle.book.specs.TurnFaults.{TellsLost, TellsStale, TellsCommit}
use Rattle.book.proofs.Checkouts.{nothing_unready}

module _ (w : World) (t : Task) where
  -- a message that is ready leads as before where its lead is the same
  pub leads_back : (way : Way) → IsWay w t.vat (message_of t.message) way → found_of way.lead ≡ found_of t.lead → LeadsAsBefore w t
  leads_back way h same = record { ready = record { leads = h.leads; in_order = h.in_order }; lead = sym same ∙ h.lead }

  pub leads_elsewhere : (way : Way) → IsWay w t.vat (message_of t.message) way → (found_of way.lead ≡ found_of t.lead → ⊥) → LeadsAsBefore w t → ⊥
  leads_elsewhere way h other k = other (h.lead ∙ sym k.lead)

  -- and not where it is not ready
  pub leads_no_more : (reason : Unready) → unready_at w t.vat (message_of t.message) ≡ Some reason → LeadsAsBefore w t → ⊥
  leads_no_more reason h k = none_some (sym (nothing_unready w t.vat (message_of t.message) k.ready.leads k.ready.in_order) ∙ h)
    where
      none_some : None ≡ Some reason → ⊥
      none_some e = cc

-- a message that is lost makes a ticket stale
pub lost_stale : (f : BookFault) (b : Book) (r : Ran) → TellsLost f b.world r.carried → TellsStale f b r
lost_stale fault.Stale b r h = λ k. h k.leads
lost_stale fault.Memory b r h = tt
lost_stale (fault.NoVat x) b r h = absurd h
lost_stale (fault.NameTaken x) b r h = absurd h
lost_stale (fault.NoMessage n) b r h = absurd h
lost_stale fault.NotThere b r h = absurd h
lost_stale fault.NotReady b r h = absurd h
lost_stale (fault.Before n) b r h = absurd h
lost_stale fault.NothingToLearn b r h = absurd h
lost_stale fault.Full b r h = absurd h
lost_stale fault.VatOut b r h = absurd h
lost_stale fault.NoTicket b r h = absurd h
lost_stale (fault.NoEvent n) b r h = absurd h
lost_stale (fault.NoPosition n) b r h = absurd h
lost_stale (fault.Settled n) b r h = absurd h
lost_stale (fault.NotLive n) b r h = absurd h
lost_stale (fault.IsLive n) b r h = absurd h
lost_stale (fault.NotClosed n k) b r h = absurd h
lost_stale (fault.Crossed n k) b r h = absurd h
lost_stale (fault.CauseMissing n k) b r h = absurd h
lost_stale (fault.Dependent n k) b r h = absurd h
lost_stale fault.BadBudget b r h = absurd h
lost_stale (fault.Check n) b r h = absurd h

-- and a stale ticket is refused
pub stale_commit : (f : BookFault) (b : Book) (r : Ran) → IsKnown b r.carried → TellsStale f b r → TellsCommit f b r
stale_commit fault.Stale b r known h = changed known h
stale_commit fault.Memory b r known h = tt
stale_commit (fault.NoVat x) b r known h = absurd h
stale_commit (fault.NameTaken x) b r known h = absurd h
stale_commit (fault.NoMessage n) b r known h = absurd h
stale_commit fault.NotThere b r known h = absurd h
stale_commit fault.NotReady b r known h = absurd h
stale_commit (fault.Before n) b r known h = absurd h
stale_commit fault.NothingToLearn b r known h = absurd h
stale_commit fault.Full b r known h = absurd h
stale_commit fault.VatOut b r known h = absurd h
stale_commit fault.NoTicket b r known h = absurd h
stale_commit (fault.NoEvent n) b r known h = absurd h
stale_commit (fault.NoPosition n) b r known h = absurd h
stale_commit (fault.Settled n) b r known h = absurd h
stale_commit (fault.NotLive n) b r known h = absurd h
stale_commit (fault.IsLive n) b r known h = absurd h
stale_commit (fault.NotClosed n k) b r known h = absurd h
stale_commit (fault.Crossed n k) b r known h = absurd h
stale_commit (fault.CauseMissing n k) b r known h = absurd h
stale_commit (fault.Dependent n k) b r known h = absurd h
stale_commit fault.BadBudget b r known h = absurd h
stale_commit (fault.Check n) b r known h = absurd h

-- what is worked out of the turn of a ticket in a world
abbrev pub Effected : Ran → Way → Effects → World → Type 0
Effected r way it w = w (key.Msg r.carried.name) ≡ Some (message (message_of r.carried.message)) → AreNew w (letters_from r.carried.event 0 (outbox_of r.outcome.out).letters) → IsWay w r.carried.vat (message_of r.carried.message) way
    → (u : State) → BringsTurn r.carried.event w r.carried.name (turn_of (message_of r.carried.message) r.carried.vat r.outcome u) it

-- brings the turn in the world that is still as it was found
pub brought : (b : Book) (w : World) → w ≡ b.world → (r : Ran) (way : Way) (it : Effects) → Effected r way it w → IsFresh b r → AreNew b.world (letters_from r.carried.event 0 (outbox_of r.outcome.out).letters) → IsWay b.world r.carried.vat (message_of r.carried.message) way
    → BringsTurn r.carried.event b.world r.carried.name (turn_in b.world r) it
brought b w same r way it effects fresh new leads =
    let here : Effected r way it b.world = subst (Effected r way it) same effects in
    here fresh.waiting new leads (vat_state b.world r.carried.vat)
