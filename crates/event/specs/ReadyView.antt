-- What the program tells of messages that may be delivered, and of those that may not.
use Rattle.std.specs.Prelude.{◌≡◌, true, false, Some, None}
use Rattle.ids.specs.declared.names.VatNo.{VatNo}
use Rattle.post.specs.Delivery.{Delivery}
use Rattle.post.specs.Messages.{Message}
use Rattle.world_cells.specs.World.{World}
use Rattle.turn_deliveries.specs.Outcomes.{found_of}
use Rattle.event.specs.Ready.{leads_there, first_undone, unready_at}
use Rattle.event.specs.Walks.{awaited, delivery_walk, found_by, looked_up, may_end}
use Rattle.event.specs.declared.ready.Delay.{Delay}
use Rattle.event.specs.declared.ready.Delay.TheVariants as delay
use Rattle.event.specs.declared.ready.Unready.TheVariants as why
use Rattle.event.specs.declared.ready.Way.{Way}

-- a message at a vat may be delivered, and this is known of it
pub record IsWay (w : World) (v : VatNo) (g : Message) (way : Way) : Type 0 where
  pub leads : leads_there w v g ≡ true
  pub in_order : first_undone w (awaited w g) ≡ None
  pub lead : found_of way.lead ≡ found_by w g.delivery
  pub through : way.through.items ≡ looked_up w g.delivery
  pub awaited : way.awaited ≡ awaited w g

-- why it may not; want of memory tells nothing
abbrev pub IsUnready : World → VatNo → Message → Delay → Type 0
IsUnready w v g delay.Memory = Unit {0}
IsUnready w v g (delay.Unready reason) = unready_at w v g ≡ Some reason

-- it leads nowhere where it might be delivered
abbrev pub CannotLead : World → VatNo → Delivery → Delay → Type 0
CannotLead w v d delay.Memory = Unit {0}
CannotLead w v d (delay.Unready reason) = (reason ≡ why.NotReady) × (may_end v d (delivery_walk w v d).end ≡ false)
