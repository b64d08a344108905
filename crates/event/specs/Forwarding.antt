-- Where the program has messages go on to.
use Rattle.std.specs.Prelude.{List, Option, None}
use Rattle.std.specs.Option.{option_map}
use Rattle.ids.specs.declared.names.VatNo.{VatNo}
use Rattle.ids.specs.declared.names.PromId.{PromId}
use Rattle.refs.specs.Walks.{Walk}
use Rattle.post.specs.Delivery.{Delivery, sent}
use Rattle.post.specs.Messages.{Message}
use Rattle.world_cells.specs.World.{World}
use Rattle.event.specs.Events.{goes_on}
use Rattle.event.specs.Walks.{board_walk}
use Rattle.event.specs.declared.forwarding.Destination.{Destination}

-- the vat, and the promises on the way
abbrev pub to_of : Destination → VatNo × List PromId
to_of o = (o.to, o.through.items)

abbrev pub going_on : VatNo → Walk → Option (VatNo × List PromId)
going_on v walk = option_map (λ u. (u, walk.through)) (goes_on v walk.end)

abbrev pub delivery_onward : World → VatNo → Delivery → Option (VatNo × List PromId)
delivery_onward w v (sent c) = going_on v (board_walk w c.target)
delivery_onward w v d = None

-- where a message at a vat goes on to, if it does
abbrev pub onward_of : World → VatNo → Message → Option (VatNo × List PromId)
onward_of w v g = delivery_onward w v g.delivery
