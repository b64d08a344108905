-- Whether a message may be delivered in a world, and why not.
use Rattle.std.specs.Prelude.{◌≡◌, Bool, cond, Option, Some, None, List, [], ◌∷◌}
use Rattle.std.specs.Ordering.{match_ordering}
use Rattle.ids.specs.Cells.{message_cmp}
use Rattle.ids.specs.declared.names.VatNo.{VatNo}
use Rattle.ids.specs.declared.names.MsgId.{MsgId}
use Rattle.post.specs.Messages.{Message, done_in, waits_at}
use Rattle.world_cells.specs.World.{World, message_of}
use Rattle.event.specs.Walks.{delivery_walk, may_end, awaited}
use Rattle.event.specs.declared.ready.Unready.{Unready}
use Rattle.event.specs.declared.ready.Unready.TheVariants as why

-- the least of two names
abbrev pub least_with : MsgId → Option MsgId → Option MsgId
least_with m None = Some m
least_with m (Some n) = Some (match_ordering (message_cmp m n) m m n)

-- the least of these messages that is not done, if one is not
abbrev pub first_undone : World → List MsgId → Option MsgId
first_undone w [] = None
first_undone w (m ∷ ms) = cond (done_in (message_of w m)) (first_undone w ms) (least_with m (first_undone w ms))

-- a message that is on its way or done is at no vat
abbrev pub misplaced : Option VatNo → Option Unready
misplaced (Some v) = None
misplaced None = Some why.NotThere

abbrev pub lost_message : Option Message → Option Unready
lost_message None = Some why.NoMessage
lost_message (Some g) = misplaced (waits_at g.place)

-- the message is not there, or at no vat
abbrev pub lost : World → MsgId → Option Unready
lost w m = lost_message (message_of w m)

-- its target does not lead to the vat where it is, or its when's value is not known
abbrev pub leads_there : World → VatNo → Message → Bool
leads_there w v g = may_end v g.delivery (delivery_walk w v g.delivery).end

-- a message that must be done first is not done: the least of them
abbrev pub early_by : Option MsgId → Option Unready
early_by None = None
early_by (Some m) = Some (why.Before m)

-- why a message at a vat may not be delivered: where it leads is asked first
abbrev pub unready_at : World → VatNo → Message → Option Unready
unready_at w v g = cond (leads_there w v g) (early_by (first_undone w (awaited w g))) (Some why.NotReady)

abbrev pub unready_message : World → Option Message → Option VatNo → Option Unready
unready_message w (Some g) (Some v) = unready_at w v g
unready_message w _ _ = None

abbrev pub place_of : Option Message → Option VatNo
place_of None = None
place_of (Some g) = waits_at g.place

-- the message waits for something
abbrev pub early : World → MsgId → Option Unready
early w m = unready_message w (message_of w m) (place_of (message_of w m))

-- the message may be delivered
pub record IsReady (w : World) (m : MsgId) : Type 0 where
  pub at_a_vat : lost w m ≡ None
  pub in_order : early w m ≡ None
