-- How messages wait, and the cells that tell it.
use Rattle.std.specs.Prelude.{Bool, true, false, cond, is_none, is_some, List, [], ◌++◌, map, Option, Some, None}
use Rattle.std.specs.declared.cmp.Ordering.{Ordering}
use Rattle.ids.specs.declared.names.VatNo.{VatNo}
use Rattle.ids.specs.declared.names.MsgId.{MsgId}
use Rattle.ids.specs.declared.names.PromId.{PromId}
use Rattle.ids.specs.declared.cells.CellKey.{CellKey}
use Rattle.ids.specs.declared.cells.CellKey.TheVariants as key
use Rattle.post.specs.Delivery.{Delivery, sent, waiting}
use Rattle.post.specs.Messages.{Place, flying, at_vat, done, Message}
use Rattle.world_cells.specs.World.{World, message_of}
use Rattle.event.specs.Forwarding.{onward_of}
use Rattle.event.specs.Ready.{first_undone, unready_at}
use Rattle.event.specs.Walks.{is_there, delivery_walk, looked_up, awaited}
use Rattle.book_agenda.specs.contracts.ways.CueOrd.TheImpl as cue_order
use Rattle.book_agenda.specs.declared.waiting.Waits.{Waits}
use Rattle.book_agenda.specs.declared.waiting.Waits.TheVariants as waits
use Rattle.book_agenda.specs.declared.ways.Cue.{Cue}
use Rattle.book_agenda.specs.declared.ways.Cue.TheVariants as cue

-- the order of cells that tell how messages wait: by kind, then by name
abbrev pub cue_cmp : Cue → Cue → Ordering
cue_cmp = (cue_order.ghosts).cmp

-- the key of such a cell
abbrev pub key_of : Cue → CellKey
key_of (cue.Message m) = key.Msg m
key_of (cue.View v p) = key.View v p
key_of (cue.Board p) = key.Board p

-- ---- how a message waits

-- a message at a vat goes on if it can, or is ready there, or can do neither
abbrev pub waits_here : World → VatNo → Message → Waits
waits_here w v g = cond (is_some (onward_of w v g)) waits.Moving (cond (is_none (unready_at w v g)) (waits.Ready v) waits.Behind)

abbrev pub waits_at : World → Message → Place → Option Waits
waits_at w g (flying v) = Some waits.Moving
waits_at w g (at_vat v) = Some (waits_here w v g)
waits_at w g (done e) = None

abbrev pub waits_of : World → Option Message → Option Waits
waits_of w None = None
waits_of w (Some g) = waits_at w g g.place

-- how a message waits, if it is there and not done
abbrev pub waits_in : World → MsgId → Option Waits
waits_in w m = waits_of w (message_of w m)

-- ---- the cells that tell it

-- the promises of which it tells what a vat knows whether a delivery may be made there: those through which a when's value leads
abbrev pub viewed : World → VatNo → Delivery → List PromId
viewed w v (waiting b) = (delivery_walk w v (waiting b)).through
viewed w v d = []

-- of a message at a vat: what was published on the way of its target, what the vat knows on that of its when's value, and the messages that are awaited
abbrev pub cues_here : World → VatNo → Message → List Cue
cues_here w v g = map cue.Board (looked_up w g.delivery) ++ (map (λ p. cue.View v p) (viewed w v g.delivery) ++ map cue.Message (awaited w g))

-- one that is on its way may always arrive, and one that is done does nothing more
abbrev pub cues_at : World → Message → Place → List Cue
cues_at w g (flying v) = []
cues_at w g (at_vat v) = cues_here w v g
cues_at w g (done e) = []

abbrev pub cues_of : World → Option Message → List Cue
cues_of w None = []
cues_of w (Some g) = cues_at w g g.place

-- the cells that tell how a message waits, besides its own
abbrev pub cues_in : World → MsgId → List Cue
cues_in w m = cues_of w (message_of w m)

-- ---- a message that hangs on others alone

-- a delivery is made in this vat whatever is published or learnt: a call on what is there, an opening, or a question
abbrev pub stays : VatNo → Delivery → Bool
stays v (sent c) = is_there v c.target
stays v (waiting b) = false
stays v d = true

-- it is ready at its vat once these are done
abbrev pub behind : World → VatNo → List MsgId → Waits
behind w v names = cond (is_none (first_undone w names)) (waits.Ready v) waits.Behind
