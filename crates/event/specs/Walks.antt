-- Where the target of a message leads by what was published, and what is awaited on the way.
use Rattle.std.specs.Prelude.{Bool, true, false, Option, Some, None, is_some, List, [], ◌∷◌}
use Rattle.std.specs.Option.{option_map, unwrap_or}
use Rattle.ids.specs.declared.names.VatNo.{VatNo}
use Rattle.ids.specs.declared.names.MsgId.{MsgId}
use Rattle.ids.specs.declared.names.PromId.{PromId}
use Rattle.ids.specs.declared.reference.Reference.{Reference}
use Rattle.eorder.specs.Carried.{Carried, fence_with}
use Rattle.eorder.specs.Fences.{joined, names_in}
use Rattle.values.specs.Data.{Val, null, object, ejector, promise}
use Rattle.refs.specs.Walks.{Resolutions, Walk, ended, walk, most_walked}
use Rattle.post.specs.Delivery.{Delivery, sent, waiting}
use Rattle.post.specs.Messages.{Message, Published}
use Rattle.sends.specs.Vats.{reference_in}
use Rattle.sends.specs.Playing.{views_in}
use Rattle.world_cells.specs.World.{World, published_as, same_vat, vat_state}
use Rattle.turn_deliveries.specs.Turn.{Found}

-- what promises were published as, as a map from promises to values
abbrev pub by_the_board : World → Resolutions
by_the_board w p = option_map (λ b. b.value) (published_as w p)

-- the walk of a value by the board
abbrev pub board_walk : World → Val → Walk
board_walk w v = walk most_walked (by_the_board w) [] v

-- a promise that was resolved leads on, and is no end
abbrev pub leads_on : Resolutions → Option PromId → Bool
leads_on m None = false
leads_on m (Some p) = is_some (m p)

-- the walk by which it is known whether a message may be delivered: of a call's target by the board, of a when's value by the view
-- of its vat; other deliveries wait for no value
abbrev pub delivery_walk : World → VatNo → Delivery → Walk
delivery_walk w v (sent c) = board_walk w c.target
delivery_walk w v (waiting b) = walk most_walked (views_in (vat_state w v)) [] b.value
delivery_walk w v d = ended null

-- the promises whose publications such a walk looks at
abbrev pub looked_up : World → Delivery → List PromId
looked_up w (sent c) = (board_walk w c.target).through
looked_up w d = []

-- of an end: an object or an ejector is delivered to in its own vat, data and what is broken anywhere, and an unresolved promise nowhere
abbrev pub is_there : VatNo → Val → Bool
is_there v (object i) = same_vat i.vat v
is_there v (ejector j) = same_vat j.vat v
is_there v (promise p) = false
is_there v u = true

-- where there is no end, nothing is delivered
abbrev pub ends_there : VatNo → Option Val → Bool
ends_there v None = false
ends_there v (Some u) = is_there v u

-- a when runs wherever its value's end is, if that is no unresolved promise
abbrev pub is_known : Option Val → Bool
is_known None = false
is_known (Some (promise p)) = false
is_known (Some u) = true

abbrev pub may_end : VatNo → Delivery → Option Val → Bool
may_end v (sent c) o = ends_there v o
may_end v (waiting b) o = is_known o
may_end v d o = true

-- the names with which a reference was published
abbrev pub names_behind : Carried → Option Reference → List MsgId
names_behind c None = []
names_behind c (Some r) = names_in (fence_with c r)

-- what is awaited for a publication on the way: the names with which it was published, if it is a reference
abbrev pub awaited_for : Option Published → List MsgId
awaited_for None = []
awaited_for (Some b) = names_behind b.fences (reference_in b.value)

-- for all of them, beside some names
abbrev pub awaited_along : World → List MsgId → List PromId → List MsgId
awaited_along w names [] = names
awaited_along w names (p ∷ ps) = awaited_along w (joined names (awaited_for (published_as w p))) ps

-- the messages that must be done before a message is delivered: those that it comes after, and those that are awaited on its walk
abbrev pub awaited : World → Message → List MsgId
awaited w g = awaited_along w g.after (looked_up w g.delivery)

abbrev pub fences_of : Option Published → Carried
fences_of None = []
fences_of (Some b) = b.fences

-- the fences that were published with the end of a walk: those of its last publication
abbrev pub last_fences : World → List PromId → Carried
last_fences w [] = []
last_fences w (p ∷ []) = fences_of (published_as w p)
last_fences w (p ∷ q ∷ ps) = last_fences w (q ∷ ps)

-- where a delivery leads
abbrev pub found_by : World → Delivery → Found
found_by w (sent c) = record { end = unwrap_or (board_walk w c.target).end c.target; fences = last_fences w (board_walk w c.target).through }
found_by w d = record { end = null; fences = [] }
