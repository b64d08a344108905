-- The live turns of a vat, as they are found among entries.
use Rattle.std.specs.Prelude.{cond, List, [], ◌∷◌, Option, None}
use Rattle.ids.specs.declared.names.VatNo.{VatNo}
use Rattle.ids.specs.declared.names.MsgId.{MsgId}
use Rattle.kernele.specs.Tree.{Name}
use Rattle.world_cells.specs.Events.{Noted}
use Rattle.journal.specs.Items.{Item}
use Rattle.causewaylog.specs.Turns.{born_as, got_by}

-- the live events of items
abbrev pub live_of : List Item → List Noted
live_of [] = []
live_of (i ∷ items) = cond i.live (i.event ∷ live_of items) (live_of items)

-- the vat that an item, if it is live, gives birth to, if that has this name
abbrev pub born_in : Name → Item → Option VatNo
born_in x i = cond i.live (born_as x i.event.name i.event.act) None

-- the message that a vat gets by an item, if it is live and a turn of the vat
abbrev pub got_from : VatNo → Item → Option MsgId
got_from v i = cond i.live (got_by v i.event.act) None
