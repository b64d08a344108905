-- The live turns of a vat.
use Rattle.std.specs.Prelude.{cond, List, [], ◌∷◌, map, filter, Option, Some, None}
use Rattle.std.specs.Option.{option_or}
use Rattle.std.specs.Str.{bytes_eq}
use Rattle.ids.specs.declared.names.EventName.{EventName}
use Rattle.ids.specs.declared.names.VatNo.{VatNo}
use Rattle.ids.specs.declared.names.MsgId.{MsgId}
use Rattle.kernele.specs.Tree.{Name}
use Rattle.eval_rules.specs.Outbox.{Note}
use Rattle.world_cells.specs.Events.{Act, birth, turn, Noted}
use Rattle.world_cells.specs.World.{same_vat}
use Rattle.journal.specs.Lines.{Line}
use Rattle.causality.specs.Selections.{is_live}

-- the live events of a journal with their notes, in its order
abbrev pub live_in : List Line → List Noted
live_in lines = map (λ l. l.entry.event) (filter is_live lines)

-- the vat that an act at an event gives birth to, if that has this name
abbrev pub born_as : Name → EventName → Act → Option VatNo
born_as x e (birth y earlier script) = cond (bytes_eq y x) (Some (record { 0 = e })) None
born_as x e a = None

-- the vat of this name among events: the first that is born with it
abbrev pub vat_called : Name → List Noted → Option VatNo
vat_called x [] = None
vat_called x (e ∷ es) = option_or (born_as x e.name e.act) (vat_called x es)

-- a turn: the message that it got, and what it noted then
pub record Turn : Type 0 where
  pub got : MsgId
  pub notes : List Note

-- the message that a vat gets by an act, if that is a turn of the vat
abbrev pub got_by : VatNo → Act → Option MsgId
got_by v (turn u m budget) = cond (same_vat u v) (Some m) None
got_by v a = None

-- one more turn in front of others, if a message was got
abbrev pub and_turn : Option MsgId → List Note → List Turn → List Turn
and_turn None notes ts = ts
and_turn (Some m) notes ts = record { got = m; notes = notes } ∷ ts

-- the turns of a vat among events, in their order
abbrev pub turns_of : VatNo → List Noted → List Turn
turns_of v [] = []
turns_of v (e ∷ es) = and_turn (got_by v e.act) e.notes (turns_of v es)
