-- What events do: turns and what vats learn, each with its acts. Acts and deeds stand with the newest first.
use Rattle.std.specs.Prelude.{◌≡◌, true, List, [], ◌∷◌, ◌⊎◌}
use Rattle.eorder.specs.Places.{Carrier}
use Rattle.eorder.specs.Acts.{Act, Entry, did, turned, Start}
use Rattle.ids.specs.declared.names.VatNo.{VatNo}
use Rattle.ids.specs.declared.names.MsgId.{MsgId}
use Rattle.ids.specs.declared.reference.Reference.{Reference}

-- the turn of a message at a vat, with its walk and its acts, none if it is abandoned; what a vat learns, with its acts
pub data Deed : Type 0 where
  turn : (v : VatNo) → (m : MsgId) → (walk : List (Carrier × Reference)) → (acts : List Act) → Deed
  learn : (v : VatNo) → (acts : List Act) → Deed

-- a history, and then acts of a vat
abbrev pub acted : VatNo → List Act → List Entry → List Entry
acted v [] es = es
acted v (a ∷ acts) es = did v a ∷ acted v acts es

-- a history, and then a deed
abbrev pub onto : Deed → List Entry → List Entry
onto (turn v m walk acts) es = acted v acts (turned m walk ∷ es)
onto (learn v acts) es = acted v acts es

-- the history of deeds
abbrev pub history_of : List Deed → List Entry
history_of [] = []
history_of (d ∷ ds) = onto d (history_of ds)

-- a message was done at the start, or had its turn
abbrev pub HadTurn : Start → List Deed → MsgId → Type 0
HadTurn s [] m = s.done m ≡ true
HadTurn s (turn v b walk acts ∷ ds) m = (b ≡ m) ⊎ HadTurn s ds m
HadTurn s (learn v acts ∷ ds) m = HadTurn s ds m

-- b had its turn, and a had its turn, or was done, before it
abbrev pub TurnBefore : Start → List Deed → MsgId → MsgId → Type 0
TurnBefore s [] a b = (s.done a ≡ true) × (s.done b ≡ true)
TurnBefore s (turn v m walk acts ∷ ds) a b = ((m ≡ b) × HadTurn s ds a) ⊎ TurnBefore s ds a b
TurnBefore s (learn v acts ∷ ds) a b = TurnBefore s ds a b
