-- Worlds whose cells hold the fences, and a step of events: a relation, so that not every event need be possible.
use Rattle.std.specs.Prelude.{◌≡◌, Bool, true, false, ◌||◌, List, [], ◌∷◌, map}
use Rattle.std.specs.List.{AllByRecursion}
use Rattle.eorder.specs.Places.{Carrier, Place, same_message}
use Rattle.eorder.specs.Acts.{Act, sent, left, came, joined, Entry, did, Fences, Start, applied}
use Rattle.eorder.specs.Order.{awaited}
use Rattle.eorder.specs.Deeds.{Deed, turn, learn, history_of}
use Rattle.ids.specs.declared.names.VatNo.{VatNo}
use Rattle.ids.specs.declared.names.MsgId.{MsgId}
use Rattle.ids.specs.declared.reference.Reference.{Reference}

pub record Worlds : Type 1 where
  pub World : Type 0
  pub Event : Type 0
  -- in a world the event may lead to a second one, by this deed
  pub step : Event → World → World → Deed → Type 0
  -- the fence in a cell: empty where the cell is absent
  pub read : World → Fences
  -- whether a message had its turn
  pub is_done : World → MsgId → Bool

-- a world, as a start
abbrev pub seen : (t : Worlds) → t.World → Start
seen t w = record { fences = t.read w; done = t.is_done w }

-- fences after acts of a vat
abbrev pub after_acts : VatNo → List Act → Fences → Fences
after_acts v [] f = f
after_acts v (a ∷ acts) f = applied (did v a) (after_acts v acts f)

-- if the act sends a message, it is none that is done
abbrev pub SendsNew : (MsgId → Bool) → Act → Type 0
SendsNew done (sent m t) = done m ≡ false
SendsNew done (left r c) = Unit {0}
SendsNew done (came r c t) = Unit {0}
SendsNew done (joined p t) = Unit {0}

-- what a turn's step from w to u has to do: its message was not done and now is, all that it waits for was done, and the cells are what the acts leave
pub record TurnLaw (t : Worlds) (w u : t.World) (v : VatNo) (m : MsgId) (walk : List (Carrier × Reference)) (acts : List Act) : Type 0 where
  pub new : t.is_done w m ≡ false
  pub ready : AllByRecursion (λ k. (b : MsgId) → t.read w k b ≡ true → t.is_done w b ≡ true) (awaited m walk)
  pub cells : (k : Place) (b : MsgId) → t.read u k b ≡ after_acts v acts (t.read w) k b
  pub done : (b : MsgId) → t.is_done u b ≡ (same_message m b || t.is_done w b)
  pub sends : AllByRecursion (SendsNew (t.is_done u)) acts

-- acts of the vat v lead from w to u: what the step of a learnt value has to do, and what an evaluation keeps act by act
pub record Kept (t : Worlds) (v : VatNo) (w u : t.World) (acts : List Act) : Type 0 where
  pub cells : (k : Place) (b : MsgId) → t.read u k b ≡ after_acts v acts (t.read w) k b
  pub done : (b : MsgId) → t.is_done u b ≡ t.is_done w b
  pub sends : AllByRecursion (SendsNew (t.is_done w)) acts

abbrev pub DeedLaw : (t : Worlds) → t.World → t.World → Deed → Type 0
DeedLaw t w u (turn v m walk acts) = TurnLaw t w u v m walk acts
DeedLaw t w u (learn v acts) = Kept t v w u acts

-- each possible step does what its deed says
abbrev pub StepLaw : Worlds → Type 0
StepLaw t = (e : t.Event) (w u : t.World) (d : Deed) → t.step e w u d → DeedLaw t w u d

-- from w these events ran, the newest first, each by its deed, and led to u
abbrev pub Ran : (t : Worlds) → t.World → List (t.Event × Deed) → t.World → Type 0
Ran t w [] u = u ≡ w
Ran t w (p ∷ ps) u = (x : t.World) × Ran t w ps x × t.step p.0 x u p.1

-- what they did
abbrev pub deeds_of : (t : Worlds) → List (t.Event × Deed) → List Deed
deeds_of t ps = map (λ p. p.1) ps

abbrev pub history : (t : Worlds) → List (t.Event × Deed) → List Entry
history t ps = history_of (deeds_of t ps)
