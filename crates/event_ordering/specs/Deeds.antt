-- The deeds of events, and where worlds have their fences: so that the theory of the order of messages speaks of them.
use Rattle.std.specs.Prelude.{◌≡◌, ℕ, Bool, List, [], ◌∷◌, ◌++◌, Option, Some, None, is_some}
use Rattle.ids.specs.declared.names.EventName.{EventName}
use Rattle.ids.specs.declared.names.VatNo.{VatNo}
use Rattle.ids.specs.declared.names.MsgId.{MsgId}
use Rattle.ids.specs.declared.names.PromId.{PromId}
use Rattle.ids.specs.declared.reference.Reference.{Reference}
use Rattle.ids.specs.declared.cells.CellKey.TheVariants as key
use Rattle.eorder.specs.Acts.{Fences}
use Rattle.eorder.specs.Carried.{Carried, fence_with}
use Rattle.eorder.specs.Deeds.{Deed, turn as turned, learn as learned}
use Rattle.eorder.specs.Fences.{member, names_in}
use Rattle.eorder.specs.Journals.{Doing, worlds_of}
use Rattle.eorder.specs.Places.{Carrier, argument, published as in_publication, Place, fence_at, carried, sent_after}
use Rattle.kernele.specs.Tree.{Name, Trees}
use Rattle.post.specs.Messages.{Message, Published, done_in}
use Rattle.sends.specs.Vats.{reference_in}
use Rattle.world_cells.specs.Events.{birth, ask, arrive, forward, learn, turn, Event}
use Rattle.world_cells.specs.World.{Content, fenced, World, message_of, published_as, vat_state}
use Rattle.event_ordering.specs.Acts.{delivery_acts, learning_acts}
use Rattle.event_ordering.specs.Reading.{fences_of_delivery, after_of, publication_fences}
use Rattle.eorder.specs.Worlds.{Worlds}
use Rattle.event.specs.Events.{events}
use Rattle.event.specs.Laws.{HasNoMessage}
use Rattle.turn_deliveries.specs.Turn.{Outcome, Delivers}
use Rattle.event.specs.Walks.{looked_up, found_by}

-- ---- where worlds have their fences

abbrev pub fence_in : Option Content → List MsgId
fence_in (Some (fenced names)) = names
fence_in _ = []

abbrev pub argument_fences : Option Message → Carried
argument_fences None = []
argument_fences (Some g) = fences_of_delivery g.delivery

abbrev pub message_after : Option Message → List MsgId
message_after None = []
message_after (Some g) = after_of g.delivery g.after

-- the names that a world has in a place
abbrev pub names_at : World → Place → List MsgId
names_at w (fence_at v r) = fence_in (w (key.Fence v r))
names_at w (carried (argument m) r) = names_in (fence_with (argument_fences (message_of w m)) r)
names_at w (carried (in_publication p) r) = names_in (fence_with (publication_fences (published_as w p)) r)
names_at w (sent_after m) = message_after (message_of w m)

abbrev pub fences_of_world : World → Fences
fences_of_world w k m = member (names_at w k) m

abbrev pub is_done_in : World → MsgId → Bool
is_done_in w m = done_in (message_of w m)

-- ---- what events do

-- the publications of references that a walk went through
abbrev pub walked_to : PromId → Option Reference → List (Carrier × Reference)
walked_to p None = []
walked_to p (Some r) = (in_publication p, r) ∷ []

abbrev pub walked_by : PromId → Option Published → List (Carrier × Reference)
walked_by p None = []
walked_by p (Some b) = walked_to p (reference_in b.value)

abbrev pub walked_along : World → List PromId → List (Carrier × Reference)
walked_along w [] = []
walked_along w (p ∷ ps) = walked_by p (published_as w p) ++ walked_along w ps

-- the last of some promises
abbrev pub last_of : List PromId → Option PromId
last_of [] = None
last_of (p ∷ []) = Some p
last_of (p ∷ q ∷ ps) = last_of (q ∷ ps)

-- whether a promise was published in a world
abbrev pub was_published : World → PromId → Bool
was_published w p = is_some (published_as w p)

-- the deed of an event in a world: turns and what vats learn have acts, and other events have none
pub data Do : Event → World → Deed → Type 0 where
  do_birth : {e : EventName} {w : World} {x : Name} {earlier : List Name} {script : Trees} → Do (record { name = e; act = birth x earlier script }) w (learned (record { 0 = e }) [])
  do_ask : {e : EventName} {w : World} {x : Name} {program : Trees} → Do (record { name = e; act = ask x program }) w (learned (record { 0 = e }) [])
  do_arrive : {e : EventName} {w : World} {m : MsgId} → Do (record { name = e; act = arrive m }) w (learned (record { 0 = e }) [])
  do_forward : {e : EventName} {w : World} {m : MsgId} → Do (record { name = e; act = forward m }) w (learned (record { 0 = e }) [])
  do_learn : {e : EventName} {w : World} {v : VatNo} {p : PromId} {b : Published} → published_as w p ≡ Some b → Do (record { name = e; act = learn v p }) w (learned v (learning_acts (vat_state w v) p b))
  do_turn : {e : EventName} {w : World} {v : VatNo} {m : MsgId} {budget : ℕ} {g : Message} {o : Outcome} → message_of w m ≡ Some g → (r : Delivers g (found_by w g.delivery) e v (vat_state w v) budget o)
      → Do (record { name = e; act = turn v m budget }) w (turned v m (walked_along w (looked_up w g.delivery)) (delivery_acts (was_published w) m (last_of (looked_up w g.delivery)) r))

-- so the events of a book do deeds
abbrev pub doing : Doing events
doing = record { deed = Do; read = fences_of_world; is_done = is_done_in }

-- the worlds of a book, where an event may happen whose name no message has
abbrev pub happening : Worlds
happening = record {
  World = World;
  Event = Event;
  step = λ e w u d. HasNoMessage e.name w × (worlds_of events doing).step e w u d;
  read = fences_of_world;
  is_done = is_done_in;
}
