-- The events: when each is possible, which cells it touches, and what it does to the world.
use Rattle.std.specs.Prelude.{◌≡◌, ℕ, ◌+◌, Bool, true, false, ◌&&◌, not, cond, List, [], ◌∷◌, ◌++◌, map, Option, Some, None, is_some}
use Rattle.std.specs.List.{list_any, AllByRecursion}
use Rattle.history.specs.Subject.{Footprint, Subject}
use Rattle.ids.specs.declared.names.EventName.{EventName}
use Rattle.ids.specs.declared.names.VatNo.{VatNo}
use Rattle.ids.specs.declared.names.MsgId.{MsgId}
use Rattle.ids.specs.declared.names.PromId.{PromId}
use Rattle.ids.specs.CellKeys.{same_key}
use Rattle.ids.specs.declared.cells.CellKey.{CellKey}
use Rattle.ids.specs.declared.cells.CellKey.TheVariants as key
use Rattle.cells.specs.Doing.{Under, and_then, play}
use Rattle.kernele.specs.Tree.{Name, Trees}
use Rattle.kernele_scopes.specs.Scope.{own_names_in}
use Rattle.values.specs.Data.{Val, object, ejector, promise}
use Rattle.heap.specs.State as heap
use Rattle.heap.specs.State.{Cell, Cells, same_cell, no_cells, view_cell, pending, State}
use Rattle.post.specs.Delivery.{Call, opening, asked, sent}
use Rattle.post.specs.Messages.{Vat, at_vat, flying, done, waits_at, arrived, Message, Published}
use Rattle.post.specs.declared.earlier.Earlier.{Earlier}
use Rattle.sends.specs.Vats.{Vat as Doing, Nothing, references, entered, coming_in}
use Rattle.world_cells.specs.Events.{birth, ask, arrive, forward, learn, turn, Event, event_in}
use Rattle.world_cells.specs.Theory.{Rule, subject}
use Rattle.world_cells.specs.World.{Content, vat, message, published, content_of, World, vat_named, message_of, published_as, same_vat, cell_key, vat_state}
use Rattle.event.specs.Ready.{leads_there, first_undone}
use Rattle.eval_rules.specs.Outbox.{Note}
use Rattle.turn_deliveries.specs.Touched.{delivery_touched, delivery_written}
use Rattle.turn_deliveries.specs.Turn.{Found, Told, told, lost, Outcome, Delivers}
use Rattle.event.specs.Walks.{board_walk, looked_up, awaited, found_by}

-- what an event makes first
abbrev pub first_message : EventName → MsgId
first_message e = record { event = e; index = 0 }

abbrev pub first_promise : EventName → VatNo → PromId
first_promise e v = record { event = e; index = 0; home = v }

abbrev pub Foot : Type 0
Foot = Footprint CellKey Content

-- ---- births and questions

-- these are the vats of these names
abbrev pub AreNamed : World → List Name → List Vat → Type 0
AreNamed w [] [] = Unit {0}
AreNamed w (x ∷ xs) (v ∷ vs) = (vat_named w x ≡ Some v) × AreNamed w xs vs
AreNamed w _ _ = ⊥

-- earlier vats by their names, each with the promise for the result of its opening
abbrev pub known_as : List Name → List Vat → List Earlier
known_as (x ∷ xs) (v ∷ vs) = record { name = x; opening = first_promise v.number.0 v.number } ∷ known_as xs vs
known_as _ _ = []

-- the opening message of a vat
abbrev pub opening_message : EventName → List Earlier → Trees → Message
opening_message e earlier script = record { delivery = opening earlier script; result = first_promise e (record { 0 = e }); after = []; place = at_vat (record { 0 = e }) }

-- a birth: the names of the earlier vats are read; the vat's name and its opening message are written
abbrev pub birth_foot : EventName → Name → List Name → List Vat → Trees → Foot
birth_foot e x earlier vats script = record {
  reads = map key.Name earlier;
  writes = (key.Name x, vat (record { number = record { 0 = e }; earlier = earlier; tops = own_names_in script })) ∷ (key.Msg (first_message e), message (opening_message e (known_as earlier vats) script)) ∷ [];
}

-- the message of an asked program: it comes after the vat's opening
abbrev pub asked_message : EventName → VatNo → Trees → Message
asked_message e v program = record { delivery = asked program; result = first_promise e v; after = first_message v.0 ∷ []; place = at_vat v }

-- an asked program: its message
abbrev pub ask_foot : EventName → Name → VatNo → Trees → Foot
ask_foot e x v program = record { reads = key.Name x ∷ []; writes = (key.Msg (first_message e), message (asked_message e v program)) ∷ [] }

-- ---- messages on their way

-- a message is elsewhere
abbrev pub moved_foot : List CellKey → MsgId → Message → Foot
moved_foot reads m g = record { reads = reads; writes = (key.Msg m, message g) ∷ [] }

-- another vat than this one
abbrev pub elsewhere : VatNo → VatNo → Option VatNo
elsewhere here v = cond (same_vat v here) None (Some v)

-- the other vat to which a message goes on whose target ends so: that of an object or an ejector, or the home of an unresolved promise
abbrev pub goes_on : VatNo → Option Val → Option VatNo
goes_on here (Some (object i)) = elsewhere here i.vat
goes_on here (Some (ejector j)) = elsewhere here j.vat
goes_on here (Some (promise p)) = elsewhere here p.home
goes_on here _ = None

-- ---- cells of a vat

-- these are just the cells of a set
abbrev pub Lists : List Cell → Cells → Type 0
Lists cs q = (c : Cell) → list_any (same_cell c) cs ≡ q c

-- these are the cells of a vat that were touched, and what was written into cells of it
pub record Leaves (reached put : Cells) (s : State) (cells : List Cell) (left : List (Cell × heap.Content)) : Type 0 where
  pub touched : Lists cells reached
  pub written : Lists (map (λ p. p.0) left) put
  pub contents : AllByRecursion (λ p. s p.0 ≡ Some p.1) left

-- cells of a vat and what was written there, as those of the world
abbrev pub in_world : VatNo → List (Cell × heap.Content) → List (CellKey × Content)
in_world v left = map (λ p. (cell_key v p.0, content_of p.1)) left

-- ---- what a vat learns

-- a promise is entered as what it was published as; then the promises in that come in, and the fences that were published with it
abbrev pub learning : PromId → Published → Doing Nothing
learning p b = and_then (entered p b.value) (λ t. coming_in b.fences (references b.value))

-- a vat's cells, before anything was touched
abbrev pub untouched : State → Under Cell heap.Content
untouched s = record { state = s; touched = no_cells; written = no_cells }

-- the vat's cells behind that
abbrev pub learnt : World → VatNo → PromId → Published → Under Cell heap.Content
learnt w v p b = (play same_cell (learning p b) (untouched (vat_state w v))).1

-- the board is read, and the vat's cells
abbrev pub learn_foot : VatNo → PromId → List Cell → List (Cell × heap.Content) → Foot
learn_foot v p cells left = record { reads = key.Board p ∷ map (cell_key v) cells; writes = in_world v left }

-- ---- turns

abbrev pub is_lost : Told → Bool
is_lost (told r) = false
is_lost (lost why) = true

-- a message has this outcome, and touches and writes just these cells of the vat
abbrev pub DeliversOn : Message → Found → EventName → VatNo → State → ℕ → Outcome → Cells → Cells → Type 0
DeliversOn g f e v s n o touched written = (r : Delivers g f e v s n o) × (delivery_touched r ≡ touched) × (delivery_written r ≡ written)

-- a turn: the message that is delivered, the vat that runs it, the outcome, the vat's cells that it touched, and those that it wrote
pub record Turn : Type 0 where
  pub message : Message
  pub vat : VatNo
  pub outcome : Outcome
  pub touched : Cells
  pub written : Cells

-- the messages that an event makes: they have its name, and are numbered in order of making
abbrev pub letters_from : EventName → ℕ → List (MsgId × Message) → List (CellKey × Content)
letters_from e i [] = []
letters_from e i (l ∷ ls) = (key.Msg (record { event = e; index = i }), message l.1) ∷ letters_from e (i + 1) ls

-- there is nothing in these cells
abbrev pub AreNew : World → List (CellKey × Content) → Type 0
AreNew w ps = AllByRecursion (λ p. w p.0 ≡ None) ps

-- in a world, the event e may deliver m with this budget, and this is the turn: what it sends is new there
pub record Turns (e : EventName) (w : World) (m : MsgId) (budget : ℕ) (t : Turn) : Type 0 where
  pub waiting : w (key.Msg m) ≡ Some (message t.message)
  pub there : t.message.place ≡ at_vat t.vat
  pub leads : leads_there w t.vat t.message ≡ true
  pub in_order : first_undone w (awaited w t.message) ≡ None
  pub delivers : DeliversOn t.message (found_by w t.message.delivery) e t.vat (vat_state w t.vat) budget t.outcome t.touched t.written
  pub fresh : AreNew w (letters_from e 0 t.outcome.out.letters)

-- what a turn leaves in the cells of its vat: nothing, if it was abandoned
abbrev pub TurnLeaves : Turn → List Cell → List (Cell × heap.Content) → Type 0
TurnLeaves t cells left = Leaves t.touched (λ c. not (is_lost t.outcome.told) && t.written c) t.outcome.state cells left

-- what counts of publications: a promise that was published before is not published again
abbrev pub counted : World → List (PromId × Published) → List (PromId × Published)
counted w [] = []
counted w (b ∷ bs) = cond (is_some (published_as w b.0)) (counted w bs) (b ∷ counted w bs)

abbrev pub on_the_board : List (PromId × Published) → List (CellKey × Content)
on_the_board bs = map (λ b. (key.Board b.0, published b.1)) bs

-- what it makes: messages and publications; and its message is done
abbrev pub made_by : EventName → World → MsgId → Message → Outcome → List (CellKey × Content)
made_by e w m g o = letters_from e 0 o.out.letters ++ (on_the_board (counted w o.out.publications) ++ (key.Msg m, message (record g { place = done e })) ∷ [])

-- what a turn reads beside its vat: what was published on its target's way, the messages that must be done before, and whether what it
-- publishes was published
abbrev pub turn_reads : World → Turn → List CellKey
turn_reads w t = map key.Board (looked_up w t.message.delivery) ++ (map key.Msg (awaited w t.message) ++ map (λ b. key.Board b.0) t.outcome.out.publications)

abbrev pub turn_foot : EventName → World → MsgId → Turn → List Cell → List (Cell × heap.Content) → Foot
turn_foot e w m t cells left = record {
  reads = turn_reads w t ++ map (cell_key t.vat) cells;
  writes = in_world t.vat left ++ made_by e w m t.message t.outcome;
}

-- ---- all of them

-- an event is possible in a world, and has this footprint there; a turn of a message is possible only at the vat where the message is
pub data Does : Event → World → Foot → Type 0 where
  births : {e : EventName} {w : World} {x : Name} {earlier : List Name} (vats : List Vat) {script : Trees} → w (key.Name x) ≡ None → AreNamed w earlier vats
      → Does (record { name = e; act = birth x earlier script }) w (birth_foot e x earlier vats script)
  asks : {e : EventName} {w : World} {x : Name} {program : Trees} {v : Vat} → vat_named w x ≡ Some v
      → Does (record { name = e; act = ask x program }) w (ask_foot e x v.number program)
  arrives : {e : EventName} {w : World} {m : MsgId} {g h : Message} → message_of w m ≡ Some g → arrived g ≡ Some h
      → Does (record { name = e; act = arrive m }) w (moved_foot [] m h)
  forwards : {e : EventName} {w : World} {m : MsgId} {g : Message} {c : Call} {v u : VatNo} → message_of w m ≡ Some g → waits_at g.place ≡ Some v → g.delivery ≡ sent c → goes_on v (board_walk w c.target).end ≡ Some u
      → Does (record { name = e; act = forward m }) w (moved_foot (map key.Board (board_walk w c.target).through) m (record g { place = flying u }))
  learns : {e : EventName} {w : World} {v : VatNo} {p : PromId} {b : Published} {cells : List Cell} {left : List (Cell × heap.Content)} → vat_state w v (view_cell p) ≡ Some (heap.viewed pending) → published_as w p ≡ Some b
      → Leaves (learnt w v p b).touched (learnt w v p b).written (learnt w v p b).state cells left
      → Does (record { name = e; act = learn v p }) w (learn_foot v p cells left)
  turns : {e : EventName} {w : World} {m : MsgId} {budget : ℕ} {t : Turn} {cells : List Cell} {left : List (Cell × heap.Content)} → Turns e w m budget t → TurnLeaves t cells left
      → Does (record { name = e; act = turn t.vat m budget }) w (turn_foot e w m t cells left)

-- the notes that it makes: those of a turn
abbrev pub notes_of : {e : Event} {w : World} {f : Foot} → Does e w f → List Note
notes_of (births vats h i) = []
notes_of (asks h) = []
notes_of (arrives h i) = []
notes_of (forwards h i j k) = []
notes_of (learns h i j) = []
notes_of (turns {t = t} h i) = t.outcome.out.notes

-- an event is possible in a world, has this footprint there, and makes its notes
abbrev pub DoesNoted : Rule
DoesNoted n w f = (d : Does (event_in n) w f) × (notes_of d ≡ n.notes)

-- events alone, one after another: what a plain run is of
abbrev pub events : Subject
events = record { Key = CellKey; Content = Content; Event = Event; same = same_key; name = λ e. e.name.0; Does = Does }

-- the events of a journal with their notes, as the theory of undo sees them
abbrev pub noted_events : Subject
noted_events = subject DoesNoted
