-- A turn that was run is entered, and its ticket struck out.
use Rattle.std.proofs.Common.{◌≡◌, ℕ, ◌+◌, ◌<◌, List, [], ◌∷◌, ◌++◌, Option, None, Some, refl, sym, ap, ◌∙◌, subst, le_refl}
use Rattle.std.proofs.Math.Logic.{∥∥₁_elim, ∥∥₁_map}
use Rattle.std.proofs.Props.{props}
use Rattle.std.proofs.lemmas.List.Elements.{Contains-push}
use Rattle.std.specs.Prelude.{IfSome}
use Rattle.std.specs.Option.{option_map}
use Rattle.std.specs.Arc.{arc_value}
use Rattle.history.specs.Journal.{Free}
use Rattle.history.specs.Records.{contents, entries_of}
use Rattle.ids.specs.declared.names.EventName.{EventName}
use Rattle.ids.specs.declared.names.MsgId.{MsgId}
use Rattle.ids.specs.declared.cells.CellKey.TheVariants as key
use Rattle.heap.specs.Found.{Found as FoundCells, touched_in}
use Rattle.heap.specs.State.{State}
use Rattle.heap.specs.View.{state_of as heap_state_of}
use Rattle.world_cells.specs.Events.{Noted, turn}
use Rattle.post.specs.MessageView.{message_of}
use Rattle.world_cells.specs.Theory.{cells, kepts_of}
use Rattle.post.specs.Messages.{Message, Place, at_vat}
use Rattle.world_cells.specs.World.{World, Content, message, vat_state}
use Rattle.world_cells.specs.World.{message_of as world_message}
use Rattle.turn_deliveries.specs.Turn.{Found}
use Rattle.turn_deliveries.specs.Outcomes.{outcome_on, written_by}
use Rattle.eval_rules.specs.OutboxView.{outbox_of}
use Rattle.event.specs.Events.{DoesNoted, Foot, AreNew, DeliversOn, Turn, Turns, turns, turn_foot, letters_from, noted_events}
use Rattle.event.specs.Effects.{BringsTurn}
use Rattle.event.specs.Ready.{early, lost}
use Rattle.event.specs.ReadyView.{IsWay}
use Rattle.event.specs.declared.effects.Effects.{Effects}
use Rattle.event.specs.declared.ready.Way.{Way}
use Rattle.journal.specs.Items.{entered}
use Rattle.desk.specs.Desks.{Lent, without}
use Rattle.turn.specs.declared.ticket.Out.{Out}
use Rattle.turn.specs.declared.ticket.Task.{Task}
use Rattle.turn.specs.declared.ticket.Ran.{Ran}
use Rattle.undo.specs.CoreView.{shown, state_of}
use Rattle.undo.specs.declared.undoing.Core.{Core}
use Rattle.book_refusals.specs.Refusals.{refuse_where, refusal_of, vat_out}
use Rattle.book.specs.Books.{Book}
use Rattle.book.specs.Calls.{lent_of, Lends, IsKnown, IsFresh, LeadsAsBefore, EntersTurn, turn_in, Commits, TurnsNext}
use Rattle.book.specs.Refusals.{budget_refusal, message_out, journal_full, checkout_refusal}
use Rattle.book.specs.Standing.{Kept, Stands}
use Rattle.book.proofs.Entering.{book_with, book_enters, book_stands, kept_entered}
use Rattle.book.proofs.Within.{neither, room_for_names}
use Rattle.book.proofs.Unnamed.{letters_new}
use Rattle.book.proofs.TicketsOut.{all_out, without_differ, apart_without, all_filter}

-- the turn that a ticket was run for is one of the world, wherever the world is as the turn found it and what was sent is new there
pub run_turns : (b : Book) (r : Ran) → IsFresh b r → AreNew b.world (letters_from r.carried.event 0 (outbox_of r.outcome.out).letters) → ∥ Turns r.carried.event b.world r.carried.name r.carried.budget (turn_in b.world r) ∥₁
run_turns b r h new =
    let u : State = vat_state b.world r.carried.vat in
    ∥∥₁_map (r.met u h.found) (λ d. record {
      waiting = h.waiting;
      there = h.there;
      leads = h.leads.ready.leads;
      in_order = h.leads.ready.in_order;
      delivers = subst (λ (f : Found). DeliversOn (message_of r.carried.message) f r.carried.event r.carried.vat u r.carried.budget (outcome_on r.outcome u) (touched_in r.outcome.footprint) (written_by r.outcome)) h.leads.lead d;
      fresh = new;
    })

-- a message that the world has is the one that is carried, their places aside
pub is_copied : {A : Type 0} (f : A → Message) (Q : Message → Type 0) (o : Option A) (x : Option Content) → option_map (λ a. message (f a)) o ≡ x → IfSome o (λ a. Q (f a)) → (g : Message) → x ≡ Some (message g) → Q g
is_copied f Q None x e h g is = absurd (none_some (e ∙ is))
  where
    none_some : None ≡ Some (message g) → ⊥
    none_some e = cc
is_copied f Q (Some a) x e h g is = subst Q (one (f a) g (e ∙ is)) h
  where
    one : (a b : Message) → Some (message a) ≡ Some (message b) → a ≡ b
    one a b e = cc

pub copied_if : {A : Type 0} (f : A → Message) (Q : Message → Type 0) (o : Option A) (x : Option Content) → option_map (λ a. message (f a)) o ≡ x → ((g : Message) → x ≡ Some (message g) → Q g) → IfSome o (λ a. Q (f a))
copied_if f Q None x e h = tt
copied_if f Q (Some a) x e h = h (f a) (sym e)

pub same_message : (a b : Message) → Some (message a) ≡ Some (message b) → a ≡ b
same_message a b e = cc

-- what is not there is no message that waits
pub none_waits : {A : Type 0} {g : Message} (o : Option A) (f : A → Message) → o ≡ None → option_map (λ a. message (f a)) o ≡ Some (message g) → ⊥
none_waits None f e is = cc
none_waits (Some a) f e is = cc

-- a known message that is at its vat is just the one that is carried
pub fresh_waiting : (b : Book) (t : Task) (g : Message) → IsKnown b t → b.world (key.Msg t.name) ≡ Some (message g) → g.place ≡ at_vat t.vat → (message_of t.message).place ≡ at_vat t.vat
    → b.world (key.Msg t.name) ≡ Some (message (message_of t.message))
fresh_waiting b t g k waits here there = waits ∙ ap (λ (x : Message). Some (message x)) (ap (λ (p : Place). record g { place = p }) (here ∙ sym there) ∙ k.copy g waits)

-- what the turn of a ticket that is out sends is new
pub sent_new : (core : Core) (next : ℕ) (out : List Lent) → Stands core next out → (r : Ran) → IsKnown (book_with core next out) r.carried → AreNew (contents cells (state_of core)) (letters_from r.carried.event 0 (outbox_of r.outcome.out).letters)
sent_new core next out h r known = letters_new core next out h (lent_of r.carried) known.out 0 (outbox_of r.outcome.out).letters

-- a turn that was run, and what it brings, is entered in a core
module _ (old now : Core) (next : ℕ) (out : List Lent) (r : Ran) (it : Effects) where
  abbrev w : World
  w = contents cells (state_of old)

  abbrev e : Noted
  e = record { name = r.carried.event; act = turn r.carried.vat r.carried.name r.carried.budget; notes = (outbox_of r.outcome.out).notes }

  module _ (brings : BringsTurn r.carried.event w r.carried.name (turn_in w r) it) (is : shown now ≡ entered e r.carried.seat it.touched.items (kepts_of it.records.items) (shown old))
      (known : IsKnown (book_with old next out) r.carried) (fresh : IsFresh (book_with old next out) r) (h : Stands old next out) where
    abbrev f : Foot
    f = turn_foot r.carried.event w r.carried.name (turn_in w r) brings.cells brings.left

    its_turn : ∥ Turns r.carried.event w r.carried.name r.carried.budget (turn_in w r) ∥₁
    its_turn = run_turns (book_with old next out) r fresh (sent_new old next out h r known)

    does : ∥ DoesNoted e w f ∥₁
    does = ∥∥₁_map its_turn (λ t. (turns t brings.leaves, refl))

    drawn : r.carried.event.0 < next
    drawn = ∥∥₁_elim h (hlevel props) (λ k. all_out _ out (lent_of r.carried) k.drawn known.out)

    free : (k : Kept old next out) → Free noted_events r.carried.event.0 (entries_of k.rows)
    free k = all_out (λ t. Free noted_events t.number.0 (entries_of k.rows)) out (lent_of r.carried) k.free known.out

    pub committed_turn : (others : List Lent) → EntersTurn r.carried.event r.carried.name r.carried.budget r.carried.seat (turn_in w r) (book_with old next out) (book_with now next others)
    committed_turn others = record {
      turns = its_turn;
      cells = brings.cells;
      left = brings.left;
      leaves = brings.leaves;
      enters = book_enters old now next next out e r.carried.seat it.touched.items (kepts_of it.records.items) f brings.brings is (le_refl next) drawn h does free next others;
    }

    pub committed_stands : Stands now next (without r.carried.event out)
    committed_stands = book_stands old now next next out e r.carried.seat it.touched.items (kepts_of it.records.items) f brings.brings is (le_refl next) drawn h does free (without r.carried.event out)
        (λ k d. kept_entered old now next next out e r.carried.seat it.touched.items (kepts_of it.records.items) f brings.brings is (le_refl next) drawn k d (free k) (without r.carried.event out)
        (all_filter _ _ out k.free) (without_differ r.carried.event out) (all_filter _ _ out k.drawn) (apart_without r.carried.event out k.apart))

-- a checkout that is not refused has room
pub has_room : (b : Book) (m : MsgId) (budget : ℕ) → checkout_refusal b m budget ≡ None → journal_full b ≡ None
has_room b m budget e = room_for_names b (neither (option_map (refusal_of m) (early b.world m)) _
    (neither (refuse_where (message_out (world_message b.world m) b.out) vat_out) _ (neither (option_map (refusal_of m) (lost b.world m)) _ (neither (budget_refusal budget) _ e))))

-- a ticket that was just lent and run is known and fresh, and there is room for its turn
module _ (m : MsgId) (budget seat : ℕ) (t : Out) (old mid : Book) (r : Ran) (lends : Lends m budget seat t old mid) (same : r.carried ≡ t.carried)
    (found : FoundCells r.outcome.footprint (heap_state_of (arc_value t.state))) (room : checkout_refusal old m budget ≡ None) where
  abbrev lent_book : Book
  lent_book = record old { next = old.next + 1; out = old.out ++ lent_of t.carried ∷ [] }

  known_lent : IsKnown lent_book t.carried
  known_lent = record {
    out = Contains-push old.out (lent_of t.carried);
    copy = λ g is. ap (λ (x : Message). record x { place = (message_of t.carried.message).place }) (same_message g (message_of t.carried.message) (sym is ∙ lends.carries.waiting));
  }

  pub lent_known : IsKnown mid r.carried
  lent_known = subst (λ (b : Book). IsKnown b r.carried) (sym lends.lent) (subst (IsKnown lent_book) (sym same) known_lent)

  pub lent_fresh : IsFresh mid r
  lent_fresh = subst (λ (b : Book). IsFresh b r) (sym lends.lent) (record {
    waiting = subst (λ (o : Task). old.world (key.Msg o.name) ≡ Some (message (message_of o.message))) (sym same) lends.carries.waiting;
    there = subst (λ (o : Task). (message_of o.message).place ≡ at_vat o.vat) (sym same) lends.carries.there;
    leads = subst (LeadsAsBefore old.world) (sym same) (record { ready = lends.ready; lead = lends.carries.lead });
    found = subst (λ (o : Task). FoundCells r.outcome.footprint (vat_state old.world o.vat)) (sym same) (subst (λ (s : State). FoundCells r.outcome.footprint s) lends.carries.state found);
  })

  pub lent_room : journal_full mid ≡ None
  lent_room = ap journal_full lends.lent ∙ has_room old m budget room

  -- its message leads where it led
  pub lent_way : (way : Way) → IsWay old.world t.carried.vat (message_of t.carried.message) way → IsWay mid.world r.carried.vat (message_of r.carried.message) way
  lent_way way h = subst (λ (b : Book). IsWay b.world r.carried.vat (message_of r.carried.message) way) (sym lends.lent) (subst (λ (o : Task). IsWay old.world o.vat (message_of o.message) way) (sym same) h)

  -- and its turn, entered, is one under the name that came next
  moved : (u : Turn) (now : Book) (e f : EventName) (n k : MsgId) (x y : ℕ) (p q : ℕ) → e ≡ f → n ≡ k → x ≡ y → p ≡ q → EntersTurn e n x p u lent_book now → EntersTurn f k y q u old now
  moved u now e f n k x y p q ef nk xy pq h = subst (λ i. EntersTurn i k y q u old now) ef (subst (λ i. EntersTurn e i y q u old now) nk (subst (λ i. EntersTurn e n i q u old now) xy (subst (λ i. EntersTurn e n x i u old now) pq (record {
    turns = h.turns;
    cells = h.cells;
    left = h.left;
    leaves = h.leaves;
    enters = record {
      does = h.enters.does;
      step = h.enters.step;
      line = h.enters.line;
      tells = record {
        event = h.enters.tells.event;
        same_seat = h.enters.tells.same_seat;
        live = h.enters.tells.live;
        touched = h.enters.tells.touched;
        written = h.enters.tells.written;
        causes = h.enters.tells.causes;
      };
      entered = h.enters.entered;
    };
  }))))

  pub turned : (u : Turn) (now : Book) (e : EventName) → u ≡ turn_in mid.world r → e ≡ r.carried.event → seat ≡ 0 → without t.carried.event (old.out ++ lent_of t.carried ∷ []) ≡ old.out → Commits r mid now → TurnsNext e m budget u old now
  turned u now e turn_is is none back h = record {
    named = ap (λ (n : EventName). n.0) is ∙ ap (λ (o : Task). o.event.0) same ∙ lends.named;
    same_settled = h.same_settled ∙ ap (λ (b : Book). b.settled) lends.lent;
    drawn = h.same_next ∙ ap (λ (b : Book). b.next) lends.lent;
    same_out = h.out ∙ ap (λ (b : Book). without r.carried.event b.out) lends.lent ∙ ap (λ (o : Task). without o.event (old.out ++ lent_of t.carried ∷ [])) same ∙ back;
    enters = subst (λ (v : Turn). EntersTurn e m budget 0 v old now) (sym turn_is) (moved (turn_in mid.world r) now r.carried.event e r.carried.name m r.carried.budget budget r.carried.seat 0 (sym is)
        (ap (λ (o : Task). o.name) same ∙ lends.of_message) (ap (λ (o : Task). o.budget) same ∙ lends.same_budget) (ap (λ (o : Task). o.seat) same ∙ lends.same_seat ∙ none)
        (subst (λ (b : Book). EntersTurn r.carried.event r.carried.name r.carried.budget r.carried.seat (turn_in mid.world r) b now) lends.lent h.enters));
  }

-- a ticket that was lent and is struck out again leaves a name that is drawn, and nothing else
pub struck : (m : MsgId) (budget seat : ℕ) (t : Out) (old mid now : Book) (e : EventName) → Lends m budget seat t old mid → e ≡ t.carried.event → without t.carried.event (old.out ++ lent_of t.carried ∷ []) ≡ old.out
    → now ≡ record mid { out = without e mid.out } → now ≡ record old { next = old.next + 1 }
struck m budget seat t old mid now e lends is back gone =
    gone ∙ ap (λ (b : Book). record b { out = without e b.out }) lends.lent ∙ ap (λ (n : EventName). record old { next = old.next + 1; out = without n (old.out ++ lent_of t.carried ∷ []) }) is
    ∙ ap (λ (ts : List Lent). record old { next = old.next + 1; out = ts }) back
