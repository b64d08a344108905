-- What an instruction or a step that is picked does to a book, as its seat sees it.
use Rattle.std.proofs.Common.{◌≡◌, ℕ, Some, [], ◌∷◌, ◌++◌, false, refl, ap, ◌∙◌}
use Rattle.ids.specs.declared.names.EventName.{EventName}
use Rattle.world_cells.specs.Events.{Act, Event}
use Rattle.world_cells.specs.EventView.{event_of}
use Rattle.world_cells.specs.declared.event.Event as code
use Rattle.book_agenda.specs.declared.agenda.Move.{Move}
use Rattle.book.specs.Books.{Book}
use Rattle.book.specs.Calls.{act_of}
use Rattle.bench_pact.specs.Agree.{strike, entered_by}
use Rattle.bench.specs.declared.instruction.Instruction.{Instruction}
use Rattle.bench.specs.declared.instruction.Instruction.TheVariants as instruction
use Rattle.bench.specs.declared.pick.Pick.TheVariants as pick
use Rattle.book_crew.specs.Work.{is_turn}
use Rattle.bench.specs.SharedBook.{Held, Returns}
use Rattle.bench.specs.Author.{IsActOf, Obeys, Picks, mark_of}
use Rattle.bench.proofs.Agrees.{Grows}
use Rattle.bench.proofs.Moves.{grows_act, requested, request_no_turn, move_no_turn}

-- an instruction entered an event
pub record Entering (c : Instruction) (e : EventName) (seat : ℕ) (old now : Book) : Type 0 where
  pub act : Act
  pub of_instruction : IsActOf c act
  pub no_turn : is_turn act ≡ false
  pub grows : Grows (record { seat = seat; event = record { name = e; act = act } }) old now
  pub same_out : now.out ≡ old.out
  pub same_settled : now.settled ≡ old.settled

pub entering : (c : Instruction) (e : EventName) (seat : ℕ) (old now : Book) → Obeys c seat (Some e) old now → Entering c e seat old now
entering (instruction.Enter r) e seat old now h =
    let it = requested r e seat old now h in record {
      act = it.act;
      of_instruction = it.of_request;
      no_turn = request_no_turn r it.act it.of_request;
      grows = grows_act e it.act seat old now it.enters;
      same_out = it.enters.enters.same_out;
      same_settled = it.enters.enters.same_settled;
    }
entering _ e seat old now h = absurd h

-- a move was made at once
pub record Moving (e : EventName) (seat : ℕ) (old now : Book) : Type 0 where
  pub move : Move
  pub no_turn : is_turn (act_of move) ≡ false
  pub grows : Grows (record { seat = seat; event = record { name = e; act = act_of move } }) old now
  pub same_out : now.out ≡ old.out
  pub same_settled : now.settled ≡ old.settled

pub moving : (budget seat : ℕ) (e : EventName) (old now : Book) → Picks budget seat (pick.Moved e) old now → Moving e seat old now
moving budget seat e old now h = record {
  move = h.0;
  no_turn = move_no_turn h.0;
  grows = grows_act e (act_of h.0) seat old now h.2;
  same_out = h.2.enters.same_out;
  same_settled = h.2.enters.same_settled;
}

-- what is marked enters nothing
pub mark_enters_none : (c : Instruction) → entered_by (mark_of c) ≡ 0
mark_enters_none (instruction.Abandon n) = refl
mark_enters_none (instruction.Enter r) = refl
mark_enters_none (instruction.Undo names) = refl
mark_enters_none (instruction.Redo names) = refl
mark_enters_none (instruction.Exchange position) = refl

-- a seat whose event is added, and of whose tickets one is struck out
abbrev with_event : Held → code.Event → EventName → Held
with_event h added n = record { number = h.number; place = h.place; deeds = record { events = h.deeds.events ++ added ∷ []; tickets = strike n h.deeds.tickets } }

pub returned : (e : Event) (added : code.Event) (old now : Held) → event_of added ≡ e → now ≡ with_event old added added.name → Returns e old now
returned e added old now event is = record { added = added; event = event; seat = is ∙ ap (λ (n : EventName). with_event old added n) (ap (λ (x : Event). x.name) event) }
