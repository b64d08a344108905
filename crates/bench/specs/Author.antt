-- What instructions do, to a book and to the seat that they come through.
use Rattle.std.specs.Prelude.{◌≡◌, ◌⊎◌, ℕ, false, not, Option, Some, None, IsSome}
use Rattle.ids.specs.declared.names.EventName.{EventName}
use Rattle.ids.specs.declared.names.MsgId.{MsgId}
use Rattle.kernele.specs.View.{program_of}
use Rattle.world_cells.specs.Events.{Act, birth, ask, turn, Event}
use Rattle.event.specs.Events.{Foot}
use Rattle.book_agenda.specs.Enabled.{First}
use Rattle.book_agenda.specs.declared.agenda.Move.{Move}
use Rattle.book_agenda.specs.declared.agenda.Step.{Step}
use Rattle.book_agenda.specs.declared.agenda.Step.TheVariants as step
use Rattle.desk.specs.Desks.{has_vat, is_out, without}
use Rattle.turn.specs.declared.ticket.Ran.{Ran}
use Rattle.book_refusals.specs.Fault.{Tells, told_by}
use Rattle.book_refusals.specs.declared.fault.BookFault.{BookFault}
use Rattle.book_refusals.specs.declared.fault.BookFault.TheVariants.{NoTicket, Memory}
use Rattle.book_refusals.specs.Refusals.{Refusal, first, refuse_where, no_ticket}
use Rattle.book_refusals.specs.Checks.{undo_refusal, redo_refusal, exchange_refusal}
use Rattle.book.specs.Books.{Book}
use Rattle.book.specs.Calls.{EntersNext, Lends, Undoes, Redoes, Exchanges, act_of}
use Rattle.book.specs.Refusals.{budget_refusal, full_refusal}
use Rattle.book.specs.Requests.{EntersRequest, request_refusal}
use Rattle.book.specs.declared.request.Request.{Request}
use Rattle.book.specs.declared.request.Request.TheVariants as request
use Rattle.bench_pact.specs.declared.Act as pact
use Rattle.bench_pact.specs.declared.Act.TheVariants.{Nothing, Opens, Closes}
use Rattle.bench.specs.declared.instruction.Instruction.{Instruction}
use Rattle.bench.specs.declared.instruction.Instruction.TheVariants as instruction
use Rattle.bench.specs.declared.pick.Pick.{Pick}
use Rattle.bench.specs.declared.pick.Pick.TheVariants as pick
use Rattle.bench.specs.SharedBook.{Held, held, Adds}

-- an event of this act is entered from a seat, under the name that comes next
pub record EntersAct (e : EventName) (act : Act) (seat : ℕ) (old now : Book) : Type 0 where
  pub foot : Foot
  pub enters : EntersNext (record { name = e; act = act }) foot seat old now

-- an instruction enters an event
abbrev pub IsEntered : Instruction → ℕ → EventName → Book → Book → Type 0
IsEntered (instruction.Enter r) seat e old now = EntersRequest r seat e old now
IsEntered _ seat e old now = ⊥

-- an instruction that enters none lets a ticket go, or marks entries or moves them
abbrev pub Marks : Instruction → Book → Book → Type 0
Marks (instruction.Abandon n) old now = now ≡ record old { out = without n old.out }
Marks (instruction.Undo names) old now = Undoes names.items old now
Marks (instruction.Redo names) old now = Redoes names.items old now
Marks (instruction.Exchange position) old now = Exchanges position old now
Marks _ old now = ⊥

-- the first refusal of an instruction that holds, if one does
abbrev pub instruction_refusal : Instruction → Book → Option Refusal
instruction_refusal (instruction.Enter r) b = request_refusal r b
instruction_refusal (instruction.Abandon n) b = refuse_where (not (is_out n b.out)) no_ticket
instruction_refusal (instruction.Undo names) b = undo_refusal b.settled b.journal names.items
instruction_refusal (instruction.Redo names) b = redo_refusal b.settled b.journal names.items
instruction_refusal (instruction.Exchange position) b = exchange_refusal b.settled b.journal position

-- a fault tells why an instruction is refused, unless it is want of memory, of which an abandoned ticket and an exchange take none
abbrev pub Refuses : Instruction → Book → BookFault → Type 0
Refuses (instruction.Abandon n) b fault = (fault ≡ NoTicket) × (is_out n b.out ≡ false)
Refuses (instruction.Exchange position) b fault = IsSome (told_by fault) × Tells fault (exchange_refusal b.settled b.journal position)
Refuses c b fault = Tells fault (instruction_refusal c b)

-- what an accepted instruction does to a book, from a seat; it answers the name of a new event, where it enters one
abbrev pub Obeys : Instruction → ℕ → Option EventName → Book → Book → Type 0
Obeys c seat (Some e) old now = IsEntered c seat e old now
Obeys c seat None old now = (instruction_refusal c old ≡ None) × Marks c old now

-- what a seat notes of an instruction that enters no event, or that is refused: an abandoned ticket is no longer open
abbrev pub mark_of : Instruction → pact.Act
mark_of (instruction.Abandon n) = Closes n
mark_of _ = Nothing

-- the act of the event that a request asks for
abbrev pub IsRequested : Request → Act → Type 0
IsRequested (request.Birth x earlier script) act = act ≡ birth x earlier.items (program_of script)
IsRequested (request.Ask x program) act = act ≡ ask x (program_of program)
IsRequested (request.Move m) act = act ≡ act_of m

-- the act of the event that an instruction enters
abbrev pub IsActOf : Instruction → Act → Type 0
IsActOf (instruction.Enter r) act = IsRequested r act
IsActOf _ act = ⊥

-- instructions that enter none
abbrev pub EntersNone : Instruction → Type 0
EntersNone (instruction.Abandon n) = Unit {0}
EntersNone (instruction.Undo names) = Unit {0}
EntersNone (instruction.Redo names) = Unit {0}
EntersNone (instruction.Exchange position) = Unit {0}
EntersNone _ = ⊥

-- what an accepted instruction does to its seat: its event is added to the list; or there is none, and an abandoned ticket is no longer open
abbrev pub Authored : Instruction → Held → Option EventName → Held → Type 0
Authored c old (Some e) now = (act : Act) × IsActOf c act × Adds (record { name = e; act = act }) old now
Authored c old None now = EntersNone c × (now ≡ held old (mark_of c))

-- the first that may be done in a book
abbrev pub FirstIn : Book → Option Step → Type 0
FirstIn b = First b.world (λ v. has_vat v b.out)

-- what is picked for a seat: nothing may be done; or the first that may be done is done at once; or it is a turn, whose ticket is lent
abbrev pub Picks : ℕ → ℕ → Pick → Book → Book → Type 0
Picks budget seat pick.Nothing old now = FirstIn old None × (now ≡ old)
Picks budget seat (pick.Moved e) old now = (m : Move) × FirstIn old (Some (step.Move m)) × EntersAct e (act_of m) seat old now
Picks budget seat (pick.Turn t) old now = (m : MsgId) × FirstIn old (Some (step.Turn m)) × Lends m budget seat t old now

-- there is no room for the first that may be done: names are used up, or the journal has no room; of a turn the budget is tried first
abbrev pub no_room : ℕ → Step → Book → Option Refusal
no_room budget (step.Turn m) b = first (budget_refusal budget) (full_refusal b)
no_room budget s b = full_refusal b

-- a fault tells why nothing is picked: there is no room for the first that may be done, or there is want of memory
abbrev pub RefusesPick : ℕ → Book → BookFault → Type 0
RefusesPick budget b fault = (fault ≡ Memory) ⊎ ((s : Step) × FirstIn b (Some s) × Tells fault (no_room budget s b))

-- what that does to the seat: an arrival, a forwarding or what a vat learns is added, or the ticket is open
abbrev pub Picked : Pick → Held → Held → Type 0
Picked pick.Nothing old now = now ≡ old
Picked (pick.Moved e) old now = (m : Move) × Adds (record { name = e; act = act_of m }) old now
Picked (pick.Turn t) old now = (t.carried.seat ≡ old.number) × (now ≡ held old (Opens t.carried.event))

-- the event that a ticket's turn becomes
abbrev pub turn_of : Ran → Event
turn_of r = record { name = r.carried.event; act = turn r.carried.vat r.carried.name r.carried.budget }
