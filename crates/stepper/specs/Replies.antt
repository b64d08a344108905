-- The replies to a text of commands.
use Rattle.std.specs.Prelude.{◌≡◌, ℕ, suc, ◌+◌, ◌<◌, ◌≤◌, min, List, [], ◌∷◌, ◌++◌, length, filter, count_by, IsSome, Bool, true, false, ◌||◌, Option, Some, None, Result, Ok, Err, codes}
use Rattle.std.specs.Fmt.{decimal}
use Rattle.ids.specs.Names.{event_text, message_text}
use Rattle.ids.specs.Quoted.{quoted}
use Rattle.ids.specs.declared.names.EventName.{EventName}
use Rattle.ids.specs.declared.names.MsgId.{MsgId}
use Rattle.ids.specs.declared.names.VatNo.{VatNo}
use Rattle.kernele.specs.Tree.{Trees}
use Rattle.values.specs.Shown as values
use Rattle.eval_rules.specs.Outcomes.{reason}
use Rattle.turn_deliveries.specs.Turn.{Told, told, lost}
use Rattle.values.specs.Data.{gives, throws}
use Rattle.ereader.specs.Texts.{ReadAs}
use Rattle.ereader.specs.Shown as reading
use Rattle.ereader.specs.declared.fault.ReadFault.TheVariants as read_fault
use Rattle.kernele_scopes.specs.Words.{no_memory}
use Rattle.ereader.specs.declared.fault.ReadFault.{ReadFault}
use Rattle.post.specs.Messages.{Vat}
use Rattle.world_cells.specs.Events.{birth, ask}
use Rattle.event.specs.Events.{Foot, Turn, birth_foot, ask_foot, first_message}
use Rattle.book_agenda.specs.Enabled.{Enabled, First}
use Rattle.book_agenda.specs.declared.agenda.Move.{Move}
use Rattle.book_agenda.specs.declared.agenda.Move.TheVariants as move
use Rattle.book_agenda.specs.declared.agenda.Step.{Step}
use Rattle.book_agenda.specs.declared.agenda.Step.TheVariants as step
use Rattle.desk.specs.Desks.{has_vat}
use Rattle.journal.specs.Lines.{Line}
use Rattle.causality.specs.Exact.{Cone}
use Rattle.causality.specs.Selections.{chosen}
use Rattle.book_refusals.specs.Fault.{refusal_text, work_text}
use Rattle.book_refusals.specs.Refusals.{Refusal}
use Rattle.book_refusals.specs.Checks.{StoodAt, undo_refusal, redo_refusal, cone_refusal, exchange_refusal, settle_refusal}
use Rattle.book_refusals.specs.declared.fault.WorkFault.{WorkFault}
use Rattle.book.specs.Refusals.{birth_refusal, ask_refusal, move_refusal, checkout_refusal}
use Rattle.book.specs.Learning.{LearnsNamed, RefusesNamed}
use Rattle.book.specs.Books.{Book, blank, settled_lines, open_lines}
use Rattle.book.specs.Calls.{EntersNext, TurnsNext, Undoes, Redoes, Exchanges, Settles, act_of}
use Rattle.stepper_commands.specs.Lines.{is_line_feed, line_end, line_of, behind_line}
use Rattle.stepper_commands.specs.declared.numbers.PromiseName.{PromiseName}
use Rattle.stepper_commands.specs.Commands as command
use Rattle.stepper_commands.specs.Commands.{Spelled, spelled_by, fault_text}
use Rattle.stepper_commands.specs.Scripts.{fault_of, script_of, behind_lines}
use Rattle.stepper_printing.specs.Show.{Shows}
use Rattle.causewaylog.specs.Turns.{live_in}
use Rattle.causewaylog.specs.Log.{log_text}
use Rattle.stepper_printing.specs.Listing.{journal_text, cone_text}
use Rattle.stepper_printing.specs.Steps.{ShowsEnabled}
use Rattle.stepper_commands.specs.declared.command.LineFault.{LineFault}
use Rattle.book_crew.specs.Work.{Worked, RefusesWork}
use Rattle.stepper_commands.specs.declared.numbers.ObjectName.{ObjectName}
use Rattle.stepper_questions.specs.Deliveries.{MessageTold, message_refusal}
use Rattle.stepper_questions.specs.Events.{EventTold}
use Rattle.stepper_questions.specs.Objects.{ObjectTold, NoObject}
use Rattle.stepper_questions.specs.Refusals.{pair_refusal, event_refusal, unanswered_text}
use Rattle.stepper_questions.specs.Why.{Why}
use Rattle.stepper_questions.specs.declared.unanswered.Unanswered.{Unanswered}
use Rattle.stepper_questions.specs.declared.unanswered.Unanswered.TheVariants as unanswered
use Rattle.stepper.specs.declared.engine.Limits.{Limits}

-- no CODE NAME ARGS
abbrev pub refused : List ℕ → List ℕ
refused words = codes "no " ++ (words ++ 10 ∷ [])

-- ok EVENT MESSAGE
abbrev pub queued_text : EventName → List ℕ
queued_text e = codes "ok " ++ (event_text e ++ (codes " " ++ (message_text (first_message e) ++ 10 ∷ [])))

-- ok EVENT
abbrev pub done_text : EventName → List ℕ
done_text e = codes "ok " ++ (event_text e ++ 10 ∷ [])

-- idle
abbrev pub idle_text : List ℕ
idle_text = codes "idle" ++ 10 ∷ []

-- what a turn told
abbrev pub told_text : Told → List ℕ
told_text (told (gives v)) = codes "value " ++ values.shown v
told_text (told (throws problem)) = codes "problem " ++ quoted problem
told_text (lost why) = codes "abandoned " ++ quoted (reason why)

-- ok EVENT value V, or problem T, or abandoned T
abbrev pub turned_text : EventName → Told → List ℕ
turned_text e o = codes "ok " ++ (event_text e ++ (codes " " ++ (told_text o ++ 10 ∷ [])))

-- how many entries of a journal these events are
abbrev pub count_of : List EventName → List Line → ℕ
count_of events lines = length (filter (chosen events) lines)

-- ok undone C
abbrev pub undone_text : ℕ → List ℕ
undone_text count = codes "ok undone " ++ (decimal count ++ 10 ∷ [])

-- ok redone C
abbrev pub redone_text : ℕ → List ℕ
redone_text count = codes "ok redone " ++ (decimal count ++ 10 ∷ [])

-- ok exchanged EVENT EVENT
abbrev pub exchanged_text : EventName → EventName → List ℕ
exchanged_text e f = codes "ok exchanged " ++ (event_text e ++ (codes " " ++ (event_text f ++ 10 ∷ [])))

-- ok settled P
abbrev pub settled_text : ℕ → List ℕ
settled_text position = codes "ok settled " ++ (decimal position ++ 10 ∷ [])

-- ok work TURNS
abbrev pub worked_text : ℕ → List ℕ
worked_text turns = codes "ok work " ++ (decimal turns ++ 10 ∷ [])

-- a log, and the end of the line
abbrev pub logged_text : List ℕ → List ℕ
logged_text text = text ++ 10 ∷ []

-- With the options' limits: something that may be done leads from a book to a reply, refused or not, and a book.
-- Want of memory may refuse what needs it; the book then is as it was, but for a name that a turn may have drawn.
pub data Moves (limits : Limits) : Book → Step → List ℕ → Bool → Book → Type 0 where
  move_without_memory : {b : Book} {s : Step} → Moves limits b s (refused (no_memory)) true b
  move_refused : {b : Book} {m : Move} {r : Refusal} → move_refusal b m ≡ Some r → Moves limits b (step.Move m) (refused (refusal_text r)) true b
  move_made : {b d : Book} {m : Move} {e : EventName} {f : Foot} → move_refusal b m ≡ None → EntersNext (record { name = e; act = act_of m }) f 0 b d
      → Moves limits b (step.Move m) (done_text e) false d
  turn_without_memory_named : {b : Book} {m : MsgId} → Moves limits b (step.Turn m) (refused (no_memory)) true (record b { next = b.next + 1 })
  turn_refused : {b : Book} {m : MsgId} {r : Refusal} → checkout_refusal b m limits.budget ≡ Some r → Moves limits b (step.Turn m) (refused (refusal_text r)) true b
  turns : {b d : Book} {m : MsgId} {e : EventName} {t : Turn} → checkout_refusal b m limits.budget ≡ None → TurnsNext e m limits.budget t b d
      → Moves limits b (step.Turn m) (turned_text e t.outcome.told) false d

-- the first that may be done in a book, and all of it
abbrev pub FirstIn : Book → Option Step → Type 0
FirstIn b s = First b.world (λ v. has_vat v b.out) s

abbrev pub EnabledIn : Book → List Step → Type 0
EnabledIn b steps = Enabled b.world (λ v. has_vat v b.out) steps

-- one step is the first that may be done; then a next one may follow, unless nothing was found or it was refused. Without memory it is not
-- known what may be done.
pub data Steps (limits : Limits) : Book → List ℕ → Bool → Book → Bool → Type 0 where
  step_done : {b d : Book} {s : Step} {reply : List ℕ} → FirstIn b (Some s) → Moves limits b s reply false d → Steps limits b reply false d true
  step_refused : {b d : Book} {s : Step} {reply : List ℕ} → FirstIn b (Some s) → Moves limits b s reply true d → Steps limits b reply true d false
  step_idle : {b : Book} → FirstIn b None → Steps limits b idle_text false b false
  step_without_memory : {b : Book} → Steps limits b (refused (no_memory)) true b false

-- so many steps, up to one behind which none follows
pub data Runs (limits : Limits) : ℕ → Book → List ℕ → Bool → Book → Type 0 where
  runs_out : {b : Book} → Runs limits 0 b [] false b
  runs_on : {n : ℕ} {b c d : Book} {reply replies : List ℕ} {q r : Bool} → Steps limits b reply q c true → Runs limits n c replies r d → Runs limits (suc n) b (reply ++ replies) (q || r) d
  runs_last : {n : ℕ} {b d : Book} {reply : List ℕ} {r : Bool} → Steps limits b reply r d false → Runs limits (suc n) b reply r d

-- With the options' limits: a command leads from a book to a reply, refused or not, and a book.
pub data Answers (limits : Limits) : Book → Spelled → List ℕ → Bool → Book → Type 0 where
  arrive_moves : {b d : Book} {m : MsgId} {reply : List ℕ} {r : Bool} → Moves limits b (step.Move (move.Arrive m)) reply r d → Answers limits b (command.arrive m) reply r d
  forward_moves : {b d : Book} {m : MsgId} {reply : List ℕ} {r : Bool} → Moves limits b (step.Move (move.Forward m)) reply r d → Answers limits b (command.forward m) reply r d
  turn_moves : {b d : Book} {m : MsgId} {reply : List ℕ} {r : Bool} → Moves limits b (step.Turn m) reply r d → Answers limits b (command.turn m) reply r d
  learn_without_memory : {b : Book} {x : List ℕ} {n : PromiseName} → Answers limits b (command.learn x n) (refused (no_memory)) true b
  learn_refused : {b : Book} {x : List ℕ} {n : PromiseName} {r : Refusal} → RefusesNamed b x n.event n.index r → Answers limits b (command.learn x n) (refused (refusal_text r)) true b
  learn_accepted : {b d : Book} {x : List ℕ} {n : PromiseName} {e : EventName} → LearnsNamed x n.event n.index e b d → Answers limits b (command.learn x n) (done_text e) false d
  stepped : {b d : Book} {reply : List ℕ} {r more : Bool} → Steps limits b reply r d more → Answers limits b command.step reply r d
  runs : {b d : Book} {n : ℕ} {reply : List ℕ} {r : Bool} → Runs limits n b reply r d → Answers limits b (command.run n) reply r d
  -- what workers enter, and in what order, is not said, but that it is what `Worked` allows
  worked : {b d : Book} {k n turns : ℕ} → Worked (min k limits.workers) n turns b d → Answers limits b (command.work k n) (worked_text turns) false d
  work_refused : {b : Book} {k n : ℕ} (fault : WorkFault) → RefusesWork limits.budget fault → Answers limits b (command.work k n) (refused (work_text fault)) true b
  enabled_without_memory : {b : Book} → Answers limits b command.enabled (refused (no_memory)) true b
  enabled : {b : Book} {found : List Step} {text : List ℕ} → EnabledIn b found → ShowsEnabled b.world found text → Answers limits b command.enabled text false b
  ask_without_memory : {b : Book} {x text : List ℕ} → Answers limits b (command.ask x text) (refused (no_memory)) true b
  asked_without_memory : {b : Book} {x text : List ℕ} → Answers limits b (command.ask x text) (refused (reading.shown read_fault.Memory)) true b
  asked_unread : {b : Book} {x text : List ℕ} {f : ReadFault} → ReadAs text (Err f) → Answers limits b (command.ask x text) (refused (reading.shown f)) true b
  ask_refused : {b : Book} {x text : List ℕ} {program : Trees} {r : Refusal} → ReadAs text (Ok program) → ask_refusal b x program ≡ Some r
      → Answers limits b (command.ask x text) (refused (refusal_text r)) true b
  ask_accepted : {b d : Book} {x text : List ℕ} {program : Trees} {e : EventName} {v : VatNo} → ReadAs text (Ok program) → ask_refusal b x program ≡ None
      → EntersNext (record { name = e; act = ask x program }) (ask_foot e x v program) 0 b d → Answers limits b (command.ask x text) (queued_text e) false d
  show_without_memory : {b : Book} → Answers limits b command.show (refused (no_memory)) true b
  shown : {b : Book} {text : List ℕ} → Shows b.world text → Answers limits b command.show text false b
  journal_without_memory : {b : Book} → Answers limits b command.journal (refused (no_memory)) true b
  listed : {b : Book} → Answers limits b command.journal (journal_text b.settled b.journal) false b
  log_without_memory : {b : Book} {x : List ℕ} → Answers limits b (command.log x) (refused (no_memory)) true b
  logged : {b : Book} {x : List ℕ} → Answers limits b (command.log x) (logged_text (log_text x (live_in (settled_lines b)) (live_in (open_lines b)))) false b
  cone_without_memory : {b : Book} {e : EventName} → Answers limits b (command.cone e) (refused (no_memory)) true b
  cone_refused : {b : Book} {e : EventName} {r : Refusal} → cone_refusal b.settled b.journal e ≡ Some r → Answers limits b (command.cone e) (refused (refusal_text r)) true b
  cone_found : {b : Book} {e : EventName} {names : List EventName} → cone_refusal b.settled b.journal e ≡ None → Cone b.journal e names → Answers limits b (command.cone e) (cone_text names) false b
  undo_without_memory : {b : Book} {events : List EventName} → Answers limits b (command.undo events) (refused (no_memory)) true b
  undo_refused : {b : Book} {events : List EventName} {r : Refusal} → undo_refusal b.settled b.journal events ≡ Some r → Answers limits b (command.undo events) (refused (refusal_text r)) true b
  undo_accepted : {b d : Book} {events : List EventName} → undo_refusal b.settled b.journal events ≡ None → Undoes events b d
      → Answers limits b (command.undo events) (undone_text (count_of events b.journal)) false d
  undo_cone_without_memory : {b : Book} {e : EventName} → Answers limits b (command.undo_cone e) (refused (no_memory)) true b
  undo_cone_refused : {b : Book} {e : EventName} {r : Refusal} → cone_refusal b.settled b.journal e ≡ Some r → Answers limits b (command.undo_cone e) (refused (refusal_text r)) true b
  -- the cone is undone as if its events were named
  undo_cone_found : {b d : Book} {e : EventName} {events : List EventName} {reply : List ℕ} {refusal : Bool} → cone_refusal b.settled b.journal e ≡ None → Cone b.journal e events
      → Answers limits b (command.undo events) reply refusal d → Answers limits b (command.undo_cone e) reply refusal d
  redo_without_memory : {b : Book} {events : List EventName} → Answers limits b (command.redo events) (refused (no_memory)) true b
  redo_refused : {b : Book} {events : List EventName} {r : Refusal} → redo_refusal b.settled b.journal events ≡ Some r → Answers limits b (command.redo events) (refused (refusal_text r)) true b
  redo_accepted : {b d : Book} {events : List EventName} → redo_refusal b.settled b.journal events ≡ None → Redoes events b d
      → Answers limits b (command.redo events) (redone_text (count_of events b.journal)) false d
  exchange_refused : {b : Book} {position : ℕ} {r : Refusal} → exchange_refusal b.settled b.journal position ≡ Some r → Answers limits b (command.exchange position) (refused (refusal_text r)) true b
  exchange_accepted : {b d : Book} {position : ℕ} {e f : EventName} → exchange_refusal b.settled b.journal position ≡ None → Exchanges position b d → StoodAt position b.journal e f
      → Answers limits b (command.exchange position) (exchanged_text e f) false d
  settle_without_memory : {b : Book} {position : ℕ} → Answers limits b (command.settle position) (refused (no_memory)) true b
  settle_refused : {b : Book} {position : ℕ} {r : Refusal} → settle_refusal b.settled b.journal position ≡ Some r → Answers limits b (command.settle position) (refused (refusal_text r)) true b
  settle_accepted : {b d : Book} {position : ℕ} → settle_refusal b.settled b.journal position ≡ None → Settles position b d → Answers limits b (command.settle position) (settled_text position) false d
  -- a question changes nothing
  why_without_memory : {b : Book} {e f : EventName} → Answers limits b (command.why e f) (refused (no_memory)) true b
  why_refused : {b : Book} {e f : EventName} {fault : Unanswered} → pair_refusal b.settled b.journal e f ≡ Some fault → Answers limits b (command.why e f) (refused (unanswered_text fault)) true b
  why_told : {b : Book} {e f : EventName} {text : List ℕ} → pair_refusal b.settled b.journal e f ≡ None → Why b.journal e f text → Answers limits b (command.why e f) text false b
  event_without_memory : {b : Book} {e : EventName} → Answers limits b (command.event e) (refused (no_memory)) true b
  event_refused : {b : Book} {e : EventName} {fault : Unanswered} → event_refusal b.settled b.journal e ≡ Some fault → Answers limits b (command.event e) (refused (unanswered_text fault)) true b
  event_told : {b : Book} {e : EventName} {text : List ℕ} → event_refusal b.settled b.journal e ≡ None → EventTold b.journal e text → Answers limits b (command.event e) text false b
  message_without_memory : {b : Book} {m : MsgId} → Answers limits b (command.message m) (refused (no_memory)) true b
  message_refused : {b : Book} {m : MsgId} {fault : Unanswered} → message_refusal b.world m ≡ Some fault → Answers limits b (command.message m) (refused (unanswered_text fault)) true b
  message_told : {b : Book} {m : MsgId} {text : List ℕ} → MessageTold b.world m text → Answers limits b (command.message m) text false b
  object_without_memory : {b : Book} {o : ObjectName} → Answers limits b (command.object o) (refused (no_memory)) true b
  object_refused : {b : Book} {o : ObjectName} → NoObject b.world o.event o.index → Answers limits b (command.object o) (refused (unanswered_text (unanswered.NoObject o.event o.index))) true b
  object_told : {b : Book} {o : ObjectName} {text : List ℕ} → ObjectTold b.world o.event o.index text → Answers limits b (command.object o) text false b

-- the same for a vat whose script was taken from the lines behind the command
pub data AnswersBirth : Book → List ℕ → List (List ℕ) → Result (List ℕ) LineFault → List ℕ → Bool → Book → Type 0 where
  birth_without_memory : {b : Book} {x : List ℕ} {earlier : List (List ℕ)} {text : List ℕ} → AnswersBirth b x earlier (Ok text) (refused (no_memory)) true b
  script_without_memory : {b : Book} {x : List ℕ} {earlier : List (List ℕ)} {text : List ℕ} → AnswersBirth b x earlier (Ok text) (refused (reading.shown read_fault.Memory)) true b
  script_refused : {b : Book} {x : List ℕ} {earlier : List (List ℕ)} {f : LineFault} → AnswersBirth b x earlier (Err f) (refused (fault_text f)) true b
  script_unread : {b : Book} {x text : List ℕ} {earlier : List (List ℕ)} {f : ReadFault} → ReadAs text (Err f) → AnswersBirth b x earlier (Ok text) (refused (reading.shown f)) true b
  birth_refused : {b : Book} {x text : List ℕ} {earlier : List (List ℕ)} {program : Trees} {r : Refusal} → ReadAs text (Ok program) → birth_refusal b x earlier program ≡ Some r
      → AnswersBirth b x earlier (Ok text) (refused (refusal_text r)) true b
  birth_accepted : {b d : Book} {x text : List ℕ} {earlier : List (List ℕ)} {program : Trees} {e : EventName} (vats : List Vat) → ReadAs text (Ok program) → birth_refusal b x earlier program ≡ None
      → EntersNext (record { name = e; act = birth x earlier program }) (birth_foot e x earlier vats program) 0 b d → AnswersBirth b x earlier (Ok text) (queued_text e) false d

-- what the first line of an input says: why it is no text, or the command that it spells, if any
abbrev pub said_by : Option LineFault → List ℕ → Result (Option Spelled) LineFault
said_by (Some fault) text = Err fault
said_by None text = spelled_by text

abbrev pub said : List ℕ → Result (Option Spelled) LineFault
said input = said_by (fault_of input) (line_of input)

-- the reply to the first line of an input, with its script; then the book, and the input that is left
pub data FirstReply (limits : Limits) : Book → Result (Option Spelled) LineFault → List ℕ → List ℕ → Bool → Book → List ℕ → Type 0 where
  skipped : {b : Book} {input : List ℕ} → FirstReply limits b (Ok None) input [] false b input
  no_command : {b : Book} {f : LineFault} {input : List ℕ} → FirstReply limits b (Err f) input (refused (fault_text f)) true b input
  born : {b d : Book} {x : List ℕ} {earlier : List (List ℕ)} {lines : ℕ} {input reply : List ℕ} {refusal : Bool}
      → AnswersBirth b x earlier (script_of lines input) reply refusal d → FirstReply limits b (Ok (Some (command.birth x earlier lines))) input reply refusal d (behind_lines lines input)
  answered : {b d : Book} {c : Spelled} {input reply : List ℕ} {refusal : Bool}
      → Answers limits b c reply refusal d → FirstReply limits b (Ok (Some c)) input reply refusal d input

-- the replies to a whole input, one after another; whether one is a refusal; and the book in the end
pub data Replies (limits : Limits) : Book → List ℕ → List ℕ → Bool → Book → Type 0 where
  no_more : {b : Book} → Replies limits b [] [] false b
  first_and_more : {b c d : Book} {input rest reply replies : List ℕ} {r s : Bool} → 0 < length input
      → FirstReply limits b (said input) (behind_line input) reply r c rest → Replies limits c rest replies s d → Replies limits b input (reply ++ replies) (r || s) d

-- how many lines of a script follow a line that says this
abbrev pub script_lines : Result (Option Spelled) LineFault → ℕ
script_lines (Ok (Some (command.birth x earlier lines))) = lines
script_lines _ = 0

-- how many line feeds are among bytes
abbrev pub line_feeds : List ℕ → ℕ
line_feeds bytes = count_by is_line_feed bytes

-- the first command of these bytes is whole: a line feed ends its line, and as many more follow as its script has lines
pub record IsWhole (bytes : List ℕ) : Type 0 where
  pub line : IsSome (line_end bytes)
  pub script : script_lines (said bytes) ≤ line_feeds (behind_line bytes)

-- The replies to the first commands of an input, one after another, each of which is whole; whether one is a refusal; the book then, and
-- the input that is left.
pub data RepliesBefore (limits : Limits) : Book → List ℕ → List ℕ → Bool → Book → List ℕ → Type 0 where
  none_yet : {b : Book} {input : List ℕ} → RepliesBefore limits b input [] false b input
  whole_and_more : {b c d : Book} {input rest left reply replies : List ℕ} {r s : Bool} → IsWhole input
      → FirstReply limits b (said input) (behind_line input) reply r c rest → RepliesBefore limits c rest replies s d left → RepliesBefore limits b input (reply ++ replies) (r || s) d left

-- The replies to the commands that bytes hold, and to no part of another: each command is whole, or the input ends behind the bytes.
pub data RepliesToAll (limits : Limits) (bytes : List ℕ) (IsLast : Type 0) (replies : List ℕ) (refused : Bool) (d : Book) : Type 0 where
  whole_ones : RepliesBefore limits blank bytes replies refused d [] → RepliesToAll limits bytes IsLast replies refused d
  with_last : IsLast → Replies limits blank bytes replies refused d → RepliesToAll limits bytes IsLast replies refused d
