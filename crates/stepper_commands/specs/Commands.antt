-- The commands, and the lines that spell them.
use Rattle.std.specs.Prelude.{ℕ, List, [], ◌∷◌, Bool, true, false, not, ◌&&◌, ◌||◌, ◌==◌, length, nat_le, cond, Option, Some, None, Result, Ok, Err, codes}
use Rattle.std.specs.Option.{option_map, option_and_then}
use Rattle.std.specs.Str.{bytes_eq}
use Rattle.std.specs.List.{before_first, after_first}
use Rattle.etoken.specs.Names.{is_name}
use Rattle.ids.specs.declared.names.EventName.{EventName}
use Rattle.ids.specs.declared.names.MsgId.{MsgId}
use Rattle.stepper_commands.specs.Words.{without_blanks, first_word, behind_word, words_in, ends_blank}
use Rattle.stepper_commands.specs.Numbers.{number_of, behind_tag, message_named, promise_named, object_named, event_named, one_or_more, events_in}
use Rattle.stepper_commands.specs.declared.numbers.ObjectName.{ObjectName}
use Rattle.stepper_commands.specs.declared.numbers.PromiseName.{PromiseName}
use Rattle.stepper_commands.specs.declared.command.Command.{Command}
use Rattle.stepper_commands.specs.declared.command.Command.TheVariants as code
use Rattle.stepper_commands.specs.declared.command.LineFault.{LineFault}
use Rattle.stepper_commands.specs.declared.command.LineFault.TheVariants.{UnknownCommand, BadWord, LineTooLong, Truncated}
use Rattle.stepper_commands.specs.declared.command.TheConstants.{MOST_LINES, LONGEST_NAME, MOST_STEPS, MOST_WORKERS, MOST_TURNS}

pub data Spelled : Type 0 where
  birth : (x : List ℕ) → (earlier : List (List ℕ)) → (lines : ℕ) → Spelled
  ask : (x : List ℕ) → (text : List ℕ) → Spelled
  arrive : (m : MsgId) → Spelled
  forward : (m : MsgId) → Spelled
  learn : (x : List ℕ) → (p : PromiseName) → Spelled
  turn : (m : MsgId) → Spelled
  step : Spelled
  run : (steps : ℕ) → Spelled
  work : (workers turns : ℕ) → Spelled
  enabled : Spelled
  show : Spelled
  journal : Spelled
  log : (x : List ℕ) → Spelled
  cone : (e : EventName) → Spelled
  undo : (events : List EventName) → Spelled
  undo_cone : (e : EventName) → Spelled
  redo : (events : List EventName) → Spelled
  exchange : (position : ℕ) → Spelled
  settle : (position : ℕ) → Spelled
  why : (e f : EventName) → Spelled
  event : (e : EventName) → Spelled
  message : (m : MsgId) → Spelled
  object : (o : ObjectName) → Spelled

-- a name of the language that is no longer than a vat's name may be
abbrev pub is_vat_name : List ℕ → Bool
is_vat_name w = is_name w && nat_le (length w) LONGEST_NAME

abbrev pub at_most : ℕ → ℕ → Option ℕ
at_most limit n = cond (nat_le n limit) (Some n) None

abbrev pub from_one_to : ℕ → ℕ → Option ℕ
from_one_to limit n = cond (nat_le 1 n && nat_le n limit) (Some n) None

abbrev pub is_empty : List ℕ → Bool
is_empty w = length w == 0

-- a word is among these
abbrev pub is_among : List (List ℕ) → List ℕ → Bool
is_among [] w = false
is_among (v ∷ vs) w = cond (bytes_eq v w) true (is_among vs w)

-- words that name vats, none of them twice
abbrev pub are_vats : List (List ℕ) → Bool
are_vats [] = true
are_vats (w ∷ ws) = cond (is_vat_name w) (cond (is_among ws w) false (are_vats ws)) false

-- the names inside brackets, which stand against the first and the last of them, or against each other
abbrev pub earlier_of : List ℕ → Option (List (List ℕ))
earlier_of inside =
    cond (is_empty (first_word inside) && not (is_empty inside) || ends_blank inside) None (cond (are_vats (words_in inside)) (Some (words_in inside)) None)

-- the number of lines, behind blanks and with nothing behind it
abbrev pub lines_of : List ℕ → Option ℕ
lines_of behind =
    let count = behind_word behind in
    cond (is_empty (first_word behind) && is_empty (behind_word count)) (option_and_then (at_most MOST_LINES) (number_of (first_word count))) None

abbrev pub birth_with : List ℕ → Option (List (List ℕ)) → Option ℕ → Option Spelled
birth_with x None lines = None
birth_with x (Some earlier) None = None
birth_with x (Some earlier) (Some lines) = Some (birth x earlier lines)

abbrev pub is_closing : ℕ → Bool
is_closing b = b == 41

-- the names up to the closing bracket, and the number of lines behind it
abbrev pub birth_in : List ℕ → Option (List ℕ) → Option Spelled
birth_in x None = None
birth_in x (Some text) = birth_with x (earlier_of (before_first is_closing text)) (lines_of (after_first is_closing text))

-- vat NAME (EARLIER..) N
abbrev pub birth_of : List ℕ → Option Spelled
birth_of words = cond (is_vat_name (first_word words)) (birth_in (first_word words) (behind_tag 40 (behind_word words))) None

-- ask NAME TEXT: the text is the line's rest, and may be empty
abbrev pub ask_of : List ℕ → Option Spelled
ask_of words = cond (is_vat_name (first_word words)) (Some (ask (first_word words) (behind_word words))) None

-- a command of one message
abbrev pub of_message : (MsgId → Spelled) → List ℕ → Option Spelled
of_message command words = cond (is_empty (behind_word words)) (option_map command (message_named (first_word words))) None

-- learn NAME P
abbrev pub learn_of : List ℕ → Option Spelled
learn_of words =
    let promise = behind_word words in
    cond (is_vat_name (first_word words) && is_empty (behind_word promise)) (option_map (learn (first_word words)) (promise_named (first_word promise))) None

-- run N
abbrev pub run_of : List ℕ → Option Spelled
run_of words = cond (is_empty (behind_word words)) (option_map run (option_and_then (at_most MOST_STEPS) (number_of (first_word words)))) None

abbrev pub work_with : Option ℕ → Option ℕ → Option Spelled
work_with None turns = None
work_with (Some workers) None = None
work_with (Some workers) (Some turns) = Some (work workers turns)

-- work K N
abbrev pub work_of : List ℕ → Option Spelled
work_of words =
    let turns = behind_word words in
    cond (is_empty (behind_word turns)) (work_with (option_and_then (from_one_to MOST_WORKERS) (number_of (first_word words))) (option_and_then (at_most MOST_TURNS) (number_of (first_word turns)))) None

-- a command without words
abbrev pub alone : Spelled → List ℕ → Option Spelled
alone command words = cond (is_empty words) (Some command) None

-- a word, if it may name a vat
abbrev pub vat_named : List ℕ → Option (List ℕ)
vat_named w = cond (is_vat_name w) (Some w) None

-- log NAME
abbrev pub log_of : List ℕ → Option Spelled
log_of words = cond (is_empty (behind_word words)) (option_map log (vat_named (first_word words))) None

-- a command of one event
abbrev pub of_event : (EventName → Spelled) → List ℕ → Option Spelled
of_event command words = cond (is_empty (behind_word words)) (option_map command (event_named (first_word words))) None

-- a command of one event or more
abbrev pub of_events : (List EventName → Spelled) → List ℕ → Option Spelled
of_events command words = option_map command (one_or_more (words_in words))

-- a command of one position
abbrev pub of_position : (ℕ → Spelled) → List ℕ → Option Spelled
of_position command words = cond (is_empty (behind_word words)) (option_map command (number_of (first_word words))) None

abbrev pub why_with : Option EventName → Option EventName → Option Spelled
why_with None f = None
why_with (Some e) None = None
why_with (Some e) (Some f) = Some (why e f)

-- why E F
abbrev pub why_of : List ℕ → Option Spelled
why_of words =
    let other = behind_word words in
    cond (is_empty (behind_word other)) (why_with (event_named (first_word words)) (event_named (first_word other))) None

-- object O
abbrev pub object_of : List ℕ → Option Spelled
object_of words = cond (is_empty (behind_word words)) (option_map object (object_named (first_word words))) None

abbrev pub formed : Option Spelled → Result (Option Spelled) LineFault
formed (Some command) = Ok (Some command)
formed None = Err BadWord

-- the command that a word begins
abbrev pub begun_by : List ℕ → List ℕ → Result (Option Spelled) LineFault
begun_by word words =
    cond (bytes_eq word (codes "vat")) (formed (birth_of words))
    (cond (bytes_eq word (codes "ask")) (formed (ask_of words))
    (cond (bytes_eq word (codes "arrive")) (formed (of_message arrive words))
    (cond (bytes_eq word (codes "forward")) (formed (of_message forward words))
    (cond (bytes_eq word (codes "learn")) (formed (learn_of words))
    (cond (bytes_eq word (codes "turn")) (formed (of_message turn words))
    (cond (bytes_eq word (codes "step")) (formed (alone step words))
    (cond (bytes_eq word (codes "run")) (formed (run_of words))
    (cond (bytes_eq word (codes "work")) (formed (work_of words))
    (cond (bytes_eq word (codes "enabled")) (formed (alone enabled words))
    (cond (bytes_eq word (codes "show")) (formed (alone show words))
    (cond (bytes_eq word (codes "journal")) (formed (alone journal words))
    (cond (bytes_eq word (codes "log")) (formed (log_of words))
    (cond (bytes_eq word (codes "cone")) (formed (of_event cone words))
    (cond (bytes_eq word (codes "undo")) (formed (of_events undo words))
    (cond (bytes_eq word (codes "undo-cone")) (formed (of_event undo_cone words))
    (cond (bytes_eq word (codes "redo")) (formed (of_events redo words))
    (cond (bytes_eq word (codes "exchange")) (formed (of_position exchange words))
    (cond (bytes_eq word (codes "settle")) (formed (of_position settle words))
    (cond (bytes_eq word (codes "why")) (formed (why_of words))
    (cond (bytes_eq word (codes "event")) (formed (of_event event words))
    (cond (bytes_eq word (codes "message")) (formed (of_message message words))
    (cond (bytes_eq word (codes "object")) (formed (object_of words)) (Err UnknownCommand)))))))))))))))))))))))

-- a blank line or a comment is no command
abbrev pub is_skipped : List ℕ → Bool
is_skipped [] = true
is_skipped (b ∷ bs) = b == 35

-- the command that a line spells, none where the line is skipped, or why it is refused
abbrev pub spelled_by : List ℕ → Result (Option Spelled) LineFault
spelled_by line =
    let text = without_blanks line in
    cond (is_skipped text) (Ok None) (begun_by (first_word text) (behind_word text))

-- what the program's commands stand for
abbrev pub command_of : Command → Spelled
command_of (code.Birth name earlier lines) = birth name.now (words_in earlier.now) lines
command_of (code.Ask name text) = ask name.now text.now
command_of (code.Arrive m) = arrive m
command_of (code.Forward m) = forward m
command_of (code.Learn name p) = learn name.now p
command_of (code.Turn m) = turn m
command_of code.Step = step
command_of (code.Run steps) = run steps
command_of (code.Work workers turns) = work workers turns
command_of code.Enabled = enabled
command_of code.Show = show
command_of code.Journal = journal
command_of (code.Log name) = log name.now
command_of (code.Cone e) = cone e
command_of (code.Undo words) = undo (events_in words.now)
command_of (code.UndoCone e) = undo_cone e
command_of (code.Redo words) = redo (events_in words.now)
command_of (code.Exchange position) = exchange position
command_of (code.Settle position) = settle position
command_of (code.Why e f) = why e f
command_of (code.Event e) = event e
command_of (code.Message m) = message m
command_of (code.Object o) = object o

abbrev pub reading_of : Result (Option Command) LineFault → Result (Option Spelled) LineFault
reading_of (Ok c) = Ok (option_map command_of c)
reading_of (Err fault) = Err fault

abbrev pub fault_text : LineFault → List ℕ
fault_text UnknownCommand = codes "S1 UnknownCommand"
fault_text BadWord = codes "S2 BadWord"
fault_text LineTooLong = codes "S3 LineTooLong"
fault_text Truncated = codes "S4 Truncated"
