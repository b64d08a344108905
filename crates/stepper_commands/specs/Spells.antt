-- Commands as texts: which command a line spells, a rule for each.
use Rattle.std.specs.Prelude.{◌≡◌, ◌≢◌, ◌↔◌, ℕ, ◌<◌, ◌≤◌, List, [], ◌∷◌, ◌++◌, length, Bool, true, false, Some, None, Ok, Err, All, codes}
use Rattle.std.specs.List.{list_any}
use Rattle.std.specs.Str.{bytes_eq}
use Rattle.ids.specs.declared.names.EventName.{EventName}
use Rattle.ids.specs.declared.names.MsgId.{MsgId}
use Rattle.stepper_commands.specs.Words.{is_blank, is_bare, ends_blank}
use Rattle.stepper_commands.specs.Inputs.{IsWord, HasWords}
use Rattle.stepper_commands.specs.Numbers.{number_of, message_named, promise_named, object_named, event_named, events_named}
use Rattle.stepper_commands.specs.declared.numbers.ObjectName.{ObjectName}
use Rattle.stepper_commands.specs.declared.numbers.PromiseName.{PromiseName}
use Rattle.stepper_commands.specs.Commands.{Spelled, birth, ask, arrive, forward, learn, turn, step, run, work, enabled, show, journal, log, cone, undo, undo_cone, redo, exchange, settle, why, event, message, object, is_vat_name, are_vats, is_skipped, spelled_by}
use Rattle.stepper_commands.specs.declared.command.LineFault.{LineFault}
use Rattle.stepper_commands.specs.declared.command.LineFault.TheVariants.{UnknownCommand, BadWord}
use Rattle.stepper_commands.specs.declared.command.TheConstants.{MOST_LINES, MOST_STEPS, MOST_WORKERS, MOST_TURNS}

-- blanks alone
abbrev pub AreBlanks : List ℕ → Type 0
AreBlanks bs = All (λ b. is_blank b ≡ true) bs

-- a text begins with a word, and this stands behind the blanks after it
pub data BeginsWithWord : List ℕ → List ℕ → List ℕ → Type 0 where
  word_alone : {word : List ℕ} → IsWord word → BeginsWithWord word word []
  word_before : {word rest : List ℕ} (blanks : List ℕ)
      → IsWord word → 0 < length blanks → AreBlanks blanks → is_bare rest ≡ true → BeginsWithWord (word ++ blanks ++ rest) word rest

-- a line begins with the word of a command, behind blanks or none, and this stands behind the blanks after it
pub data BeginsCommand : List ℕ → List ℕ → List ℕ → Type 0 where
  behind_blanks : {word rest : List ℕ} (blanks text : List ℕ) → AreBlanks blanks → BeginsWithWord text word rest → BeginsCommand (blanks ++ text) word rest

-- a line spells a command
pub data Spells : List ℕ → Spelled → Type 0 where
  -- vat NAME (EARLIER..) N: the first closing bracket ends the names, which stand against both brackets
  spells_birth : {line x more behind count : List ℕ} {earlier : List (List ℕ)} {n : ℕ} (inside : List ℕ) (b : ℕ)
      → BeginsCommand line (codes "vat") more → BeginsWithWord more x (40 ∷ inside ++ 41 ∷ b ∷ behind) → is_vat_name x ≡ true
      → All (λ c. c ≢ 41) inside → is_bare inside ≡ true → ends_blank inside ≡ false → HasWords inside earlier → are_vats earlier ≡ true
      → is_blank b ≡ true → HasWords behind (count ∷ []) → number_of count ≡ Some n → n ≤ MOST_LINES → Spells line (birth x earlier n)
  -- ask NAME TEXT: the text is all that stands behind the blanks after the name
  spells_ask : {line x more text : List ℕ} → BeginsCommand line (codes "ask") more → BeginsWithWord more x text → is_vat_name x ≡ true → Spells line (ask x text)
  -- arrive M, forward M, turn M
  spells_arrive : {line w : List ℕ} {m : MsgId} → HasWords line (codes "arrive" ∷ w ∷ []) → message_named w ≡ Some m → Spells line (arrive m)
  spells_forward : {line w : List ℕ} {m : MsgId} → HasWords line (codes "forward" ∷ w ∷ []) → message_named w ≡ Some m → Spells line (forward m)
  spells_turn : {line w : List ℕ} {m : MsgId} → HasWords line (codes "turn" ∷ w ∷ []) → message_named w ≡ Some m → Spells line (turn m)
  -- learn NAME P
  spells_learn : {line x w : List ℕ} {p : PromiseName}
      → HasWords line (codes "learn" ∷ x ∷ w ∷ []) → is_vat_name x ≡ true → promise_named w ≡ Some p → Spells line (learn x p)
  -- log NAME
  spells_log : {line x : List ℕ} → HasWords line (codes "log" ∷ x ∷ []) → is_vat_name x ≡ true → Spells line (log x)
  -- run N
  spells_run : {line w : List ℕ} {n : ℕ} → HasWords line (codes "run" ∷ w ∷ []) → number_of w ≡ Some n → n ≤ MOST_STEPS → Spells line (run n)
  -- work K N
  spells_work : {line u v : List ℕ} {k n : ℕ} → HasWords line (codes "work" ∷ u ∷ v ∷ []) → number_of u ≡ Some k → 1 ≤ k → k ≤ MOST_WORKERS
      → number_of v ≡ Some n → n ≤ MOST_TURNS → Spells line (work k n)
  -- those that stand alone
  spells_step : {line : List ℕ} → HasWords line (codes "step" ∷ []) → Spells line step
  spells_enabled : {line : List ℕ} → HasWords line (codes "enabled" ∷ []) → Spells line enabled
  spells_show : {line : List ℕ} → HasWords line (codes "show" ∷ []) → Spells line show
  spells_journal : {line : List ℕ} → HasWords line (codes "journal" ∷ []) → Spells line journal
  -- cone E, undo-cone E
  spells_cone : {line w : List ℕ} {e : EventName} → HasWords line (codes "cone" ∷ w ∷ []) → event_named w ≡ Some e → Spells line (cone e)
  spells_undo_cone : {line w : List ℕ} {e : EventName} → HasWords line (codes "undo-cone" ∷ w ∷ []) → event_named w ≡ Some e → Spells line (undo_cone e)
  -- undo E.., redo E..: one event at least
  spells_undo : {line w : List ℕ} {ws : List (List ℕ)} {events : List EventName}
      → HasWords line (codes "undo" ∷ w ∷ ws) → events_named (w ∷ ws) ≡ Some events → Spells line (undo events)
  spells_redo : {line w : List ℕ} {ws : List (List ℕ)} {events : List EventName}
      → HasWords line (codes "redo" ∷ w ∷ ws) → events_named (w ∷ ws) ≡ Some events → Spells line (redo events)
  -- exchange P, settle P
  spells_exchange : {line w : List ℕ} {n : ℕ} → HasWords line (codes "exchange" ∷ w ∷ []) → number_of w ≡ Some n → Spells line (exchange n)
  spells_settle : {line w : List ℕ} {n : ℕ} → HasWords line (codes "settle" ∷ w ∷ []) → number_of w ≡ Some n → Spells line (settle n)
  -- why E F
  spells_why : {line u v : List ℕ} {e f : EventName}
      → HasWords line (codes "why" ∷ u ∷ v ∷ []) → event_named u ≡ Some e → event_named v ≡ Some f → Spells line (why e f)
  -- event E, message M, object O
  spells_event : {line w : List ℕ} {e : EventName} → HasWords line (codes "event" ∷ w ∷ []) → event_named w ≡ Some e → Spells line (event e)
  spells_message : {line w : List ℕ} {m : MsgId} → HasWords line (codes "message" ∷ w ∷ []) → message_named w ≡ Some m → Spells line (message m)
  spells_object : {line w : List ℕ} {o : ObjectName} → HasWords line (codes "object" ∷ w ∷ []) → object_named w ≡ Some o → Spells line (object o)

-- a line is read as the command that it spells, and as no other
abbrev pub LinesSpellCommands : Type 0
LinesSpellCommands = (line : List ℕ) (command : Spelled) → Spells line command ↔ (spelled_by line ≡ Ok (Some command))

-- a line has no command: there are blanks alone, or a comment behind them
pub data HasNoCommand : List ℕ → Type 0 where
  blank_line : {line : List ℕ} → AreBlanks line → HasNoCommand line
  comment_line : (blanks rest : List ℕ) → AreBlanks blanks → HasNoCommand (blanks ++ 35 ∷ rest)

-- such a line, and no other, is skipped
abbrev pub LinesAreSkipped : Type 0
LinesAreSkipped = (line : List ℕ) → HasNoCommand line ↔ (spelled_by line ≡ Ok None)

-- the words that begin commands
abbrev pub command_words : List (List ℕ)
command_words =
    codes "vat" ∷ codes "ask" ∷ codes "arrive" ∷ codes "forward" ∷ codes "learn" ∷ codes "turn" ∷ codes "step" ∷ codes "run" ∷ codes "work"
    ∷ codes "enabled" ∷ codes "show" ∷ codes "journal" ∷ codes "log" ∷ codes "cone" ∷ codes "undo" ∷ codes "undo-cone" ∷ codes "redo" ∷ codes "exchange" ∷ codes "settle"
    ∷ codes "why" ∷ codes "event" ∷ codes "message" ∷ codes "object" ∷ []

abbrev pub is_command_word : List ℕ → Bool
is_command_word word = list_any (λ v. bytes_eq word v) command_words

-- why a line is refused: its first word begins no command and no comment; or it begins a command, and the line spells none
pub data IsRefused (line : List ℕ) : LineFault → Type 0 where
  unknown_word : {word rest : List ℕ} → BeginsCommand line word rest → is_skipped word ≡ false → is_command_word word ≡ false → IsRefused line UnknownCommand
  bad_words : {word rest : List ℕ} → BeginsCommand line word rest → is_command_word word ≡ true → ((command : Spelled) → ¬ Spells line command) → IsRefused line BadWord

-- a line is refused for this, and for nothing else
abbrev pub LinesAreRefused : Type 0
LinesAreRefused = (line : List ℕ) (fault : LineFault) → IsRefused line fault ↔ (spelled_by line ≡ Err fault)
