-- When a question has no answer, and why, in words.
use Rattle.std.specs.Prelude.{◌≡◌, ℕ, ◌+◌, ◌-◌, ◌==◌, List, [], ◌∷◌, ◌++◌, cond, nat_lt, Option, Some, None, codes}
use Rattle.std.specs.Fmt.{decimal}
use Rattle.std.specs.Option.{option_or}
use Rattle.ids.specs.Names.{event_text, message_text}
use Rattle.ids.specs.declared.names.EventName.{EventName}
use Rattle.kernele_scopes.specs.Words.{no_memory}
use Rattle.journal.specs.Lines.{Line}
use Rattle.causality.specs.Selections.{name_of}
use Rattle.stepper_questions.specs.declared.standing.Standing.{Standing}
use Rattle.stepper_questions.specs.declared.standing.Standing.TheVariants as standing
use Rattle.stepper_questions.specs.declared.unanswered.Unanswered.{Unanswered}
use Rattle.stepper_questions.specs.declared.unanswered.Unanswered.TheVariants as unanswered

-- where the line of an event stands, counted from n
abbrev pub place_from : ℕ → List Line → EventName → Option ℕ
place_from n [] e = None
place_from n (l ∷ lines) e = cond ((name_of l).0 == e.0) (Some n) (place_from (n + 1) lines e)

abbrev pub place_of : List Line → EventName → Option ℕ
place_of lines e = place_from 0 lines e

-- nowhere, among so many settled lines, or at a place behind them
abbrev pub standing_at : ℕ → Option ℕ → Standing
standing_at n None = standing.Absent
standing_at n (Some p) = cond (nat_lt p n) standing.Settled (standing.Open (p - n))

abbrev pub standing_of : ℕ → List Line → EventName → Standing
standing_of n lines e = standing_at n (place_of lines e)

-- the event is in the journal
abbrev pub absent : Standing → EventName → Option Unanswered
absent standing.Absent e = Some (unanswered.NoEvent e)
absent _ e = None

-- and not settled
abbrev pub settled : Standing → EventName → Option Unanswered
settled standing.Settled e = Some (unanswered.Settled e)
settled _ e = None

-- of an event: it is in the journal, and not settled
abbrev pub event_refusal : ℕ → List Line → EventName → Option Unanswered
event_refusal n lines e = option_or (absent (standing_of n lines e) e) (settled (standing_of n lines e) e)

-- of two events: both are in the journal, and neither is settled
abbrev pub pair_refusal : ℕ → List Line → EventName → EventName → Option Unanswered
pair_refusal n lines e f =
    option_or (absent (standing_of n lines e) e) (option_or (absent (standing_of n lines f) f)
    (option_or (settled (standing_of n lines e) e) (settled (standing_of n lines f) f)))

-- a fault tells this refusal; want of memory may come in place of any answer
abbrev pub Refuses : Unanswered → Option Unanswered → Type 0
Refuses unanswered.Memory refusal = Unit {0}
Refuses fault refusal = refusal ≡ Some fault

abbrev pub unanswered_text : Unanswered → List ℕ
unanswered_text (unanswered.NoMessage m) = codes "B3 NoMessage " ++ message_text m
unanswered_text (unanswered.NoEvent e) = codes "B12 NoEvent " ++ event_text e
unanswered_text (unanswered.Settled e) = codes "B22 Settled " ++ event_text e
unanswered_text (unanswered.NoObject e i) = codes "B23 NoObject " ++ (event_text e ++ (codes ".o" ++ decimal i))
unanswered_text unanswered.Memory = no_memory
