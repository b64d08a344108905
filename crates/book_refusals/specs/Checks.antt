-- When a journal refuses an undo, a redo, a cone, an exchange or a settling.
use Rattle.std.specs.Prelude.{◌≡◌, ℕ, zero, suc, ◌||◌, ◌+◌, not, List, [], ◌∷◌, take, Option, Some, None, nat_le, slice_get}
use Rattle.std.specs.Option.{option_map}
use Rattle.history.specs.Subject.{meets}
use Rattle.ids.specs.declared.names.EventName.{EventName}
use Rattle.journal.specs.Lines.{plain, Line}
use Rattle.journal.specs.declared.entry.Mark.TheVariants as mark
use Rattle.causality.specs.declared.selection.Gap.{Gap}
use Rattle.causality.specs.Selections.{name_of, is_live, first_name, first_settled, least_missing, first_marked, first_gap, first_missing_cause, first_crossing}
use Rattle.book_refusals.specs.Refusals.{Refusal, no_event, no_position, is_settled, not_live, still_live, not_closed, crossed, cause_missing, dependent, first, refuse_where}

-- an event that the journal does not have
abbrev pub missing_refusal : List EventName → List Line → Option Refusal
missing_refusal names lines = option_map no_event (least_missing names lines)

-- an event that is undone
abbrev pub undone_refusal : List EventName → List Line → Option Refusal
undone_refusal names lines = option_map not_live (first_marked mark.Undone names lines)

-- an event that is live
abbrev pub live_refusal : List EventName → List Line → Option Refusal
live_refusal names lines = option_map still_live (first_marked mark.Live names lines)

abbrev pub gap_refusal : (EventName → EventName → Refusal) → Gap → Refusal
gap_refusal why g = why g.event g.other

-- an event that is settled, where so many lines are
abbrev pub settled_refusal : List EventName → ℕ → List Line → Option Refusal
settled_refusal names n lines = option_map is_settled (first_settled names n lines)

-- events that are not in the journal, or settled
abbrev pub closed_refusal : List EventName → ℕ → List Line → Option Refusal
closed_refusal names n lines = first (missing_refusal names lines) (settled_refusal names n lines)

-- an undo: the events are in the journal, not settled, live, and have all their live consequences among them
abbrev pub undo_refusal : ℕ → List Line → List EventName → Option Refusal
undo_refusal n lines names = first (closed_refusal names n lines) (first (undone_refusal names lines) (option_map (gap_refusal not_closed) (first_gap names lines)))

-- a redo: the events are in the journal, not settled, undone, and sound together with what is live
abbrev pub redo_refusal : ℕ → List Line → List EventName → Option Refusal
redo_refusal n lines names =
    first (closed_refusal names n lines) (first (live_refusal names lines)
    (first (option_map (gap_refusal cause_missing) (first_missing_cause names lines)) (option_map (gap_refusal crossed) (first_crossing names lines))))

-- a cone: the event is in the journal, not settled, and live
abbrev pub cone_refusal : ℕ → List Line → EventName → Option Refusal
cone_refusal n lines e = first (closed_refusal (e ∷ []) n lines) (undone_refusal (e ∷ []) lines)

-- a test of a line that stands at a position, counted from 1, and of the one behind it
abbrev pub neighbours_by : (Line → Line → Option Refusal) → ℕ → Option Line → Option Line → Option Refusal
neighbours_by test position None b = Some (no_position position)
neighbours_by test position (Some a) None = Some (no_position (position + 1))
neighbours_by test position (Some a) (Some b) = test a b

abbrev pub neighbours_refusal : (Line → Line → Option Refusal) → List Line → ℕ → Option Refusal
neighbours_refusal test lines zero = Some (no_position 0)
neighbours_refusal test lines (suc n) = neighbours_by test (suc n) (slice_get lines n) (slice_get lines (suc n))

-- the events of the entry at a position, counted from 1, and of the one behind it
abbrev pub StoodAt : ℕ → List Line → EventName → EventName → Type 0
StoodAt position lines e f = (n : ℕ) → position ≡ n + 1 → (option_map name_of (slice_get lines n) ≡ Some e) × (option_map name_of (slice_get lines (n + 1)) ≡ Some f)

abbrev pub undone_neighbour : Line → Line → Option Refusal
undone_neighbour a b = first (refuse_where (not (is_live a)) (not_live (name_of a))) (refuse_where (not (is_live b)) (not_live (name_of b)))

-- the position, which has this line, is that of a settled entry, where so many are
abbrev pub settled_at : ℕ → ℕ → Line → Option Refusal
settled_at n position l = refuse_where (nat_le position n) (is_settled (name_of l))

-- there are entries at the position and behind it, which are not settled, and both are live
abbrev pub placed_refusal : ℕ → List Line → ℕ → Option Refusal
placed_refusal n lines position = neighbours_refusal (λ a b. first (settled_at n position a) (undone_neighbour a b)) lines position

abbrev pub dependent_neighbour : Line → Line → Option Refusal
dependent_neighbour a b = refuse_where (meets plain a.entry.foot b.entry.foot || meets plain b.entry.foot a.entry.foot) (dependent (name_of a) (name_of b))

-- an exchange: there are entries at the position and behind it, which are not settled, both are live, and neither wrote a cell that the
-- other touched
abbrev pub exchange_refusal : ℕ → List Line → ℕ → Option Refusal
exchange_refusal n lines position =
    neighbours_refusal (λ a b. first (first (settled_at n position a) (undone_neighbour a b)) (dependent_neighbour a b)) lines position

-- the first line that is undone
abbrev pub first_undone : List Line → Option EventName
first_undone lines = first_name (λ l. not (is_live l)) lines

abbrev pub settle_refusal_by : ℕ → List Line → ℕ → Option Line → Option Refusal
settle_refusal_by n lines position None = Some (no_position position)
settle_refusal_by n lines position (Some l) = first (settled_at n position l) (option_map not_live (first_undone (take position lines)))

-- a settling: there is an entry at the position, counted from 1, which is not settled, where so many are, and all up to it are live
abbrev pub settle_refusal : ℕ → List Line → ℕ → Option Refusal
settle_refusal n lines zero = Some (no_position 0)
settle_refusal n lines (suc p) = settle_refusal_by n lines (suc p) (slice_get lines p)
