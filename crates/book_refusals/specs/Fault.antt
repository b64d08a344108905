-- The faults of the book: the refusals that they tell, and both in words.
use Rattle.std.specs.Prelude.{◌≡◌, ℕ, List, ◌++◌, codes, Option, Some, None}
use Rattle.std.specs.Fmt.{decimal}
use Rattle.ids.specs.Names.{event_text, message_text}
use Rattle.ids.specs.declared.names.EventName.{EventName}
use Rattle.ids.specs.declared.names.MsgId.{MsgId}
use Rattle.event.specs.declared.ready.Delay.{Delay}
use Rattle.event.specs.declared.ready.Delay.TheVariants as delay
use Rattle.kernele_scopes.specs.Scope as scope
use Rattle.kernele_scopes.specs.Words as words
use Rattle.kernele_scopes.specs.Words.{no_memory}
use Rattle.kernele_scopes.specs.declared.checking.CheckFault.{CheckFault}
use Rattle.kernele_scopes.specs.declared.checking.CheckFault.TheVariants as check-fault
use Rattle.book_refusals.specs.Refusals.{Refusal, no_vat, name_taken, no_message, not_there, not_ready, before, nothing_to_learn, full, stale, vat_out, no_ticket, no_event, no_position, is_settled, not_live, still_live, not_closed, crossed, cause_missing, dependent, bad_budget, unchecked, refusal_of}
use Rattle.book_refusals.specs.declared.fault.BookFault.{BookFault}
use Rattle.book_refusals.specs.declared.fault.BookFault.TheVariants as fault
use Rattle.book_refusals.specs.declared.fault.WorkFault.{WorkFault}
use Rattle.book_refusals.specs.declared.fault.WorkFault.TheVariants as work

-- ---- refusals in words

-- two events behind a word
abbrev pub pair_text : List ℕ → EventName → EventName → List ℕ
pair_text words e f = words ++ (event_text e ++ (codes " " ++ event_text f))

abbrev pub refusal_text : Refusal → List ℕ
refusal_text (no_vat x) = codes "B1 NoVat " ++ x
refusal_text (name_taken x) = codes "B2 NameTaken " ++ x
refusal_text (no_message m) = codes "B3 NoMessage " ++ message_text m
refusal_text not_there = codes "B4 NotThere"
refusal_text not_ready = codes "B5 NotReady"
refusal_text (before m) = codes "B6 Before " ++ message_text m
refusal_text nothing_to_learn = codes "B7 NothingToLearn"
refusal_text full = codes "B8 Full"
refusal_text stale = codes "B9 Stale"
refusal_text vat_out = codes "B10 VatOut"
refusal_text no_ticket = codes "B11 NoTicket"
refusal_text (no_event e) = codes "B12 NoEvent " ++ event_text e
refusal_text (no_position position) = codes "B12 NoEvent " ++ decimal position
refusal_text (is_settled e) = codes "B22 Settled " ++ event_text e
refusal_text (not_live e) = codes "B13 NotLive " ++ event_text e
refusal_text (still_live e) = codes "B14 IsLive " ++ event_text e
refusal_text (not_closed e f) = pair_text (codes "B15 NotClosed ") e f
refusal_text (crossed e f) = pair_text (codes "B16 Crossed ") e f
refusal_text (cause_missing e f) = pair_text (codes "B17 CauseMissing ") e f
refusal_text (dependent e f) = pair_text (codes "B18 Dependent ") e f
refusal_text bad_budget = codes "B19 BadBudget"
refusal_text (unchecked refusal) = words.refusal_text refusal

-- ---- what a fault tells

-- the refusal that a fault of the check tells; want of memory tells none
abbrev pub told_by_check : CheckFault → Option Refusal
told_by_check (check-fault.Unbound x) = Some (unchecked (scope.unbound x))
told_by_check (check-fault.DuplicateName x) = Some (unchecked (scope.duplicate_name x))
told_by_check (check-fault.AssignToDef x) = Some (unchecked (scope.assign_to_def x))
told_by_check check-fault.TooDeep = Some (unchecked scope.too_deep)
told_by_check check-fault.TooLong = Some (unchecked scope.too_long)
told_by_check check-fault.Memory = None

abbrev pub told_by : BookFault → Option Refusal
told_by (fault.NoVat x) = Some (no_vat x)
told_by (fault.NameTaken x) = Some (name_taken x)
told_by (fault.NoMessage m) = Some (no_message m)
told_by fault.NotThere = Some not_there
told_by fault.NotReady = Some not_ready
told_by (fault.Before m) = Some (before m)
told_by fault.NothingToLearn = Some nothing_to_learn
told_by fault.Full = Some full
told_by fault.Stale = Some stale
told_by fault.VatOut = Some vat_out
told_by fault.NoTicket = Some no_ticket
told_by (fault.NoEvent e) = Some (no_event e)
told_by (fault.NoPosition position) = Some (no_position position)
told_by (fault.Settled e) = Some (is_settled e)
told_by (fault.NotLive e) = Some (not_live e)
told_by (fault.IsLive e) = Some (still_live e)
told_by (fault.NotClosed e f) = Some (not_closed e f)
told_by (fault.Crossed e f) = Some (crossed e f)
told_by (fault.CauseMissing e f) = Some (cause_missing e f)
told_by (fault.Dependent e f) = Some (dependent e f)
told_by fault.BadBudget = Some bad_budget
told_by (fault.Check f) = told_by_check f
told_by fault.Memory = None

-- a fault in words: the refusal that it tells, or want of memory
abbrev pub words_of : Option Refusal → List ℕ
words_of (Some refusal) = refusal_text refusal
words_of None = no_memory

abbrev pub fault_text : BookFault → List ℕ
fault_text f = words_of (told_by f)

-- a fault is the first refusal that holds, unless it is want of memory
abbrev pub TellsThat : Option Refusal → Option Refusal → Type 0
TellsThat (Some told) refusal = refusal ≡ Some told
TellsThat None refusal = Unit {0}

abbrev pub Tells : BookFault → Option Refusal → Type 0
Tells f refusal = TellsThat (told_by f) refusal

-- what is not known of a message tells this refusal; want of memory tells none
abbrev pub delay_tells : MsgId → Delay → Option Refusal → Type 0
delay_tells m delay.Memory refusal = Unit {0}
delay_tells m (delay.Unready reason) refusal = refusal ≡ Some (refusal_of m reason)

-- why workers did nothing, in words: none could be started, or as a call of the book is refused
abbrev pub work_text : WorkFault → List ℕ
work_text work.NoWorker = codes "S7 NoWorker"
work_text (work.Book f) = fault_text f
