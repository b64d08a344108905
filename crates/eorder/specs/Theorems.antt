-- What fences keep.
use Rattle.std.specs.Prelude.{◌≡◌, ℕ, Bool, true, List, ◌∷◌, ◌++◌}
use Rattle.history.specs.Subject.{Subject, World}
use Rattle.history.specs.Records.{Row, State}
use Rattle.history.specs.Stands.{Stands}
use Rattle.eorder.specs.Places.{Place}
use Rattle.eorder.specs.Acts.{sent, Entry, did, Start, put, add, fences, Behind, Covered}
use Rattle.eorder.specs.Assigned.{fences_assigned, Unfilled, Once}
use Rattle.eorder.specs.Order.{Done, Allowed, Settled, Before, Precedes}
use Rattle.eorder.specs.Deeds.{Deed, history_of, HadTurn, TurnBefore}
use Rattle.eorder.specs.Worlds.{Worlds, seen, Ran, deeds_of, history}
use Rattle.eorder.specs.Journals.{Doing, worlds_of, LiveRun}
use Rattle.ids.specs.declared.names.VatNo.{VatNo}
use Rattle.ids.specs.declared.names.MsgId.{MsgId}
use Rattle.ids.specs.declared.reference.Reference.{Reference}

-- what is behind a place is in its fence, or it was behind the reference on which one of its fence was sent
abbrev pub FencesCover : Type 0
FencesCover = (s : Start) (es : List Entry) (k : Place) (m : MsgId) → Behind s es k m → Covered s es (fences s es k) m

-- a fence has only what is behind the place
abbrev pub FencesHaveNoMore : Type 0
FencesHaveNoMore = (s : Start) (es : List Entry) (k : Place) (m : MsgId) → fences s es k m ≡ true → Behind s es k m

-- where nothing was put into a place, to assign to it is to add to it
abbrev pub AssignedIsAdded : Type 0
AssignedIsAdded = (s : Start) (es : List Entry) (k : Place) (f : MsgId → Bool) → Unfilled s k es → put k f (fences s es) ≡ add k f (fences s es)

-- where each message is sent once, and each reference leaves in a carrier once, the rules word for word leave the same fences
abbrev pub RulesMayAssign : Type 0
RulesMayAssign = (s : Start) (es : List Entry) → Once s es → fences_assigned s es ≡ fences s es

-- what comes before a message that had its turn was done before that turn
abbrev pub EntriesKeepOrder : Type 0
EntriesKeepOrder = (s : Start) (es : List Entry) (a b : MsgId) → Settled s → Allowed s es → Before s es a b → Done s es b → Precedes s es a b

abbrev pub DeedsKeepOrder : Type 0
DeedsKeepOrder = (s : Start) (ds : List Deed) (a b : MsgId) → Settled s → Allowed s (history_of ds) → Before s (history_of ds) a b → HadTurn s ds b → TurnBefore s ds a b

-- zs, then a on t at the vat v, then ys, then b on t at v, then xs
abbrev pub in_a_row : List Entry → List Entry → List Entry → VatNo → Reference → MsgId → MsgId → List Entry
in_a_row xs ys zs v t a b = xs ++ did v (sent b t) ∷ (ys ++ did v (sent a t) ∷ zs)

-- of two messages that a vat sends on one reference, the first has its turn first
abbrev pub RowsKeepOrder : Type 0
RowsKeepOrder = (s : Start) (xs ys zs : List Entry) (v : VatNo) (t : Reference) (a b : MsgId) → Settled s → Allowed s (in_a_row xs ys zs v t a b) →
    Done s (in_a_row xs ys zs v t a b) b → Precedes s (in_a_row xs ys zs v t a b) a b

-- what is behind a place is in its cell, or it was behind the reference on which one of the cell was sent
abbrev pub CellsCover : Worlds → Type 0
CellsCover t = (w : t.World) (ps : List (t.Event × Deed)) (u : t.World) → Ran t w ps u →
    (k : Place) (m : MsgId) → Behind (seen t w) (history t ps) k m → Covered (seen t w) (history t ps) (t.read u k) m

abbrev pub EventsKeepOrder : Worlds → Type 0
EventsKeepOrder t = (w : t.World) (ps : List (t.Event × Deed)) (u : t.World) (a b : MsgId) → Settled (seen t w) → Ran t w ps u →
    Before (seen t w) (history t ps) a b → HadTurn (seen t w) (deeds_of t ps) b → TurnBefore (seen t w) (deeds_of t ps) a b

-- the world to which events ran is a start as good as the first
abbrev pub RunsStaySettled : Worlds → Type 0
RunsStaySettled t = (w : t.World) (ps : List (t.Event × Deed)) (u : t.World) → Settled (seen t w) → Ran t w ps u → Settled (seen t u)

-- where a journal stands, its live entries ran, each by a deed
abbrev pub LiveEntriesRan : (s : Subject) → Doing s → Type 0
LiveEntriesRan s d = (start : World s) (next : ℕ) (rows : List (Row s)) (state : State s) → Stands s start next rows state →
    (ps : List (s.Event × Deed)) × LiveRun s d start rows state ps

-- and those that had their turns had them in order
abbrev pub LiveEntriesKeepOrder : (s : Subject) → Doing s → Type 0
LiveEntriesKeepOrder s d = (start : World s) (rows : List (Row s)) (state : State s) (ps : List (s.Event × Deed)) (a b : MsgId) →
    Settled (seen (worlds_of s d) start) → LiveRun s d start rows state ps →
    Before (seen (worlds_of s d) start) (history (worlds_of s d) ps) a b →
    HadTurn (seen (worlds_of s d) start) (deeds_of (worlds_of s d) ps) b → TurnBefore (seen (worlds_of s d) start) (deeds_of (worlds_of s d) ps) a b
