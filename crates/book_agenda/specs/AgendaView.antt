-- What the program's agenda stands for, and what notes in it change.
use Rattle.std.specs.Prelude.{◌≡◌, Bool, false, ◌&&◌, ◌||◌, cond, List, [], Option, Some, None}
use Rattle.std.specs.List.{list_any}
use Rattle.std.specs.Ordering.{is_eq, ordering_then}
use Rattle.std.specs.BTreeMap.{get}
use Rattle.std.specs.BTreeSet.{BTreeSet, contains}
use Rattle.std.specs.declared.cmp.Ordering.{Ordering}
use Rattle.std.specs.declared.alloc.Global.{Global}
use Rattle.std.specs.declared.vec.Vec.{Vec}
use Rattle.ids.specs.Cells.{message_cmp, promise_cmp, vat_cmp}
use Rattle.ids.specs.declared.names.VatNo.{VatNo}
use Rattle.ids.specs.declared.names.MsgId.{MsgId}
use Rattle.ids.specs.declared.names.PromId.{PromId}
use Rattle.ids.specs.declared.cells.CellKey.{CellKey}
use Rattle.ids.specs.declared.cells.CellKey.TheVariants as key
use Rattle.desk.specs.Desks.{has_vat}
use Rattle.desk.specs.DeskView.{out_of}
use Rattle.desk.specs.declared.desk.Desk.{Desk}
use Rattle.world_cells.specs.World.{World}
use Rattle.book_agenda.specs.Agendas.{open_view, can_learn}
use Rattle.book_agenda.specs.Waiting.{how, Indexed}
use Rattle.book_agenda.specs.Ways.{cue_cmp, waits_in, cues_in}
use Rattle.book_agenda.specs.Enabled.{Out}
use Rattle.book_agenda.specs.declared.waiting.Waits.{Waits}
use Rattle.book_agenda.specs.declared.ways.Cue.{Cue}
use Rattle.book_agenda.specs.declared.ways.Cue.TheVariants as cue
use Rattle.book_agenda.specs.declared.agenda.Watcher.{Watcher}
use Rattle.book_agenda.specs.declared.agenda.Open.{Open}
use Rattle.book_agenda.specs.declared.agenda.Known.{Known}
use Rattle.book_agenda.specs.declared.agenda.Agenda.{Agenda}

-- by promise, then by vat
abbrev pub open_cmp : Open → Open → Ordering
open_cmp a b = ordering_then (promise_cmp a.promise b.promise) (vat_cmp a.vat b.vat)

-- by vat, then by promise
abbrev pub known_cmp : Known → Known → Ordering
known_cmp a b = ordering_then (vat_cmp a.vat b.vat) (promise_cmp a.promise b.promise)

-- by cell, then by message
abbrev pub watcher_cmp : Watcher → Watcher → Ordering
watcher_cmp a b = ordering_then (cue_cmp a.cue b.cue) (message_cmp a.message b.message)

-- how a message waits
abbrev pub way : Agenda → MsgId → Option Waits
way a m = how a.waiting m

-- the cells that tell how a message waits
abbrev pub cues_if : Option (Vec Cue Global) → List Cue
cues_if None = []
cues_if (Some cues) = cues.items

abbrev pub cues : Agenda → MsgId → List Cue
cues a m = cues_if (get message_cmp a.cues m)

-- a message is among those of which a cell tells how they wait
abbrev pub is_watcher : BTreeSet Watcher → Cue → MsgId → Bool
is_watcher s c m = contains watcher_cmp s (record { cue = c; message = m })

abbrev pub watches : Agenda → Cue → MsgId → Bool
watches a c m = is_watcher a.watchers c m

-- a promise is among those that are open in a vat's view
abbrev pub has_open : Agenda → PromId → VatNo → Bool
has_open a p v = contains open_cmp a.open (record { promise = p; vat = v })

-- a promise is among those of which a vat can learn
abbrev pub has_known : Agenda → VatNo → PromId → Bool
has_known a v p = contains known_cmp a.known (record { vat = v; promise = p })

-- a message is among these
abbrev pub is_in : List MsgId → MsgId → Bool
is_in names m = list_any (λ n. is_eq (message_cmp n m)) names

-- a cell is among these
abbrev pub is_cue : List Cue → Cue → Bool
is_cue cs c = list_any (λ d. is_eq (cue_cmp d c)) cs

-- each message is listed at just the cells that tell how it waits
abbrev pub Watched : Agenda → Type 0
Watched a = (c : Cue) (m : MsgId) → watches a c m ≡ is_cue (cues a m) c

-- the agenda is that of a world: it has how each message waits there, listed at the cells that tell it, and it has just the promises that are open
-- in views, and those of them that were published
pub record NotedIn (w : World) (a : Agenda) : Type 0 where
  pub messages : (m : MsgId) → way a m ≡ waits_in w m
  pub told : (m : MsgId) → cues a m ≡ cues_in w m
  pub watched : Watched a
  pub indexed : Indexed a.waiting
  pub views : (p : PromId) (v : VatNo) → has_open a p v ≡ open_view w p v
  pub learns : (v : VatNo) (p : PromId) → has_known a v p ≡ can_learn w v p

-- the vats of which a ticket is out
abbrev pub out_at : Desk → Out
out_at d = λ v. has_vat v (out_of d)

-- ---- notes that were made anew

-- the view of a promise in a vat
abbrev pub same_view : PromId → VatNo → PromId → VatNo → Bool
same_view p v q u = is_eq (promise_cmp p q) && is_eq (vat_cmp v u)

-- a vat is among these
abbrev pub is_among : List VatNo → VatNo → Bool
is_among vats v = list_any (λ u. is_eq (vat_cmp u v)) vats

-- of a message it was noted whether each of these cells tells how it waits
abbrev pub KeepsEach : MsgId → List Cue → Bool → BTreeSet Watcher → BTreeSet Watcher → Type 0
KeepsEach m cs stays a b = (c : Cue) (n : MsgId) → is_watcher b c n ≡ cond (is_cue cs c && is_eq (message_cmp m n)) stays (is_watcher a c n)

-- of a message it was noted that these cells tell how it waits
pub record Watches (m : MsgId) (cs : List Cue) (a b : Agenda) : Type 0 where
  pub told : (n : MsgId) → cues b n ≡ cond (is_eq (message_cmp m n)) cs (cues a n)
  pub watched : Watched a → Watched b
  pub waits : b.waiting ≡ a.waiting
  pub opens : b.open ≡ a.open
  pub knows : b.known ≡ a.known

-- of the messages of a set it was noted how they wait, and which cells tell it
pub record Places (w : World) (q : MsgId → Bool) (a b : Agenda) : Type 0 where
  pub ways : (m : MsgId) → way b m ≡ cond (q m) (waits_in w m) (way a m)
  pub told : (m : MsgId) → cues b m ≡ cond (q m) (cues_in w m) (cues a m)
  pub watched : Watched a → Watched b
  pub indexed : Indexed a.waiting → Indexed b.waiting
  pub opens : b.open ≡ a.open
  pub knows : b.known ≡ a.known

-- of the views of a set it was noted whether they are open, and whether their vats can learn of them
pub record NotesViews (w : World) (q : PromId → VatNo → Bool) (a b : Agenda) : Type 0 where
  pub waits : b.waiting ≡ a.waiting
  pub watchers : b.watchers ≡ a.watchers
  pub tells : b.cues ≡ a.cues
  pub views : (p : PromId) (v : VatNo) → has_open b p v ≡ cond (q p v) (open_view w p v) (has_open a p v)
  pub learns : (v : VatNo) (p : PromId) → has_known b v p ≡ cond (q p v) (can_learn w v p) (has_known a v p)

-- ---- what a cell tells of

-- of the message that is in it, and of those that wait as it tells
abbrev pub stirs : Agenda → CellKey → MsgId → Bool
stirs a (key.Msg n) m = is_eq (message_cmp n m) || watches a (cue.Message n) m
stirs a (key.View v p) m = watches a (cue.View v p) m
stirs a (key.Board p) m = watches a (cue.Board p) m
stirs a _ m = false

-- of a view, and of the views in which the promise was open that was published
abbrev pub shows : Agenda → CellKey → PromId → VatNo → Bool
shows a (key.View v p) q u = same_view p v q u
shows a (key.Board p) q u = is_eq (promise_cmp p q) && has_open a q u
shows a _ q u = false

-- of all this it was noted anew
pub record NotesCell (w : World) (k : CellKey) (a b : Agenda) : Type 0 where
  pub ways : (m : MsgId) → way b m ≡ cond (stirs a k m) (waits_in w m) (way a m)
  pub told : (m : MsgId) → cues b m ≡ cond (stirs a k m) (cues_in w m) (cues a m)
  pub watched : Watched a → Watched b
  pub indexed : Indexed a.waiting → Indexed b.waiting
  pub views : (p : PromId) (v : VatNo) → has_open b p v ≡ cond (shows a k p v) (open_view w p v) (has_open a p v)
  pub learns : (v : VatNo) (p : PromId) → has_known b v p ≡ cond (shows a k p v) (can_learn w v p) (has_known a v p)
