-- Nothing in the world is named by an event that no entry of the journal is of.
use Rattle.std.proofs.Common.{◌≡◌, ℕ, ◌+◌, Bool, true, false, cond, List, [], ◌∷◌, map, filter, Option, Some, None, refl, sym, ap, ◌∙◌}
use Rattle.std.proofs.Math.Logic.{∥∥₁_elim}
use Rattle.std.proofs.Props.{props}
use Rattle.std.specs.List.{AllByRecursion, Contains}
use Rattle.history.specs.Subject.{Run, run_none, run_more, empty, written}
use Rattle.history.specs.Journal.{Entry, Free, live_set}
use Rattle.history.specs.Records.{contents, entries_of}
use Rattle.history.proofs.Lists.{all_map, all_mapped, all_append}
use Rattle.ids.specs.CellKeys.{same_key}
use Rattle.ids.proofs.CellKeys.{same_exact}
use Rattle.ids.specs.declared.names.EventName.{EventName}
use Rattle.ids.specs.declared.names.VatNo.{VatNo}
use Rattle.ids.specs.declared.names.MsgId.{MsgId}
use Rattle.ids.specs.declared.names.PromId.{PromId}
use Rattle.ids.specs.declared.cells.CellKey.{CellKey}
use Rattle.ids.specs.declared.cells.CellKey.TheVariants as key
use Rattle.heap.specs.State as heap
use Rattle.heap.specs.State.{Cell, top, slot_cell, object_cell, view_cell, fence_cell}
use Rattle.post.specs.Messages.{Message, Published}
use Rattle.world_cells.specs.Events.{Event, event_in}
use Rattle.world_cells.specs.Theory.{cells}
use Rattle.world_cells.specs.World.{World, Content, message_in, message_of, cell_key}
use Rattle.event.specs.Events.{Foot, Does, births, asks, arrives, forwards, learns, turns, events, noted_events, letters_from, on_the_board, counted, in_world, made_by, AreNew}
use Rattle.event.proofs.Noted.{live_run}
use Rattle.undo.specs.CoreView.{state_of}
use Rattle.undo.specs.declared.undoing.Core.{Core}
use Rattle.desk.specs.Desks.{Lent}
use Rattle.book.specs.Standing.{Stands}
use Rattle.book.proofs.Sets as sets
use Rattle.book.proofs.TicketsOut.{all_out, all_filter}

-- writes of other cells leave a cell as it was
pub unwritten : (ps : List (CellKey × Content)) (w : World) (k : CellKey) → AllByRecursion (λ p. same_key p.0 k ≡ false) ps → written events ps w k ≡ w k
unwritten [] w k h = refl
unwritten (p ∷ ps) w k (ne, h) = ap (λ (b : Bool). cond b (Some p.1) (written events ps w k)) ne ∙ unwritten ps w k h

-- other keys are told apart
pub apart : (k d : CellKey) → (k ≡ d → ⊥) → same_key k d ≡ false
apart k d ne = one (same_key k d) refl
  where
    one : (b : Bool) → same_key k d ≡ b → b ≡ false
    one true e = absurd (ne (same_exact k d e))
    one false e = refl

some_none : {A : Type 0} {a : A} → Some a ≡ None → ⊥
some_none e = cc

-- what holds nothing is no message
not_there : (w : World) (m : MsgId) {g : Message} → w (key.Msg m) ≡ None → message_of w m ≡ Some g → ⊥
not_there w m none is = some_none (sym is ∙ ap message_in none)

-- the name of the event that a message is named by
abbrev name_in : CellKey → ℕ
name_in (key.Msg m) = m.event.0
name_in _ = 0

-- a cell of a vat is no message
in_a_vat : (v : VatNo) (c : Cell) (m : MsgId) → same_key (cell_key v c) (key.Msg m) ≡ false
in_a_vat v (top x) m = refl
in_a_vat v (slot_cell s) m = refl
in_a_vat v (object_cell i) m = refl
in_a_vat v (view_cell p) m = refl
in_a_vat v (fence_cell r) m = refl

left_in_a_vat : (v : VatNo) (left : List (Cell × heap.Content)) (m : MsgId) → AllByRecursion (λ p. same_key p.0 (key.Msg m) ≡ false) (in_world v left)
left_in_a_vat v [] m = tt
left_in_a_vat v (p ∷ left) m = (in_a_vat v p.0 m, left_in_a_vat v left m)

on_board : (bs : List (PromId × Published)) (m : MsgId) → AllByRecursion (λ p. same_key p.0 (key.Msg m) ≡ false) (on_the_board bs)
on_board [] m = tt
on_board (b ∷ bs) m = (refl, on_board bs m)

-- a message that is named by one event is none of another
module _ (m : MsgId) where
  named_apart : (e : EventName) (i : ℕ) → (e.0 ≡ m.event.0 → ⊥) → same_key (key.Msg (record { event = e; index = i })) (key.Msg m) ≡ false
  named_apart e i ne = apart (key.Msg (record { event = e; index = i })) (key.Msg m) (λ same. ne (ap name_in same))

  sent_apart : (e : EventName) (i : ℕ) (letters : List (MsgId × Message)) → (e.0 ≡ m.event.0 → ⊥) → AllByRecursion (λ p. same_key p.0 (key.Msg m) ≡ false) (letters_from e i letters)
  sent_apart e i [] ne = tt
  sent_apart e i (l ∷ letters) ne = (named_apart e i ne, sent_apart e (i + 1) letters ne)

  -- a message that is there is not one that is not
  there_apart : (w : World) (n : MsgId) {g : Message} → w (key.Msg m) ≡ None → message_of w n ≡ Some g → same_key (key.Msg n) (key.Msg m) ≡ false
  there_apart w n none is = apart (key.Msg n) (key.Msg m) (λ same. some_none (sym is ∙ ap message_in (ap w same ∙ none)))

  -- an event of another name makes no message of the name
  module _ (w : World) (none : w (key.Msg m) ≡ None) where
    not_made : (e : Event) (f : Foot) → Does e w f → (e.name.0 ≡ m.event.0 → ⊥) → AllByRecursion (λ p. same_key p.0 (key.Msg m) ≡ false) f.writes
    not_made e f (births {e = n} vats free named) ne = (refl, (named_apart n 0 ne, tt))
    not_made e f (asks {e = n} there) ne = (named_apart n 0 ne, tt)
    not_made e f (arrives {m = n} there moves) ne = (there_apart w n none there, tt)
    not_made e f (forwards {m = n} there here call leads) ne = (there_apart w n none there, tt)
    not_made e f (learns {v = v} {left = left} unresolved resolved leaves) ne = left_in_a_vat v left m
    not_made e f (turns {e = n} {m = k} {t = t} {left = left} h leaves) ne =
        all_append _ (in_world t.vat left) (made_by n w k t.message t.outcome) (left_in_a_vat t.vat left m)
        (all_append _ (letters_from n 0 t.outcome.out.letters) _ (sent_apart n 0 t.outcome.out.letters ne)
        (all_append _ (on_the_board (counted w t.outcome.out.publications)) _ (on_board (counted w t.outcome.out.publications) m)
        (there_apart w k none (ap message_in h.waiting), tt)))

  -- THE LEMMA: no message is named by an event that is not among those that ran
  pub not_named : (es : List Event) (w : World) → Run events (empty events) es w → AllByRecursion (λ e. e.name.0 ≡ m.event.0 → ⊥) es → w (key.Msg m) ≡ None
  not_named es w run_none h = refl
  not_named es w (run_more {e = e} {es = ds} {w = v} {f = f} r d) (ne, h) =
      let none = not_named ds v r h in
      unwritten f.writes v (key.Msg m) (not_made v none e f d ne) ∙ none

-- a name that is free is that of no live event
free_of_live : (n : ℕ) (es : List (Entry noted_events)) → Free noted_events n es → AllByRecursion (λ (e : Event). e.name.0 ≡ n → ⊥) (map (λ (e : Entry noted_events). event_in e.event) (filter (live_set noted_events) es))
free_of_live n es h = all_mapped (λ (e : Entry noted_events). event_in e.event) (λ (e : Event). e.name.0 ≡ n → ⊥) (filter (live_set noted_events) es) (all_filter (λ (e : Entry noted_events). e.event.name.0 ≡ n → ⊥) (live_set noted_events) es (all_map _ _ es (λ e q. q.0) h))

Contents-set : IsSet (Option Content)
Contents-set = hlevel (props, sets.contents)

module _ (core : Core) (next : ℕ) (out : List Lent) (h : Stands core next out) (t : Lent) (is : Contains out t) where
  -- nothing is named by a ticket that is out
  pub no_message : (i : ℕ) → contents cells (state_of core) (key.Msg (record { event = t.number; index = i })) ≡ None
  no_message i = ∥∥₁_elim h (Contents-set _ _) (λ k.
      not_named (record { event = t.number; index = i }) _ _ (live_run k.stands.stands)
      (free_of_live t.number.0 (entries_of k.rows) (all_out (λ u. Free noted_events u.number.0 (entries_of k.rows)) out t k.free is)))

  -- so what its turn sends is new
  pub letters_new : (i : ℕ) (letters : List (MsgId × Message)) → AreNew (contents cells (state_of core)) (letters_from t.number i letters)
  letters_new i [] = tt
  letters_new i (l ∷ letters) = (no_message i, letters_new (i + 1) letters)
