-- An agenda keeps its notes where nothing is shown anew, and has those of the next world once an event's cells are noted.
use Rattle.std.proofs.Common.{◌≡◌, ℕ, false, true, List, map, reverse, Option, Some, None, sym, ap, ◌∙◌, subst}
use Rattle.std.specs.Option.{ForSome}
use Rattle.history.specs.Records.{Seen, State, Record, contents}
use Rattle.history.specs.Walks.{walk}
use Rattle.ids.specs.CellKeys.{same_key}
use Rattle.ids.specs.declared.names.EventName.{EventName}
use Rattle.ids.specs.declared.cells.CellKey.{CellKey}
use Rattle.world_cells.specs.Events as world
use Rattle.world_cells.specs.Theory.{cells, state_of_world}
use Rattle.world_cells.specs.View.{world_of}
use Rattle.world_cells.specs.World.{World}
use Rattle.world_cells.specs.declared.world.World as code
use Rattle.std.specs.Prelude.{Result, IfOk}
use Rattle.ids.specs.declared.names.VatNo.{VatNo}
use Rattle.ids.specs.declared.names.PromId.{PromId}
use Rattle.desk.specs.Desks.{Lent, has_vat}
use Rattle.desk.specs.DeskView.{out_of}
use Rattle.desk.specs.declared.desk.Desk.{Desk}
use Rattle.book_agenda.specs.Enabled.{Enabled, First}
use Rattle.book_agenda.specs.declared.agenda.Step.{Step}
use Rattle.book.specs.Books.{Book}
use Rattle.book_agenda.specs.Agendas.{AlikeBut, KnownAs, can_learn}
use Rattle.book_agenda.specs.AgendaView.{NotedIn, has_known, out_at}
use Rattle.book_agenda.specs.declared.agenda.Agenda.{Agenda}
use Rattle.journal.specs.Items.{Item, entered, swap_item}
use Rattle.undo.specs.CoreView.{items_of, state_of, shown}
use Rattle.undo.specs.Written.{written_at}
use Rattle.undo.proofs.Written.{swap_alike, walk_alike, any_back}
use Rattle.undo.specs.declared.undoing.Core.{Core}

-- an agenda, if there is one, has the notes of what is shown
abbrev pub Noted : Option Agenda → State cells → Type 0
Noted agenda s = ForSome agenda (NotedIn (contents cells s))

-- where none is there, none is wrong
pub noted_none : (s : State cells) → Noted None s
noted_none s a e = absurd (none_some a e)
  where
    none_some : (a : Agenda) → None ≡ Some a → ⊥
    none_some a e = cc

-- an agenda that is there
pub there : (P : Agenda → Type 0) (agenda : Agenda) → P agenda → ForSome (Some agenda) P
there P agenda h x e = subst P (one agenda x e) h
  where
    one : (a b : Agenda) → Some a ≡ Some b → a ≡ b
    one a b e = cc

pub noted_some : (agenda : Agenda) (s : State cells) → NotedIn (contents cells s) agenda → Noted (Some agenda) s
noted_some agenda s h x e = subst (NotedIn (contents cells s)) (one agenda x e) h
  where
    one : (a b : Agenda) → Some a ≡ Some b → a ≡ b
    one a b e = cc

-- an event leaves the cells as they were of which it has no records
pub written_alike : (old now : Core) (e : world.Noted) (seat : ℕ) (touched : List CellKey) (kept : Record cells) → shown now ≡ entered e seat touched kept (shown old) → AlikeBut (map (λ r. r.0) kept) (contents cells (state_of old)) (contents cells (state_of now))
written_alike old now e seat touched kept is k h = sym (ap (λ (j : List Item × State cells). (j.1 k).0) is ∙ ap (λ (x : Seen cells). x.0) (swap_alike kept (state_of old) k h))

-- an undo and a redo leave the cells as they were of which the entries at their positions have no records
pub undone_alike : (old now : Core) (ps : List ℕ) → shown now ≡ walk (swap_item false) (reverse ps) (shown old) → AlikeBut (written_at (items_of old) ps) (contents cells (state_of old)) (contents cells (state_of now))
undone_alike old now ps is k h = sym (ap (λ (j : List Item × State cells). (j.1 k).0) is ∙ ap (λ (x : Seen cells). x.0) (walk_alike false (reverse ps) (shown old) k (any_back (same_key k) (items_of old) ps ∙ h)))

pub redone_alike : (old now : Core) (ps : List ℕ) → shown now ≡ walk (swap_item true) ps (shown old) → AlikeBut (written_at (items_of old) ps) (contents cells (state_of old)) (contents cells (state_of now))
redone_alike old now ps is k h = sym (ap (λ (j : List Item × State cells). (j.1 k).0) is ∙ ap (λ (x : Seen cells). x.0) (walk_alike true ps (shown old) k h))

-- THE LEMMAS: what noted cells give, and where the same is shown
pub noted_next : (old now : Core) (agenda later : Option Agenda) (w : code.World) (touched : List CellKey) → state_of_world w ≡ state_of now
    → ((before : World) → ForSome agenda (NotedIn before) → AlikeBut touched before (world_of w) → ForSome later (NotedIn (world_of w)))
    → AlikeBut touched (contents cells (state_of old)) (contents cells (state_of now)) → Noted agenda (state_of old) → Noted later (state_of now)
noted_next old now agenda later w touched is notes alike h =
    let same : world_of w ≡ contents cells (state_of now) = ap (contents cells) is in
    subst (λ (v : World). ForSome later (NotedIn v)) same (notes (contents cells (state_of old)) h (subst (AlikeBut touched (contents cells (state_of old))) (sym same) alike))

pub noted_same : (old new : Core) (agenda : Option Agenda) → shown new ≡ shown old → Noted agenda (state_of old) → Noted agenda (state_of new)
noted_same old new agenda is h = subst (λ (j : List Item × State cells). Noted agenda j.1) (sym is) h

pub noted_kept : (old new : Core) (agenda : Option Agenda) → state_of new ≡ state_of old → Noted agenda (state_of old) → Noted agenda (state_of new)
noted_kept old new agenda is h = subst (Noted agenda) (sym is) h

-- what an agenda with the notes of a book's world tells is told of the book
module _ (b : Book) (w : World) (d : Desk) (agenda : Agenda) (same : w ≡ b.world) (out : out_of d ≡ b.out) (noted : NotedIn b.world agenda) where
  pub first_told : (o : Option Step) → (NotedIn w agenda → First w (out_at d) o) → First b.world (λ v. has_vat v b.out) o
  first_told o tells =
      subst (λ (lent : List Lent). First b.world (λ v. has_vat v lent) o) out
      (subst (λ (u : World). First u (out_at d) o) same (tells (subst (λ (u : World). NotedIn u agenda) (sym same) noted)))

  pub all_told : {V E : Type 0} (items : V → List Step) (r : Result V E) → (NotedIn w agenda → IfOk r (λ x. Enabled w (out_at d) (items x))) → IfOk r (λ x. Enabled b.world (λ v. has_vat v b.out) (items x))
  all_told items r tells =
      subst (λ (lent : List Lent). IfOk r (λ x. Enabled b.world (λ v. has_vat v lent) (items x))) out
      (subst (λ (u : World). IfOk r (λ x. Enabled u (out_at d) (items x))) same (tells (subst (λ (u : World). NotedIn u agenda) (sym same) noted)))

-- and so what is known to a vat
module _ (b : Book) (agenda : Agenda) (noted : NotedIn b.world agenda) where
  pub known_told : (v : VatNo) (e : EventName) (i : ℕ) (o : Option PromId) → KnownAs (has_known agenda) v e i o → KnownAs (can_learn b.world) v e i o
  known_told v e i None h = λ q ev ix. sym (noted.learns v q) ∙ h q ev ix
  known_told v e i (Some p) h = (h.0, h.1, sym (noted.learns v p) ∙ h.2, λ q ev ix k. h.3 q ev ix (noted.learns v q ∙ k))
