-- What is entered in a book is told by the event alone, also in books that are the same.
use Rattle.std.proofs.Common.{◌≡◌, ℕ, ◌+◌, Bool, List, [], ◌∷◌, ◌++◌, refl, sym, ap, subst, ◌∙◌}
use Rattle.std.specs.Prelude.{is_some, reverse, codes}
use Rattle.std.proofs.Props.{props}
use Rattle.std.proofs.Math.Logic.{∥∥₁_elim}
use Rattle.history.specs.Subject.{after, new, touches}
use Rattle.history.proofs.Core.{runs_are_one}
use Rattle.history.proofs.Writing.{after_alike}
use Rattle.ids.specs.Names.{event_text}
use Rattle.ids.specs.declared.cells.CellKey.{CellKey}
use Rattle.ids.specs.declared.names.EventName.{EventName}
use Rattle.ids.specs.declared.names.VatNo.{VatNo}
use Rattle.ids.specs.declared.names.MsgId.{MsgId}
use Rattle.post.specs.Messages.{Message}
use Rattle.turn_deliveries.specs.Turn.{Delivers, Outcome, Told}
use Rattle.turn_deliveries.proofs.Turns.{delivery_same}
use Rattle.eval_rules.specs.Outbox.{Note}
use Rattle.world_cells.specs.Events.{Event, Noted, Act, turn, event_in, with_notes}
use Rattle.world_cells.specs.World.{World, vat_state}
use Rattle.event.specs.Events.{Foot, DoesNoted, events, Turn, Turns, turn_foot}
use Rattle.event.specs.Walks.{found_by}
use Rattle.event.specs.Runs.{PlainRun}
use Rattle.event.proofs.Law.{events_laws}
use Rattle.journal.specs.Lines.{plain, Line}
use Rattle.book.specs.Books.{Book}
use Rattle.book.specs.Calls.{Tells, Enters, EntersNext, EntersTurn, TurnsNext}
use Rattle.book.proofs.Sets.{World-set}
use Rattle.stepper.specs.Replies.{told_text, turned_text}
use Rattle.stepper.specs.Laws.{SameLine, SameLines, SameBook}
use Rattle.stepper.proofs.SameBooks.{same_causes}
use Rattle.stepper.proofs.SameLines.{lines_more}

bools : IsSet Bool
bools = hlevel props

texts : IsSet (List ℕ)
texts = hlevel props

vats : IsSet VatNo
vats = hlevel props

all_notes : IsSet (List Note)
all_notes = hlevel props

-- ---- what is the same as itself

one_line : (l : Line) → SameLine l l
one_line l = record { event = refl; seat = refl; live = refl; causes = refl; touched = λ k. refl; written = λ k. refl }

these_lines : (ls : List Line) → SameLines ls ls
these_lines [] = tt
these_lines (l ∷ ls) = (one_line l, these_lines ls)

pub same_lines : (ls ms : List Line) → ms ≡ ls → SameLines ls ms
same_lines ls ms e = subst (SameLines ls) (sym e) (these_lines ls)

pub same_book : (b : Book) → SameBook b b
same_book b = record { world = refl; settled = refl; next = refl; out = refl; journal = same_lines b.journal b.journal refl }

-- ---- one event in one world

module _ {e : Noted} {f g : Foot} {w : World} (h : ∥ DoesNoted e w f ∥₁) (k : ∥ DoesNoted e w g ∥₁) where
  after_once : after events f w ≡ after events g w
  after_once = ∥∥₁_elim h (World-set _ _) (λ a. ∥∥₁_elim k (World-set _ _) (λ b. after_alike events f g w (events_laws.once (event_in e) w f g a.0 b.0)))

  touched_once : (c : CellKey) → touches events f c ≡ touches events g c
  touched_once c = ∥∥₁_elim h (bools _ _) (λ a. ∥∥₁_elim k (bools _ _) (λ b. (events_laws.once (event_in e) w f g a.0 b.0).touch c))

  written_once : (c : CellKey) → is_some (new events f c) ≡ is_some (new events g c)
  written_once c = ∥∥₁_elim h (bools _ _) (λ a. ∥∥₁_elim k (bools _ _) (λ b. ap is_some ((events_laws.once (event_in e) w f g a.0 b.0).write c)))

line_once : {e : Noted} {f g : Foot} {w : World} {seat : ℕ} {ls ms : List Line} {l m : Line} → SameLines ls ms → ∥ DoesNoted e w f ∥₁ → ∥ DoesNoted e w g ∥₁ → Tells e f seat ls l → Tells e g seat ms m → SameLine l m
line_once {ls = ls} {ms = ms} {l = l} {m = m} same a b h k =
    let touched : (c : CellKey) → touches plain m.entry.foot c ≡ touches plain l.entry.foot c = λ c. k.touched c ∙ sym (touched_once a b c) ∙ sym (h.touched c) in
    record {
      event = k.event ∙ sym h.event;
      seat = k.same_seat ∙ sym h.same_seat;
      live = k.live ∙ sym h.live;
      causes = k.causes ∙ ap reverse (same_causes l.entry.foot m.entry.foot touched ls ms same) ∙ sym h.causes;
      touched = touched;
      written = λ c. k.written c ∙ sym (written_once a b c) ∙ sym (h.written c);
    }

pub enters_once : {e : Noted} {f g : Foot} {seat : ℕ} {a b c d : Book} → SameBook a b → Enters e f seat a c → Enters e g seat b d → d.settled ≡ c.settled → d.next ≡ c.next → d.out ≡ c.out → SameBook c d
enters_once {e = e} {f = f} {g = g} {a = a} {b = b} {c = c} {d = d} same h k settled next out =
    let does : ∥ DoesNoted e a.world g ∥₁ = subst (λ (w : World). ∥ DoesNoted e w g ∥₁) same.world k.does in
    record {
      world = k.step ∙ ap (λ (w : World). after events g w) same.world ∙ sym (after_once h.does does) ∙ sym h.step;
      settled = settled;
      next = next;
      out = out;
      journal = subst (λ (z : List Line). SameLines z d.journal) (sym h.entered)
          (subst (λ (z : List Line). SameLines (a.journal ++ h.line ∷ []) z) (sym k.entered) (lines_more a.journal b.journal h.line k.line same.journal (line_once same.journal h.does does h.tells k.tells)));
    }

pub one_name : (x y : EventName) (n : ℕ) → x.0 ≡ n → y.0 ≡ n → x ≡ y
one_name x y n h k = λ i. record { 0 = (h ∙ sym k) i }

-- an event that is entered next has one name, and leaves one book
pub entered_once : {x y : EventName} {act : Act} {f g : Foot} {a b c d : Book} → SameBook a b → EntersNext (record { name = x; act = act }) f 0 a c → EntersNext (record { name = y; act = act }) g 0 b d → (x ≡ y) × SameBook c d
entered_once {x = x} {y = y} {act = act} {g = g} {a = a} {b = b} {d = d} same h k =
    let one : x ≡ y = one_name x y a.next h.named (k.named ∙ same.next) in
    let also : Enters (with_notes (record { name = x; act = act }) []) g 0 b d = subst (λ (z : EventName). Enters (with_notes (record { name = z; act = act }) []) g 0 b d) (sym one) k.enters in
    (one, enters_once same h.enters also (k.same_settled ∙ same.settled ∙ sym h.same_settled) (k.drawn ∙ ap (λ n. n + 1) same.next ∙ sym h.drawn) (k.same_out ∙ same.out ∙ sym h.same_out))

-- ---- turns

one_message : {e : EventName} {w : World} {m : MsgId} {n : ℕ} (t u : Turn) → Turns e w m n t → Turns e w m n u → u.message ≡ t.message
one_message t u p q = let a = p.waiting in let b = q.waiting in cc

one_vat : {e : EventName} {w : World} {m : MsgId} {n : ℕ} (t u : Turn) → Turns e w m n t → Turns e w m n u → u.vat ≡ t.vat
one_vat t u p q = let a = p.waiting in let b = q.waiting in let c = p.there in let d = q.there in cc

-- a turn of a message has one outcome
outcome_once : {e : EventName} {w : World} {m : MsgId} {n : ℕ} (t u : Turn) → Turns e w m n t → Turns e w m n u → u.outcome ≡ t.outcome
outcome_once {e = e} {w = w} {n = n} t u p q =
    let here : Delivers t.message (found_by w t.message.delivery) e u.vat (vat_state w u.vat) n u.outcome
    = subst (λ (g : Message). Delivers g (found_by w g.delivery) e u.vat (vat_state w u.vat) n u.outcome) (one_message t u p q) q.delivers.0 in
    let also : Delivers t.message (found_by w t.message.delivery) e t.vat (vat_state w t.vat) n u.outcome
    = subst (λ (v : VatNo). Delivers t.message (found_by w t.message.delivery) e v (vat_state w v) n u.outcome) (one_vat t u p q) here in
    delivery_same also p.delivers.0

turned_so : (x y : EventName) (o p : Told) → y ≡ x → told_text p ≡ told_text o → turned_text y p ≡ turned_text x o
turned_so x y o p e words = ap (λ (z : EventName). codes "ok " ++ (event_text z ++ (codes " " ++ (told_text p ++ 10 ∷ [])))) e ∙ ap (λ (z : List ℕ). codes "ok " ++ (event_text x ++ (codes " " ++ (z ++ 10 ∷ [])))) words

pub turned_once : {m : MsgId} {budget : ℕ} {a b c d : Book} {x y : EventName} {t u : Turn} → SameBook a b → TurnsNext x m budget t a c → TurnsNext y m budget u b d
    → (turned_text y u.outcome.told ≡ turned_text x t.outcome.told) × SameBook c d
turned_once {m = m} {budget = budget} {a = a} {b = b} {d = d} {x = x} {y = y} {t = t} {u = u} same h k =
    let one : x ≡ y = one_name x y a.next h.named (k.named ∙ same.next) in
    let also : EntersTurn x m budget 0 u b d = subst (λ (z : EventName). EntersTurn z m budget 0 u b d) (sym one) k.enters in
    let turns : ∥ Turns x a.world m budget u ∥₁ = subst (λ (w : World). ∥ Turns x w m budget u ∥₁) same.world also.turns in
    let words : told_text u.outcome.told ≡ told_text t.outcome.told = ∥∥₁_elim h.enters.turns (texts _ _) (λ p. ∥∥₁_elim turns (texts _ _) (λ q. ap (λ (o : Outcome). told_text o.told) (outcome_once t u p q))) in
    let notes : u.outcome.out.notes ≡ t.outcome.out.notes = ∥∥₁_elim h.enters.turns (all_notes _ _) (λ p. ∥∥₁_elim turns (all_notes _ _) (λ q. ap (λ (o : Outcome). o.out.notes) (outcome_once t u p q))) in
    let vat : u.vat ≡ t.vat = ∥∥₁_elim h.enters.turns (vats _ _) (λ p. ∥∥₁_elim turns (vats _ _) (λ q. one_vat t u p q)) in (
      turned_so x y t.outcome.told u.outcome.told (sym one) words,
      enters_once same h.enters.enters
          (subst (λ (ns : List Note). Enters (record { name = x; act = turn t.vat m budget; notes = ns }) (turn_foot x b.world m u also.cells also.left) 0 b d) notes
          (subst (λ (v : VatNo). Enters (record { name = x; act = turn v m budget; notes = u.outcome.out.notes }) (turn_foot x b.world m u also.cells also.left) 0 b d) vat also.enters))
          (k.same_settled ∙ same.settled ∙ sym h.same_settled) (k.drawn ∙ ap (λ n. n + 1) same.next ∙ sym h.drawn) (k.same_out ∙ same.out ∙ sym h.same_out),
    )

-- ---- plain runs

pub one_run : (es : List Event) {w v : World} → PlainRun es w → PlainRun es v → v ≡ w
one_run es h k = ∥∥₁_elim h (World-set _ _) (λ a. ∥∥₁_elim k (World-set _ _) (λ b. runs_are_one events events_laws b a))
