-- One answer at most to what takes back, puts back, changes places or settles, and one cone, in books that are the same.
use Rattle.std.proofs.Common.{◌≡◌, ℕ, suc, zero, ◌+◌, Bool, true, false, List, [], ◌∷◌, None, map, refl, sym, ap, subst, ◌∙◌, cond, add-one}
use Rattle.std.specs.List.{AllByRecursion, filter}
use Rattle.ids.specs.declared.names.EventName.{EventName}
use Rattle.world_cells.specs.Events.{Event}
use Rattle.event.specs.Runs.{PlainRun}
use Rattle.journal.specs.Lines.{Line}
use Rattle.journal.proofs.Touching.{same_truth}
use Rattle.causality.specs.Selections.{name_of, chosen}
use Rattle.causality.specs.Exact.{Cone}
use Rattle.book_refusals.specs.Checks.{StoodAt, undo_refusal, redo_refusal, cone_refusal, exchange_refusal, settle_refusal}
use Rattle.book.specs.Books.{Book}
use Rattle.book.specs.Calls.{Undoes, Redoes, Exchanges, rest_of, live_events, redone_in}
use Rattle.stepper_commands.specs.Commands as command
use Rattle.stepper_printing.specs.Listing.{cone_text}
use Rattle.stepper.specs.Replies.{undone_text, redone_text, exchanged_text, Answers, cone_without_memory, cone_refused, cone_found, undo_without_memory, undo_refused, undo_accepted, undo_cone_without_memory, undo_cone_refused, undo_cone_found, redo_without_memory, redo_refused, redo_accepted, exchange_refused, exchange_accepted, settle_without_memory, settle_refused, settle_accepted}
use Rattle.stepper.specs.Laws.{SameLines, SameBook, IsForWant, book_without_memory, SameAnswer}
use Rattle.stepper.proofs.SameSets.{same_undo, same_redo, same_cone, same_exchange, same_settle, same_cones}
use Rattle.stepper.proofs.SameChanges.{same_count, same_undone_in, same_redone_in, same_rest, same_live_events, same_places, same_stood}
use Rattle.stepper.proofs.Entered.{one_run}
use Rattle.stepper.proofs.OneMove.{answer_once, refused_once, not_refused, not_accepted}
use Rattle.stepper.specs.declared.engine.Limits.{Limits}

-- ---- cones

same_chosen : (names others : List EventName) (lines : List Line) → AllByRecursion (λ l. chosen names l ≡ true → chosen others l ≡ true) lines → AllByRecursion (λ l. chosen others l ≡ true → chosen names l ≡ true) lines
    → filter (chosen names) lines ≡ filter (chosen others) lines
same_chosen names others [] h k = refl
same_chosen names others (l ∷ ls) h k =
    ap (λ b. cond b (l ∷ filter (chosen names) ls) (filter (chosen names) ls)) (same_truth (chosen names l) (chosen others l) h.0 k.0)
    ∙ ap (λ (zs : List Line). cond (chosen others l) (l ∷ zs) zs) (same_chosen names others ls h.1 k.1)

cone_once : {lines : List Line} {root : EventName} {names others : List EventName} → Cone lines root names → Cone lines root others → others ≡ names
cone_once {lines = lines} {names = names} {others = others} h k =
    k.in_order ∙ ap (map name_of) (same_chosen others names lines (k.least names h.closed h.has_root) (h.least others k.closed k.has_root)) ∙ sym h.in_order

module _ {b c : Book} (same : SameBook b c) where
  -- why a set or a place is refused is one
  undo_alike : (events : List EventName) → undo_refusal c.settled c.journal events ≡ undo_refusal b.settled b.journal events
  undo_alike events = ap (λ n. undo_refusal n c.journal events) same.settled ∙ same_undo b.settled b.journal c.journal same.journal events

  redo_alike : (events : List EventName) → redo_refusal c.settled c.journal events ≡ redo_refusal b.settled b.journal events
  redo_alike events = ap (λ n. redo_refusal n c.journal events) same.settled ∙ same_redo b.settled b.journal c.journal same.journal events

  cone_alike : (e : EventName) → cone_refusal c.settled c.journal e ≡ cone_refusal b.settled b.journal e
  cone_alike e = ap (λ n. cone_refusal n c.journal e) same.settled ∙ same_cone b.settled b.journal c.journal same.journal e

  exchange_alike : (position : ℕ) → exchange_refusal c.settled c.journal position ≡ exchange_refusal b.settled b.journal position
  exchange_alike position = ap (λ n. exchange_refusal n c.journal position) same.settled ∙ same_exchange b.settled b.journal c.journal same.journal position

  settle_alike : (position : ℕ) → settle_refusal c.settled c.journal position ≡ settle_refusal b.settled b.journal position
  settle_alike position = ap (λ n. settle_refusal n c.journal position) same.settled ∙ same_settle b.settled b.journal c.journal same.journal position

  cones_alike : {root : EventName} {names others : List EventName} → Cone b.journal root names → Cone c.journal root others → others ≡ names
  cones_alike {root = root} {others = others} h k = cone_once h (same_cones b.journal c.journal root others same.journal k)

-- ---- what is taken back, put back, or changes places

-- books that changed in their worlds and journals alone, and there alike
changed_alike : {b c d e : Book} → SameBook b c → e.world ≡ d.world → SameLines d.journal e.journal → d.settled ≡ b.settled → e.settled ≡ c.settled → d.next ≡ b.next → e.next ≡ c.next → d.out ≡ b.out → e.out ≡ c.out → SameBook d e
changed_alike same world lines s t n m o p = record { world = world; settled = t ∙ same.settled ∙ sym s; next = m ∙ same.next ∙ sym n; out = p ∙ same.out ∙ sym o; journal = lines }

lines_as : {xs ys ls ms : List Line} → ls ≡ xs → ms ≡ ys → SameLines xs ys → SameLines ls ms
lines_as h k same = subst (λ (z : List Line × List Line). SameLines z.0 z.1) (λ i. (sym h i, sym k i)) same

undone_once : {b c d e : Book} {events : List EventName} → SameBook b c → Undoes events b d → Undoes events c e → SameBook d e
undone_once {b = b} {c = c} {d = d} {e = e} {events = events} same x y =
    let also : PlainRun (rest_of events b.journal) e.world = subst (λ (es : List Event). PlainRun es e.world) (same_rest events b.journal c.journal same.journal) y.rest in
    changed_alike same (one_run (rest_of events b.journal) x.rest also) (lines_as x.marked y.marked (same_undone_in events b.journal c.journal same.journal)) x.same_settled y.same_settled x.same_next y.same_next x.same_out y.same_out

redone_once : {b c d e : Book} {events : List EventName} → SameBook b c → Redoes events b d → Redoes events c e → SameBook d e
redone_once {b = b} {c = c} {d = d} {e = e} {events = events} same x y =
    let lines = same_redone_in events b.journal c.journal same.journal in
    let also : PlainRun (live_events (redone_in events b.journal)) e.world = subst (λ (es : List Event). PlainRun es e.world) (same_live_events (redone_in events b.journal) (redone_in events c.journal) lines) y.run in
    changed_alike same (one_run (live_events (redone_in events b.journal)) x.run also) (lines_as x.marked y.marked lines) x.same_settled y.same_settled x.same_next y.same_next x.same_out y.same_out

pub one_undo : {limits : Limits} {b c d e : Book} {events : List EventName} {r t : List ℕ} {q p : Bool} → SameBook b c → Answers limits b (command.undo events) r q d → Answers limits c (command.undo events) t p e
    → ¬ IsForWant r → ¬ IsForWant t → SameAnswer r q d t p e
one_undo same undo_without_memory k n m = absurd (n book_without_memory)
one_undo same h undo_without_memory n m = absurd (m book_without_memory)
one_undo {events = events} same (undo_refused h) (undo_refused k) n m = refused_once same (undo_alike same events) h k
one_undo {events = events} same (undo_refused h) (undo_accepted k x) n m = not_refused (undo_alike same events) h k
one_undo {events = events} same (undo_accepted h x) (undo_refused k) n m = not_accepted (undo_alike same events) h k
one_undo {b = b} {c = c} {events = events} same (undo_accepted h x) (undo_accepted k y) n m = answer_once (ap undone_text (same_count b.journal c.journal same.journal events)) (undone_once same x y)

pub one_redo : {limits : Limits} {b c d e : Book} {events : List EventName} {r t : List ℕ} {q p : Bool} → SameBook b c → Answers limits b (command.redo events) r q d → Answers limits c (command.redo events) t p e
    → ¬ IsForWant r → ¬ IsForWant t → SameAnswer r q d t p e
one_redo same redo_without_memory k n m = absurd (n book_without_memory)
one_redo same h redo_without_memory n m = absurd (m book_without_memory)
one_redo {events = events} same (redo_refused h) (redo_refused k) n m = refused_once same (redo_alike same events) h k
one_redo {events = events} same (redo_refused h) (redo_accepted k x) n m = not_refused (redo_alike same events) h k
one_redo {events = events} same (redo_accepted h x) (redo_refused k) n m = not_accepted (redo_alike same events) h k
one_redo {b = b} {c = c} {events = events} same (redo_accepted h x) (redo_accepted k y) n m = answer_once (ap redone_text (same_count b.journal c.journal same.journal events)) (redone_once same x y)

-- what is exchanged stands at a position, counted from 1
exchanged_once : {b c d e : Book} {x y u v : EventName} (position : ℕ) → SameBook b c → exchange_refusal b.settled b.journal position ≡ None → Exchanges position b d → Exchanges position c e → StoodAt position b.journal x y → StoodAt position c.journal u v
    → SameAnswer (exchanged_text x y) false d (exchanged_text u v) false e
exchanged_once zero same h i j f g = absurd (cc)
exchanged_once {b = b} {c = c} {x = x} {y = y} {u = u} {v = v} (suc n) same h i j f g =
    let at : suc n ≡ n + 1 = sym (add-one n) in
    let also : StoodAt (suc n) b.journal u v = same_stood (suc n) b.journal c.journal u v same.journal g in
    let one : u ≡ x = (let p = (f n at).0 in let q = (also n at).0 in cc) in
    let two : v ≡ y = (let p = (f n at).1 in let q = (also n at).1 in cc) in
    answer_once (ap (λ z. exchanged_text z v) one ∙ ap (exchanged_text x) two)
    (changed_alike same (j.same_world ∙ same.world ∙ sym i.same_world) (lines_as (i.places n at) (j.places n at) (same_places n b.journal c.journal same.journal)) i.same_settled j.same_settled i.same_next j.same_next i.same_out j.same_out)

pub one_exchange : {limits : Limits} {b c d e : Book} {position : ℕ} {r t : List ℕ} {q p : Bool} → SameBook b c → Answers limits b (command.exchange position) r q d → Answers limits c (command.exchange position) t p e → SameAnswer r q d t p e
one_exchange {position = position} same (exchange_refused h) (exchange_refused k) = refused_once same (exchange_alike same position) h k
one_exchange {position = position} same (exchange_refused h) (exchange_accepted k x u) = not_refused (exchange_alike same position) h k
one_exchange {position = position} same (exchange_accepted h x u) (exchange_refused k) = not_accepted (exchange_alike same position) h k
one_exchange {position = position} same (exchange_accepted h x u) (exchange_accepted k v w) = exchanged_once position same h x v u w

pub one_settling : {limits : Limits} {b c d e : Book} {position : ℕ} {r t : List ℕ} {q p : Bool} → SameBook b c → Answers limits b (command.settle position) r q d → Answers limits c (command.settle position) t p e
    → ¬ IsForWant r → ¬ IsForWant t → SameAnswer r q d t p e
one_settling same settle_without_memory k n m = absurd (n book_without_memory)
one_settling same h settle_without_memory n m = absurd (m book_without_memory)
one_settling {position = position} same (settle_refused h) (settle_refused k) n m = refused_once same (settle_alike same position) h k
one_settling {position = position} same (settle_refused h) (settle_accepted k x) n m = not_refused (settle_alike same position) h k
one_settling {position = position} same (settle_accepted h x) (settle_refused k) n m = not_accepted (settle_alike same position) h k
one_settling {b = b} {c = c} {position = position} same (settle_accepted h x) (settle_accepted k y) n m =
    answer_once refl (subst (λ (z : Book × Book). SameBook z.0 z.1) (λ i. (sym x i, sym y i))
    (record { world = same.world; settled = refl; next = same.next; out = same.out; journal = same.journal }))

-- a cone that is undone is so as if its events were named
pub one_cone_undone : {limits : Limits} {b c d e : Book} {root : EventName} {r t : List ℕ} {q p : Bool} → SameBook b c → Answers limits b (command.undo_cone root) r q d → Answers limits c (command.undo_cone root) t p e
    → ¬ IsForWant r → ¬ IsForWant t → SameAnswer r q d t p e
one_cone_undone same undo_cone_without_memory k n m = absurd (n book_without_memory)
one_cone_undone same h undo_cone_without_memory n m = absurd (m book_without_memory)
one_cone_undone {root = root} same (undo_cone_refused h) (undo_cone_refused k) n m = refused_once same (cone_alike same root) h k
one_cone_undone {root = root} same (undo_cone_refused h) (undo_cone_found k x u) n m = not_refused (cone_alike same root) h k
one_cone_undone {root = root} same (undo_cone_found h x u) (undo_cone_refused k) n m = not_accepted (cone_alike same root) h k
one_cone_undone {limits = limits} {c = c} {e = e} {t = t} {p = p} same (undo_cone_found h x u) (undo_cone_found k v w) n m =
    one_undo same u (subst (λ (es : List EventName). Answers limits c (command.undo es) t p e) (cones_alike same x v) w) n m

pub one_cone : {limits : Limits} {b c d e : Book} {root : EventName} {r t : List ℕ} {q p : Bool} → SameBook b c → Answers limits b (command.cone root) r q d → Answers limits c (command.cone root) t p e
    → ¬ IsForWant r → ¬ IsForWant t → SameAnswer r q d t p e
one_cone same cone_without_memory k n m = absurd (n book_without_memory)
one_cone same h cone_without_memory n m = absurd (m book_without_memory)
one_cone {root = root} same (cone_refused h) (cone_refused k) n m = refused_once same (cone_alike same root) h k
one_cone {root = root} same (cone_refused h) (cone_found k x) n m = not_refused (cone_alike same root) h k
one_cone {root = root} same (cone_found h x) (cone_refused k) n m = not_accepted (cone_alike same root) h k
one_cone same (cone_found h x) (cone_found k y) n m = answer_once (ap cone_text (cones_alike same x y)) same
