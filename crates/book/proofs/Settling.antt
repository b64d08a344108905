-- The base of a book, and what is settled.
use Rattle.std.proofs.Common.{◌≡◌, ℕ, zero, suc, ◌+◌, ◌≤◌, List, [], ◌∷◌, ◌++◌, All, length, map, filter, take, drop, reverse, refl, sym, ap, ap₂, ◌∙◌, subst, arith, Result, Ok, Err, OnOk, OnErr}
use Rattle.std.proofs.Math.Logic.{∥∥₁_elim, ∥∥₁_prop}
use Rattle.std.proofs.lemmas.List.{map-append, reverse-append, take-append-drop, length-map}
use Rattle.std.proofs.lemmas.List.Elements.{All-nil, All-cons, All-head, All-tail, filter-append}
use Rattle.history.specs.Subject.{Run, run_none, run_more, empty}
use Rattle.history.specs.Records.{State, contents}
use Rattle.history.proofs.Core.{runs_are_one}
use Rattle.world_cells.specs.Events.{Event, event_in}
use Rattle.world_cells.specs.Theory.{cells}
use Rattle.world_cells.specs.World.{World}
use Rattle.event.specs.Events.{events}
use Rattle.event.specs.Runs.{RunFrom, PlainRun}
use Rattle.event.proofs.Law.{events_laws}
use Rattle.journal.specs.Items.{Item, item_of}
use Rattle.journal.specs.Journals.{items_of as journal_items, settled_item}
use Rattle.journal.specs.Lines.{Line, lines_of}
use Rattle.journal.specs.declared.journal.Journal.{Journal}
use Rattle.causality.specs.Selections.{is_live}
use Rattle.undo.specs.CoreView.{items_of, open_of, settled_of, shown}
use Rattle.undo.specs.declared.undoing.Core.{Core}
use Rattle.desk.specs.Desks.{Lent}
use Rattle.book.specs.Books.{Book}
use Rattle.book.specs.Calls.{live_events, RunsFromBase, Settles, BaseGoesOn}
use Rattle.book.proofs.Entering.{book_with}
use Rattle.book.proofs.Sets.{World-set}

-- what holds of all holds of the first, and of those behind
pub all_front : {A : Type 0} (P : A → Type 0) (xs ys : List A) → All P (xs ++ ys) → All P xs
all_front P [] ys h = All-nil P
all_front P (x ∷ xs) ys h = All-cons P x xs (All-head P x (xs ++ ys) h) (all_front P xs ys (All-tail P x (xs ++ ys) h))

pub all_behind : {A : Type 0} (P : A → Type 0) (xs ys : List A) → All P (xs ++ ys) → All P ys
all_behind P [] ys h = h
all_behind P (x ∷ xs) ys h = all_behind P xs ys (All-tail P x (xs ++ ys) h)

-- a run, the newest event first, goes through the world that the older ones lead to
through : {start : World} (es older : List Event) (w : World) → Run events start (es ++ older) w → (v : World) × Run events start older v × Run events v es w
through [] older w r = (w, r, run_none)
through (e ∷ es) older w (run_more {w = u} {f = f} r d) = let (v, p, q) = through es older u r in (v, p, run_more q d)

run_parts : {w : World} (es later : List Event) → PlainRun (es ++ later) w → ∥ ((v : World) × PlainRun es v × RunFrom v later w) ∥₁
run_parts {w = w} es later h = ∥∥₁_elim h ∥∥₁_prop (λ r.
    let (v, p, q) = through (reverse later) (reverse es) w (subst (λ l. Run events (empty events) l w) (reverse-append es later) r) in ∣ (v, ∣ p ∣₁, ∣ q ∣₁) ∣₁)

-- the live events of the first lines, and those of the others
live_parts : (n : ℕ) (lines : List Line) → live_events lines ≡ live_events (take n lines) ++ live_events (drop n lines)
live_parts n lines =
    ap live_events (sym (take-append-drop n lines)) ∙ ap (map (λ (l : Line). event_in l.entry.event)) (filter-append is_live (take n lines) (drop n lines))
    ∙ map-append (λ (l : Line). event_in l.entry.event) (filter is_live (take n lines)) (filter is_live (drop n lines))

pub from_base : (b : Book) → PlainRun (live_events b.journal) b.world → RunsFromBase b
from_base b h = run_parts (live_events (take b.settled b.journal)) (live_events (drop b.settled b.journal)) (subst (λ es. PlainRun es b.world) (live_parts b.settled b.journal) h)

one_world : {v w : World} (es : List Event) → PlainRun es v → PlainRun es w → v ≡ w
one_world es h k = ∥∥₁_elim h (World-set _ _) (λ a. ∥∥₁_elim k (World-set _ _) (λ b. runs_are_one events events_laws a b))

take_less : {A : Type 0} (m n : ℕ) (xs : List A) → m ≤ n → take m (take n xs) ≡ take m xs
take_less zero n xs h = refl
take_less (suc m) zero xs h = absurd (omega arith)
take_less (suc m) (suc n) [] h = refl
take_less (suc m) (suc n) (x ∷ xs) h = ap (λ l. x ∷ l) (take_less m n xs (omega arith))

-- a base goes on to the base of more lines
pub base_goes_on : (b : Book) (n : ℕ) → b.settled ≤ n → PlainRun (live_events b.journal) b.world → BaseGoesOn b (record b { settled = n })
base_goes_on b n le h v base = ∥∥₁_elim (from_base (record b { settled = n }) h) ∥∥₁_prop (λ (w, more, rest).
    let es = live_events (take b.settled b.journal) in
    let mid = live_events (drop b.settled (take n b.journal)) in
    let cut : live_events (take n b.journal) ≡ es ++ mid = live_parts b.settled (take n b.journal) ∙ ap (λ ls. live_events ls ++ mid) (take_less b.settled n b.journal le) in
    ∥∥₁_elim (run_parts es mid (subst (λ l. PlainRun l w) cut more)) ∥∥₁_prop (λ (u, first, on).
    ∣ (w, more, subst (λ (x : World). RunFrom x mid w) (one_world es first base) on) ∣₁))

-- what is not settled of a journal is what is not settled of a core that has its items
drop_front : {A : Type 0} (xs ys : List A) → drop (length xs) (xs ++ ys) ≡ ys
drop_front [] ys = refl
drop_front (x ∷ xs) ys = drop_front xs ys

pub open_same : (j : Journal) (core : Core) → journal_items j ≡ items_of core → length j.settled.now ≡ settled_of core → map item_of j.entries.now ≡ open_of core
open_same j core is many =
    let ss = map settled_item j.settled.now in
    let ts = map settled_item core.settled.items in
    sym (drop_front ss (map item_of j.entries.now))
    ∙ ap₂ (λ n (items : List Item). drop n items) (length-map j.settled.now settled_item ∙ many ∙ sym (length-map core.settled.items settled_item)) is
    ∙ drop_front ts (open_of core)

-- the book after it
pub book_settled : (old new : Core) (next : ℕ) (out : List Lent) (position : ℕ) → shown new ≡ shown old → settled_of new ≡ position → Settles position (book_with old next out) (book_with new next out)
book_settled old new next out position is at =
    ap₂ (λ (j : List Item × State cells) n. record { world = contents cells j.1; journal = lines_of j.0; settled = n; next = next; out = out }) is at

-- what is settled, or nothing, is no less
pub never_less : {T E : Type 0} {old new : ℕ} (n : ℕ) (r : Result T E) → OnOk r (new ≡ old + n) → OnErr r (new ≡ old) → old ≤ new
never_less n (Ok x) h g = omega (arith, h)
never_less n (Err e) h g = omega (arith, g)
