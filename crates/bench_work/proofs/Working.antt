-- What becomes of a book that workers alone have.
use Rattle.std.proofs.Common.{◌≡◌, ℕ, ◌+◌, ◌<◌, ◌≤◌, Bool, true, false, List, [], ◌∷◌, ◌++◌, map, get_or, append-nil, append_assoc, All, Contains, ⊎_elim, refl, sym, ap, ◌∙◌, subst, arith}
use Rattle.std.proofs.lemmas.Bool.{false≢true}
use Rattle.std.proofs.lemmas.Bool.Decides.{eqb_tells, leb_tells}
use Rattle.std.proofs.lemmas.List.Elements.{All-nil, All-push, All-weaker, All-contains_itself}
use Rattle.std.proofs.lemmas.List.Elements as elements
use Rattle.std.proofs.lemmas.List.Sums.{sum_by_push}
use Rattle.std.specs.Prelude.{cond, not, ◌==◌, Result, Ok, Err, IfOk, IfErr, Option, Some, None}
use Rattle.ids.specs.declared.names.EventName.{EventName}
use Rattle.ids.specs.declared.names.MsgId.{MsgId}
use Rattle.std.proofs.lemmas.List.{map-append}
use Rattle.world_cells.specs.Events.{Event, Noted, event_in}
use Rattle.world_cells.specs.EventView.{event_of}
use Rattle.world_cells.specs.declared.event.Event as code
use Rattle.book_agenda.specs.declared.agenda.Move.{Move}
use Rattle.book_agenda.specs.declared.agenda.Move.TheVariants as move
use Rattle.event.specs.Events.{Foot}
use Rattle.turn.specs.declared.ticket.Out.{Out}
use Rattle.turn.specs.declared.ticket.Ran.{Ran}
use Rattle.journal.specs.Lines.{Line}
use Rattle.desk.specs.Desks.{Lent, without}
use Rattle.book_refusals.specs.declared.fault.BookFault.{BookFault}
use Rattle.book_refusals.specs.declared.fault.BookFault.TheVariants as fault
use Rattle.book.specs.Books.{Book}
use Rattle.book.specs.Calls.{Enters, Lends, Commits, Tells, act_of, lent_of}
use Rattle.book.specs.Good.{IsGood}
use Rattle.book_crew.specs.Work.{is_work, IsFromWorker, IsGreatestSeat, Worked, is_turn}
use Rattle.bench_pact.specs.declared.Act.TheVariants.{Closes}
use Rattle.bench.specs.declared.pick.Pick.{Pick}
use Rattle.bench.specs.declared.pick.Pick.TheVariants as pick
use Rattle.bench.specs.declared.instruction.Instruction.TheVariants as instruction
use Rattle.bench.specs.Author.{Obeys, Picked, Picks, turn_of}
use Rattle.bench.specs.SharedBook.{Held, Returns, events_of, held, left_by, refused}
use Rattle.bench_work.specs.Seats.{AreWork}
use Rattle.bench.proofs.Moves.{move_no_turn}
use Rattle.bench_work.specs.Workshop.{IsLent, IsWorkshop, lent_after}
use Rattle.bench_work.proofs.Lent.{none_lent, one_more_lent, no_more_lent, one_less_lent}

abbrev one_of : Line → ℕ
one_of l = cond (is_turn (event_in l.entry.event).act) 1 0

-- what was not all used is less
loosened : (before seats most : ℕ) (began : Book) (left less given first behind : ℕ) (untouched : Bool) (b : Book) → less ≤ left
    → IsWorkshop before seats most began left given first behind untouched b → IsWorkshop before seats most began less given first behind false b
loosened before seats most began left less given first behind untouched b le h = record {
  greatest = h.greatest;
  lines = h.lines;
  appended = h.appended;
  each = h.each;
  counted = h.counted;
  same_settled = h.same_settled;
  out = h.out;
  allowed = let fits = h.allowed in omega (arith, fits, le);
  ordered = h.ordered;
  drawn = h.drawn;
  same = λ e. absurd (false≢true e);
}

-- nothing was done
pub shop_begins : (before seats most : ℕ) (began : Book) → IsGreatestSeat before began → IsWorkshop before seats most began most 0 0 0 true began
shop_begins before seats most began greatest = record {
  greatest = greatest;
  lines = [];
  appended = sym (append-nil began.journal);
  each = All-nil (IsFromWorker before seats);
  counted = refl;
  same_settled = refl;
  out = λ k d h. ((λ above. let low = greatest.tickets k d h in absurd (omega (arith, above, low))), (λ low. All-contains_itself began.out k d h));
  allowed = let none = none_lent before began.out greatest.tickets in omega (arith, none);
  ordered = omega arith;
  drawn = omega arith;
  same = λ e. (refl, refl);
}

module _ (before seats most : ℕ) (began : Book) (left given first behind : ℕ) (untouched : Bool) (old now : Book)
    (h : IsWorkshop before seats most began left given first behind untouched old) where
  -- a line that a worker entered
  line_of_worker : (e : Noted) (f : Foot) (seat : ℕ) (l : Line) → Tells e f seat old.journal l → is_work (event_in e).act ≡ true → before < seat → seat ≤ before + seats → IsFromWorker before seats l
  line_of_worker e f seat l tells work above within = record {
    live = tells.live;
    work = ap (λ (n : Noted). is_work (event_in n).act) tells.event ∙ work;
    above = subst (λ s. before < s) (sym tells.same_seat) above;
    within = subst (λ s. s ≤ before + seats) (sym tells.same_seat) within;
  }

  -- an event is entered, which is no turn, or is one
  pub shop_entered : (e : Noted) (f : Foot) (seat more : ℕ) → Enters e f seat old now → is_work (event_in e).act ≡ true → before < seat → seat ≤ before + seats
      → cond (is_turn (event_in e).act) 1 0 ≡ more → now.settled ≡ old.settled → old.next ≤ now.next
      → All (IsLent before first behind began.out) now.out → (given + more) + lent_after before now.out + left ≤ most
      → IsWorkshop before seats most began left (given + more) first behind false now
  shop_entered e f seat more enters work above within turns settled next out allowed =
      let line = enters.line in
      let tells = enters.tells in record {
        greatest = h.greatest;
        lines = h.lines ++ line ∷ [];
        appended = enters.entered ∙ ap (λ (j : List Line). j ++ line ∷ []) h.appended ∙ append_assoc began.journal h.lines (line ∷ []);
        each = All-push (IsFromWorker before seats) h.lines line h.each (line_of_worker e f seat line tells work above within);
        counted =
            let same : one_of line ≡ more = ap (λ (n : Noted). cond (is_turn (event_in n).act) 1 0) tells.event ∙ turns in
            let whole = sum_by_push one_of h.lines line in
            let was = h.counted in
            omega (arith, same, whole, was);
        same_settled = settled ∙ h.same_settled;
        out = out;
        allowed = allowed;
        ordered = h.ordered;
        drawn = let d = h.drawn in omega (arith, d, next);
        same = λ t. absurd (false≢true t);
      }

  -- an event that is no turn
  pub shop_moved : (e : Noted) (f : Foot) (seat : ℕ) → Enters e f seat old now → is_work (event_in e).act ≡ true → is_turn (event_in e).act ≡ false → before < seat → seat ≤ before + seats
      → now.settled ≡ old.settled → now.next ≡ old.next + 1 → now.out ≡ old.out → IsWorkshop before seats most began left given first behind false now
  shop_moved e f seat enters work no_turn above within settled next out =
      let fits = h.allowed in
      let same = ap (lent_after before) out in
      let none : given + 0 ≡ given = omega arith in
      subst (λ n. IsWorkshop before seats most began left n first behind false now) none
      (shop_entered e f seat 0 enters work above within (ap (λ b. cond b 1 0) no_turn) settled (omega (arith, next))
      (subst (λ (o : List Lent). All (IsLent before first behind began.out) o) (sym out) h.out) (omega (arith, fits, same)))

  -- the turn of a ticket that a worker had
  pub shop_given : (r : Ran) → Commits r old now → before < r.carried.seat → r.carried.seat ≤ before + seats → IsWorkshop before seats most began left (given + 1) first behind false now
  shop_given r commits above within =
      let n = r.carried.event in
      let fits = h.allowed in
      let same = ap (lent_after before) commits.out in
      let less = one_less_lent before (lent_of r.carried) old.out above commits.known.out in
      shop_entered _ _ r.carried.seat 1 commits.enters.enters refl above within refl commits.same_settled (let next = commits.same_next in omega (arith, next))
      (subst (λ (o : List Lent). All (IsLent before first behind began.out) o) (sym commits.out) (elements.All-filter (λ (t : Lent). not (t.number.0 == n.0)) (IsLent before first behind began.out) old.out h.out))
      (omega (arith, fits, same, less))

  -- a ticket is lent to a worker
  pub shop_lent : (m : MsgId) (budget seat left' first' : ℕ) (t : Out) → Lends m budget seat t old now → before < seat → left ≡ left' + 1 → first' ≤ old.next
      → ((k : ℕ) → first ≤ k → k < behind → first' ≤ k) → IsWorkshop before seats most began left' given first' (old.next + 1) false now
  shop_lent m budget seat left' first' t lends above one_left low covers =
      let u = lent_of t.carried in
      let lent = lends.lent in
      let named : u.number.0 ≡ old.next = lends.named in
      let d = h.drawn in
      let wide : (v : Lent) → IsLent before first behind began.out v → IsLent before first' (old.next + 1) began.out v
      = λ v is. ((λ a. (covers v.number.0 (is.0 a).0 (is.0 a).1, (let b = (is.0 a).1 in omega (arith, b, d)))), is.1) in
      let fresh : IsLent before first' (old.next + 1) began.out u = ((λ a. (omega (arith, low, named), omega (arith, named))), (λ below. let same = lends.same_seat in absurd (omega (arith, same, above, below)))) in
      subst (IsWorkshop before seats most began left' given first' (old.next + 1) false) (sym lent) (record {
        greatest = h.greatest;
        lines = h.lines;
        appended = h.appended;
        each = h.each;
        counted = h.counted;
        same_settled = h.same_settled;
        out = All-push (IsLent before first' (old.next + 1) began.out) old.out u (All-weaker (IsLent before first behind began.out) (IsLent before first' (old.next + 1) began.out) wide old.out h.out) fresh;
        allowed = let fits = h.allowed in let more = one_more_lent before old.out u in omega (arith, fits, more, one_left);
        ordered = omega (arith, low);
        drawn = omega arith;
        same = λ e. absurd (false≢true e);
      })

  -- a ticket is let go
  pub shop_let_go : (n : EventName) → now ≡ record old { out = without n old.out } → IsWorkshop before seats most began left given first behind false now
  shop_let_go n gone =
      subst (IsWorkshop before seats most began left given first behind false) (sym gone) (record {
        greatest = h.greatest;
        lines = h.lines;
        appended = h.appended;
        each = h.each;
        counted = h.counted;
        same_settled = h.same_settled;
        out = elements.All-filter (λ (t : Lent). not (t.number.0 == n.0)) (IsLent before first behind began.out) old.out h.out;
        allowed = let fits = h.allowed in let less = no_more_lent before n old.out in omega (arith, fits, less);
        ordered = h.ordered;
        drawn = h.drawn;
        same = λ e. absurd (false≢true e);
      })

  -- nothing changes
  pub shop_touched : now ≡ old → IsWorkshop before seats most began left given first behind false now
  shop_touched same = subst (IsWorkshop before seats most began left given first behind false) (sym same) (loosened before seats most began left left given first behind untouched old (omega arith) h)

  -- a ticket is refused
  pub shop_refused : (f : BookFault) (n : EventName) → now ≡ left_by f n old → IsWorkshop before seats most began left given first behind false now
  shop_refused fault.Stale n is = shop_let_go n is
  shop_refused _ n is = shop_touched is

-- each number is let go, from the first one on
differs : (k : ℕ) (n : EventName) (t : Lent) → n.0 ≡ k → (not (t.number.0 == n.0)) ≡ true → k ≤ t.number.0 → k + 1 ≤ t.number.0
differs k n t is other least = ⊎_elim (λ s. absurd (cc)) (λ d. let ne = d.1 in omega (arith, ne, is, least)) (eqb_tells t.number.0 n.0)

pub shop_closes : (before seats most : ℕ) (began : Book) (given k behind : ℕ) (old now : Book) (n : EventName)
    → IsWorkshop before seats most began 0 given k behind false old → n.0 ≡ k → k < behind → now ≡ record old { out = without n old.out }
    → IsWorkshop before seats most began 0 given (k + 1) behind false now
shop_closes before seats most began given k behind old now n h is more gone =
    let p : Lent → Bool = λ t. not (t.number.0 == n.0) in
    let stays = elements.All-filter p (IsLent before k behind began.out) old.out h.out in
    let others = elements.filter_passes p old.out in
    subst (IsWorkshop before seats most began 0 given (k + 1) behind false) (sym gone) (record {
      greatest = h.greatest;
      lines = h.lines;
      appended = h.appended;
      each = h.each;
      counted = h.counted;
      same_settled = h.same_settled;
      out = λ i d lt. let was = stays i d lt in let other = others i d lt in ((λ a. (differs k n (get_or (without n old.out) i d) is other (was.0 a).0, (was.0 a).1)), was.1);
      allowed = let fits = h.allowed in let less = no_more_lent before n old.out in omega (arith, fits, less);
      ordered = omega (arith, more);
      drawn = h.drawn;
      same = λ e. absurd (false≢true e);
    })

pub shop_closing : (before seats most : ℕ) (began : Book) (left given first behind : ℕ) (untouched : Bool) (b : Book)
    → IsWorkshop before seats most began left given first behind untouched b → IsWorkshop before seats most began 0 given first behind false b
shop_closing before seats most began left given first behind untouched b h = loosened before seats most began left 0 given first behind untouched b (omega arith) h

-- then no ticket is out with a worker
pub shop_closed : (before seats most : ℕ) (began : Book) (given k behind : ℕ) (b : Book)
    → IsWorkshop before seats most began 0 given k behind false b → behind ≤ k → IsGood b → Worked seats most given began b
shop_closed before seats most began given k behind b h done good = record {
  before = before;
  greatest = h.greatest;
  lines = h.lines;
  appended = h.appended;
  each = h.each;
  counted = h.counted;
  allowed = let fits = h.allowed in omega (arith, fits);
  same_settled = h.same_settled;
  out = All-weaker (IsLent before k behind began.out) (Contains began.out) (λ t is. ⊎_elim (λ low. is.1 low.1) (λ a. let low = (is.0 a.1).0 in let high = (is.0 a.1).1 in absurd (omega (arith, low, high, done))) (leb_tells t.seat before)) b.out h.out;
  good = good;
}

-- ---- what is picked
move_is_work : (m : Move) → is_work (act_of m) ≡ true
move_is_work (move.Arrive m) = refl
move_is_work (move.Forward m) = refl
move_is_work (move.Learn v p) = refl

module _ (before seats most : ℕ) (began : Book) (left given first behind : ℕ) (untouched : Bool) (old now : Book)
    (h : IsWorkshop before seats most began left given first behind untouched old) (budget seat : ℕ) (above : before < seat) (within : seat ≤ before + seats) where
  pub shop_picked_moved : (e : EventName) → Picks budget seat (pick.Moved e) old now → IsWorkshop before seats most began left given first behind false now
  shop_picked_moved e p =
      let enters = p.2.enters in
      shop_moved before seats most began left given first behind untouched old now h _ _ seat enters.enters (move_is_work p.0) (move_no_turn p.0) above within enters.same_settled enters.drawn enters.same_out

  pub shop_picked_turn : (t : Out) → Picks budget seat (pick.Turn t) old now → (left' first' : ℕ) → left ≡ left' + 1 → first' ≤ old.next → ((k : ℕ) → first ≤ k → k < behind → first' ≤ k)
      → IsWorkshop before seats most began left' given first' (t.carried.event.0 + 1) false now
  shop_picked_turn t p left' first' one_left low covers =
      let lends = p.2 in
      subst (λ n. IsWorkshop before seats most began left' given first' (n + 1) false now) (sym lends.named)
      (shop_lent before seats most began left given first behind untouched old now h p.0 budget seat left' first' t lends above one_left low covers)

-- ---- the lists of seats hold only what workers do
added_work : (e : Event) (old now : List code.Event) (added : code.Event) → event_of added ≡ e → is_work e.act ≡ true → now ≡ old ++ added ∷ [] → AreWork (map event_of old) → AreWork (map event_of now)
added_work e old now added is work grows all =
    subst (λ (es : List code.Event). AreWork (map event_of es)) (sym grows)
    (subst AreWork (sym (map-append event_of old (added ∷ []))) (All-push (λ (x : Event). is_work x.act ≡ true) (map event_of old) (event_of added) all (ap (λ (x : Event). is_work x.act) is ∙ work)))

pub picked_work : (p : Pick) (old now : Held) → Picked p old now → AreWork (events_of old.deeds) → AreWork (events_of now.deeds)
picked_work pick.Nothing old now is all = subst (λ (x : Held). AreWork (events_of x.deeds)) (sym is) all
picked_work (pick.Moved e) old now (m, adds) all =
    added_work (record { name = e; act = act_of m }) old.deeds.events now.deeds.events adds.added adds.event (move_is_work m) (ap (λ (x : Held). x.deeds.events) adds.seat) all
picked_work (pick.Turn t) old now (same, is) all = subst (λ (x : Held). AreWork (events_of x.deeds)) (sym is) all

pub given_work : (r : Ran) (old now : Held) → Returns (turn_of r) old now → AreWork (events_of old.deeds) → AreWork (events_of now.deeds)
given_work r old now returns all = added_work (turn_of r) old.deeds.events now.deeds.events returns.added returns.event refl (ap (λ (x : Held). x.deeds.events) returns.seat) all

pub refused_work : (f : BookFault) (n : EventName) (old now : Held) → now ≡ refused f n old → AreWork (events_of old.deeds) → AreWork (events_of now.deeds)
refused_work fault.Stale n old now is all = subst (λ (x : Held). AreWork (events_of x.deeds)) (sym is) all
refused_work _ n old now is all = subst (λ (x : Held). AreWork (events_of x.deeds)) (sym is) all

pub closed_work : (n : EventName) (old now : Held) → now ≡ held old (Closes n) → AreWork (events_of old.deeds) → AreWork (events_of now.deeds)
closed_work n old now is all = subst (λ (x : Held). AreWork (events_of x.deeds)) (sym is) all

-- ---- of either answer of a call
pub if_ok : {A E : Type 0} {P Q : A → Type 0} (r : Result A E) → ((a : A) → P a → Q a) → IfOk r P → IfOk r Q
if_ok (Ok a) f h = f a h
if_ok (Err e) f h = tt

pub if_err : {A E : Type 0} {P Q : E → Type 0} (r : Result A E) → ((e : E) → P e → Q e) → IfErr r P → IfErr r Q
if_err (Ok a) f h = tt
if_err (Err e) f h = f e h

pub checked_out_work : (r : Result Pick BookFault) (old now : Held) → IfOk r (λ p. Picked p old now) → IfErr r (λ f. now ≡ old)
    → AreWork (events_of old.deeds) → AreWork (events_of now.deeds)
checked_out_work (Ok p) old now ok err all = picked_work p old now ok all
checked_out_work (Err f) old now ok err all = subst (λ (x : Held). AreWork (events_of x.deeds)) (sym err) all

pub given_back_work : {A B : Type 0} (fault : B → BookFault) (r : Result A B) (t : Ran) (old now : Held) → IfOk r (λ e. Returns (turn_of t) old now) → IfErr r (λ x. now ≡ refused (fault x) t.carried.event old)
    → AreWork (events_of old.deeds) → AreWork (events_of now.deeds)
given_back_work fault (Ok e) t old now ok err all = given_work t old now ok all
given_back_work fault (Err x) t old now ok err all = refused_work (fault x) t.carried.event old now err all

module _ (before seats most : ℕ) (began : Book) (left given first behind : ℕ) (untouched : Bool) (old now : Book)
    (h : IsWorkshop before seats most began left given first behind untouched old) where
  pub shop_abandoned : (n : EventName) (seat : ℕ) (r : Result (Option EventName) BookFault)
      → IfOk r (λ o. Obeys (instruction.Abandon n) seat o old now) → IfErr r (λ f. now ≡ old) → IsWorkshop before seats most began left given first behind false now
  shop_abandoned n seat (Ok (Some e)) ok err = absurd ok
  shop_abandoned n seat (Ok None) ok err = shop_let_go before seats most began left given first behind untouched old now h n ok.1
  shop_abandoned n seat (Err f) ok err = shop_touched before seats most began left given first behind untouched old now h err
