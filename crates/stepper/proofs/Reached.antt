-- What holds of the books that answers lead to from the blank one: events have names of their own, and events with such names led to the world.
use Rattle.std.proofs.Common.{◌≡◌, ℕ, zero, suc, ◌+◌, ◌<◌, Bool, true, false, cond, List, [], ◌∷◌, ◌++◌, map, filter, reverse, None, sym, ap, subst, ◌∙◌, add-one, arith}
use Rattle.std.specs.Prelude.{◌≢◌, Option, Result}
use Rattle.std.specs.List.{AllByRecursion}
use Rattle.std.proofs.Math.Logic.{∥∥₁_elim, ∥∥₁_map, ∥∥₁_prop}
use Rattle.std.proofs.Props.{props}
use Rattle.std.proofs.lemmas.List.{reverse-append, map-append}
use Rattle.history.specs.Subject.{Run, run_none, run_more}
use Rattle.history.proofs.Lists.{all_map, all_append, all_reversed}
use Rattle.ids.specs.declared.names.EventName.{EventName}
use Rattle.kernele.specs.Tree.{Name}
use Rattle.world_cells.specs.Events.{Event, Noted, event_in}
use Rattle.world_cells.specs.World.{World, empty}
use Rattle.event.specs.Events.{Foot, events}
use Rattle.event.specs.Runs.{PlainRun}
use Rattle.event_ordering.specs.Theorems.{HaveOwnNames}
use Rattle.journal.specs.Items.{exchanged}
use Rattle.journal.specs.Lines.{Line, in_order}
use Rattle.journal.proofs.Reversed.{map-map}
use Rattle.journal.proofs.Neighbouring.{map-exchanged}
use Rattle.book_agenda.specs.declared.agenda.Step.{Step}
use Rattle.book_refusals.specs.Checks.{exchange_refusal}
use Rattle.book.specs.Books.{Book, blank}
use Rattle.book.specs.Good.{NamesVatsOnce}
use Rattle.book.specs.Calls.{Enters, EntersNext, undone, redone, redone_in, Undoes, Redoes, Exchanges}
use Rattle.stepper_commands.specs.Commands.{Spelled}
use Rattle.stepper_commands.specs.declared.command.LineFault.{LineFault}
use Rattle.stepper.specs.Replies.{Moves, move_without_memory, move_refused, move_made, turn_without_memory_named, turn_refused, turns, Steps, step_done, step_refused, step_idle, step_without_memory, Runs, runs_out, runs_on, runs_last, Answers, arrive_moves, forward_moves, turn_moves, learn_without_memory, learn_refused, learn_accepted, stepped, runs, worked, work_refused, enabled_without_memory, enabled, ask_without_memory, asked_without_memory, asked_unread, ask_refused, ask_accepted, show_without_memory, shown, journal_without_memory, listed, log_without_memory, logged, cone_without_memory, cone_refused, cone_found, undo_without_memory, undo_refused, undo_accepted, undo_cone_without_memory, undo_cone_refused, undo_cone_found, redo_without_memory, redo_refused, redo_accepted, exchange_refused, exchange_accepted, settle_without_memory, settle_refused, settle_accepted, why_without_memory, why_refused, why_told, event_without_memory, event_refused, event_told, message_without_memory, message_refused, message_told, object_without_memory, object_refused, object_told, AnswersBirth, birth_without_memory, script_without_memory, script_refused, script_unread, birth_refused, birth_accepted, FirstReply, skipped, no_command, born, answered}
use Rattle.stepper.specs.Laws.{IsTold, IsToldLine}
use Rattle.stepper.proofs.VatNames.{run_names_vats_once}
use Rattle.stepper.specs.declared.engine.Limits.{Limits}

-- the numbers of events
abbrev numbers : List Line → List ℕ
numbers ls = map (λ l. l.entry.event.name.0) ls

-- no two numbers are one
abbrev Apart : List ℕ → Type 0
Apart [] = Unit {0}
Apart (n ∷ ns) = AllByRecursion (λ m. m ≢ n) ns × Apart ns

-- events with names of their own, which were drawn, led to a world
record Led (next : ℕ) (w : World) : Type 0 where
  events_of : List Event
  own : HaveOwnNames events_of
  drawn : AllByRecursion (λ e. e.name.0 < next) events_of
  run : Run events empty events_of w

pub record Reached (b : Book) : Type 0 where
  apart : Apart (numbers b.journal)
  drawn : AllByRecursion (λ n. n < b.next) (numbers b.journal)
  led : ∥ Led b.next b.world ∥₁

pub blank_reached : Reached blank
blank_reached = record { apart = tt; drawn = tt; led = ∣ record { events_of = []; own = tt; drawn = tt; run = run_none } ∣₁ }

names_set : IsSet Name
names_set = hlevel props

pub reached_once : {b : Book} → Reached b → NamesVatsOnce b.world
reached_once r x y u v h k same = ∥∥₁_elim r.led (names_set y x) (λ l. run_names_vats_once l.events_of l.own l.run x y u v h k same)

-- ---- a name is drawn

later : (next : ℕ) (ns : List ℕ) → AllByRecursion (λ n. n < next) ns → AllByRecursion (λ n. n < next + 1) ns
later next ns h = all_map _ _ ns (λ n lt. omega (arith, lt)) h

led_later : {next : ℕ} {w : World} → Led next w → Led (next + 1) w
led_later {next = next} l = record { events_of = l.events_of; own = l.own; drawn = all_map _ (λ e. e.name.0 < next + 1) l.events_of (λ e lt. omega (arith, lt)) l.drawn; run = l.run }

reached_named : {b : Book} → Reached b → Reached (record b { next = b.next + 1 })
reached_named {b = b} r = record { apart = r.apart; drawn = later b.next (numbers b.journal) r.drawn; led = ∥∥₁_map r.led (λ l. led_later l) }

-- ---- an event is entered

apart_push : (ns : List ℕ) (n : ℕ) → Apart ns → AllByRecursion (λ m. m < n) ns → Apart (ns ++ n ∷ [])
apart_push [] n h below = (tt, tt)
apart_push (m ∷ ns) n h below = (all_append _ ns (n ∷ []) h.0 ((λ same. omega (arith, below.0, same)), tt), apart_push ns n h.1 below.1)

other_name : (d e : Event) (next : ℕ) → e.name.0 ≡ next → d.name.0 < next → d.name ≡ e.name → ⊥
other_name d e next named lt same = let one : d.name.0 ≡ e.name.0 = (λ i. (same i).0) in omega (arith, named, lt, one)

-- by the name that comes next
module _ {e : Noted} {f : Foot} {seat : ℕ} {old now : Book} (r : Reached old) (named : e.name.0 ≡ old.next) (next : now.next ≡ old.next + 1) (h : Enters e f seat old now) where
  numbers_now : numbers now.journal ≡ numbers old.journal ++ old.next ∷ []
  numbers_now =
      ap numbers h.entered ∙ map-append (λ (l : Line). l.entry.event.name.0) old.journal (h.line ∷ [])
      ∙ ap (λ n. numbers old.journal ++ n ∷ []) (ap (λ (n : Noted). n.name.0) h.tells.event ∙ named)

  led_now : Led old.next old.world → ∥ Led now.next now.world ∥₁
  led_now l = ∥∥₁_map h.does (λ d. record {
    events_of = event_in e ∷ l.events_of;
    own = (all_map _ _ l.events_of (λ d lt. other_name d (event_in e) old.next named lt) l.drawn, l.own);
    drawn = ((omega (arith, named, next)), all_map _ (λ d. d.name.0 < now.next) l.events_of (λ d lt. omega (arith, next, lt)) l.drawn);
    run = subst (λ (w : World). Run events empty (event_in e ∷ l.events_of) w) (sym h.step) (run_more l.run d.0);
  })

  reached_entered : Reached now
  reached_entered = record {
    apart = subst Apart (sym numbers_now) (apart_push (numbers old.journal) old.next r.apart r.drawn);
    drawn = subst (AllByRecursion (λ n. n < now.next)) (sym numbers_now)
        (all_append _ (numbers old.journal) (old.next ∷ []) (all_map _ (λ n. n < now.next) (numbers old.journal) (λ n lt. omega (arith, next, lt)) r.drawn) ((omega (arith, next)), tt));
    led = ∥∥₁_elim r.led ∥∥₁_prop led_now;
  }

reached_next : {e : Event} {f : Foot} {seat : ℕ} {old now : Book} → Reached old → EntersNext e f seat old now → Reached now
reached_next r h = reached_entered r h.named h.drawn h.enters

-- ---- other events are live

-- what holds of all numbers of lines holds of the events of some of them
of_some : (P : ℕ → Type 0) (Q : Event → Type 0) (test : Line → Bool) → ((l : Line) → P l.entry.event.name.0 → Q (event_in l.entry.event)) → (ls : List Line) → AllByRecursion P (numbers ls) → AllByRecursion Q (map (λ l. event_in l.entry.event) (filter test ls))
of_some P Q test one [] h = tt
of_some P Q test one (l ∷ ls) h = by (test l) (of_some P Q test one ls h.1)
  where
    by : (b : Bool) → AllByRecursion Q (map (λ l. event_in l.entry.event) (filter test ls)) → AllByRecursion Q (map (λ l. event_in l.entry.event) (cond b (l ∷ filter test ls) (filter test ls)))
    by true k = (one l h.0, k)
    by false k = k

own_some : (test : Line → Bool) (ls : List Line) → Apart (numbers ls) → HaveOwnNames (map (λ l. event_in l.entry.event) (filter test ls))
own_some test [] h = tt
own_some test (l ∷ ls) h = by (test l) (own_some test ls h.1)
  where
    by : (b : Bool) → HaveOwnNames (map (λ l. event_in l.entry.event) (filter test ls)) → HaveOwnNames (map (λ l. event_in l.entry.event) (cond b (l ∷ filter test ls) (filter test ls)))
    by true k = (of_some (λ m. m ≢ l.entry.event.name.0) (λ d. d.name ≡ l.entry.event.name → ⊥) test (λ x differ same. differ (λ i. (same i).0)) ls h.0, k)
    by false k = k

own_push : (es : List Event) (e : Event) → HaveOwnNames es → AllByRecursion (λ d. d.name ≡ e.name → ⊥) es → HaveOwnNames (es ++ e ∷ [])
own_push [] e h k = (tt, tt)
own_push (d ∷ es) e h k = (all_append _ es (e ∷ []) h.0 ((λ same. k.0 (sym same)), tt), own_push es e h.1 k.1)

own_reversed : (es : List Event) → HaveOwnNames es → HaveOwnNames (reverse es)
own_reversed [] h = tt
own_reversed (e ∷ es) h = subst HaveOwnNames (sym (reverse-append (e ∷ []) es)) (own_push (reverse es) e (own_reversed es h.1) (all_reversed _ es h.0))

-- a world to which some events of lines led, whose numbers are those of the book
led_by : (next : ℕ) (test : Line → Bool) (ls : List Line) (w : World) → Apart (numbers ls) → AllByRecursion (λ n. n < next) (numbers ls) → PlainRun (map (λ l. event_in l.entry.event) (filter test ls)) w → ∥ Led next w ∥₁
led_by next test ls w apart drawn run = ∥∥₁_map run (λ r. record {
  events_of = reverse (map (λ l. event_in l.entry.event) (filter test ls));
  own = own_reversed _ (own_some test ls apart);
  drawn = all_reversed _ _ (of_some (λ n. n < next) (λ e. e.name.0 < next) test (λ l lt. lt) ls drawn);
  run = r;
})

reached_undone : {names : List EventName} {old now : Book} → Reached old → Undoes names old now → Reached now
reached_undone {names = names} {old = old} {now = now} r h =
    let same : numbers now.journal ≡ numbers old.journal = ap numbers h.marked ∙ map-map (λ (l : Line). l.entry.event.name.0) (undone names) old.journal in
    let drawn : AllByRecursion (λ n. n < now.next) (numbers old.journal) = subst (λ next. AllByRecursion (λ n. n < next) (numbers old.journal)) (sym h.same_next) r.drawn in
    record {
      apart = subst Apart (sym same) r.apart;
      drawn = subst (AllByRecursion (λ n. n < now.next)) (sym same) drawn;
      led = led_by now.next _ old.journal now.world r.apart drawn h.rest;
    }

reached_redone : {names : List EventName} {old now : Book} → Reached old → Redoes names old now → Reached now
reached_redone {names = names} {old = old} {now = now} r h =
    let marked : numbers (redone_in names old.journal) ≡ numbers old.journal = map-map (λ (l : Line). l.entry.event.name.0) (redone names) old.journal in
    let apart : Apart (numbers (redone_in names old.journal)) = subst Apart (sym marked) r.apart in
    let drawn : AllByRecursion (λ n. n < now.next) (numbers (redone_in names old.journal))
    = subst (λ (z : ℕ × List ℕ). AllByRecursion (λ n. n < z.0) z.1) (λ i. (sym h.same_next i, sym marked i)) r.drawn in
    record {
      apart = subst (λ (ls : List Line). Apart (numbers ls)) (sym h.marked) apart;
      drawn = subst (λ (ls : List Line). AllByRecursion (λ n. n < now.next) (numbers ls)) (sym h.marked) drawn;
      led = led_by now.next _ (redone_in names old.journal) now.world apart drawn h.run;
    }

-- ---- events change places

all_exchanged : (P : ℕ → Type 0) (n : ℕ) (ns : List ℕ) → AllByRecursion P ns → AllByRecursion P (exchanged n ns)
all_exchanged P n [] h = h
all_exchanged P n (b ∷ []) h = h
all_exchanged P zero (b ∷ a ∷ ns) h = (h.1.0, (h.0, h.1.1))
all_exchanged P (suc n) (b ∷ a ∷ ns) h = (h.0, all_exchanged P n (a ∷ ns) h.1)

apart_exchanged : (n : ℕ) (ns : List ℕ) → Apart ns → Apart (exchanged n ns)
apart_exchanged n [] h = h
apart_exchanged n (b ∷ []) h = h
apart_exchanged zero (b ∷ a ∷ ns) h = (((λ same. h.0.0 (sym same)), h.1.0), (h.0.1, h.1.1))
apart_exchanged (suc n) (b ∷ a ∷ ns) h = (all_exchanged (λ m. m ≢ b) n (a ∷ ns) h.0, apart_exchanged n (a ∷ ns) h.1)

reached_exchanged : {old now : Book} (position : ℕ) → Reached old → exchange_refusal old.settled old.journal position ≡ None → Exchanges position old now → Reached now
reached_exchanged zero r none h = absurd (cc)
reached_exchanged {old = old} {now = now} (suc n) r none h =
    let same : numbers now.journal ≡ exchanged n (numbers old.journal) =
    ap numbers (h.places n (sym (add-one n))) ∙ map-map (λ (l : Line). l.entry.event.name.0) (in_order (exchanged n old.journal)) (exchanged n old.journal) ∙ map-exchanged (λ (l : Line). l.entry.event.name.0) n old.journal in
    record {
      apart = subst Apart (sym same) (apart_exchanged n (numbers old.journal) r.apart);
      drawn = subst (λ (z : ℕ × List ℕ). AllByRecursion (λ m. m < z.0) z.1) (λ i. (sym h.same_next i, sym same i)) (all_exchanged (λ m. m < old.next) n (numbers old.journal) r.drawn);
      led = subst (λ (z : ℕ × World). ∥ Led z.0 z.1 ∥₁) (λ i. (sym h.same_next i, sym h.same_world i)) r.led;
    }

-- ---- answers

reached_moved : {limits : Limits} {b d : Book} {s : Step} {reply : List ℕ} {q : Bool} → Reached b → Moves limits b s reply q d → Reached d
reached_moved r move_without_memory = r
reached_moved r (move_refused h) = r
reached_moved r (move_made h x) = reached_next r x
reached_moved r turn_without_memory_named = reached_named r
reached_moved r (turn_refused h) = r
reached_moved r (turns h x) = reached_entered r x.named x.drawn x.enters.enters

reached_stepped : {limits : Limits} {b d : Book} {reply : List ℕ} {q more : Bool} → Reached b → Steps limits b reply q d more → Reached d
reached_stepped r (step_done f h) = reached_moved r h
reached_stepped r (step_refused f h) = reached_moved r h
reached_stepped r (step_idle f) = r
reached_stepped r step_without_memory = r

reached_run : {limits : Limits} {n : ℕ} {b d : Book} {reply : List ℕ} {q : Bool} → Reached b → Runs limits n b reply q d → Reached d
reached_run r runs_out = r
reached_run r (runs_on h hs) = reached_run (reached_stepped r h) hs
reached_run r (runs_last h) = reached_stepped r h

reached_answered : {limits : Limits} {b d : Book} {x : Spelled} {reply : List ℕ} {q : Bool} → Reached b → IsTold x → Answers limits b x reply q d → Reached d
reached_answered r told (arrive_moves h) = reached_moved r h
reached_answered r told (forward_moves h) = reached_moved r h
reached_answered r told (turn_moves h) = reached_moved r h
reached_answered r told learn_without_memory = r
reached_answered r told (learn_refused h) = r
reached_answered r told (learn_accepted h) = reached_next r h.enters
reached_answered r told (stepped h) = reached_stepped r h
reached_answered r told (runs h) = reached_run r h
reached_answered r told (worked h) = absurd told
reached_answered r told (work_refused fault h) = absurd told
reached_answered r told enabled_without_memory = r
reached_answered r told (enabled h x) = r
reached_answered r told ask_without_memory = r
reached_answered r told asked_without_memory = r
reached_answered r told (asked_unread h) = r
reached_answered r told (ask_refused h x) = r
reached_answered r told (ask_accepted h x y) = reached_next r y
reached_answered r told show_without_memory = r
reached_answered r told (shown h) = r
reached_answered r told journal_without_memory = r
reached_answered r told listed = r
reached_answered r told log_without_memory = r
reached_answered r told logged = r
reached_answered r told cone_without_memory = r
reached_answered r told (cone_refused h) = r
reached_answered r told (cone_found h x) = r
reached_answered r told undo_without_memory = r
reached_answered r told (undo_refused h) = r
reached_answered r told (undo_accepted h x) = reached_undone r x
reached_answered r told undo_cone_without_memory = r
reached_answered r told (undo_cone_refused h) = r
reached_answered r told (undo_cone_found h x y) = reached_answered r tt y
reached_answered r told redo_without_memory = r
reached_answered r told (redo_refused h) = r
reached_answered r told (redo_accepted h x) = reached_redone r x
reached_answered r told (exchange_refused h) = r
reached_answered r told (exchange_accepted {position = position} h x y) = reached_exchanged position r h x
reached_answered r told settle_without_memory = r
reached_answered r told (settle_refused h) = r
reached_answered r told (settle_accepted h x) = subst Reached (sym x) (record { apart = r.apart; drawn = r.drawn; led = r.led })
reached_answered r told why_without_memory = r
reached_answered r told (why_refused h) = r
reached_answered r told (why_told h x) = r
reached_answered r told event_without_memory = r
reached_answered r told (event_refused h) = r
reached_answered r told (event_told h x) = r
reached_answered r told message_without_memory = r
reached_answered r told (message_refused h) = r
reached_answered r told (message_told h) = r
reached_answered r told object_without_memory = r
reached_answered r told (object_refused h) = r
reached_answered r told (object_told h) = r

reached_born : {b d : Book} {x : List ℕ} {earlier : List (List ℕ)} {script : Result (List ℕ) LineFault} {reply : List ℕ} {q : Bool} → Reached b → AnswersBirth b x earlier script reply q d → Reached d
reached_born r birth_without_memory = r
reached_born r script_without_memory = r
reached_born r script_refused = r
reached_born r (script_unread h) = r
reached_born r (birth_refused h x) = r
reached_born r (birth_accepted vats h x y) = reached_next r y

pub reached_first : {limits : Limits} {b d : Book} {says : Result (Option Spelled) LineFault} {input rest reply : List ℕ} {q : Bool} → Reached b → IsToldLine says → FirstReply limits b says input reply q d rest → Reached d
reached_first r told skipped = r
reached_first r told no_command = r
reached_first r told (born h) = reached_born r h
reached_first r told (answered h) = reached_answered r told h
