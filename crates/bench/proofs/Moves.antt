-- What the calls of a book leave of its entries, as seats see them.
use Rattle.std.proofs.Common.{◌≡◌, ℕ, zero, suc, ◌+◌, ◌<◌, get_or, cond, List, [], ◌∷◌, ◌++◌, length, map, filter, Some, None, Option, Bool, true, false, refl, sym, ap, ◌∙◌, subst, arith, length-append, ◌==◌, IsPermutation}
use Rattle.std.specs.Prelude.{◌^◌, slice_get, option_map, Result, Ok, Err, OnOk, OnErr, IfErr}
use Rattle.std.proofs.lemmas.List.{length-map}
use Rattle.std.proofs.lemmas.List.Sorted.{IsPermutation-refl, IsPermutation-cons, IsPermutation-middle}
use Rattle.std.proofs.lemmas.Option.{slice_get-map}
use Rattle.ids.specs.declared.names.EventName.{EventName}
use Rattle.world_cells.specs.Events.{Act, birth, ask, Noted, event_in, with_notes}
use Rattle.kernele.specs.View.{program_of}
use Rattle.world_cells.specs.EventView.{event_of}
use Rattle.event.specs.Events.{Foot, birth_foot, ask_foot}
use Rattle.book_agenda.specs.declared.agenda.Move.{Move}
use Rattle.book_agenda.specs.declared.agenda.Move.TheVariants as move
use Rattle.journal.specs.Items.{item_of, exchanged}
use Rattle.journal.specs.Journals.{items_in, settled_item}
use Rattle.journal.specs.Lines.{Line, line_of, lines_of, in_order}
use Rattle.journal.specs.declared.settled.Settled.{Settled}
use Rattle.journal.proofs.Settling.{item_behind}
use Rattle.journal.specs.declared.entry.Entry as code
use Rattle.desk.specs.Desks.{Lent, without, is_out}
use Rattle.undo.specs.OpenView.{opens}
use Rattle.undo.specs.CoreView.{items_of}
use Rattle.book_refusals.specs.Checks.{exchange_refusal}
use Rattle.book_refusals.specs.declared.fault.BookFault.{BookFault}
use Rattle.book_refusals.specs.declared.fault.BookFault.TheVariants.{NoTicket}
use Rattle.book.specs.Books.{Book}
use Rattle.book.specs.BookView.{book_of}
use Rattle.book.specs.declared.book.Book as code-book
use Rattle.book.specs.Calls.{Enters, Undoes, Redoes, Exchanges, act_of, undone, redone}
use Rattle.book.specs.Requests.{EntersRequest}
use Rattle.book.specs.declared.request.Request.{Request}
use Rattle.book.specs.declared.request.Request.TheVariants as request
use Rattle.book.proofs.TicketsOut.{not_out}
use Rattle.bench_pact.specs.declared.TokenView.{TokenView}
use Rattle.bench_pact.specs.declared.Deeds.{Deeds}
use Rattle.bench_pact.specs.Agree.{after, knower}
use Rattle.std.specs.Prelude.{slice_set}
use Rattle.bench.specs.declared.instruction.Instruction.{Instruction}
use Rattle.bench.specs.declared.instruction.Instruction.TheVariants as instruction
use Rattle.book.specs.Entered.{Entered, entered_in}
use Rattle.book_crew.specs.Work.{is_turn}
use Rattle.bench.specs.Seats.{events_by}
use Rattle.bench.specs.SharedBook.{IsSharedBook}
use Rattle.bench.specs.Author.{IsRequested, EntersAct, Marks, EntersNone, Refuses, instruction_refusal, mark_of}
use Rattle.bench.proofs.Agrees.{entry, Grows, grown, Rests, rests_same, shared_rested, shared_closed}

-- ---- an event is entered
pub grows : (e : Noted) (f : Foot) (seat : ℕ) (old now : Book) → Enters e f seat old now → Grows (record { seat = seat; event = event_in e }) old now
grows e f seat old now h = grown old now h.line (record { seat = seat; event = event_in e }) h.entered (λ i. record { seat = h.tells.same_seat i; event = event_in (h.tells.event i) })

pub grows_act : (e : EventName) (act : Act) (seat : ℕ) (old now : Book) → EntersAct e act seat old now → Grows (record { seat = seat; event = record { name = e; act = act } }) old now
grows_act e act seat old now h = grows (with_notes (record { name = e; act = act }) []) h.foot seat old now h.enters.enters

-- what is asked for is entered as an event of this act
pub record Requested (r : Request) (e : EventName) (seat : ℕ) (old now : Book) : Type 0 where
  pub act : Act
  pub of_request : IsRequested r act
  pub enters : EntersAct e act seat old now

pub requested : (r : Request) (e : EventName) (seat : ℕ) (old now : Book) → EntersRequest r seat e old now → Requested r e seat old now
requested (request.Birth x earlier script) e seat old now h = record {
  act = birth x earlier.items (program_of script);
  of_request = refl;
  enters = record { foot = birth_foot e x earlier.items h.1.0 (program_of script); enters = h.1.1 };
}
requested (request.Ask x program) e seat old now h = record {
  act = ask x (program_of program);
  of_request = refl;
  enters = record { foot = ask_foot e x h.1.0 (program_of program); enters = h.1.1 };
}
requested (request.Move m) e seat old now h = record { act = act_of m; of_request = refl; enters = record { foot = h.1.0; enters = h.1.1 } }

pub move_no_turn : (m : Move) → is_turn (act_of m) ≡ false
move_no_turn (move.Arrive m) = refl
move_no_turn (move.Forward m) = refl
move_no_turn (move.Learn v p) = refl

pub request_no_turn : (r : Request) (act : Act) → IsRequested r act → is_turn act ≡ false
request_no_turn (request.Birth x earlier script) act h = ap is_turn h
request_no_turn (request.Ask x program) act h = ap is_turn h
request_no_turn (request.Move m) act h = ap is_turn h ∙ move_no_turn m

-- ---- no event is entered
rests_alike : (old now : Book) → entered_in now.journal ≡ entered_in old.journal → Rests old now
rests_alike old now is = record {
  each = λ s. subst (λ (xs : List Entered). IsPermutation (events_by s xs) (events_by s (entered_in old.journal))) (sym is) (IsPermutation-refl (events_by s (entered_in old.journal)));
  all = subst (λ (xs : List Entered). IsPermutation xs (entered_in old.journal)) (sym is) (IsPermutation-refl (entered_in old.journal));
  same_length = sym (length-map now.journal entry) ∙ ap length is ∙ length-map old.journal entry;
}

alike : (f : Line → Line) → ((l : Line) → entry (f l) ≡ entry l) → (lines : List Line) → entered_in (map f lines) ≡ entered_in lines
alike f same [] = refl
alike f same (l ∷ ls) = λ i. same l i ∷ alike f same ls i

rests_undone : (names : List EventName) (old now : Book) → Undoes names old now → Rests old now
rests_undone names old now h = rests_alike old now (ap entered_in h.marked ∙ alike (undone names) (λ l. refl) old.journal)

rests_redone : (names : List EventName) (old now : Book) → Redoes names old now → Rests old now
rests_redone names old now h = rests_alike old now (ap entered_in h.marked ∙ alike (redone names) (λ l. refl) old.journal)

-- neighbours change places
front : (x y : Entered) (xs : List Entered) (b c : Bool)
    → IsPermutation (map (λ e. e.event) (cond b (x ∷ cond c (y ∷ xs) xs) (cond c (y ∷ xs) xs))) (map (λ e. e.event) (cond c (y ∷ cond b (x ∷ xs) xs) (cond b (x ∷ xs) xs)))
front x y xs true true = IsPermutation-middle (x.event ∷ []) y.event (map (λ e. e.event) xs)
front x y xs true false = IsPermutation-refl (x.event ∷ map (λ e. e.event) xs)
front x y xs false true = IsPermutation-refl (y.event ∷ map (λ e. e.event) xs)
front x y xs false false = IsPermutation-refl (map (λ e. e.event) xs)

behind : (x : Entered) (xs ys : List Entered) (b : Bool) → IsPermutation (map (λ e. e.event) xs) (map (λ e. e.event) ys) → IsPermutation (map (λ e. e.event) (cond b (x ∷ xs) xs)) (map (λ e. e.event) (cond b (x ∷ ys) ys))
behind x xs ys true h = IsPermutation-cons x.event (map (λ e. e.event) xs) (map (λ e. e.event) ys) h
behind x xs ys false h = h

exchanged_each : (s n : ℕ) (xs : List Entered) → IsPermutation (events_by s (exchanged n xs)) (events_by s xs)
exchanged_each s n [] = IsPermutation-refl []
exchanged_each s n (b ∷ []) = IsPermutation-refl (events_by s (b ∷ []))
exchanged_each s zero (b ∷ a ∷ xs) = front a b (filter (λ e. e.seat == s) xs) (a.seat == s) (b.seat == s)
exchanged_each s (suc n) (b ∷ a ∷ xs) = behind b (filter (λ e. e.seat == s) (exchanged n (a ∷ xs))) (filter (λ e. e.seat == s) (a ∷ xs)) (b.seat == s) (exchanged_each s n (a ∷ xs))

exchanged_all : (n : ℕ) (xs : List Entered) → IsPermutation (exchanged n xs) xs
exchanged_all n [] = IsPermutation-refl []
exchanged_all n (b ∷ []) = IsPermutation-refl (b ∷ [])
exchanged_all zero (b ∷ a ∷ xs) = IsPermutation-middle (a ∷ []) b xs
exchanged_all (suc n) (b ∷ a ∷ xs) = IsPermutation-cons b (exchanged n (a ∷ xs)) (a ∷ xs) (exchanged_all n (a ∷ xs))

exchanged_entries : (n : ℕ) (lines : List Line) → entered_in (exchanged n lines) ≡ exchanged n (entered_in lines)
exchanged_entries n [] = refl
exchanged_entries n (b ∷ []) = refl
exchanged_entries zero (b ∷ a ∷ ls) = refl
exchanged_entries (suc n) (b ∷ a ∷ ls) = ap (λ xs. entry b ∷ xs) (exchanged_entries n (a ∷ ls))

exchanged_length : (n : ℕ) (xs : List Line) → length (exchanged n xs) ≡ length xs
exchanged_length n [] = refl
exchanged_length n (b ∷ []) = refl
exchanged_length zero (b ∷ a ∷ xs) = refl
exchanged_length (suc n) (b ∷ a ∷ xs) = ap suc (exchanged_length n (a ∷ xs))

rests_moved : (n : ℕ) (old now : Book) → now.journal ≡ map (in_order (exchanged n old.journal)) (exchanged n old.journal) → Rests old now
rests_moved n old now is =
    let moved = exchanged n old.journal in
    let same : entered_in now.journal ≡ exchanged n (entered_in old.journal) = ap entered_in is ∙ alike (in_order moved) (λ l. refl) moved ∙ exchanged_entries n old.journal in record {
      each = λ s. subst (λ (xs : List Entered). IsPermutation (events_by s xs) (events_by s (entered_in old.journal))) (sym same) (exchanged_each s n (entered_in old.journal));
      all = subst (λ (xs : List Entered). IsPermutation xs (entered_in old.journal)) (sym same) (exchanged_all n (entered_in old.journal));
      same_length = ap length is ∙ length-map moved (in_order moved) ∙ exchanged_length n old.journal;
    }

rests_exchanged : (position : ℕ) (old now : Book) → exchange_refusal old.settled old.journal position ≡ None → Exchanges position old now → Rests old now
rests_exchanged zero old now accepted h = absurd (cc)
rests_exchanged (suc n) old now accepted h = rests_moved n old now (h.places n (omega arith))

-- ---- what lies under the lock, after an instruction that enters no event, or one that is refused
pub marked : (c : Instruction) (first made place : ℕ) (began : List Entered) (v w : TokenView) (old now : Book) (d : Deeds)
    → IsSharedBook first made began v old → slice_get v.all place ≡ Some d → instruction_refusal c old ≡ None → Marks c old now → w ≡ knower (slice_set v.all place (after (mark_of c) d))
    → IsSharedBook first made began w now × Rests old now
marked (instruction.Abandon n) first made place began v w old now d h at accepted m is =
    let rests = rests_same old now (ap (λ b. b.journal) m) in
    (shared_closed first made place began v w old now d h at rests n (ap (λ b. b.out) m) is, rests)
marked (instruction.Undo names) first made place began v w old now d h at accepted m is =
    let rests = rests_undone names.items old now m in
    (shared_rested first made place began v w old now d h at rests m.same_out is, rests)
marked (instruction.Redo names) first made place began v w old now d h at accepted m is =
    let rests = rests_redone names.items old now m in
    (shared_rested first made place began v w old now d h at rests m.same_out is, rests)
marked (instruction.Exchange position) first made place began v w old now d h at accepted m is =
    let rests = rests_exchanged position old now accepted m in
    (shared_rested first made place began v w old now d h at rests m.same_out is, rests)
marked _ first made place began v w old now d h at accepted m is = absurd m

pub refused_marked : (c : Instruction) (fault : BookFault) (first made place : ℕ) (began : List Entered) (v w : TokenView) (old now : Book) (d : Deeds)
    → IsSharedBook first made began v old → slice_get v.all place ≡ Some d → Refuses c old fault → now ≡ old → w ≡ knower (slice_set v.all place (after (mark_of c) d))
    → IsSharedBook first made began w now × Rests old now
refused_marked (instruction.Abandon n) fault first made place began v w old now d h at refused same is =
    let rests = rests_same old now (ap (λ b. b.journal) same) in
    (shared_closed first made place began v w old now d h at rests n (ap (λ b. b.out) same ∙ sym (not_out n old.out refused.1)) is, rests)
refused_marked (instruction.Enter r) fault first made place began v w old now d h at refused same is = let rests = rests_same old now (ap (λ b. b.journal) same) in (shared_rested first made place began v w old now d h at rests (ap (λ b. b.out) same) is, rests)
refused_marked (instruction.Undo names) fault first made place began v w old now d h at refused same is = let rests = rests_same old now (ap (λ b. b.journal) same) in (shared_rested first made place began v w old now d h at rests (ap (λ b. b.out) same) is, rests)
refused_marked (instruction.Redo names) fault first made place began v w old now d h at refused same is = let rests = rests_same old now (ap (λ b. b.journal) same) in (shared_rested first made place began v w old now d h at rests (ap (λ b. b.out) same) is, rests)
refused_marked (instruction.Exchange position) fault first made place began v w old now d h at refused same is = let rests = rests_same old now (ap (λ b. b.journal) same) in (shared_rested first made place began v w old now d h at rests (ap (λ b. b.out) same) is, rests)

pub none_entered : (c : Instruction) (old now : Book) → Marks c old now → EntersNone c
none_entered (instruction.Abandon n) old now m = tt
none_entered (instruction.Undo names) old now m = tt
none_entered (instruction.Redo names) old now m = tt
none_entered (instruction.Exchange position) old now m = tt
none_entered _ old now m = absurd m

-- ---- the event of the last entry
abbrev pub from_some : {A : Type 0} → Option A → A → A
from_some (Some x) d = x
from_some None d = d

pub items_length : (ss : List Settled) (es : List code.Entry) → length (items_in ss es) ≡ length ss + length es
items_length ss es = let a = length-append (map settled_item ss) (map item_of es) in let b = length-map ss settled_item in let c = length-map es item_of in omega (arith, a, b, c)

at_last : {A : Type 0} (xs : List A) (x : A) → slice_get (xs ++ x ∷ []) (length xs) ≡ Some x
at_last [] x = refl
at_last (y ∷ ys) x = at_last ys x

pub last_entered : (ss : List Settled) (es : List code.Entry) (k : ℕ) (x : code.Entry) (lines : List Line) (before : List Entered) (e : Entered)
    → lines_of (items_in ss es) ≡ lines → x ≡ get_or es k x → length es ≡ k + 1 → entered_in lines ≡ before ++ e ∷ [] → event_of x.event ≡ e.event
last_entered ss es k x lines before e same at long is =
    let items = items_in ss es in
    let p = length ss + k in
    let there : slice_get items p ≡ Some (item_of x) = item_behind ss es p k x refl (omega (arith, long)) ∙ ap (λ (z : code.Entry). Some (item_of z)) (sym at) in
    let found : slice_get (entered_in lines) p ≡ Some (entry (line_of items (item_of x))) =
    ap (λ ls. slice_get (entered_in ls) p) (sym same) ∙ slice_get-map entry (lines_of items) p ∙ ap (option_map entry) (slice_get-map (line_of items) items p ∙ ap (option_map (line_of items)) there) in
    let a = length-map lines entry in
    let b = ap length same in
    let c = length-map items (line_of items) in
    let d = items_length ss es in
    let l = ap length is in
    let m = length-append before (e ∷ []) in
    let place : length before ≡ p = omega (arith, a, b, c, d, l, m, long) in
    let last : slice_get (entered_in lines) p ≡ Some e = ap (λ xs. slice_get xs p) is ∙ ap (λ j. slice_get (before ++ e ∷ []) j) (sym place) ∙ at_last before e in
    ap (λ o. (from_some o e).event) (sym found ∙ last)

-- ---- what is settled of a journal, and how long it may be
lines_in : (b : code-book.Book) → length (book_of b).journal ≡ length b.core.settled.items + length (opens b.core.entries)
lines_in b = length-map (items_of b.core) (line_of (items_of b.core)) ∙ items_length b.core.settled.items (opens b.core.entries)

pub journal_within : (b : code-book.Book) → length (book_of b).journal + 1 < 2 ^ 64
journal_within b =
    let h = b.within in
    let l = length-map (items_of b.core) (line_of (items_of b.core)) in
    let s = b.core.settled in
    let len = s.ok.0 in
    let cap = s.ok.1 in
    let small = s.small in
    let half : 9223372036854775808 ≡ 2 ^ 63 = refl in
    let whole : 18446744073709551616 ≡ 2 ^ 64 = refl in
    omega (arith, h, l, len, cap, small, half, whole)

-- behind what is settled there is an entry, where one was entered
pub one_open : {e : Entered} (b : code-book.Book) (now : Book) → Grows e (book_of b) now → now.settled ≡ (book_of b).settled → now.settled < length now.journal
one_open b now grows same = let l = lines_in b in let m = grows.more in omega (arith, l, m, same)

-- ---- a ticket is abandoned, whether or not it was out
pub let_go : {T : Type 0} (r : Result T BookFault) (n : EventName) (old now : Book) → OnOk r (now ≡ record old { out = without n old.out }) → OnErr r (now ≡ old)
    → IfErr r (λ f. (f ≡ NoTicket) × (is_out n old.out ≡ false)) → now ≡ record old { out = without n old.out }
let_go (Ok x) n old now gone same err = gone
let_go (Err f) n old now gone same err = same ∙ ap (λ (o : List Lent). record old { out = o }) (sym (not_out n old.out err.1))
