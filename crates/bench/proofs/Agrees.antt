-- What an act of one seat leaves true of all.
use Rattle.std.proofs.Common.{◌≡◌, ◌≢◌, ℕ, zero, suc, ◌+◌, ◌^◌, ◌<◌, ◌≤◌, ◌==◌, ◌||◌, cond, not, List, [], ◌∷◌, ◌++◌, length, map, filter, set, get_or, Some, Bool, true, false, refl, sym, ap, ◌∙◌, subst, ⊎_elim, arith, length-append, All, append-nil, append_assoc, get_or-set_same, get_or-set_other, IsPermutation, sum_by}
use Rattle.std.specs.Prelude.{slice_get}
use Rattle.std.proofs.lemmas.List.{map-append, length-map}
use Rattle.std.proofs.lemmas.List.Elements.{filter-append, All-append}
use Rattle.std.proofs.lemmas.List.Sums.{sum_by-append}
use Rattle.std.proofs.lemmas.List.Folds.{list_any-append}
use Rattle.std.proofs.lemmas.List.Sorted.{IsPermutation-refl, IsPermutation-append_left, IsPermutation-trans, length_permutation}
use Rattle.std.proofs.lemmas.Option.{slice_get_within, get_or_from_slice_get}
use Rattle.std.proofs.lemmas.Bool.{ne_eqb}
use Rattle.std.proofs.lemmas.Bool.Decides.{eqb_tells}
use Rattle.ids.specs.declared.names.EventName.{EventName}
use Rattle.world_cells.specs.Events as events
use Rattle.world_cells.specs.Events.{Event}
use Rattle.world_cells.specs.EventView.{event_of}
use Rattle.world_cells.specs.declared.event.Event as code
use Rattle.history.proofs.Lists.{all_map, all_both, all_append}
use Rattle.journal.specs.Lines.{Line}
use Rattle.desk.specs.Desks.{Lent, without}
use Rattle.book.specs.Books.{Book}
use Rattle.book.proofs.TicketsOut.{all_filter, without_differ}
use Rattle.bench_pact.specs.declared.TokenView.{TokenView}
use Rattle.bench_pact.specs.declared.Deeds.{Deeds}
use Rattle.bench_pact.specs.declared.Act.TheVariants.{Opens, Closes}
use Rattle.bench_pact.specs.Agree.{blank, after, strike, knower}
use Rattle.book.specs.Entered.{Entered, entered_in, IsAmong}
use Rattle.bench.specs.Seats.{events_by}
use Rattle.bench.specs.SharedBook.{Held, events_of, is_among, AreOpen, Answers, Agrees, IsSharedBook}

pub same_test : (a b : ℕ) → a ≡ b → (a == b) ≡ true
same_test a b e = ⊎_elim (λ h. h.0) (λ h. absurd (h.1 e)) (eqb_tells a b)

perm_as : {A : Type 0} (xs xs' ys ys' : List A) → xs ≡ xs' → ys ≡ ys' → IsPermutation xs ys → IsPermutation xs' ys'
perm_as {A = A} xs xs' ys ys' e f h = let P : List A × List A → Type 0 = λ p. IsPermutation p.0 p.1 in subst P (λ i. (e i, f i)) h

-- ---- entries
abbrev pub entry : Line → Entered
entry l = record { seat = l.seat; event = events.event_in l.entry.event }

abbrev event_in : Entered → Event
event_in e = e.event

by_end : (s : ℕ) (xs : List Entered) (e : Entered) → events_by s (xs ++ e ∷ []) ≡ events_by s xs ++ events_by s (e ∷ [])
by_end s xs e = ap (map event_in) (filter-append (λ x. x.seat == s) xs (e ∷ [])) ∙ map-append event_in (filter (λ x. x.seat == s) xs) (filter (λ x. x.seat == s) (e ∷ []))

of_seat : (s : ℕ) (xs : List Entered) (e : Entered) → e.seat ≡ s → events_by s (xs ++ e ∷ []) ≡ events_by s xs ++ e.event ∷ []
of_seat s xs e is = by_end s xs e ∙ ap (λ b. events_by s xs ++ map event_in (cond b (e ∷ []) [])) (same_test e.seat s is)

of_other : (s : ℕ) (xs : List Entered) (e : Entered) → e.seat ≢ s → events_by s (xs ++ e ∷ []) ≡ events_by s xs
of_other s xs e n = by_end s xs e ∙ ap (λ b. events_by s xs ++ map event_in (cond b (e ∷ []) [])) (ne_eqb e.seat s n) ∙ append-nil (events_by s xs)

none_by : (s n : ℕ) (lines : List Line) → All (λ l. l.seat < n) lines → n ≤ s → events_by s (entered_in lines) ≡ []
none_by s n [] all less = refl
none_by s n (l ∷ ls) all less =
    let here : l.seat < n = all 0 l (omega arith) in
    let rest = filter (λ x. x.seat == s) (entered_in ls) in
    ap (λ b. map event_in (cond b (entry l ∷ rest) rest)) (ne_eqb l.seat s (λ is. omega arith)) ∙ none_by s n ls (λ k d h. all (suc k) d (omega arith)) less

-- no seat has more events than there are entries
filter_within : {A : Type 0} (p : A → Bool) (xs : List A) → length (filter p xs) ≤ length xs
filter_within p [] = omega arith
filter_within p (x ∷ xs) = one (p x) (filter_within p xs)
  where
    one : (b : Bool) → length (filter p xs) ≤ length xs → length (cond b (x ∷ filter p xs) (filter p xs)) ≤ suc (length xs)
    one true h = omega arith
    one false h = omega arith

by_within : (s : ℕ) (lines : List Line) → length (events_by s (entered_in lines)) ≤ length lines
by_within s lines =
    let a = length-map (filter (λ x. x.seat == s) (entered_in lines)) event_in in
    let b = filter_within (λ x. x.seat == s) (entered_in lines) in
    let c = length-map lines entry in
    omega (arith, a, b, c)

-- ---- tickets
none_open : (s n : ℕ) (out : List Lent) (ns : List EventName) → All (λ t. t.seat < n) out → n ≤ s → AreOpen s out ns
none_open s n [] ns all less = tt
none_open s n (t ∷ ts) ns all less =
    let here : t.seat < n = all 0 t (omega arith) in
    ((λ is. absurd (omega arith)), none_open s n ts ns (λ k d h. all (suc k) d (omega arith)) less)

among_strike : (k n : EventName) (ns : List EventName) → (k.0 == n.0) ≡ false → is_among k ns ≡ true → is_among k (strike n ns) ≡ true
among_strike k n [] apart h = absurd (cc)
among_strike k n (t ∷ ts) apart h = ⊎_elim same (other (λ r. among_strike k n ts apart r)) (eqb_tells t.0 k.0)
  where
    same : ((t.0 == k.0) ≡ true) × (t.0 ≡ k.0) → is_among k (strike n (t ∷ ts)) ≡ true
    same e =
        let stays : not (t.0 == n.0) ≡ true = ap not (ap (λ m. m == n.0) e.1 ∙ apart) in
        ap (λ c. is_among k (cond c (t ∷ strike n ts) (strike n ts))) stays ∙ ap (λ b. b || is_among k (strike n ts)) e.0

    rest : (t.0 == k.0) ≡ false → is_among k ts ≡ true
    rest e = sym (ap (λ b. b || is_among k ts) e) ∙ h

    pick : (c : Bool) → (t.0 == k.0) ≡ false → is_among k (strike n ts) ≡ true → is_among k (cond c (t ∷ strike n ts) (strike n ts)) ≡ true
    pick true e r = ap (λ b. b || is_among k (strike n ts)) e ∙ r
    pick false e r = r

    other : (is_among k ts ≡ true → is_among k (strike n ts) ≡ true) → ((t.0 == k.0) ≡ false) × (t.0 ≢ k.0) → is_among k (strike n (t ∷ ts)) ≡ true
    other ih e = pick (not (t.0 == n.0)) e.0 (ih (rest e.0))

among_end : (k n : EventName) (ns : List EventName) → is_among k ns ≡ true → is_among k (ns ++ n ∷ []) ≡ true
among_end k n ns h = list_any-append (λ j. j.0 == k.0) ns (n ∷ []) ∙ ap (λ b. b || ((n.0 == k.0) || false)) h

or_true : (b : Bool) → (b || true) ≡ true
or_true true = refl
or_true false = refl

among_last : (n : EventName) (ns : List EventName) → is_among n (ns ++ n ∷ []) ≡ true
among_last n ns = list_any-append (λ j. j.0 == n.0) ns (n ∷ []) ∙ ap (λ c. is_among n ns || (c || false)) (same_test n.0 n.0 refl) ∙ or_true (is_among n ns)

pub open_without : (s : ℕ) (n : EventName) (out : List Lent) (ns : List EventName) → AreOpen s out ns → AreOpen s (without n out) ns
open_without s n out ns h = all_filter _ _ out h

open_strike : (s : ℕ) (n : EventName) (out : List Lent) (ns : List EventName) → AreOpen s out ns → AreOpen s (without n out) (strike n ns)
open_strike s n out ns h =
    all_both _ _ _ (without n out) (λ t f ne is. among_strike t.number n ns (ne_eqb t.number.0 n.0 (λ e. ne (sym e))) (f is)) (all_filter _ _ out h) (without_differ n out)

open_end : (s : ℕ) (n : EventName) (out : List Lent) (ns : List EventName) → AreOpen s out ns → AreOpen s out (ns ++ n ∷ [])
open_end s n out ns h = all_map _ _ out (λ t f is. among_end t.number n ns (f is)) h

-- ---- places, when one of them changes
agrees_set : (first place : ℕ) (old now : Book) (all : List Deeds) (d d' : Deeds)
    → slice_get all place ≡ Some d
    → Agrees first old all
    → (Answers (first + place) d old → Answers (first + place) d' now)
    → ((q : ℕ) (x : Deeds) → first + q ≢ first + place → Answers (first + q) x old → Answers (first + q) x now)
    → Agrees first now (set all place d')
agrees_set first place old now all d d' at h mine others q = ⊎_elim here there (eqb_tells q place)
  where
    was : get_or all place blank ≡ d
    was = get_or_from_slice_get all place d blank at

    here : ((q == place) ≡ true) × (q ≡ place) → Answers (first + q) (get_or (set all place d') q blank) now
    here e =
        let P : ℕ × Deeds → Type 0 = λ x. Answers (first + x.0) x.1 now in
        let is : d' ≡ get_or (set all place d') q blank = sym (ap (λ k. get_or (set all place d') k blank) e.1 ∙ get_or-set_same all place d' blank (slice_get_within all place d at)) in
        subst P (λ i. (sym e.1 i, is i)) (mine (let Q : Deeds → Type 0 = λ x. Answers (first + place) x old in subst Q was (h place)))

    there : ((q == place) ≡ false) × (q ≢ place) → Answers (first + q) (get_or (set all place d') q blank) now
    there e =
        let P : Deeds → Type 0 = λ x. Answers (first + q) x now in
        let n = e.1 in
        subst P (sym (get_or-set_other all place q d' blank n)) (others q (get_or all q blank) (λ f. n (omega arith)) (h q))

length-set : (l : List Deeds) (i : ℕ) (a : Deeds) → length (set l i a) ≡ length l
length-set [] i a = refl
length-set (x ∷ xs) zero a = refl
length-set (x ∷ xs) (suc i) a = ap suc (length-set xs i a)

abbrev Others : ℕ → ℕ → Book → Book → Type 0
Others first place old now = (q : ℕ) (x : Deeds) → first + q ≢ first + place → Answers (first + q) x old → Answers (first + q) x now

shared_act : (first made place : ℕ) (began : List Entered) (v w : TokenView) (old now : Book) (d d' : Deeds)
    → IsSharedBook first made began v old → slice_get v.all place ≡ Some d → w ≡ knower (set v.all place d')
    → (Answers (first + place) d old → Answers (first + place) d' now) → Others first place old now → IsAmong began (entered_in now.journal)
    → IsSharedBook first made began w now
shared_act first made place began v w old now d d' h at is mine others still =
    let all : w.all ≡ set v.all place d' = ap (λ u. u.all) is in
    let P : List Deeds → Type 0 = λ l. Agrees first now l in record {
      keeps = is ∙ ap knower (sym all);
      count = h.count ∙ sym (length-set v.all place d') ∙ ap length (sym all);
      agrees = subst P (sym all) (agrees_set first place old now v.all d d' at h.agrees mine others);
      still = still;
    }

-- ---- an event is entered
pub record Grows (e : Entered) (old now : Book) : Type 0 where
  pub journal : entered_in now.journal ≡ entered_in old.journal ++ e ∷ []
  pub more : length now.journal ≡ length old.journal + 1

pub grown : (old now : Book) (line : Line) (e : Entered) → now.journal ≡ old.journal ++ line ∷ [] → entry line ≡ e → Grows e old now
grown old now line e journal is = record {
  journal = ap entered_in journal ∙ map-append entry old.journal (line ∷ []) ∙ ap (λ x. entered_in old.journal ++ x ∷ []) is;
  more = let a = length-append old.journal (line ∷ []) in let b = ap length journal in omega (arith, a, b);
}

among_more : (began xs ys : List Entered) (e : Entered) → ys ≡ xs ++ e ∷ [] → IsAmong began xs → IsAmong began ys
among_more began xs ys e is h =
    (h.0 ++ e ∷ [], perm_as (xs ++ e ∷ []) ys ((began ++ h.0) ++ e ∷ []) (began ++ (h.0 ++ e ∷ [])) (sym is) (append_assoc began h.0 (e ∷ [])) (IsPermutation-append_left (e ∷ []) xs (began ++ h.0) h.1))

events_end : (d : Deeds) (numbers : List EventName) (added : code.Event) → events_of (record { events = d.events ++ added ∷ []; tickets = numbers }) ≡ events_of d ++ event_of added ∷ []
events_end d numbers added = map-append event_of d.events (added ∷ [])

module _ (first made place : ℕ) (began : List Entered) (v w : TokenView) (old now : Book) (d : Deeds) (e : Entered) (added : code.Event)
    (h : IsSharedBook first made began v old) (at : slice_get v.all place ≡ Some d) (seat : e.seat ≡ first + place) (event : event_of added ≡ e.event) (grows : Grows e old now) where
  mine_list : (numbers : List EventName) → Answers (first + place) d old → IsPermutation (events_by (first + place) (entered_in now.journal)) (events_of (record { events = d.events ++ added ∷ []; tickets = numbers }))
  mine_list numbers a =
      perm_as (events_by (first + place) (entered_in old.journal) ++ e.event ∷ []) (events_by (first + place) (entered_in now.journal)) (events_of d ++ e.event ∷ []) (events_of (record { events = d.events ++ added ∷ []; tickets = numbers }))
      (sym (ap (events_by (first + place)) grows.journal ∙ of_seat (first + place) (entered_in old.journal) e seat))
      (sym (events_end d numbers added ∙ ap (λ x. events_of d ++ x ∷ []) event))
      (IsPermutation-append_left (e.event ∷ []) (events_by (first + place) (entered_in old.journal)) (events_of d) a.list)

  other_list : (q : ℕ) (x : Deeds) → first + q ≢ first + place → Answers (first + q) x old → IsPermutation (events_by (first + q) (entered_in now.journal)) (events_of x)
  other_list q x n a =
      perm_as (events_by (first + q) (entered_in old.journal)) (events_by (first + q) (entered_in now.journal)) (events_of x) (events_of x)
      (sym (ap (events_by (first + q)) grows.journal ∙ of_other (first + q) (entered_in old.journal) e (λ s. n (sym s ∙ seat)))) refl a.list

  still_among : IsAmong began (entered_in now.journal)
  still_among = among_more began (entered_in old.journal) (entered_in now.journal) e grows.journal h.still

  pub shared_entered : now.out ≡ old.out → w ≡ knower (set v.all place (record { events = d.events ++ added ∷ []; tickets = d.tickets })) → IsSharedBook first made began w now
  shared_entered out is =
      shared_act first made place began v w old now d (record { events = d.events ++ added ∷ []; tickets = d.tickets }) h at is
      (λ a. record { list = mine_list d.tickets a; tickets = subst (λ (o : List Lent). AreOpen (first + place) o d.tickets) (sym out) a.tickets })
      (λ q x n a. record { list = other_list q x n a; tickets = subst (λ (o : List Lent). AreOpen (first + q) o x.tickets) (sym out) a.tickets })
      still_among

  pub shared_given : (n : EventName) → now.out ≡ without n old.out → w ≡ knower (set v.all place (record { events = d.events ++ added ∷ []; tickets = strike n d.tickets })) → IsSharedBook first made began w now
  shared_given n out is =
      shared_act first made place began v w old now d (record { events = d.events ++ added ∷ []; tickets = strike n d.tickets }) h at is
      (λ a. record { list = mine_list (strike n d.tickets) a; tickets = subst (λ (o : List Lent). AreOpen (first + place) o (strike n d.tickets)) (sym out) (open_strike (first + place) n old.out d.tickets a.tickets) })
      (λ q x ne a. record { list = other_list q x ne a; tickets = subst (λ (o : List Lent). AreOpen (first + q) o x.tickets) (sym out) (open_without (first + q) n old.out x.tickets a.tickets) })
      still_among

-- ---- no event is entered
-- entries are the same, in whatever order, for each seat and for all
pub record Rests (old now : Book) : Type 0 where
  pub each : (s : ℕ) → IsPermutation (events_by s (entered_in now.journal)) (events_by s (entered_in old.journal))
  pub all : IsPermutation (entered_in now.journal) (entered_in old.journal)
  pub same_length : length now.journal ≡ length old.journal

pub rests_same : (old now : Book) → now.journal ≡ old.journal → Rests old now
rests_same old now is = record {
  each = λ s. perm_as (events_by s (entered_in old.journal)) (events_by s (entered_in now.journal)) _ _ (ap (λ l. events_by s (entered_in l)) (sym is)) refl (IsPermutation-refl (events_by s (entered_in old.journal)));
  all = perm_as (entered_in old.journal) (entered_in now.journal) _ _ (ap entered_in (sym is)) refl (IsPermutation-refl (entered_in old.journal));
  same_length = ap length is;
}

module _ (first made place : ℕ) (began : List Entered) (v w : TokenView) (old now : Book) (d : Deeds)
    (h : IsSharedBook first made began v old) (at : slice_get v.all place ≡ Some d) (rests : Rests old now) where
  rest_list : (s : ℕ) (x : Deeds) → Answers s x old → IsPermutation (events_by s (entered_in now.journal)) (events_of x)
  rest_list s x a = IsPermutation-trans (events_by s (entered_in now.journal)) (events_by s (entered_in old.journal)) (events_of x) (rests.each s) a.list

  rest_among : IsAmong began (entered_in now.journal)
  rest_among = let k = h.still in (k.0, IsPermutation-trans (entered_in now.journal) (entered_in old.journal) (began ++ k.0) rests.all k.1)

  pub shared_rested : now.out ≡ old.out → w ≡ knower (set v.all place d) → IsSharedBook first made began w now
  shared_rested out is =
      shared_act first made place began v w old now d d h at is
      (λ a. record { list = rest_list (first + place) d a; tickets = subst (λ (o : List Lent). AreOpen (first + place) o d.tickets) (sym out) a.tickets })
      (λ q x n a. record { list = rest_list (first + q) x a; tickets = subst (λ (o : List Lent). AreOpen (first + q) o x.tickets) (sym out) a.tickets })
      rest_among

  pub shared_closed : (n : EventName) → now.out ≡ without n old.out → w ≡ knower (set v.all place (after (Closes n) d)) → IsSharedBook first made began w now
  shared_closed n out is =
      shared_act first made place began v w old now d (after (Closes n) d) h at is
      (λ a. record { list = rest_list (first + place) d a; tickets = subst (λ (o : List Lent). AreOpen (first + place) o (strike n d.tickets)) (sym out) (open_strike (first + place) n old.out d.tickets a.tickets) })
      (λ q x ne a. record { list = rest_list (first + q) x a; tickets = subst (λ (o : List Lent). AreOpen (first + q) o x.tickets) (sym out) (open_without (first + q) n old.out x.tickets a.tickets) })
      rest_among

  pub shared_opened : (t : Lent) → t.seat ≡ first + place → now.out ≡ old.out ++ t ∷ [] → w ≡ knower (set v.all place (after (Opens t.number) d)) → IsSharedBook first made began w now
  shared_opened t seat out is =
      shared_act first made place began v w old now d (after (Opens t.number) d) h at is
      (λ a. record {
        list = rest_list (first + place) d a;
        tickets = subst (λ (o : List Lent). AreOpen (first + place) o (d.tickets ++ t.number ∷ [])) (sym out) (all_append _ old.out (t ∷ []) (open_end (first + place) t.number old.out d.tickets a.tickets) ((λ _. among_last t.number d.tickets), tt));
      })
      (λ q x n a. record {
        list = rest_list (first + q) x a;
        tickets = subst (λ (o : List Lent). AreOpen (first + q) o x.tickets) (sym out) (all_append _ old.out (t ∷ []) a.tickets ((λ s. absurd (n (sym s ∙ seat))), tt));
      })
      rest_among

-- ---- seats are made and come back
-- what is at most a number is below the next one
pub below_next : {A : Type 0} (f : A → ℕ) (n : ℕ) (xs : List A) → All (λ x. f x ≤ n) xs → All (λ x. f x < n + 1) xs
below_next f n xs all k d h = let a = all k d h in omega (arith, a)

pub none_seated : (first : ℕ) (began : List Entered) (v : TokenView) (b : Book) → v ≡ knower [] → entered_in b.journal ≡ began → All (λ l. l.seat < first) b.journal → All (λ t. t.seat < first) b.out → IsSharedBook first 0 began v b
none_seated first began v b is same entries tickets =
    let none : v.all ≡ [] = ap (λ w. w.all) is in
    let P : List Deeds → Type 0 = λ l. Agrees first b l in record {
      keeps = is ∙ ap knower (sym none);
      count = sym (ap length none);
      agrees = subst P (sym none) (λ place. record {
        list = perm_as [] (events_by (first + place) (entered_in b.journal)) [] [] (sym (none_by (first + place) first b.journal entries (omega arith))) refl (IsPermutation-refl []);
        tickets = none_open (first + place) first b.out [] tickets (omega arith);
      });
      still = ([], perm_as began (entered_in b.journal) began (began ++ []) (sym same) (sym (append-nil began)) (IsPermutation-refl began));
    }

at_blank : (all : List Deeds) (q : ℕ) → get_or (all ++ blank ∷ []) q blank ≡ get_or all q blank
at_blank [] zero = refl
at_blank [] (suc q) = refl
at_blank (x ∷ xs) zero = refl
at_blank (x ∷ xs) (suc q) = at_blank xs q

pub one_more : (first made n : ℕ) (began : List Entered) (v w : TokenView) (b : Book) → IsSharedBook first made began v b → n ≡ made + 1 → w ≡ knower (v.all ++ blank ∷ []) → IsSharedBook first n began w b
one_more first made n began v w b h more is =
    let all : w.all ≡ v.all ++ blank ∷ [] = ap (λ u. u.all) is in
    let P : List Deeds → Type 0 = λ l. Agrees first b l in
    let count = h.count in record {
      keeps = is ∙ ap knower (sym all);
      count = more ∙ ap (λ k. k + 1) count ∙ sym (length-append v.all (blank ∷ [])) ∙ ap length (sym all);
      agrees = subst P (sym all) (λ place. let Q : Deeds → Type 0 = λ x. Answers (first + place) x b in subst Q (sym (at_blank v.all place)) (h.agrees place));
      still = h.still;
    }

-- a seat's list is just the entries with its number
pub met : (first made place : ℕ) (began : List Entered) (v : TokenView) (b : Book) (d : Deeds) → IsSharedBook first made began v b → slice_get v.all place ≡ Some d → Answers (first + place) d b
met first made place began v b d h at = let Q : Deeds → Type 0 = λ x. Answers (first + place) x b in subst Q (get_or_from_slice_get v.all place d blank at) (h.agrees place)

-- and so it has no more than there are entries
pub few_events : (first made place : ℕ) (began : List Entered) (v : TokenView) (b : Book) (d : Deeds) → IsSharedBook first made began v b → length b.journal + 1 < 2 ^ 64 → slice_get v.all place ≡ Some d → length d.events + 1 < 2 ^ 64
few_events first made place began v b d h within at =
    let a = met first made place began v b d h at in
    let n = length_permutation (events_by (first + place) (entered_in b.journal)) (events_of d) a.list in
    let m = length-map d.events event_of in
    let k = by_within (first + place) b.journal in
    let two : 18446744073709551616 ≡ 2 ^ 64 = refl in
    omega (arith, n, m, k, within, two)

-- ---- the ledger
pub counted_more : (t u b : ℕ) (e : Entered) (old now : Book) → t + b ≡ length old.journal → u ≡ t + 1 → Grows e old now → u + b ≡ length now.journal
counted_more t u b e old now h more grows = let l = grows.more in omega (arith, h, more, l)

pub counted_same : (t u b : ℕ) (old now : Book) → t + b ≡ length old.journal → u ≡ t → Rests old now → u + b ≡ length now.journal
counted_same t u b old now h same rests = let l = rests.same_length in omega (arith, h, same, l)

pub counted_none : (t : ℕ) (began : List Entered) (b : Book) → t ≡ 0 → entered_in b.journal ≡ began → t + length began ≡ length b.journal
counted_none t began b none is = let a = ap length is in let l = length-map b.journal entry in omega (arith, none, a, l)

-- ---- seats that were handed in
all_one : {A : Type 0} (P : A → Type 0) (x : A) → P x → All P (x ∷ [])
all_one P x h zero d lt = h
all_one P x h (suc k) d lt = absurd (omega (arith, lt))

pub handed_in : (b : Book) (seats : List Held) (s : Held) → All (λ (x : Held). Answers x.number x.deeds b) seats → Answers s.number s.deeds b → All (λ (x : Held). Answers x.number x.deeds b) (seats ++ s ∷ [])
handed_in b seats s all one = All-append (λ (x : Held). Answers x.number x.deeds b) seats (s ∷ []) all (all_one (λ (x : Held). Answers x.number x.deeds b) s one)

pub parts_in : (seats : List Held) (s : Held) (p q : ℕ) → p ≡ length seats → q ≡ p + 1 → q ≡ length (seats ++ s ∷ [])
parts_in seats s p q is more = let l = length-append seats (s ∷ []) in omega (arith, is, more, l)

pub amount_in : (seats : List Held) (s : Held) (a b : ℕ) → a ≡ sum_by (λ (x : Held). length x.deeds.events) seats → b ≡ a + length s.deeds.events → b ≡ sum_by (λ (x : Held). length x.deeds.events) (seats ++ s ∷ [])
amount_in seats s a b is more = let l = sum_by-append (λ (x : Held). length x.deeds.events) seats (s ∷ []) in omega (arith, is, more, l)

-- ---- nothing was entered
pub among_same : (xs : List Entered) → IsAmong xs xs
among_same xs = ([], perm_as xs xs xs (xs ++ []) refl (sym (append-nil xs)) (IsPermutation-refl xs))
