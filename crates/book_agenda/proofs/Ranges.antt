-- Parts of the sets of an agenda: the vats that wait for a promise, the messages of which a cell tells how they wait, the first that is ready at a vat, and the promises
-- of an event and a number.
use Rattle.std.proofs.Common.{◌≡◌, ℕ, ◌<◌, nat_eq, arith, Bool, true, false, ◌&&◌, List, [], ◌∷◌, ◌++◌, Some, None, refl, sym, ap, ap₂, ◌∙◌}
use Rattle.std.specs.Ordering.{is_eq, is_gt, nat_cmp, ordering_then, ordering_reverse, MatchOrdering}
use Rattle.std.specs.declared.cmp.Ordering.{Ordering}
use Rattle.std.specs.declared.cmp.Ordering.TheVariants.{Less, Equal, Greater}
use Rattle.std.specs.declared.ops.Bound.TheVariants.{Included, Unbounded}
use Rattle.std.specs.BTreeSet.{BTreeSet, contains, keys_between, IsOrdered, IsKeyRangeOf}
use Rattle.std.proofs.lemmas.Bool.{and_parts, false_from_ne_true, false≢true, eqb-true, eq-eqb}
use Rattle.std.proofs.lemmas.Map.Lookups.{exact_unsigned}
use Rattle.std.proofs.lemmas.Cmp.{nat_cmp_total, ranked, tied_itself}
use Rattle.std.proofs.lemmas.List.{append-nil}
use Rattle.ids.proofs.Keys.{equal_self, exact_vats}
use Rattle.ids.proofs.CellKeys.{promises_agree}
use Rattle.ids.specs.KeyLaws.{exact_vat}
use Rattle.ids.specs.Cells.{message_cmp, promise_cmp, vat_cmp}
use Rattle.ids.specs.declared.names.EventName.{EventName}
use Rattle.ids.specs.declared.names.VatNo.{VatNo}
use Rattle.ids.specs.declared.names.MsgId.{MsgId}
use Rattle.ids.specs.declared.names.PromId.{PromId}
use Rattle.heap.specs.View.{same_promise}
use Rattle.book_agenda.specs.Agendas.{KnownAs}
use Rattle.book_agenda.specs.Waiting.{ready_cmp, FirstAt}
use Rattle.book_agenda.specs.Ways.{cue_cmp}
use Rattle.book_agenda.specs.AgendaView.{open_cmp, known_cmp, watcher_cmp, is_among, is_in, is_watcher}
use Rattle.book_agenda.specs.declared.ways.Cue.{Cue}
use Rattle.book_agenda.specs.declared.waiting.Ready.{Ready}
use Rattle.book_agenda.specs.declared.waiting.Waiting.{Waiting}
use Rattle.book_agenda.specs.declared.agenda.Watcher.{Watcher}
use Rattle.book_agenda.specs.declared.agenda.Open.{Open}
use Rattle.book_agenda.specs.declared.agenda.Known.{Known}
use Rattle.book_agenda.proofs.Orders.{vat_total, message_total, promise_total, cue_total, same_cue, cues_agree}
use Rattle.book_agenda.proofs.Groups.{members_at, at_other, members_of, none_first, one_first, other_first}

-- ---- numbers at most and at least another one

not_above_zero : (n : ℕ) → is_gt (nat_cmp 0 n) ≡ false
not_above_zero n = by (nat_cmp 0 n) (ranked 0 n (nat_cmp 0 n) refl)
  where
    by : (o : Ordering) → MatchOrdering o (0 < n) (0 ≡ n) (n < 0) → is_gt o ≡ false
    by Less h = refl
    by Equal h = refl
    by Greater h = absurd (omega arith)

-- between a number and itself there is no other one
squeezed : (m n : ℕ) (x y : Ordering) → is_gt (ordering_then (nat_cmp m n) x) ≡ false → is_gt (ordering_then (nat_cmp n m) y) ≡ false → (m ≡ n) × (is_gt x ≡ false) × (is_gt y ≡ false)
squeezed m n x y h g = by (nat_cmp m n) refl h (ap (λ o. is_gt (ordering_then o y)) (sym (nat_cmp_total.antisymm n m)) ∙ g)
  where
    by : (o : Ordering) → nat_cmp m n ≡ o → is_gt (ordering_then o x) ≡ false → is_gt (ordering_then (ordering_reverse o) y) ≡ false → (m ≡ n) × (is_gt x ≡ false) × (is_gt y ≡ false)
    by Less e h g = absurd (false≢true (sym g))
    by Equal e h g = (exact_unsigned m n e, h, g)
    by Greater e h g = absurd (false≢true (sym h))

-- ---- the vats that wait for a promise, and the messages of which a cell tells how they wait

abbrev pub no_vat : VatNo
no_vat = record { 0 = record { 0 = 0 } }

abbrev pub no_message : MsgId
no_message = record { event = record { 0 = 0 }; index = 0 }

no_vat_first : (v : VatNo) → is_gt (vat_cmp no_vat v) ≡ false
no_vat_first v = not_above_zero v.0.0

pub no_message_first : (m : MsgId) → is_gt (message_cmp no_message m) ≡ false
no_message_first m = either (nat_cmp 0 m.event.0) (nat_cmp 0 m.index) (not_above_zero m.event.0) (not_above_zero m.index)
  where
    either : (a b : Ordering) → is_gt a ≡ false → is_gt b ≡ false → is_gt (ordering_then a b) ≡ false
    either Less b h g = refl
    either Equal b h g = g
    either Greater b h g = absurd (false≢true (sym h))

abbrev pub first_open : PromId → Open
first_open p = record { promise = p; vat = no_vat }

abbrev pub opens_from : PromId → BTreeSet Open → List Open
opens_from p s = keys_between open_cmp (Included (first_open p)) Unbounded s

abbrev pub vats_at : PromId → List Open → List VatNo
vats_at p os = members_at (λ (o : Open). o.promise) (λ (o : Open). o.vat) promise_cmp vat_cmp same_promise no_vat p os

pub at_other_promise : (p : PromId) (o : Open) (os : List Open) → same_promise o.promise p ≡ false → vats_at p (o ∷ os) ≡ []
at_other_promise p o os h = at_other (λ (x : Open). x.promise) (λ (x : Open). x.vat) promise_cmp vat_cmp same_promise no_vat p o os h

pub vats_waiting : (p : PromId) (s : BTreeSet Open) → IsOrdered open_cmp s → (v : VatNo) → is_among (vats_at p (opens_from p s)) v ≡ contains open_cmp s (record { promise = p; vat = v })
vats_waiting p s ordered v =
    members_of (λ (o : Open). o.promise) (λ (o : Open). o.vat) promise_cmp vat_cmp same_promise no_vat promise_total vat_total no_vat_first promises_agree (first_open p) p (λ t. refl) s ordered v

abbrev pub first_watcher : Cue → Watcher
first_watcher c = record { cue = c; message = no_message }

abbrev pub watchers_from : Cue → BTreeSet Watcher → List Watcher
watchers_from c s = keys_between watcher_cmp (Included (first_watcher c)) Unbounded s

abbrev pub messages_at : Cue → List Watcher → List MsgId
messages_at c xs = members_at (λ (x : Watcher). x.cue) (λ (x : Watcher). x.message) cue_cmp message_cmp same_cue no_message c xs

pub at_other_cue : (c : Cue) (x : Watcher) (xs : List Watcher) → same_cue x.cue c ≡ false → messages_at c (x ∷ xs) ≡ []
at_other_cue c x xs h = at_other (λ (y : Watcher). y.cue) (λ (y : Watcher). y.message) cue_cmp message_cmp same_cue no_message c x xs h

pub messages_watching : (c : Cue) (s : BTreeSet Watcher) → IsOrdered watcher_cmp s → (m : MsgId) → is_in (messages_at c (watchers_from c s)) m ≡ is_watcher s c m
messages_watching c s ordered m =
    members_of (λ (x : Watcher). x.cue) (λ (x : Watcher). x.message) cue_cmp message_cmp same_cue no_message cue_total message_total no_message_first cues_agree (first_watcher c) c (λ t. refl) s ordered m

-- ---- the first message that is ready at a vat

abbrev pub first_ready : VatNo → Ready
first_ready v = record { vat = v; message = no_message }

module _ (q : Waiting) (v : VatNo) where
  begins : (m : MsgId) → is_gt (ready_cmp (first_ready v) (record { vat = v; message = m })) ≡ false
  begins m = ap (λ o. is_gt (ordering_then o (message_cmp no_message m))) (tied_itself vat_total v) ∙ no_message_first m

  pub none_ready : IsKeyRangeOf ready_cmp (Included (first_ready v)) Unbounded q.ready [] → FirstAt q v None
  none_ready r m =
      none_first (λ (x : Ready). x.vat) (λ (x : Ready). x.message) vat_cmp message_cmp (λ a b. is_eq (vat_cmp a b)) no_message vat_total message_total no_message_first (λ a b. refl) (first_ready v) v (λ t. refl)
      (λ n. record { vat = v; message = n }) (λ t n. refl) begins q.ready r m

  module _ (k : Ready) (ks : List Ready) (r : IsKeyRangeOf ready_cmp (Included (first_ready v)) Unbounded q.ready (k ∷ ks)) where
    pub one_ready : k.vat ≡ v → FirstAt q v (Some k.message)
    one_ready e =
        let first = one_first (λ (x : Ready). x.vat) (λ (x : Ready). x.message) vat_cmp message_cmp (λ a b. is_eq (vat_cmp a b)) no_message vat_total message_total no_message_first (λ a b. refl) (first_ready v) v (λ t. refl)
        (λ n. record { vat = v; message = n }) (λ t n. refl) begins q.ready exact_vats k ks r e in
        (ap (λ x. contains ready_cmp q.ready (record { vat = x; message = k.message })) (sym e) ∙ first.0, first.1)

    pub other_ready : (k.vat ≡ v → ⊥) → FirstAt q v None
    other_ready apart m =
        other_first (λ (x : Ready). x.vat) (λ (x : Ready). x.message) vat_cmp message_cmp (λ a b. is_eq (vat_cmp a b)) no_message vat_total message_total no_message_first (λ a b. refl) (first_ready v) v (λ t. refl)
        (λ n. record { vat = v; message = n }) (λ t n. refl) begins q.ready exact_vats k ks r apart m

-- ---- the promises of an event and a number

abbrev pub first_known : VatNo → EventName → ℕ → Known
first_known v e i = record { vat = v; promise = record { event = e; index = i; home = no_vat } }

abbrev pub knows : BTreeSet Known → VatNo → PromId → Bool
knows s v p = contains known_cmp s (record { vat = v; promise = p })

first_at_self : (v : VatNo) (q : PromId) → is_gt (known_cmp (first_known v q.event q.index) (record { vat = v; promise = q })) ≡ false
first_at_self v q =
    ap (λ o. is_gt (ordering_then o (promise_cmp (record { event = q.event; index = q.index; home = no_vat }) q))) (equal_self v.0.0)
    ∙ ap (λ o. is_gt (ordering_then o (ordering_then (nat_cmp q.index q.index) (vat_cmp no_vat q.home)))) (equal_self q.event.0)
    ∙ ap (λ o. is_gt (ordering_then o (vat_cmp no_vat q.home))) (equal_self q.index)
    ∙ not_above_zero q.home.0.0

at_least_first : (v : VatNo) (e : EventName) (i : ℕ) (q : PromId) → q.event ≡ e → q.index ≡ i → is_gt (known_cmp (first_known v e i) (record { vat = v; promise = q })) ≡ false
at_least_first v e i q ev ix = ap₂ (λ x y. is_gt (known_cmp (first_known v x y) (record { vat = v; promise = q }))) (sym ev) (sym ix) ∙ first_at_self v q

module _ (s : BTreeSet Known) (v : VatNo) (e : EventName) (i : ℕ) where
  pub none_known : IsKeyRangeOf known_cmp (Included (first_known v e i)) Unbounded s [] → KnownAs (knows s) v e i None
  none_known r q ev ix = r.5 refl (record { vat = v; promise = q }) (at_least_first v e i q ev ix, tt)

  module _ (k : Known) (ks : List Known) (r : IsKeyRangeOf known_cmp (Included (first_known v e i)) Unbounded s (k ∷ ks)) where
    -- the first of those from there on is at most any one of that event and number
    at_most_it : (q : PromId) → q.event ≡ e → q.index ≡ i → knows s v q ≡ true → is_gt (known_cmp k (record { vat = v; promise = q })) ≡ false
    at_most_it q ev ix h = r.2 (record { vat = v; promise = q }) (at_least_first v e i q ev ix, tt) h

    pub one_known : k.vat ≡ v → k.promise.event ≡ e → k.promise.index ≡ i → KnownAs (knows s) v e i (Some k.promise)
    one_known kv ev ix = (
      ev,
      ix,
      ap (λ u. knows s u k.promise) (sym kv) ∙ r.1.1,
      λ q qe qi h. sym (ap (λ u. is_gt (ordering_then (vat_cmp u v) (promise_cmp k.promise q))) kv ∙ ap (λ o. is_gt (ordering_then o (promise_cmp k.promise q))) (equal_self v.0.0)) ∙ at_most_it q qe qi h,
    )

    pub other_known : (k.vat.0.0 ≡ v.0.0 → k.promise.event.0 ≡ e.0 → k.promise.index ≡ i → ⊥) → KnownAs (knows s) v e i None
    other_known apart q ev ix = false_from_ne_true (knows s v q) (λ h.
        let by_vat = squeezed v.0.0 k.vat.0.0 _ _ r.1.0.0 (at_most_it q ev ix h) in
        let by_event = squeezed e.0 k.promise.event.0 _ _ by_vat.1 (sym (ap (λ x. is_gt (ordering_then (nat_cmp k.promise.event.0 x.0) (ordering_then (nat_cmp k.promise.index q.index) (vat_cmp k.promise.home q.home)))) ev) ∙ by_vat.2) in
        let by_index = squeezed i k.promise.index _ _ by_event.1 (sym (ap (λ x. is_gt (ordering_then (nat_cmp k.promise.index x) (vat_cmp k.promise.home q.home))) ix) ∙ by_event.2) in
        apart (sym by_vat.0) (sym by_event.0) (sym by_index.0))

-- where nothing comes any more, what was found is all
pub nothing_more : {V : Type 0} (found left all : List V) → left ≡ [] → found ++ left ≡ all → found ≡ all
nothing_more found left all none whole = sym (append-nil found) ∙ ap (λ xs. found ++ xs) (sym none) ∙ whole

-- what the test of the program finds
pub is_that : (k : Known) (v : VatNo) (e : EventName) (i : ℕ) → (nat_eq k.vat.0.0 v.0.0 && (nat_eq k.promise.event.0 e.0 && nat_eq k.promise.index i)) ≡ true → (k.vat ≡ v) × (k.promise.event ≡ e) × (k.promise.index ≡ i)
is_that k v e i h =
    let parts = and_parts (nat_eq k.vat.0.0 v.0.0) (nat_eq k.promise.event.0 e.0 && nat_eq k.promise.index i) h in
    let others = and_parts (nat_eq k.promise.event.0 e.0) (nat_eq k.promise.index i) parts.1 in
    (exact_vat k.vat v parts.0, ap (λ (n : ℕ). let f : EventName = record { 0 = n } in f) (eqb-true k.promise.event.0 e.0 others.0), eqb-true k.promise.index i others.1)

pub is_other : (k : Known) (v : VatNo) (e : EventName) (i : ℕ) → (nat_eq k.vat.0.0 v.0.0 && (nat_eq k.promise.event.0 e.0 && nat_eq k.promise.index i)) ≡ false → k.vat.0.0 ≡ v.0.0 → k.promise.event.0 ≡ e.0 → k.promise.index ≡ i → ⊥
is_other k v e i h kv ev ix = false≢true (sym h ∙ ap₂ (λ a b. a && b) (eq-eqb k.vat.0.0 v.0.0 kv) (ap₂ (λ a b. a && b) (eq-eqb k.promise.event.0 e.0 ev) (eq-eqb k.promise.index i ix)))
