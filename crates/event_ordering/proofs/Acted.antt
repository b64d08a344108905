-- What single steps of an evaluation do to fences.
use Rattle.std.proofs.Common.{◌≡◌, ℕ, ◌+◌, Bool, true, false, cond, not, ◌||◌, ◌&&◌, List, [], ◌∷◌, ◌++◌, length, nat_eq, Option, Some, None, true≢false, refl, sym, ap, ◌∙◌, subst, arith}
use Rattle.std.specs.List.{list_any, AllByRecursion}
use Rattle.std.specs.Ordering.{is_eq}
use Rattle.std.proofs.lemmas.Bool.{and_from, eq-eqb}
use Rattle.std.proofs.lemmas.List.Folds.{list_any-append}
use Rattle.ids.specs.Cells.{promise_cmp}
use Rattle.ids.proofs.Keys.{equal, exact_promises}
use Rattle.ids.specs.declared.names.EventName.{EventName}
use Rattle.ids.specs.declared.names.VatNo.{VatNo}
use Rattle.ids.specs.declared.names.SlotId.{SlotId}
use Rattle.ids.specs.declared.names.ObjId.{ObjId}
use Rattle.ids.specs.declared.names.MsgId.{MsgId}
use Rattle.ids.specs.declared.names.PromId.{PromId}
use Rattle.ids.specs.declared.reference.Reference.{Reference}
use Rattle.cells.specs.Doing.{over, Under, play, and_then}
use Rattle.eorder.specs.Acts.{Act, Fences}
use Rattle.eorder.specs.Fences.{member}
use Rattle.eorder.specs.Places.{Carrier, argument, published, same_message, same_carrier}
use Rattle.eorder.specs.Worlds.{after_acts}
use Rattle.eorder.proofs.Worlds.{after_append}
use Rattle.kernele.specs.Tree.{Name, Trees, Methods}
use Rattle.kernele_scopes.specs.Free.{captures}
use Rattle.kernele.specs.declared.tree.Pattern.{Pattern}
use Rattle.kernele.specs.declared.tree.Pattern.TheVariants as pattern
use Rattle.values.specs.Data.{Val, object, Vals, no_vals, and_val}
use Rattle.values.specs.Replies.{data_reply}
use Rattle.values.specs.Wanted.{wants_datum}
use Rattle.refs.specs.Walks.{same_promise}
use Rattle.heap.specs.State.{Bind, fixed, slot, lookup, Plain, Cell, Content, State, same_cell}
use Rattle.post.specs.Delivery.{Handler, When}
use Rattle.post.specs.Messages.{Message, is_done}
use Rattle.post.specs.Messages as post
use Rattle.sends.specs.Vats.{Vat, names_for, ended, settled, reference_in, references, references_in, each_once, goes_to}
use Rattle.sends.specs.Making.{Making, refused, makes, of_settled, Sent, Published}
use Rattle.eval_rules.specs.At.{At}
use Rattle.eval_rules.specs.Outbox.{Outbox, is_published, and_publication}
use Rattle.eval_rules.specs.Outcomes.{End, value, halt, Gather, values, halted}
use Rattle.eval_rules.specs.Doings.{next_object, has_object_room, under, with_under, behind, given_by, datum_read, data_with, data_of, same_read, both_settled, next_message, call_message, send_of, send_out, sent_at, when_message, wait_of, wait_out, promise_pair, pair_out, resolver_out, next_promise, has_message_room, published_out, first_place, same_vat}
use Rattle.eval_rules.specs.Rules.{sought_in, seeking, slot_read, slot_put, noun_read, Listing, listed, unlisted, parts_bound, sought, sought_slot, bound_in, matched, matched_all, defined, next_slot, has_room, slot_made, variable_made, declared, assigned, Capture, captured, missing, and_captured, all_sought, capture_of, capturing, object_made, placed, with_object, Callee, on_object, on_ejector, on_datum, on_far, callee_of, callee_read, called, receiver, receiver_read, handled_names, when_capture, when_capturing, waited, when_made}
use Rattle.event_ordering.specs.Acting.{left_in, joined_to, leaving_in, sent_on, message_acts, send_acts, left_unless, published_acts, resolver_acts}
use Rattle.event_ordering.specs.Laws.{IsSentBy}
use Rattle.event_ordering.specs.Reading.{Sets, fences_in, fences_of_delivery, after_of, reading, numbered, was_after, travels_in, publication_in, publication_fences, NoneDone, afters, travelling, turn_fences}
use Rattle.event_ordering.proofs.Readings.{or_false, and_none, with_after, among, with_all, sent_sets, sent_names, left_all, sent_all, join_all}
use Rattle.event_ordering.proofs.Effects.{Still, Makes, ended_still, settled_still, still_then, of_settled_still, waiting_still, promising_still, SentTo, sending_makes, PublishedTo, PublishedBy}

-- ---- lists of what was made

-- the name of the message that an event makes next
abbrev pub number : EventName → List (MsgId × Message) → MsgId
number e ls = record { event = e; index = length ls }

numbered_from : (e : EventName) (i : ℕ) (ls : List (MsgId × Message)) (l : MsgId × Message) → numbered e i (ls ++ l ∷ []) ≡ numbered e i ls ++ (record { event = e; index = i + length ls }, l.1) ∷ []
numbered_from e i [] l = ap (λ n. (record { event = e; index = n }, l.1) ∷ []) (omega arith)
numbered_from e i (x ∷ ls) l =
    ap (λ xs. (record { event = e; index = i }, x.1) ∷ xs) (numbered_from e (i + 1) ls l)
    ∙ ap (λ n. (record { event = e; index = i }, x.1) ∷ (numbered e (i + 1) ls ++ (record { event = e; index = n }, l.1) ∷ [])) (omega arith)

numbered_more : (e : EventName) (ls : List (MsgId × Message)) (l : MsgId × Message) → numbered e 0 (ls ++ l ∷ []) ≡ numbered e 0 ls ++ (number e ls, l.1) ∷ []
numbered_more e ls l = numbered_from e 0 ls l ∙ ap (λ n. numbered e 0 ls ++ (record { event = e; index = n }, l.1) ∷ []) (omega arith)

any_more : {X : Type 0} (f : X → Bool) (xs : List X) (x : X) → list_any f (xs ++ x ∷ []) ≡ (list_any f xs || f x)
any_more f xs x = list_any-append f xs (x ∷ []) ∙ ap (λ b. list_any f xs || b) (or_false (f x))

afters_more : (e : EventName) (ls : List (MsgId × Message)) (l : MsgId × Message) (n m : MsgId) → afters e (ls ++ l ∷ []) n m ≡ (afters e ls n m || (same_message (number e ls) n && member (after_of l.1.delivery l.1.after) m))
afters_more e ls l n m = ap (list_any (was_after n m)) (numbered_more e ls l) ∙ any_more (was_after n m) (numbered e 0 ls) (number e ls, l.1)

or_swap : (x y z : Bool) → ((x || y) || z) ≡ ((x || z) || y)
or_swap true y z = refl
or_swap false true true = refl
or_swap false true false = refl
or_swap false false true = refl
or_swap false false false = refl

travelling_more : (before : PromId → Bool) (e : EventName) (ls : List (MsgId × Message)) (bs : List (PromId × post.Published)) (l : MsgId × Message) (c : Carrier) (r : Reference) (m : MsgId)
    → travelling before e (ls ++ l ∷ []) bs c r m ≡ (travelling before e ls bs c r m || (same_carrier (argument (number e ls)) c && member (names_for (fences_of_delivery l.1.delivery) r) m))
travelling_more before e ls bs l c r m =
    let p : Bool = member (names_for (publication_fences (publication_in before bs c)) r) m in
    ap (λ b. b || p) (ap (list_any (travels_in c r m)) (numbered_more e ls l) ∙ any_more (travels_in c r m) (numbered e 0 ls) (number e ls, l.1))
    ∙ or_swap (list_any (travels_in c r m) (numbered e 0 ls)) (same_carrier (argument (number e ls)) c && member (names_for (fences_of_delivery l.1.delivery) r) m) p

pub no_argument : (before : PromId → Bool) (bs : List (PromId × post.Published)) (n : MsgId) → publication_in before bs (argument n) ≡ None
no_argument before [] n = refl
no_argument before (b ∷ bs) n = no_argument before bs n

same_itself : (p : PromId) → same_promise p p ≡ true
same_itself p = and_from (nat_eq p.event.0 p.event.0) _ (eq-eqb p.event.0 p.event.0 refl) (and_from (nat_eq p.index p.index) _ (eq-eqb p.index p.index refl) (eq-eqb p.home.0.0 p.home.0.0 refl))

promise_other_way : (p q : PromId) → is_eq (promise_cmp p q) ≡ true → same_promise q p ≡ true
promise_other_way p q h = subst (λ x. same_promise x p ≡ true) (exact_promises p q (equal (promise_cmp p q) h)) (same_itself p)

absent_case : (x y n : Bool) (b : post.Published) (r : Bool) (o : Option post.Published) → cond x true r ≡ false → (y ≡ true → x ≡ true) → (r ≡ false → o ≡ None) → cond (y && n) (Some b) o ≡ None
absent_case true y n b r o h g k = absurd (true≢false h)
absent_case false true n b r o h g k = absurd (true≢false (sym (g refl)))
absent_case false false n b r o h g k = k h

-- a promise that was not published has no publication among these
not_published : (before : PromId → Bool) (bs : List (PromId × post.Published)) (p : PromId) → is_published p bs ≡ false → publication_in before bs (published p) ≡ None
not_published before [] p h = refl
not_published before (b ∷ bs) p h =
    absent_case (same_promise p b.0) (is_eq (promise_cmp b.0 p)) (not (before b.0)) b.1 (is_published p bs) (publication_in before bs (published p)) h (promise_other_way b.0 p) (not_published before bs p)

-- the first of two publications, if there is one
abbrev or_first : Option post.Published → Option post.Published → Option post.Published
or_first None o = o
or_first (Some b) o = Some b

first_case : (q : Bool) (b : post.Published) (o x y : Option post.Published) → y ≡ or_first o x → cond q (Some b) y ≡ or_first (cond q (Some b) o) x
first_case true b o x y h = refl
first_case false b o x y h = h

put_behind : (before : PromId → Bool) (bs : List (PromId × post.Published)) (p : PromId) (b : post.Published) (c : Carrier)
    → publication_in before (bs ++ (p, b) ∷ []) c ≡ or_first (publication_in before bs c) (cond (same_carrier (published p) c && not (before p)) (Some b) None)
put_behind before [] p b c = refl
put_behind before (x ∷ bs) p b c =
    first_case (same_carrier (published x.0) c && not (before x.0)) x.1 (publication_in before bs c) (cond (same_carrier (published p) c && not (before p)) (Some b) None) (publication_in before (bs ++ (p, b) ∷ []) c)
    (put_behind before bs p b c)

-- whether a message travels in what was published with a reference
abbrev goes_with : Reference → MsgId → Option post.Published → Bool
goes_with r m o = member (names_for (publication_fences o) r) m

last_case : (x : Bool) (o : Option post.Published) (q n : Bool) (b : post.Published) (r : Reference) (m : MsgId) → (q ≡ true → o ≡ None)
    → (x || goes_with r m (or_first o (cond (q && n) (Some b) None))) ≡ ((x || goes_with r m o) || (q && (n && goes_with r m (Some b))))
last_case x (Some y) true n b r m h = absurd (some≢none (h refl))
  where
    some≢none : Some y ≡ None → ⊥
    some≢none e = cc
last_case x (Some y) false n b r m h = sym (or_false (x || goes_with r m (Some y)))
last_case x None false n b r m h = sym (or_false (x || false))
last_case x None true true b r m h = ap (λ y. y || goes_with r m (Some b)) (sym (or_false x))
last_case x None true false b r m h = sym (or_false (x || false))

none_there : (before : PromId → Bool) (bs : List (PromId × post.Published)) (p : PromId) (c : Carrier) → is_published p bs ≡ false → same_carrier (published p) c ≡ true → publication_in before bs c ≡ None
none_there before bs p (argument n) h q = no_argument before bs n
none_there before bs p (published o) h q = subst (λ x. publication_in before bs (published x) ≡ None) (exact_promises p o (equal (promise_cmp p o) q)) (not_published before bs p h)

published_more : (before : PromId → Bool) (e : EventName) (ls : List (MsgId × Message)) (bs : List (PromId × post.Published)) (p : PromId) (b : post.Published) → is_published p bs ≡ false → (c : Carrier) (r : Reference) (m : MsgId)
    → travelling before e ls (bs ++ (p, b) ∷ []) c r m ≡ (travelling before e ls bs c r m || (same_carrier (published p) c && (not (before p) && member (names_for b.fences r) m)))
published_more before e ls bs p b h c r m =
    let x : Bool = list_any (travels_in c r m) (numbered e 0 ls) in
    ap (λ o. x || goes_with r m o) (put_behind before bs p b c)
    ∙ last_case x (publication_in before bs c) (same_carrier (published p) c) (not (before p)) b r m (none_there before bs p c h)

and_assoc : (x y z : Bool) → (x && (y && z)) ≡ ((x && y) && z)
and_assoc true y z = refl
and_assoc false y z = refl

pub all_append : {A : Type 0} (P : A → Type 0) (xs ys : List A) → AllByRecursion P xs → AllByRecursion P ys → AllByRecursion P (xs ++ ys)
all_append P [] ys h g = g
all_append P (x ∷ xs) ys h g = (h.0, all_append P xs ys h.1 g)

one_more : (ls : List (MsgId × Message)) (l : MsgId × Message) → NoneDone ls → is_done l.1.place ≡ false → NoneDone (ls ++ l ∷ [])
one_more ls l d h = record { each = all_append (λ x. is_done x.1.place ≡ false) ls (l ∷ []) d.each (h, tt) }

placed_undone : (q : Bool) (to : VatNo) → is_done (first_place q to) ≡ false
placed_undone true to = refl
placed_undone false to = refl

pub join_sends : (e : EventName) (p : PromId) (o : Option Reference) → AllByRecursion (IsSentBy e) (joined_to p o)
join_sends e p None = tt
join_sends e p (Some t) = (tt, tt)

-- ---- what acts do

module _ (base : Fences) (v : VatNo) (before : PromId → Bool) (e : EventName) where
  -- the fences where an evaluation stands
  abbrev pub fences_at : At → Fences
  fences_at a = turn_fences base v before e a.state a.out

  abbrev Letters : Type 0
  Letters = List (MsgId × Message)

  -- acts lead from fences to fences, in the turn of the event, and send its messages; and of what it has made none is done
  pub record Acts (f : Fences) (xs : List Act) (g : Fences) (n : EventName) (ls : Letters) : Type 0 where
    pub fences : g ≡ after_acts v xs f
    pub event : n ≡ e
    pub sends : AllByRecursion (IsSentBy e) xs
    pub undone : NoneDone ls

  abbrev pub Acted : At → List Act → At → Type 0
  Acted a xs b = a.event ≡ e → NoneDone a.out.letters → Acts (fences_at a) xs (fences_at b) b.event b.out.letters

  -- nothing happens to fences
  pub record Quiet (f : Fences) (n : EventName) (ks : Letters) (g : Fences) (k : EventName) (ls : Letters) : Type 0 where
    pub fences : g ≡ f
    pub event : k ≡ n
    pub undone : NoneDone ks → NoneDone ls

  abbrev pub QuietAt : At → At → Type 0
  QuietAt a b = Quiet (fences_at a) a.event a.out.letters (fences_at b) b.event b.out.letters

  pub same : {f : Fences} {n : EventName} {ls : Letters} → Quiet f n ls f n ls
  same = record { fences = refl; event = refl; undone = λ d. d }

  pub quiet_then : {f g h : Fences} {n k l : EventName} {ks ls ms : Letters} → Quiet f n ks g k ls → Quiet g k ls h l ms → Quiet f n ks h l ms
  quiet_then x y = record { fences = y.fences ∙ x.fences; event = y.event ∙ x.event; undone = λ d. y.undone (x.undone d) }

  pub none : {f : Fences} {n : EventName} {ls : Letters} → n ≡ e → NoneDone ls → Acts f [] f n ls
  none h d = record { fences = refl; event = h; sends = tt; undone = d }

  pub quietly : {f g : Fences} {n k : EventName} {ks ls : Letters} → Quiet f n ks g k ls → n ≡ e → NoneDone ks → Acts f [] g k ls
  quietly x h d = record { fences = x.fences; event = x.event ∙ h; sends = tt; undone = x.undone d }

  pub acted_then : {f g h : Fences} {n k l : EventName} {ks ls ms : Letters} {xs ys : List Act} → (n ≡ e → NoneDone ks → Acts f xs g k ls) → (k ≡ e → NoneDone ls → Acts g ys h l ms) → n ≡ e → NoneDone ks → Acts f (ys ++ xs) h l ms
  acted_then {f = f} {xs = xs} {ys = ys} x y h d =
      let p = x h d in
      let q = y p.event p.undone in
      record { fences = q.fences ∙ ap (after_acts v ys) p.fences ∙ sym (after_append v ys xs f); event = q.event; sends = all_append (IsSentBy e) ys xs q.sends p.sends; undone = q.undone }

  pub quiet_behind : {f g h : Fences} {n k l : EventName} {ks ls ms : Letters} {xs : List Act} → (n ≡ e → NoneDone ks → Acts f xs g k ls) → Quiet g k ls h l ms → n ≡ e → NoneDone ks → Acts f xs h l ms
  quiet_behind x y h d = let p = x h d in record { fences = y.fences ∙ p.fences; event = y.event ∙ p.event; sends = p.sends; undone = y.undone p.undone }

  pub quiet_first : {f g h : Fences} {n k l : EventName} {ks ls ms : Letters} {xs : List Act} → Quiet f n ks g k ls → (k ≡ e → NoneDone ls → Acts g xs h l ms) → n ≡ e → NoneDone ks → Acts f xs h l ms
  quiet_first {xs = xs} x y h d = let q = y (x.event ∙ h) (x.undone d) in record { fences = q.fences ∙ ap (after_acts v xs) x.fences; event = q.event; sends = q.sends; undone = q.undone }

  -- ---- what changes no fence

  pub behind_quiet : {R : Type 0} (d : Vat R) (a : At) → Still d → QuietAt a (behind d a)
  behind_quiet d a h = record { fences = ap (λ s. reading base v s (afters e a.out.letters) (travelling before e a.out.letters a.out.publications)) (h (under a)); event = refl; undone = λ d. d }

  sought_quiet : (x : Name) (m : Option Bind) (a : At) → QuietAt a (sought_in x m a)
  sought_quiet x (Some b) a = same
  sought_quiet x None a = same

  seeking_quiet : (x : Name) (a : At) → QuietAt a (seeking x a)
  seeking_quiet x a = sought_quiet x (lookup a.nouns x) a

  slot_read_quiet : (i : Option SlotId) (a : At) → QuietAt a (slot_read i a)
  slot_read_quiet (Some i) a = same
  slot_read_quiet None a = same

  pub noun_quiet : (x : Name) (a : At) → QuietAt a (noun_read x a)
  noun_quiet x a = quiet_then (seeking_quiet x a) (slot_read_quiet (sought_slot x a) (seeking x a))

  pub bound_quiet : (own : Bool) (x : Name) (b : Bind) (a : At) → QuietAt a (bound_in own x b a)
  bound_quiet true x b a = same
  bound_quiet false x b a = same

  pub matched_quiet : (p : Pattern) (w : Val) (a : At) → QuietAt a (matched p w a)
  matched_quiet (pattern.Name x) w a = bound_quiet a.own_scope x (fixed w) a
  matched_quiet pattern.Ignore w a = same

  pub defined_quiet : (p : Pattern) (o : End) (a : At) → QuietAt a (defined p o a)
  defined_quiet p (value w) a = matched_quiet p w a
  defined_quiet p (halt h) a = same

  all_quiet : (ps : List Pattern) (vs : Vals) (a : At) → QuietAt a (matched_all ps vs a)
  all_quiet [] vs a = same
  all_quiet (p ∷ ps) no_vals a = same
  all_quiet (p ∷ ps) (and_val w vs) a = quiet_then (matched_quiet p w a) (all_quiet ps vs (matched p w a))

  pub parts_quiet : (ps : List Pattern) (l : Listing) (a : At) → QuietAt a (parts_bound ps l a)
  parts_quiet ps (listed vs) a = all_quiet ps vs a
  parts_quiet ps (unlisted o) a = same

  variable_quiet : (room : Bool) (x : Name) (w : Val) (a : At) → QuietAt a (variable_made room x w a)
  variable_quiet true x w a = bound_quiet a.own_scope x (slot (next_slot a)) (slot_made w a)
  variable_quiet false x w a = same

  pub declared_quiet : (x : Name) (o : End) (a : At) → QuietAt a (declared x o a)
  declared_quiet x (value w) a = variable_quiet (has_room a) x w a
  declared_quiet x (halt h) a = same

  slot_put_quiet : (w : Val) (i : Option SlotId) (a : At) → QuietAt a (slot_put w i a)
  slot_put_quiet w (Some i) a = same
  slot_put_quiet w None a = same

  pub assigned_quiet : (x : Name) (o : End) (a : At) → QuietAt a (assigned x o a)
  assigned_quiet x (value w) a = quiet_then (seeking_quiet x a) (slot_put_quiet w (sought_slot x a) (seeking x a))
  assigned_quiet x (halt h) a = same

  pub captures_quiet : (c : Capture) (xs : List Name) (a : At) → QuietAt a (all_sought c xs a)
  captures_quiet c [] a = same
  captures_quiet (captured ns) (x ∷ xs) a = quiet_then (seeking_quiet x a) (captures_quiet (and_captured (captured ns) x (sought x a)) xs (seeking x a))
  captures_quiet (missing y) (x ∷ xs) a = same

  placed_quiet : (room : Bool) (p : Pattern) (o : Plain) (a : At) → QuietAt a (placed room p o a)
  placed_quiet true p o a = matched_quiet p (object (next_object a)) (object_made o a)
  placed_quiet false p o a = same

  made_quiet : (p : Pattern) (ms : Methods) (c : Capture) (a : At) → QuietAt a (with_object p ms c a)
  made_quiet p ms (captured ns) a = placed_quiet (has_object_room a) p (record { own = p; captured = ns; methods = ms }) a
  made_quiet p ms (missing x) a = same

  pub object_quiet : (p : Pattern) (ms : Methods) (a : At) → QuietAt a (with_object p ms (capture_of p ms a) (capturing p ms a))
  object_quiet p ms a = quiet_then (captures_quiet (captured []) (captures p ms) a) (made_quiet p ms (capture_of p ms a) (capturing p ms a))

  data_with_still : (b : Bool) (w : Val) (verb : Name) (u : Val) → Still (data_with b w verb u)
  data_with_still true w verb u = still_then (ended u) (λ x. over (data_reply w verb (and_val x no_vals))) (ended_still u) (λ x u. refl)
  data_with_still false w verb u = λ k. refl

  data_still : (w : Val) (verb : Name) (vs : Vals) → Still (data_of w verb vs)
  data_still w verb no_vals = λ u. refl
  data_still w verb (and_val x no_vals) = data_with_still (wants_datum w verb) w verb x
  data_still w verb (and_val x (and_val y vs)) = λ u. refl

  callee_quiet : (m : Callee) (u : Val) (verb : Name) (vs : Vals) (a : At) → QuietAt a (callee_read m u verb vs a)
  callee_quiet (on_object i) u verb vs a = same
  callee_quiet (on_ejector j) u verb vs a = same
  callee_quiet on_datum u verb vs a = behind_quiet (data_of u verb vs) a (data_still u verb vs)
  callee_quiet on_far u verb vs a = same

  pub called_quiet : (w : Val) (verb : Name) (g : Gather) (a : At) → QuietAt a (called w verb g a)
  called_quiet w verb (values vs) a = quiet_then (behind_quiet (ended w) a (ended_still w)) (callee_quiet (callee_of a.vat (receiver w a)) (receiver w a) verb vs (receiver_read w a))
  called_quiet w verb (halted h) a = same

  pub datum_quiet : (o : End) (a : At) → QuietAt a (datum_read o a)
  datum_quiet (value w) a = behind_quiet (ended w) a (ended_still w)
  datum_quiet (halt h) a = same

  both_still : (w u : Val) → Still (both_settled w u)
  both_still w u =
      let last : Val → Val → Vat (Making (Val × Val)) = λ x y. over (makes (x, y)) in
      let rest : Val → Vat (Making (Val × Val)) = λ x. and_then (settled u) (of_settled (last x)) in
      still_then (settled w) (of_settled rest) (settled_still w) (λ o. of_settled_still rest o (λ x. still_then (settled u) (of_settled (last x)) (settled_still u) (λ o. of_settled_still (last x) o (λ y u. refl))))

  pub same_quiet : (w : Val) (o : End) (a : At) → QuietAt a (same_read w o a)
  same_quiet w (value u) a = behind_quiet (both_settled w u) a (both_still w u)
  same_quiet w (halt h) a = same

  pairs_quiet : (m : Making ObjId) (a : At) → QuietAt a (pair_out m a)
  pairs_quiet (refused why) a = same
  pairs_quiet (makes n) a = same

  pub pair_quiet : (a : At) → QuietAt a (pair_out (given_by (promise_pair a) a) (behind (promise_pair a) a))
  pair_quiet a = quiet_then (behind_quiet (promise_pair a) a (promising_still (has_object_room a) (next_promise a a.vat) (next_object a))) (pairs_quiet (given_by (promise_pair a) a) (behind (promise_pair a) a))

  -- ---- a when: it is sent after nothing, and nothing travels in it

  silent : (x q : Bool) → (x || (q && false)) ≡ x
  silent x q = ap (λ b. x || b) (and_none q) ∙ or_false x

  waits_quiet : (w : When) (m : Making PromId) (a : At) → QuietAt a (wait_out w m a)
  waits_quiet w (refused why) a = same
  waits_quiet w (makes c) a =
      let ls : List (MsgId × Message) = a.out.letters in
      let l : MsgId × Message = (next_message a, when_message a.vat (next_promise a a.vat) w) in
      record {
        fences = λ i. reading base v (fences_in a.state) (λ n m. (afters_more e ls l n m ∙ silent (afters e ls n m) (same_message (number e ls) n)) i)
            (λ c r m. (travelling_more before e ls a.out.publications l c r m ∙ silent (travelling before e ls a.out.publications c r m) (same_carrier (argument (number e ls)) c)) i);
        event = refl;
        undone = λ d. one_more ls l d refl;
      }

  waited_quiet : (c : Capture) (body : Trees) (handler : Option Handler) (w : Val) (a : At) → QuietAt a (waited c body handler w a)
  waited_quiet (captured ns) body handler w a =
      quiet_then (behind_quiet (wait_of w a) a (waiting_still (has_message_room a) (next_promise a a.vat) w))
      (waits_quiet (record { value = w; captured = ns; block = body; handler = handler }) (given_by (wait_of w a) a) (behind (wait_of w a) a))
  waited_quiet (missing x) body handler w a = same

  pub when_quiet : (body : Trees) (handler : Option Handler) (o : End) (a : At) → QuietAt a (when_made body handler o a)
  when_quiet body handler (value w) a = quiet_then (captures_quiet (captured []) (handled_names body handler) a) (waited_quiet (when_capture body handler a) body handler w (when_capturing body handler a))
  when_quiet body handler (halt h) a = same

  -- ---- a send

  left_sends : (c : Carrier) (rs : List Reference) → AllByRecursion (IsSentBy e) (left_in c rs)
  left_sends c [] = tt
  left_sends c (r ∷ rs) = all_append (IsSentBy e) (left_in c rs) _ (left_sends c rs) (tt, tt)

  on_sends : (m : MsgId) (o : Option Reference) → m.event ≡ e → AllByRecursion (IsSentBy e) (sent_on m o)
  on_sends m None h = tt
  on_sends m (Some t) h = (h, tt)

  out_acts : (verb : Name) (m : Making Sent) (w : Under Cell Content) (a : At) → SentTo (next_message a) (fences_in a.state) m (fences_in w.state) → Acted a (message_acts (next_message a) m) (send_out verb m (with_under w a))
  out_acts verb (refused why) w a h i d = record { fences = ap (λ s. reading base v s (afters e a.out.letters) (travelling before e a.out.letters a.out.publications)) h; event = i; sends = tt; undone = d }
  out_acts verb (makes x) w a h i d =
      let ls : List (MsgId × Message) = a.out.letters in
      let m : MsgId = next_message a in
      let its : number e ls ≡ m = ap (λ n. record { event = n; index = length ls }) (sym i) in
      let l : MsgId × Message = (m, call_message a.vat verb x) in
      let s : Sets = fences_in a.state in
      let o : Option Reference = reference_in x.target in
      let rs : List Reference = each_once [] (references_in x.arguments) in
      let c : Carrier → Sets = travelling before e ls a.out.publications in
      let f : Fences = fences_at a in
      let went : (n k : MsgId) → afters e (ls ++ l ∷ []) n k ≡ with_after m (sent_names o s) (afters e ls) n k = λ n k.
      afters_more e ls l n k ∙ (λ j. afters e ls n k || (same_message (its j) n && h.after k j)) in
      let took : (d : Carrier) (r : Reference) (k : MsgId) → travelling before e (ls ++ l ∷ []) a.out.publications d r k ≡ with_all (argument m) rs (sent_sets m o s) c d r k = λ d r k.
      travelling_more before e ls a.out.publications l d r k ∙ (λ j. c d r k || (same_carrier (argument (its j)) d && h.fences r k j))
      ∙ ap (λ b. c d r k || b) (and_assoc (same_carrier (argument m) d) (among rs r) (fences_in w.state r k))
      ∙ ap (λ (t : Sets). c d r k || ((same_carrier (argument m) d && among rs r) && t r k)) h.moved in
      record {
        fences = (λ j. reading base v (h.moved j) (λ n k. went n k j) (λ d r k. took d r k j))
            ∙ sym (left_all base v (argument m) rs (sent_sets m o s) (with_after m (sent_names o s) (afters e ls)) c)
            ∙ sym (ap (after_acts v (leaving_in (argument m) (references_in x.arguments))) (sent_all base v m o s (afters e ls) c))
            ∙ sym (after_append v (leaving_in (argument m) (references_in x.arguments)) (sent_on m o) f);
        event = i;
        sends = all_append (IsSentBy e) (leaving_in (argument m) (references_in x.arguments)) (sent_on m o) (left_sends (argument m) rs) (on_sends m o i);
        undone = one_more ls l d (placed_undone (same_vat a.vat (goes_to a.vat x.target)) (goes_to a.vat x.target));
      }

  pub sent_acts : (verb : Name) (w : Val) (g : Gather) (a : At) → Acted a (send_acts w g a) (sent_at verb w g a)
  sent_acts verb w (values vs) a =
      out_acts verb (given_by (send_of w vs a) a) (play same_cell (send_of w vs a) (under a)).1 a (sending_makes a.vat (next_message a) (next_promise a) (has_message_room a) w vs (under a))
  sent_acts verb w (halted h) a = none

  -- ---- a publication

  unless_sends : (q : Bool) (p : PromId) (w : Val) → AllByRecursion (IsSentBy e) (left_unless q p w)
  unless_sends true p w = tt
  unless_sends false p w = left_sends (published p) (each_once [] (references w))

  or_true : (x : Bool) → (x || true) ≡ true
  or_true true = refl
  or_true false = refl

  -- what is published leaves, if it counts
  module _ (s : Sets) (a : MsgId → MsgId → Bool) (ls : List (MsgId × Message)) (bs : List (PromId × post.Published)) (p : PromId) (b : post.Published) where
    -- with these publications
    abbrev publishing_reads : List (PromId × post.Published) → Fences
    publishing_reads cs = reading base v s a (travelling before e ls cs)

    counts : (q : Bool) → is_published p bs ≡ false → before p ≡ q → ((r : Reference) (m : MsgId) → member (names_for b.fences r) m ≡ (among (each_once [] (references b.value)) r && s r m))
        → publishing_reads (bs ++ (p, b) ∷ []) ≡ after_acts v (left_unless (q || false) p b.value) (publishing_reads bs)
    counts true k i h = λ j. reading base v s a (λ c r m. (published_more before e ls bs p b k c r m ∙ ap (λ q. travelling before e ls bs c r m || (same_carrier (published p) c && (not q && member (names_for b.fences r) m))) i
        ∙ silent (travelling before e ls bs c r m) (same_carrier (published p) c)) j)
    counts false n i h =
        (λ j. reading base v s a (λ c r m. (published_more before e ls bs p b n c r m ∙ (λ k. travelling before e ls bs c r m || (same_carrier (published p) c && (not (i k) && h r m k)))
        ∙ ap (λ q. travelling before e ls bs c r m || q) (and_assoc (same_carrier (published p) c) (among (each_once [] (references b.value)) r) (s r m))) j))
        ∙ sym (left_all base v (published p) (each_once [] (references b.value)) s a (travelling before e ls bs))

    leaves : (q : Bool) → is_published p bs ≡ q → ((r : Reference) (m : MsgId) → member (names_for b.fences r) m ≡ (among (each_once [] (references b.value)) r && s r m))
        → publishing_reads (cond q bs (bs ++ (p, b) ∷ [])) ≡ after_acts v (left_unless (before p || q) p b.value) (publishing_reads bs)
    leaves true i h = ap (λ q. after_acts v (left_unless q p b.value) (publishing_reads bs)) (sym (or_true (before p)))
    leaves false i h = counts (before p) i refl h

  -- of a state and an outbox
  pub publication_acts : (p : PromId) (b : Published) (s t : State) (out more : Outbox) → PublishedBy p (fences_in s) b (fences_in t) → more.letters ≡ out.letters → more.publications ≡ and_publication p (record { value = b.value; fences = b.fences }) out.publications
      → (turn_fences base v before e t more ≡ after_acts v (published_acts before p b out) (turn_fences base v before e s out)) × AllByRecursion (IsSentBy e) (published_acts before p b out)
  publication_acts p b s t out more h l q =
      let its : post.Published = record { value = b.value; fences = b.fences } in
      let a : MsgId → MsgId → Bool = afters e out.letters in
      let bs : List (PromId × post.Published) = out.publications in
      let cs : List (PromId × post.Published) = and_publication p its bs in
      let lefts : List Act = left_unless (before p || is_published p bs) p b.value in (
        (λ j. reading base v (h.moved j) (afters e (l j)) (travelling before e (l j) (q j)))
            ∙ sym (join_all base v p b.joined (fences_in s) a (travelling before e out.letters cs))
            ∙ ap (after_acts v (joined_to p b.joined)) (leaves (fences_in s) a out.letters bs p its (is_published p bs) refl h.fences)
            ∙ sym (after_append v (joined_to p b.joined) lefts (turn_fences base v before e s out)),
        all_append (IsSentBy e) (joined_to p b.joined) lefts (join_sends e p b.joined) (unless_sends (before p || is_published p bs) p b.value),
      )

  uses_act : (p : PromId) (m : Making Published) (w : Under Cell Content) (a : At) → PublishedTo p (fences_in a.state) m (fences_in w.state) → Acted a (resolver_acts before p m a.out) (resolver_out p m (with_under w a))
  uses_act p (refused why) w a h i d = record { fences = ap (λ s. reading base v s (afters e a.out.letters) (travelling before e a.out.letters a.out.publications)) h; event = i; sends = tt; undone = d }
  uses_act p (makes b) w a h i d = let x = publication_acts p b a.state w.state a.out (published_out p b a.out) h refl refl in record { fences = x.0; event = i; sends = x.1; undone = d }

  pub used_acts : (p : PromId) (d : Vat (Making Published)) (a : At) → Makes (PublishedTo p) d → Acted a (resolver_acts before p (given_by d a) a.out) (resolver_out p (given_by d a) (behind d a))
  used_acts p d a h = uses_act p (given_by d a) (play same_cell d (under a)).1 a (h (under a))
