-- What holds all through a turn: which promises it made, which resolvers it has, and what it published.
use Rattle.std.proofs.Common.{◌≡◌, ℕ, ◌+◌, ◌<◌, ◌≤◌, Bool, true, false, cond, List, [], ◌∷◌, ◌++◌, true≢false, inl, inr, ◌⊎◌, ⊎_elim, nat_eq, eq-eqb, refl, sym, ap, ◌∙◌, subst, arith}
use Rattle.std.specs.List.{AllByRecursion}
use Rattle.std.proofs.lemmas.Bool.{and_from, false_from_ne_true}
use Rattle.history.proofs.Lists.{all_map}
use Rattle.ids.specs.declared.names.EventName.{EventName}
use Rattle.ids.specs.declared.names.VatNo.{VatNo}
use Rattle.ids.specs.declared.names.MsgId.{MsgId}
use Rattle.ids.specs.declared.names.PromId.{PromId}
use Rattle.ids.specs.declared.names.ObjId.{ObjId}
use Rattle.refs.specs.Walks.{same_promise}
use Rattle.heap.specs.State.{State}
use Rattle.post.specs.Messages.{Message, Published}
use Rattle.eval_rules.specs.At.{At}
use Rattle.eval_rules.specs.Outbox.{Note, is_published, and_publication, Outbox}
use Rattle.eval_rules.specs.Doings.{posted, noted}
use Rattle.event_ordering.proofs.Acted.{all_append}
use Rattle.event_publishing.specs.Publishing.{EachOnce}
use Rattle.event_publishing.proofs.Calm.{knows, HasResolver}
use Rattle.event_publishing.proofs.Quiet.{Quiet}

-- ---- lists

same_itself : (p : PromId) → same_promise p p ≡ true
same_itself p = and_from (nat_eq p.event.0 p.event.0) _ (eq-eqb p.event.0 p.event.0 refl) (and_from (nat_eq p.index p.index) _ (eq-eqb p.index p.index refl) (eq-eqb p.home.0.0 p.home.0.0 refl))

-- a promise that was not published is none of those that were
others : (p : PromId) (bs : List (PromId × Published)) → is_published p bs ≡ false → AllByRecursion (λ b. p ≡ b.0 → ⊥) bs
others p [] h = tt
others p (b ∷ bs) h = go (same_promise p b.0) refl h (others p bs)
  where
    go : (q : Bool) → same_promise p b.0 ≡ q → cond q true (is_published p bs) ≡ false → (is_published p bs ≡ false → AllByRecursion (λ b. p ≡ b.0 → ⊥) bs) → AllByRecursion (λ b. p ≡ b.0 → ⊥) (b ∷ bs)
    go true e h more = absurd (true≢false h)
    go false e h more = (λ i. true≢false (sym (subst (λ q. same_promise p q ≡ true) i (same_itself p)) ∙ e), more h)

-- so it may be published behind them
once_more : (bs : List (PromId × Published)) (p : PromId) (x : Published) → AllByRecursion (λ b. p ≡ b.0 → ⊥) bs → EachOnce bs → EachOnce (bs ++ (p, x) ∷ [])
once_more [] p x h o = (tt, tt)
once_more (b ∷ bs) p x h o = (all_append (λ d. d.0 ≡ b.0 → ⊥) bs ((p, x) ∷ []) o.0 (h.0, tt), once_more bs p x h.1 o.1)

pub published_once : (bs : List (PromId × Published)) (p : PromId) (x : Published) → EachOnce bs → EachOnce (and_publication p x bs)
published_once bs p x o = go (is_published p bs) refl
  where
    go : (q : Bool) → is_published p bs ≡ q → EachOnce (cond q bs (bs ++ (p, x) ∷ []))
    go true e = o
    go false e = once_more bs p x (others p bs e) o

-- what holds of a publication and of all before holds of all
pub all_published : (P : PromId × Published → Type 0) (bs : List (PromId × Published)) (p : PromId) (x : Published) → AllByRecursion P bs → P (p, x) → AllByRecursion P (and_publication p x bs)
all_published P bs p x h g = go (is_published p bs)
  where
    go : (q : Bool) → AllByRecursion P (cond q bs (bs ++ (p, x) ∷ []))
    go true = h
    go false = all_append P bs ((p, x) ∷ []) h (g, tt)

-- ---- the messages that a turn makes

abbrev pub Letters : Type 0
Letters = List (MsgId × Message)

-- the results of messages are the event's, with numbers that rise from one to another
abbrev pub Rise : EventName → ℕ → ℕ → Letters → Type 0
Rise e i n [] = i ≤ n
Rise e i n (l ∷ ls) = (l.1.result.event ≡ e) × (i ≤ l.1.result.index) × Rise e (l.1.result.index + 1) n ls

rise_on : (e : EventName) (i n : ℕ) (ls : Letters) → Rise e i n ls → Rise e i (n + 1) ls
rise_on e i n [] h = omega (arith, h)
rise_on e i n (l ∷ ls) h = (h.0, h.1, rise_on e (l.1.result.index + 1) n ls h.2)

rise_more : (e : EventName) (i n : ℕ) (ls : Letters) (l : MsgId × Message) → l.1.result.event ≡ e → l.1.result.index ≡ n → Rise e i n ls → Rise e i (n + 1) (ls ++ l ∷ [])
rise_more e i n [] l event index h = (event, omega (arith, h, index), omega (arith, index))
rise_more e i n (x ∷ ls) l event index h = (h.0, h.1, rise_more e (x.1.result.index + 1) n ls l event index h.2)

rise_up : (e : EventName) (i n : ℕ) (ls : Letters) → Rise e i n ls → i ≤ n
rise_up e i n [] h = h
rise_up e i n (l ∷ ls) h = let g : l.1.result.index + 1 ≤ n = rise_up e (l.1.result.index + 1) n ls h.2 in omega (arith, h.1, g)

-- none of them has a later number
rise_below : (e : EventName) (i n : ℕ) (ls : Letters) (p : PromId) → n ≤ p.index → Rise e i n ls → AllByRecursion (λ l. l.1.result ≡ p → ⊥) ls
rise_below e i n [] p q h = tt
rise_below e i n (l ∷ ls) p q h =
    let g : l.1.result.index + 1 ≤ n = rise_up e (l.1.result.index + 1) n ls h.2 in
    (λ s. let j : l.1.result.index ≡ p.index = ap (λ (x : PromId). x.index) s in absurd (omega (arith, g, q, j)), rise_below e (l.1.result.index + 1) n ls p q h.2)

-- ---- the promises that a turn makes with their resolvers

-- it is the event's, at home in the vat, and no message resolves it
pub record Paired (e : EventName) (v : VatNo) (n : ℕ) (ls : Letters) (p : PromId) : Type 0 where
  pub event : p.event ≡ e
  pub home : p.home ≡ v
  pub index : p.index < n
  pub alone : AllByRecursion (λ l. l.1.result ≡ p → ⊥) ls

paired_more : (e : EventName) (v : VatNo) (n : ℕ) (ls : Letters) (l : MsgId × Message) (p : PromId) → l.1.result.index ≡ n → Paired e v n ls p → Paired e v (n + 1) (ls ++ l ∷ []) p
paired_more e v n ls l p index h = record {
  event = h.event;
  home = h.home;
  index = omega (arith, h.index);
  alone = all_append (λ l. l.1.result ≡ p → ⊥) ls (l ∷ []) h.alone (λ s. let j : l.1.result.index ≡ p.index = ap (λ (x : PromId). x.index) s in absurd (omega (arith, h.index, index, j)), tt);
}

paired_on : (e : EventName) (v : VatNo) (n : ℕ) (ls : Letters) (p : PromId) → Paired e v n ls p → Paired e v (n + 1) ls p
paired_on e v n ls p h = record { event = h.event; home = h.home; index = omega (arith, h.index); alone = h.alone }

-- the vat may resolve the promise: by a resolver from before the turn, or one that the turn made
abbrev pub Owns : EventName → VatNo → State → ℕ → Letters → PromId → Type 0
Owns e v s n ls p = ((i : ObjId) × HasResolver s i p) ⊎ Paired e v n ls p

owns_by : (e : EventName) (v : VatNo) (s : State) (n k : ℕ) (ls ks : Letters) (p : PromId) → (Paired e v n ls p → Paired e v k ks p) → Owns e v s n ls p → Owns e v s k ks p
owns_by e v s n k ls ks p f = ⊎_elim inl (λ h. inr (f h))

-- a promise was resolved: it was open before the turn, and is known now
pub record Resolved (e : EventName) (v : VatNo) (s : State) (ks : PromId → Bool) (n : ℕ) (ls : Letters) (p : PromId) : Type 0 where
  pub owned : Owns e v s n ls p
  pub open_before : knows s p ≡ false
  pub known_now : ks p ≡ true

-- of a publication
abbrev pub IsResolved : EventName → VatNo → State → (PromId → Bool) → ℕ → Letters → PromId × Published → Type 0
IsResolved e v s ks n ls b = Resolved e v s ks n ls b.0

-- ---- a turn

-- a turn that began with these cells runs, and has this: what it knows, its resolvers, and what it has made
pub record Orderly (e : EventName) (v : VatNo) (s : State) (n : EventName) (u : VatNo) (ks : PromId → Bool) (rs : ObjId → PromId → Type 0) (o : Outbox) : Type 0 where
  pub event : n ≡ e
  pub vat : u ≡ v
  pub known : (p : PromId) → knows s p ≡ true → ks p ≡ true
  pub resolvers : (i : ObjId) (p : PromId) → rs i p → HasResolver s i p ⊎ ((i.vat ≡ v) × Paired e v o.promises o.letters p)
  pub letters : Rise e 0 o.promises o.letters
  pub published : AllByRecursion (IsResolved e v s ks o.promises o.letters) o.publications
  pub once : EachOnce o.publications

module _ (e : EventName) (v : VatNo) (s : State) where
  -- so it is where an evaluation stands
  abbrev pub OrderlyAt : At → Type 0
  OrderlyAt a = Orderly e v s a.event a.vat (knows a.state) (HasResolver a.state) a.out

  pub quietly : {n k : EventName} {u x : VatNo} {ks ls : PromId → Bool} {rs ts : ObjId → PromId → Type 0} {o p : Outbox} → Quiet ks rs n u o ls ts k x p → Orderly e v s n u ks rs o → Orderly e v s k x ls ts p
  quietly {k = k} {x = x} {ks = ks} {ls = ls} {ts = ts} {o = o} q h = subst (Orderly e v s k x ls ts) (sym q.out) (record {
    event = q.event ∙ h.event;
    vat = q.vat ∙ h.vat;
    known = λ p k. q.calm.known p (h.known p k);
    resolvers = λ i p r. h.resolvers i p (q.calm.resolvers i p r);
    letters = h.letters;
    published = all_map (IsResolved e v s ks o.promises o.letters) (IsResolved e v s ls o.promises o.letters) o.publications (λ b r. record { owned = r.owned; open_before = r.open_before; known_now = q.calm.known b.0 r.known_now }) h.published;
    once = h.once;
  })

  -- a message goes out, and with it the next promise is made
  pub posted_orderly : {n : EventName} {u : VatNo} {ks : PromId → Bool} {rs : ObjId → PromId → Type 0} (m : MsgId) (g : Message) (ns : List Note) (o : Outbox) → g.result.event ≡ e → g.result.index ≡ o.promises → Orderly e v s n u ks rs o
      → Orderly e v s n u ks rs (noted ns (posted m g o))
  posted_orderly {ks = ks} m g ns o event index h = record {
    event = h.event;
    vat = h.vat;
    known = h.known;
    resolvers = λ i p r. ⊎_elim inl (λ x. inr (x.0, paired_more e v o.promises o.letters (m, g) p index x.1)) (h.resolvers i p r);
    letters = rise_more e 0 o.promises o.letters (m, g) event index h.letters;
    published = all_map (IsResolved e v s ks o.promises o.letters) (IsResolved e v s ks (o.promises + 1) (o.letters ++ (m, g) ∷ [])) o.publications
        (λ b r. record { owned = owns_by e v s o.promises (o.promises + 1) o.letters (o.letters ++ (m, g) ∷ []) b.0 (paired_more e v o.promises o.letters (m, g) b.0 index) r.owned; open_before = r.open_before; known_now = r.known_now }) h.published;
    once = h.once;
  }

  -- a promise is made with its resolver
  pub paired_orderly : {n : EventName} {u : VatNo} {ks ls : PromId → Bool} {rs ts : ObjId → PromId → Type 0} (j : ObjId) (q : PromId) (o : Outbox) → j.vat ≡ v → q.event ≡ e → q.index ≡ o.promises → q.home ≡ v
      → ((p : PromId) → ks p ≡ true → ls p ≡ true) → ((i : ObjId) (p : PromId) → ts i p → rs i p ⊎ ((i ≡ j) × (p ≡ q))) → Orderly e v s n u ks rs o → Orderly e v s n u ls ts (record o { promises = o.promises + 1 })
  paired_orderly {ks = ks} {ls = ls} j q o at event index home known one h = record {
    event = h.event;
    vat = h.vat;
    known = λ p k. known p (h.known p k);
    resolvers = λ i p r. ⊎_elim (λ x. ⊎_elim inl (λ y. inr (y.0, paired_on e v o.promises o.letters p y.1)) (h.resolvers i p x)) (λ x. inr (ap (λ (y : ObjId). y.vat) x.0 ∙ at, subst (Paired e v (o.promises + 1) o.letters) (sym x.1) new)) (one i p r);
    letters = rise_on e 0 o.promises o.letters h.letters;
    published = all_map (IsResolved e v s ks o.promises o.letters) (IsResolved e v s ls (o.promises + 1) o.letters) o.publications
        (λ b r. record { owned = owns_by e v s o.promises (o.promises + 1) o.letters o.letters b.0 (paired_on e v o.promises o.letters b.0) r.owned; open_before = r.open_before; known_now = known b.0 r.known_now }) h.published;
    once = h.once;
  }
    where
      new : Paired e v (o.promises + 1) o.letters q
      new = record { event = event; home = home; index = omega (arith, index); alone = rise_below e 0 o.promises o.letters q (omega (arith, index)) h.letters }

  -- a promise that was open, and which the vat may resolve, is published
  pub resolved_orderly : {n : EventName} {u : VatNo} {ks ls : PromId → Bool} {rs ts : ObjId → PromId → Type 0} (p : PromId) (x : Published) (ns : List Note) (o : Outbox) → Owns e v s o.promises o.letters p → ks p ≡ false → ls p ≡ true
      → ((q : PromId) → ks q ≡ true → ls q ≡ true) → ((i : ObjId) (q : PromId) → ts i q → rs i q) → Orderly e v s n u ks rs o
      → Orderly e v s n u ls ts (record o { publications = and_publication p x o.publications; notes = o.notes ++ ns })
  resolved_orderly {ks = ks} {ls = ls} p x ns o owned was is known same h = record {
    event = h.event;
    vat = h.vat;
    known = λ q k. known q (h.known q k);
    resolvers = λ i q r. h.resolvers i q (same i q r);
    letters = h.letters;
    published = all_published (IsResolved e v s ls o.promises o.letters) o.publications p x
        (all_map (IsResolved e v s ks o.promises o.letters) (IsResolved e v s ls o.promises o.letters) o.publications (λ b r. record { owned = r.owned; open_before = r.open_before; known_now = known b.0 r.known_now }) h.published)
        (record { owned = owned; open_before = false_from_ne_true (knows s p) (λ k. true≢false (sym (h.known p k) ∙ was)); known_now = is });
    once = published_once o.publications p x h.once;
  }
