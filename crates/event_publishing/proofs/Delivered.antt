-- What a whole turn leaves and publishes.
use Rattle.std.proofs.Common.{◌≡◌, ℕ, Bool, true, false, List, [], ◌∷◌, Option, Some, None, inl, inr, ◌⊎◌, refl, sym, subst, arith}
use Rattle.std.specs.List.{AllByRecursion}
use Rattle.history.proofs.Lists.{all_map}
use Rattle.ids.specs.declared.names.EventName.{EventName}
use Rattle.ids.specs.declared.names.VatNo.{VatNo}
use Rattle.ids.specs.declared.names.PromId.{PromId}
use Rattle.ids.specs.declared.names.ObjId.{ObjId}
use Rattle.eorder.specs.Carried.{Carried}
use Rattle.kernele.specs.Tree.{Name}
use Rattle.values.specs.Data.{Val, null, bool, int, text, list, object, ejector, promise, broken, gives as gives_value, throws}
use Rattle.heap.specs.State.{State, Nouns, fixed}
use Rattle.post.specs.Delivery.{Call, Handler, When, Delivery}
use Rattle.post.specs.Messages.{Message}
use Rattle.post.specs.Messages as post
use Rattle.post.specs.declared.earlier.Earlier.{Earlier}
use Rattle.sends.specs.Vats.{ended, settled, references_in, comes_in, coming_in}
use Rattle.sends.specs.Making.{Published, told as told_value, ending}
use Rattle.eval_rules.specs.At.{At}
use Rattle.eval_rules.specs.Doings.{under, given_by, behind}
use Rattle.eval_rules.specs.Outbox.{and_publication, Outbox}
use Rattle.eval_rules.specs.Outcomes.{End, value, halt, values}
use Rattle.eval_rules.specs.Rules.{Target, binding, called, target_of}
use Rattle.turn_deliveries.specs.Turn.{start, knowing, Found, list_coming, call_coming, handled, when_met, Led, led_gives, led_uses, led_enters, Begins, opens, asks, calls, waits, Told, told, lost, telling, telling_at, ending_at, outcome_by, Outcome, Delivers, delivers}
use Rattle.event_publishing.specs.Publishing.{EachOnce}
use Rattle.event_publishing.proofs.Calm.{knows, HasResolver, CalmIn, all_calm, Calmly, calmly_then, ended_calm, settled_calm, comes_in_calm, coming_in_calm}
use Rattle.event_publishing.proofs.Made.{publishing_calm}
use Rattle.event_publishing.proofs.Quiet.{QuietAt, quiet_then, behind_quiet, bound_quiet, called_quiet, same}
use Rattle.event_publishing.proofs.Orderly.{Letters, Rise, Paired, Resolved, IsResolved, OrderlyAt, quietly, published_once, all_published}
use Rattle.event_publishing.proofs.Stepping.{TargetOwns, target_owns, used_orderly}
use Rattle.event_publishing.proofs.Rules.{items_orderly}

-- what a turn knows at its end, its resolvers, and what it made: what it publishes it has resolved, or it is its result
pub record Turned (e : EventName) (v : VatNo) (s : State) (result : PromId) (ks : PromId → Bool) (rs : ObjId → PromId → Type 0) (n : ℕ) (ls : Letters) (bs : List (PromId × post.Published)) : Type 0 where
  pub known : (p : PromId) → knows s p ≡ true → ks p ≡ true
  pub resolvers : (i : ObjId) (p : PromId) → rs i p → HasResolver s i p ⊎ ((i.vat ≡ v) × Paired e v n ls p)
  pub letters : Rise e 0 n ls
  pub published : AllByRecursion (λ b. (b.0 ≡ result) ⊎ Resolved e v s ks n ls b.0) bs
  pub once : EachOnce bs

abbrev pub TurnedIn : EventName → VatNo → State → PromId → State → Outbox → Type 0
TurnedIn e v s result t o = Turned e v s result (knows t) (HasResolver t) o.promises o.letters o.publications

list_calm : (fs : Carried) (w : Val) → Calmly (list_coming fs w)
list_calm fs null u = all_calm
list_calm fs (bool b) u = all_calm
list_calm fs (int z) u = all_calm
list_calm fs (text x) u = all_calm
list_calm fs (list vs) u = coming_in_calm fs (references_in vs) u
list_calm fs (object i) u = all_calm
list_calm fs (ejector j) u = all_calm
list_calm fs (promise p) u = all_calm
list_calm fs (broken x) u = all_calm

call_calm : (c : Call) (f : Found) → Calmly (call_coming c f)
call_calm c f = calmly_then (coming_in c.fences (references_in c.arguments)) (λ n. list_coming f.fences f.end) (coming_in_calm c.fences (references_in c.arguments)) (λ n. list_calm f.fences f.end)

knowing_quiet : (xs : List Earlier) (a : At) → QuietAt a (knowing xs a)
knowing_quiet [] a = same
knowing_quiet (x ∷ xs) a =
    let b : At = behind (comes_in x.opening) a in
    let c : At = binding x.name (fixed (promise x.opening)) b in
    quiet_then (behind_quiet (comes_in x.opening) a (comes_in_calm x.opening)) (quiet_then (bound_quiet b.own_scope x.name (fixed (promise x.opening)) b) (knowing_quiet xs c))

module _ (e : EventName) (v : VatNo) (s : State) where
  abbrev Is : At → Type 0
  Is a = OrderlyAt e v s a

  -- so it is where a turn begins
  begins_orderly : (own : Bool) (n : ℕ) → Is (start own e v s n)
  begins_orderly own n = record { event = refl; vat = refl; known = λ p k. k; resolvers = λ i p r. inl r; letters = omega arith; published = tt; once = tt }

  abbrev Owns : At → Target → Type 0
  Owns a t = TargetOwns e v s a.out.promises a.out.letters t

  led_orderly : {t : Target} {a b : At} {o : End} → Led t a o b → Owns a t → Is a → Is b
  led_orderly led_gives g h = h
  led_orderly (led_uses {p = p} {d = d} {a = a}) g h = used_orderly e v s p d a g.0 g.1 h
  led_orderly (led_enters r) g h = items_orderly e v s r h

  handled_owns : (a : At) (problem : Name) (ns : Nouns) (h : Option Handler) → Owns a (handled problem ns h)
  handled_owns a problem ns None = tt
  handled_owns a problem ns (Some h) = tt

  when_owns : (a : At) (w : When) (u : Val) → Owns a (when_met w u)
  when_owns a w null = tt
  when_owns a w (bool b) = tt
  when_owns a w (int z) = tt
  when_owns a w (text x) = tt
  when_owns a w (list vs) = tt
  when_owns a w (object i) = tt
  when_owns a w (ejector j) = tt
  when_owns a w (promise p) = tt
  when_owns a w (broken problem) = handled_owns a problem w.captured w.handler

  -- ---- how it ends

  telling_quiet : (o : End) (b : At) → QuietAt b (telling_at o b)
  telling_quiet (value w) b = behind_quiet (settled w) b (settled_calm w)
  telling_quiet (halt h) b = same

  -- a result is published
  result_turned : (result : PromId) (x : post.Published) (b : At) (t : State) → CalmIn b.state t → Is b → Turned e v s result (knows t) (HasResolver t) b.out.promises b.out.letters (and_publication result x b.out.publications)
  result_turned result x b t c h =
      let P : PromId × post.Published → Type 0 = λ d. (d.0 ≡ result) ⊎ Resolved e v s (knows t) b.out.promises b.out.letters d.0 in
      record {
        known = λ p k. c.known p (h.known p k);
        resolvers = λ i p r. h.resolvers i p (c.resolvers i p r);
        letters = h.letters;
        published = all_published P b.out.publications result x
            (all_map (IsResolved e v s (knows b.state) b.out.promises b.out.letters) P b.out.publications (λ d r. inr (record { owned = r.owned; open_before = r.open_before; known_now = c.known d.0 r.known_now })) h.published) (inl refl);
        once = published_once b.out.publications result x h.once;
      }

  ended_turned : (result : PromId) (t : Told) (b : At) → Is b → TurnedIn e v s result (outcome_by s result t (ending_at result t b)).state (outcome_by s result t (ending_at result t b)).out
  ended_turned result (told (gives_value w)) b h =
      let x : Published = given_by (ending result (gives_value w)) b in
      result_turned result (record { value = x.value; fences = x.fences }) b (behind (ending result (gives_value w)) b).state (publishing_calm result (told_value (gives_value w)) (under b)) h
  ended_turned result (told (throws problem)) b h =
      let x : Published = given_by (ending result (throws problem)) b in
      result_turned result (record { value = x.value; fences = x.fences }) b (behind (ending result (throws problem)) b).state (publishing_calm result (told_value (throws problem)) (under b)) h
  ended_turned result (lost why) b h = record { known = λ p k. k; resolvers = λ i p r. inl r; letters = omega arith; published = (inl refl, tt); once = (tt, tt) }

  begun_turned : (result : PromId) (o : End) (b : At) → Is b → TurnedIn e v s result (outcome_by s result (telling o b) (ending_at result (telling o b) (telling_at o b))).state (outcome_by s result (telling o b) (ending_at result (telling o b) (telling_at o b))).out
  begun_turned result o b h = ended_turned result (telling o b) (telling_at o b) (quietly e v s (telling_quiet o b) h)

begun_orderly : {d : Delivery} {f : Found} {e : EventName} {v : VatNo} {s : State} {n : ℕ} {o : End} {b : At} → Begins d f e v s n o b → OrderlyAt e v s b
begun_orderly (opens {earlier = earlier} {e = e} {v = v} {s = s} {n = n} r) =
    let a : At = start true e v s n in
    items_orderly e v s r (quietly e v s (knowing_quiet earlier a) (begins_orderly e v s true n))
begun_orderly (asks {e = e} {v = v} {s = s} {n = n} r) = items_orderly e v s r (begins_orderly e v s false n)
begun_orderly (calls {c = c} {f = f} {e = e} {v = v} {s = s} {n = n} r) =
    let a : At = start false e v s n in
    let x : At = behind (call_coming c f) a in
    let z : At = called f.end c.verb (values c.arguments) x in
    let q : QuietAt x z = called_quiet f.end c.verb (values c.arguments) x in
    let h : OrderlyAt e v s x = quietly e v s (behind_quiet (call_coming c f) a (call_calm c f)) (begins_orderly e v s false n) in
    let t : Target = target_of f.end c.verb (values c.arguments) x in
    led_orderly e v s r (subst (λ (o : Outbox). TargetOwns e v s o.promises o.letters t) (sym q.out) (target_owns e v s f.end c.verb (values c.arguments) x h)) (quietly e v s q h)
begun_orderly (waits {w = w} {e = e} {v = v} {s = s} {n = n} r) =
    let a : At = start false e v s n in
    let x : At = behind (ended w.value) a in
    led_orderly e v s r (when_owns e v s x w (given_by (ended w.value) a)) (quietly e v s (behind_quiet (ended w.value) a (ended_calm w.value)) (begins_orderly e v s false n))

pub delivery_turned : {g : Message} {f : Found} {e : EventName} {v : VatNo} {s : State} {n : ℕ} {o : Outcome} → Delivers g f e v s n o → TurnedIn e v s g.result o.state o.out
delivery_turned (delivers {g = g} {e = e} {v = v} {s = s} {o = o} {b = b} r) = begun_turned e v s g.result o b (begun_orderly r)
