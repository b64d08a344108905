-- Single steps of a turn that make something: a message, a promise with its resolver, a publication.
use Rattle.std.proofs.Common.{◌≡◌, ℕ, Bool, true, false, cond, List, [], ◌∷◌, Option, Some, None, codes, inl, inr, ⊎_elim, refl, sym, ap, ◌∙◌, subst}
use Rattle.std.specs.Str.{bytes_eq}
use Rattle.ids.specs.declared.names.EventName.{EventName}
use Rattle.ids.specs.declared.names.VatNo.{VatNo}
use Rattle.ids.specs.declared.names.ObjId.{ObjId}
use Rattle.ids.specs.declared.names.PromId.{PromId}
use Rattle.cells.specs.Doing.{Under, play}
use Rattle.kernele.specs.Tree.{Name, Trees}
use Rattle.kernele.specs.declared.tree.Pattern.{Pattern}
use Rattle.values.specs.Data.{Val, Vals, no_vals, and_val}
use Rattle.heap.specs.State.{Plain, plain, resolver, object_cell, Content, bound, held, made, viewed, fenced, State, read, Cell, same_cell}
use Rattle.post.specs.Delivery.{Handler, When}
use Rattle.sends.specs.Vats.{Vat}
use Rattle.sends.specs.Making.{Making, refused, makes, Sent, Published, resolving, smashing}
use Rattle.eval_rules.specs.At.{At}
use Rattle.eval_rules.specs.Outbox.{sent_note, waits_note, resolved_note}
use Rattle.eval_rules.specs.Outcomes.{End, value, halt, Gather, values, halted}
use Rattle.eval_rules.specs.Doings.{under, with_under, given_by, behind, next_message, next_promise, next_object, has_message_room, has_object_room, call_message, send_of, send_out, sent_at, when_message, wait_of, wait_out, promise_pair, pair_out, resolver_out}
use Rattle.eval_rules.specs.Rules.{Capture, captured, missing, handled_names, when_capture, when_capturing, waited, when_made, Target, gives, enters, uses, method_in, method_target, resolver_target, object_target, no_such_method, Callee, on_object, on_ejector, on_datum, on_far, callee_of, callee_target, target_of, receiver, receiver_read, called}
use Rattle.event_publishing.proofs.Calm.{knows, HasResolver, CalmIn}
use Rattle.event_publishing.proofs.Made.{sending_calm, IsOne, sending_gives, waiting_calm, PairedIn, promising_pairs, UsedIn, Uses, resolving_uses, smashing_uses}
use Rattle.event_publishing.proofs.Quiet.{QuietAt, behind_quiet, captures_quiet, receiver_quiet, called_quiet}
use Rattle.event_publishing.proofs.Orderly.{Letters, Owns, OrderlyAt, quietly, posted_orderly, paired_orderly, resolved_orderly}

module _ (e : EventName) (v : VatNo) (s : State) where
  abbrev Is : At → Type 0
  Is a = OrderlyAt e v s a

  -- ---- a send

  out_orderly : (verb : Name) (m : Making Sent) (a : At) → IsOne a.vat (next_message a) (next_promise a) m → Is a → Is (send_out verb m a)
  out_orderly verb (refused why) a h r = r
  out_orderly verb (makes x) a h r =
      posted_orderly e v s (next_message a) (call_message a.vat verb x) (sent_note (next_message a) ∷ []) a.out (ap (λ (p : PromId). p.event) h.1 ∙ r.event) (ap (λ (p : PromId). p.index) h.1) r

  pub sent_orderly : (verb : Name) (w : Val) (g : Gather) (a : At) → Is a → Is (sent_at verb w g a)
  sent_orderly verb w (values vs) a r =
      out_orderly verb (given_by (send_of w vs a) a) (behind (send_of w vs a) a) (sending_gives a.vat (next_message a) (next_promise a) (has_message_room a) w vs (under a))
      (quietly e v s (behind_quiet (send_of w vs a) a (sending_calm a.vat (next_message a) (next_promise a) (has_message_room a) w vs)) r)
  sent_orderly verb w (halted h) a r = r

  -- ---- a when

  waits_orderly : (w : When) (m : Making PromId) (a : At) → Is a → Is (wait_out w m a)
  waits_orderly w (refused why) a r = r
  waits_orderly w (makes c) a r = posted_orderly e v s (next_message a) (when_message a.vat (next_promise a a.vat) w) (waits_note c (next_message a) ∷ []) a.out r.event refl r

  waited_orderly : (c : Capture) (body : Trees) (handler : Option Handler) (w : Val) (a : At) → Is a → Is (waited c body handler w a)
  waited_orderly (captured ns) body handler w a r =
      waits_orderly (record { value = w; captured = ns; block = body; handler = handler }) (given_by (wait_of w a) a) (behind (wait_of w a) a)
      (quietly e v s (behind_quiet (wait_of w a) a (waiting_calm (has_message_room a) (next_promise a a.vat) w)) r)
  waited_orderly (missing x) body handler w a r = r

  pub when_orderly : (body : Trees) (handler : Option Handler) (o : End) (a : At) → Is a → Is (when_made body handler o a)
  when_orderly body handler (value w) a r =
      waited_orderly (when_capture body handler a) body handler w (when_capturing body handler a)
      (quietly e v s (captures_quiet (captured []) (handled_names body handler) a) r)
  when_orderly body handler (halt h) a r = r

  -- ---- a promise with its resolver

  pairs_orderly : (m : Making ObjId) (w : Under Cell Content) (a : At) → PairedIn (next_object a) (next_promise a a.vat) (knows a.state) (HasResolver a.state) m (knows w.state) (HasResolver w.state) → Is a → Is (pair_out m (with_under w a))
  pairs_orderly (refused why) w a h r = quietly e v s (record { calm = h; event = refl; vat = refl; out = refl }) r
  pairs_orderly (makes n) w a h r = paired_orderly e v s (next_object a) (next_promise a a.vat) a.out r.vat r.event refl r.vat h.known h.resolvers r

  pub pair_orderly : (a : At) → Is a → Is (pair_out (given_by (promise_pair a) a) (behind (promise_pair a) a))
  pair_orderly a r = pairs_orderly (given_by (promise_pair a) a) (play same_cell (promise_pair a) (under a)).1 a (promising_pairs (has_object_room a) (next_promise a a.vat) (next_object a) (under a)) r

  -- ---- the use of a resolver

  uses_orderly : (p : PromId) (m : Making Published) (w : Under Cell Content) (a : At) → Owns e v s a.out.promises a.out.letters p → CalmIn a.state w.state → UsedIn p (knows a.state) m (knows w.state) → Is a → Is (resolver_out p m (with_under w a))
  uses_orderly p (refused why) w a owned c h r = quietly e v s (record { calm = c; event = refl; vat = refl; out = refl }) r
  uses_orderly p (makes b) w a owned c h r = resolved_orderly e v s p (record { value = b.value; fences = b.fences }) (resolved_note p ∷ []) a.out owned h.0 h.1 c.known c.resolvers r

  pub used_orderly : (p : PromId) (d : Vat (Making Published)) (a : At) → Owns e v s a.out.promises a.out.letters p → Uses p d → Is a → Is (resolver_out p (given_by d a) (behind d a))
  used_orderly p d a owned u r = uses_orderly p (given_by d a) (play same_cell d (under a)).1 a owned (u.calm (under a)) (u.once (under a)) r

  -- ---- what a call on a resolver leads to

  -- a target that uses a resolver uses one of the vat's own
  abbrev pub TargetOwns : ℕ → Letters → Target → Type 0
  TargetOwns n ls (gives o) = Unit {0}
  TargetOwns n ls (enters ns body) = Unit {0}
  TargetOwns n ls (uses p d) = Owns e v s n ls p × Uses p d

  module _ (n : ℕ) (ls : Letters) where
    either : (q : Bool) (t u : Target) → TargetOwns n ls t → TargetOwns n ls u → TargetOwns n ls (cond q t u)
    either true t u h g = h
    either false t u h g = g

    resolver_owns : (p : PromId) (verb : Name) (vs : Vals) → Owns e v s n ls p → TargetOwns n ls (resolver_target p verb vs)
    resolver_owns p verb no_vals h = tt
    resolver_owns p verb (and_val w no_vals) h =
        let other : Target = gives (no_such_method verb (and_val w no_vals)) in
        let smash : Target = cond (bytes_eq verb (codes "smash")) (uses p (smashing p w)) other in
        either (bytes_eq verb (codes "resolve")) (uses p (resolving p w)) smash (h, resolving_uses p w) (either (bytes_eq verb (codes "smash")) (uses p (smashing p w)) other (h, smashing_uses p w) tt)
    resolver_owns p verb (and_val w (and_val x vs)) h = tt

    method_owns : (i : ObjId) (o : Plain) (verb : Name) (vs : Vals) (m : Option (List Pattern × Trees)) → TargetOwns n ls (method_target i o verb vs m)
    method_owns i o verb vs (Some m) = tt
    method_owns i o verb vs None = tt

    object_owns : (i : ObjId) (c : Option Content) (verb : Name) (vs : Vals) → ((p : PromId) → c ≡ Some (made (resolver p)) → Owns e v s n ls p) → TargetOwns n ls (object_target i c verb vs)
    object_owns i (Some (made (plain o))) verb vs h = method_owns i o verb vs (method_in o.methods verb vs)
    object_owns i (Some (made (resolver p))) verb vs h = resolver_owns p verb vs (h p refl)
    object_owns i (Some (bound b)) verb vs h = tt
    object_owns i (Some (held w)) verb vs h = tt
    object_owns i (Some (viewed k)) verb vs h = tt
    object_owns i (Some (fenced names)) verb vs h = tt
    object_owns i None verb vs h = tt

  callee_owns : (m : Callee) (w : Val) (verb : Name) (vs : Vals) (a : At) → Is a → TargetOwns a.out.promises a.out.letters (callee_target m w verb vs a)
  callee_owns (on_object i) w verb vs a r =
      object_owns a.out.promises a.out.letters i (read a.state (object_cell i)) verb vs (λ p h. ⊎_elim (λ x. inl (i, x)) (λ x. inr x.1) (r.resolvers i p h))
  callee_owns (on_ejector j) w verb vs a r = tt
  callee_owns on_datum w verb vs a r = tt
  callee_owns on_far w verb vs a r = tt

  pub target_owns : (w : Val) (verb : Name) (g : Gather) (a : At) → Is a → TargetOwns a.out.promises a.out.letters (target_of w verb g a)
  target_owns w verb (values vs) a r =
      callee_owns (callee_of a.vat (receiver w a)) (receiver w a) verb vs (receiver_read w a) (quietly e v s (receiver_quiet w a) r)
  target_owns w verb (halted h) a r = tt

  -- where a call came to a resolver, that is used
  pub call_uses : (w : Val) (verb : Name) (g : Gather) (p : PromId) (d : Vat (Making Published)) (a : At) → target_of w verb g a ≡ uses p d → Is a
      → Is (resolver_out p (given_by d (called w verb g a)) (behind d (called w verb g a)))
  call_uses w verb g p d a is r =
      let c : At = called w verb g a in
      let q : QuietAt a c = called_quiet w verb g a in
      let t : TargetOwns a.out.promises a.out.letters (uses p d) = subst (TargetOwns a.out.promises a.out.letters) is (target_owns w verb g a r) in
      used_orderly p d c (subst (λ o. Owns e v s o.promises o.letters p) (sym q.out) t.0) t.1 (quietly e v s q r)
