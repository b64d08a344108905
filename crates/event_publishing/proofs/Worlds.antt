-- What holds of promises in the world of a run, and that each event keeps it.
use Rattle.std.proofs.Common.{◌≡◌, Bool, true, false, Some, None, true≢false, inl, inr, ◌⊎◌, ⊎_elim, refl, sym, ap, ◌∙◌, subst}
use Rattle.std.proofs.lemmas.Bool.{false_from_ne_true}
use Rattle.ids.specs.declared.names.EventName.{EventName}
use Rattle.ids.specs.declared.names.VatNo.{VatNo}
use Rattle.ids.specs.declared.names.MsgId.{MsgId}
use Rattle.ids.specs.declared.names.PromId.{PromId}
use Rattle.ids.specs.declared.names.ObjId.{ObjId}
use Rattle.ids.specs.declared.cells.CellKey.TheVariants as key
use Rattle.heap.specs.State.{resolver}
use Rattle.post.specs.Messages.{Message, is_done}
use Rattle.world_cells.specs.World.{made, World, message_of, published_as, vat_state}
use Rattle.event_publishing.proofs.Calm.{knows}

-- the object resolves the promise
abbrev pub ResolverAt : World → ObjId → PromId → Type 0
ResolverAt w i p = w (key.Object i) ≡ Some (made (resolver p))

-- whether a vat knows what a promise was resolved to
abbrev pub knows_at : World → VatNo → PromId → Bool
knows_at w v p = knows (vat_state w v) p

-- in a world of events with these names: results have the names of their messages, and each is that of one message alone and of no
-- resolver; resolvers are where their promises are at home; and no promise was published that is the result of a message which is not
-- done, or which its home does not know though it has a resolver
pub record Sound (old : EventName → Type 0) (w : World) : Type 0 where
  pub named : (m : MsgId) (g : Message) → message_of w m ≡ Some g → old m.event × (g.result.event ≡ m.event)
  pub apart : (m n : MsgId) (g h : Message) → message_of w m ≡ Some g → message_of w n ≡ Some h → g.result ≡ h.result → m ≡ n
  pub waiting : (m : MsgId) (g : Message) → message_of w m ≡ Some g → is_done g.place ≡ false → published_as w g.result ≡ None
  pub resolvers : (i : ObjId) (p : PromId) → ResolverAt w i p → old p.event × (p.home ≡ i.vat)
  pub no_results : (i : ObjId) (p : PromId) (m : MsgId) (g : Message) → ResolverAt w i p → message_of w m ≡ Some g → g.result ≡ p → ⊥
  pub board : (p : PromId) → (old p.event → ⊥) → published_as w p ≡ None
  pub unused : (i : ObjId) (p : PromId) → ResolverAt w i p → knows_at w p.home p ≡ false → published_as w p ≡ None

-- ---- what an event does

-- a message was there before, with the same result, and was not done if it is not done now
pub record Had (w : World) (n : MsgId) (h : Message) : Type 0 where
  pub before : Message
  pub there : message_of w n ≡ Some before
  pub result : h.result ≡ before.result
  pub undone : is_done h.place ≡ false → is_done before.place ≡ false

-- a promise was resolved, and its home knows it
pub record Resolves (w u : World) (Paired : PromId → Type 0) (p : PromId) : Type 0 where
  pub owned : ((i : ObjId) × ResolverAt w i p) ⊎ Paired p
  pub known : knows_at u p.home p ≡ true

-- a promise is the result of a message that is done
pub record IsResult (w u : World) (p : PromId) : Type 0 where
  pub message : MsgId
  pub before : Message
  pub there : message_of w message ≡ Some before
  pub result : before.result ≡ p
  pub done : (g : Message) → message_of u message ≡ Some g → is_done g.place ≡ true

-- an event leads from a world to another one: it sends these messages, makes these promises with resolvers, and publishes these
pub record Happens (e : EventName) (w u : World) (Sent : MsgId → Message → Type 0) (Paired Published : PromId → Type 0) : Type 0 where
  pub messages : (n : MsgId) (h : Message) → message_of u n ≡ Some h → Sent n h ⊎ Had w n h
  pub sent : (n : MsgId) (h : Message) → Sent n h → (n.event ≡ e) × (h.result.event ≡ e) × (Paired h.result → ⊥)
  pub apart : (n k : MsgId) (h g : Message) → Sent n h → Sent k g → h.result ≡ g.result → n ≡ k
  pub resolvers : (i : ObjId) (p : PromId) → ResolverAt u i p → ResolverAt w i p ⊎ (Paired p × (p.home ≡ i.vat))
  pub paired : (p : PromId) → Paired p → p.event ≡ e
  pub views : (v : VatNo) (p : PromId) → knows_at w v p ≡ true → knows_at u v p ≡ true
  pub board : (p : PromId) → (Published p → ⊥) → published_as w p ≡ None → published_as u p ≡ None
  pub published : (p : PromId) → Published p → Resolves w u Paired p ⊎ IsResult w u p

-- an event with a new name keeps it
module _ (old : EventName → Type 0) (e : EventName) (w u : World) (Sent : MsgId → Message → Type 0) (Paired Published : PromId → Type 0) (sound : Sound old w) (new : old e → ⊥) (h : Happens e w u Sent Paired Published) where
  abbrev AlsoNow : EventName → Type 0
  AlsoNow d = old d ⊎ (d ≡ e)

  not_old : (p : PromId) → p.event ≡ e → old p.event → ⊥
  not_old p i o = new (subst old i o)

  result_old : (m : MsgId) (g : Message) (p : PromId) → message_of w m ≡ Some g → g.result ≡ p → old p.event
  result_old m g p is same = let x = sound.named m g is in subst old (sym x.1 ∙ ap (λ (q : PromId). q.event) same) x.0

  had_old : (n : MsgId) (f : Message) (p : PromId) → Had w n f → f.result ≡ p → old p.event
  had_old n f p d same = result_old n d.before p d.there (sym d.result ∙ same)

  named : (n : MsgId) (f : Message) → message_of u n ≡ Some f → AlsoNow n.event × (f.result.event ≡ n.event)
  named n f is = ⊎_elim
      (λ s. let x = h.sent n f s in (inr x.0, x.1 ∙ sym x.0))
      (λ d. let x = sound.named n d.before d.there in (inl x.0, ap (λ (q : PromId). q.event) d.result ∙ x.1)) (h.messages n f is)

  sent_not_had : (n k : MsgId) (f g : Message) → Sent n f → Had w k g → f.result ≡ g.result → ⊥
  sent_not_had n k f g s d same = not_old f.result (h.sent n f s).1 (had_old k g f.result d (sym same))

  apart : (n k : MsgId) (f g : Message) → message_of u n ≡ Some f → message_of u k ≡ Some g → f.result ≡ g.result → n ≡ k
  apart n k f g is also same = ⊎_elim
      (λ s. ⊎_elim (λ t. h.apart n k f g s t same) (λ d. absurd (sent_not_had n k f g s d same)) (h.messages k g also))
      (λ d. ⊎_elim (λ t. absurd (sent_not_had k n g f t d (sym same))) (λ c. sound.apart n k d.before c.before d.there c.there (sym d.result ∙ same ∙ c.result)) (h.messages k g also)) (h.messages n f is)

  -- what is published has an old name, or the event's
  published_named : (p : PromId) → Published p → AlsoNow p.event
  published_named p b = ⊎_elim
      (λ r. ⊎_elim (λ x. inl (sound.resolvers x.0 p x.1).0) (λ x. inr (h.paired p x)) r.owned)
      (λ q. inl (result_old q.message q.before p q.there q.result)) (h.published p b)

  board : (p : PromId) → (AlsoNow p.event → ⊥) → published_as u p ≡ None
  board p none = h.board p (λ b. none (published_named p b)) (sound.board p (λ o. none (inl o)))

  -- a result of a message that is sent is not published
  sent_waits : (n : MsgId) (f : Message) → Sent n f → published_as u f.result ≡ None
  sent_waits n f s =
      let x = h.sent n f s in
      h.board f.result
      (λ b. ⊎_elim (λ r. ⊎_elim (λ y. not_old f.result x.1 (sound.resolvers y.0 f.result y.1).0) x.2 r.owned) (λ q. not_old f.result x.1 (result_old q.message q.before f.result q.there q.result)) (h.published f.result b))
      (sound.board f.result (not_old f.result x.1))

  had_waits : (n : MsgId) (f : Message) → message_of u n ≡ Some f → is_done f.place ≡ false → Had w n f → published_as u f.result ≡ None
  had_waits n f is undone d =
      h.board f.result
      (λ b. ⊎_elim
      (λ r. ⊎_elim (λ y. sound.no_results y.0 f.result n d.before y.1 d.there (sym d.result)) (λ y. not_old f.result (h.paired f.result y) (had_old n f f.result d refl)) r.owned)
      (λ q.
      let one : q.message ≡ n = sound.apart q.message n q.before d.before q.there d.there (q.result ∙ d.result) in
      true≢false (sym (q.done f (subst (λ k. message_of u k ≡ Some f) (sym one) is)) ∙ undone)) (h.published f.result b))
      (subst (λ p. published_as w p ≡ None) (sym d.result) (sound.waiting n d.before d.there (d.undone undone)))

  waiting : (n : MsgId) (f : Message) → message_of u n ≡ Some f → is_done f.place ≡ false → published_as u f.result ≡ None
  waiting n f is undone = ⊎_elim (λ s. sent_waits n f s) (λ d. had_waits n f is undone d) (h.messages n f is)

  resolvers : (i : ObjId) (p : PromId) → ResolverAt u i p → AlsoNow p.event × (p.home ≡ i.vat)
  resolvers i p r = ⊎_elim (λ q. let x = sound.resolvers i p q in (inl x.0, x.1)) (λ x. (inr (h.paired p x.0), x.1)) (h.resolvers i p r)

  no_results : (i : ObjId) (p : PromId) (n : MsgId) (f : Message) → ResolverAt u i p → message_of u n ≡ Some f → f.result ≡ p → ⊥
  no_results i p n f r is same = ⊎_elim
      (λ q. ⊎_elim (λ s. not_old p (sym (ap (λ (q : PromId). q.event) same) ∙ (h.sent n f s).1) (sound.resolvers i p q).0) (λ d. sound.no_results i p n d.before q d.there (sym d.result ∙ same)) (h.messages n f is))
      (λ x. ⊎_elim (λ s. (h.sent n f s).2 (subst Paired (sym same) x.0)) (λ d. not_old p (h.paired p x.0) (had_old n f p d same)) (h.messages n f is)) (h.resolvers i p r)

  unused : (i : ObjId) (p : PromId) → ResolverAt u i p → knows_at u p.home p ≡ false → published_as u p ≡ None
  unused i p r open_still = ⊎_elim
      (λ q. h.board p (λ b. ⊎_elim (λ x. true≢false (sym x.known ∙ open_still)) (λ x. sound.no_results i p x.message x.before q x.there x.result) (h.published p b))
      (sound.unused i p q (false_from_ne_true (knows_at w p.home p) (λ k. true≢false (sym (h.views p.home p k) ∙ open_still)))))
      (λ y. h.board p (λ b. ⊎_elim (λ x. true≢false (sym x.known ∙ open_still)) (λ x. not_old p (h.paired p y.0) (result_old x.message x.before p x.there x.result)) (h.published p b))
      (sound.board p (not_old p (h.paired p y.0)))) (h.resolvers i p r)

  pub sound_after : Sound AlsoNow u
  sound_after = record { named = named; apart = apart; waiting = waiting; resolvers = resolvers; no_results = no_results; board = board; unused = unused }
