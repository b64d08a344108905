-- What an event needs, and what a turn that was run brings.
use Rattle.std.proofs.Common.{◌≡◌, ◌⊎◌, inl, inr, ℕ, List, map, Option, Some, None, unwrap_or, refl, sym, ap, ◌∙◌, subst}
use Rattle.std.specs.Option.{option_map}
use Rattle.std.proofs.Math.Logic.{∥∥₁_elim, ∥∥₁_map}
use Rattle.ids.specs.declared.names.EventName.{EventName}
use Rattle.ids.specs.declared.names.VatNo.{VatNo}
use Rattle.ids.specs.declared.names.MsgId.{MsgId}
use Rattle.ids.specs.declared.names.PromId.{PromId}
use Rattle.ids.specs.declared.cells.CellKey.TheVariants as key
use Rattle.post.specs.Delivery.{Delivery, opening, asked, sent, waiting}
use Rattle.post.specs.MessageView.{message_of}
use Rattle.post.specs.Messages.{Message, Published, at_vat, flying, waits_at, forwarded}
use Rattle.post.specs.declared.message.Message as code-message
use Rattle.world_cells.specs.Events.{forward, learn, turn}
use Rattle.world_cells.specs.World.{World, Content, message, message_in, vat_state}
use Rattle.turn_deliveries.specs.Outcomes.{found_of}
use Rattle.turn_deliveries.specs.Turn as deliveries
use Rattle.turn_deliveries.proofs.Turns.{delivery_same}
use Rattle.event.specs.Events.{Foot, AreNew, Does, forwards, learns, turns, DeliversOn, Turn, Turns, goes_on, letters_from, learn_foot, moved_foot, turn_foot}
use Rattle.event.specs.Effects.{Happens, BringsLearnt, BringsTurn, turn_of}
use Rattle.event.specs.Forwarding.{delivery_onward, onward_of}
use Rattle.event.specs.ReadyView.{IsWay}
use Rattle.event.specs.Walks.{board_walk, found_by}
use Rattle.event.specs.declared.effects.Effects.{Effects}
use Rattle.event.specs.declared.ready.Way.{Way}
use Rattle.event.proofs.Noted.{quietly}
use Rattle.turn.specs.declared.ticket.Ran.{Ran}
use Rattle.world.specs.Steps.{Learnable, Ready, RunsAt, TellsStep}
use Rattle.world.specs.declared.step.StepFault.{StepFault}
use Rattle.world.specs.declared.step.StepFault.TheVariants as faults
use Rattle.world.proofs.Impossible.{TurnAt, turn_at}

-- ---- a message that goes on

-- the vat and the promises on the way to it
abbrev pub on_way : VatNo → List PromId → VatNo × List PromId
on_way x ps = (x, ps)

abbrev vat_in : VatNo → Option (VatNo × List PromId) → Option VatNo
vat_in x None = Some x
vat_in x (Some q) = Some q.0

abbrev way_in : List PromId → Option (VatNo × List PromId) → List PromId
way_in ps None = ps
way_in ps (Some q) = q.1

module _ (e : EventName) (m : MsgId) (w : World) (g h : Message) (v u : VatNo) (through : List PromId) (waits : w (key.Msg m) ≡ Some (message g)) (there : g.place ≡ at_vat v) (moved : Some h ≡ forwarded u g) where
  -- it flies to that vat
  flies : h ≡ record g { place = flying u }
  flies = ap (λ (o : Option Message). unwrap_or o h) (moved ∙ ap (λ p. option_map (λ (x : VatNo). record g { place = flying u }) (waits_at p)) there)

  -- where the end of its target is in that vat, and these promises are on the way
  gone : (o : Option VatNo) (ps : List PromId) → Some (on_way u through) ≡ option_map (λ x. on_way x ps) o → (o ≡ Some u) × (ps ≡ through)
  gone None ps is = absurd (cc is)
  gone (Some x) ps is = (ap (vat_in x) (sym is), ap (way_in ps) (sym is))

  -- so it is a call
  sent_on : (d : Delivery) → g.delivery ≡ d → Some (on_way u through) ≡ delivery_onward w v d → Does (record { name = e; act = forward m }) w (moved_foot (map key.Board through) m h)
  sent_on (sent c) is goes =
      let walk = board_walk w c.target in
      let to = gone (goes_on v walk.end) walk.through goes in
      subst (λ (x : Message). Does (record { name = e; act = forward m }) w (moved_foot (map key.Board through) m x)) (sym flies)
      (subst (λ (ps : List PromId). Does (record { name = e; act = forward m }) w (moved_foot (map key.Board ps) m (record g { place = flying u }))) to.1
      (forwards (ap message_in waits) (ap waits_at there) is to.0))
  sent_on (opening xs ts) is goes = absurd (cc goes)
  sent_on (asked ts) is goes = absurd (cc goes)
  sent_on (waiting b) is goes = absurd (cc goes)

  pub goes_forward : Some (on_way u through) ≡ onward_of w v g → Does (record { name = e; act = forward m }) w (moved_foot (map key.Board through) m h)
  goes_forward = sent_on g.delivery refl

-- ---- what a vat learns

pub learns_happen : (e : EventName) (w : World) (v : VatNo) (p : PromId) (b : Published) (it : Effects) → Learnable w v p b → (l : BringsLearnt e w v p b it) → Happens (record { name = e; act = learn v p }) (learn_foot v p l.cells l.left) w it
learns_happen e w v p b it h l = record { does = ∣ quietly (learns h.unresolved h.resolved l.leaves) refl it.notes.items l.quiet ∣₁; brings = l.brings }

-- ---- the turn that was run of a message that is ready

module _ (e : EventName) (w : World) (m : MsgId) (n : ℕ) (g : code-message.Message) (v : VatNo) (r : Ran) (ready : Ready w m (message_of g) v) (runs : RunsAt w e m n g (found_by w (message_of g).delivery) v r) where
  abbrev pub turned : Turn
  turned = turn_of (message_of r.carried.message) v r.outcome (vat_state w v)

  ready_carried : Ready w m turned.message v
  ready_carried = subst (λ (x : code-message.Message). Ready w m (message_of x) v) (sym runs.same) ready

  -- it was led where its target leads
  led : found_of r.carried.lead ≡ found_by w turned.message.delivery
  led = runs.same_lead ∙ ap (λ (x : code-message.Message). found_by w (message_of x).delivery) (sym runs.same)

  -- its delivery, in the state that the world has
  delivered : ∥ DeliversOn turned.message (found_by w turned.message.delivery) e v (vat_state w v) n turned.outcome turned.touched turned.written ∥₁
  delivered =
      let run = r.met (vat_state w v) runs.found in
      subst (λ (x : deliveries.Found). ∥ DeliversOn turned.message x e v (vat_state w v) n turned.outcome turned.touched turned.written ∥₁) led
      (subst (λ (x : EventName). ∥ DeliversOn turned.message (found_of r.carried.lead) x v (vat_state w v) n turned.outcome turned.touched turned.written ∥₁) runs.event
      (subst (λ (x : VatNo). ∥ DeliversOn turned.message (found_of r.carried.lead) r.carried.event x (vat_state w v) n turned.outcome turned.touched turned.written ∥₁) runs.vat
      (subst (λ (x : ℕ). ∥ DeliversOn turned.message (found_of r.carried.lead) r.carried.event r.carried.vat (vat_state w v) x turned.outcome turned.touched turned.written ∥₁) runs.same_budget run)))

  -- it is possible where it sends what is new
  is_turn : AreNew w (letters_from e 0 turned.outcome.out.letters) → ∥ Turns e w m n turned ∥₁
  is_turn fresh = ∥∥₁_map delivered (λ d. record { waiting = ready_carried.waiting; there = ready_carried.there; leads = ready_carried.leads; in_order = ready_carried.in_order; delivers = d; fresh = fresh })

  -- what it brings happens
  pub turn_happens : (it : Effects) → AreNew w (letters_from e 0 turned.outcome.out.letters) → (b : BringsTurn e w m turned it) → Happens (record { name = e; act = turn v m n }) (turn_foot e w m turned b.cells b.left) w it
  turn_happens it fresh b = record { does = ∥∥₁_map (is_turn fresh) (λ t. (turns t b.leaves, sym b.noted)); brings = b.brings }

  -- so do the effects of a turn that sends what is new in this world, as it is after the turn was run
  pub turn_done : (u : World) → u ≡ w → (way : Way) → IsWay w v (message_of g) way → AreNew u (letters_from e 0 turned.outcome.out.letters) → (it : Effects)
      → (u (key.Msg m) ≡ Some (message turned.message) → AreNew u (letters_from e 0 turned.outcome.out.letters) → IsWay u v turned.message way → BringsTurn e u m turned it)
      → (f : Foot) × Happens (record { name = e; act = turn v m n }) f w it
  turn_done u same way is fresh it does =
      let carried : IsWay w v turned.message way = subst (λ (x : code-message.Message). IsWay w v (message_of x) way) (sym runs.same) is in
      let waits : u (key.Msg m) ≡ Some (message turned.message) = subst (λ (x : World). x (key.Msg m) ≡ Some (message turned.message)) (sym same) ready_carried.waiting in
      let brought : BringsTurn e u m turned it = does waits fresh (subst (λ (x : World). IsWay x v turned.message way) (sym same) carried) in
      let brings : BringsTurn e w m turned it = subst (λ (x : World). BringsTurn e x m turned it) same brought in
      (turn_foot e w m turned brings.cells brings.left, turn_happens it (subst (λ (x : World). AreNew x (letters_from e 0 turned.outcome.out.letters)) same fresh) brings)

  -- any turn of the message has the same outcome
  same_outcome : (t : TurnAt e w v m n) → DeliversOn turned.message (found_by w turned.message.delivery) e v (vat_state w v) n turned.outcome turned.touched turned.written → t.turn.outcome ≡ turned.outcome
  same_outcome t d =
      let k = t.turn.message in
      let o = t.turn.outcome in
      let same : k ≡ turned.message = ap (λ (c : Option Content). unwrap_or (message_in c) k) (sym t.turns.waiting ∙ ready_carried.waiting) in
      let here : DeliversOn k (found_by w k.delivery) e v (vat_state w v) n o t.turn.touched t.turn.written =
      subst (λ (x : VatNo). DeliversOn k (found_by w k.delivery) e x (vat_state w x) n o t.turn.touched t.turn.written) t.vat t.turns.delivers in
      let also : DeliversOn turned.message (found_by w turned.message.delivery) e v (vat_state w v) n o t.turn.touched t.turn.written =
      subst (λ (x : Message). DeliversOn x (found_by w x.delivery) e v (vat_state w v) n o t.turn.touched t.turn.written) same here in
      delivery_same also.0 d.0

  -- so there is none where something that it sends is not new
  pub no_turn : (AreNew w (letters_from e 0 turned.outcome.out.letters) → ⊥) → (f : Foot) → Does (record { name = e; act = turn v m n }) w f → ⊥
  no_turn h f d =
      let t = turn_at e w v m n f d in
      ∥∥₁_elim delivered (λ a. absurd a) (λ x. h (subst (λ (o : deliveries.Outcome). AreNew w (letters_from e 0 o.out.letters)) (same_outcome t x) t.turns.fresh))

  pub tells_old : (fault : StepFault) (u : World) → u ≡ w → (fault ≡ faults.Memory) ⊎ (AreNew u (letters_from e 0 turned.outcome.out.letters) → ⊥) → TellsStep (record { name = e; act = turn v m n }) w fault
  tells_old faults.Memory u same h = tt
  tells_old faults.Impossible u same (inl h) = absurd (cc h)
  tells_old faults.Impossible u same (inr h) = no_turn (λ a. h (subst (λ (x : World). AreNew x (letters_from e 0 turned.outcome.out.letters)) (sym same) a))
