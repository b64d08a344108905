-- Turns, and what vats learn, touch and write by the table.
use Rattle.std.proofs.Common.{◌≡◌, inl, inr, ℕ, Bool, true, false, ◌&&◌, ◌||◌, not, cond, is_some, List, [], ◌∷◌, ◌++◌, map, refl, sym, ap, ◌∙◌, subst}
use Rattle.std.specs.List.{list_any, AllByRecursion}
use Rattle.std.proofs.lemmas.Bool.{false≢true, or_left}
use Rattle.ids.specs.declared.names.EventName.{EventName}
use Rattle.ids.specs.declared.names.VatNo.{VatNo}
use Rattle.ids.specs.declared.names.MsgId.{MsgId}
use Rattle.ids.specs.declared.names.PromId.{PromId}
use Rattle.ids.specs.declared.cells.CellKey.{CellKey}
use Rattle.ids.specs.declared.cells.CellKey.TheVariants as key
use Rattle.cells.specs.Doing.{Under, play}
use Rattle.heap.specs.State as heap
use Rattle.heap.specs.State.{Cell, Cells, State, same_cell}
use Rattle.heap.proofs.Cells.{cell_self}
use Rattle.values.specs.Data.{broken}
use Rattle.post.specs.Messages.{done, Message, Published}
use Rattle.sends.specs.Vats.{references, entered, coming_in}
use Rattle.sends.specs.Table.{Foot, among, Goes, promise_entered, references_come}
use Rattle.sends.proofs.Feet.{foot_then}
use Rattle.sends.proofs.Table.{promises_are_entered, references_come_in}
use Rattle.world_cells.specs.World.{Content, message, World, published_as, vat_state}
use Rattle.eval_rules.specs.At.{At}
use Rattle.eval_rules.specs.Outcomes.{Cause, reason}
use Rattle.eval_rules.specs.Outbox.{Outbox}
use Rattle.turn_deliveries.specs.Turn.{Found, Told, told, lost, telling, finish, Outcome, outcome_by, lost_outbox, Delivers, delivers}
use Rattle.turn_deliveries.proofs.Table.{delivery_by_table}
use Rattle.event.specs.Events.{Lists, learning, untouched, learnt, is_lost, in_world, on_the_board, counted, letters_from}
use Rattle.event.specs.Laws.{TurnsTouchByTheTable, VatsLearnByTheTable, AbandonedTurnsWriteTwoCells, IsMessageOrBoard}
use Rattle.event.specs.Table.{learn_touches}

-- ---- turns

pub turns_touch : TurnsTouchByTheTable
turns_touch e w m budget t cells left h leaves c =
    let d = h.delivers in
    let by = delivery_by_table d.0 c in (
      leaves.touched c ∙ ap (λ q. q c) (sym d.1) ∙ by.0,
      leaves.written c ∙ ap (λ b. not (is_lost t.outcome.told) && b) (ap (λ q. q c) (sym d.2) ∙ by.1),
    )

-- ---- what a vat learns

or_none : (a b : Bool) → b ≡ (a || false) → b ≡ a
or_none true b h = h
or_none false b h = h

learning_foot : (s : State) (p : PromId) (b : Published) → Goes (learn_touches s p b) (untouched s) (play same_cell (learning p b) (untouched s)).1
learning_foot s p b =
    let u : Under Cell heap.Content = untouched s in
    let q = play same_cell (entered p b.value) u in
    foot_then (entered p b.value) (λ t. coming_in b.fences (references b.value)) u q.1 q.0 (promise_entered s p b.value) (references_come q.1.state b.fences (references b.value)) refl
    (promises_are_entered u p b.value) (references_come_in q.1 b.fences (references b.value))

pub vats_learn : VatsLearnByTheTable
vats_learn w v p b cells left leaves c =
    let s : State = vat_state w v in
    let f : Foot = learn_touches s p b in
    let goes = learning_foot s p b in (
      leaves.touched c ∙ or_none (among f.touched c) ((learnt w v p b).touched c) (goes.touched c),
      leaves.written c ∙ or_none (among f.written c) ((learnt w v p b).written c) (goes.written c),
    )

-- ---- abandoned turns

why_lost : Told → Cause → Cause
why_lost (told r) why = why
why_lost (lost other) why = other

lost_by : (s : State) (p : PromId) (t : Told) (b : At) (why : Cause) → (outcome_by s p t b).told ≡ lost why → (outcome_by s p t b).out ≡ lost_outbox p why
unfolding why_lost
lost_by s p (told r) b why h = absurd (cc)
lost_by s p (lost other) b why h = ap (λ t. lost_outbox p (why_lost t why)) h

lost_out : {g : Message} {f : Found} {e : EventName} {v : VatNo} {s : State} {n : ℕ} {o : Outcome} (why : Cause) → Delivers g f e v s n o → o.told ≡ lost why → o.out ≡ lost_outbox g.result why
lost_out why (delivers {g = g} {s = s} {o = o} {b = b} r) h = lost_by s g.result (telling o b) (finish g.result o b) why h

-- nothing is left in the vat's cells
none_left : (t : Told) (why : Cause) (q : Cells) (left : List (Cell × heap.Content)) → t ≡ lost why → Lists (map (λ p. p.0) left) (λ c. not (is_lost t) && q c) → left ≡ []
none_left t why q [] h is = refl
none_left t why q (p ∷ ps) h is =
    absurd (false≢true (ap (λ t. not (is_lost t) && q p.0) (sym h) ∙ sym (is p.0) ∙ or_left (same_cell p.0 p.0) (list_any (same_cell p.0) (map (λ p. p.0) ps)) (cell_self p.0)))

two_cells : (m : MsgId) (p : PromId) (b : Published) (x : Content) (was : Bool) → AllByRecursion (λ (c : CellKey × Content). IsMessageOrBoard m p c.0) (on_the_board (cond was [] ((p, b) ∷ [])) ++ (key.Msg m, x) ∷ [])
two_cells m p b x true = (inl refl, tt)
two_cells m p b x false = (inr refl, (inl refl, tt))

-- what a turn writes that leaves this in its vat's cells and made this
abbrev written : EventName → World → MsgId → VatNo → Content → List (Cell × heap.Content) → Outbox → List (CellKey × Content)
written e w m v x left out = in_world v left ++ (letters_from e 0 out.letters ++ (on_the_board (counted w out.publications) ++ (key.Msg m, x) ∷ []))

pub abandoned_turns : AbandonedTurnsWriteTwoCells
abandoned_turns e w m budget t cells left h leaves why gone =
    let p : PromId = t.message.result in
    let x : Content = message (record t.message { place = done e }) in
    let none : left ≡ [] = none_left t.outcome.told why t.written left gone leaves.written in
    let out : t.outcome.out ≡ lost_outbox p why = lost_out why h.delivers.0 gone in
    subst (λ (cs : List (CellKey × Content)). AllByRecursion (λ (c : CellKey × Content). IsMessageOrBoard m p c.0) cs) (λ i. written e w m t.vat x (sym none i) (sym out i))
    (two_cells m p (record { value = broken (reason why); fences = [] }) x (is_some (published_as w p)))
