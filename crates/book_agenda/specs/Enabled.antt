-- What may be done next in a world.
use Rattle.std.specs.Prelude.{◌≡◌, ◌↔◌, ◌⊎◌, Bool, true, false, is_some, List, [], ◌∷◌, Option, Some, None, Contains}
use Rattle.std.specs.List.{AllByRecursion}
use Rattle.std.specs.Ordering.{ordering_then}
use Rattle.std.specs.declared.cmp.Ordering.{Ordering}
use Rattle.std.specs.declared.cmp.Ordering.TheVariants.{Less, Greater}
use Rattle.ids.specs.Cells.{message_cmp, promise_cmp, vat_cmp}
use Rattle.ids.specs.declared.names.VatNo.{VatNo}
use Rattle.ids.specs.declared.names.MsgId.{MsgId}
use Rattle.ids.specs.declared.names.PromId.{PromId}
use Rattle.heap.specs.State as heap
use Rattle.heap.specs.State.{pending, view_cell}
use Rattle.post.specs.Messages.{Message, flies_to, waits_at}
use Rattle.world_cells.specs.World.{World, message_of, published_as, vat_state}
use Rattle.event.specs.Forwarding.{onward_of}
use Rattle.event.specs.Ready.{IsReady}
use Rattle.book_agenda.specs.declared.agenda.Step.{Step}
use Rattle.book_agenda.specs.declared.agenda.Move.TheVariants as move
use Rattle.book_agenda.specs.declared.agenda.Step.TheVariants as step

-- whether a ticket of a vat is out
abbrev pub Out : Type 0
Out = VatNo → Bool

-- this may be done: a message on its way arrives, a message at a vat goes on where its target leads, a message that is ready has its turn, and
-- a vat learns what a promise was published as that is open in its view; turns and learning only of vats that are not out
pub data MayDo (w : World) (out : Out) : Step → Type 0 where
  may_arrive : {m : MsgId} {g : Message} {v : VatNo} → message_of w m ≡ Some g → flies_to g.place ≡ Some v → MayDo w out (step.Move (move.Arrive m))
  may_forward : {m : MsgId} {g : Message} {v : VatNo} {r : VatNo × List PromId} → message_of w m ≡ Some g → waits_at g.place ≡ Some v → onward_of w v g ≡ Some r → MayDo w out (step.Move (move.Forward m))
  may_turn : {m : MsgId} {g : Message} {v : VatNo} → message_of w m ≡ Some g → waits_at g.place ≡ Some v → out v ≡ false → IsReady w m → MayDo w out (step.Turn m)
  may_learn : {v : VatNo} {p : PromId} → vat_state w v (view_cell p) ≡ Some (heap.viewed pending) → is_some (published_as w p) ≡ true → out v ≡ false → MayDo w out (step.Move (move.Learn v p))

-- the order in which they are tried: what messages can do by their names, then what vats can learn by birth and by promise
abbrev pub message_in : Step → Option MsgId
message_in (step.Move (move.Arrive m)) = Some m
message_in (step.Move (move.Forward m)) = Some m
message_in (step.Turn m) = Some m
message_in (step.Move (move.Learn v p)) = None

abbrev pub learn_in : Step → VatNo × PromId
learn_in (step.Move (move.Learn v p)) = (v, p)
learn_in s = (record { 0 = record { 0 = 0 } }, record { event = record { 0 = 0 }; index = 0; home = record { 0 = record { 0 = 0 } } })

abbrev pub step_cmp_by : Option MsgId → Option MsgId → Ordering → Ordering
step_cmp_by (Some m) (Some n) learns = message_cmp m n
step_cmp_by (Some m) None learns = Less
step_cmp_by None (Some n) learns = Greater
step_cmp_by None None learns = learns

abbrev pub step_cmp : Step → Step → Ordering
step_cmp s t = step_cmp_by (message_in s) (message_in t) (ordering_then (vat_cmp (learn_in s).0 (learn_in t).0) (promise_cmp (learn_in s).1 (learn_in t).1))

-- each comes before all later ones
abbrev pub Rises : List Step → Type 0
Rises [] = Unit {0}
Rises (s ∷ ss) = AllByRecursion (λ t. step_cmp s t ≡ Less) ss × Rises ss

-- all that may be done, in order
pub record Enabled (w : World) (out : Out) (steps : List Step) : Type 0 where
  pub rise : Rises steps
  pub each : (s : Step) → Contains steps s ↔ MayDo w out s

-- the first that may be done, if there is one
abbrev pub First : World → Out → Option Step → Type 0
First w out None = (s : Step) → MayDo w out s → ⊥
First w out (Some s) = MayDo w out s × ((t : Step) → MayDo w out t → (t ≡ s) ⊎ (step_cmp s t ≡ Less))
