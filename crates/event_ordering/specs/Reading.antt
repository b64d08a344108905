-- The fences of a vat, and those in what a turn has made, over fences that there were before it.
use Rattle.std.specs.Prelude.{◌≡◌, ℕ, ◌+◌, Bool, false, not, cond, ◌||◌, ◌&&◌, List, [], ◌∷◌, Option, Some, None}
use Rattle.std.specs.List.{list_any, AllByRecursion}
use Rattle.ids.specs.declared.names.EventName.{EventName}
use Rattle.ids.specs.declared.names.VatNo.{VatNo}
use Rattle.ids.specs.declared.names.MsgId.{MsgId}
use Rattle.ids.specs.declared.names.PromId.{PromId}
use Rattle.ids.specs.declared.reference.Reference.{Reference}
use Rattle.eorder.specs.Acts.{Fences}
use Rattle.eorder.specs.Carried.{Carried}
use Rattle.eorder.specs.Fences.{member}
use Rattle.eorder.specs.Places.{Carrier, argument, published, fence_at, carried, sent_after, same_vat, same_message, same_carrier}
use Rattle.heap.specs.State.{State, fence_cell}
use Rattle.post.specs.Delivery.{Delivery, sent}
use Rattle.post.specs.Messages.{is_done, Message, Published}
use Rattle.sends.specs.Vats.{names_of, names_for}
use Rattle.eval_rules.specs.Outbox.{Outbox}
pub use Rattle.event.specs.Walks.{fences_of as publication_fences}

-- the names behind each reference
abbrev pub Sets : Type 0
Sets = Reference → MsgId → Bool

-- the names behind references at a vat, by its cells
abbrev pub fences_in : State → Sets
fences_in s r m = member (names_of (s (fence_cell r))) m

-- the fences in a message's arguments, and what it was sent after: only calls were sent
abbrev pub fences_of_delivery : Delivery → Carried
fences_of_delivery (sent c) = c.fences
fences_of_delivery d = []

abbrev pub after_of : Delivery → List MsgId → List MsgId
after_of (sent c) names = names
after_of d names = []

-- fences with those of a vat in place of its own, with these names more that messages were sent after, and these more in carriers
abbrev pub reading : Fences → VatNo → Sets → (MsgId → MsgId → Bool) → (Carrier → Sets) → Fences
reading base v s after more (fence_at w r) m = cond (same_vat v w) (s r m) (base (fence_at w r) m)
reading base v s after more (carried c r) m = base (carried c r) m || more c r m
reading base v s after more (sent_after n) m = base (sent_after n) m || after n m

-- the messages of an event have its name, and are numbered in order of making
abbrev pub numbered : EventName → ℕ → List (MsgId × Message) → List (MsgId × Message)
numbered e i [] = []
numbered e i (l ∷ ls) = (record { event = e; index = i }, l.1) ∷ numbered e (i + 1) ls

-- whether the message was sent after m
abbrev pub was_after : MsgId → MsgId → MsgId × Message → Bool
was_after n m l = same_message l.0 n && member (after_of l.1.delivery l.1.after) m

-- whether m travels in a message with a reference
abbrev pub travels_in : Carrier → Reference → MsgId → MsgId × Message → Bool
travels_in c r m l = same_carrier (argument l.0) c && member (names_for (fences_of_delivery l.1.delivery) r) m

-- what counts of publications for a carrier: the first one, unless its promise was published before
abbrev pub publication_in : (PromId → Bool) → List (PromId × Published) → Carrier → Option Published
publication_in before [] c = None
publication_in before (b ∷ bs) c = cond (same_carrier (published b.0) c && not (before b.0)) (Some b.1) (publication_in before bs c)

abbrev pub afters : EventName → List (MsgId × Message) → MsgId → MsgId → Bool
afters e ls n m = list_any (was_after n m) (numbered e 0 ls)

abbrev pub travelling : (PromId → Bool) → EventName → List (MsgId × Message) → List (PromId × Published) → Carrier → Sets
travelling before e ls bs c r m = list_any (travels_in c r m) (numbered e 0 ls) || member (names_for (publication_fences (publication_in before bs c)) r) m

-- the fences of a vat in this state, and of what its turn has made: some promises were published before the turn
abbrev pub turn_fences : Fences → VatNo → (PromId → Bool) → EventName → State → Outbox → Fences
turn_fences base v before e s out = reading base v (fences_in s) (afters e out.letters) (travelling before e out.letters out.publications)

-- no message is done
pub record NoneDone (ls : List (MsgId × Message)) : Type 0 where
  pub each : AllByRecursion (λ l. is_done l.1.place ≡ false) ls
