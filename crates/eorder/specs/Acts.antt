-- Acts of vats, the fences that they leave, and what they leave behind references. A history is a list, the newest entry first.
use Rattle.std.specs.Prelude.{◌≡◌, Bool, true, cond, ◌||◌, ◌&&◌, List, [], ◌∷◌, ◌⊎◌}
use Rattle.eorder.specs.Places.{Carrier, Place, fence_at, carried, sent_after, same_message, same_place}
use Rattle.ids.specs.declared.names.VatNo.{VatNo}
use Rattle.ids.specs.declared.names.MsgId.{MsgId}
use Rattle.ids.specs.declared.reference.Reference.{Reference}

-- what a vat does: m is sent on t; r leaves in c; r of c comes in, and settles here to t; p is entered as what settles to t
pub data Act : Type 0 where
  sent : (m : MsgId) → (t : Reference) → Act
  left : (r : Reference) → (c : Carrier) → Act
  came : (r : Reference) → (c : Carrier) → (t : Reference) → Act
  joined : (p : Reference) → (t : Reference) → Act

-- an act of a vat, or that a message's turn begins, with its walk: the carriers and references that it went through
pub data Entry : Type 0 where
  did : (v : VatNo) → (a : Act) → Entry
  turned : (m : MsgId) → (walk : List (Carrier × Reference)) → Entry

-- a set of messages in each place
abbrev pub Fences : Type 0
Fences = Place → MsgId → Bool

-- what there is before the first entry: fences, and messages that are done
pub record Start : Type 0 where
  pub fences : Fences
  pub done : MsgId → Bool

-- fences with f alone in the place k
abbrev pub put : Place → (MsgId → Bool) → Fences → Fences
put k f s p m = cond (same_place k p) (f m) (s p m)

-- fences with f added in the place k
abbrev pub add : Place → (MsgId → Bool) → Fences → Fences
add k f s p m = s p m || (same_place k p && f m)

-- The fences after an entry. A send leaves the message alone behind its target; all else is added, also to a place that was empty
abbrev pub applied : Entry → Fences → Fences
applied (did v (sent m t)) s = put (fence_at v t) (same_message m) (add (sent_after m) (s (fence_at v t)) s)
applied (did v (left r c)) s = add (carried c r) (s (fence_at v r)) s
applied (did v (came r c t)) s = add (fence_at v t) (s (carried c r)) s
applied (did v (joined p t)) s = add (fence_at v t) (s (fence_at v p)) s
applied (turned m walk) s = s

-- the fences that a history leaves
abbrev pub fences : Start → List Entry → Fences
fences s [] = s.fences
fences s (e ∷ es) = applied e (fences s es)

-- m is behind the place: all that ever was is, and nothing is taken away
pub data Behind (s : Start) : List Entry → Place → MsgId → Type 0 where
  given : {k : Place} {m : MsgId} → s.fences k m ≡ true → Behind s [] k m
  kept : {e : Entry} {es : List Entry} {k : Place} {m : MsgId} → Behind s es k m → Behind s (e ∷ es) k m
  sends : {es : List Entry} {v : VatNo} {t : Reference} {m : MsgId} → Behind s (did v (sent m t) ∷ es) (fence_at v t) m
  waits : {es : List Entry} {v : VatNo} {t : Reference} {m b : MsgId} → Behind s es (fence_at v t) m → Behind s (did v (sent b t) ∷ es) (sent_after b) m
  leaves : {es : List Entry} {v : VatNo} {r : Reference} {c : Carrier} {m : MsgId} → Behind s es (fence_at v r) m → Behind s (did v (left r c) ∷ es) (carried c r) m
  comes : {es : List Entry} {v : VatNo} {r t : Reference} {c : Carrier} {m : MsgId} → Behind s es (carried c r) m → Behind s (did v (came r c t) ∷ es) (fence_at v t) m
  joins : {es : List Entry} {v : VatNo} {p t : Reference} {m : MsgId} → Behind s es (fence_at v p) m → Behind s (did v (joined p t) ∷ es) (fence_at v t) m

-- m is in the set f, or it was behind the reference on which a message of f was sent
abbrev pub Covered : Start → List Entry → (MsgId → Bool) → MsgId → Type 0
Covered s es f m = (f m ≡ true) ⊎ ((b : MsgId) × Behind s es (sent_after b) m × (f b ≡ true))
