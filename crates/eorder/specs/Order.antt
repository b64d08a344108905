-- Turns that wait for the names of fences, and the order that they keep.
use Rattle.std.specs.Prelude.{◌≡◌, true, List, [], ◌∷◌, map, ◌⊎◌}
use Rattle.std.specs.List.{AllByRecursion}
use Rattle.eorder.specs.Places.{Carrier, Place, carried, sent_after}
use Rattle.eorder.specs.Acts.{sent, left, came, joined, Entry, did, turned, Start, fences, Behind}
use Rattle.ids.specs.declared.names.MsgId.{MsgId}
use Rattle.ids.specs.declared.reference.Reference.{Reference}

-- x is one of xs
abbrev pub Among : {A : Type 0} → A → List A → Type 0
Among x [] = ⊥
Among x (y ∷ ys) = (y ≡ x) ⊎ Among x ys

-- m was done at the start, or its turn is in the history
abbrev pub Done : Start → List Entry → MsgId → Type 0
Done s [] m = s.done m ≡ true
Done s (did v a ∷ es) m = Done s es m
Done s (turned b walk ∷ es) m = (b ≡ m) ⊎ Done s es m

-- the places whose names a turn waits for: what the message was sent after, and what its walk went through
abbrev pub awaited : MsgId → List (Carrier × Reference) → List Place
awaited m walk = sent_after m ∷ map (λ p. carried p.0 p.1) walk

-- an entry is allowed: a message is sent before its turn, and has its turn once, when all names that it waits for are done
abbrev pub Allows : Start → Entry → List Entry → Type 0
Allows s (did v (sent m t)) es = Done s es m → ⊥
Allows s (did v (left r c)) es = Unit {0}
Allows s (did v (came r c t)) es = Unit {0}
Allows s (did v (joined p t)) es = Unit {0}
Allows s (turned m walk) es = (Done s es m → ⊥) × AllByRecursion (λ k. (b : MsgId) → fences s es k b ≡ true → Done s es b) (awaited m walk)

abbrev pub Allowed : Start → List Entry → Type 0
Allowed s [] = Unit {0}
Allowed s (e ∷ es) = Allows s e es × Allowed s es

-- at the start, what a done message was sent after is done
abbrev pub Settled : Start → Type 0
Settled s = (a b : MsgId) → s.done b ≡ true → s.fences (sent_after b) a ≡ true → s.done a ≡ true

-- The two ways of coming before: a was behind t at v when v sent b on t, or it was behind what the walk of b went through, where that left
pub data Ahead (s : Start) : List Entry → MsgId → MsgId → Type 0 where
  sent_behind : {es : List Entry} {a b : MsgId} → Behind s es (sent_after b) a → Ahead s es a b
  walked : {es : List Entry} {a b : MsgId} {walk : List (Carrier × Reference)} {c : Carrier} {r : Reference} → Among (c, r) walk → Behind s es (carried c r) a → Ahead s (turned b walk ∷ es) a b
  ahead_kept : {e : Entry} {es : List Entry} {a b : MsgId} → Ahead s es a b → Ahead s (e ∷ es) a b

-- The partial order: the two ways, one after another
pub data Before (s : Start) (es : List Entry) : MsgId → MsgId → Type 0 where
  first : {a b : MsgId} → Ahead s es a b → Before s es a b
  before : {a b c : MsgId} → Ahead s es a b → Before s es b c → Before s es a c

-- the turn of b is in the history, and a was done before it; of what was done at the start no order is known
abbrev pub Precedes : Start → List Entry → MsgId → MsgId → Type 0
Precedes s [] a b = (s.done a ≡ true) × (s.done b ≡ true)
Precedes s (did v x ∷ es) a b = Precedes s es a b
Precedes s (turned m walk ∷ es) a b = ((m ≡ b) × Done s es a) ⊎ Precedes s es a b
