-- The rules word for word: what a message is sent after, and what leaves in a carrier, is the fence of that moment.
use Rattle.std.specs.Prelude.{◌≡◌, Bool, false, ◌||◌, List, [], ◌∷◌}
use Rattle.eorder.specs.Places.{Place, fence_at, carried, sent_after, same_message, same_place}
use Rattle.eorder.specs.Acts.{sent, left, came, joined, Entry, did, turned, Fences, Start, put, add}
use Rattle.ids.specs.declared.names.MsgId.{MsgId}

abbrev pub assigned : Entry → Fences → Fences
assigned (did v (sent m t)) s = put (fence_at v t) (same_message m) (put (sent_after m) (s (fence_at v t)) s)
assigned (did v (left r c)) s = put (carried c r) (s (fence_at v r)) s
assigned (did v (came r c t)) s = add (fence_at v t) (s (carried c r)) s
assigned (did v (joined p t)) s = add (fence_at v t) (s (fence_at v p)) s
assigned (turned m walk) s = s

abbrev pub fences_assigned : Start → List Entry → Fences
fences_assigned s [] = s.fences
fences_assigned s (e ∷ es) = assigned e (fences_assigned s es)

-- whether an entry puts something into the place
abbrev pub fills : Entry → Place → Bool
fills (did v (sent m t)) k = same_place (fence_at v t) k || same_place (sent_after m) k
fills (did v (left r c)) k = same_place (carried c r) k
fills (did v (came r c t)) k = same_place (fence_at v t) k
fills (did v (joined p t)) k = same_place (fence_at v t) k
fills (turned m walk) k = false

-- nothing was put into the place
abbrev pub Unfilled : Start → Place → List Entry → Type 0
Unfilled s k [] = (m : MsgId) → s.fences k m ≡ false
Unfilled s k (e ∷ es) = (fills e k ≡ false) × Unfilled s k es

-- what an entry assigns to was empty
abbrev pub Fresh : Start → Entry → List Entry → Type 0
Fresh s (did v (sent m t)) es = Unfilled s (sent_after m) es
Fresh s (did v (left r c)) es = Unfilled s (carried c r) es
Fresh s (did v (came r c t)) es = Unit {0}
Fresh s (did v (joined p t)) es = Unit {0}
Fresh s (turned m walk) es = Unit {0}

-- a message is sent once, and a reference leaves in a carrier once
abbrev pub Once : Start → List Entry → Type 0
Once s [] = Unit {0}
Once s (e ∷ es) = Fresh s e es × Once s es
