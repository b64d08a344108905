-- The rules as a program keeps them, on lists of names.
use Rattle.std.specs.Prelude.{◌≡◌, cond, List, [], ◌∷◌}
use Rattle.ids.specs.declared.names.MsgId.{MsgId}
use Rattle.eorder.specs.Places.{Place, fence_at, carried, sent_after, same_place}
use Rattle.eorder.specs.Acts.{sent, left, came, joined as enters, Entry, did, turned}
use Rattle.eorder.specs.Assigned.{assigned}
use Rattle.eorder.specs.Fences.{member, joined}

-- places with these names in the place k
abbrev pub put_names : Place → List MsgId → (Place → List MsgId) → Place → List MsgId
put_names k f s p = cond (same_place k p) f (s p)

-- 1. A message is sent after what the fence of its target had, and then that fence has it alone.
-- 2. A reference leaves with the fence that it has, and keeps it.
-- 3. What comes in with a reference is added to the fence of what it settles to.
-- 4. The fence of a promise that is entered is added to that of what it settles to, and the promise keeps it.
abbrev pub by_rule : Entry → (Place → List MsgId) → Place → List MsgId
by_rule (did v (sent m t)) s = put_names (fence_at v t) (m ∷ []) (put_names (sent_after m) (s (fence_at v t)) s)
by_rule (did v (left r c)) s = put_names (carried c r) (s (fence_at v r)) s
by_rule (did v (came r c t)) s = put_names (fence_at v t) (joined (s (fence_at v t)) (s (carried c r))) s
by_rule (did v (enters p t)) s = put_names (fence_at v t) (joined (s (fence_at v t)) (s (fence_at v p))) s
by_rule (turned m walk) s = s

-- the rules on lists of names are the rules on sets
abbrev pub RulesAreActs : Type 0
RulesAreActs = (e : Entry) (s : Place → List MsgId) (k : Place) (m : MsgId) → member (by_rule e s k) m ≡ assigned e (λ p. member (s p)) k m
