-- Where places are filled once, to assign is to add.
use Rattle.std.proofs.Common.{◌≡◌, Bool, true, false, cond, ◌||◌, ◌&&◌, List, [], ◌∷◌, refl, sym, ap, subst, ◌∙◌}
use Rattle.eorder.specs.Places.{Place, fence_at, carried, sent_after, same_message, same_place}
use Rattle.eorder.specs.Acts.{sent, left, came, joined, Entry, did, turned, Start, put, add, fences}
use Rattle.eorder.specs.Assigned.{assigned, fences_assigned, Unfilled, Once}
use Rattle.eorder.specs.Theorems.{AssignedIsAdded, RulesMayAssign}
use Rattle.eorder.proofs.Places.{place_equal, put_elsewhere}
use Rattle.ids.specs.declared.names.MsgId.{MsgId}

neither : (x y : Bool) → (x || y) ≡ false → (x ≡ false) × (y ≡ false)
neither true y h = cc
neither false y h = (refl, h)

or_no : (x y z : Bool) → x ≡ false → y ≡ false → (x || (y && z)) ≡ false
or_no x y z h q = λ i. h i || (q i && z)

put_or_add : (b f x : Bool) → (b ≡ true → x ≡ false) → cond b f x ≡ (x || (b && f))
put_or_add true f x h = λ i. sym (h refl) i || f
put_or_add false f true h = refl
put_or_add false f false h = refl

module _ (s : Start) where
  -- a place into which nothing was put is empty
  empty : (es : List Entry) (k : Place) (m : MsgId) → Unfilled s k es → fences s es k m ≡ false
  empty [] k m u = u m
  empty (did v (sent b t) ∷ es) k m u =
      let f = neither (same_place (fence_at v t) k) (same_place (sent_after b) k) u.0 in
      put_elsewhere (fence_at v t) k (same_message b) (add (sent_after b) (fences s es (fence_at v t)) (fences s es)) m f.0
      ∙ or_no (fences s es k m) (same_place (sent_after b) k) (fences s es (fence_at v t) m) (empty es k m u.1) f.1
  empty (did v (left r c) ∷ es) k m u = or_no (fences s es k m) (same_place (carried c r) k) (fences s es (fence_at v r) m) (empty es k m u.1) u.0
  empty (did v (came r c t) ∷ es) k m u = or_no (fences s es k m) (same_place (fence_at v t) k) (fences s es (carried c r) m) (empty es k m u.1) u.0
  empty (did v (joined p t) ∷ es) k m u = or_no (fences s es k m) (same_place (fence_at v t) k) (fences s es (fence_at v p) m) (empty es k m u.1) u.0
  empty (turned b w ∷ es) k m u = empty es k m u.1

  -- to put into an empty place is to add to it
  pub put_is_add : (es : List Entry) (k : Place) (f : MsgId → Bool) → Unfilled s k es → put k f (fences s es) ≡ add k f (fences s es)
  put_is_add es k f u = λ i p m. at p m i
    where
      at : (p : Place) (m : MsgId) → put k f (fences s es) p m ≡ add k f (fences s es) p m
      at p m = put_or_add (same_place k p) (f m) (fences s es p m) (λ e. subst (λ q. fences s es q m ≡ false) (place_equal k p e) (empty es k m u))

  pub assigned_same : (es : List Entry) → Once s es → fences_assigned s es ≡ fences s es
  assigned_same [] o = refl
  assigned_same (did v (sent m t) ∷ es) o = ap (assigned (did v (sent m t))) (assigned_same es o.1) ∙ ap (put (fence_at v t) (same_message m)) (put_is_add es (sent_after m) (fences s es (fence_at v t)) o.0)
  assigned_same (did v (left r c) ∷ es) o = ap (assigned (did v (left r c))) (assigned_same es o.1) ∙ put_is_add es (carried c r) (fences s es (fence_at v r)) o.0
  assigned_same (did v (came r c t) ∷ es) o = ap (assigned (did v (came r c t))) (assigned_same es o.1)
  assigned_same (did v (joined p t) ∷ es) o = ap (assigned (did v (joined p t))) (assigned_same es o.1)
  assigned_same (turned m w ∷ es) o = assigned_same es o.1

pub assigned_is_added : AssignedIsAdded
assigned_is_added = put_is_add

pub rules_may_assign : RulesMayAssign
rules_may_assign = assigned_same
