-- Sameness is equality of content.
use Rattle.std.proofs.Common.{◌≡◌, ℕ, ℤ, pos, negsuc, Bool, true, false, ◌&&◌, List, refl, sym, ap, ◌∙◌, subst}
use Rattle.std.specs.Str.{bytes_eq}
use Rattle.std.proofs.lemmas.Slice.Eq.{bytes_eq-Decides}
use Rattle.std.proofs.lemmas.Bool.{false≢true, eqb-true, eq-eqb}
use Rattle.ids.proofs.Keys.{equal as same_name, object_self, object_equal, ejector_self, ejector_equal, promise_self, exact_promises}
use Rattle.ids.specs.Cells.{promise_cmp}
use Rattle.values.specs.Data.{Val, null, bool, int, text, list, object, ejector, promise, broken, Vals, no_vals, and_val}
use Rattle.values.specs.Same.{same_as, same_items, same_bool, same_int}
use Rattle.values.specs.Laws.{SameBothWays, SameAsAThird}

pub bool_itself : (b : Bool) → same_bool b b ≡ true
bool_itself true = refl
bool_itself false = refl

pub int_itself : (z : ℤ) → same_int z z ≡ true
int_itself (pos n) = eq-eqb n n refl
int_itself (negsuc n) = eq-eqb n n refl

pub bytes_itself : (s : List ℕ) → bytes_eq s s ≡ true
bytes_itself s = (bytes_eq-Decides s s).1 refl

pub both : (p q : Bool) → p ≡ true → q ≡ true → (p && q) ≡ true
both p q e f = ap (λ x. x && q) e ∙ f

mutual
  pub itself : (v : Val) → same_as v v ≡ true
  itself null = refl
  itself (bool b) = bool_itself b
  itself (int z) = int_itself z
  itself (text s) = bytes_itself s
  itself (list vs) = items_itself vs
  itself (object o) = object_self o
  itself (ejector j) = ejector_self j
  itself (promise p) = promise_self p
  itself (broken s) = bytes_itself s

  items_itself : (vs : Vals) → same_items vs vs ≡ true
  items_itself no_vals = refl
  items_itself (and_val v vs) = both _ _ (itself v) (items_itself vs)

pub bool_equal : (a b : Bool) → same_bool a b ≡ true → a ≡ b
bool_equal true b e = sym e
bool_equal false true e = absurd (false≢true e)
bool_equal false false e = refl

pub int_equal : (y z : ℤ) → same_int y z ≡ true → y ≡ z
int_equal (pos m) (pos n) e = ap pos (eqb-true m n e)
int_equal (pos m) (negsuc n) e = absurd (false≢true e)
int_equal (negsuc m) (pos n) e = absurd (false≢true e)
int_equal (negsuc m) (negsuc n) e = ap negsuc (eqb-true m n e)

pub first_of_both : (p q : Bool) → (p && q) ≡ true → p ≡ true
first_of_both true q e = refl
first_of_both false q e = e

pub second_of_both : (p q : Bool) → (p && q) ≡ true → q ≡ true
second_of_both true q e = e
second_of_both false q e = absurd (false≢true e)

item_equal : {v w : Val} {vs ws : Vals} → v ≡ w → vs ≡ ws → and_val v vs ≡ and_val w ws
item_equal p q = λ i. and_val (p i) (q i)

mutual
  pub equal : (v w : Val) → same_as v w ≡ true → v ≡ w
  equal null null e = refl
  equal (bool a) (bool b) e = ap bool (bool_equal a b e)
  equal (int y) (int z) e = ap int (int_equal y z e)
  equal (text s) (text t) e = ap text ((bytes_eq-Decides s t).0 e)
  equal (list vs) (list ws) e = ap list (items_equal vs ws e)
  equal (object o) (object p) e = ap object (object_equal o p e)
  equal (ejector j) (ejector k) e = ap ejector (ejector_equal j k e)
  equal (promise p) (promise q) e = ap promise (exact_promises p q (same_name (promise_cmp p q) e))
  equal (broken s) (broken t) e = ap broken ((bytes_eq-Decides s t).0 e)
  equal _ _ e = absurd (false≢true e)

  items_equal : (vs ws : Vals) → same_items vs ws ≡ true → vs ≡ ws
  items_equal no_vals no_vals e = refl
  items_equal (and_val v vs) (and_val w ws) e = item_equal (equal v w (first_of_both (same_as v w) (same_items vs ws) e)) (items_equal vs ws (second_of_both (same_as v w) (same_items vs ws) e))
  items_equal _ _ e = absurd (false≢true e)

alike : (p q : Bool) → (p ≡ true → q ≡ true) → (q ≡ true → p ≡ true) → p ≡ q
alike true q f g = sym (f refl)
alike false true f g = absurd (false≢true (g refl))
alike false false f g = refl

turned : (v w : Val) → same_as v w ≡ true → same_as w v ≡ true
turned v w e = let P : Val → Type 0 = λ x. same_as x v ≡ true in subst P (equal v w e) (itself v)

pub both_ways : SameBothWays
both_ways v w = alike (same_as v w) (same_as w v) (turned v w) (turned w v)

pub third : SameAsAThird
third u v w e f = let P : Val → Type 0 = λ x. same_as u x ≡ true in subst P (equal v w f) e
