-- What single acts do to the fences of a vat, and to what a turn has made.
use Rattle.std.proofs.Common.{◌≡◌, Bool, true, false, cond, ◌||◌, ◌&&◌, List, [], ◌∷◌, Option, Some, None, refl, sym, ap, ◌∙◌}
use Rattle.std.specs.List.{list_any}
use Rattle.std.specs.Ordering.{is_eq}
use Rattle.ids.proofs.Keys.{equal_self}
use Rattle.ids.proofs.References.{reference_equal}
use Rattle.ids.specs.References.{same_reference}
use Rattle.ids.specs.declared.names.VatNo.{VatNo}
use Rattle.ids.specs.declared.names.MsgId.{MsgId}
use Rattle.ids.specs.declared.names.PromId.{PromId}
use Rattle.ids.specs.declared.reference.Reference.{Reference}
use Rattle.ids.specs.declared.reference.Reference.TheVariants as reference
use Rattle.eorder.specs.Places.{Carrier, Place, fence_at, carried, sent_after, same_vat, same_message, same_carrier}
use Rattle.eorder.specs.Acts.{sent, left, came, joined, did, Fences, applied}
use Rattle.eorder.specs.Worlds.{after_acts}
use Rattle.eorder.proofs.Worlds.{after_append}
use Rattle.event_ordering.specs.Acting.{left_in, sent_on, joined_to}
use Rattle.event_ordering.specs.Reading.{Sets, reading}

-- ---- truth values

pub or_false : (x : Bool) → (x || false) ≡ x
or_false true = refl
or_false false = refl

pub or_assoc : (x y z : Bool) → ((x || y) || z) ≡ (x || (y || z))
or_assoc true y z = refl
or_assoc false y z = refl

pub and_none : (x : Bool) → (x && false) ≡ false
and_none true = refl
and_none false = refl

sent_case : (q p y z w : Bool) → cond (q && p) y (cond q z w || false) ≡ cond q (cond p y z) w
sent_case true true y z w = refl
sent_case true false y z w = or_false z
sent_case false p y z w = or_false w

fence_case : (q p x y z : Bool) → (cond q x z || ((q && p) && y)) ≡ cond q (x || (p && y)) z
fence_case true p x y z = refl
fence_case false p x y z = or_false z

-- ---- single acts

-- the message alone stands behind a reference
abbrev pub alone : MsgId → Reference → Sets → Sets
alone m t s r x = cond (same_reference t r) (same_message m x) (s r x)

-- names more stand behind it
abbrev pub with_names : Reference → (MsgId → Bool) → Sets → Sets
with_names t f s r x = s r x || (same_reference t r && f x)

-- a message was sent after these, too
abbrev pub with_after : MsgId → (MsgId → Bool) → (MsgId → MsgId → Bool) → MsgId → MsgId → Bool
with_after m f a n x = a n x || (same_message m n && f x)

-- these travel, too
abbrev pub with_more : Carrier → Reference → (MsgId → Bool) → (Carrier → Sets) → Carrier → Sets
with_more d t f c e r x = c e r x || ((same_carrier d e && same_reference t r) && f x)

vat_self : (v : VatNo) → same_vat v v ≡ true
vat_self v = ap is_eq (equal_self v.0.0)

module _ (base : Fences) (v : VatNo) where
  -- what the vat has behind a reference
  own : (s : Sets) (a : MsgId → MsgId → Bool) (c : Carrier → Sets) (r : Reference) (x : MsgId) → reading base v s a c (fence_at v r) x ≡ s r x
  own s a c r x = ap (λ q. cond q (s r x) (base (fence_at v r) x)) (vat_self v)

  sent_at_place : (m : MsgId) (t : Reference) (s : Sets) (a : MsgId → MsgId → Bool) (c : Carrier → Sets) (k : Place) (x : MsgId)
      → applied (did v (sent m t)) (reading base v s a c) k x ≡ reading base v (alone m t s) (with_after m (s t) a) c k x
  sent_at_place m t s a c (fence_at w r) x = sent_case (same_vat v w) (same_reference t r) (same_message m x) (s r x) (base (fence_at w r) x)
  sent_at_place m t s a c (carried d r) x = or_false (base (carried d r) x || c d r x)
  sent_at_place m t s a c (sent_after n) x =
      ap (λ q. (base (sent_after n) x || a n x) || (same_message m n && q)) (own s a c t x) ∙ or_assoc (base (sent_after n) x) (a n x) (same_message m n && s t x)

  pub sent_reads : (m : MsgId) (t : Reference) (s : Sets) (a : MsgId → MsgId → Bool) (c : Carrier → Sets) → applied (did v (sent m t)) (reading base v s a c) ≡ reading base v (alone m t s) (with_after m (s t) a) c
  sent_reads m t s a c = λ i k x. sent_at_place m t s a c k x i

  left_at_place : (r : Reference) (d : Carrier) (s : Sets) (a : MsgId → MsgId → Bool) (c : Carrier → Sets) (k : Place) (x : MsgId)
      → applied (did v (left r d)) (reading base v s a c) k x ≡ reading base v s a (with_more d r (s r) c) k x
  left_at_place r d s a c (fence_at w u) x = or_false (cond (same_vat v w) (s u x) (base (fence_at w u) x))
  left_at_place r d s a c (carried e u) x =
      ap (λ q. (base (carried e u) x || c e u x) || ((same_carrier d e && same_reference r u) && q)) (own s a c r x) ∙ or_assoc (base (carried e u) x) (c e u x) ((same_carrier d e && same_reference r u) && s r x)
  left_at_place r d s a c (sent_after n) x = or_false (base (sent_after n) x || a n x)

  left_reads : (r : Reference) (d : Carrier) (s : Sets) (a : MsgId → MsgId → Bool) (c : Carrier → Sets) → applied (did v (left r d)) (reading base v s a c) ≡ reading base v s a (with_more d r (s r) c)
  left_reads r d s a c = λ i k x. left_at_place r d s a c k x i

  came_at_place : (r : Reference) (d : Carrier) (t : Reference) (s : Sets) (a : MsgId → MsgId → Bool) (c : Carrier → Sets) (k : Place) (x : MsgId)
      → applied (did v (came r d t)) (reading base v s a c) k x ≡ reading base v (with_names t (λ x. base (carried d r) x || c d r x) s) a c k x
  came_at_place r d t s a c (fence_at w u) x = fence_case (same_vat v w) (same_reference t u) (s u x) (base (carried d r) x || c d r x) (base (fence_at w u) x)
  came_at_place r d t s a c (carried e u) x = or_false (base (carried e u) x || c e u x)
  came_at_place r d t s a c (sent_after n) x = or_false (base (sent_after n) x || a n x)

  pub came_reads : (r : Reference) (d : Carrier) (t : Reference) (s : Sets) (a : MsgId → MsgId → Bool) (c : Carrier → Sets)
      → applied (did v (came r d t)) (reading base v s a c) ≡ reading base v (with_names t (λ x. base (carried d r) x || c d r x) s) a c
  came_reads r d t s a c = λ i k x. came_at_place r d t s a c k x i

  joined_at_place : (p t : Reference) (s : Sets) (a : MsgId → MsgId → Bool) (c : Carrier → Sets) (k : Place) (x : MsgId)
      → applied (did v (joined p t)) (reading base v s a c) k x ≡ reading base v (with_names t (s p) s) a c k x
  joined_at_place p t s a c (fence_at w u) x =
      ap (λ q. cond (same_vat v w) (s u x) (base (fence_at w u) x) || ((same_vat v w && same_reference t u) && q)) (own s a c p x)
      ∙ fence_case (same_vat v w) (same_reference t u) (s u x) (s p x) (base (fence_at w u) x)
  joined_at_place p t s a c (carried e u) x = or_false (base (carried e u) x || c e u x)
  joined_at_place p t s a c (sent_after n) x = or_false (base (sent_after n) x || a n x)

  joined_reads : (p t : Reference) (s : Sets) (a : MsgId → MsgId → Bool) (c : Carrier → Sets) → applied (did v (joined p t)) (reading base v s a c) ≡ reading base v (with_names t (s p) s) a c
  joined_reads p t s a c = λ i k x. joined_at_place p t s a c k x i

-- ---- several

-- whether a reference is among some
abbrev pub among : List Reference → Reference → Bool
among rs r = list_any (λ t. same_reference t r) rs

-- those that are among these leave
abbrev pub with_all : Carrier → List Reference → Sets → (Carrier → Sets) → Carrier → Sets
with_all d rs s c e r x = c e r x || ((same_carrier d e && among rs r) && s r x)

none_case : (c q y : Bool) → c ≡ (c || ((q && false) && y))
none_case true q y = refl
none_case false true y = refl
none_case false false y = refl

or_again : (l z : Bool) → (z || (l && z)) ≡ z
or_again l true = refl
or_again true false = refl
or_again false false = refl

more_case : (c q p l y z : Bool) → (p ≡ true → y ≡ z) → ((c || ((q && p) && y)) || ((q && l) && z)) ≡ (c || ((q && (p || l)) && z))
more_case true q p l y z h = refl
more_case false false p l y z h = refl
more_case false true false l y z h = refl
more_case false true true l y z h = ap (λ b. b || (l && z)) (h refl) ∙ or_again l z

-- a message is sent on a target, if that is a reference
abbrev pub sent_sets : MsgId → Option Reference → Sets → Sets
sent_sets m None s = s
sent_sets m (Some t) s = alone m t s

abbrev pub sent_names : Option Reference → Sets → MsgId → Bool
sent_names None s x = false
sent_names (Some t) s x = s t x

-- a promise is entered as what settles to a reference, if it does
abbrev pub join_sets : PromId → Option Reference → Sets → Sets
join_sets p None s = s
join_sets p (Some t) s = with_names t (s (reference.Promise p)) s

module _ (base : Fences) (v : VatNo) where
  -- references leave in a carrier
  pub left_all : (d : Carrier) (rs : List Reference) (s : Sets) (a : MsgId → MsgId → Bool) (c : Carrier → Sets) → after_acts v (left_in d rs) (reading base v s a c) ≡ reading base v s a (with_all d rs s c)
  left_all d [] s a c = ap (reading base v s a) (λ i e r x. none_case (c e r x) (same_carrier d e) (s r x) i)
  left_all d (t ∷ rs) s a c =
      after_append v (left_in d rs) (left t d ∷ []) (reading base v s a c)
      ∙ ap (after_acts v (left_in d rs)) (left_reads base v t d s a c)
      ∙ left_all d rs s a (with_more d t (s t) c)
      ∙ ap (reading base v s a) (λ i e r x. more_case (c e r x) (same_carrier d e) (same_reference t r) (among rs r) (s t x) (s r x) (λ q. ap (λ u. s u x) (reference_equal t r q)) i)

  pub sent_all : (m : MsgId) (o : Option Reference) (s : Sets) (a : MsgId → MsgId → Bool) (c : Carrier → Sets)
      → after_acts v (sent_on m o) (reading base v s a c) ≡ reading base v (sent_sets m o s) (with_after m (sent_names o s) a) c
  sent_all m None s a c = ap (λ a. reading base v s a c) (λ i n x. (sym (or_false (a n x)) ∙ ap (λ q. a n x || q) (sym (and_none (same_message m n)))) i)
  sent_all m (Some t) s a c = sent_reads base v m t s a c

  pub join_all : (p : PromId) (o : Option Reference) (s : Sets) (a : MsgId → MsgId → Bool) (c : Carrier → Sets) → after_acts v (joined_to p o) (reading base v s a c) ≡ reading base v (join_sets p o s) a c
  join_all p None s a c = refl
  join_all p (Some t) s a c = joined_reads base v (reference.Promise p) t s a c
