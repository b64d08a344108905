-- Lists of names that rise are sets.
use Rattle.std.proofs.Common.{◌≡◌, Bool, true, false, cond, ◌||◌, ◌&&◌, List, [], ◌∷◌, ⊎_elim, refl, sym, ap, ap₂, subst, ◌∙◌, true≢false}
use Rattle.std.specs.Cmp.{IsTotalOrder}
use Rattle.std.specs.Ordering.{is_eq, match_ordering, ordering_reverse}
use Rattle.std.specs.List.{AllByRecursion}
use Rattle.std.specs.declared.cmp.Ordering.{Ordering}
use Rattle.std.specs.declared.cmp.Ordering.TheVariants.{Less, Equal, Greater}
use Rattle.std.proofs.lemmas.Cmp.{then_total, on_total, nat_cmp_total}
use Rattle.ids.proofs.Keys.{exact_messages, message_self}
use Rattle.ids.specs.Cells.{message_cmp}
use Rattle.ids.specs.declared.names.MsgId.{MsgId}
use Rattle.eorder.specs.Places.{Place, fence_at, carried, sent_after, same_message, same_place}
use Rattle.eorder.specs.Acts.{sent, left, came, joined as enters, did, turned, add}
use Rattle.eorder.specs.Fences.{member, Rises, with_name, joined, cell_of, names_in, FencesAreSets}
use Rattle.eorder.specs.Rules.{put_names, RulesAreActs}
use Rattle.eorder.proofs.Places.{message_equal, one_or_other, place_self}

pub message_total : IsTotalOrder message_cmp
message_total = then_total (on_total (λ (m : MsgId). m.event.0) nat_cmp_total) (on_total (λ (m : MsgId). m.index) nat_cmp_total)

-- what is not below and not the same is above
turned_round : (m n : MsgId) → message_cmp m n ≡ Greater → message_cmp n m ≡ Less
turned_round m n e = message_total.antisymm n m ∙ ap ordering_reverse e

not_same : (m n : MsgId) → message_cmp m n ≡ Less → same_message n m ≡ false
not_same m n e = ap is_eq (message_total.antisymm n m ∙ ap ordering_reverse e)

above : (m n : MsgId) (f : List MsgId) → message_cmp m n ≡ Less → AllByRecursion (λ x. message_cmp n x ≡ Less) f → AllByRecursion (λ x. message_cmp m x ≡ Less) f
above m n [] e h = tt
above m n (x ∷ f) e h = (message_total.trans m n x e h.0, above m n f e h.1)

-- what is below all is none of them
no_member : (m : MsgId) (f : List MsgId) → AllByRecursion (λ x. message_cmp m x ≡ Less) f → member f m ≡ false
no_member m [] h = refl
no_member m (x ∷ f) h = λ i. not_same m x h.0 i || no_member m f h.1 i

has_first : (m : MsgId) (f : List MsgId) → member (m ∷ f) m ≡ true
has_first m f = ap (λ b. b || member f m) (message_self m)

swapped : (a b c : Bool) → (a || (b || c)) ≡ (b || (a || c))
swapped true true c = refl
swapped true false c = refl
swapped false b c = refl

or_none : (a : Bool) → (a || false) ≡ a
or_none true = refl
or_none false = refl

regrouped : (a b c : Bool) → ((a || b) || c) ≡ (b || (a || c))
regrouped true true c = refl
regrouped true false c = refl
regrouped false b c = refl

again : (a b : Bool) → (a || b) ≡ (a || (a || b))
again true b = refl
again false b = refl

-- the steps of a name that is put in its place, by the order of it and the first
member_step : (o : Ordering) (m n q : MsgId) (f g : List MsgId) → message_cmp m n ≡ o → member g q ≡ (same_message m q || member f q) → member (match_ordering o (m ∷ n ∷ f) (n ∷ f) (n ∷ g)) q ≡ (same_message m q || (same_message n q || member f q))
member_step Less m n q f g e h = refl
member_step Equal m n q f g e h = subst (λ x. (same_message x q || member f q) ≡ (same_message m q || (same_message x q || member f q))) (exact_messages m n e) (again (same_message m q) (member f q))
member_step Greater m n q f g e h = ap (λ b. same_message n q || b) h ∙ swapped (same_message n q) (same_message m q) (member f q)

pub member-with_name : (m : MsgId) (f : List MsgId) (q : MsgId) → member (with_name m f) q ≡ (same_message m q || member f q)
member-with_name m [] q = refl
member-with_name m (n ∷ f) q = member_step (message_cmp m n) m n q f (with_name m f) refl (member-with_name m f q)

below_step : (o : Ordering) (x m n : MsgId) (f g : List MsgId) → message_cmp x m ≡ Less → AllByRecursion (λ y. message_cmp x y ≡ Less) (n ∷ f) → AllByRecursion (λ y. message_cmp x y ≡ Less) g → AllByRecursion (λ y. message_cmp x y ≡ Less) (match_ordering o (m ∷ n ∷ f) (n ∷ f) (n ∷ g))
below_step Less x m n f g e h k = (e, h)
below_step Equal x m n f g e h k = h
below_step Greater x m n f g e h k = (h.0, k)

below_with : (x m : MsgId) (f : List MsgId) → message_cmp x m ≡ Less → AllByRecursion (λ y. message_cmp x y ≡ Less) f → AllByRecursion (λ y. message_cmp x y ≡ Less) (with_name m f)
below_with x m [] e h = (e, tt)
below_with x m (n ∷ f) e h = below_step (message_cmp m n) x m n f (with_name m f) e h (below_with x m f e h.1)

rises_step : (o : Ordering) (m n : MsgId) (f : List MsgId) → message_cmp m n ≡ o → Rises (n ∷ f) → Rises (with_name m f) → Rises (match_ordering o (m ∷ n ∷ f) (n ∷ f) (n ∷ with_name m f))
rises_step Less m n f e h k = ((e, above m n f e h.0), h)
rises_step Equal m n f e h k = h
rises_step Greater m n f e h k = (below_with n m f (turned_round m n e) h.0, k)

pub rises-with_name : (m : MsgId) (f : List MsgId) → Rises f → Rises (with_name m f)
rises-with_name m [] h = (tt, tt)
rises-with_name m (n ∷ f) h = rises_step (message_cmp m n) m n f refl h (rises-with_name m f h.1)

pub member-joined : (f g : List MsgId) (q : MsgId) → member (joined f g) q ≡ (member f q || member g q)
member-joined f [] q = sym (or_none (member f q))
member-joined f (m ∷ g) q =
    member-joined (with_name m f) g q ∙ ap (λ b. b || member g q) (member-with_name m f q) ∙ regrouped (same_message m q) (member f q) (member g q)

pub rises-joined : (f g : List MsgId) → Rises f → Rises (joined f g)
rises-joined f [] h = h
rises-joined f (m ∷ g) h = rises-joined (with_name m f) g (rises-with_name m f h)

-- the first of a list that rises is the first of each with the same names
first_below : (x y : MsgId) (f g : List MsgId) → Rises (y ∷ g) → message_cmp x y ≡ Less → member (x ∷ f) x ≡ member (y ∷ g) x → ⊥
first_below x y f g h e q = true≢false (sym (has_first x f) ∙ q ∙ no_member x (y ∷ g) (e, above x y g e h.0))

-- rests with the same names, where the first is in neither
rest_step : (b : Bool) (x m : MsgId) (f g : List MsgId) → same_message x m ≡ b → Rises (x ∷ f) → Rises (x ∷ g) → member (x ∷ f) m ≡ member (x ∷ g) m → member f m ≡ member g m
rest_step true x m f g p h k e = subst (λ n. member f n ≡ member g n) (message_equal x m p) (no_member x f h.0 ∙ sym (no_member x g k.0))
rest_step false x m f g p h k e = sym (ap (λ b. b || member f m) p) ∙ e ∙ ap (λ b. b || member g m) p

head_step : (o : Ordering) (x y : MsgId) (f g : List MsgId) → message_cmp x y ≡ o → Rises (x ∷ f) → Rises (y ∷ g) → ((m : MsgId) → member (x ∷ f) m ≡ member (y ∷ g) m) → (((m : MsgId) → member f m ≡ member g m) → f ≡ g) → x ∷ f ≡ y ∷ g
head_step Less x y f g p h k e ih = absurd (first_below x y f g k p (e x))
head_step Greater x y f g p h k e ih = absurd (first_below y x g f h (turned_round x y p) (sym (e y)))
head_step Equal x y f g p h k e ih =
    let q = exact_messages x y p in
    ap₂ (λ z l. z ∷ l) q
    (ih (λ m. rest_step (same_message x m) x m f g refl h (subst (λ z. Rises (z ∷ g)) (sym q) k) (e m ∙ ap (λ z. member (z ∷ g) m) (sym q))))

pub same_sets : (f g : List MsgId) → Rises f → Rises g → ((m : MsgId) → member f m ≡ member g m) → f ≡ g
same_sets [] [] h k e = refl
same_sets [] (y ∷ g) h k e = absurd (true≢false (sym (has_first y g) ∙ sym (e y)))
same_sets (x ∷ f) [] h k e = absurd (true≢false (sym (has_first x f) ∙ e x))
same_sets (x ∷ f) (y ∷ g) h k e = head_step (message_cmp x y) x y f g refl h k e (same_sets f g h.1 k.1)

cells_have : (f : List MsgId) → names_in (cell_of f) ≡ f
cells_have [] = refl
cells_have (m ∷ f) = refl

pub fences_are_sets : FencesAreSets
fences_are_sets = record { equal = same_sets; rise = rises-joined; members = member-joined; cells = cells_have }

member_cond : (b : Bool) (f g : List MsgId) (m : MsgId) → member (cond b f g) m ≡ cond b (member f m) (member g m)
member_cond true f g m = refl
member_cond false f g m = refl

-- what is added to a list of names is added to its set
added : (k p : Place) (s : Place → List MsgId) (g : List MsgId) (m : MsgId) → member (put_names k (joined (s k) g) s p) m ≡ add k (member g) (λ p. member (s p)) p m
added k p s g m = ⊎_elim (λ e. subst (λ p. member (put_names k (joined (s k) g) s p) m ≡ add k (member g) (λ p. member (s p)) p m) e here) there (one_or_other k p)
  where
    here : member (put_names k (joined (s k) g) s k) m ≡ add k (member g) (λ p. member (s p)) k m
    here = ap (λ b. member (cond b (joined (s k) g) (s k)) m) (place_self k) ∙ member-joined (s k) g m ∙ sym (ap (λ b. member (s k) m || (b && member g m)) (place_self k))

    there : same_place k p ≡ false → member (put_names k (joined (s k) g) s p) m ≡ add k (member g) (λ p. member (s p)) p m
    there e = ap (λ b. member (cond b (joined (s k) g) (s p)) m) e ∙ sym (or_none (member (s p) m)) ∙ sym (ap (λ b. member (s p) m || (b && member g m)) e)

pub rules_are_acts : RulesAreActs
rules_are_acts (did v (sent b t)) s k m =
    member_cond (same_place (fence_at v t) k) (b ∷ []) (put_names (sent_after b) (s (fence_at v t)) s k) m
    ∙ ap₂ (λ x y. cond (same_place (fence_at v t) k) x y) (or_none (same_message b m)) (member_cond (same_place (sent_after b) k) (s (fence_at v t)) (s k) m)
rules_are_acts (did v (left r c)) s k m = member_cond (same_place (carried c r) k) (s (fence_at v r)) (s k) m
rules_are_acts (did v (came r c t)) s k m = added (fence_at v t) k s (s (carried c r)) m
rules_are_acts (did v (enters p t)) s k m = added (fence_at v t) k s (s (fence_at v p)) m
rules_are_acts (turned b walk) s k m = refl
