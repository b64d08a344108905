-- A message that may be delivered has all that its turn waits for, and brings what travels in its cells.
use Rattle.std.proofs.Common.{◌≡◌, Bool, true, false, cond, List, [], ◌∷◌, ◌++◌, map, Option, Some, None, true≢false, refl, sym, ap, ◌∙◌, subst, ⊎_elim}
use Rattle.std.specs.List.{AllByRecursion}
use Rattle.std.proofs.lemmas.Bool.{or_left, or_right}
use Rattle.ids.specs.declared.names.MsgId.{MsgId}
use Rattle.ids.specs.declared.names.PromId.{PromId}
use Rattle.ids.specs.declared.reference.Reference.{Reference}
use Rattle.eorder.specs.Carried.{fence_with}
use Rattle.eorder.specs.Fences.{member, names_in, joined as both}
use Rattle.eorder.specs.Order.{awaited as awaited_places}
use Rattle.eorder.specs.Places.{Carrier, Place, carried, same_message}
use Rattle.eorder.proofs.FenceSets.{fences_are_sets}
use Rattle.eorder.proofs.Places.{either_true, message_equal}
use Rattle.post.specs.Delivery.{Delivery, opening, asked, sent, waiting}
use Rattle.post.specs.Messages.{Message, Published}
use Rattle.sends.specs.Vats.{names_for, reference_in}
use Rattle.world_cells.specs.World.{World, message_of, published_as}
use Rattle.event.specs.Ready.{first_undone, least_with}
use Rattle.event.specs.Walks.{looked_up, found_by, awaited, awaited_along, awaited_for, names_behind, fences_of, last_fences, board_walk}
use Rattle.event_ordering.specs.Deeds.{argument_fences, message_after, fences_of_world, is_done_in, walked_to, walked_by, walked_along, last_of}
use Rattle.event_ordering.specs.Laws.{BringsLast, BringsAll}
use Rattle.event_ordering.specs.Reading.{fences_of_delivery, after_of, publication_fences}

-- ---- what must be done is done

least_some : (m : MsgId) (o : Option MsgId) → least_with m o ≡ None → ⊥
least_some m None h = cc
least_some m (Some n) h = cc

undone_none : (w : World) (ns : List MsgId) → first_undone w ns ≡ None → (b : MsgId) → member ns b ≡ true → is_done_in w b ≡ true
undone_none w [] h b i = absurd (true≢false (sym i))
undone_none w (n ∷ ns) h b i = go (is_done_in w n) refl h (undone_none w ns)
  where
    go : (q : Bool) → is_done_in w n ≡ q → cond q (first_undone w ns) (least_with n (first_undone w ns)) ≡ None → (first_undone w ns ≡ None → (b : MsgId) → member ns b ≡ true → is_done_in w b ≡ true) → is_done_in w b ≡ true
    go true d k ih = ⊎_elim (λ t. subst (λ x. is_done_in w x ≡ true) (message_equal n b t) d) (λ t. ih k b t) (either_true (same_message n b) (member ns b) i)
    go false d k ih = absurd (least_some n (first_undone w ns) k)

-- names that are awaited stay awaited
names_stay : (w : World) (ns : List MsgId) (ps : List PromId) (b : MsgId) → member ns b ≡ true → member (awaited_along w ns ps) b ≡ true
names_stay w ns [] b h = h
names_stay w ns (p ∷ ps) b h =
    let more : List MsgId = awaited_for (published_as w p) in
    names_stay w (both ns more) ps b (fences_are_sets.members ns more b ∙ or_left (member ns b) (member more b) h)

-- the names in such a place are among some
abbrev Within : World → (MsgId → Bool) → Place → Type 0
Within w f k = (b : MsgId) → fences_of_world w k b ≡ true → f b ≡ true

abbrev place_of : Carrier × Reference → Place
place_of q = carried q.0 q.1

to_within : (w : World) (f : MsgId → Bool) (p : PromId) (y : Published) → published_as w p ≡ Some y → (r : Option Reference) → ((b : MsgId) → member (names_behind y.fences r) b ≡ true → f b ≡ true) → AllByRecursion (Within w f) (map place_of (walked_to p r))
to_within w f p y is None g = tt
to_within w f p y is (Some r) g = (λ b t. g b (sym (ap (λ o. member (names_in (fence_with (publication_fences o) r)) b) is) ∙ t), tt)

by_within : (w : World) (f : MsgId → Bool) (p : PromId) (o : Option Published) → published_as w p ≡ o → ((b : MsgId) → member (awaited_for o) b ≡ true → f b ≡ true) → AllByRecursion (Within w f) (map place_of (walked_by p o))
by_within w f p None is h = tt
by_within w f p (Some y) is h = to_within w f p y is (reference_in y.value) h

mapped_append : (P : Place → Type 0) (xs ys : List (Carrier × Reference)) → AllByRecursion P (map place_of xs) → AllByRecursion P (map place_of ys) → AllByRecursion P (map place_of (xs ++ ys))
mapped_append P [] ys h i = i
mapped_append P (x ∷ xs) ys h i = (h.0, mapped_append P xs ys h.1 i)

-- of each publication that the walk goes through, the names are awaited
along_within : (w : World) (f : MsgId → Bool) (ns : List MsgId) (ps : List PromId) → ((b : MsgId) → member (awaited_along w ns ps) b ≡ true → f b ≡ true) → AllByRecursion (Within w f) (map place_of (walked_along w ps))
along_within w f ns [] h = tt
along_within w f ns (p ∷ ps) h =
    let more : List MsgId = awaited_for (published_as w p) in
    mapped_append (Within w f) (walked_by p (published_as w p)) (walked_along w ps)
    (by_within w f p (published_as w p) refl (λ b t. h b (names_stay w (both ns more) ps b (fences_are_sets.members ns more b ∙ or_right (member ns b) (member more b) t))))
    (along_within w f (both ns more) ps h)

after_within : (d : Delivery) (names : List MsgId) (b : MsgId) → member (after_of d names) b ≡ true → member names b ≡ true
after_within (sent c) names b h = h
after_within (opening earlier ts) names b h = absurd (true≢false (sym h))
after_within (asked ts) names b h = absurd (true≢false (sym h))
after_within (waiting x) names b h = absurd (true≢false (sym h))

pub ready_law : (w : World) (m : MsgId) (g : Message) → message_of w m ≡ Some g → first_undone w (awaited w g) ≡ None
    → AllByRecursion (λ k. (b : MsgId) → fences_of_world w k b ≡ true → is_done_in w b ≡ true) (awaited_places m (walked_along w (looked_up w g.delivery)))
ready_law w m g is h =
    let ps : List PromId = looked_up w g.delivery in
    let all : (b : MsgId) → member (awaited_along w g.after ps) b ≡ true → is_done_in w b ≡ true = undone_none w (awaited w g) h in (
      λ b t. all b (names_stay w g.after ps b (after_within g.delivery g.after b (sym (ap (λ o. member (message_after o) b) is) ∙ t))),
      along_within w (is_done_in w) g.after ps all,
    )

-- ---- what comes in is what travels in its cells

published_fences : (o : Option Published) (r : Reference) (x : MsgId) → member (names_in (fence_with (publication_fences o) r)) x ≡ member (names_for (fences_of o) r) x
published_fences None r x = refl
published_fences (Some b) r x = refl

last_brings : (w : World) (ps : List PromId) → BringsLast (fences_of_world w) (last_of ps) (last_fences w ps)
last_brings w [] = λ r x. refl
last_brings w (p ∷ []) = λ r x. published_fences (published_as w p) r x
last_brings w (p ∷ q ∷ ps) = last_brings w (q ∷ ps)

pub all_brings : (w : World) (m : MsgId) (g : Message) → message_of w m ≡ Some g → (d : Delivery) → g.delivery ≡ d → BringsAll (fences_of_world w) m (last_of (looked_up w d)) d (found_by w d)
all_brings w m g is (sent c) h =
    (λ r x. ap (λ o. member (names_in (fence_with (argument_fences o) r)) x) is ∙ ap (λ d. member (names_in (fence_with (fences_of_delivery d) r)) x) h, last_brings w (board_walk w c.target).through)
all_brings w m g is (opening earlier ts) h = tt
all_brings w m g is (asked ts) h = tt
all_brings w m g is (waiting b) h = tt
