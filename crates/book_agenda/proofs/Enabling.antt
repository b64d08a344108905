-- What an agenda finds to do is all that may be done, in order, and what it finds first is the first of that.
use Rattle.std.proofs.Common.{◌≡◌, Bool, true, false, List, [], ◌∷◌, ◌++◌, map, Contains, Option, Some, None, is_some, inl, inr, ⊎_elim, ◌⊎◌, cond, refl, sym, ap, ap₂, subst, ◌∙◌}
use Rattle.std.specs.List.{AllByRecursion, filter_map, cons_option}
use Rattle.std.specs.List.Sorted.{IsStrictlySortedBy}
use Rattle.std.specs.BTreeMap as entries
use Rattle.std.specs.BTreeSet.{IsOrdered}
use Rattle.std.specs.Ordering.{is_gt, ordering_then}
use Rattle.std.specs.declared.cmp.Ordering.{Ordering}
use Rattle.std.specs.declared.cmp.Ordering.TheVariants.{Less, Equal, Greater}
use Rattle.std.proofs.Math.Bool.{Bool-set}
use Rattle.std.proofs.Math.Logic.{∥∥₁_elim, ∥∥₁_prop}
use Rattle.std.proofs.lemmas.Bool.{false≢true}
use Rattle.std.proofs.lemmas.Cmp.{upto}
use Rattle.std.proofs.lemmas.List.Elements.{All-contains, All-from_recursion, Contains-append_left, Contains-append_right, Contains-append_cases}
use Rattle.std.proofs.lemmas.Map.Keys.{sorted_head, sorted_tail}
use Rattle.std.proofs.lemmas.Map.Views.{btree_set_contains_iff, btree_map_get_iff, btree_map_contains_key_iff}
use Rattle.std.proofs.lemmas.Option.{none-some, same_Some}
use Rattle.ids.proofs.Keys.{equal, message_self, exact_messages}
use Rattle.ids.specs.Cells.{message_cmp, promise_cmp, vat_cmp}
use Rattle.ids.specs.declared.names.MsgId.{MsgId}
use Rattle.ids.specs.declared.names.VatNo.{VatNo}
use Rattle.world_cells.specs.World.{World}
use Rattle.book_agenda.specs.Waiting.{how, is_front}
use Rattle.book_agenda.specs.AgendaView.{known_cmp, NotedIn}
use Rattle.book_agenda.specs.Enabled.{Out, MayDo, may_arrive, may_forward, may_turn, may_learn, message_in, learn_in, step_cmp_by, step_cmp, Rises, Enabled, First}
use Rattle.book_agenda.specs.Found.{message_step, step_by, step_if, front_step, front_steps, learn_step, message_steps, learn_steps, first_in}
use Rattle.book_agenda.specs.declared.waiting.Waits.{Waits}
use Rattle.book_agenda.specs.declared.waiting.Waits.TheVariants as waits
use Rattle.book_agenda.specs.declared.agenda.Known.{Known}
use Rattle.book_agenda.specs.declared.agenda.Agenda.{Agenda}
use Rattle.book_agenda.specs.declared.agenda.Step.{Step}
use Rattle.book_agenda.specs.declared.agenda.Move.TheVariants as move
use Rattle.book_agenda.specs.declared.agenda.Step.TheVariants as step
use Rattle.book_agenda.proofs.Orders.{message_total, known_total, exact_known}
use Rattle.book_agenda.proofs.Stepping.{found_may, may_found, found_waits, step_right, learning_is, learn_may, learnable}
use Rattle.book_agenda.proofs.Rising.{in_none, in_head, in_tail, in_cases, in_given, given_in, each_given, given_rises, first_messages, IsOfMessage, IsOfNone, both_rise, FirstBelow, first_below, below}

-- the names of those that wait
abbrev pub names_of : Agenda → List MsgId
names_of a = entries.keys a.waiting.all

-- what each that waits can do
abbrev pub steps_by_name : World → Out → Agenda → List Step
steps_by_name w out a = filter_map (message_step w out) (names_of a)

-- what messages can do, and then what vats can learn
abbrev pub steps_of : World → Out → Agenda → List Step
steps_of w out a = steps_by_name w out a ++ learn_steps out a

-- two functions that give the same of each item of a list
given_alike : {A B C : Type 0} (f : A → Option C) (g : B → Option C) (h : A → B) (xs : List A) → ((x : A) → Contains xs x → f x ≡ g (h x)) → filter_map f xs ≡ filter_map g (map h xs)
given_alike f g h [] same = refl
given_alike f g h (x ∷ xs) same = ap₂ cons_option (same x (in_head x xs)) (given_alike f g h xs (λ y i. same y (in_tail x y xs i)))

-- ---- the first that f gives, of a list in order

module _ (f : MsgId → Option Step) where
  self_upto : (m : MsgId) → is_gt (message_cmp m m) ≡ false
  self_upto m = ap is_gt (equal (message_cmp m m) (message_self m))

  -- nothing, or what one gives behind which there is none that gives something
  abbrev FirstGiven : List MsgId → Option Step → Type 0
  FirstGiven ks None = (k : MsgId) → Contains ks k → f k ≡ None
  FirstGiven ks (Some s) = (n : MsgId) × (f n ≡ Some s) × ((k : MsgId) (t : Step) → Contains ks k → f k ≡ Some t → is_gt (message_cmp n k) ≡ false)

  first_given : (ks : List MsgId) → IsStrictlySortedBy message_cmp ks → FirstGiven ks (first_in (filter_map f ks))
  first_given [] sorted = λ k h. absurd (in_none k h)
  first_given (x ∷ xs) sorted = by (f x) refl (first_given xs (sorted_tail message_cmp x xs sorted))
    where
      later : AllByRecursion (λ k. message_cmp x k ≡ Less) xs → (k : MsgId) → Contains xs k → is_gt (message_cmp x k) ≡ false
      later all k h = ap is_gt (All-contains (λ j. message_cmp x j ≡ Less) xs k (All-from_recursion (λ j. message_cmp x j ≡ Less) xs all) h)

      rest_none : (o : Option Step) → f x ≡ None → FirstGiven xs o → FirstGiven (x ∷ xs) o
      rest_none None e r = λ k h. ⊎_elim (λ same. ap f (sym same) ∙ e) (λ g. r k g) (in_cases x k xs h)
      rest_none (Some s) e r = (r.0, r.1, λ k t h g. ⊎_elim (λ same. absurd (none-some t (sym e ∙ ap f same ∙ g))) (λ i. r.2 k t i g) (in_cases x k xs h))

      by : (o : Option Step) → f x ≡ o → FirstGiven xs (first_in (filter_map f xs)) → FirstGiven (x ∷ xs) (first_in (cons_option o (filter_map f xs)))
      by None e r = rest_none (first_in (filter_map f xs)) e r
      by (Some s) e r = (x, e, λ k t h g. ⊎_elim (λ same. subst (λ j. is_gt (message_cmp x j) ≡ false) same (self_upto x)) (λ i. later (sorted_head message_cmp x xs sorted) k i) (in_cases x k xs h))

module _ (w : World) (out : Out) (a : Agenda) where
  -- ---- each that is found, and no other, may be done

  learn_of : (k : Known) (s : Step) → learn_step out k ≡ Some s → NotedIn w a → Contains a.known.keys k → MayDo w out s
  learn_of k s e notes among =
      let is = learning_is out k s e in
      subst (MayDo w out) is.1 (learn_may w out k.vat k.promise (sym (notes.learns k.vat k.promise) ∙ (btree_set_contains_iff known_total exact_known a.known k).1 among) is.0)

  pub found_is : NotedIn w a → (s : Step) → Contains (steps_of w out a) s → MayDo w out s
  found_is notes s h =
      ⊎_elim (λ g. let m = given_in (message_step w out) s (names_of a) g in (found_may w out m.0 s m.2).1)
      (λ g. let k = given_in (learn_step out) s a.known.keys g in learn_of k.0 s k.2 notes k.1)
      (Contains-append_cases (steps_by_name w out a) (learn_steps out a) s h)

  -- a message that can do something waits
  waits_there : NotedIn w a → (m : MsgId) (s : Step) → message_step w out m ≡ Some s → (x : Waits) × (how a.waiting m ≡ Some x)
  waits_there notes m s h = let x = found_waits w out m s h in (x.0, notes.messages m ∙ x.1)

  by_message : NotedIn w a → (s : Step) → MayDo w out s → (m : MsgId) → message_in s ≡ Some m → Contains (steps_of w out a) s
  by_message notes s may m h =
      let found = may_found w out s may m h in
      let x = waits_there notes m s found in
      Contains-append_left (steps_by_name w out a) (learn_steps out a) s
      (in_given (message_step w out) m s (names_of a) ((btree_map_contains_key_iff message_total exact_messages a.waiting.all m).0 (ap is_some x.1)) found)

  -- each is of a message, or what a vat learns
  each_kind : NotedIn w a → (P : Step → Type 0) → ((s : Step) (m : MsgId) → MayDo w out s → message_in s ≡ Some m → P s) → ((s : Step) → message_in s ≡ None → Contains (learn_steps out a) s → P s) → (s : Step) → MayDo w out s → P s
  each_kind notes P f g _ (may_arrive {m = m} there at) = f (step.Move (move.Arrive m)) m (may_arrive there at) refl
  each_kind notes P f g _ (may_forward {m = m} there at goes) = f (step.Move (move.Forward m)) m (may_forward there at goes) refl
  each_kind notes P f g _ (may_turn {m = m} there at o ready) = f (step.Turn m) m (may_turn there at o ready) refl
  each_kind notes P f g _ (may_learn {v = v} {p = p} there known o) =
      let k : Known = record { vat = v; promise = p } in
      g (step.Move (move.Learn v p)) refl (in_given (learn_step out) k (step.Move (move.Learn v p)) a.known.keys ((btree_set_contains_iff known_total exact_known a.known k).0 (notes.learns v p ∙ learnable w v p there known)) (ap (λ b. cond b None (Some (step.Move (move.Learn v p)))) o))

  pub is_found : NotedIn w a → (s : Step) → MayDo w out s → Contains (steps_of w out a) s
  is_found notes = each_kind notes (λ s. Contains (steps_of w out a) s) (λ s m may h. by_message notes s may m h) (λ s h i. Contains-append_right (steps_by_name w out a) (learn_steps out a) s i)

  -- ---- in order

  messages_before : (m n : MsgId) (s t : Step) → message_step w out m ≡ Some s → message_step w out n ≡ Some t → message_cmp m n ≡ Less → step_cmp s t ≡ Less
  messages_before m n s t e f h = ap₂ (λ o p. step_cmp_by o p (ordering_then (vat_cmp (learn_in s).0 (learn_in t).0) (promise_cmp (learn_in s).1 (learn_in t).1))) (found_may w out m s e).0 (found_may w out n t f).0 ∙ h

  learning_before : (j k : Known) (s t : Step) → learn_step out j ≡ Some s → learn_step out k ≡ Some t → known_cmp j k ≡ Less → step_cmp s t ≡ Less
  learning_before j k s t e f h = ap₂ step_cmp (sym (learning_is out j s e).1) (sym (learning_is out k t f).1) ∙ h

  of_messages : AllByRecursion IsOfMessage (steps_by_name w out a)
  of_messages = each_given (message_step w out) IsOfMessage (λ m s e. (m, (found_may w out m s e).0)) (names_of a)

  of_none : AllByRecursion IsOfNone (learn_steps out a)
  of_none = each_given (learn_step out) IsOfNone (λ k s e. ap message_in (sym (learning_is out k s e).1)) a.known.keys

  messages_rise : entries.IsOrdered message_cmp a.waiting.all → Rises (steps_by_name w out a)
  messages_rise ordered = given_rises message_cmp (message_step w out) messages_before (names_of a) ordered

  learning_rises : IsOrdered known_cmp a.known → Rises (learn_steps out a)
  learning_rises ordered = given_rises known_cmp (learn_step out) learning_before a.known.keys ordered

  -- what each can do as it waits is what it can do
  same_steps : NotedIn w a → entries.IsOrdered message_cmp a.waiting.all → message_steps w out a ≡ steps_by_name w out a
  same_steps notes ordered = given_alike (λ e. step_by w out e.0 e.1) (message_step w out) (λ e. e.0) a.waiting.all.entries
      (λ e h. step_right w out e.0 e.1 (sym (notes.messages e.0) ∙ (btree_map_get_iff message_total exact_messages a.waiting.all ordered e.0 e.1).1 h))

  -- THE LEMMA: all that may be done, in order
  pub enabled : NotedIn w a → entries.IsOrdered message_cmp a.waiting.all → IsOrdered known_cmp a.known → Enabled w out (message_steps w out a ++ learn_steps out a)
  enabled notes waiting known = subst (λ ss. Enabled w out (ss ++ learn_steps out a)) (sym (same_steps notes waiting)) (record {
    rise = both_rise (steps_by_name w out a) (learn_steps out a) (messages_rise waiting) (learning_rises known) of_messages of_none;
    each = λ s. (found_is notes s, is_found notes s);
  })

  -- ---- the first

  -- what one at the front can do is what it can do
  front_right : NotedIn w a → (n : MsgId) (s : Step) → front_step w out a n ≡ Some s → message_step w out n ≡ Some s
  front_right notes n s h = by (how a.waiting n) refl h
    where
      by : (o : Option Waits) → how a.waiting n ≡ o → step_if w out n o ≡ Some s → message_step w out n ≡ Some s
      by None e g = absurd (none-some s g)
      by (Some x) e g = sym (step_right w out n x (sym (notes.messages n) ∙ e)) ∙ g

  -- where a message can do something, one at the front that is not behind it can
  abbrev Covered : MsgId → Type 0
  Covered m = ∥ ((n : MsgId) × (s : Step) × Contains a.waiting.fronts.keys n × (front_step w out a n ≡ Some s) × (is_gt (message_cmp n m) ≡ false)) ∥₁

  covered : NotedIn w a → (m : MsgId) (t : Step) → message_step w out m ≡ Some t → Covered m
  covered notes m t h = let x = waits_there notes m t h in by x.0 x.1 (step_right w out m x.0 (sym (notes.messages m) ∙ x.1) ∙ h)
    where
      at_front : (n : MsgId) → is_front a.waiting n ≡ true → Contains a.waiting.fronts.keys n
      at_front n e = (btree_set_contains_iff message_total exact_messages a.waiting.fronts n).0 e

      ready : (v : VatNo) (n : MsgId) → is_gt (message_cmp n m) ≡ false → Contains a.waiting.fronts.keys n → how a.waiting n ≡ Some (waits.Ready v) → (b : Bool) → out v ≡ b → cond b None (Some (step.Turn m)) ≡ Some t → Covered m
      ready v n le front is true e g = absurd (none-some t g)
      ready v n le front is false e g = ∣ (n, step.Turn n, front, ap (step_if w out n) is ∙ ap (λ b. cond b None (Some (step.Turn n))) e, le) ∣₁

      by : (x : Waits) → how a.waiting m ≡ Some x → step_by w out m x ≡ Some t → Covered m
      by waits.Moving is g = ∣ (m, t, at_front m (notes.indexed.moving m is), ap (step_if w out m) is ∙ g, self_upto (message_step w out) m) ∣₁
      by (waits.Ready v) is g = ∥∥₁_elim (notes.indexed.heads m v is) ∥∥₁_prop (λ head. ready v head.0 head.3 (at_front head.0 head.2) head.1 (out v) refl g)
      by waits.Behind is g = absurd (none-some t g)

  pub first_message : NotedIn w a → IsOrdered message_cmp a.waiting.fronts → (s : Step) → Some s ≡ first_in (front_steps w out a) → First w out (Some s)
  first_message notes ordered s h = (
    (found_may w out first.0 s first_step).1,
    each_kind notes (λ t. (t ≡ s) ⊎ (step_cmp s t ≡ Less)) (λ t m may is. of_message t m may is) (λ t is i. inr (first_messages s t (first.0, (found_may w out first.0 s first_step).0) is)),
  )
    where
      first : FirstGiven (front_step w out a) a.waiting.fronts.keys (Some s)
      first = subst (FirstGiven (front_step w out a) a.waiting.fronts.keys) (sym h) (first_given (front_step w out a) a.waiting.fronts.keys ordered)

      first_step : message_step w out first.0 ≡ Some s
      first_step = front_right notes first.0 s first.1

      placed : (t : Step) (m : MsgId) → message_step w out m ≡ Some t → (o : Ordering) → message_cmp first.0 m ≡ o → is_gt o ≡ false → (t ≡ s) ⊎ (step_cmp s t ≡ Less)
      placed t m found Less e g = inr (messages_before first.0 m s t first_step found e)
      placed t m found Equal e g = inl (same_Some t s (sym found ∙ ap (message_step w out) (sym (exact_messages first.0 m e)) ∙ first_step))
      placed t m found Greater e g = absurd (false≢true (sym g))

      of_message : (t : Step) (m : MsgId) → MayDo w out t → message_in t ≡ Some m → (t ≡ s) ⊎ (step_cmp s t ≡ Less)
      of_message t m may is =
          let found = may_found w out t may m is in
          placed t m found (message_cmp first.0 m) refl (∥∥₁_elim (covered notes m t found) (Bool-set _ _) (λ n. upto message_total first.0 n.0 m (first.2 n.0 n.1 n.2 n.3) n.4))

  pub first_learnt : NotedIn w a → IsOrdered message_cmp a.waiting.fronts → IsOrdered known_cmp a.known → None ≡ first_in (front_steps w out a) → First w out (first_in (learn_steps out a))
  first_learnt notes fronts ordered h = by (learn_steps out a) refl (first_below (learn_steps out a) (learning_rises ordered))
    where
      none : FirstGiven (front_step w out a) a.waiting.fronts.keys None
      none = subst (FirstGiven (front_step w out a) a.waiting.fronts.keys) (sym h) (first_given (front_step w out a) a.waiting.fronts.keys fronts)

      no_message : (t : Step) (m : MsgId) → MayDo w out t → message_in t ≡ Some m → ⊥
      no_message t m may is = ∥∥₁_elim (covered notes m t (may_found w out t may m is)) (λ x y. absurd x) (λ n. none-some n.1 (sym (none n.0 n.2) ∙ n.3))

      by : (ss : List Step) → learn_steps out a ≡ ss → FirstBelow ss → First w out (first_in ss)
      by [] e g = each_kind notes (λ s. ⊥) no_message (λ s is i. in_none s (subst (λ xs. Contains xs s) e i))
      by (s ∷ ss) e g = (
        learns,
        each_kind notes (λ t. (t ≡ s) ⊎ (step_cmp s t ≡ Less)) (λ t m may is. absurd (no_message t m may is))
            (λ t is i. ⊎_elim (λ same. inl (sym same)) (λ k. inr (below s t ss g k)) (in_cases s t ss (subst (λ xs. Contains xs t) e i))),
      )
        where
          learns : MayDo w out s
          learns = let k = given_in (learn_step out) s a.known.keys (subst (λ xs. Contains xs s) (sym e) (in_head s ss)) in learn_of k.0 s k.2 notes k.1
