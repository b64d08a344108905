-- One answer at most where a vat learns of a promise that is named without its home, in books that are the same.
use Rattle.std.proofs.Common.{◌≡◌, ℕ, Bool, true, false, List, Option, Some, None, refl, sym, ap, subst, ◌∙◌}
use Rattle.std.specs.Prelude.{not}
use Rattle.std.specs.Ordering.{is_gt, ordering_reverse}
use Rattle.std.specs.declared.cmp.Ordering.{Ordering}
use Rattle.std.specs.declared.cmp.Ordering.TheVariants.{Less, Equal, Greater}
use Rattle.std.proofs.lemmas.Bool.{false≢true}
use Rattle.ids.specs.Cells.{promise_cmp}
use Rattle.ids.specs.declared.names.EventName.{EventName}
use Rattle.ids.specs.declared.names.VatNo.{VatNo}
use Rattle.ids.specs.declared.names.PromId.{PromId}
use Rattle.ids.proofs.Keys.{exact_promises}
use Rattle.kernele.specs.Tree.{Name}
use Rattle.post.specs.Messages.{Vat}
use Rattle.world_cells.specs.Events.{learn}
use Rattle.world_cells.specs.World.{World, vat_named}
use Rattle.book_agenda.specs.Agendas.{can_learn}
use Rattle.book_agenda.proofs.Orders.{promise_total}
use Rattle.book_refusals.specs.Fault.{refusal_text}
use Rattle.book_refusals.specs.Refusals.{Refusal, nothing_to_learn, first, refuse_where}
use Rattle.book.specs.Refusals.{full_refusal, learning_refusal, learn_refusal_by, learn_refusal}
use Rattle.book.specs.Learning.{LearnsNamed, RefusesNamed, nothing_named, not_entered}
use Rattle.book.specs.Books.{Book}
use Rattle.book.specs.Calls.{EntersNext}
use Rattle.stepper_commands.specs.Commands as command
use Rattle.stepper_commands.specs.declared.numbers.PromiseName.{PromiseName}
use Rattle.stepper.specs.Replies.{refused, done_text, Answers, learn_without_memory, learn_refused, learn_accepted}
use Rattle.stepper.specs.Laws.{SameBook, IsForWant, book_without_memory, SameAnswer}
use Rattle.stepper.proofs.SameBooks.{same_learn, same_learning, same_book_back}
use Rattle.stepper.proofs.Entered.{entered_once}
use Rattle.stepper.proofs.OneMove.{answer_once, not_both}
use Rattle.stepper.specs.declared.engine.Limits.{Limits}

-- ---- what is learnt of a promise that is named without its home

refused_unless : (c : Bool) (r : Refusal) (o : Option Refusal) → first (refuse_where (not c) r) o ≡ None → c ≡ true
refused_unless true r o h = refl
refused_unless false r o h = cc

-- what is accepted can be learnt
accepted_learns : (b : Book) (v : VatNo) (p : PromId) → learning_refusal b v p ≡ None → can_learn b.world v p ≡ true
accepted_learns b v p h = refused_unless (can_learn b.world v p) nothing_to_learn (full_refusal b) h

-- what can be learnt is refused for want of room alone
learnt_but_room : (b : Book) (v : VatNo) (p : PromId) → can_learn b.world v p ≡ true → learning_refusal b v p ≡ full_refusal b
learnt_but_room b v p h = ap (λ c. first (refuse_where (not c) nothing_to_learn) (full_refusal b)) h

-- a refusal of a vat's name, where there is such a vat
by_vat : (b : Book) (x : Name) {v : Vat} (p : PromId) → vat_named b.world x ≡ Some v → learn_refusal b x p ≡ learning_refusal b v.number p
by_vat b x p named = ap (λ o. learn_refusal_by o b x p) named

-- two promises neither of which is behind the other are one
neither_behind : (o p : Ordering) → p ≡ ordering_reverse o → is_gt o ≡ false → is_gt p ≡ false → o ≡ Equal
neither_behind Less p e h k = absurd (false≢true (sym k ∙ ap is_gt e))
neither_behind Equal p e h k = refl
neither_behind Greater p e h k = absurd (false≢true (sym h))

both_first : (p q : PromId) → is_gt (promise_cmp p q) ≡ false → is_gt (promise_cmp q p) ≡ false → q ≡ p
both_first p q h k = sym (exact_promises p q (neither_behind (promise_cmp p q) (promise_cmp q p) (promise_total.antisymm q p) h k))

one_vat : {o : Option Vat} {v u : Vat} → o ≡ Some v → o ≡ Some u → u ≡ v
one_vat h k = cc

-- in books that are the same the same vats can learn the same
able_too : {b c : Book} → SameBook b c → (v u : Vat) (p : PromId) → u ≡ v → can_learn b.world v.number p ≡ true → can_learn c.world u.number p ≡ true
able_too same v u p one h = subst (λ (z : World × Vat). can_learn z.0 z.1.number p ≡ true) (λ i. (sym same.world i, sym one i)) h

learnt_once : {b c d e : Book} {x : Name} {event : EventName} {index : ℕ} {m n : EventName} → SameBook b c → LearnsNamed x event index m b d → LearnsNamed x event index n c e → SameAnswer (done_text m) false d (done_text n) false e
learnt_once {b = b} {c = c} {e = e} {x = x} {n = n} same h k =
    let vat : k.vat ≡ h.vat = one_vat h.named (sym (ap (λ (w : World). vat_named w x) same.world) ∙ k.named) in
    let able : can_learn b.world h.vat.number k.promise ≡ true = able_too (same_book_back same) k.vat h.vat k.promise (sym vat) (accepted_learns c k.vat.number k.promise k.accepted) in
    let other : can_learn c.world k.vat.number h.promise ≡ true = able_too same h.vat k.vat h.promise vat (accepted_learns b h.vat.number h.promise h.accepted) in
    let one : k.promise ≡ h.promise = both_first h.promise k.promise (h.is_first k.promise k.numbered able) (k.is_first h.promise h.numbered other) in
    let also : EntersNext (record { name = n; act = learn h.vat.number h.promise }) k.foot 0 c e
    = subst (λ (z : Vat × PromId). EntersNext (record { name = n; act = learn z.0.number z.1 }) k.foot 0 c e) (λ i. (vat i, one i)) k.enters in
    let both = entered_once same h.enters also in answer_once (ap done_text (sym both.0)) both.1

-- what is refused in a book is so in the same
refuses_too : {b c : Book} {x : Name} {event : EventName} {index : ℕ} {r : Refusal} → SameBook b c → RefusesNamed b x event index r → RefusesNamed c x event index r
refuses_too {x = x} same (nothing_named h) = nothing_named (λ p is. same_learn same x p ∙ h p is)
refuses_too {x = x} same (not_entered v p named is can h) = not_entered v p (ap (λ (w : World). vat_named w x) same.world ∙ named) is (able_too same v v p refl can) (same_learning same v.number p ∙ h)

-- why nothing is learnt is one
unlearnt_once : {b : Book} {x : Name} {event : EventName} {index : ℕ} {r s : Refusal} → RefusesNamed b x event index r → RefusesNamed b x event index s → s ≡ r
unlearnt_once {event = event} {index = index} (nothing_named h) (nothing_named k) =
    let p : PromId = record { event = event; index = index; home = record { 0 = event } } in let f = h p (refl, refl) in let g = k p (refl, refl) in cc
unlearnt_once {b = b} {x = x} (nothing_named h) (not_entered v p named is can k) = let f = h p is in let e = by_vat b x p named in cc
unlearnt_once {b = b} {x = x} (not_entered v p named is can h) (nothing_named k) = let g = k p is in let e = by_vat b x p named in cc
unlearnt_once {b = b} (not_entered v p named is can h) (not_entered u q also too able k) = let e = learnt_but_room b v.number p can in let f = learnt_but_room b u.number q able in cc

-- what is learnt is not refused
learnt_or_not : {A : Type 0} {b d : Book} {x : Name} {event : EventName} {index : ℕ} {n : EventName} {r : Refusal} → LearnsNamed x event index n b d → RefusesNamed b x event index r → A
learnt_or_not {b = b} {x = x} h (nothing_named k) = not_both (sym (by_vat b x h.promise h.named) ∙ k h.promise h.numbered) h.accepted
learnt_or_not {b = b} h (not_entered v p named is can k) =
    not_both (sym (learnt_but_room b v.number p can) ∙ k) (sym (learnt_but_room b h.vat.number h.promise (accepted_learns b h.vat.number h.promise h.accepted)) ∙ h.accepted)

pub one_learning : {limits : Limits} {b c d e : Book} {x : List ℕ} {n : PromiseName} {r t : List ℕ} {q p : Bool} → SameBook b c → Answers limits b (command.learn x n) r q d → Answers limits c (command.learn x n) t p e
    → ¬ IsForWant r → ¬ IsForWant t → SameAnswer r q d t p e
one_learning same learn_without_memory k n m = absurd (n book_without_memory)
one_learning same h learn_without_memory n m = absurd (m book_without_memory)
one_learning same (learn_refused h) (learn_refused k) n m = answer_once (ap (λ z. refused (refusal_text z)) (unlearnt_once h (refuses_too (same_book_back same) k))) same
one_learning same (learn_refused h) (learn_accepted k) n m = learnt_or_not k (refuses_too same h)
one_learning same (learn_accepted h) (learn_refused k) n m = learnt_or_not h (refuses_too (same_book_back same) k)
one_learning same (learn_accepted h) (learn_accepted k) n m = learnt_once same h k
