-- One move, one step and one run of steps at most in books that are the same.
use Rattle.std.proofs.Common.{◌≡◌, ℕ, Bool, true, false, List, [], ◌++◌, append_assoc, Option, Some, None, refl, sym, ap, subst, ◌∙◌, ⊎_elim}
use Rattle.std.specs.Prelude.{◌||◌}
use Rattle.std.proofs.lemmas.Bool.{false≢true}
use Rattle.std.specs.Cmp.{IsTotalOrder}
use Rattle.std.specs.Ordering.{ordering_reverse, ordering_then}
use Rattle.std.specs.declared.cmp.Ordering.{Ordering}
use Rattle.std.specs.declared.cmp.Ordering.TheVariants.{Less, Equal, Greater}
use Rattle.ids.specs.Cells.{vat_cmp, promise_cmp}
use Rattle.ids.specs.declared.names.EventName.{EventName}
use Rattle.ids.specs.declared.names.MsgId.{MsgId}
use Rattle.book_agenda.specs.Enabled.{message_in, learn_in, step_cmp, step_cmp_by}
use Rattle.book_agenda.specs.declared.agenda.Step.{Step}
use Rattle.book_agenda.proofs.Orders.{vat_total, message_total, promise_total}
use Rattle.book_refusals.specs.Fault.{refusal_text}
use Rattle.book_refusals.specs.Refusals.{Refusal}
use Rattle.book.specs.Books.{Book}
use Rattle.stepper.specs.Replies.{refused, done_text, FirstIn, Moves, move_without_memory, move_refused, move_made, turn_without_memory_named, turn_refused, turns, Steps, step_done, step_refused, step_idle, step_without_memory, Runs, runs_out, runs_on, runs_last}
use Rattle.stepper.specs.Laws.{SameBook, IsForWant, book_without_memory, EndsForWant, SameReply, one_reply, SameAnswer}
use Rattle.stepper.proofs.SameBooks.{same_move, same_checkout, same_first}
use Rattle.stepper.proofs.Entered.{entered_once, turned_once}
use Rattle.stepper.specs.declared.engine.Limits.{Limits}

-- two moves or two runs are one: the very reply, whether it is a refusal, and the book
pub record SameMove (r : List ℕ) (q : Bool) (b : Book) (s : List ℕ) (p : Bool) (d : Book) : Type 0 where
  pub reply : s ≡ r
  pub refusal : p ≡ q
  pub book : SameBook b d

pub answered : {r s : List ℕ} {q p : Bool} {b d : Book} → SameMove r q b s p d → SameAnswer r q b s p d
answered {r = r} h = record { reply = subst (SameReply r) (sym h.reply) one_reply; refusal = h.refusal; book = h.book }

pub answer_once : {r s : List ℕ} {q : Bool} {d e : Book} → s ≡ r → SameBook d e → SameAnswer r q d s q e
answer_once {r = r} same h = record { reply = subst (SameReply r) (sym same) one_reply; refusal = refl; book = h }

pub refused_once : {o p : Option Refusal} {r s : Refusal} {b c : Book} → SameBook b c → p ≡ o → o ≡ Some r → p ≡ Some s → SameAnswer (refused (refusal_text r)) true b (refused (refusal_text s)) true c
refused_once {r = r} {s = s} same alike h k = let one : s ≡ r = cc in answer_once (ap (λ z. refused (refusal_text z)) one) same

-- what is refused in one book is not accepted in the same
pub not_refused : {A : Type 0} {o p : Option Refusal} {r : Refusal} → p ≡ o → o ≡ Some r → p ≡ None → A
not_refused alike h k = absurd (cc)

pub not_accepted : {A : Type 0} {o p : Option Refusal} {r : Refusal} → p ≡ o → o ≡ None → p ≡ Some r → A
not_accepted alike h k = absurd (cc)

pub not_both : {P A : Type 0} {o : Option A} {x : A} → o ≡ Some x → o ≡ None → P
not_both h k = absurd (cc)

-- one refusal of two books
refused_alike : {b c : Book} {o p : Option Refusal} {r s : Refusal} → SameBook b c → p ≡ o → o ≡ Some r → p ≡ Some s → SameMove (refused (refusal_text r)) true b (refused (refusal_text s)) true c
refused_alike {r = r} {s = s} same alike h k = let one : s ≡ r = cc in record { reply = ap (λ z. refused (refusal_text z)) one; refusal = refl; book = same }

done_alike : {x y : EventName} {b c : Book} → (x ≡ y) × SameBook b c → SameMove (done_text x) false b (done_text y) false c
done_alike h = record { reply = ap done_text (sym h.0); refusal = refl; book = h.1 }

-- ---- want of memory

-- what is refused is not refused for want of memory
abbrev pub HadMemory : List ℕ → Bool → Type 0
HadMemory reply refusal = refusal ≡ true → ¬ IsForWant reply

pub had_memory : {reply : List ℕ} {refusal : Bool} → ¬ EndsForWant reply → HadMemory reply refusal
had_memory {reply = reply} n is want = n (record { before = []; last = reply; want = want; whole = refl })

-- a step behind which one follows is not refused
goes_on : {limits : Limits} {b d : Book} {reply : List ℕ} {refusal : Bool} → Steps limits b reply refusal d true → HadMemory reply refusal
goes_on (step_done f h) is want = absurd (false≢true is)

-- replies end for want of memory if the later ones do
wants_behind : (reply replies : List ℕ) → EndsForWant replies → EndsForWant (reply ++ replies)
wants_behind reply replies w = record { before = reply ++ w.before; last = w.last; want = w.want; whole = ap (λ z. reply ++ z) w.whole ∙ sym (append_assoc reply w.before w.last) }

-- ---- what may be done first

pub reversed : {K : Type 0} {R : K → K → Ordering} → IsTotalOrder R → (x y : K) → R x y ≡ Less → R y x ≡ Less → ⊥
reversed {R = R} o x y h k = let e = o.antisymm x y in let f : ordering_reverse (R y x) ≡ Greater = ap ordering_reverse k in cc

then_reversed : (a b c d : Ordering) → a ≡ ordering_reverse c → (b ≡ Less → d ≡ Less → ⊥) → ordering_then a b ≡ Less → ordering_then c d ≡ Less → ⊥
then_reversed Less b Less d e apart h k = cc
then_reversed Less b Equal d e apart h k = cc
then_reversed Less b Greater d e apart h k = cc
then_reversed Equal b Less d e apart h k = cc
then_reversed Equal b Equal d e apart h k = apart h k
then_reversed Equal b Greater d e apart h k = cc
then_reversed Greater b c d e apart h k = cc

cmp_reversed : (o p : Option MsgId) (a b : Ordering) → (a ≡ Less → b ≡ Less → ⊥) → step_cmp_by o p a ≡ Less → step_cmp_by p o b ≡ Less → ⊥
cmp_reversed (Some m) (Some n) a b apart h k = reversed message_total m n h k
cmp_reversed (Some m) None a b apart h k = cc
cmp_reversed None (Some n) a b apart h k = cc
cmp_reversed None None a b apart h k = apart h k

pub step_reversed : (s t : Step) → step_cmp s t ≡ Less → step_cmp t s ≡ Less → ⊥
step_reversed s t h k =
    let v = (learn_in s).0 in
    let u = (learn_in t).0 in
    let p = (learn_in s).1 in
    let q = (learn_in t).1 in
    cmp_reversed (message_in s) (message_in t) (ordering_then (vat_cmp v u) (promise_cmp p q)) (ordering_then (vat_cmp u v) (promise_cmp q p))
    (then_reversed (vat_cmp v u) (promise_cmp p q) (vat_cmp u v) (promise_cmp q p) (vat_total.antisymm v u) (reversed promise_total p q)) h k

first_once : (b : Book) {s t : Step} → FirstIn b (Some s) → FirstIn b (Some t) → t ≡ s
first_once b {s = s} {t = t} h k = ⊎_elim (λ e. e) (λ less. ⊎_elim (λ e. sym e) (λ other. absurd (step_reversed s t less other)) (k.1 s h.0)) (h.1 t k.0)

-- ---- moves

pub one_move : {limits : Limits} {b c d e : Book} {s : Step} {r t : List ℕ} {q p : Bool} → SameBook b c → Moves limits b s r q d → Moves limits c s t p e → HadMemory r q → HadMemory t p → SameMove r q d t p e
one_move same move_without_memory k n m = absurd (n refl book_without_memory)
one_move same turn_without_memory_named k n m = absurd (n refl book_without_memory)
one_move same h move_without_memory n m = absurd (m refl book_without_memory)
one_move same h turn_without_memory_named n m = absurd (m refl book_without_memory)
one_move same (move_refused {m = g} h) (move_refused k) n m = refused_alike same (same_move same g) h k
one_move same (move_refused {m = g} h) (move_made k y) n m = not_both h (sym (same_move same g) ∙ k)
one_move same (move_made {m = g} h x) (move_refused k) n m = not_both k (same_move same g ∙ h)
one_move same (move_made h x) (move_made k y) n m = done_alike (entered_once same x y)
one_move {limits = limits} same (turn_refused {m = g} h) (turn_refused k) n m = refused_alike same (same_checkout same g limits.budget) h k
one_move {limits = limits} same (turn_refused {m = g} h) (turns k y) n m = not_both h (sym (same_checkout same g limits.budget) ∙ k)
one_move {limits = limits} same (turns {m = g} h x) (turn_refused k) n m = not_both k (same_checkout same g limits.budget ∙ h)
one_move same (turns h x) (turns k y) n m = let one = turned_once same x y in record { reply = one.0; refusal = refl; book = one.1 }

-- the same move, of what is first
move_as : {limits : Limits} {b d : Book} {s t : Step} {r : List ℕ} {q : Bool} → t ≡ s → Moves limits b t r q d → Moves limits b s r q d
move_as {limits = limits} {b = b} {d = d} {r = r} {q = q} e h = subst (λ (z : Step). Moves limits b z r q d) e h

-- what is first in one book is done in both
first_moves : {limits : Limits} {b c d e : Book} {s u : Step} {r t : List ℕ} {q p : Bool} → SameBook b c → FirstIn b (Some s) → FirstIn c (Some u) → Moves limits b s r q d → Moves limits c u t p e
    → HadMemory r q → HadMemory t p → SameMove r q d t p e
first_moves {b = b} {u = u} same f g h k n m = one_move same h (move_as (first_once b f (same_first same (Some u) g)) k) n m

-- ---- steps, and whether one more may follow

pub one_step : {limits : Limits} {b c d e : Book} {r t : List ℕ} {q p more other : Bool} → SameBook b c → Steps limits b r q d more → Steps limits c t p e other → HadMemory r q → HadMemory t p
    → SameMove r q d t p e × (other ≡ more)
one_step same step_without_memory k n m = absurd (n refl book_without_memory)
one_step same h step_without_memory n m = absurd (m refl book_without_memory)
one_step same (step_done f h) (step_done g k) n m = (first_moves same f g h k n m, refl)
one_step same (step_done f h) (step_refused g k) n m = absurd (false≢true (sym (first_moves same f g h k n m).refusal))
one_step same (step_refused f h) (step_done g k) n m = absurd (false≢true (first_moves same f g h k n m).refusal)
one_step same (step_refused f h) (step_refused g k) n m = (first_moves same f g h k n m, refl)
one_step same (step_done {s = s} f h) (step_idle g) n m = absurd (same_first same None g s f.0)
one_step same (step_refused {s = s} f h) (step_idle g) n m = absurd (same_first same None g s f.0)
one_step same (step_idle f) (step_done {s = s} g k) n m = absurd (f s (same_first same (Some s) g).0)
one_step same (step_idle f) (step_refused {s = s} g k) n m = absurd (f s (same_first same (Some s) g).0)
one_step same (step_idle f) (step_idle g) n m = (record { reply = refl; refusal = refl; book = same }, refl)

-- ---- runs

pub runs_once : {limits : Limits} {n : ℕ} {b c d e : Book} {r t : List ℕ} {q p : Bool} → SameBook b c → Runs limits n b r q d → Runs limits n c t p e → ¬ EndsForWant r → ¬ EndsForWant t → SameMove r q d t p e
runs_once same runs_out runs_out n m = record { reply = refl; refusal = refl; book = same }
runs_once same (runs_on {reply = x} {replies = xs} h hs) (runs_on {reply = y} {replies = ys} k ks) n m =
    let one = (one_step same h k (goes_on h) (goes_on k)).0 in
    let rest = runs_once one.book hs ks (λ w. n (wants_behind x xs w)) (λ w. m (wants_behind y ys w)) in
    record { reply = λ i. one.reply i ++ rest.reply i; refusal = λ i. one.refusal i || rest.refusal i; book = rest.book }
runs_once same (runs_on h hs) (runs_last k) n m = absurd (false≢true (one_step same h k (goes_on h) (had_memory m)).1)
runs_once same (runs_last h) (runs_on k ks) n m = absurd (false≢true (sym (one_step same h k (had_memory n) (goes_on k)).1))
runs_once same (runs_last h) (runs_last k) n m = (one_step same h k (had_memory n) (had_memory m)).0
