-- One reading of a text at most, and one answer to a question and to a birth, in books that are the same.
use Rattle.std.proofs.Common.{◌≡◌, ℕ, Bool, true, false, List, Some, None, Result, Ok, Err, refl, sym, ap, subst}
use Rattle.ids.specs.declared.names.EventName.{EventName}
use Rattle.ids.specs.declared.names.VatNo.{VatNo}
use Rattle.kernele.specs.Tree.{Trees}
use Rattle.etoken.specs.declared.token.Placed.{Placed}
use Rattle.etoken.specs.declared.fault.TokenFault.{TokenFault}
use Rattle.etoken.specs.Tokens.{Tokens}
use Rattle.etoken.proofs.Answered.{one_answer as one_cut}
use Rattle.ereader_grammar.specs.View.{plain as plain_tokens}
use Rattle.ereader.specs.Brackets.{IsTooDeep}
use Rattle.ereader.specs.Texts.{ReadAs, refusal_of, read_fault, read_deep, read_unexpected}
use Rattle.ereader.specs.Shown as reading
use Rattle.ereader.specs.declared.fault.ReadFault.{ReadFault}
use Rattle.ereader.specs.declared.fault.ReadFault.TheVariants as fault
use Rattle.ereader.proofs.Answered.{one_reading}
use Rattle.post.specs.Messages.{Vat}
use Rattle.world_cells.specs.Events.{ask, birth}
use Rattle.event.specs.Events.{ask_foot, birth_foot}
use Rattle.book.specs.Refusals.{ask_refusal, birth_refusal}
use Rattle.book.specs.Books.{Book}
use Rattle.book.specs.Calls.{EntersNext}
use Rattle.stepper_commands.specs.Commands as command
use Rattle.stepper_commands.specs.declared.command.LineFault.{LineFault}
use Rattle.stepper.specs.Replies.{refused, queued_text, Answers, ask_without_memory, asked_without_memory, asked_unread, ask_refused, ask_accepted, AnswersBirth, birth_without_memory, script_without_memory, script_refused, script_unread, birth_refused, birth_accepted}
use Rattle.stepper.specs.Laws.{SameBook, IsForWant, book_without_memory, text_without_memory, other_place, SameAnswer}
use Rattle.stepper.proofs.SameBooks.{same_ask, same_birth}
use Rattle.stepper.proofs.Entered.{entered_once}
use Rattle.stepper.proofs.OneMove.{answer_once, refused_once, not_refused, not_accepted}
use Rattle.stepper.specs.declared.engine.Limits.{Limits}

-- ---- what is read of a text

data SameFault : ReadFault → ReadFault → Type 0 where
  one_fault : {f : ReadFault} → SameFault f f
  places : (i j : ℕ) → SameFault (fault.Unexpected i) (fault.Unexpected j)

no_tokens : {A : Type 0} {text : List ℕ} {f : TokenFault} {ps : List Placed} → Tokens text (Err f) → Tokens text (Ok ps) → A
no_tokens {text = text} {f = f} {ps = ps} h k = let e = one_cut text (Err f) (Ok ps) h k in absurd (cc)

same_tokens : {text : List ℕ} {ps qs : List Placed} → Tokens text (Ok ps) → Tokens text (Ok qs) → qs ≡ ps
same_tokens {text = text} {ps = ps} {qs = qs} h k = let e = one_cut text (Ok ps) (Ok qs) h k in cc

fault_once : {text : List ℕ} {f g : ReadFault} → ReadAs text (Err f) → ReadAs text (Err g) → SameFault f g
fault_once {text = text} (read_fault {f = p} h) (read_fault {f = q} k) =
    let same : p ≡ q = (let e = one_cut text (Err p) (Err q) h k in cc) in subst (λ z. SameFault (refusal_of p) (refusal_of z)) same one_fault
fault_once (read_fault h) (read_deep k i) = no_tokens h k
fault_once (read_fault h) (read_unexpected k i n m) = no_tokens h k
fault_once (read_deep h i) (read_fault k) = no_tokens k h
fault_once (read_deep h i) (read_deep k j) = one_fault
fault_once (read_deep h i) (read_unexpected k j n m) = absurd (j (subst (λ ps. IsTooDeep (plain_tokens ps)) (same_tokens k h) i))
fault_once (read_unexpected h i n m) (read_fault k) = no_tokens k h
fault_once (read_unexpected h i n m) (read_deep k j) = absurd (i (subst (λ ps. IsTooDeep (plain_tokens ps)) (same_tokens h k) j))
fault_once (read_unexpected {i = x} h i n m) (read_unexpected {i = y} k j o p) = places x y

unread_so : {f g : ReadFault} {b c : Book} → SameBook b c → SameFault f g → SameAnswer (refused (reading.shown f)) true b (refused (reading.shown g)) true c
unread_so same one_fault = answer_once refl same
unread_so same (places i j) = record { reply = other_place i j; refusal = refl; book = same }

read_or_not : {A : Type 0} {text : List ℕ} {f : ReadFault} {ts : Trees} → ReadAs text (Err f) → ReadAs text (Ok ts) → A
read_or_not {text = text} {f = f} {ts = ts} h k = let e = one_reading text ts (Err f) k h in absurd (cc)

read_once : {text : List ℕ} {ts us : Trees} → ReadAs text (Ok ts) → ReadAs text (Ok us) → us ≡ ts
read_once {text = text} {ts = ts} {us = us} h k = let e = one_reading text ts (Ok us) h k in cc

-- ---- questions

asked_once : {b c d e : Book} {x : List ℕ} {ts us : Trees} {n m : EventName} {v u : VatNo} → SameBook b c → us ≡ ts → EntersNext (record { name = n; act = ask x ts }) (ask_foot n x v ts) 0 b d
    → EntersNext (record { name = m; act = ask x us }) (ask_foot m x u us) 0 c e → SameAnswer (queued_text n) false d (queued_text m) false e
asked_once {c = c} {e = e} {x = x} {m = m} {u = u} books same h k =
    let one = entered_once books h (subst (λ (zs : Trees). EntersNext (record { name = m; act = ask x zs }) (ask_foot m x u zs) 0 c e) same k) in answer_once (ap queued_text (sym one.0)) one.1

pub one_ask : {limits : Limits} {b c d e : Book} {x text : List ℕ} {r t : List ℕ} {q p : Bool} → SameBook b c → Answers limits b (command.ask x text) r q d → Answers limits c (command.ask x text) t p e
    → ¬ IsForWant r → ¬ IsForWant t → SameAnswer r q d t p e
one_ask same ask_without_memory k n m = absurd (n book_without_memory)
one_ask same asked_without_memory k n m = absurd (n text_without_memory)
one_ask same h ask_without_memory n m = absurd (m book_without_memory)
one_ask same h asked_without_memory n m = absurd (m text_without_memory)
one_ask same (asked_unread h) (asked_unread k) n m = unread_so same (fault_once h k)
one_ask same (asked_unread h) (ask_refused k x) n m = read_or_not h k
one_ask same (asked_unread h) (ask_accepted k x y) n m = read_or_not h k
one_ask same (ask_refused h x) (asked_unread k) n m = read_or_not k h
one_ask {c = c} {x = x} same (ask_refused {program = ts} h f) (ask_refused {r = r} k g) n m = refused_once same (same_ask same x ts) f (subst (λ (zs : Trees). ask_refusal c x zs ≡ Some r) (read_once h k) g)
one_ask {c = c} {x = x} same (ask_refused {program = ts} h f) (ask_accepted k g y) n m = not_refused (same_ask same x ts) f (subst (λ (zs : Trees). ask_refusal c x zs ≡ None) (read_once h k) g)
one_ask same (ask_accepted h f y) (asked_unread k) n m = read_or_not k h
one_ask {c = c} {x = x} same (ask_accepted {program = ts} h f y) (ask_refused {r = why} k g) n m = not_accepted (same_ask same x ts) f (subst (λ (zs : Trees). ask_refusal c x zs ≡ Some why) (read_once h k) g)
one_ask same (ask_accepted h f y) (ask_accepted k g z) n m = asked_once same (read_once h k) y z

-- ---- births

born_once : {b c d e : Book} {x : List ℕ} {earlier : List (List ℕ)} {ts us : Trees} {n m : EventName} (vs ws : List Vat) → SameBook b c → us ≡ ts → EntersNext (record { name = n; act = birth x earlier ts }) (birth_foot n x earlier vs ts) 0 b d
    → EntersNext (record { name = m; act = birth x earlier us }) (birth_foot m x earlier ws us) 0 c e → SameAnswer (queued_text n) false d (queued_text m) false e
born_once {c = c} {e = e} {x = x} {earlier = earlier} {m = m} vs ws books same h k =
    let one = entered_once books h (subst (λ (zs : Trees). EntersNext (record { name = m; act = birth x earlier zs }) (birth_foot m x earlier ws zs) 0 c e) same k) in answer_once (ap queued_text (sym one.0)) one.1

pub birth_but : {b c d e : Book} {x : List ℕ} {earlier : List (List ℕ)} {script : Result (List ℕ) LineFault} {r t : List ℕ} {q p : Bool} → SameBook b c → AnswersBirth b x earlier script r q d → AnswersBirth c x earlier script t p e
    → ¬ IsForWant r → ¬ IsForWant t → SameAnswer r q d t p e
birth_but same birth_without_memory k n m = absurd (n book_without_memory)
birth_but same script_without_memory k n m = absurd (n text_without_memory)
birth_but same h birth_without_memory n m = absurd (m book_without_memory)
birth_but same h script_without_memory n m = absurd (m text_without_memory)
birth_but same script_refused script_refused n m = answer_once refl same
birth_but same (script_unread h) (script_unread k) n m = unread_so same (fault_once h k)
birth_but same (script_unread h) (birth_refused k f) n m = read_or_not h k
birth_but same (script_unread h) (birth_accepted vs k f y) n m = read_or_not h k
birth_but same (birth_refused h f) (script_unread k) n m = read_or_not k h
birth_but {c = c} {x = x} {earlier = earlier} same (birth_refused {program = ts} h f) (birth_refused {r = r} k g) n m =
    refused_once same (same_birth same x earlier ts) f (subst (λ (zs : Trees). birth_refusal c x earlier zs ≡ Some r) (read_once h k) g)
birth_but {c = c} {x = x} {earlier = earlier} same (birth_refused {program = ts} h f) (birth_accepted vs k g y) n m =
    not_refused (same_birth same x earlier ts) f (subst (λ (zs : Trees). birth_refusal c x earlier zs ≡ None) (read_once h k) g)
birth_but same (birth_accepted vs h f y) (script_unread k) n m = read_or_not k h
birth_but {c = c} {x = x} {earlier = earlier} same (birth_accepted {program = ts} vs h f y) (birth_refused {r = why} k g) n m =
    not_accepted (same_birth same x earlier ts) f (subst (λ (zs : Trees). birth_refusal c x earlier zs ≡ Some why) (read_once h k) g)
birth_but same (birth_accepted vs h f y) (birth_accepted ws k g z) n m = born_once vs ws same (read_once h k) y z
