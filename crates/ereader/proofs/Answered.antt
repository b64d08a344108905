-- What is answered for a text.
use Rattle.std.proofs.Common.{◌≡◌, ℕ, List, length, Result, Ok, Err, IfOk, IfErr, ◌↔◌, refl, sym, ap, subst}
use Rattle.etoken.specs.declared.token.Placed.{Placed}
use Rattle.etoken.specs.declared.fault.TokenFault.{TokenFault}
use Rattle.etoken.specs.declared.fault.TokenFault.TheVariants as token_fault
use Rattle.etoken.specs.Tokens as etoken
use Rattle.etoken.specs.Tokens.{Tokens}
use Rattle.kernele.specs.Tree.{Trees}
use Rattle.kernele.specs.declared.tree.Program as code
use Rattle.kernele.specs.View.{program_of}
use Rattle.ereader.specs.declared.fault.ReadFault.{ReadFault}
use Rattle.ereader.specs.declared.fault.ReadFault.TheVariants as fault
use Rattle.ereader.specs.Brackets.{IsTooDeep}
use Rattle.ereader_grammar.specs.Grammar.{Program}
use Rattle.ereader.specs.Texts.{refusal_of, ReadAs, read_fault, read_deep, read_unexpected, read_program, Answers}
use Rattle.ereader_grammar.proofs.Complete.{one_program}
use Rattle.etoken.proofs.Answered.{one_answer}
use Rattle.ereader_grammar.specs.View.{plain}
use Rattle.ereader.specs.View.{Accepts, IsRefusal}

ok_not : {p : code.Program} {f : ReadFault} → ◌≡◌ {A = Result code.Program ReadFault} (Ok p) (Err f) → ⊥
ok_not e = cc

unexpected_not : {i : ℕ} → ◌≡◌ {A = Result code.Program ReadFault} (Err (fault.Unexpected i)) (Err fault.TooDeep) → ⊥
unexpected_not e = cc

-- an answer for the tokens is one for the text
pub answered : (text : List ℕ) (tokens : List Placed) (r : Result code.Program ReadFault) → Tokens text (Ok tokens)
    → IfOk r (λ p. Program (plain tokens) (program_of p)) → ((ts : Trees) → Program (plain tokens) ts → Accepts r ts)
    → ((r ≡ Err fault.TooDeep) ↔ IsTooDeep (plain tokens)) → IfErr r (λ e. IsRefusal e tokens (length text)) → Answers text r
answered text tokens (Ok p) t found only deep refusal = read_program t (λ h. ok_not (deep.1 h)) found
answered text tokens (Err fault.Memory) t found only deep refusal = tt
answered text tokens (Err fault.TooDeep) t found only deep refusal = read_deep t (deep.0 refl)
answered text tokens (Err (fault.Unexpected i)) t found only deep refusal = read_unexpected t (λ h. unexpected_not (deep.1 h)) only refusal
answered text tokens (Err _) t found only deep refusal = absurd refusal

-- what spoils the tokens spoils the text
pub spoiled : (text : List ℕ) (f : TokenFault) → etoken.Answers text (Err f) → Answers text (Err (refusal_of f))
spoiled text (token_fault.BadCharacter i) t = read_fault t
spoiled text (token_fault.UnclosedText i) t = read_fault t
spoiled text (token_fault.BadEscape i) t = read_fault t
spoiled text (token_fault.IntegerTooLarge i) t = read_fault t
spoiled text token_fault.TooLong t = read_fault t
spoiled text token_fault.Memory t = tt

ok_same : {A E : Type 0} {x y : A} → ◌≡◌ {A = Result A E} (Ok x) (Ok y) → x ≡ y
ok_same e = cc

ok_err : {A E : Type 0} {x : A} {y : E} → ◌≡◌ {A = Result A E} (Ok x) (Err y) → ⊥
ok_err e = cc

same_tokens : (text : List ℕ) (a b : List Placed) → Tokens text (Ok a) → Tokens text (Ok b) → b ≡ a
same_tokens text a b p q = ok_same (one_answer text (Ok b) (Ok a) q p)

-- a text that is read as a program is read as nothing else
pub one_reading : (text : List ℕ) (ts : Trees) (x : Result Trees ReadFault) → ReadAs text (Ok ts) → ReadAs text x → x ≡ Ok ts
one_reading text ts _ (read_program {tokens = a} p d g) (read_fault {f = f} q) = absurd (ok_err (one_answer text (Ok a) (Err f) p q))
one_reading text ts _ (read_program {tokens = a} p d g) (read_deep {tokens = b} q h) = absurd (d (subst (λ z. IsTooDeep (plain z)) (same_tokens text a b p q) h))
one_reading text ts _ (read_program {tokens = a} p d g) (read_unexpected {tokens = b} q h n k) = absurd (n ts (subst (λ z. Program (plain z) ts) (sym (same_tokens text a b p q)) g))
one_reading text ts _ (read_program {tokens = a} p d g) (read_program {tokens = b} {ts = us} q h k) =
    ap (λ z. Ok z) (one_program (plain a) us ts (subst (λ z. Program (plain z) us) (same_tokens text a b p q) k) g)
