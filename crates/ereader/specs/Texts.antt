-- What a text is read as.
use Rattle.std.specs.Prelude.{ℕ, List, length, Result, Ok, Err}
use Rattle.etoken.specs.declared.token.Placed.{Placed}
use Rattle.etoken.specs.declared.fault.TokenFault.{TokenFault}
use Rattle.etoken.specs.declared.fault.TokenFault.TheVariants as token_fault
use Rattle.etoken.specs.Tokens.{Tokens}
use Rattle.kernele.specs.Tree.{Trees}
use Rattle.kernele.specs.declared.tree.Program as code
use Rattle.kernele.specs.View.{program_of}
use Rattle.ereader.specs.declared.fault.ReadFault.{ReadFault}
use Rattle.ereader.specs.declared.fault.ReadFault.TheVariants as fault
use Rattle.ereader.specs.Brackets.{IsTooDeep}
use Rattle.ereader_grammar.specs.Grammar.{Program}
use Rattle.ereader_grammar.specs.View.{plain}
use Rattle.ereader.specs.View.{IsPlace}

-- a text that has no tokens is refused for the same
abbrev pub refusal_of : TokenFault → ReadFault
refusal_of (token_fault.BadCharacter i) = fault.BadCharacter i
refusal_of (token_fault.UnclosedText i) = fault.UnclosedText i
refusal_of (token_fault.BadEscape i) = fault.BadEscape i
refusal_of (token_fault.IntegerTooLarge i) = fault.IntegerTooLarge i
refusal_of token_fault.TooLong = fault.TooLong
refusal_of token_fault.Memory = fault.Memory

-- the text has no tokens; or too many brackets are open; or its tokens spell no program; or they spell this one
pub data ReadAs (text : List ℕ) : Result Trees ReadFault → Type 0 where
  read_fault : {f : TokenFault} → Tokens text (Err f) → ReadAs text (Err (refusal_of f))
  read_deep : {tokens : List Placed} → Tokens text (Ok tokens) → IsTooDeep (plain tokens) → ReadAs text (Err fault.TooDeep)
  read_unexpected : {tokens : List Placed} {i : ℕ} → Tokens text (Ok tokens) → ¬ IsTooDeep (plain tokens)
      → ((ts : Trees) → ¬ Program (plain tokens) ts) → IsPlace tokens (length text) i → ReadAs text (Err (fault.Unexpected i))
  read_program : {tokens : List Placed} {ts : Trees} → Tokens text (Ok tokens) → ¬ IsTooDeep (plain tokens)
      → Program (plain tokens) ts → ReadAs text (Ok ts)

-- what may be answered for a text: its program or its refusal, or that memory ran out
abbrev pub Answers : List ℕ → Result code.Program ReadFault → Type 0
Answers text (Ok p) = ReadAs text (Ok (program_of p))
Answers text (Err fault.Memory) = Unit {0}
Answers text (Err f) = ReadAs text (Err f)
