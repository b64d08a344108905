-- Laws of what is read.
use Rattle.std.specs.Prelude.{ℕ, ◌≡◌, ◌≤◌, List, length, Result, Ok}
use Rattle.etoken.specs.declared.token.Token.{Token}
use Rattle.kernele.specs.Tree.{Trees}
use Rattle.kernele.specs.Spelling.{spelling}
use Rattle.ereader_grammar.specs.Grammar.{Program}
use Rattle.ereader_grammar.specs.Spelled.{CutInto, SpelledBy, AreSpellable}
use Rattle.ereader_grammar.specs.Written.{program_tokens}
use Rattle.ereader.specs.Brackets.{IsTooDeep}
use Rattle.ereader.specs.declared.fault.ReadFault.{ReadFault}
use Rattle.ereader.specs.Texts.{ReadAs}
use Rattle.etoken.specs.declared.tokens.TheConstants.{MAX_BYTES, MAX_TOKENS}
use Rattle.ereader.specs.declared.depth.TheConstants.{MOST_OPEN}

-- a text that is read as a program is read as nothing else
abbrev pub OneReading : Type 0
OneReading = (text : List ℕ) (ts : Trees) (x : Result Trees ReadFault) → ReadAs text (Ok ts) → ReadAs text x → x ≡ Ok ts

-- what reading gives is what the text spells
abbrev pub ReadIsSpelled : Type 0
ReadIsSpelled = (text : List ℕ) (ts : Trees) → ReadAs text (Ok ts) → SpelledBy text ts

-- what a text spells is what reading gives, where the text has no more bytes and tokens than it may, and no more brackets are open at once
abbrev pub ReadsWithinLimits : Type 0
ReadsWithinLimits = (text : List ℕ) (tokens : List Token) (ts : Trees) → CutInto text tokens → Program tokens ts
    → length text ≤ MAX_BYTES → length tokens ≤ MAX_TOKENS → ¬ IsTooDeep tokens → ReadAs text (Ok ts)

-- the canonical spelling of a program keeps within the same limits
pub record IsWithinLimits (ts : Trees) : Type 0 where
  pub short : length (spelling ts) ≤ MAX_BYTES
  pub few : length (program_tokens ts) ≤ MAX_TOKENS
  pub shallow : ¬ IsTooDeep (program_tokens ts)

-- such a spelling is read as the program
abbrev pub ReadsItself : Type 0
ReadsItself = (ts : Trees) → AreSpellable ts → IsWithinLimits ts → ReadAs (spelling ts) (Ok ts)

-- so a program that was read is read again
abbrev pub ReadsAgain : Type 0
ReadsAgain = (text : List ℕ) (ts : Trees) → ReadAs text (Ok ts) → IsWithinLimits ts → ReadAs (spelling ts) (Ok ts)

-- the limit on brackets, as a number
abbrev pub LimitsAreNumbers : Type 0
LimitsAreNumbers = MOST_OPEN ≡ 100
