-- What holds of the tokens of any text.
use Rattle.std.specs.Prelude.{◌≡◌, ℕ, List, Result}
use Rattle.etoken.specs.declared.token.Placed.{Placed}
use Rattle.etoken.specs.declared.fault.TokenFault.{TokenFault}
use Rattle.etoken.specs.Tokens.{Tokens}
use Rattle.etoken.specs.declared.tokens.TheConstants.{MAX_BYTES, MAX_TOKENS}

-- no text has two answers
abbrev pub OneAnswer : Type 0
OneAnswer = (text : List ℕ) (x y : Result (List Placed) TokenFault) → Tokens text x → Tokens text y → x ≡ y

-- the limits of a text, as numbers
abbrev pub LimitsAreNumbers : Type 0
LimitsAreNumbers = (MAX_BYTES ≡ 65536) × (MAX_TOKENS ≡ 16384)
