-- What a text's tokens are, or its fault.
use Rattle.std.specs.Prelude.{ℕ, ◌<◌, ◌≤◌, Bool, List, [], length, Result, Ok, Err, Vec}
use Rattle.std.specs.declared.alloc.Global.{Global}
use Rattle.etoken.specs.declared.token.Placed.{Placed}
use Rattle.etoken.specs.declared.fault.TokenFault.TheVariants as fault
use Rattle.etoken.specs.declared.fault.TokenFault.{TokenFault}
use Rattle.etoken.specs.Spelling.{Spoils}
use Rattle.etoken.specs.Cutting.{Blanks, Piece, Cuts}
use Rattle.etoken.specs.Breaks.{with_breaks}
use Rattle.etoken.specs.declared.tokens.TheConstants.{MAX_BYTES, MAX_TOKENS}

-- the text is cut into tokens up to its end; or a bad token stands behind them; or it is too long, in bytes or in tokens
pub data Tokens (text : List ℕ) : Result (List Placed) TokenFault → Type 0 where
  tokens_all : {ps : List Piece} {r : List ℕ} {broken : Bool} → length text ≤ MAX_BYTES → Cuts (length text) text ps r → Blanks r broken []
      → length (with_breaks ps) ≤ MAX_TOKENS → Tokens text (Ok (with_breaks ps))
  tokens_fault : {ps : List Piece} {r c : List ℕ} {broken : Bool} {f : TokenFault} → length text ≤ MAX_BYTES → Cuts (length text) text ps r → Blanks r broken c → Spoils (length text) c f
      → length (with_breaks ps) ≤ MAX_TOKENS → Tokens text (Err f)
  tokens_many : {ps : List Piece} {r : List ℕ} → length text ≤ MAX_BYTES → Cuts (length text) text ps r → MAX_TOKENS < length (with_breaks ps) → Tokens text (Err fault.TooLong)
  tokens_long : MAX_BYTES < length text → Tokens text (Err fault.TooLong)

-- what may be returned for a text: its tokens or its fault, or that memory ran out
abbrev pub Answers : List ℕ → Result (Vec Placed Global) TokenFault → Type 0
Answers text (Ok tokens) = Tokens text (Ok tokens.items)
Answers text (Err fault.Memory) = Unit {0}
Answers text (Err f) = Tokens text (Err f)
