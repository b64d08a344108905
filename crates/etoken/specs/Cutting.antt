-- How a text is cut into tokens.
use Rattle.std.specs.Prelude.{◌≡◌, ℕ, Bool, true, false, List, [], ◌∷◌}
use Rattle.etoken.specs.declared.token.Token.{Token}
use Rattle.etoken.specs.declared.token.Placed.{Placed}
use Rattle.etoken.specs.Bytes.{is_in_line, is_space, is_blank, begins_with, Longest}
use Rattle.etoken.specs.Spelling.{Spells, offset_of}

-- the bytes a begin with spaces, line breaks and comments, and c, which begins with none, is behind them;
-- broken: a line break is among them
pub data Blanks : List ℕ → Bool → List ℕ → Type 0 where
  blanks_none : {a : List ℕ} → begins_with is_blank a ≡ false → Blanks a false a
  blanks_space : {b : ℕ} {broken : Bool} {a c : List ℕ} → is_space b ≡ true → Blanks a broken c → Blanks (b ∷ a) broken c
  blanks_line : {broken : Bool} {a c : List ℕ} → Blanks a broken c → Blanks (10 ∷ a) true c
  blanks_comment : {broken : Bool} {a w d c : List ℕ} → Longest is_in_line a w d → Blanks d broken c → Blanks (35 ∷ a) broken c

-- a token with its place, and whether a line break stands before it
pub record Piece : Type 0 where
  pub broken : Bool
  pub placed : Placed

-- the token t in front of a, the last bytes of a text of n bytes
abbrev pub piece_at : ℕ → Bool → Token → List ℕ → Piece
piece_at n broken t a = record { broken = broken; placed = record { token = t; offset = offset_of n a } }

-- the bytes a, the last of a text of n bytes, begin with these tokens, and r is behind them
pub data Cuts : ℕ → List ℕ → List Piece → List ℕ → Type 0 where
  cuts_none : {n : ℕ} {a : List ℕ} → Cuts n a [] a
  cuts_more : {n : ℕ} {a b c r : List ℕ} {broken : Bool} {t : Token} {ps : List Piece}
      → Blanks a broken b → Spells b t c → Cuts n c ps r → Cuts n a (piece_at n broken t b ∷ ps) r
