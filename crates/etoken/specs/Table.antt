-- The words, the signs and the escapes of the language, as tables.
use Rattle.std.specs.Prelude.{ℕ, cond, List, [], ◌∷◌, Option, Some, None, codes}
use Rattle.std.specs.Str.{bytes_eq}
use Rattle.etoken.specs.declared.token.Reserved.TheVariants as word
use Rattle.etoken.specs.declared.token.Reserved.{Reserved}
use Rattle.etoken.specs.declared.token.Sign.TheVariants as sign
use Rattle.etoken.specs.declared.token.Sign.{Sign}

-- what stands beside a spelling in a table
abbrev pub entry_at : {A : Type 0} → List (List ℕ × A) → List ℕ → Option A
entry_at [] w = None
entry_at (row ∷ rows) w = cond (bytes_eq w row.0) (Some row.1) (entry_at rows w)

-- each sign that is no word, with its spelling
abbrev pub signs : List (List ℕ × Sign)
signs =
    (codes "(", sign.OpenRound) ∷ (codes ")", sign.CloseRound) ∷ (codes "[", sign.OpenSquare) ∷ (codes "]", sign.CloseSquare)
    ∷ (codes "{", sign.OpenCurly) ∷ (codes "}", sign.CloseCurly) ∷ (codes ",", sign.Comma) ∷ (codes ";", sign.Semicolon) ∷ (codes ".", sign.Dot)
    ∷ (codes "<-", sign.SendTo) ∷ (codes "->", sign.Arrow) ∷ (codes ":=", sign.Becomes)
    ∷ (codes "==", sign.Equal) ∷ (codes "!=", sign.NotEqual) ∷ (codes "<=", sign.AtMost) ∷ (codes ">=", sign.AtLeast) ∷ (codes "<", sign.Less) ∷ (codes ">", sign.More)
    ∷ (codes "&&", sign.And) ∷ (codes "||", sign.Or) ∷ (codes "!", sign.Not)
    ∷ (codes "+", sign.Plus) ∷ (codes "-", sign.Minus) ∷ (codes "*", sign.Times) ∷ (codes "//", sign.Divide) ∷ []

abbrev pub sign_of : List ℕ → Option Sign
sign_of w = entry_at signs w

-- each reserved word, with its spelling
abbrev pub reserved_words : List (List ℕ × Reserved)
reserved_words =
    (codes "def", word.Def) ∷ (codes "var", word.Var) ∷ (codes "method", word.Method) ∷ (codes "to", word.To) ∷ (codes "return", word.Return)
    ∷ (codes "if", word.If) ∷ (codes "else", word.Else) ∷ (codes "while", word.While) ∷ (codes "for", word.For) ∷ (codes "in", word.In)
    ∷ (codes "escape", word.Escape) ∷ (codes "try", word.Try) ∷ (codes "catch", word.Catch) ∷ (codes "when", word.When)
    ∷ (codes "true", word.True) ∷ (codes "false", word.False) ∷ (codes "null", word.Null) ∷ (codes "throw", word.Throw) ∷ (codes "Ref", word.Ref) ∷ []

abbrev pub reserved_of : List ℕ → Option Reserved
reserved_of w = entry_at reserved_words w

-- what may stand behind a `\`: `"`, `\` and `'` for themselves, `n`, `t` and `r` for line feed, tab and carriage return
abbrev pub escapes : List (List ℕ × ℕ)
escapes = (34 ∷ [], 34) ∷ (92 ∷ [], 92) ∷ (39 ∷ [], 39) ∷ (codes "n", 10) ∷ (codes "t", 9) ∷ (codes "r", 13) ∷ []

abbrev pub escape_of : ℕ → Option ℕ
escape_of letter = entry_at escapes (letter ∷ [])
