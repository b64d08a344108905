-- Which line breaks give a semicolon.
use Rattle.std.specs.Prelude.{Bool, true, false, cond, List, [], ◌∷◌, ◌++◌, ◌&&◌}
use Rattle.etoken.specs.declared.token.Token.TheVariants as token
use Rattle.etoken.specs.declared.token.Token.{Token}
use Rattle.etoken.specs.declared.token.Reserved.TheVariants as word
use Rattle.etoken.specs.declared.token.Reserved.{Reserved}
use Rattle.etoken.specs.declared.token.Sign.TheVariants as sign
use Rattle.etoken.specs.declared.token.Sign.{Sign}
use Rattle.etoken.specs.declared.token.Placed.{Placed}
use Rattle.etoken.specs.declared.breaks.Bracket.{Bracket}
use Rattle.etoken.specs.declared.breaks.Bracket.TheVariants.{Round, Square, Curly}
use Rattle.etoken.specs.Cutting.{Piece}

-- the reserved words that an item may end with
abbrev pub word_ends : Reserved → Bool
word_ends word.True = true
word_ends word.False = true
word_ends word.Null = true
word_ends word.Return = true
word_ends _ = false

-- the signs that an item may end with: a closing bracket
abbrev pub sign_ends : Sign → Bool
sign_ends sign.CloseRound = true
sign_ends sign.CloseSquare = true
sign_ends sign.CloseCurly = true
sign_ends _ = false

-- the tokens that an item may end with
abbrev pub may_end : Token → Bool
may_end (token.Int z) = true
may_end (token.Text s) = true
may_end (token.Name s) = true
may_end (token.Word w) = word_ends w
may_end (token.Sign s) = sign_ends s

-- the reserved words that an item may begin with
abbrev pub word_begins : Reserved → Bool
word_begins word.True = true
word_begins word.False = true
word_begins word.Null = true
word_begins word.Ref = true
word_begins word.Throw = true
word_begins word.Def = true
word_begins word.Var = true
word_begins word.If = true
word_begins word.While = true
word_begins word.For = true
word_begins word.Escape = true
word_begins word.Try = true
word_begins word.When = true
word_begins word.Return = true
word_begins _ = false

-- the signs that an item may begin with, and no item goes on with behind a line break
abbrev pub sign_begins : Sign → Bool
sign_begins sign.OpenRound = true
sign_begins sign.OpenSquare = true
sign_begins sign.Not = true
sign_begins sign.Minus = true
sign_begins _ = false

-- the tokens that an item may begin with
abbrev pub may_begin : Token → Bool
may_begin (token.Int z) = true
may_begin (token.Text s) = true
may_begin (token.Name s) = true
may_begin (token.Word w) = word_begins w
may_begin (token.Sign s) = sign_begins s

-- a closing bracket closes the innermost open one, if there is one
abbrev pub closed : List Bracket → List Bracket
closed [] = []
closed (bracket ∷ brackets) = brackets

-- the open brackets behind a sign, the innermost first
abbrev pub behind_sign : Sign → List Bracket → List Bracket
behind_sign sign.OpenRound brackets = Round ∷ brackets
behind_sign sign.OpenSquare brackets = Square ∷ brackets
behind_sign sign.OpenCurly brackets = Curly ∷ brackets
behind_sign sign.CloseRound brackets = closed brackets
behind_sign sign.CloseSquare brackets = closed brackets
behind_sign sign.CloseCurly brackets = closed brackets
behind_sign _ brackets = brackets

-- the open brackets behind a token, the innermost first
abbrev pub behind : Token → List Bracket → List Bracket
behind (token.Sign s) brackets = behind_sign s brackets
behind _ brackets = brackets

-- line breaks may part items here: no bracket is open, or the innermost is `{`
abbrev pub in_items : List Bracket → Bool
in_items [] = true
in_items (Curly ∷ brackets) = true
in_items (Round ∷ brackets) = false
in_items (Square ∷ brackets) = false

-- a line break before this token gives a semicolon; ended: an item may end with the token before
abbrev pub parts : List Bracket → Bool → Piece → Bool
parts brackets ended p = p.broken && in_items brackets && ended && may_begin p.placed.token

-- the semicolon that stands where the token stands
abbrev pub semicolon_at : Placed → Placed
semicolon_at p = record { token = token.Sign sign.Semicolon; offset = p.offset }

-- a token, behind these open brackets, and before it the semicolon that a line break gives
abbrev pub with_break : List Bracket → Bool → Piece → List Placed
with_break brackets ended p = cond (parts brackets ended p) (semicolon_at p.placed ∷ []) [] ++ p.placed ∷ []

-- the tokens, behind these open brackets, with the semicolons that line breaks give
abbrev pub with_breaks_in : List Bracket → Bool → List Piece → List Placed
with_breaks_in brackets ended [] = []
with_breaks_in brackets ended (p ∷ ps) = with_break brackets ended p ++ with_breaks_in (behind p.placed.token brackets) (may_end p.placed.token) ps

-- the tokens of a text with the semicolons that line breaks give
abbrev pub with_breaks : List Piece → List Placed
with_breaks ps = with_breaks_in [] false ps
