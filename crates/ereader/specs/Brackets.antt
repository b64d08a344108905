-- How many brackets are open.
use Rattle.std.specs.Prelude.{ℕ, ◌+◌, ◌-◌, ◌<◌, max, List, [], ◌∷◌}
use Rattle.etoken.specs.declared.token.Token.{Token}
use Rattle.etoken.specs.declared.token.Token.TheVariants as token
use Rattle.etoken.specs.declared.token.Sign as signs
use Rattle.etoken.specs.declared.token.Sign.TheVariants as sign
use Rattle.ereader.specs.declared.depth.TheConstants.{MOST_OPEN}

-- the brackets open after a sign, where n are open before it; a closing one closes the innermost,
-- of whichever kind, or nothing
abbrev pub open_after_sign : ℕ → signs.Sign → ℕ
open_after_sign n sign.OpenRound = n + 1
open_after_sign n sign.OpenSquare = n + 1
open_after_sign n sign.OpenCurly = n + 1
open_after_sign n sign.CloseRound = n - 1
open_after_sign n sign.CloseSquare = n - 1
open_after_sign n sign.CloseCurly = n - 1
open_after_sign n _ = n

abbrev pub open_after : ℕ → Token → ℕ
open_after n (token.Sign s) = open_after_sign n s
open_after n _ = n

-- the most brackets that are open at once, where n are open before the tokens
abbrev pub most_open_from : ℕ → List Token → ℕ
most_open_from n [] = n
most_open_from n (t ∷ ts) = max n (most_open_from (open_after n t) ts)

-- the most brackets that are open at once
abbrev pub most_open : List Token → ℕ
most_open = most_open_from 0

-- more brackets are open at once than may be
abbrev pub IsTooDeep : List Token → Type 0
IsTooDeep a = MOST_OPEN < most_open a
