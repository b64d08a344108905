-- On brackets that are open.
use Rattle.std.proofs.Common.{◌≡◌, ℕ, suc, ◌<◌, ◌≤◌, List, [], ◌∷◌, length, get_or, drop, arith, drop-cons}
use Rattle.etoken.specs.declared.token.Token.{Token}
use Rattle.etoken.specs.declared.token.Placed.{Placed}
use Rattle.ereader.specs.Brackets.{open_after, most_open_from}
use Rattle.ereader_grammar.specs.View.{plain}

-- those that are open at first count too
most_open-le : (n : ℕ) (ts : List Token) → n ≤ most_open_from n ts
most_open-le n [] = omega arith
most_open-le n (t ∷ ts) = omega arith

-- those that are open behind a token count too
pub most_open-next : (n i : ℕ) (p : Placed) (ps : List Placed) → i < length ps → p ≡ get_or ps i p → open_after n p.token ≤ most_open_from n (plain (drop i ps))
most_open-next n i p ps h e =
    rw (drop-cons ps i p, ← e) (omega (arith, most_open-le (open_after n p.token) (plain (drop (suc i) ps))))
