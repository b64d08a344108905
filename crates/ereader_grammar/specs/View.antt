-- Tokens without their places.
use Rattle.std.specs.Prelude.{List, [], ◌∷◌}
use Rattle.etoken.specs.declared.token.Token.{Token}
use Rattle.etoken.specs.declared.token.Placed.{Placed}

abbrev pub plain : List Placed → List Token
plain [] = []
plain (p ∷ ps) = p.token ∷ plain ps
