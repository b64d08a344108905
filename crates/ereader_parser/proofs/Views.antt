-- Tokens without their places.
use Rattle.std.proofs.Common.{◌≡◌, List, [], ◌∷◌, refl, ap, ◌==◌, length, suc}
use Rattle.std.proofs.Math.Dec.{eqb-suc-zero}
use Rattle.etoken.specs.declared.token.Placed.{Placed}
use Rattle.ereader_grammar.specs.Reading.{is_empty, within_at, all_at, program_at}
use Rattle.ereader_grammar.specs.View.{plain}

pub is_empty-plain : (ps : List Placed) → (length ps == 0) ≡ is_empty (plain ps)
is_empty-plain [] = refl
is_empty-plain (p ∷ ps) = eqb-suc-zero (length ps)

pub length-plain : (ps : List Placed) → length (plain ps) ≡ length ps
length-plain [] = refl
length-plain (p ∷ ps) = ap suc (length-plain ps)

-- the reader's counter begins at the number of tokens
pub program_at-plain : (ps : List Placed) → program_at (plain ps) ≡ all_at (within_at (length ps)) (plain ps)
program_at-plain ps = ap (λ n. all_at (within_at n) (plain ps)) (length-plain ps)
