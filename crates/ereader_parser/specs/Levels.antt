-- What the operators of one level between two operands read.
use Rattle.std.specs.Prelude.{Bool, true, false, List, Option, Some, None}
use Rattle.etoken.specs.declared.token.Token.{Token}
use Rattle.kernele.specs.Tree.{Tree}
use Rattle.ereader_signs.specs.Signs.{product_operator}
use Rattle.ereader_grammar.specs.Reading.{Read, Within, operands_from, unary_at, product_at, sum_at, comparison_at, conjunction_at, disjunction_at, sums_from, comparisons_from, conjunctions_from, disjunctions_from}
use Rattle.ereader_signs.specs.declared.operator.Level.{Level}
use Rattle.ereader_signs.specs.declared.operator.Level.TheVariants as level

-- the level of its operands
abbrev pub tighter : Level → Option Level
tighter level.Disjunction = Some level.Conjunction
tighter level.Conjunction = Some level.Comparison
tighter level.Comparison = Some level.Sum
tighter level.Sum = Some level.Product
tighter level.Product = Some level.Unary
tighter level.Unary = None

-- two of its operators never stand in a row
abbrev pub joins_two : Level → Bool
joins_two level.Comparison = true
joins_two _ = false

-- operands and the operators between them
abbrev pub level_at : Level → Within → List Token → Read Tree
level_at level.Disjunction = disjunction_at
level_at level.Conjunction = conjunction_at
level_at level.Comparison = comparison_at
level_at level.Sum = sum_at
level_at level.Product = product_at
level_at level.Unary = unary_at

-- the same behind the first operand that has no operator between two operands
abbrev pub level_from : Level → Within → Tree → List Token → Read Tree
level_from level.Disjunction within t a = disjunctions_from within t a
level_from level.Conjunction within t a = conjunctions_from within t a
level_from level.Comparison within t a = comparisons_from within t a
level_from level.Sum within t a = sums_from within t a
level_from level.Product within t a = operands_from product_operator (unary_at within) t a
level_from level.Unary within t a = Some (t, a)
