-- What signs stand for where they stand.
use Rattle.std.specs.Prelude.{Bool, true, false, List, ℕ, Option, Some, None, codes}
use Rattle.etoken.specs.declared.token.Sign as signs
use Rattle.etoken.specs.declared.token.Sign.TheVariants as sign
use Rattle.ereader_signs.specs.declared.operator.Operator.{Operator}
use Rattle.ereader_signs.specs.declared.operator.Operator.TheVariants as operator
use Rattle.ereader_signs.specs.declared.operator.Level.{Level}
use Rattle.ereader_signs.specs.declared.operator.Level.TheVariants as level
use Rattle.ereader_signs.specs.declared.operator.Prefix.{Prefix}
use Rattle.ereader_signs.specs.declared.operator.Prefix.TheVariants as prefix
use Rattle.ereader_signs.specs.declared.operator.CallSign.{CallSign}
use Rattle.ereader_signs.specs.declared.operator.CallSign.TheVariants as link
use Rattle.etoken.specs.declared.breaks.Bracket.{Bracket}
use Rattle.etoken.specs.declared.breaks.Bracket.TheVariants as bracket

-- the operators of a product
abbrev pub product_operator : signs.Sign → Option Operator
product_operator sign.Times = Some operator.Multiply
product_operator sign.Divide = Some operator.FloorDivide
product_operator _ = None

-- the operators of a sum
abbrev pub sum_operator : signs.Sign → Option Operator
sum_operator sign.Plus = Some operator.Add
sum_operator sign.Minus = Some operator.Subtract
sum_operator _ = None

-- the operators that compare two sums
abbrev pub comparison_operator : signs.Sign → Option Operator
comparison_operator sign.Equal = Some operator.Same
comparison_operator sign.NotEqual = Some operator.Differ
comparison_operator sign.Less = Some operator.LessThan
comparison_operator sign.AtMost = Some operator.AtMost
comparison_operator sign.More = Some operator.MoreThan
comparison_operator sign.AtLeast = Some operator.AtLeast
comparison_operator _ = None

-- the operator of a conjunction
abbrev pub and_operator : signs.Sign → Option Operator
and_operator sign.And = Some operator.And
and_operator _ = None

-- the operator of a disjunction
abbrev pub or_operator : signs.Sign → Option Operator
or_operator sign.Or = Some operator.Or
or_operator _ = None

-- the operators of a level
abbrev pub operator_of : Level → signs.Sign → Option Operator
operator_of level.Disjunction = or_operator
operator_of level.Conjunction = and_operator
operator_of level.Comparison = comparison_operator
operator_of level.Sum = sum_operator
operator_of level.Product = product_operator
operator_of level.Unary = λ s. None

-- what stands before an operand
abbrev pub prefix_operator : signs.Sign → Option Prefix
prefix_operator sign.Not = Some prefix.Not
prefix_operator sign.Minus = Some prefix.Negate
prefix_operator _ = None

-- what makes a call or a send of what stands before it
abbrev pub link_of : signs.Sign → Option CallSign
link_of sign.Dot = Some link.Method
link_of sign.OpenRound = Some link.Run
link_of sign.OpenSquare = Some link.Index
link_of sign.SendTo = Some link.Send
link_of _ = None

-- a send, and not a call
abbrev pub is_send : CallSign → Bool
is_send link.Method = false
is_send link.Run = false
is_send link.Index = false
is_send link.Send = true

-- its verb, where no name may stand for it
abbrev pub verb_of : CallSign → Option (List ℕ)
verb_of link.Method = None
verb_of link.Run = Some (codes "run")
verb_of link.Index = Some (codes "get")
verb_of link.Send = None

-- the bracket that its arguments stand in
abbrev pub closer : CallSign → Bracket
closer link.Method = bracket.Round
closer link.Run = bracket.Round
closer link.Index = bracket.Square
closer link.Send = bracket.Round
