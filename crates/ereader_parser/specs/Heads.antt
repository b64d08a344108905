-- What stands before a last block, or before what else the reader reads in a recursion, as a function of what stands behind it.
use Rattle.std.specs.Prelude.{cond, List, Option, Some, None}
use Rattle.etoken.specs.declared.token.Token.{Token}
use Rattle.etoken.specs.declared.token.Reserved.{Reserved}
use Rattle.etoken.specs.declared.token.Reserved.TheVariants as word
use Rattle.kernele.specs.declared.tree.Pattern.{Pattern}
use Rattle.kernele.specs.Tree.{Tree, Trees, call, none, while_tree, for_tree, try_tree, escape_tree}
use Rattle.kernele.specs.View.{tree_of, trees_of}
use Rattle.etoken.specs.declared.breaks.Bracket.TheVariants as bracket
use Rattle.ereader_signs.specs.declared.operator.Prefix.{Prefix}
use Rattle.ereader_forms.specs.Forms.{block_of, prefix_verb}
use Rattle.ereader_nodes.specs.Nodes.{given, MethodTree, method_tree}
use Rattle.ereader_nodes.specs.View.{place_of}
use Rattle.ereader_nodes.specs.declared.target.Target.{Target}
use Rattle.ereader_grammar.specs.Reading.{Read, ◌>>=◌, rest_of, sign_in, is_open, is_at_word, is_to_word, is_catch_word, past_word, Within, pattern_at, pattern_list_at, name_at, each_at, condition_at, tried_at, method_verb_at}
use Rattle.ereader_parser.specs.declared.head.Head.{Head}
use Rattle.ereader_parser.specs.declared.head.Head.TheVariants as head
use Rattle.ereader_parser.specs.declared.head.MethodHead.{MethodHead}

-- the whole with a last block
abbrev pub whole_of : Head → Trees → Tree
whole_of (head.While c) = while_tree (tree_of c.value)
whole_of (head.For p e) = for_tree p (tree_of e.value)
whole_of (head.Try body p) = try_tree (trees_of body.items) p
whole_of (head.Escape x) = escape_tree x

-- the method with a block
abbrev pub whole_method : MethodHead → Trees → MethodTree
whole_method h body = method_tree h.verb h.parameters.items (block_of h.returns body)

-- the `catch` and the pattern behind the block of a `try`
abbrev pub caught_at : Trees × List Token → Read (Trees → Tree)
caught_at x = past_word is_catch_word x >>= λ b. pattern_at b.1 >>= λ p. Some (try_tree b.0 p.0, p.1)

-- what begins with a word and has a last block, behind that word
abbrev pub head_at : Within → Reserved → List Token → Read (Trees → Tree)
head_at within word.While a = condition_at within a >>= λ c. Some (while_tree c.0, c.1)
head_at within word.For a = each_at a >>= λ p. within.expression p.1 >>= λ e. Some (for_tree p.0 e.0, e.1)
head_at within word.Try a = tried_at within a >>= λ b. pattern_at b.1 >>= λ p. Some (try_tree b.0 p.0, p.1)
head_at within word.Escape a = name_at a >>= λ x. Some (escape_tree x.0, x.1)
head_at within _ a = None

-- parameters in their brackets
abbrev pub parameters_at : List Token → Read (List Pattern)
parameters_at a = cond (is_open bracket.Round (sign_in a)) (pattern_list_at bracket.Round (rest_of a)) None

-- a method up to its block, where its first word is in front
abbrev pub method_head_at : List Token → Read (Trees → MethodTree)
method_head_at a =
    method_verb_at (rest_of a) >>= λ v. pattern_list_at bracket.Round v.1 >>= λ ps.
    Some (λ body. method_tree v.0 ps.0 (block_of (is_at_word is_to_word a) body), ps.1)

-- a value, and what it is given to, if it is given to anything
abbrev pub given_to : Option Target → Tree → Tree
given_to None t = t
given_to (Some g) t = given (place_of g) t

-- what is behind an operator, if there is one in front
abbrev pub behind : Option Prefix → List Token → List Token
behind None a = a
behind (Some o) a = rest_of a

-- an operand, and the operator before it, if there is one
abbrev pub prefixed : Option Prefix → Tree → Tree
prefixed None t = t
prefixed (Some o) t = call t (prefix_verb o) none
