-- What operators, calls, sends, words, `return` and functions stand for, as trees.
use Rattle.std.specs.Prelude.{Bool, true, false, cond, List, [], ◌∷◌, Option, Some, None, codes}
use Rattle.etoken.specs.Table.{entry_at}
use Rattle.etoken.specs.declared.token.Reserved as words
use Rattle.etoken.specs.declared.token.Reserved.TheVariants as word
use Rattle.kernele.specs.declared.tree.Pattern.{Pattern}
use Rattle.kernele.specs.Tree.{Name, Tree, null_tree, bool_tree, noun, call, same_tree, if_tree, object_tree, escape_tree, send, Trees, none, and_then, no_methods, and_method}
use Rattle.ereader_signs.specs.declared.operator.Operator.{Operator}
use Rattle.ereader_signs.specs.declared.operator.Operator.TheVariants as operator
use Rattle.ereader_signs.specs.declared.operator.CallSign.{CallSign}
use Rattle.ereader_signs.specs.declared.operator.CallSign.TheVariants as link
use Rattle.ereader_signs.specs.declared.operator.Prefix.{Prefix}
use Rattle.ereader_signs.specs.declared.operator.Prefix.TheVariants as prefix
use Rattle.ereader_forms.specs.declared.words.RefWord.{RefWord}
use Rattle.ereader_forms.specs.declared.words.RefWord.TheVariants as reference

-- a call with one argument
abbrev pub binary : Tree → Name → Tree → Tree
binary t verb u = call t verb (and_then u none)

-- a block of one item
abbrev pub alone : Tree → Trees
alone t = and_then t none

-- what an operator between two trees stands for
abbrev pub joined : Operator → Tree → Tree → Tree
joined operator.Add t u = binary t (codes "add") u
joined operator.Subtract t u = binary t (codes "subtract") u
joined operator.Multiply t u = binary t (codes "multiply") u
joined operator.FloorDivide t u = binary t (codes "floorDivide") u
joined operator.LessThan t u = binary t (codes "lessThan") u
joined operator.AtMost t u = binary t (codes "atMost") u
joined operator.MoreThan t u = binary t (codes "moreThan") u
joined operator.AtLeast t u = binary t (codes "atLeast") u
joined operator.Same t u = same_tree t u
joined operator.Differ t u = call (same_tree t u) (codes "not") none
joined operator.And t u = if_tree t (alone u) (alone (bool_tree false))
joined operator.Or t u = if_tree t (alone (bool_tree true)) (alone u)

-- the verb of an operator before a tree
abbrev pub prefix_verb : Prefix → Name
prefix_verb prefix.Not = codes "not"
prefix_verb prefix.Negate = codes "negate"

-- what is made of a receiver: a call of it, or a send
abbrev pub linked : CallSign → Tree → Name → Trees → Tree
linked link.Method t verb ts = call t verb ts
linked link.Run t verb ts = call t verb ts
linked link.Index t verb ts = call t verb ts
linked link.Send t verb ts = send t verb ts

-- one more at the end
abbrev pub snoc : Trees → Tree → Trees
snoc none t = and_then t none
snoc (and_then u us) t = and_then u (snoc us t)

-- the name of the ejector that ends a method that may return
abbrev pub return_name : Name
return_name = codes "__return"

-- what `return` stands for: a call of that ejector
abbrev pub return_tree : Tree → Tree
return_tree t = binary (noun return_name) (codes "run") t

-- the block of a method that may return: null, where it does not
abbrev pub returning : Trees → Trees
returning ts = alone (escape_tree return_name (snoc ts null_tree))

-- an object with one method, which may return
abbrev pub function_tree : Pattern → List Pattern → Trees → Tree
function_tree p ps ts = object_tree p (and_method (codes "run") ps (returning ts) no_methods)

-- the block of a method, of those that may return or of the others
abbrev pub block_of : Bool → Trees → Trees
block_of returns ts = cond returns (returning ts) ts

-- the literal that a word is
abbrev pub literal_of : words.Reserved → Option Tree
literal_of word.True = Some (bool_tree true)
literal_of word.False = Some (bool_tree false)
literal_of word.Null = Some null_tree
literal_of _ = None

-- each name with a meaning of its own behind `Ref.`
abbrev pub ref_words : List (Name × RefWord)
ref_words = (codes "promise", reference.Promise) ∷ (codes "broken", reference.Broken) ∷ (codes "state", reference.State) ∷ []

abbrev pub ref_word_of : Name → Option RefWord
ref_word_of x = entry_at ref_words x
