-- What a list of expressions that grows at its end stands for.
use Rattle.std.proofs.Common.{◌≡◌, List, [], ◌∷◌, ◌++◌, refl, ap}
use Rattle.kernele.specs.Tree.{and_then}
use Rattle.kernele.specs.View.{tree_of, trees_of}
use Rattle.kernele.specs.declared.tree.Expr.{Expr}
use Rattle.ereader_forms.specs.Forms.{snoc}

pub trees_push : (es : List Expr) (e : Expr) → trees_of (es ++ e ∷ []) ≡ snoc (trees_of es) (tree_of e)
trees_push [] e = refl
trees_push (d ∷ es) e = ap (and_then (tree_of d)) (trees_push es e)
