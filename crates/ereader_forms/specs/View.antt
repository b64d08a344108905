-- Which expression a literal is.
use Rattle.std.specs.Prelude.{◌≡◌, Option, Some, None}
use Rattle.kernele.specs.declared.tree.Expr.{Expr}
use Rattle.kernele.specs.Tree.{Tree}
use Rattle.kernele.specs.View.{tree_of}

-- a literal stands for a tree, or none is there
abbrev pub GivesTree : Option Expr → Option Tree → Type 0
GivesTree (Some e) tree = tree ≡ Some (tree_of e)
GivesTree None tree = tree ≡ None
