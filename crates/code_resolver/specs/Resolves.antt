-- What resolving gives: code that stands for the tree, fits the frame that it was resolved for, and leaves the frame behind the tree.
use Rattle.std.specs.Prelude.{◌≡◌, Bool, false, List, Option, Some, None}
use Rattle.kernele.specs.Tree.{Tree, Trees, Methods}
use Rattle.kernele.specs.declared.tree.Expr as tree
use Rattle.kernele.specs.declared.tree.Expr.{Expr}
use Rattle.code.specs.declared.code.Code.{Code}
use Rattle.code.specs.declared.code.MethodCode.{MethodCode}
use Rattle.code.specs.View.{tree_of_code, trees_of_codes, methods_of_codes}
use Rattle.code.specs.Frames.{Frame, after, after_in, fits, fits_all, fits_methods}

-- a tree, from one frame to the next
pub record Resolves (own : Bool) (frame : Frame) (t : Tree) (c : Code) (next : Frame) : Type 0 where
  pub tree : tree_of_code c ≡ t
  pub fitting : fits own frame c
  pub grown : next ≡ after own t frame

-- trees in order
pub record ResolvesAll (own : Bool) (frame : Frame) (ts : Trees) (cs : List Code) (next : Frame) : Type 0 where
  pub trees : trees_of_codes cs ≡ ts
  pub fitting : fits_all own frame cs
  pub grown : next ≡ after_in own ts frame

-- a block, in a scope of its own that begins with this frame
pub record ResolvesBlock (frame : Frame) (ts : Trees) (cs : List Code) : Type 0 where
  pub trees : trees_of_codes cs ≡ ts
  pub fitting : fits_all false frame cs

-- the methods of an object with these names
pub record ResolvesMethods (frame : Frame) (ms : Methods) (cs : List MethodCode) : Type 0 where
  pub methods : methods_of_codes cs ≡ ms
  pub fitting : fits_methods frame cs

-- the right side of a definition, a variable, an assignment, a throw, a broken reference and a state
abbrev pub right_side : Expr → Option Expr
right_side (tree.Def' pattern p e) = Some e
right_side (tree.Var' x p e) = Some e
right_side (tree.Assign' x p e) = Some e
right_side (tree.DefList' patterns p e) = Some e
right_side (tree.Primitive' q p e) = Some e
right_side _ = None
