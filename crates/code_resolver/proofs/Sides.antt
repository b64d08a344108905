-- Expressions that have a right side.
use Rattle.std.proofs.Common.{◌≡◌, ◌⊎◌, inl, inr, Bool, Option, Some, ap, subst}
use Rattle.std.specs.Prelude.{Result, Ok, Err, IfOk}
use Rattle.std.specs.declared.sync.Arc.{Arc}
use Rattle.std.specs.declared.vec.Vec.{Vec}
use Rattle.std.specs.declared.alloc.Global.{Global}
use Rattle.kernele.specs.Tree.{Name}
use Rattle.kernele.specs.View.{tree_of}
use Rattle.kernele.specs.declared.tree.Expr as tree
use Rattle.kernele.specs.declared.tree.Expr.{Expr}
use Rattle.kernele.specs.declared.tree.Pattern.{Pattern}
use Rattle.kernele.specs.declared.tree.Primitive.{Primitive}
use Rattle.code.specs.Frames.{Frame}
use Rattle.code.specs.declared.code.Code.{Code}
use Rattle.code_resolver.specs.Resolves.{Resolves, right_side}

-- the right side of what has one
pub side_of : {e : Expr} (right : Arc Expr Global)
    → ((p : Pattern) × (e ≡ tree.Def p right)) ⊎ (((x : Name) × (e ≡ tree.Var x right)) ⊎ (((x : Name) × (e ≡ tree.Assign x right)) ⊎ (((ps : Arc (Vec Pattern Global) Global) × (e ≡ tree.DefList ps right)) ⊎ ((q : Primitive) × (e ≡ tree.Primitive q right)))))
    → right_side e ≡ Some right.value
side_of right (inl is) = ap right_side is.1
side_of right (inr (inl is)) = ap right_side is.1
side_of right (inr (inr (inl is))) = ap right_side is.1
side_of right (inr (inr (inr (inl is)))) = ap right_side is.1
side_of right (inr (inr (inr (inr is)))) = ap right_side is.1

-- what is resolved of a right side is resolved of the same one, known otherwise
pub same_side : {own : Bool} {f g : Frame} {o : Option Expr} {q r : Expr} {c : Code} → o ≡ Some q → o ≡ Some r → Resolves own f (tree_of r) c g → Resolves own f (tree_of q) c g
same_side {own = own} {f = f} {g = g} {q = q} {r = r} {c = c} this that h = let same : r ≡ q = cc in subst (λ (e : Expr). Resolves own f (tree_of e) c g) same h

-- what is resolved of an expression whose right side was
pub right_resolved : {E : Type 0} (result : Result Code E) {own : Bool} {f g : Frame} (k : Frame) (e : Expr) {q : Expr} {a : Code}
    → IfOk result (λ d. (before : Frame) (x : Expr) → right_side e ≡ Some x → Resolves own before (tree_of x) a g → Resolves own before (tree_of e) d k) → right_side e ≡ Some q → Resolves own f (tree_of q) a g → IfOk result (λ d. Resolves own f (tree_of e) d k)
right_resolved (Ok d) {f = f} k e {q = q} h is a = h f q is a
right_resolved (Err x) k e h is a = tt
