-- What trees stand for that are made of parts.
use Rattle.std.proofs.Common.{◌≡◌, ℕ, List, Result, IfOk, ◌∙◌}
use Rattle.std.proofs.lemmas.Result.{IfOk-weaker}
use Rattle.kernele.specs.Tree.{Tree, Trees, Methods, call, if_tree, while_tree, for_tree, try_tree, object_tree, escape_tree, send, when_tree, when_catch_tree}
use Rattle.kernele.specs.View.{tree_of, trees_of, methods_of}
use Rattle.kernele.specs.declared.tree.Expr as expr
use Rattle.kernele.specs.declared.tree.Expr.{Expr}
use Rattle.kernele.specs.declared.tree.Method.{Method}
use Rattle.kernele.specs.declared.tree.Pattern.{Pattern}
use Rattle.kernele.proofs.Views.{tree_of-Call, tree_of-If, tree_of-While, tree_of-For, tree_of-Try, tree_of-Object, tree_of-Escape, tree_of-Send, tree_of-When, tree_of-WhenCatch}
use Rattle.std.specs.declared.sync.Arc.{Arc}
use Rattle.std.specs.declared.vec.Vec.{Vec}
use Rattle.std.specs.declared.alloc.Global.{Global}

abbrev Part : Type 0
Part = Arc Expr Global

abbrev Row : Type 0
Row = Arc (Vec Expr Global) Global

-- what was made of the same tree
pub as_code : {E : Type 0} (r : Result Expr E) (t u : Tree) → t ≡ u → IfOk r (λ (e : Expr). tree_of e ≡ t) → IfOk r (λ (e : Expr). tree_of e ≡ u)
as_code r t u same h = IfOk-weaker r (λ (e : Expr). tree_of e ≡ t) (λ (e : Expr). tree_of e ≡ u) (λ e g. g ∙ same) h

pub made_call : (r : Part) (v : List ℕ) (xs : Row) {a : Tree} {w : List ℕ} {ts : Trees} → tree_of r.value ≡ a → v ≡ w → trees_of xs.value.items ≡ ts → tree_of (expr.Call r v xs) ≡ call a w ts
made_call r v xs p q s = tree_of-Call r v xs ∙ (λ i. call (p i) (q i) (s i))

pub made_send : (r : Part) (v : List ℕ) (xs : Row) {a : Tree} {w : List ℕ} {ts : Trees} → tree_of r.value ≡ a → v ≡ w → trees_of xs.value.items ≡ ts → tree_of (expr.Send r v xs) ≡ send a w ts
made_send r v xs p q s = tree_of-Send r v xs ∙ (λ i. send (p i) (q i) (s i))

pub made_if : (e : Part) (xs ys : Row) {a : Tree} {ts us : Trees} → tree_of e.value ≡ a → trees_of xs.value.items ≡ ts → trees_of ys.value.items ≡ us → tree_of (expr.If e xs ys) ≡ if_tree a ts us
made_if e xs ys p q s = tree_of-If e xs ys ∙ (λ i. if_tree (p i) (q i) (s i))

pub made_while : (e : Part) (xs : Row) {a : Tree} {ts : Trees} → tree_of e.value ≡ a → trees_of xs.value.items ≡ ts → tree_of (expr.While e xs) ≡ while_tree a ts
made_while e xs p q = tree_of-While e xs ∙ (λ i. while_tree (p i) (q i))

pub made_for : (x : Pattern) (e : Part) (xs : Row) {y : Pattern} {a : Tree} {ts : Trees} → x ≡ y → tree_of e.value ≡ a → trees_of xs.value.items ≡ ts → tree_of (expr.For x e xs) ≡ for_tree y a ts
made_for x e xs p q s = tree_of-For x e xs ∙ (λ i. for_tree (p i) (q i) (s i))

pub made_try : (xs : Row) (x : Pattern) (ys : Row) {y : Pattern} {ts us : Trees} → trees_of xs.value.items ≡ ts → x ≡ y → trees_of ys.value.items ≡ us → tree_of (expr.Try xs x ys) ≡ try_tree ts y us
made_try xs x ys p q s = tree_of-Try xs x ys ∙ (λ i. try_tree (p i) (q i) (s i))

pub made_object : (x : Pattern) (ms : Arc (Vec Method Global) Global) {y : Pattern} {ns : Methods} → x ≡ y → methods_of ms.value.items ≡ ns → tree_of (expr.Object x ms) ≡ object_tree y ns
made_object x ms p q = tree_of-Object x ms ∙ (λ i. object_tree (p i) (q i))

pub made_escape : (x : List ℕ) (xs : Row) {y : List ℕ} {ts : Trees} → x ≡ y → trees_of xs.value.items ≡ ts → tree_of (expr.Escape x xs) ≡ escape_tree y ts
made_escape x xs p q = tree_of-Escape x xs ∙ (λ i. escape_tree (p i) (q i))

pub made_when : (e : Part) (xs : Row) {a : Tree} {ts : Trees} → tree_of e.value ≡ a → trees_of xs.value.items ≡ ts → tree_of (expr.When e xs) ≡ when_tree a ts
made_when e xs p q = tree_of-When e xs ∙ (λ i. when_tree (p i) (q i))

pub made_when_catch : (e : Part) (xs : Row) (x : Pattern) (ys : Row) {a : Tree} {ts us : Trees} {y : Pattern} → tree_of e.value ≡ a → trees_of xs.value.items ≡ ts → x ≡ y → trees_of ys.value.items ≡ us
    → tree_of (expr.WhenCatch e xs x ys) ≡ when_catch_tree a ts y us
made_when_catch e xs x ys p q r s = tree_of-WhenCatch e xs x ys ∙ (λ i. when_catch_tree (p i) (q i) (r i) (s i))
