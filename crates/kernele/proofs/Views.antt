-- A node that holds a vector stands for a tree of the vector's trees.
use Rattle.std.proofs.Common.{◌≡◌, List, ℕ, refl, ap, sym, ◌∙◌}
use Rattle.kernele.specs.Tree.{call, list_tree, hide, if_tree, while_tree, for_tree, try_tree, object_tree, escape_tree, send, when_tree, when_catch_tree, Trees, Methods, and_then, and_method}
use Rattle.kernele.specs.View.{tree_of, trees_of, trees_of_row, methods_of, methods_of_row}
use Rattle.kernele.specs.declared.tree.Expr as code
use Rattle.kernele.specs.declared.tree.Expr.{Expr}
use Rattle.kernele.specs.declared.tree.Method.{Method}
use Rattle.kernele.specs.declared.tree.Pattern.{Pattern}
use Rattle.std.specs.declared.sync.Arc.{Arc}
use Rattle.std.specs.declared.vec.Vec.{Vec}
use Rattle.std.specs.declared.alloc.Global.{Global}

trees_of_row-items : {n : _} (k : code.Row_of-Expr n) → trees_of_row k ≡ trees_of (code.items-the_row-Expr _ k)
trees_of_row-items code.end_of-Expr = refl
trees_of_row-items (code.more_of-Expr e rest) = ap (and_then (tree_of e)) (trees_of_row-items rest)

trees_row : (xs : Vec Expr Global) → trees_of_row (code.TheBlock.hidden-the_row-Expr-0 xs) ≡ trees_of xs.items
trees_row xs = trees_of_row-items (code.TheBlock.hidden-the_row-Expr-0 xs) ∙ ap trees_of (code.items_hidden-the_row-Expr-0 xs)

pub tree_of-Call : (r : Arc Expr Global) (verb : List ℕ) (args : Arc (Vec Expr Global) Global) → tree_of (code.Call r verb args) ≡ call (tree_of r.value) verb (trees_of args.value.items)
tree_of-Call r verb args = ap (call (tree_of r.value) verb) (trees_row args.value)

pub tree_of-List : (items : Arc (Vec Expr Global) Global) → tree_of (code.List items) ≡ list_tree (trees_of items.value.items)
tree_of-List items = ap list_tree (trees_row items.value)

pub tree_of-Hide : (body : Arc (Vec Expr Global) Global) → tree_of (code.Hide body) ≡ hide (trees_of body.value.items)
tree_of-Hide body = ap hide (trees_row body.value)

pub tree_of-If : (c : Arc Expr Global) (first second : Arc (Vec Expr Global) Global) → tree_of (code.If c first second) ≡ if_tree (tree_of c.value) (trees_of first.value.items) (trees_of second.value.items)
tree_of-If c first second = ap (λ ts. if_tree (tree_of c.value) ts (trees_of_row (code.TheBlock.hidden-the_row-Expr-0 second.value))) (trees_row first.value) ∙ ap (if_tree (tree_of c.value) (trees_of first.value.items)) (trees_row second.value)

pub tree_of-While : (c : Arc Expr Global) (body : Arc (Vec Expr Global) Global) → tree_of (code.While c body) ≡ while_tree (tree_of c.value) (trees_of body.value.items)
tree_of-While c body = ap (while_tree (tree_of c.value)) (trees_row body.value)

pub tree_of-For : (p : Pattern) (e : Arc Expr Global) (body : Arc (Vec Expr Global) Global) → tree_of (code.For p e body) ≡ for_tree p (tree_of e.value) (trees_of body.value.items)
tree_of-For p e body = ap (for_tree p (tree_of e.value)) (trees_row body.value)

pub tree_of-Try : (body : Arc (Vec Expr Global) Global) (p : Pattern) (handler : Arc (Vec Expr Global) Global) → tree_of (code.Try body p handler) ≡ try_tree (trees_of body.value.items) p (trees_of handler.value.items)
tree_of-Try body p handler = ap (λ ts. try_tree ts p (trees_of_row (code.TheBlock.hidden-the_row-Expr-0 handler.value))) (trees_row body.value) ∙ ap (try_tree (trees_of body.value.items) p) (trees_row handler.value)

pub tree_of-Escape : (x : List ℕ) (body : Arc (Vec Expr Global) Global) → tree_of (code.Escape x body) ≡ escape_tree x (trees_of body.value.items)
tree_of-Escape x body = ap (escape_tree x) (trees_row body.value)

pub tree_of-Send : (r : Arc Expr Global) (verb : List ℕ) (args : Arc (Vec Expr Global) Global) → tree_of (code.Send r verb args) ≡ send (tree_of r.value) verb (trees_of args.value.items)
tree_of-Send r verb args = ap (send (tree_of r.value) verb) (trees_row args.value)

pub tree_of-When : (e : Arc Expr Global) (body : Arc (Vec Expr Global) Global) → tree_of (code.When e body) ≡ when_tree (tree_of e.value) (trees_of body.value.items)
tree_of-When e body = ap (when_tree (tree_of e.value)) (trees_row body.value)

pub tree_of-WhenCatch : (e : Arc Expr Global) (body : Arc (Vec Expr Global) Global) (p : Pattern) (handler : Arc (Vec Expr Global) Global)
    → tree_of (code.WhenCatch e body p handler) ≡ when_catch_tree (tree_of e.value) (trees_of body.value.items) p (trees_of handler.value.items)
tree_of-WhenCatch e body p handler =
    ap (λ ts. when_catch_tree (tree_of e.value) ts p (trees_of_row (code.TheBlock.hidden-the_row-Expr-0 handler.value))) (trees_row body.value)
    ∙ ap (when_catch_tree (tree_of e.value) (trees_of body.value.items) p) (trees_row handler.value)

method_same : {verb : List ℕ} {ps : List Pattern} {b c : Trees} {r s : Methods} → b ≡ c → r ≡ s → and_method verb ps b r ≡ and_method verb ps c s
method_same {verb = verb} {ps = ps} p q = λ i. and_method verb ps (p i) (q i)

methods_of_row-items : {n : _} (k : code.Row_of-Method n) → methods_of_row k ≡ methods_of (code.items-the_row-Method _ k)
methods_of_row-items code.end_of-Method = refl
methods_of_row-items (code.more_of-Method verb ps p shape body rest) =
    method_same (trees_of_row-items body ∙ ap trees_of (sym (code.items_shown-the_row-Expr-0 shape body))) (methods_of_row-items rest)

methods_row : (xs : Vec Method Global) → methods_of_row (code.TheBlock.hidden-the_row-Method-1 xs) ≡ methods_of xs.items
methods_row xs = methods_of_row-items (code.TheBlock.hidden-the_row-Method-1 xs) ∙ ap methods_of (code.items_hidden-the_row-Method-1 xs)

pub tree_of-Object : (p : Pattern) (ms : Arc (Vec Method Global) Global) → tree_of (code.Object p ms) ≡ object_tree p (methods_of ms.value.items)
tree_of-Object p ms = ap (object_tree p) (methods_row ms.value)
