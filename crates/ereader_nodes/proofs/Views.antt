-- What nodes stand for.
use Rattle.std.proofs.Common.{◌≡◌, List, ℕ, ap, ◌∙◌}
use Rattle.std.specs.declared.sync.Arc.{Arc}
use Rattle.std.specs.declared.vec.Vec.{Vec}
use Rattle.std.specs.declared.alloc.Global.{Global}
use Rattle.kernele.specs.Tree.{Name, call, list_tree, hide, if_tree, while_tree, for_tree, try_tree, object_tree, escape_tree, send, when_tree, when_catch_tree}
use Rattle.kernele.specs.View.{tree_of, trees_of, methods_of}
use Rattle.kernele.specs.declared.tree.Expr as code
use Rattle.kernele.specs.declared.tree.Pattern.{Pattern}
use Rattle.kernele.specs.declared.tree.Expr.{Expr}
use Rattle.kernele.proofs.Views.{tree_of-Call, tree_of-List, tree_of-Hide, tree_of-If, tree_of-While, tree_of-For, tree_of-Try, tree_of-Object, tree_of-Escape, tree_of-Send, tree_of-When, tree_of-WhenCatch}
use Rattle.kernele.specs.declared.tree.Method.{Method}
use Rattle.ereader_nodes.specs.Nodes.{method_tree}

pub tree_of-made : (r : Arc Expr Global) (verb : List ℕ) (args : Arc (Vec Expr Global) Global) (items : Vec Expr Global)
    → args.value ≡ items → tree_of (code.Call r verb args) ≡ call (tree_of r.value) verb (trees_of items.items)
tree_of-made r verb args items e = tree_of-Call r verb args ∙ ap (λ (xs : Vec Expr Global). call (tree_of r.value) verb (trees_of xs.items)) e

pub tree_of-listed : (args : Arc (Vec Expr Global) Global) (items : Vec Expr Global) → args.value ≡ items → tree_of (code.List args) ≡ list_tree (trees_of items.items)
tree_of-listed args items f = tree_of-List args ∙ ap (λ (xs : Vec Expr Global). list_tree (trees_of xs.items)) f

-- the items of a block, by way of the vector that they were
of_block : (block : Arc (Vec Expr Global) Global) (items : Vec Expr Global) → block.value ≡ items → trees_of block.value.items ≡ trees_of items.items
of_block block items e = ap (λ (xs : Vec Expr Global). trees_of xs.items) e

pub tree_of-hidden : (block : Arc (Vec Expr Global) Global) (body : Vec Expr Global) → block.value ≡ body → tree_of (code.Hide block) ≡ hide (trees_of body.items)
tree_of-hidden block body e = tree_of-Hide block ∙ ap hide (of_block block body e)

pub tree_of-chosen : (c : Arc Expr Global) (p q : Arc (Vec Expr Global) Global) (first second : Vec Expr Global)
    → p.value ≡ first → q.value ≡ second → tree_of (code.If c p q) ≡ if_tree (tree_of c.value) (trees_of first.items) (trees_of second.items)
tree_of-chosen c p q first second f g =
    tree_of-If c p q ∙ ap (λ ts. if_tree (tree_of c.value) ts (trees_of q.value.items)) (of_block p first f)
    ∙ ap (if_tree (tree_of c.value) (trees_of first.items)) (of_block q second g)

pub tree_of-while : (c : Arc Expr Global) (p : Arc (Vec Expr Global) Global) (body : Vec Expr Global)
    → p.value ≡ body → tree_of (code.While c p) ≡ while_tree (tree_of c.value) (trees_of body.items)
tree_of-while c p body f = tree_of-While c p ∙ ap (while_tree (tree_of c.value)) (of_block p body f)

pub tree_of-for : (pattern : Pattern) (c : Arc Expr Global) (p : Arc (Vec Expr Global) Global) (body : Vec Expr Global)
    → p.value ≡ body → tree_of (code.For pattern c p) ≡ for_tree pattern (tree_of c.value) (trees_of body.items)
tree_of-for pattern c p body f = tree_of-For pattern c p ∙ ap (for_tree pattern (tree_of c.value)) (of_block p body f)

pub tree_of-try : (p : Arc (Vec Expr Global) Global) (pattern : Pattern) (q : Arc (Vec Expr Global) Global) (body handler : Vec Expr Global)
    → p.value ≡ body → q.value ≡ handler → tree_of (code.Try p pattern q) ≡ try_tree (trees_of body.items) pattern (trees_of handler.items)
tree_of-try p pattern q body handler e f =
    tree_of-Try p pattern q ∙ ap (λ ts. try_tree ts pattern (trees_of q.value.items)) (of_block p body e) ∙ ap (try_tree (trees_of body.items) pattern) (of_block q handler f)

pub tree_of-escaped : (x : Name) (block : Arc (Vec Expr Global) Global) (body : Vec Expr Global) → block.value ≡ body → tree_of (code.Escape x block) ≡ escape_tree x (trees_of body.items)
tree_of-escaped x block body e = tree_of-Escape x block ∙ ap (escape_tree x) (of_block block body e)

pub tree_of-sent : (r : Arc Expr Global) (verb : List ℕ) (args : Arc (Vec Expr Global) Global) (items : Vec Expr Global)
    → args.value ≡ items → tree_of (code.Send r verb args) ≡ send (tree_of r.value) verb (trees_of items.items)
tree_of-sent r verb args items e = tree_of-Send r verb args ∙ ap (send (tree_of r.value) verb) (of_block args items e)

pub tree_of-when : (v : Arc Expr Global) (p : Arc (Vec Expr Global) Global) (body : Vec Expr Global)
    → p.value ≡ body → tree_of (code.When v p) ≡ when_tree (tree_of v.value) (trees_of body.items)
tree_of-when v p body f = tree_of-When v p ∙ ap (when_tree (tree_of v.value)) (of_block p body f)

pub tree_of-when_catch : (v : Arc Expr Global) (p : Arc (Vec Expr Global) Global) (pattern : Pattern) (q : Arc (Vec Expr Global) Global) (body handler : Vec Expr Global)
    → p.value ≡ body → q.value ≡ handler → tree_of (code.WhenCatch v p pattern q) ≡ when_catch_tree (tree_of v.value) (trees_of body.items) pattern (trees_of handler.items)
tree_of-when_catch v p pattern q body handler e f =
    tree_of-WhenCatch v p pattern q ∙ ap (λ ts. when_catch_tree (tree_of v.value) ts pattern (trees_of q.value.items)) (of_block p body e)
    ∙ ap (when_catch_tree (tree_of v.value) (trees_of body.items) pattern) (of_block q handler f)

pub tree_of-object : (p : Pattern) (block : Arc (Vec Method Global) Global) (methods : Vec Method Global) → block.value ≡ methods → tree_of (code.Object p block) ≡ object_tree p (methods_of methods.items)
tree_of-object p block methods e = tree_of-Object p block ∙ ap (λ (xs : Vec Method Global). object_tree p (methods_of xs.items)) e

pub method_of-made : (verb : Name) (ps : Arc (Vec Pattern Global) Global) (block : Arc (Vec Expr Global) Global) (parameters : Vec Pattern Global) (body : Vec Expr Global)
    → ps.value ≡ parameters → block.value ≡ body → method_tree verb ps.value.items (trees_of block.value.items) ≡ method_tree verb parameters.items (trees_of body.items)
method_of-made verb ps block parameters body e f = ap (λ (xs : Vec Pattern Global). method_tree verb xs.items (trees_of block.value.items)) e ∙ ap (method_tree verb parameters.items) (of_block block body f)
