-- Steps of a walk over trees.
use Rattle.std.proofs.Common.{◌≡◌, ℕ, ◌+◌, ◌<◌, ◌≤◌, List, [], ◌∷◌, ◌++◌, ap, sym, ◌∙◌, length, drop, get_or, add-one, suc, append_assoc, append-nil, Bool, false, ◌==◌, codes, refl}
use Rattle.std.proofs.Math.Seq.{drop-cons}
use Rattle.std.proofs.lemmas.List.{drop_all}
use Rattle.kernele.specs.Tree.{Name, Tree, call, list_tree, hide, if_tree, while_tree, for_tree, try_tree, object_tree, escape_tree, send, when_tree, when_catch_tree, Trees, none, and_then, Methods, no_methods, and_method}
use Rattle.kernele.specs.View.{tree_of, trees_of, methods_of}
use Rattle.kernele.specs.Spelling.{joined, in_braces, spelled_items}
use Rattle.kernele.proofs.Views.{tree_of-Call, tree_of-List, tree_of-Hide, tree_of-If, tree_of-While, tree_of-For, tree_of-Try, tree_of-Object, tree_of-Escape, tree_of-Send, tree_of-When, tree_of-WhenCatch}
use Rattle.kernele.specs.declared.tree.Expr as code
use Rattle.kernele.specs.declared.tree.Expr.{Expr}
use Rattle.kernele.specs.declared.tree.Method.{Method}
use Rattle.kernele.specs.declared.tree.Pattern.{Pattern}
use Rattle.std.specs.declared.sync.Arc.{Arc}
use Rattle.std.specs.declared.vec.Vec.{Vec}
use Rattle.std.specs.declared.alloc.Global.{Global}

-- the tree of a call, from the references to its parts
pub tree_is_call : {e x : Expr} {v : Vec Expr Global} {xs : List Expr} (r : Arc Expr Global) (verb : Name) (args : Arc (Vec Expr Global) Global) → e ≡ code.Call r verb args → x ≡ r.value → v ≡ args.value → xs ≡ v.items → tree_of e ≡ call (tree_of x) verb (trees_of xs)
tree_is_call {x = x} r verb args is receiver held items =
    ap tree_of is ∙ tree_of-Call r verb args
    ∙ ap (λ y. call (tree_of y) verb (trees_of args.value.items)) (sym receiver)
    ∙ ap (λ ys. call (tree_of x) verb (trees_of ys)) (sym (items ∙ ap (λ w. w.items) held))

-- the tree of a list, from the slice of its items
pub tree_is_list : {e : Expr} {v : Vec Expr Global} {xs : List Expr} (items : Arc (Vec Expr Global) Global) → e ≡ code.List items → v ≡ items.value → xs ≡ v.items → tree_of e ≡ list_tree (trees_of xs)
tree_is_list items is held slice =
    ap tree_of is ∙ tree_of-List items ∙ ap (λ ys. list_tree (trees_of ys)) (sym (slice ∙ ap (λ w. w.items) held))

-- the tree of a hidden block, from the slice of its items
pub tree_is_hide : {e : Expr} {v : Vec Expr Global} {xs : List Expr} (body : Arc (Vec Expr Global) Global) → e ≡ code.Hide body → v ≡ body.value → xs ≡ v.items → tree_of e ≡ hide (trees_of xs)
tree_is_hide body is held slice =
    ap tree_of is ∙ tree_of-Hide body ∙ ap (λ ys. hide (trees_of ys)) (sym (slice ∙ ap (λ w. w.items) held))

-- the tree of an `if`, from the references to its parts
pub tree_is_if : {e x : Expr} {v w : Vec Expr Global} {xs ys : List Expr} (condition : Arc Expr Global) (first second : Arc (Vec Expr Global) Global) → e ≡ code.If condition first second → x ≡ condition.value
    → v ≡ first.value → xs ≡ v.items → w ≡ second.value → ys ≡ w.items → tree_of e ≡ if_tree (tree_of x) (trees_of xs) (trees_of ys)
tree_is_if {x = x} {xs = xs} condition first second is test held slice held' slice' =
    ap tree_of is ∙ tree_of-If condition first second
    ∙ ap (λ y. if_tree (tree_of y) (trees_of first.value.items) (trees_of second.value.items)) (sym test)
    ∙ ap (λ ys. if_tree (tree_of x) (trees_of ys) (trees_of second.value.items)) (sym (slice ∙ ap (λ u. u.items) held))
    ∙ ap (λ ys. if_tree (tree_of x) (trees_of xs) (trees_of ys)) (sym (slice' ∙ ap (λ u. u.items) held'))

-- the tree of a `while`, from the references to its parts
pub tree_is_while : {e x : Expr} {v : Vec Expr Global} {xs : List Expr} (condition : Arc Expr Global) (body : Arc (Vec Expr Global) Global) → e ≡ code.While condition body → x ≡ condition.value → v ≡ body.value → xs ≡ v.items → tree_of e ≡ while_tree (tree_of x) (trees_of xs)
tree_is_while {x = x} condition body is test held slice =
    ap tree_of is ∙ tree_of-While condition body
    ∙ ap (λ y. while_tree (tree_of y) (trees_of body.value.items)) (sym test)
    ∙ ap (λ ys. while_tree (tree_of x) (trees_of ys)) (sym (slice ∙ ap (λ u. u.items) held))

-- the tree of a `for`, from the references to its parts
pub tree_is_for : {e x : Expr} {p : Pattern} {v : Vec Expr Global} {xs : List Expr} (pattern : Pattern) (list : Arc Expr Global) (body : Arc (Vec Expr Global) Global) → e ≡ code.For pattern list body → p ≡ pattern → x ≡ list.value → v ≡ body.value → xs ≡ v.items → tree_of e ≡ for_tree p (tree_of x) (trees_of xs)
tree_is_for {x = x} {p = p} pattern list body is bound from held slice =
    ap tree_of is ∙ tree_of-For pattern list body
    ∙ ap (λ q. for_tree q (tree_of list.value) (trees_of body.value.items)) (sym bound)
    ∙ ap (λ y. for_tree p (tree_of y) (trees_of body.value.items)) (sym from)
    ∙ ap (λ ys. for_tree p (tree_of x) (trees_of ys)) (sym (slice ∙ ap (λ u. u.items) held))

-- the tree of a `try`, from the references to its parts
pub tree_is_try : {e : Expr} {p : Pattern} {v w : Vec Expr Global} {xs ys : List Expr} (body : Arc (Vec Expr Global) Global) (pattern : Pattern) (handler : Arc (Vec Expr Global) Global) → e ≡ code.Try body pattern handler → v ≡ body.value → xs ≡ v.items
    → p ≡ pattern → w ≡ handler.value → ys ≡ w.items → tree_of e ≡ try_tree (trees_of xs) p (trees_of ys)
tree_is_try {p = p} {xs = xs} body pattern handler is held slice bound held' slice' =
    ap tree_of is ∙ tree_of-Try body pattern handler
    ∙ ap (λ ys. try_tree (trees_of ys) pattern (trees_of handler.value.items)) (sym (slice ∙ ap (λ u. u.items) held))
    ∙ ap (λ q. try_tree (trees_of xs) q (trees_of handler.value.items)) (sym bound)
    ∙ ap (λ ys. try_tree (trees_of xs) p (trees_of ys)) (sym (slice' ∙ ap (λ u. u.items) held'))

-- the tree of an object, from the slice of its methods
pub tree_is_object : {e : Expr} {p : Pattern} {v : Vec Method Global} {ms : List Method} (pattern : Pattern) (methods : Arc (Vec Method Global) Global) → e ≡ code.Object pattern methods → p ≡ pattern → v ≡ methods.value → ms ≡ v.items → tree_of e ≡ object_tree p (methods_of ms)
tree_is_object {p = p} pattern methods is bound held slice =
    ap tree_of is ∙ tree_of-Object pattern methods
    ∙ ap (λ q. object_tree q (methods_of methods.value.items)) (sym bound)
    ∙ ap (λ ns. object_tree p (methods_of ns)) (sym (slice ∙ ap (λ w. w.items) held))

-- the tree of an escape, from the slice of its items
pub tree_is_escape : {e : Expr} {x : Name} {v : Vec Expr Global} {xs : List Expr} (name : Name) (body : Arc (Vec Expr Global) Global) → e ≡ code.Escape name body → x ≡ name → v ≡ body.value → xs ≡ v.items → tree_of e ≡ escape_tree x (trees_of xs)
tree_is_escape {x = x} name body is named held slice =
    ap tree_of is ∙ tree_of-Escape name body
    ∙ ap (λ y. escape_tree y (trees_of body.value.items)) (sym named)
    ∙ ap (λ ys. escape_tree x (trees_of ys)) (sym (slice ∙ ap (λ w. w.items) held))

-- the tree of a send, from the references to its parts
pub tree_is_send : {e x : Expr} {v : Vec Expr Global} {xs : List Expr} (r : Arc Expr Global) (verb : Name) (args : Arc (Vec Expr Global) Global) → e ≡ code.Send r verb args → x ≡ r.value → v ≡ args.value → xs ≡ v.items → tree_of e ≡ send (tree_of x) verb (trees_of xs)
tree_is_send {x = x} r verb args is receiver held items =
    ap tree_of is ∙ tree_of-Send r verb args
    ∙ ap (λ y. send (tree_of y) verb (trees_of args.value.items)) (sym receiver)
    ∙ ap (λ ys. send (tree_of x) verb (trees_of ys)) (sym (items ∙ ap (λ w. w.items) held))

-- the tree of a `when` without a `catch`, from the references to its parts
pub tree_is_when : {e x : Expr} {v : Vec Expr Global} {xs : List Expr} (value : Arc Expr Global) (body : Arc (Vec Expr Global) Global) → e ≡ code.When value body → x ≡ value.value → v ≡ body.value → xs ≡ v.items → tree_of e ≡ when_tree (tree_of x) (trees_of xs)
tree_is_when {x = x} value body is from held slice =
    ap tree_of is ∙ tree_of-When value body
    ∙ ap (λ y. when_tree (tree_of y) (trees_of body.value.items)) (sym from)
    ∙ ap (λ ys. when_tree (tree_of x) (trees_of ys)) (sym (slice ∙ ap (λ u. u.items) held))

-- the tree of a `when` with a `catch`, from the references to its parts
pub tree_is_when_catch : {e x : Expr} {p : Pattern} {v w : Vec Expr Global} {xs ys : List Expr} (value : Arc Expr Global) (body : Arc (Vec Expr Global) Global) (pattern : Pattern) (handler : Arc (Vec Expr Global) Global)
    → e ≡ code.WhenCatch value body pattern handler → x ≡ value.value → v ≡ body.value → xs ≡ v.items → p ≡ pattern → w ≡ handler.value → ys ≡ w.items → tree_of e ≡ when_catch_tree (tree_of x) (trees_of xs) p (trees_of ys)
tree_is_when_catch {x = x} {p = p} {xs = xs} value body pattern handler is from held slice bound held' slice' =
    ap tree_of is ∙ tree_of-WhenCatch value body pattern handler
    ∙ ap (λ y. when_catch_tree (tree_of y) (trees_of body.value.items) pattern (trees_of handler.value.items)) (sym from)
    ∙ ap (λ ys. when_catch_tree (tree_of x) (trees_of ys) pattern (trees_of handler.value.items)) (sym (slice ∙ ap (λ u. u.items) held))
    ∙ ap (λ q. when_catch_tree (tree_of x) (trees_of xs) q (trees_of handler.value.items)) (sym bound)
    ∙ ap (λ ys. when_catch_tree (tree_of x) (trees_of xs) p (trees_of ys)) (sym (slice' ∙ ap (λ u. u.items) held'))

-- the block of a method, from the slice of its items
pub body_is : {v : Vec Expr Global} {xs : List Expr} (body : Arc (Vec Expr Global) Global) → v ≡ body.value → xs ≡ v.items → trees_of xs ≡ trees_of body.value.items
body_is body held slice = ap trees_of (slice ∙ ap (λ w. w.items) held)

-- what a method stands for, before others
abbrev pub before : Method → Methods → Methods
before m ms = and_method m.verb m.parameters.value.items (trees_of m.body.value.items) ms

-- the methods from an index on: the one there, and those behind it
pub methods_from : (ms : List Method) (i : ℕ) (m : Method) → i < length ms → m ≡ get_or ms i m → methods_of (drop i ms) ≡ before m (methods_of (drop (i + 1) ms))
methods_from ms i m h e = rw add-one (ap methods_of (drop-cons ms i m h) ∙ ap (λ y. before y (methods_of (drop (suc i) ms))) (sym e))

-- no methods are left
pub no_methods_from : (ms : List Method) (i : ℕ) → length ms ≤ i → methods_of (drop i ms) ≡ no_methods
no_methods_from ms i h = ap methods_of (drop_all i ms h)

-- the trees from an index on: the one there, and those behind it
pub trees_from : (xs : List Expr) (i : ℕ) (x : Expr) → i < length xs → x ≡ get_or xs i x → trees_of (drop i xs) ≡ and_then (tree_of x) (trees_of (drop (i + 1) xs))
trees_from xs i x h e = rw add-one (ap trees_of (drop-cons xs i x h) ∙ ap (λ y. and_then (tree_of y) (trees_of (drop (suc i) xs))) (sym e))

-- no trees are left
pub no_trees_from : (xs : List Expr) (i : ℕ) → length xs ≤ i → trees_of (drop i xs) ≡ none
no_trees_from xs i h = ap trees_of (drop_all i xs h)

-- a list from an index on: the item there, and those behind it
pub items_from : {B : Type 0} (xs : List B) (i : ℕ) (x : B) → i < length xs → x ≡ get_or xs i x → drop i xs ≡ x ∷ drop (i + 1) xs
items_from xs i x h e = rw add-one (drop-cons xs i x h ∙ ap (λ y. y ∷ drop (suc i) xs) (sym e))

-- a walk that appends what one item gives has less to append
pub items_more : {A B : Type 0} (all : List B → List A) (one : B → List A) → ((x : B) (xs : List B) → all (x ∷ xs) ≡ one x ++ all xs) → (was : List A) {now : List A} (xs : List B) (i : ℕ) (x : B) → i < length xs → x ≡ get_or xs i x → now ≡ was ++ one x → now ++ all (drop (i + 1) xs) ≡ was ++ all (drop i xs)
items_more all one law was xs i x h e appended =
    ap (λ s. s ++ all (drop (i + 1) xs)) appended
    ∙ append_assoc was (one x) (all (drop (i + 1) xs))
    ∙ ap (λ s. was ++ s) (sym (ap all (items_from xs i x h e) ∙ law x (drop (i + 1) xs)))

-- at its end it has appended what all give
pub items_end : {A B : Type 0} (all : List B → List A) → all [] ≡ [] → {now whole : List A} (xs : List B) (i : ℕ) → length xs ≤ i → now ++ all (drop i xs) ≡ whole → now ≡ whole
items_end all law {now = now} xs i h invariant =
    sym (ap (λ s. now ++ s) (ap all (drop_all i xs h) ∙ law) ∙ append-nil now) ∙ invariant

-- the same of trees
pub append_more : {A : Type 0} (all : Trees → List A) (one : Tree → List A) → ((t : Tree) (ts : Trees) → all (and_then t ts) ≡ one t ++ all ts) → (was : List A) {now : List A} (xs : List Expr) (i : ℕ) (x : Expr) → i < length xs → x ≡ get_or xs i x → now ≡ was ++ one (tree_of x) → now ++ all (trees_of (drop (i + 1) xs)) ≡ was ++ all (trees_of (drop i xs))
append_more all one law was xs i x h e appended = items_more (λ es. all (trees_of es)) (λ e. one (tree_of e)) (λ e es. law (tree_of e) (trees_of es)) was xs i x h e appended

pub append_end : {A : Type 0} (all : Trees → List A) → all none ≡ [] → {now whole : List A} (xs : List Expr) (i : ℕ) → length xs ≤ i → now ++ all (trees_of (drop i xs)) ≡ whole → now ≡ whole
append_end all law xs i h invariant = items_end (λ es. all (trees_of es)) law xs i h invariant

-- the same of methods
pub methods_more : {A : Type 0} (all : Methods → List A) (one : Method → List A) → ((m : Method) (ms : Methods) → all (before m ms) ≡ one m ++ all ms) → (was : List A) {now : List A} (xs : List Method) (i : ℕ) (x : Method) → i < length xs → x ≡ get_or xs i x → now ≡ was ++ one x → now ++ all (methods_of (drop (i + 1) xs)) ≡ was ++ all (methods_of (drop i xs))
methods_more all one law was xs i x h e appended = items_more (λ ms. all (methods_of ms)) one (λ m ms. law m (methods_of ms)) was xs i x h e appended

pub methods_end : {A : Type 0} (all : Methods → List A) → all no_methods ≡ [] → {now whole : List A} (xs : List Method) (i : ℕ) → length xs ≤ i → now ++ all (methods_of (drop i xs)) ≡ whole → now ≡ whole
methods_end all law xs i h invariant = items_end (λ ms. all (methods_of ms)) law xs i h invariant

-- the braces of a block that has items
pub braces : (es : List Expr) (empty : Bool) → empty ≡ (length es == 0) → empty ≡ false → in_braces (spelled_items (trees_of es)) ≡ codes "{ " ++ joined (codes "; ") (spelled_items (trees_of es)) ++ codes " }"
braces [] empty same e = absurd (cc)
braces (x ∷ xs) empty same e = refl
