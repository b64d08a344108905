-- What a construct does to names, part after part: the parts from the references to them, what the parts give together, and how deep they are.
use Rattle.std.proofs.Common.{◌≡◌, ◌⊎◌, inl, inr, ℕ, zero, suc, ◌+◌, ◌<◌, ◌≤◌, max, List, [], ◌∷◌, ◌++◌, Ok, Err, length, get_or, drop, ap, sym, refl, ◌∙◌, arith, append-nil, append_assoc}
use Rattle.kernele.specs.Tree.{Tree, null_tree, bool_tree, int_tree, text_tree, noun, define, variable, assign, call, list_tree, same_tree, define_list, hide, if_tree, while_tree, for_tree, try_tree, primitive, object_tree, escape_tree, send, when_tree, when_catch_tree, new_promise}
use Rattle.kernele.specs.View.{tree_of, trees_of, methods_of}
use Rattle.kernele.proofs.Walks.{tree_is_call, tree_is_hide, tree_is_if, tree_is_while, tree_is_for, tree_is_try, tree_is_send, tree_is_when, tree_is_when_catch, trees_from, methods_from, no_trees_from, no_methods_from}
use Rattle.kernele.specs.declared.tree.Expr as code
use Rattle.kernele.specs.declared.tree.Expr.{Expr}
use Rattle.kernele.specs.declared.tree.Method.{Method}
use Rattle.kernele.specs.declared.tree.Pattern.{Pattern}
use Rattle.std.specs.declared.sync.Arc.{Arc}
use Rattle.std.specs.declared.vec.Vec.{Vec}
use Rattle.std.specs.declared.alloc.Global.{Global}
use Rattle.kernele_scopes.specs.Scope.{Scopes, Checked, in_turn, checked, nodes, depth, depth_in, depth_of, own_names}
use Rattle.kernele_scopes.specs.Free.{free}
use Rattle.kernele_scopes.specs.Parts.{no_names_bound, pattern_bound, NamePart, nothing, evaluate_all, block, first, second, third, part_checked, part_names, part_free, part_nodes, part_depth}
use Rattle.kernele_scopes.specs.declared.naming.TopName.{TopName}

-- the first part of what begins with a block that begins with no names
pub first_is_block : {e : Expr} {v : Vec Expr Global} {xs : List Expr} (body : Arc (Vec Expr Global) Global) → (e ≡ code.Hide body) ⊎ ((p : Pattern) × (handler : Arc (Vec Expr Global) Global) × (e ≡ code.Try body p handler))
    → v ≡ body.value → xs ≡ v.items → block no_names_bound (trees_of xs) ≡ first (tree_of e)
first_is_block body (inl is) held slice = sym (ap first (tree_is_hide body is held slice))
first_is_block body (inr is) held slice = sym (ap first (tree_is_try body is.0 is.1 is.2 held slice refl refl refl))

-- the second part of what has such a block behind an expression
pub second_is_block : {e : Expr} {v : Vec Expr Global} {xs : List Expr} (body : Arc (Vec Expr Global) Global)
    → ((c : Arc Expr Global) × (other : Arc (Vec Expr Global) Global) × (e ≡ code.If c body other))
    ⊎ (((c : Arc Expr Global) × (e ≡ code.While c body)) ⊎ (((c : Arc Expr Global) × (e ≡ code.When c body)) ⊎ ((c : Arc Expr Global) × (p : Pattern) × (handler : Arc (Vec Expr Global) Global) × (e ≡ code.WhenCatch c body p handler))))
    → v ≡ body.value → xs ≡ v.items → block no_names_bound (trees_of xs) ≡ second (tree_of e)
second_is_block body (inl is) held slice = sym (ap second (tree_is_if is.0 body is.1 is.2 refl held slice refl refl))
second_is_block body (inr (inl is)) held slice = sym (ap second (tree_is_while is.0 body is.1 refl held slice))
second_is_block body (inr (inr (inl is))) held slice = sym (ap second (tree_is_when is.0 body is.1 refl held slice))
second_is_block body (inr (inr (inr is))) held slice = sym (ap second (tree_is_when_catch is.0 body is.1 is.2 is.3 refl held slice refl refl refl))

-- the second part of what has a block that begins with a pattern
pub second_is_bound_block : {e : Expr} {v : Vec Expr Global} {xs : List Expr} (p : Pattern) (body : Arc (Vec Expr Global) Global)
    → ((list : Arc Expr Global) × (e ≡ code.For p list body)) ⊎ ((first : Arc (Vec Expr Global) Global) × (e ≡ code.Try first p body))
    → v ≡ body.value → xs ≡ v.items → block (pattern_bound p) (trees_of xs) ≡ second (tree_of e)
second_is_bound_block p body (inl is) held slice = sym (ap second (tree_is_for p is.0 body is.1 refl refl held slice))
second_is_bound_block p body (inr is) held slice = sym (ap second (tree_is_try is.0 p body is.1 refl refl refl held slice))

-- the second part of what has arguments
pub second_is_arguments : {e : Expr} {v : Vec Expr Global} {xs : List Expr} (args : Arc (Vec Expr Global) Global)
    → ((r : Arc Expr Global) × (verb : List ℕ) × (e ≡ code.Call r verb args)) ⊎ ((r : Arc Expr Global) × (verb : List ℕ) × (e ≡ code.Send r verb args))
    → v ≡ args.value → xs ≡ v.items → evaluate_all (trees_of xs) ≡ second (tree_of e)
second_is_arguments args (inl is) held slice = sym (ap second (tree_is_call is.0 is.1 args is.2 refl held slice))
second_is_arguments args (inr is) held slice = sym (ap second (tree_is_send is.0 is.1 args is.2 refl held slice))

-- what has nothing to do leaves what was checked before it
ended : (r : Checked) → r ≡ in_turn r (part_checked nothing)
ended (Ok s) = refl
ended (Err f) = refl

-- a tree is checked part after part
pub checked_in_parts : (t : Tree) (s : Scopes) → checked t s ≡ in_turn (in_turn (part_checked (first t) s) (part_checked (second t))) (part_checked (third t))
checked_in_parts null_tree s = refl
checked_in_parts (bool_tree b) s = refl
checked_in_parts (int_tree z) s = refl
checked_in_parts (text_tree x) s = refl
checked_in_parts (noun x) s = ended _ ∙ ended _
checked_in_parts (define p e) s = ended _
checked_in_parts (variable x e) s = ended _
checked_in_parts (assign x e) s = refl
checked_in_parts (call r verb args) s = ended _
checked_in_parts (list_tree items) s = ended _ ∙ ended _
checked_in_parts (same_tree l r) s = ended _
checked_in_parts (define_list ps e) s = ended _
checked_in_parts (hide body) s = ended _ ∙ ended _
checked_in_parts (if_tree c one other) s = refl
checked_in_parts (while_tree c body) s = ended _
checked_in_parts (for_tree p e body) s = ended _
checked_in_parts (try_tree body p handler) s = ended _
checked_in_parts (primitive q e) s = ended _ ∙ ended _
checked_in_parts (object_tree p ms) s = ended _
checked_in_parts (escape_tree x body) s = ended _ ∙ ended _
checked_in_parts (send r verb args) s = ended _
checked_in_parts (when_tree e body) s = ended _
checked_in_parts (when_catch_tree e body p handler) s = refl
checked_in_parts new_promise s = refl

-- the same from its first part on
pub first_left : (t : Tree) (s : Scopes) {one : NamePart} → one ≡ first t → checked t s ≡ in_turn (in_turn (part_checked one s) (part_checked (second t))) (part_checked (third t))
first_left t s is = checked_in_parts t s ∙ ap (λ p. in_turn (in_turn (part_checked p s) (part_checked (second t))) (part_checked (third t))) (sym is)

-- from its second part on
pub second_left : (t : Tree) (s : Scopes) {one two : NamePart} {after : Scopes} → one ≡ first t → part_checked one s ≡ Ok after → two ≡ second t → checked t s ≡ in_turn (part_checked two after) (part_checked (third t))
second_left t s is done then = first_left t s is ∙ λ i. in_turn (in_turn (done i) (part_checked (sym then i))) (part_checked (third t))

-- and from its third part on
pub third_left : (t : Tree) (s : Scopes) {one two three : NamePart} {after last : Scopes} → one ≡ first t → part_checked one s ≡ Ok after → two ≡ second t → part_checked two after ≡ Ok last → three ≡ third t → checked t s ≡ part_checked three last
third_left t s is done then next end = second_left t s is done then ∙ λ i. in_turn (next i) (part_checked (sym end i))

-- what a tree defines, its parts define
pub names_in_parts : (t : Tree) → own_names t ≡ (part_names (first t) ++ part_names (second t)) ++ part_names (third t)
names_in_parts null_tree = refl
names_in_parts (bool_tree b) = refl
names_in_parts (int_tree z) = refl
names_in_parts (text_tree s) = refl
names_in_parts (noun x) = refl
names_in_parts (define p e) = simp append-nil
names_in_parts (variable x e) = simp append-nil
names_in_parts (assign x e) = simp append-nil
names_in_parts (call r verb args) = simp append-nil
names_in_parts (list_tree items) = simp append-nil
names_in_parts (same_tree l r) = simp append-nil
names_in_parts (define_list ps e) = simp append-nil
names_in_parts (hide body) = refl
names_in_parts (if_tree c one other) = simp append-nil
names_in_parts (while_tree c body) = simp append-nil
names_in_parts (for_tree p e body) = simp append-nil
names_in_parts (try_tree body p handler) = refl
names_in_parts (primitive q e) = simp append-nil
names_in_parts (object_tree p ms) = simp append-nil
names_in_parts (escape_tree x body) = refl
names_in_parts (send r verb args) = simp append-nil
names_in_parts (when_tree e body) = simp append-nil
names_in_parts (when_catch_tree e body p handler) = simp append-nil
names_in_parts new_promise = refl

-- what the third part of a tree adds to the names of the others, the tree adds
pub names_left : (t : Tree) (was : List TopName) {one two three : NamePart} {now all : List TopName} → one ≡ first t → now ≡ was ++ part_names one → two ≡ second t → all ≡ now ++ part_names two → three ≡ third t → all ++ part_names three ≡ was ++ own_names t
names_left t was {two = two} {three = three} is more next last end =
    ap (λ names. names ++ part_names three) (last ∙ ap (λ names. names ++ part_names two) more)
    ∙ (λ i. ((was ++ part_names (is i)) ++ part_names (next i)) ++ part_names (end i))
    ∙ append_assoc (was ++ part_names (first t)) (part_names (second t)) (part_names (third t))
    ∙ append_assoc was (part_names (first t)) (part_names (second t) ++ part_names (third t))
    ∙ ap (λ names. was ++ names) (sym (append_assoc (part_names (first t)) (part_names (second t)) (part_names (third t))) ∙ sym (names_in_parts t))

-- what is free in a tree is free in its parts, each behind what those before it define
pub free_in_parts : (t : Tree) (bs : List TopName) → free t bs ≡ (part_free (first t) bs ++ part_free (second t) (bs ++ part_names (first t))) ++ part_free (third t) ((bs ++ part_names (first t)) ++ part_names (second t))
free_in_parts null_tree bs = refl
free_in_parts (bool_tree b) bs = refl
free_in_parts (int_tree z) bs = refl
free_in_parts (text_tree s) bs = refl
free_in_parts (noun x) bs = simp append-nil
free_in_parts (define p e) bs = simp append-nil
free_in_parts (variable x e) bs = simp append-nil
free_in_parts (assign x e) bs = simp append-nil
free_in_parts (call r verb args) bs = simp append-nil
free_in_parts (list_tree items) bs = simp append-nil
free_in_parts (same_tree l r) bs = simp append-nil
free_in_parts (define_list ps e) bs = simp append-nil
free_in_parts (hide body) bs = simp append-nil
free_in_parts (if_tree c one other) bs = simp append-nil
free_in_parts (while_tree c body) bs = simp append-nil
free_in_parts (for_tree p e body) bs = simp append-nil
free_in_parts (try_tree body p handler) bs = simp append-nil
free_in_parts (primitive q e) bs = simp append-nil
free_in_parts (object_tree p ms) bs = simp append-nil
free_in_parts (escape_tree x body) bs = simp append-nil
free_in_parts (send r verb args) bs = simp append-nil
free_in_parts (when_tree e body) bs = simp append-nil
free_in_parts (when_catch_tree e body p handler) bs = simp append-nil
free_in_parts new_promise bs = refl

-- a tree is a node, and what its parts have
pub nodes_in_parts : (t : Tree) → nodes t ≡ 1 + (part_nodes (first t) + (part_nodes (second t) + part_nodes (third t)))
nodes_in_parts null_tree = omega arith
nodes_in_parts (bool_tree b) = omega arith
nodes_in_parts (int_tree z) = omega arith
nodes_in_parts (text_tree s) = omega arith
nodes_in_parts (noun x) = omega arith
nodes_in_parts (define p e) = omega arith
nodes_in_parts (variable x e) = omega arith
nodes_in_parts (assign x e) = omega arith
nodes_in_parts (call r verb args) = omega arith
nodes_in_parts (list_tree items) = omega arith
nodes_in_parts (same_tree l r) = omega arith
nodes_in_parts (define_list ps e) = omega arith
nodes_in_parts (hide body) = omega arith
nodes_in_parts (if_tree c one other) = omega arith
nodes_in_parts (while_tree c body) = omega arith
nodes_in_parts (for_tree p e body) = omega arith
nodes_in_parts (try_tree body p handler) = omega arith
nodes_in_parts (primitive q e) = omega arith
nodes_in_parts (object_tree p ms) = omega arith
nodes_in_parts (escape_tree x body) = omega arith
nodes_in_parts (send r verb args) = omega arith
nodes_in_parts (when_tree e body) = omega arith
nodes_in_parts (when_catch_tree e body p handler) = omega arith
nodes_in_parts new_promise = omega arith

-- its parts stand below it
pub depth_in_parts : (t : Tree) → depth t ≡ 1 + max (part_depth (first t)) (max (part_depth (second t)) (part_depth (third t)))
depth_in_parts null_tree = omega arith
depth_in_parts (bool_tree b) = omega arith
depth_in_parts (int_tree z) = omega arith
depth_in_parts (text_tree s) = omega arith
depth_in_parts (noun x) = omega arith
depth_in_parts (define p e) = omega arith
depth_in_parts (variable x e) = omega arith
depth_in_parts (assign x e) = omega arith
depth_in_parts (call r verb args) = omega arith
depth_in_parts (list_tree items) = omega arith
depth_in_parts (same_tree l r) = omega arith
depth_in_parts (define_list ps e) = omega arith
depth_in_parts (hide body) = omega arith
depth_in_parts (if_tree c one other) = omega arith
depth_in_parts (while_tree c body) = omega arith
depth_in_parts (for_tree p e body) = omega arith
depth_in_parts (try_tree body p handler) = omega arith
depth_in_parts (primitive q e) = omega arith
depth_in_parts (object_tree p ms) = omega arith
depth_in_parts (escape_tree x body) = omega arith
depth_in_parts (send r verb args) = omega arith
depth_in_parts (when_tree e body) = omega arith
depth_in_parts (when_catch_tree e body p handler) = omega arith
depth_in_parts new_promise = omega arith

pub first_is_lower : (t : Tree) → part_depth (first t) < depth t
first_is_lower t = let is = depth_in_parts t in omega arith

pub second_is_lower : (t : Tree) → part_depth (second t) < depth t
second_is_lower t = let is = depth_in_parts t in omega arith

pub third_is_lower : (t : Tree) → part_depth (third t) < depth t
third_is_lower t = let is = depth_in_parts t in omega arith

-- trees from an index on are no deeper than all
drop_depth : (xs : List Expr) (i : ℕ) → depth_in (trees_of (drop i xs)) ≤ depth_in (trees_of xs)
drop_depth [] i = let none_left = ap depth_in (no_trees_from [] i (omega arith)) in omega arith
drop_depth (y ∷ ys) zero = omega arith
drop_depth (y ∷ ys) (suc i) = let rest = drop_depth ys i in omega arith

-- a tree is no deeper than the trees among which it stands
pub item_depth : (xs : List Expr) (i : ℕ) (x : Expr) → i < length xs → x ≡ get_or xs i x → depth (tree_of x) ≤ depth_in (trees_of xs)
item_depth xs i x h e = let from = ap depth_in (trees_from xs i x h e) in let all = drop_depth xs i in omega arith

-- the same of methods
drop_methods_depth : (ms : List Method) (i : ℕ) → depth_of (methods_of (drop i ms)) ≤ depth_of (methods_of ms)
drop_methods_depth [] i = let none_left = ap depth_of (no_methods_from [] i (omega arith)) in omega arith
drop_methods_depth (n ∷ ns) zero = omega arith
drop_methods_depth (n ∷ ns) (suc i) = let rest = drop_methods_depth ns i in omega arith

pub body_depth : (ms : List Method) (i : ℕ) (m : Method) → i < length ms → m ≡ get_or ms i m → depth_in (trees_of m.body.value.items) ≤ depth_of (methods_of ms)
body_depth ms i m h e = let from = ap depth_of (methods_from ms i m h e) in let all = drop_methods_depth ms i in omega arith
