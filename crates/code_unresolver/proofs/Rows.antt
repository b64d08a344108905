-- Rows of trees, of which one more stands at the end, and rows of code.
use Rattle.std.proofs.Common.{◌≡◌, ℕ, ◌<◌, ◌≤◌, ◌+◌, zero, suc, List, [], ◌∷◌, ◌++◌, length, get_or, drop, refl, sym, ap, ◌∙◌, arith}
use Rattle.std.proofs.lemmas.List.{drop_all}
use Rattle.code.specs.View.{tree_of_code, trees_of_codes, methods_of_codes}
use Rattle.code.specs.declared.code.Code.{Code}
use Rattle.code.specs.declared.code.MethodCode.{MethodCode}
use Rattle.kernele_scopes.specs.Scope.{nodes, nodes_in, nodes_of}
use Rattle.kernele.specs.Tree.{Trees, none, and_then, Methods, no_methods, and_method}
use Rattle.kernele.specs.View.{tree_of, trees_of, methods_of}
use Rattle.kernele.specs.declared.tree.Expr.{Expr}
use Rattle.kernele.specs.declared.tree.Method.{Method}

-- trees before others
abbrev pub before : List Expr → Trees → Trees
before [] rest = rest
before (e ∷ es) rest = and_then (tree_of e) (before es rest)

pub before_none : (es : List Expr) → before es none ≡ trees_of es
before_none [] = refl
before_none (e ∷ es) = ap (and_then (tree_of e)) (before_none es)

pub before_more : (es : List Expr) (e : Expr) (rest : Trees) → before (es ++ e ∷ []) rest ≡ before es (and_then (tree_of e) rest)
before_more [] e rest = refl
before_more (x ∷ es) e rest = ap (and_then (tree_of x)) (before_more es e rest)

-- the same of methods
abbrev pub methods_before : List Method → Methods → Methods
methods_before [] rest = rest
methods_before (m ∷ ms) rest = and_method m.verb m.parameters.value.items (trees_of m.body.value.items) (methods_before ms rest)

pub methods_before_none : (ms : List Method) → methods_before ms no_methods ≡ methods_of ms
methods_before_none [] = refl
methods_before_none (m ∷ ms) = ap (and_method m.verb m.parameters.value.items (trees_of m.body.value.items)) (methods_before_none ms)

pub methods_before_more : (ms : List Method) (m : Method) (rest : Methods)
    → methods_before (ms ++ m ∷ []) rest ≡ methods_before ms (and_method m.verb m.parameters.value.items (trees_of m.body.value.items) rest)
methods_before_more [] m rest = refl
methods_before_more (n ∷ ms) m rest = ap (and_method n.verb n.parameters.value.items (trees_of n.body.value.items)) (methods_before_more ms m rest)

-- a part has no more nodes than all parts have
pub code_nodes : (xs : List Code) (i : ℕ) (x : Code) → i < length xs → x ≡ get_or xs i x → nodes (tree_of_code x) ≤ nodes_in (trees_of_codes xs)
code_nodes [] i x h e = absurd (omega (arith, h))
code_nodes (y ∷ ys) zero x h e = omega (arith, ap (λ z. nodes (tree_of_code z)) e)
code_nodes (y ∷ ys) (suc i) x h e = omega (arith, code_nodes ys i x (omega (arith, h)) e)

pub method_nodes : (ms : List MethodCode) (i : ℕ) (m : MethodCode) → i < length ms → m ≡ get_or ms i m → nodes_in (trees_of_codes m.body.value.items) ≤ nodes_of (methods_of_codes ms)
method_nodes [] i m h e = absurd (omega (arith, h))
method_nodes (n ∷ ns) zero m h e = omega (arith, ap (λ (k : MethodCode). nodes_in (trees_of_codes k.body.value.items)) e)
method_nodes (n ∷ ns) (suc i) m h e = omega (arith, method_nodes ns i m (omega (arith, h)) e)

-- the item at an index, and those behind it
left_at : {A : Type 0} (xs : List A) (i : ℕ) (x : A) → i < length xs → x ≡ get_or xs i x → drop i xs ≡ x ∷ drop (i + 1) xs
left_at [] i x h e = absurd (omega (arith, h))
left_at (y ∷ ys) zero x h e = ap (λ z. z ∷ ys) (sym e)
left_at (y ∷ ys) (suc i) x h e = let next : suc (i + 1) ≡ suc i + 1 = omega arith in left_at ys i x (omega (arith, h)) e ∙ ap (λ n. x ∷ drop n (y ∷ ys)) next

-- ---- one more

pub row_more : (done : List Expr) (now : List Expr) (e : Expr) (xs : List Code) (i : ℕ) (x : Code) → now ≡ done ++ e ∷ [] → i < length xs → x ≡ get_or xs i x → tree_of e ≡ tree_of_code x
    → before done (trees_of_codes (drop i xs)) ≡ trees_of_codes xs → before now (trees_of_codes (drop (i + 1) xs)) ≡ trees_of_codes xs
row_more done now e xs i x pushed within at is h =
    ap (λ es. before es (trees_of_codes (drop (i + 1) xs))) pushed ∙ before_more done e (trees_of_codes (drop (i + 1) xs))
    ∙ ap (λ t. before done (and_then t (trees_of_codes (drop (i + 1) xs)))) is ∙ ap (λ ys. before done (trees_of_codes ys)) (sym (left_at xs i x within at)) ∙ h

pub row_all : (done : List Expr) (xs : List Code) (i : ℕ) → length xs ≤ i → before done (trees_of_codes (drop i xs)) ≡ trees_of_codes xs → trees_of done ≡ trees_of_codes xs
row_all done xs i all h = sym (before_none done) ∙ ap (λ ys. before done (trees_of_codes ys)) (sym (drop_all i xs all)) ∙ h

pub methods_more : (done : List Method) (now : List Method) (m : Method) (xs : List MethodCode) (i : ℕ) (x : MethodCode) → now ≡ done ++ m ∷ [] → i < length xs → x ≡ get_or xs i x
    → m.verb ≡ x.verb → m.parameters.value.items ≡ x.parameters.value.items → trees_of m.body.value.items ≡ trees_of_codes x.body.value.items
    → methods_before done (methods_of_codes (drop i xs)) ≡ methods_of_codes xs → methods_before now (methods_of_codes (drop (i + 1) xs)) ≡ methods_of_codes xs
methods_more done now m xs i x pushed within at verb parameters body h =
    ap (λ ms. methods_before ms (methods_of_codes (drop (i + 1) xs))) pushed ∙ methods_before_more done m (methods_of_codes (drop (i + 1) xs))
    ∙ (λ j. methods_before done (and_method (verb j) (parameters j) (body j) (methods_of_codes (drop (i + 1) xs))))
    ∙ ap (λ ys. methods_before done (methods_of_codes ys)) (sym (left_at xs i x within at)) ∙ h

pub methods_all : (done : List Method) (xs : List MethodCode) (i : ℕ) → length xs ≤ i → methods_before done (methods_of_codes (drop i xs)) ≡ methods_of_codes xs → methods_of done ≡ methods_of_codes xs
methods_all done xs i all h = sym (methods_before_none done) ∙ ap (λ ys. methods_before done (methods_of_codes ys)) (sym (drop_all i xs all)) ∙ h
