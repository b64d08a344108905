-- A part has no more nodes than all parts have.
use Rattle.std.proofs.Common.{◌≡◌, ℕ, ◌<◌, ◌≤◌, zero, suc, arith, List, [], ◌∷◌, length, get_or, ap}
use Rattle.kernele.specs.View.{tree_of, trees_of, methods_of}
use Rattle.kernele_scopes.specs.Scope.{nodes, nodes_in, nodes_of}
use Rattle.kernele.specs.declared.tree.Expr.{Expr}
use Rattle.kernele.specs.declared.tree.Method.{Method}

pub part_nodes : (xs : List Expr) (i : ℕ) (x : Expr) → i < length xs → x ≡ get_or xs i x → nodes (tree_of x) ≤ nodes_in (trees_of xs)
part_nodes [] i x h e = absurd (omega (arith, h))
part_nodes (y ∷ ys) zero x h e = omega (arith, ap (λ z. nodes (tree_of z)) e)
part_nodes (y ∷ ys) (suc i) x h e = omega (arith, part_nodes ys i x (omega (arith, h)) e)

pub method_nodes : (ms : List Method) (i : ℕ) (m : Method) → i < length ms → m ≡ get_or ms i m → nodes_in (trees_of m.body.value.items) ≤ nodes_of (methods_of ms)
method_nodes [] i m h e = absurd (omega (arith, h))
method_nodes (n ∷ ns) zero m h e = omega (arith, ap (λ (k : Method). nodes_in (trees_of k.body.value.items)) e)
method_nodes (n ∷ ns) (suc i) m h e = omega (arith, method_nodes ns i m (omega (arith, h)) e)
