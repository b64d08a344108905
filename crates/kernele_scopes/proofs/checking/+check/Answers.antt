use Rattle.std.proofs.Common.{ap, ◌∙◌, ◌+◌, drop, take, map, arith}
use Rattle.std.proofs.lemmas.Result.{err_from_is_err_and}
use Rattle.kernele.specs.View.{tree_of, trees_of, methods_of}
use Rattle.kernele.proofs.Walks.{trees_from, no_trees_from, no_methods_from, body_is}
use Rattle.kernele_scopes.specs.Scope.{in_turn, checked_all, checked_methods, depth_in}
use Rattle.kernele_scopes.specs.Check.{scopes_in, signature_of}
use Rattle.kernele_scopes.specs.Parts.{part_in, part_depth, binding_in, checked_behind}
use Rattle.kernele_scopes.proofs.Constructs.{first_left, second_left, third_left, first_is_lower, second_is_lower, third_is_lower, item_depth, body_depth}
use Rattle.kernele_scopes.proofs.Methods.{methods_next, block_is_left, twice_refused}
use Rattle.kernele_scopes.proofs.Refusals.{refuses_in_turn, refuses_in_block, fails, behind_gives}
use Rattle.kernele_scopes.proofs.checking.+check.Goals as goal

pub check_all-check_expr-requires : goal.check_all-check_expr-requires
check_all-check_expr-requires t c =
    let lower = item_depth c.args.trees.now c.loop-tree.tree-index c.tree-item.result c.loop-tree-test.true c.tree-item.is in
    (omega arith, tt)

pub check_all-returns-in_err-check_expr : goal.check_all-returns-in_err-check_expr
check_all-returns-in_err-check_expr t c =
    let walk = c.loop-tree.invariant ∙ ap (λ ts. checked_all ts (scopes_in c.loop-tree.scopes)) (trees_from c.args.trees.now c.loop-tree.tree-index c.tree-item.result c.loop-tree-test.true c.tree-item.is) in
    fails _ _ _ (err_from_is_err_and _ c.from_residual.ensures.1) walk c.in_err-check_expr.ensures

pub check_all-loop-tree-preserved : goal.check_all-loop-tree-preserved
check_all-loop-tree-preserved t c =
    c.loop-tree.invariant
    ∙ ap (λ ts. checked_all ts (scopes_in c.loop-tree.scopes)) (trees_from c.args.trees.now c.loop-tree.tree-index c.tree-item.result c.loop-tree-test.true c.tree-item.is)
    ∙ ap (λ r. in_turn r (checked_all (trees_of (drop (c.loop-tree.tree-index + 1) c.args.trees.now)))) c.in_ok-check_expr.ensures

pub check_all-returns : goal.check_all-returns
check_all-returns t c = c.loop-tree.invariant ∙ ap (λ ts. checked_all ts (scopes_in c.loop-tree.scopes)) (no_trees_from c.args.trees.now c.loop-tree.tree-index c.loop-tree-test.false)

pub check_expr-returns-in_err-check_part : goal.check_expr-returns-in_err-check_part
check_expr-returns-in_err-check_part t c =
    fails _ _ _ (err_from_is_err_and _ c.from_residual.ensures.1) (first_left (tree_of c.args.e.now) (scopes_in c.args.scopes.now) c.first_part.ensures) (refuses_in_turn _ _ _ c.in_err-check_part.ensures)

pub check_expr-returns-in_err-check_part-2 : goal.check_expr-returns-in_err-check_part-2
check_expr-returns-in_err-check_part-2 t c =
    fails _ _ _ (err_from_is_err_and _ c.from_residual-in_err-check_part-2.ensures.1) (second_left (tree_of c.args.e.now) (scopes_in c.args.scopes.now) c.first_part.ensures c.in_ok-check_part.ensures c.second_part.ensures) c.in_err-check_part-2.ensures

pub check_expr-returns : goal.check_expr-returns
check_expr-returns t c =
    rw (third_left (tree_of c.args.e.now) (scopes_in c.args.scopes.now) c.first_part.ensures c.in_ok-check_part.ensures c.second_part.ensures c.in_ok-check_part-2.ensures c.third_part.ensures) c.check_part-3.ensures

pub check_block-returns-in_err-check_binding : goal.check_block-returns-in_err-check_binding
check_block-returns-in_err-check_binding t c =
    let p = err_from_is_err_and c.from_residual.result c.from_residual.ensures.1 in
    let body = checked_all (trees_of c.args.body.now) in
    rw (p.1, p.2) (refuses_in_block _ (checked_behind (binding_in c.args.binding) body) (scopes_in c.args.scopes.now) (refuses_in_turn _ _ body (rw c.enter-inner.ensures at c.in_err-check_binding.ensures)))

pub check_methods-check_block-requires : goal.check_methods-check_block-requires
check_methods-check_block-requires t c =
    let m = c.index-methods-index.result in
    let lower = body_depth c.args.methods.now c.loop-index.index m c.loop-index-test.true c.index-methods-index.is in
    let same = ap depth_in (body_is m.body c.deref-in-loop-index-2.ensures c.deref-in-loop-index-3.ensures.value) in
    (omega arith, tt)

pub check_methods-returns-in_err-check_is_new : goal.check_methods-returns-in_err-check_is_new
check_methods-returns-in_err-check_is_new t c =
    let walk = c.loop-index.invariant ∙ methods_next c.args.methods.now c.loop-index.index c.index-methods-index.result (scopes_in c.args.scopes.now) c.loop-index-test.true c.index-methods-index.is in
    fails _ _ _ (err_from_is_err_and _ c.from_residual.ensures.1) walk (refuses_in_turn _ _ _ (twice_refused _ _ _ _ c.in_err-check_is_new.ensures.refused))

pub check_methods-loop-index-preserved : goal.check_methods-loop-index-preserved
check_methods-loop-index-preserved t c =
    let i = c.loop-index.index in
    let ms = c.args.methods.now in
    let m = c.index-methods-index.result in
    let s = scopes_in c.args.scopes.now in
    c.loop-index.invariant
    ∙ methods_next ms i m s c.loop-index-test.true c.index-methods-index.is
    ∙ ap (λ r. in_turn r (checked_methods (map signature_of (take (i + 1) ms)) (methods_of (drop (i + 1) ms)))) (block_is_left (take i ms) m s c.in_ok-check_is_new.ensures.ok (c.deref-in-loop-index.ensures.value ∙ ap (λ v. v.items) c.deref.ensures) (body_is m.body c.deref-in-loop-index-2.ensures c.deref-in-loop-index-3.ensures.value) ∙ c.in_ok-check_block.ensures)

pub check_methods-returns-in_err-check_block : goal.check_methods-returns-in_err-check_block
check_methods-returns-in_err-check_block t c =
    let i = c.loop-index.index in
    let ms = c.args.methods.now in
    let m = c.index-methods-index.result in
    let s = scopes_in c.args.scopes.now in
    let walk = c.loop-index.invariant
    ∙ methods_next ms i m s c.loop-index-test.true c.index-methods-index.is
    ∙ ap (λ r. in_turn r (checked_methods (map signature_of (take (i + 1) ms)) (methods_of (drop (i + 1) ms)))) (block_is_left (take i ms) m s c.in_ok-check_is_new.ensures.ok (c.deref-in-loop-index.ensures.value ∙ ap (λ v. v.items) c.deref.ensures) (body_is m.body c.deref-in-loop-index-2.ensures c.deref-in-loop-index-3.ensures.value)) in
    fails _ _ _ (err_from_is_err_and _ c.from_residual-in_err-check_block.ensures.1) walk c.in_err-check_block.ensures

pub check_methods-returns : goal.check_methods-returns
check_methods-returns t c =
    c.loop-index.invariant ∙ ap (λ ms. checked_methods (map signature_of (take c.loop-index.index c.args.methods.now)) ms (scopes_in c.args.scopes.now)) (no_methods_from c.args.methods.now c.loop-index.index c.loop-index-test.false)

pub check_expr-check_part-requires : goal.check_expr-check_part-requires
check_expr-check_part-requires t c =
    let lower = first_is_lower (tree_of c.args.e.now) in
    let is = ap part_depth c.first_part.ensures in
    (omega arith, tt)

pub check_expr-check_part-requires-2 : goal.check_expr-check_part-requires-2
check_expr-check_part-requires-2 t c =
    let lower = second_is_lower (tree_of c.args.e.now) in
    let is = ap part_depth c.second_part.ensures in
    (omega arith, tt)

pub check_expr-check_part-requires-3 : goal.check_expr-check_part-requires-3
check_expr-check_part-requires-3 t c =
    let lower = third_is_lower (tree_of c.args.e.now) in
    let is = ap part_depth c.third_part.ensures in
    (omega arith, tt)

pub check_part-check_expr-requires : goal.check_part-check_expr-requires
check_part-check_expr-requires t c = let is = ap (λ p. part_depth (part_in p)) c.in-Evaluate.is in (omega arith, tt)

pub check_part-check_all-requires : goal.check_part-check_all-requires
check_part-check_all-requires t c = let is = ap (λ p. part_depth (part_in p)) c.in-EvaluateAll.is in (omega arith, tt)

pub check_part-check_block-requires : goal.check_part-check_block-requires
check_part-check_block-requires t c = let is = ap (λ p. part_depth (part_in p)) c.in-Block.is in (omega arith, tt)

pub check_part-check_methods-requires : goal.check_part-check_methods-requires
check_part-check_methods-requires t c = let is = ap (λ p. part_depth (part_in p)) c.in-Methods.is in (omega arith, tt)

pub check_block-check_all-requires : goal.check_block-check_all-requires
check_block-check_all-requires t c = (omega arith, tt)

pub check_block-returns : goal.check_block-returns
check_block-returns t c =
    behind_gives c.check_all.result (binding_in c.args.binding) (checked_all (trees_of c.args.body.now)) (scopes_in c.args.scopes.now) (scopes_in c.check_all.new.scopes) c.enter-inner.ensures c.in_ok-check_binding.ensures c.check_all.ensures
