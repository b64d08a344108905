use Rattle.std.proofs.Common.{refl, ap, ◌∙◌, arith}
use Rattle.std.proofs.lemmas.Result.{IfOk-equal}
use Rattle.kernele_scopes.specs.Scope.{own_names, own_names_in}
use Rattle.kernele_scopes.specs.Parts.{part_in, part_depth}
use Rattle.kernele.specs.View.{tree_of}
use Rattle.kernele.proofs.Walks.{append_more, append_end}
use Rattle.ids.proofs.Failing.{claims_nothing}
use Rattle.kernele_scopes.proofs.Constructs.{names_left, first_is_lower, second_is_lower, third_is_lower, item_depth}
use Rattle.kernele_scopes.proofs.naming.+names.Goals as goal

pub add_all_names-add_names-requires : goal.add_all_names-add_names-requires
add_all_names-add_names-requires t c =
    let lower = item_depth c.args.trees.now c.loop-tree.tree-index c.tree-item.result c.loop-tree-test.true c.tree-item.is in
    (omega arith, tt)

pub add_all_names-loop-tree-preserved : goal.add_all_names-loop-tree-preserved
add_all_names-loop-tree-preserved t c = append_more own_names_in own_names (λ t ts. refl) c.loop-tree.names.items c.args.trees.now c.loop-tree.tree-index c.tree-item.result c.loop-tree-test.true c.tree-item.is c.in_ok-add_names.ensures ∙ c.loop-tree.invariant

pub add_all_names-returns : goal.add_all_names-returns
add_all_names-returns t c = append_end own_names_in refl c.args.trees.now c.loop-tree.tree-index c.loop-tree-test.false c.loop-tree.invariant

pub add_all_names-returns-in_err-add_names : goal.add_all_names-returns-in_err-add_names
add_all_names-returns-in_err-add_names t c = claims_nothing c.from_residual.result _ c.from_residual.ensures.0

pub add_names-returns-in_err-add_part_names : goal.add_names-returns-in_err-add_part_names
add_names-returns-in_err-add_part_names t c = claims_nothing c.from_residual.result _ c.from_residual.ensures.0

pub add_names-returns-in_err-add_part_names-2 : goal.add_names-returns-in_err-add_part_names-2
add_names-returns-in_err-add_part_names-2 t c = claims_nothing c.from_residual-in_err-add_part_names-2.result _ c.from_residual-in_err-add_part_names-2.ensures.0

pub add_names-returns : goal.add_names-returns
add_names-returns t c =
    IfOk-equal c.add_part_names-3.result _ _ _ c.add_part_names-3.ensures
    (names_left (tree_of c.args.e.now) c.args.names.now.items c.first_part.ensures c.in_ok-add_part_names.ensures c.second_part.ensures c.in_ok-add_part_names-2.ensures c.third_part.ensures)

pub add_names-add_part_names-requires : goal.add_names-add_part_names-requires
add_names-add_part_names-requires t c =
    let lower = first_is_lower (tree_of c.args.e.now) in
    let is = ap part_depth c.first_part.ensures in
    (omega arith, tt)

pub add_names-add_part_names-requires-2 : goal.add_names-add_part_names-requires-2
add_names-add_part_names-requires-2 t c =
    let lower = second_is_lower (tree_of c.args.e.now) in
    let is = ap part_depth c.second_part.ensures in
    (omega arith, tt)

pub add_names-add_part_names-requires-3 : goal.add_names-add_part_names-requires-3
add_names-add_part_names-requires-3 t c =
    let lower = third_is_lower (tree_of c.args.e.now) in
    let is = ap part_depth c.third_part.ensures in
    (omega arith, tt)

pub add_part_names-add_names-requires : goal.add_part_names-add_names-requires
add_part_names-add_names-requires t c = let is = ap (λ p. part_depth (part_in p)) c.in-Evaluate.is in (omega arith, tt)

pub add_part_names-add_all_names-requires : goal.add_part_names-add_all_names-requires
add_part_names-add_all_names-requires t c = let is = ap (λ p. part_depth (part_in p)) c.in-EvaluateAll.is in (omega arith, tt)
