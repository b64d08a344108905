use Rattle.std.proofs.Common.{ap, sym, ◌∙◌, ◌+◌, drop, arith}
use Rattle.kernele.specs.View.{tree_of, trees_of, methods_of}
use Rattle.kernele.proofs.Walks.{trees_from, no_trees_from, methods_from, no_methods_from, body_is}
use Rattle.kernele_scopes.specs.Scope.{nodes, nodes_in, nodes_of, depth, depth_in, depth_of}
use Rattle.kernele_scopes.specs.Parts.{part_in, part_depth}
use Rattle.kernele_scopes.specs.Room.{room_behind}
use Rattle.kernele_scopes.proofs.Constructs.{first_is_lower, second_is_lower, third_is_lower, item_depth, body_depth}
use Rattle.kernele_scopes.proofs.Counts.{none_behind, behind_parts, behind_both, behind_none}
use Rattle.kernele_scopes.proofs.count.+count.Goals as goal

pub behind_tree-returns-in_err-behind_node : goal.behind_tree-returns-in_err-behind_node
behind_tree-returns-in_err-behind_node t c =
    c.from_residual.ensures ∙ none_behind c.args.levels c.args.room (tree_of c.args.e.now) (sym c.in_err-behind_node.was ∙ c.behind_node.ensures)

pub behind_tree-returns : goal.behind_tree-returns
behind_tree-returns t c =
    behind_parts c.args.levels c.args.room (tree_of c.args.e.now) c.saturating_sub-below.ensures c.in_ok-behind_node.ensures c.first_part.ensures c.behind_part-room.ensures c.second_part.ensures c.behind_part-room-2.ensures c.third_part.ensures c.behind_part.ensures

pub behind_tree-behind_part-room-requires : goal.behind_tree-behind_part-room-requires
behind_tree-behind_part-room-requires t c =
    let lower = first_is_lower (tree_of c.args.e.now) in
    let is = ap part_depth c.first_part.ensures in
    (omega arith, tt)

pub behind_tree-behind_part-room-requires-2 : goal.behind_tree-behind_part-room-requires-2
behind_tree-behind_part-room-requires-2 t c =
    let lower = second_is_lower (tree_of c.args.e.now) in
    let is = ap part_depth c.second_part.ensures in
    (omega arith, tt)

pub behind_tree-behind_part-requires : goal.behind_tree-behind_part-requires
behind_tree-behind_part-requires t c =
    let lower = third_is_lower (tree_of c.args.e.now) in
    let is = ap part_depth c.third_part.ensures in
    (omega arith, tt)

pub behind_part-behind_tree-requires : goal.behind_part-behind_tree-requires
behind_part-behind_tree-requires t c = let is = ap (λ p. part_depth (part_in p)) c.in-Evaluate.is in (omega arith, tt)

pub behind_part-behind_all-requires : goal.behind_part-behind_all-requires
behind_part-behind_all-requires t c = let is = ap (λ p. part_depth (part_in p)) c.in-EvaluateAll.is in (omega arith, tt)

pub behind_part-behind_all-requires-in-Block : goal.behind_part-behind_all-requires-in-Block
behind_part-behind_all-requires-in-Block t c = let is = ap (λ p. part_depth (part_in p)) c.in-Block.is in (omega arith, tt)

pub behind_part-behind_methods-requires : goal.behind_part-behind_methods-requires
behind_part-behind_methods-requires t c = let is = ap (λ p. part_depth (part_in p)) c.in-Methods.is in (omega arith, tt)

pub behind_all-behind_tree-room-requires : goal.behind_all-behind_tree-room-requires
behind_all-behind_tree-room-requires t c =
    let lower = item_depth c.args.trees.now c.loop-tree.tree-index c.tree-item.result c.loop-tree-test.true c.tree-item.is in
    (omega arith, tt)

pub behind_all-loop-tree-preserved : goal.behind_all-loop-tree-preserved
behind_all-loop-tree-preserved t c =
    let x = tree_of c.tree-item.result in
    let rest = trees_of (drop (c.loop-tree.tree-index + 1) c.args.trees.now) in
    let next = trees_from c.args.trees.now c.loop-tree.tree-index c.tree-item.result c.loop-tree-test.true c.tree-item.is in
    ap (λ r. room_behind c.args.levels r (nodes_in rest) (depth_in rest)) c.behind_tree-room.ensures
    ∙ behind_both c.args.levels c.loop-tree.room (nodes x) (depth x) (nodes_in rest) (depth_in rest)
    ∙ ap (λ ts. room_behind c.args.levels c.loop-tree.room (nodes_in ts) (depth_in ts)) (sym next) ∙ c.loop-tree.invariant

pub behind_all-returns : goal.behind_all-returns
behind_all-returns t c =
    behind_none c.args.levels c.loop-tree.room
    ∙ ap (λ ts. room_behind c.args.levels c.loop-tree.room (nodes_in ts) (depth_in ts)) (sym (no_trees_from c.args.trees.now c.loop-tree.tree-index c.loop-tree-test.false)) ∙ c.loop-tree.invariant

pub behind_methods-behind_all-room-requires : goal.behind_methods-behind_all-room-requires
behind_methods-behind_all-room-requires t c =
    let m = c.method-item.result in
    let lower = body_depth c.args.methods.now c.loop-method.method-index m c.loop-method-test.true c.method-item.is in
    let same = ap depth_in (body_is m.body c.deref.ensures c.deref-in-loop-method.ensures.value) in
    (omega arith, tt)

pub behind_methods-loop-method-preserved : goal.behind_methods-loop-method-preserved
behind_methods-loop-method-preserved t c =
    let m = c.method-item.result in
    let body = trees_of m.body.value.items in
    let rest = methods_of (drop (c.loop-method.method-index + 1) c.args.methods.now) in
    let next = methods_from c.args.methods.now c.loop-method.method-index m c.loop-method-test.true c.method-item.is in
    let held = body_is m.body c.deref.ensures c.deref-in-loop-method.ensures.value in
    ap (λ r. room_behind c.args.levels r (nodes_of rest) (depth_of rest)) (c.behind_all-room.ensures ∙ ap (λ ts. room_behind c.args.levels c.loop-method.room (nodes_in ts) (depth_in ts)) held)
    ∙ behind_both c.args.levels c.loop-method.room (nodes_in body) (depth_in body) (nodes_of rest) (depth_of rest)
    ∙ ap (λ ms. room_behind c.args.levels c.loop-method.room (nodes_of ms) (depth_of ms)) (sym next) ∙ c.loop-method.invariant

pub behind_methods-returns : goal.behind_methods-returns
behind_methods-returns t c =
    behind_none c.args.levels c.loop-method.room
    ∙ ap (λ ms. room_behind c.args.levels c.loop-method.room (nodes_of ms) (depth_of ms)) (sym (no_methods_from c.args.methods.now c.loop-method.method-index c.loop-method-test.false)) ∙ c.loop-method.invariant
