use Rattle.std.proofs.Common.{refl, ap, sym, ◌∙◌, ◌+◌, ◌++◌, drop, arith, append-nil}
use Rattle.std.proofs.lemmas.Result.{IfOk-equal}
use Rattle.kernele_scopes.specs.Scope.{own_names, own_names_in, names_of_all, depth_in}
use Rattle.kernele_scopes.specs.Free.{free, free_in, free_of}
use Rattle.kernele_scopes.specs.Found.{with_all_new}
use Rattle.kernele_scopes.specs.Parts.{part_in, part_depth, binding_in, binding_names, part_names, part_free}
use Rattle.ids.proofs.Failing.{claims_nothing}
use Rattle.kernele.specs.View.{tree_of, trees_of, methods_of}
use Rattle.kernele.proofs.Walks.{trees_from, no_trees_from, append_more, append_end, methods_from, no_methods_from, body_is}
use Rattle.kernele_scopes.proofs.Constructs.{names_left, first_is_lower, second_is_lower, third_is_lower, item_depth, body_depth}
use Rattle.kernele_scopes.proofs.Finding.{found_left, then_found, holds_anyway, as_long, truncated}
use Rattle.kernele_scopes.proofs.free.+free.Goals as goal

pub find_in-returns-clause-inside : goal.find_in-returns-clause-inside
find_in-returns-clause-inside t c = IfOk-equal c.find_in_part-3.result _ _ _ c.find_in_part-3.ensures.inside (names_left (tree_of c.args.e.now) c.args.inside.now.items c.first_part.ensures c.in_ok-find_in_part.ensures.inside c.second_part.ensures c.in_ok-find_in_part-2.ensures.inside c.third_part.ensures)

pub find_in-returns-clause-found : goal.find_in-returns-clause-found
find_in-returns-clause-found t c = IfOk-equal c.find_in_part-3.result _ _ _ c.find_in_part-3.ensures.found (found_left (tree_of c.args.e.now) c.args.inside.now.items c.args.found.now.items c.first_part.ensures c.in_ok-find_in_part.ensures.inside c.in_ok-find_in_part.ensures.found c.second_part.ensures c.in_ok-find_in_part-2.ensures.inside c.in_ok-find_in_part-2.ensures.found c.third_part.ensures)

pub find_in_all-find_in-requires : goal.find_in_all-find_in-requires
find_in_all-find_in-requires t c =
    let lower = item_depth c.args.trees.now c.loop-tree.tree-index c.tree-item.result c.loop-tree-test.true c.tree-item.is in
    (omega arith, tt)

pub find_in_all-loop-tree-preserved : goal.find_in_all-loop-tree-preserved
find_in_all-loop-tree-preserved t c =
    let rest = trees_of (drop (c.loop-tree.tree-index + 1) c.args.trees.now) in
    let next = trees_from c.args.trees.now c.loop-tree.tree-index c.tree-item.result c.loop-tree-test.true c.tree-item.is in
    let x = tree_of c.tree-item.result in
    record {
      inside = append_more own_names_in own_names (λ t ts. refl) c.loop-tree.inside.items c.args.trees.now c.loop-tree.tree-index c.tree-item.result c.loop-tree-test.true c.tree-item.is c.in_ok-find_in.ensures.inside ∙ c.loop-tree.invariant.inside;
      found = then_found (free_in rest) c.loop-tree.found.items (free x c.loop-tree.inside.items) (c.loop-tree.inside.items ++ own_names x) c.in_ok-find_in.ensures.found c.in_ok-find_in.ensures.inside
          ∙ ap (λ ts. with_all_new c.loop-tree.found.items (free_in ts c.loop-tree.inside.items)) (sym next) ∙ c.loop-tree.invariant.found;
    }

pub find_in_methods-find_in_block-requires : goal.find_in_methods-find_in_block-requires
find_in_methods-find_in_block-requires t c =
    let m = c.method-item.result in
    let lower = body_depth c.args.methods.now c.loop-method.method-index m c.loop-method-test.true c.method-item.is in
    let same = ap depth_in (body_is m.body c.deref-in-loop-method-2.ensures c.deref-in-loop-method-3.ensures.value) in
    (omega arith, tt)

pub find_in_methods-loop-method-preserved : goal.find_in_methods-loop-method-preserved
find_in_methods-loop-method-preserved t c =
    let m = c.method-item.result in
    let was = c.loop-method.inside.items in
    let next = methods_from c.args.methods.now c.loop-method.method-index m c.loop-method-test.true c.method-item.is in
    let parameters = c.deref-in-loop-method.ensures.value ∙ ap (λ v. v.items) c.deref.ensures in
    let body = body_is m.body c.deref-in-loop-method-2.ensures c.deref-in-loop-method-3.ensures.value in
    record {
      inside = c.in_ok-find_in_block.ensures.inside ∙ c.loop-method.invariant.inside;
      found = then_found (free_of (methods_of (drop (c.loop-method.method-index + 1) c.args.methods.now))) c.loop-method.found.items (free_in (trees_of m.body.value.items) (was ++ names_of_all m.parameters.value.items)) was
          (c.in_ok-find_in_block.ensures.found ∙ λ i. with_all_new c.loop-method.found.items (free_in (body i) (was ++ names_of_all (parameters i)))) c.in_ok-find_in_block.ensures.inside
          ∙ ap (λ ms. with_all_new c.loop-method.found.items (free_of ms was)) (sym next) ∙ c.loop-method.invariant.found;
    }

pub find_in-find_in_part-requires : goal.find_in-find_in_part-requires
find_in-find_in_part-requires t c =
    let lower = first_is_lower (tree_of c.args.e.now) in
    let is = ap part_depth c.first_part.ensures in
    (omega arith, tt)

pub find_in-find_in_part-requires-2 : goal.find_in-find_in_part-requires-2
find_in-find_in_part-requires-2 t c =
    let lower = second_is_lower (tree_of c.args.e.now) in
    let is = ap part_depth c.second_part.ensures in
    (omega arith, tt)

pub find_in-find_in_part-requires-3 : goal.find_in-find_in_part-requires-3
find_in-find_in_part-requires-3 t c =
    let lower = third_is_lower (tree_of c.args.e.now) in
    let is = ap part_depth c.third_part.ensures in
    (omega arith, tt)

pub find_in-returns-in_err-find_in_part-clause-inside : goal.find_in-returns-in_err-find_in_part-clause-inside
find_in-returns-in_err-find_in_part-clause-inside t c = claims_nothing c.from_residual.result _ c.from_residual.ensures.0

pub find_in-returns-in_err-find_in_part-2-clause-inside : goal.find_in-returns-in_err-find_in_part-2-clause-inside
find_in-returns-in_err-find_in_part-2-clause-inside t c = claims_nothing c.from_residual-in_err-find_in_part-2.result _ c.from_residual-in_err-find_in_part-2.ensures.0

pub find_in_all-returns-in_err-find_in-clause-inside : goal.find_in_all-returns-in_err-find_in-clause-inside
find_in_all-returns-in_err-find_in-clause-inside t c = claims_nothing c.from_residual.result _ c.from_residual.ensures.0

pub find_in_block-returns-in_err-add_binding-clause-inside : goal.find_in_block-returns-in_err-add_binding-clause-inside
find_in_block-returns-in_err-add_binding-clause-inside t c = claims_nothing c.from_residual.result _ c.from_residual.ensures.0

pub find_in_block-returns-in_err-find_in_all-clause-inside : goal.find_in_block-returns-in_err-find_in_all-clause-inside
find_in_block-returns-in_err-find_in_all-clause-inside t c = claims_nothing c.from_residual-in_err-find_in_all.result _ c.from_residual-in_err-find_in_all.ensures.0

pub find_in_methods-returns-in_err-find_in_block-clause-inside : goal.find_in_methods-returns-in_err-find_in_block-clause-inside
find_in_methods-returns-in_err-find_in_block-clause-inside t c = claims_nothing c.from_residual.result _ c.from_residual.ensures.0

pub find_in-returns-in_err-find_in_part-clause-found : goal.find_in-returns-in_err-find_in_part-clause-found
find_in-returns-in_err-find_in_part-clause-found t c = claims_nothing c.from_residual.result _ c.from_residual.ensures.0

pub find_in-returns-in_err-find_in_part-2-clause-found : goal.find_in-returns-in_err-find_in_part-2-clause-found
find_in-returns-in_err-find_in_part-2-clause-found t c = claims_nothing c.from_residual-in_err-find_in_part-2.result _ c.from_residual-in_err-find_in_part-2.ensures.0

pub find_in_all-returns-in_err-find_in-clause-found : goal.find_in_all-returns-in_err-find_in-clause-found
find_in_all-returns-in_err-find_in-clause-found t c = claims_nothing c.from_residual.result _ c.from_residual.ensures.0

pub find_in_block-returns-in_err-add_binding-clause-found : goal.find_in_block-returns-in_err-add_binding-clause-found
find_in_block-returns-in_err-add_binding-clause-found t c = claims_nothing c.from_residual.result _ c.from_residual.ensures.0

pub find_in_block-returns-in_err-find_in_all-clause-found : goal.find_in_block-returns-in_err-find_in_all-clause-found
find_in_block-returns-in_err-find_in_all-clause-found t c = claims_nothing c.from_residual-in_err-find_in_all.result _ c.from_residual-in_err-find_in_all.ensures.0

pub find_in_methods-returns-in_err-find_in_block-clause-found : goal.find_in_methods-returns-in_err-find_in_block-clause-found
find_in_methods-returns-in_err-find_in_block-clause-found t c = claims_nothing c.from_residual.result _ c.from_residual.ensures.0

pub find_in_all-returns-clause-inside : goal.find_in_all-returns-clause-inside
find_in_all-returns-clause-inside t c = append_end own_names_in refl c.args.trees.now c.loop-tree.tree-index c.loop-tree-test.false c.loop-tree.invariant.inside

pub find_in_all-returns-clause-found : goal.find_in_all-returns-clause-found
find_in_all-returns-clause-found t c =
    sym (ap (λ ts. with_all_new c.loop-tree.found.items (free_in ts c.loop-tree.inside.items)) (no_trees_from c.args.trees.now c.loop-tree.tree-index c.loop-tree-test.false)) ∙ c.loop-tree.invariant.found

pub find_in_block-returns-clause-inside : goal.find_in_block-returns-clause-inside
find_in_block-returns-clause-inside t c =
    truncated c.len-outer.result (binding_names (binding_in c.args.binding)) (own_names_in (trees_of c.args.body.now)) (as_long c.args.inside.now c.len-outer.ensures) c.in_ok-add_binding.ensures c.in_ok-find_in_all.ensures.inside c.truncate.ensures.items

pub find_in_block-returns-clause-found : goal.find_in_block-returns-clause-found
find_in_block-returns-clause-found t c =
    c.in_ok-find_in_all.ensures.found ∙ ap (λ bs. with_all_new c.args.found.now.items (free_in (trees_of c.args.body.now) bs)) c.in_ok-add_binding.ensures

pub find_in_methods-returns-clause-inside : goal.find_in_methods-returns-clause-inside
find_in_methods-returns-clause-inside t c = c.loop-method.invariant.inside

pub find_in_methods-returns-clause-found : goal.find_in_methods-returns-clause-found
find_in_methods-returns-clause-found t c =
    sym (ap (λ ms. with_all_new c.loop-method.found.items (free_of ms c.loop-method.inside.items)) (no_methods_from c.args.methods.now c.loop-method.method-index c.loop-method-test.false)) ∙ c.loop-method.invariant.found

pub find_in_block-find_in_all-requires : goal.find_in_block-find_in_all-requires
find_in_block-find_in_all-requires t c = (omega arith, tt)

pub find_in_part-find_in-requires : goal.find_in_part-find_in-requires
find_in_part-find_in-requires t c = let is = ap (λ p. part_depth (part_in p)) c.in-Evaluate.is in (omega arith, tt)

pub find_in_part-find_in_all-requires : goal.find_in_part-find_in_all-requires
find_in_part-find_in_all-requires t c = let is = ap (λ p. part_depth (part_in p)) c.in-EvaluateAll.is in (omega arith, tt)

pub find_in_part-find_in_block-requires : goal.find_in_part-find_in_block-requires
find_in_part-find_in_block-requires t c = let is = ap (λ p. part_depth (part_in p)) c.in-Block.is in (omega arith, tt)

pub find_in_part-find_in_methods-requires : goal.find_in_part-find_in_methods-requires
find_in_part-find_in_methods-requires t c = let is = ap (λ p. part_depth (part_in p)) c.in-Methods.is in (omega arith, tt)

pub find_in_part-returns-in-Noun-clause-inside : goal.find_in_part-returns-in-Noun-clause-inside
find_in_part-returns-in-Noun-clause-inside t c = holds_anyway c.add_occurring.result (sym (append-nil c.args.inside.now.items) ∙ ap (λ p. c.args.inside.now.items ++ part_names (part_in p)) (sym c.in-Noun.is))

pub find_in_part-returns-in-Target-clause-inside : goal.find_in_part-returns-in-Target-clause-inside
find_in_part-returns-in-Target-clause-inside t c = IfOk-equal c.find_target.result _ _ _ c.find_target.ensures.inside (sym (append-nil c.args.inside.now.items) ∙ ap (λ p. c.args.inside.now.items ++ part_names (part_in p)) (sym c.in-Target.is))

pub find_in_part-returns-in-Block-clause-inside : goal.find_in_part-returns-in-Block-clause-inside
find_in_part-returns-in-Block-clause-inside t c = IfOk-equal c.find_in_block.result _ _ _ c.find_in_block.ensures.inside (sym (append-nil c.args.inside.now.items) ∙ ap (λ p. c.args.inside.now.items ++ part_names (part_in p)) (sym c.in-Block.is))

pub find_in_part-returns-in-Methods-clause-inside : goal.find_in_part-returns-in-Methods-clause-inside
find_in_part-returns-in-Methods-clause-inside t c = IfOk-equal c.find_in_methods.result _ _ _ c.find_in_methods.ensures.inside (sym (append-nil c.args.inside.now.items) ∙ ap (λ p. c.args.inside.now.items ++ part_names (part_in p)) (sym c.in-Methods.is))

pub find_in_part-returns-in-Bind-clause-found : goal.find_in_part-returns-in-Bind-clause-found
find_in_part-returns-in-Bind-clause-found t c = holds_anyway c.add_binding.result (ap (λ p. with_all_new c.args.found.now.items (part_free (part_in p) c.args.inside.now.items)) (sym c.in-Bind.is))

pub find_in_part-returns-in-Target-clause-found : goal.find_in_part-returns-in-Target-clause-found
find_in_part-returns-in-Target-clause-found t c = IfOk-equal c.find_target.result _ _ _ c.find_target.ensures.found (ap (λ p. with_all_new c.args.found.now.items (part_free (part_in p) c.args.inside.now.items)) (sym c.in-Target.is))

pub find_in_part-returns-in-Block-clause-found : goal.find_in_part-returns-in-Block-clause-found
find_in_part-returns-in-Block-clause-found t c = IfOk-equal c.find_in_block.result _ _ _ c.find_in_block.ensures.found (ap (λ p. with_all_new c.args.found.now.items (part_free (part_in p) c.args.inside.now.items)) (sym c.in-Block.is))

pub find_in_part-returns-in-Methods-clause-found : goal.find_in_part-returns-in-Methods-clause-found
find_in_part-returns-in-Methods-clause-found t c = IfOk-equal c.find_in_methods.result _ _ _ c.find_in_methods.ensures.found (ap (λ p. with_all_new c.args.found.now.items (part_free (part_in p) c.args.inside.now.items)) (sym c.in-Methods.is))

pub find_in_part-returns-in-Evaluate-clause-found : goal.find_in_part-returns-in-Evaluate-clause-found
find_in_part-returns-in-Evaluate-clause-found t c = IfOk-equal c.find_in.result _ _ _ c.find_in.ensures.found (ap (λ p. with_all_new c.args.found.now.items (part_free (part_in p) c.args.inside.now.items)) (sym c.in-Evaluate.is))

pub find_in_part-returns-in-EvaluateAll-clause-found : goal.find_in_part-returns-in-EvaluateAll-clause-found
find_in_part-returns-in-EvaluateAll-clause-found t c = IfOk-equal c.find_in_all.result _ _ _ c.find_in_all.ensures.found (ap (λ p. with_all_new c.args.found.now.items (part_free (part_in p) c.args.inside.now.items)) (sym c.in-EvaluateAll.is))

pub find_in_part-returns-in-Evaluate-clause-inside : goal.find_in_part-returns-in-Evaluate-clause-inside
find_in_part-returns-in-Evaluate-clause-inside t c = IfOk-equal c.find_in.result _ _ _ c.find_in.ensures.inside (ap (λ p. c.args.inside.now.items ++ part_names (part_in p)) (sym c.in-Evaluate.is))

pub find_in_part-returns-in-EvaluateAll-clause-inside : goal.find_in_part-returns-in-EvaluateAll-clause-inside
find_in_part-returns-in-EvaluateAll-clause-inside t c = IfOk-equal c.find_in_all.result _ _ _ c.find_in_all.ensures.inside (ap (λ p. c.args.inside.now.items ++ part_names (part_in p)) (sym c.in-EvaluateAll.is))
