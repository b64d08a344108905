use Rattle.std.proofs.Common.{◌≡◌, ◌++◌, length, ◌∙◌, ap, sym, subst, refl, arith, rules, [], ◌∷◌}
use Rattle.std.proofs.Math.Path.{transport}
use Rattle.std.proofs.lemmas.Result.{IfOk-weaker}
use Rattle.kernele.specs.View.{tree_of, trees_of, methods_of}
use Rattle.kernele_scopes.specs.Scope.{nodes, nodes_in, names_of_all}
use Rattle.kernele.proofs.Views.{tree_of-Call, tree_of-List, tree_of-Hide, tree_of-If, tree_of-While, tree_of-For, tree_of-Try, tree_of-Object, tree_of-Escape, tree_of-Send, tree_of-When, tree_of-WhenCatch}
use Rattle.kernele_scopes.specs.Free.{captures, when_captures}
use Rattle.kernele.specs.Tree.{none}
use Rattle.kernele.specs.declared.tree.Pattern.TheVariants as pattern
use Rattle.code.specs.View.{methods_of_codes}
use Rattle.code.specs.Index.{index_in, index_fits}
use Rattle.code.specs.Frames.{all_placed, captured_names_of, only_names}
use Rattle.code_resolver.specs.Resolves.{ResolvesAll, ResolvesMethods}
use Rattle.code.specs.declared.code.MethodCode.{MethodCode}
use Rattle.code_resolver.proofs.Growing.{truncated}
use Rattle.code_resolver.proofs.Made.{ResolvesMethod, resolved_as, resolved_call, resolved_list, resolved_hide, resolved_if, resolved_while, resolved_for, resolved_try, resolved_escape, resolved_object, resolved_send, resolved_when, resolved_when_catch, resolved_block, all_more, all_pushed, all_end, all_done, methods_more, methods_pushed, methods_end, methods_done}
use Rattle.code_resolver.proofs.Ranks.{part_nodes, method_nodes}
use Rattle.code_resolver.proofs.Sides.{side_of, right_resolved}
use Rattle.code_resolver.proofs.resolving.+resolve.Goals as goal

pub resolve_expr-resolve_call-requires : goal.resolve_expr-resolve_call-requires
resolve_expr-resolve_call-requires t c = (omega (arith, ap nodes (ap tree_of c.in-Call.is ∙ tree_of-Call c.in-Call.receiver c.in-Call.verb c.in-Call.args)), tt)

pub resolve_expr-resolve_right-requires : goal.resolve_expr-resolve_right-requires
resolve_expr-resolve_right-requires t c = (search rules, side_of c.in-Def.right c.in-Def.is)

pub resolve_right-returns : goal.resolve_right-returns
resolve_right-returns t c = right_resolved c.with_right.result c.with_right.new.frame.items c.args.e.now c.with_right.ensures c.requires c.in_ok-right.ensures

pub resolve_expr-resolve_row-requires : goal.resolve_expr-resolve_row-requires
resolve_expr-resolve_row-requires t c = (omega (arith, ap nodes (ap tree_of c.in-List.is ∙ tree_of-List c.in-List.items)), tt)

pub resolve_expr-resolve_block-requires : goal.resolve_expr-resolve_block-requires
resolve_expr-resolve_block-requires t c = (omega (arith, ap nodes (ap tree_of c.in-Hide.is ∙ tree_of-Hide c.in-Hide.body)), tt)

pub resolve_expr-resolve_if-requires : goal.resolve_expr-resolve_if-requires
resolve_expr-resolve_if-requires t c = (omega (arith, ap nodes (ap tree_of c.in-If.is ∙ tree_of-If c.in-If.condition c.in-If.first c.in-If.second)), tt)

pub resolve_expr-resolve_while-requires : goal.resolve_expr-resolve_while-requires
resolve_expr-resolve_while-requires t c = (omega (arith, ap nodes (ap tree_of c.in-While.is ∙ tree_of-While c.in-While.condition c.in-While.body)), tt)

pub resolve_expr-resolve_for-requires : goal.resolve_expr-resolve_for-requires
resolve_expr-resolve_for-requires t c = (omega (arith, ap nodes (ap tree_of c.in-For.is ∙ tree_of-For c.in-For.pattern c.in-For.list c.in-For.body)), tt)

pub resolve_expr-resolve_try-requires : goal.resolve_expr-resolve_try-requires
resolve_expr-resolve_try-requires t c = (omega (arith, ap nodes (ap tree_of c.in-Try.is ∙ tree_of-Try c.in-Try.body c.in-Try.pattern c.in-Try.handler)), tt)

pub resolve_expr-resolve_object-requires : goal.resolve_expr-resolve_object-requires
resolve_expr-resolve_object-requires t c = (omega (arith, ap nodes (ap tree_of c.in-Object.is ∙ tree_of-Object c.in-Object.pattern c.in-Object.methods)), tt)

pub resolve_expr-resolve_escape-requires : goal.resolve_expr-resolve_escape-requires
resolve_expr-resolve_escape-requires t c = (omega (arith, ap nodes (ap tree_of c.in-Escape.is ∙ tree_of-Escape c.in-Escape.name c.in-Escape.body)), tt)

pub resolve_expr-resolve_send-requires : goal.resolve_expr-resolve_send-requires
resolve_expr-resolve_send-requires t c = (omega (arith, ap nodes (ap tree_of c.in-Send.is ∙ tree_of-Send c.in-Send.receiver c.in-Send.verb c.in-Send.args)), tt)

pub resolve_expr-resolve_when-requires : goal.resolve_expr-resolve_when-requires
resolve_expr-resolve_when-requires t c = (omega (arith, ap nodes (ap tree_of c.in-When.is ∙ tree_of-When c.in-When.value c.in-When.body)), tt)

pub resolve_expr-resolve_when_catch-requires : goal.resolve_expr-resolve_when_catch-requires
resolve_expr-resolve_when_catch-requires t c = (omega (arith, ap nodes (ap tree_of c.in-WhenCatch.is ∙ tree_of-WhenCatch c.in-WhenCatch.value c.in-WhenCatch.body c.in-WhenCatch.pattern c.in-WhenCatch.handler)), tt)

pub resolve_expr-returns-in-Call : goal.resolve_expr-returns-in-Call
resolve_expr-returns-in-Call t c = IfOk-weaker _ _ _ (λ d h. resolved_as (ap tree_of c.in-Call.is ∙ tree_of-Call c.in-Call.receiver c.in-Call.verb c.in-Call.args) h) c.resolve_call.ensures

pub resolve_expr-returns-in_ok-resolve_row-in-List : goal.resolve_expr-returns-in_ok-resolve_row-in-List
resolve_expr-returns-in_ok-resolve_row-in-List t c = resolved_as (ap tree_of c.in-List.is ∙ tree_of-List c.in-List.items) (resolved_list _ c.in_ok-resolve_row-in-List.ensures)

pub resolve_expr-returns-in_ok-resolve_block-in-Hide : goal.resolve_expr-returns-in_ok-resolve_block-in-Hide
resolve_expr-returns-in_ok-resolve_block-in-Hide t c = resolved_as (ap tree_of c.in-Hide.is ∙ tree_of-Hide c.in-Hide.body) (resolved_hide _ c.in_ok-resolve_block-in-Hide.ensures.code c.in_ok-resolve_block-in-Hide.ensures.frame)

pub resolve_expr-returns-in-If : goal.resolve_expr-returns-in-If
resolve_expr-returns-in-If t c = IfOk-weaker _ _ _ (λ d h. resolved_as (ap tree_of c.in-If.is ∙ tree_of-If c.in-If.condition c.in-If.first c.in-If.second) h) c.resolve_if.ensures

pub resolve_expr-returns-in-While : goal.resolve_expr-returns-in-While
resolve_expr-returns-in-While t c = IfOk-weaker _ _ _ (λ d h. resolved_as (ap tree_of c.in-While.is ∙ tree_of-While c.in-While.condition c.in-While.body) h) c.resolve_while.ensures

pub resolve_expr-returns-in-For : goal.resolve_expr-returns-in-For
resolve_expr-returns-in-For t c = IfOk-weaker _ _ _ (λ d h. resolved_as (ap tree_of c.in-For.is ∙ tree_of-For c.in-For.pattern c.in-For.list c.in-For.body) h) c.resolve_for.ensures

pub resolve_expr-returns-in-Try : goal.resolve_expr-returns-in-Try
resolve_expr-returns-in-Try t c = IfOk-weaker _ _ _ (λ d h. resolved_as (ap tree_of c.in-Try.is ∙ tree_of-Try c.in-Try.body c.in-Try.pattern c.in-Try.handler) (h c.args.own_scope)) c.resolve_try.ensures

pub resolve_expr-returns-in-Object : goal.resolve_expr-returns-in-Object
resolve_expr-returns-in-Object t c = IfOk-weaker _ _ _ (λ d h. resolved_as (ap tree_of c.in-Object.is ∙ tree_of-Object c.in-Object.pattern c.in-Object.methods) h) c.resolve_object.ensures

pub resolve_expr-returns-in-Escape : goal.resolve_expr-returns-in-Escape
resolve_expr-returns-in-Escape t c = IfOk-weaker _ _ _ (λ d h. resolved_as (ap tree_of c.in-Escape.is ∙ tree_of-Escape c.in-Escape.name c.in-Escape.body) (h c.args.own_scope)) c.resolve_escape.ensures

pub resolve_expr-returns-in-Send : goal.resolve_expr-returns-in-Send
resolve_expr-returns-in-Send t c = IfOk-weaker _ _ _ (λ d h. resolved_as (ap tree_of c.in-Send.is ∙ tree_of-Send c.in-Send.receiver c.in-Send.verb c.in-Send.args) h) c.resolve_send.ensures

pub resolve_expr-returns-in-When : goal.resolve_expr-returns-in-When
resolve_expr-returns-in-When t c = IfOk-weaker _ _ _ (λ d h. resolved_as (ap tree_of c.in-When.is ∙ tree_of-When c.in-When.value c.in-When.body) h) c.resolve_when.ensures

pub resolve_expr-returns-in-WhenCatch : goal.resolve_expr-returns-in-WhenCatch
resolve_expr-returns-in-WhenCatch t c = IfOk-weaker _ _ _ (λ d h. resolved_as (ap tree_of c.in-WhenCatch.is ∙ tree_of-WhenCatch c.in-WhenCatch.value c.in-WhenCatch.body c.in-WhenCatch.pattern c.in-WhenCatch.handler) h) c.resolve_when_catch.ensures

pub resolve_row-resolve_expr-requires : goal.resolve_row-resolve_expr-requires
resolve_row-resolve_expr-requires t c =
    let same = c.deref-tree-items.ensures.value ∙ ap (λ v. v.items) c.deref-2.ensures in
    (omega (arith, part_nodes c.deref-tree-items.result.now c.loop-tree.tree-index c.tree-item.result c.loop-tree-test.true c.tree-item.is, ap (λ xs. nodes_in (trees_of xs)) same), tt)

pub resolve_row-loop-tree-preserved : goal.resolve_row-loop-tree-preserved
resolve_row-loop-tree-preserved t c = λ rest next h. all_pushed c.loop-tree.codes.items _ c.in_ok-code.code rest c.in_ok-push.ensures.items
    (c.loop-tree.invariant (c.in_ok-code.code ∷ rest) next (all_more c.deref-tree-items.result.now c.loop-tree.tree-index c.tree-item.result c.in_ok-code.code rest c.loop-tree-test.true c.tree-item.is c.in_ok-code.ensures h))

pub resolve_row-returns : goal.resolve_row-returns
resolve_row-returns t c =
    let same = c.deref-tree-items.ensures.value ∙ ap (λ v. v.items) c.deref-2.ensures in
    let all = all_done c.loop-tree.codes.items (c.loop-tree.invariant [] c.loop-tree.frame.items (all_end c.loop-tree.frame.items c.deref-tree-items.result.now c.loop-tree.tree-index c.loop-tree-test.false)) in
    transport (λ i. ResolvesAll c.args.own_scope c.args.frame.now.items (trees_of (same i)) (sym c.in_ok-new.ensures.ok i).items c.loop-tree.frame.items) all

pub resolve_methods-resolve_row-requires : goal.resolve_methods-resolve_row-requires
resolve_methods-resolve_row-requires t c = (omega (arith, method_nodes c.args.methods.now c.loop-method.method-index c.method-item.result c.loop-method-test.true c.method-item.is), tt)

pub resolve_methods-loop-method-preserved : goal.resolve_methods-loop-method-preserved
resolve_methods-loop-method-preserved t c =
    let m = c.method-item.result in
    let was = c.loop-method.frame.items in
    let outer : c.len-captured.result ≡ length c.args.frame.now.items = search rules in
    let copied : c.in_ok-try_clone.field-0.value.items ≡ m.parameters.value.items = search rules in
    let code : MethodCode = record { verb = c.in_ok-share.field-0; parameters = c.in_ok-try_clone.field-0; body = c.in_ok-body.body } in
    let entered = c.in_ok-add_all_bound.ensures ∙ ap (λ ps. was ++ only_names (names_of_all ps)) (c.deref-in-loop-method.ensures.value ∙ ap (λ v. v.items) c.deref.ensures) in
    let stays = truncated {f = was} c.len-captured.result _ _ (outer ∙ sym (ap length c.loop-method.invariant.stays)) entered c.in_ok-body.ensures.grown c.truncate.ensures.items ∙ c.loop-method.invariant.stays in
    let made : ResolvesMethod was m code = record { verb = c.in_ok-share.ensures; parameters = copied; body = resolved_block entered c.in_ok-body.ensures } in
    record {
      stays = stays;
      code = λ rest h. methods_pushed c.loop-method.codes.items _ code rest c.in_ok-push.ensures.items
          (c.loop-method.invariant.code (code ∷ rest) (methods_more c.args.methods.now c.loop-method.method-index m code rest c.loop-method-test.true c.method-item.is (subst (λ frame. ResolvesMethod frame m code) c.loop-method.invariant.stays made) h));
    }

pub resolve_methods-returns : goal.resolve_methods-returns
resolve_methods-returns t c = methods_done c.loop-method.codes.items (c.loop-method.invariant.code [] (methods_end c.args.frame.now.items c.args.methods.now c.loop-method.method-index c.loop-method-test.false))

pub resolve_call-returns : goal.resolve_call-returns
resolve_call-returns t c = resolved_call _ _ (c.new.ensures ∙ c.in_ok-share.ensures) c.in_ok-receiver.ensures c.in_ok-args.ensures

pub resolve_send-returns : goal.resolve_send-returns
resolve_send-returns t c = resolved_send _ _ (c.new.ensures ∙ c.in_ok-share.ensures) c.in_ok-receiver.ensures c.in_ok-args.ensures

pub resolve_when-returns : goal.resolve_when-returns
resolve_when-returns t c =
    let all = c.deref-2.ensures.value ∙ ap (λ v. v.items) c.deref.ensures in
    resolved_when _ _ _ c.in_ok-value.ensures (c.in_ok-inside.ensures ∙ ap (λ xs. when_captures (trees_of xs) pattern.Ignore none) all)
    (ap (λ v. captured_names_of v.items) c.in_ok-new.ensures.ok ∙ c.in_ok-captures.ensures.names ∙ c.deref-3.ensures.value)
    (transport (λ i. all_placed (c.deref-4.ensures.value i) (sym c.in_ok-new.ensures.ok i).items) c.in_ok-captures.ensures.places) c.in_ok-body.ensures.code

pub resolve_when_catch-returns : goal.resolve_when_catch-returns
resolve_when_catch-returns t c =
    let all = c.deref-2.ensures.value ∙ ap (λ v. v.items) c.deref.ensures in
    let rest = c.deref-4.ensures.value ∙ ap (λ v. v.items) c.deref-3.ensures in
    resolved_when_catch _ _ _ _ c.in_ok-share.ensures c.in_ok-value.ensures (c.in_ok-inside.ensures ∙ λ i. when_captures (trees_of (all i)) c.args.pattern.now (trees_of (rest i)))
    (ap (λ v. captured_names_of v.items) c.in_ok-new.ensures.ok ∙ c.in_ok-captures.ensures.names ∙ c.deref-5.ensures.value)
    (transport (λ i. all_placed (c.deref-6.ensures.value i) (sym c.in_ok-new.ensures.ok i).items) c.in_ok-captures.ensures.places)
    c.in_ok-body.ensures.code c.in_ok-body.ensures.frame c.in_ok-handler.ensures.code

pub resolve_if-returns : goal.resolve_if-returns
resolve_if-returns t c = resolved_if _ _ _ c.in_ok-condition.ensures c.in_ok-first.ensures.code c.in_ok-first.ensures.frame c.in_ok-second.ensures.code c.in_ok-second.ensures.frame

pub resolve_while-returns : goal.resolve_while-returns
resolve_while-returns t c = resolved_while _ _ c.in_ok-condition.ensures c.in_ok-body.ensures.code c.in_ok-body.ensures.frame

pub resolve_for-returns : goal.resolve_for-returns
resolve_for-returns t c = resolved_for _ _ c.in_ok-share.ensures c.in_ok-list.ensures c.in_ok-body.ensures.code c.in_ok-body.ensures.frame

pub resolve_try-returns : goal.resolve_try-returns
resolve_try-returns t c = λ own. resolved_try _ _ c.in_ok-share.ensures c.in_ok-body.ensures.code c.in_ok-body.ensures.frame c.in_ok-handler.ensures.code c.in_ok-handler.ensures.frame

pub resolve_escape-returns : goal.resolve_escape-returns
resolve_escape-returns t c = λ own. resolved_escape _ c.in_ok-share.ensures c.in_ok-add_name.ensures (resolved_block refl c.in_ok-body.ensures)
    (truncated {f = c.args.frame.now.items} c.len-before.result (c.args.name.now ∷ []) _ (search rules) c.in_ok-add_name.ensures c.in_ok-body.ensures.grown c.truncate.ensures.items)

pub resolve_object-returns : goal.resolve_object-returns
resolve_object-returns t c =
    let all = c.deref-2.ensures.value ∙ ap (λ v. v.items) c.deref.ensures in
    let same = c.deref-6.ensures.value ∙ ap (λ v. v.items) c.deref-5.ensures in
    let codes = c.deref-7.ensures.value in
    resolved_object _ _ _ c.in_ok-share.ensures (c.in_ok-inside.ensures ∙ ap (λ ms. captures c.args.pattern.now (methods_of ms)) all)
    (ap (λ v. captured_names_of v.items) c.in_ok-new.ensures.ok ∙ c.in_ok-captures.ensures.names ∙ c.deref-3.ensures.value)
    (transport (λ i. all_placed (c.deref-4.ensures.value i) (sym c.in_ok-new.ensures.ok i).items) c.in_ok-captures.ensures.places) c.in_ok-add_bound.ensures
    (transport (λ i. ResolvesMethods c.add_bound.new.frame.items (methods_of (same i)) (sym c.in_ok-new-2.ensures.ok i).items) c.in_ok-methods.ensures)
    (transport (λ i. index_fits (index_in c.in_ok-index.index) (methods_of_codes ((codes ∙ ap (λ v. v.items) (sym c.in_ok-new-2.ensures.ok)) i))) c.in_ok-index.ensures.fits) c.in_ok-add_bound-2.ensures
