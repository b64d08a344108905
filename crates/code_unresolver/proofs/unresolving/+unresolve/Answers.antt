use Rattle.std.proofs.Common.{◌∙◌, ap, sym, arith, rules}
use Rattle.kernele.specs.Tree.{list_tree, hide}
use Rattle.kernele.specs.View.{trees_of, methods_of}
use Rattle.kernele.proofs.Views.{tree_of-List, tree_of-Hide}
use Rattle.kernele_scopes.specs.Scope.{nodes, nodes_in, nodes_of}
use Rattle.code.specs.View.{tree_of_code, trees_of_codes, methods_of_codes}
use Rattle.code.proofs.Views.{tree_of_code-Call, tree_of_code-List, tree_of_code-Hide, tree_of_code-If, tree_of_code-While, tree_of_code-For, tree_of_code-Try, tree_of_code-Object, tree_of_code-Escape, tree_of_code-Send, tree_of_code-When, tree_of_code-WhenCatch}
use Rattle.code_unresolver.proofs.Made.{as_code, made_call, made_send, made_if, made_while, made_for, made_try, made_object, made_escape, made_when, made_when_catch}
use Rattle.code_unresolver.proofs.Rows.{code_nodes, method_nodes, row_more, row_all, methods_more, methods_all}
use Rattle.code_unresolver.proofs.unresolving.+unresolve.Goals as goal

pub whole-called-requires : goal.whole-called-requires
whole-called-requires t c = (omega (arith, ap nodes (ap tree_of_code c.in-Call.is ∙ tree_of_code-Call c.in-Call.receiver c.in-Call.verb c.in-Call.args)), tt)

pub whole-returns-in-Call : goal.whole-returns-in-Call
whole-returns-in-Call t c = as_code c.called.result _ _ (sym (ap tree_of_code c.in-Call.is ∙ tree_of_code-Call c.in-Call.receiver c.in-Call.verb c.in-Call.args)) c.called.ensures

pub whole-sent-requires : goal.whole-sent-requires
whole-sent-requires t c = (omega (arith, ap nodes (ap tree_of_code c.in-Send.is ∙ tree_of_code-Send c.in-Send.receiver c.in-Send.verb c.in-Send.args)), tt)

pub whole-returns-in-Send : goal.whole-returns-in-Send
whole-returns-in-Send t c = as_code c.sent.result _ _ (sym (ap tree_of_code c.in-Send.is ∙ tree_of_code-Send c.in-Send.receiver c.in-Send.verb c.in-Send.args)) c.sent.ensures

pub whole-chosen-requires : goal.whole-chosen-requires
whole-chosen-requires t c = (omega (arith, ap nodes (ap tree_of_code c.in-If.is ∙ tree_of_code-If c.in-If.condition c.in-If.first c.in-If.second)), tt)

pub whole-returns-in-If : goal.whole-returns-in-If
whole-returns-in-If t c = as_code c.chosen.result _ _ (sym (ap tree_of_code c.in-If.is ∙ tree_of_code-If c.in-If.condition c.in-If.first c.in-If.second)) c.chosen.ensures

pub whole-repeated-requires : goal.whole-repeated-requires
whole-repeated-requires t c = (omega (arith, ap nodes (ap tree_of_code c.in-While.is ∙ tree_of_code-While c.in-While.condition c.in-While.body)), tt)

pub whole-returns-in-While : goal.whole-returns-in-While
whole-returns-in-While t c = as_code c.repeated.result _ _ (sym (ap tree_of_code c.in-While.is ∙ tree_of_code-While c.in-While.condition c.in-While.body)) c.repeated.ensures

pub whole-walked-requires : goal.whole-walked-requires
whole-walked-requires t c = (omega (arith, ap nodes (ap tree_of_code c.in-For.is ∙ tree_of_code-For c.in-For.pattern c.in-For.list c.in-For.body)), tt)

pub whole-returns-in-For : goal.whole-returns-in-For
whole-returns-in-For t c = as_code c.walked.result _ _ (sym (ap tree_of_code c.in-For.is ∙ tree_of_code-For c.in-For.pattern c.in-For.list c.in-For.body)) c.walked.ensures

pub whole-tried-requires : goal.whole-tried-requires
whole-tried-requires t c = (omega (arith, ap nodes (ap tree_of_code c.in-Try.is ∙ tree_of_code-Try c.in-Try.body c.in-Try.pattern c.in-Try.handler)), tt)

pub whole-returns-in-Try : goal.whole-returns-in-Try
whole-returns-in-Try t c = as_code c.tried.result _ _ (sym (ap tree_of_code c.in-Try.is ∙ tree_of_code-Try c.in-Try.body c.in-Try.pattern c.in-Try.handler)) c.tried.ensures

pub whole-escaped-requires : goal.whole-escaped-requires
whole-escaped-requires t c = (omega (arith, ap nodes (ap tree_of_code c.in-Escape.is ∙ tree_of_code-Escape c.in-Escape.name c.in-Escape.body)), tt)

pub whole-returns-in-Escape : goal.whole-returns-in-Escape
whole-returns-in-Escape t c = as_code c.escaped.result _ _ (sym (ap tree_of_code c.in-Escape.is ∙ tree_of_code-Escape c.in-Escape.name c.in-Escape.body)) c.escaped.ensures

pub whole-made-requires : goal.whole-made-requires
whole-made-requires t c = (omega (arith, ap nodes (ap tree_of_code c.in-Object.is ∙ tree_of_code-Object c.in-Object.pattern c.in-Object.field-1 c.in-Object.methods c.in-Object.field-3)), tt)

pub whole-returns-in-Object : goal.whole-returns-in-Object
whole-returns-in-Object t c = as_code c.made.result _ _ (sym (ap tree_of_code c.in-Object.is ∙ tree_of_code-Object c.in-Object.pattern c.in-Object.field-1 c.in-Object.methods c.in-Object.field-3)) c.made.ensures

pub whole-awaited-requires : goal.whole-awaited-requires
whole-awaited-requires t c = (omega (arith, ap nodes (ap tree_of_code c.in-When.is ∙ tree_of_code-When c.in-When.value c.in-When.field-1 c.in-When.body)), tt)

pub whole-returns-in-When : goal.whole-returns-in-When
whole-returns-in-When t c = as_code c.awaited.result _ _ (sym (ap tree_of_code c.in-When.is ∙ tree_of_code-When c.in-When.value c.in-When.field-1 c.in-When.body)) c.awaited.ensures

pub whole-caught-requires : goal.whole-caught-requires
whole-caught-requires t c = (omega (arith, ap nodes (ap tree_of_code c.in-WhenCatch.is ∙ tree_of_code-WhenCatch c.in-WhenCatch.value c.in-WhenCatch.field-1 c.in-WhenCatch.body c.in-WhenCatch.pattern c.in-WhenCatch.handler)), tt)

pub whole-returns-in-WhenCatch : goal.whole-returns-in-WhenCatch
whole-returns-in-WhenCatch t c = as_code c.caught.result _ _ (sym (ap tree_of_code c.in-WhenCatch.is ∙ tree_of_code-WhenCatch c.in-WhenCatch.value c.in-WhenCatch.field-1 c.in-WhenCatch.body c.in-WhenCatch.pattern c.in-WhenCatch.handler)) c.caught.ensures

pub whole-tree_row-requires : goal.whole-tree_row-requires
whole-tree_row-requires t c = (omega (arith, ap nodes (ap tree_of_code c.in-List.is ∙ tree_of_code-List c.in-List.items)), tt)

pub whole-returns-in_ok-tree_row-in-List : goal.whole-returns-in_ok-tree_row-in-List
whole-returns-in_ok-tree_row-in-List t c = tree_of-List c.in_ok-tree_row-in-List.field-0 ∙ ap list_tree c.in_ok-tree_row-in-List.ensures ∙ sym (ap tree_of_code c.in-List.is ∙ tree_of_code-List c.in-List.items)

pub whole-tree_row-requires-in-Hide : goal.whole-tree_row-requires-in-Hide
whole-tree_row-requires-in-Hide t c = (omega (arith, ap nodes (ap tree_of_code c.in-Hide.is ∙ tree_of_code-Hide c.in-Hide.body)), tt)

pub whole-returns-in_ok-tree_row-in-Hide : goal.whole-returns-in_ok-tree_row-in-Hide
whole-returns-in_ok-tree_row-in-Hide t c = tree_of-Hide c.in_ok-tree_row-in-Hide.field-0 ∙ ap hide c.in_ok-tree_row-in-Hide.ensures ∙ sym (ap tree_of_code c.in-Hide.is ∙ tree_of_code-Hide c.in-Hide.body)

pub tree_row-whole-requires : goal.tree_row-whole-requires
tree_row-whole-requires t c =
    let same = c.deref-code-items.ensures.value ∙ ap (λ v. v.items) c.deref.ensures in
    (omega (arith, code_nodes c.deref-code-items.result.now c.loop-code.code-index c.code-item.result c.loop-code-test.true c.code-item.is, ap (λ xs. nodes_in (trees_of_codes xs)) same), tt)

pub tree_row-loop-code-preserved : goal.tree_row-loop-code-preserved
tree_row-loop-code-preserved t c =
    row_more c.loop-code.trees.items _ c.in_ok-tree.tree c.deref-code-items.result.now c.loop-code.code-index c.code-item.result c.in_ok-push.ensures.items c.loop-code-test.true c.code-item.is c.in_ok-tree.ensures c.loop-code.invariant

pub tree_row-returns : goal.tree_row-returns
tree_row-returns t c =
    let same = c.deref-code-items.ensures.value ∙ ap (λ v. v.items) c.deref.ensures in
    ap (λ v. trees_of v.items) c.in_ok-new.ensures.ok ∙ row_all c.loop-code.trees.items c.deref-code-items.result.now c.loop-code.code-index c.loop-code-test.false c.loop-code.invariant ∙ ap trees_of_codes same

pub method_trees-tree_row-requires : goal.method_trees-tree_row-requires
method_trees-tree_row-requires t c = (omega (arith, method_nodes c.args.methods.now c.loop-method.method-index c.method-item.result c.loop-method-test.true c.method-item.is), tt)

pub method_trees-loop-method-preserved : goal.method_trees-loop-method-preserved
method_trees-loop-method-preserved t c =
    methods_more c.loop-method.trees.items _ _ c.args.methods.now c.loop-method.method-index c.method-item.result c.in_ok-push.ensures.items c.loop-method-test.true c.method-item.is
    c.in_ok-share.ensures (search rules) c.in_ok-body.ensures c.loop-method.invariant

pub method_trees-returns : goal.method_trees-returns
method_trees-returns t c = methods_all c.loop-method.trees.items c.args.methods.now c.loop-method.method-index c.loop-method-test.false c.loop-method.invariant

pub called-returns : goal.called-returns
called-returns t c = made_call c.in_ok-receiver.receiver c.in_ok-share.field-0 c.in_ok-args.args c.in_ok-receiver.ensures (c.in_ok-share.ensures ∙ c.text.ensures) c.in_ok-args.ensures

pub sent-returns : goal.sent-returns
sent-returns t c = made_send c.in_ok-receiver.receiver c.in_ok-share.field-0 c.in_ok-args.args c.in_ok-receiver.ensures (c.in_ok-share.ensures ∙ c.text.ensures) c.in_ok-args.ensures

pub chosen-returns : goal.chosen-returns
chosen-returns t c = made_if c.in_ok-condition.condition c.in_ok-first.first c.in_ok-second.second c.in_ok-condition.ensures c.in_ok-first.ensures c.in_ok-second.ensures

pub repeated-returns : goal.repeated-returns
repeated-returns t c = made_while c.in_ok-condition.condition c.in_ok-body.body c.in_ok-condition.ensures c.in_ok-body.ensures

pub walked-returns : goal.walked-returns
walked-returns t c = made_for c.in_ok-share.field-0 c.in_ok-list.list c.in_ok-body.body c.in_ok-share.ensures c.in_ok-list.ensures c.in_ok-body.ensures

pub tried-returns : goal.tried-returns
tried-returns t c = made_try c.in_ok-body.body c.in_ok-share.field-0 c.in_ok-handler.handler c.in_ok-body.ensures c.in_ok-share.ensures c.in_ok-handler.ensures

pub made-method_trees-requires : goal.made-method_trees-requires
made-method_trees-requires t c =
    let same = c.deref-2.ensures.value ∙ ap (λ v. v.items) c.deref.ensures in
    (omega (arith, ap (λ xs. nodes_of (methods_of_codes xs)) same), tt)

pub made-returns : goal.made-returns
made-returns t c =
    let same = c.deref-2.ensures.value ∙ ap (λ v. v.items) c.deref.ensures in
    made_object c.in_ok-share.field-0 c.in_ok-new.field-0 c.in_ok-share.ensures (ap (λ v. methods_of v.items) c.in_ok-new.ensures.ok ∙ c.in_ok-methods.ensures ∙ ap methods_of_codes same)

pub escaped-returns : goal.escaped-returns
escaped-returns t c = made_escape c.in_ok-share.field-0 c.in_ok-body.body c.in_ok-share.ensures c.in_ok-body.ensures

pub awaited-returns : goal.awaited-returns
awaited-returns t c = made_when c.in_ok-value.value c.in_ok-body.body c.in_ok-value.ensures c.in_ok-body.ensures

pub caught-returns : goal.caught-returns
caught-returns t c = made_when_catch c.in_ok-value.value c.in_ok-body.body c.in_ok-share.field-0 c.in_ok-handler.handler c.in_ok-value.ensures c.in_ok-body.ensures c.in_ok-share.ensures c.in_ok-handler.ensures
