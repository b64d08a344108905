use Rattle.std.proofs.Common.{◌≡◌, ℕ, List, [], ◌∷◌, refl, ap, sym, subst, ◌∙◌, ◌++◌, append_assoc, rules, string_bytes, codes, OnOk}
use Rattle.std.proofs.lemmas.Result.{IfOk-equal}
use Rattle.kernele.specs.Spelling.{led_by, joined, as_part, spelled, spelled_parts, spelled_items, spelled_methods, methods_in_braces, method_text}
use Rattle.kernele.specs.View.{tree_of, trees_of, methods_of}
use Rattle.kernele.proofs.Views.{tree_of-Call, tree_of-List, tree_of-Hide, tree_of-If, tree_of-While, tree_of-For, tree_of-Try, tree_of-Escape, tree_of-Send, tree_of-When, tree_of-WhenCatch}
use Rattle.kernele.proofs.Walks.{tree_is_object, braces, append_more, append_end, methods_more, methods_end}
use Rattle.kernele.proofs.Halves.{written_in_two}
use Rattle.kernele.proofs.printing.+print.Goals as goal

pub write_expr-returns : goal.write_expr-returns
write_expr-returns t c =
    rw (← written_in_two (string_bytes c.args.out.now) (tree_of c.args.e.now)) (search (rules, IfOk-equal, append_assoc))

pub write_parts-loop-part-preserved : goal.write_parts-loop-part-preserved
write_parts-loop-part-preserved t c =
    append_more (λ ts. led_by (codes ", ") (spelled_parts ts)) (λ t. codes ", " ++ as_part t (spelled t)) (λ t ts. refl) (string_bytes c.loop-part.out) c.in-Some.rest.now c.loop-part.part-index c.part-item.result c.loop-part-test.true c.part-item.is c.in_ok-write_part-2.ensures
    ∙ c.loop-part.invariant

pub write_parts-returns : goal.write_parts-returns
write_parts-returns t c =
    let written = append_end (λ ts. led_by (codes ", ") (spelled_parts ts)) refl c.in-Some.rest.now c.loop-part.part-index c.loop-part-test.false c.loop-part.invariant in
    let slice : c.deref-2.result.now ≡ c.args.parts.now.value.items = c.deref-2.ensures.value ∙ ap (λ v. v.items) c.deref.ensures in
    rw (ap (λ xs. joined (codes ", ") (spelled_parts (trees_of xs))) (sym slice ∙ c.in-Some.ensures.cases.0)) (search (rules, IfOk-equal, append_assoc, written))

pub write_items-loop-item-preserved : goal.write_items-loop-item-preserved
write_items-loop-item-preserved t c =
    append_more (λ ts. led_by (codes "; ") (spelled_items ts)) (λ t. codes "; " ++ spelled t) (λ t ts. refl) (string_bytes c.loop-item.out) c.in-Some.rest.now c.loop-item.item-index c.item-item.result c.loop-item-test.true c.item-item.is (search (rules, append_assoc))
    ∙ c.loop-item.invariant

pub write_items-returns-after-loop-item : goal.write_items-returns-after-loop-item
write_items-returns-after-loop-item t c =
    let written = append_end (λ ts. led_by (codes "; ") (spelled_items ts)) refl c.in-Some.rest.now c.loop-item.item-index c.loop-item-test.false c.loop-item.invariant in
    written ∙ ap (λ s. s ++ led_by (codes "; ") (spelled_items (trees_of c.in-Some.rest.now))) c.in_ok-write_expr.ensures
    ∙ append_assoc (string_bytes c.args.out.now) (spelled (tree_of c.in-Some.first.now)) (led_by (codes "; ") (spelled_items (trees_of c.in-Some.rest.now)))
    ∙ ap (λ xs. string_bytes c.args.out.now ++ joined (codes "; ") (spelled_items (trees_of xs))) (sym c.in-Some.ensures.cases.0)

pub write_beginning-returns-in-List : goal.write_beginning-returns-in-List
write_beginning-returns-in-List t c =
    rw (ap tree_of c.in-List.is ∙ tree_of-List c.in-List.items) c.write_parts.ensures

pub write_beginning-returns-in-Primitive : goal.write_beginning-returns-in-Primitive
write_beginning-returns-in-Primitive t c = rw (ap tree_of c.in-Primitive.is, ← c.words.ensures, ← c.deref-in-Primitive.ensures) c.write_part-in-Primitive.ensures

pub write_beginning-returns-in-Hide : goal.write_beginning-returns-in-Hide
write_beginning-returns-in-Hide t c =
    rw (ap tree_of c.in-Hide.is ∙ tree_of-Hide c.in-Hide.body) c.write_block.ensures

pub write_beginning-returns-in-Try : goal.write_beginning-returns-in-Try
write_beginning-returns-in-Try t c =
    rw (ap tree_of c.in-Try.is ∙ tree_of-Try c.in-Try.body c.in-Try.field-1 c.in-Try.field-2) c.write_block-in-Try.ensures

pub write_rest-returns-in-Call : goal.write_rest-returns-in-Call
write_rest-returns-in-Call t c =
    rw (ap tree_of c.in-Call.is ∙ tree_of-Call c.in-Call.field-0 c.in-Call.verb c.in-Call.args) c.write_message.ensures

pub write_rest-returns-in_ok-write_block-in-If : goal.write_rest-returns-in_ok-write_block-in-If
write_rest-returns-in_ok-write_block-in-If t c =
    rw (ap tree_of c.in-If.is ∙ tree_of-If c.in-If.field-0 c.in-If.first c.in-If.second) (search (rules, IfOk-equal, append_assoc))

pub write_rest-returns-in-While : goal.write_rest-returns-in-While
write_rest-returns-in-While t c =
    rw (ap tree_of c.in-While.is ∙ tree_of-While c.in-While.field-0 c.in-While.body) c.write_block-in-While.ensures

pub write_rest-returns-in_ok-write_part-in-For : goal.write_rest-returns-in_ok-write_part-in-For
write_rest-returns-in_ok-write_part-in-For t c =
    rw (ap tree_of c.in-For.is ∙ tree_of-For c.in-For.field-0 c.in-For.list c.in-For.body) (search (rules, IfOk-equal, append_assoc))

pub write_rest-returns-in-Try : goal.write_rest-returns-in-Try
write_rest-returns-in-Try t c =
    rw (ap tree_of c.in-Try.is ∙ tree_of-Try c.in-Try.field-0 c.in-Try.pattern c.in-Try.handler) c.write_catch.ensures

pub write_rest-returns-in-Send : goal.write_rest-returns-in-Send
write_rest-returns-in-Send t c =
    rw (ap tree_of c.in-Send.is ∙ tree_of-Send c.in-Send.field-0 c.in-Send.verb c.in-Send.args) c.write_message-in-Send.ensures

pub write_rest-returns-in-When : goal.write_rest-returns-in-When
write_rest-returns-in-When t c =
    rw (ap tree_of c.in-When.is ∙ tree_of-When c.in-When.field-0 c.in-When.body) c.write_block-in-When.ensures

pub write_rest-returns-in_ok-write_block-in-WhenCatch : goal.write_rest-returns-in_ok-write_block-in-WhenCatch
write_rest-returns-in_ok-write_block-in-WhenCatch t c =
    rw (ap tree_of c.in-WhenCatch.is ∙ tree_of-WhenCatch c.in-WhenCatch.field-0 c.in-WhenCatch.body c.in-WhenCatch.pattern c.in-WhenCatch.handler) (search (rules, IfOk-equal, append_assoc))

pub write_rest-returns-in-Escape : goal.write_rest-returns-in-Escape
write_rest-returns-in-Escape t c =
    rw (ap tree_of c.in-Escape.is ∙ tree_of-Escape c.in-Escape.field-0 c.in-Escape.body) c.write_block-in-Escape.ensures

pub write_rest-returns-in-Object : goal.write_rest-returns-in-Object
write_rest-returns-in-Object t c =
    rw (tree_is_object c.in-Object.field-0 c.in-Object.methods c.in-Object.is refl c.deref-in-Object.ensures c.deref-in-Object-2.ensures.value) c.write_methods.ensures

pub write_block-returns : goal.write_block-returns
write_block-returns t c =
    let slice : c.as_slice-items.result.now ≡ c.args.body.now.value.items = c.as_slice-items.ensures.value ∙ ap (λ v. v.items) c.deref.ensures in
    rw (← slice) (rw (braces c.as_slice-items.result.now c.is_empty.result c.is_empty.ensures c.if-is_empty.false) (search (rules, IfOk-equal, append_assoc)))

pub write_methods-loop-method-preserved : goal.write_methods-loop-method-preserved
write_methods-loop-method-preserved t c =
    methods_more (λ ms. led_by (codes " ") (spelled_methods ms)) (λ m. codes " " ++ method_text m.verb m.parameters.value.items (spelled_items (trees_of m.body.value.items))) (λ m ms. refl) (string_bytes c.loop-method.out) c.args.methods.now c.loop-method.method-index c.method-item.result c.loop-method-test.true c.method-item.is (search (rules, append_assoc))
    ∙ c.loop-method.invariant

-- methods in braces, a space before each and before the braces
methods_text : (was : List ℕ) (methods : List (List ℕ)) → was ++ codes " {" ++ led_by (codes " ") methods ++ codes " }" ≡ was ++ (codes " " ++ methods_in_braces methods)
methods_text was [] = simp append_assoc
methods_text was (s ∷ rest) = search (rules, append_assoc)

pub write_methods-returns : goal.write_methods-returns
write_methods-returns t c =
    let written = methods_end (λ ms. led_by (codes " ") (spelled_methods ms)) refl c.args.methods.now c.loop-method.method-index c.loop-method-test.false c.loop-method.invariant in
    let whole = ap (λ s. (s ++ led_by (codes " ") (spelled_methods (methods_of c.args.methods.now))) ++ codes " }") c.in_ok-push_str.ensures.bytes
    ∙ methods_text (string_bytes c.args.out.now) (spelled_methods (methods_of c.args.methods.now)) in
    subst (λ s. OnOk c.push_str-2.result (string_bytes c.push_str-2.new.self ≡ s)) (ap (λ s. s ++ codes " }") written ∙ whole) (search rules)
