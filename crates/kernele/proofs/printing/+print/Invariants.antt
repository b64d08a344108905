use Rattle.std.proofs.Common.{◌≡◌, ◌+◌, ◌*◌, ◌++◌, string_bytes, codes, drop}
use denote.Param.Weighed.{most}
use Rattle.kernele.specs.View.{trees_of, methods_of}
use Rattle.kernele.specs.Spelling.{led_by, spelled_parts, spelled_items, spelled_methods}
use Rattle.kernele.proofs.tree.Expr.TheLaws.{the_size}
use Rattle.kernele.proofs.tree.Method.TheLaws as method
use Rattle.kernele.proofs.printing.+print.Given as goal

-- what is written, and what the trees that are left give
abbrev pub invariant-write_parts-loop-part : goal.invariant-write_parts-loop-part
invariant-write_parts-loop-part l = string_bytes l.out ++ led_by (codes ", ") (spelled_parts (trees_of (drop l.part-index l.rest))) ≡ string_bytes l.initial.out ++ led_by (codes ", ") (spelled_parts (trees_of l.rest))

-- the same of the items of a block
abbrev pub invariant-write_items-loop-item : goal.invariant-write_items-loop-item
invariant-write_items-loop-item l = string_bytes l.out ++ led_by (codes "; ") (spelled_items (trees_of (drop l.item-index l.rest))) ≡ string_bytes l.initial.out ++ led_by (codes "; ") (spelled_items (trees_of l.rest))

-- the same of methods
abbrev pub invariant-write_methods-loop-method : goal.invariant-write_methods-loop-method
invariant-write_methods-loop-method l = string_bytes l.out ++ led_by (codes " ") (spelled_methods (methods_of (drop l.method-index l.methods))) ≡ string_bytes l.initial.out ++ led_by (codes " ") (spelled_methods (methods_of l.methods))

-- the depth of a tree, and the order of the calls that go no deeper
abbrev pub decreases-write_beginning : goal.decreases-write_beginning
decreases-write_beginning l = 6 * the_size l.e.now

abbrev pub decreases-write_rest : goal.decreases-write_rest
decreases-write_rest l = 6 * the_size l.e.now

abbrev pub decreases-write_expr : goal.decreases-write_expr
decreases-write_expr l = 6 * the_size l.e.now + 1

abbrev pub decreases-write_items : goal.decreases-write_items
decreases-write_items l = 6 * most (λ e. the_size e) l.items.now + 2

abbrev pub decreases-write_bracketed : goal.decreases-write_bracketed
decreases-write_bracketed l = 6 * the_size l.e.now + 2

abbrev pub decreases-write_part : goal.decreases-write_part
decreases-write_part l = 6 * the_size l.e.now + 3

abbrev pub decreases-write_block : goal.decreases-write_block
decreases-write_block l = 6 * most (λ e. the_size e) l.body.now.value.items + 3

abbrev pub decreases-write_parts : goal.decreases-write_parts
decreases-write_parts l = 6 * most (λ e. the_size e) l.parts.now.value.items + 4

abbrev pub decreases-write_methods : goal.decreases-write_methods
decreases-write_methods l = 6 * most (λ m. method.the_size m) l.methods.now + 4

abbrev pub decreases-write_catch : goal.decreases-write_catch
decreases-write_catch l = 6 * most (λ e. the_size e) l.handler.now.value.items + 4

abbrev pub decreases-write_message : goal.decreases-write_message
decreases-write_message l = 6 * most (λ e. the_size e) l.args.now.value.items + 5
