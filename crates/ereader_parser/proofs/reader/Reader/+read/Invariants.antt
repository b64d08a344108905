use Rattle.std.proofs.Common.{length, ◌*◌, ◌+◌}
use Rattle.ereader_forms.specs.Forms.{snoc}
use Rattle.ereader_grammar.specs.Reading.{within_at, operand_next, operands_from, postfix_from, postfix_next, items_at, commas_next, block_at, block_next, methods_at, methods_next}
use Rattle.ereader_grammar.specs.View.{plain}
use Rattle.kernele.specs.View.{tree_of, trees_of, methods_of}
use Rattle.ereader_grammar.proofs.Turns.{Turns}
use Rattle.ereader_signs.specs.Signs.{operator_of}
use Rattle.ereader_parser.specs.Levels.{level_at}
use Rattle.ereader_parser.proofs.Levels.{rank}
use Rattle.ereader_parser.proofs.reader.Reader.+read.Given as goal

abbrev pub decreases-expression : goal.decreases-expression
decreases-expression l = 64 * l.left + 0

abbrev pub decreases-returned : goal.decreases-returned
decreases-returned l = 64 * l.left + 1

abbrev pub decreases-condition : goal.decreases-condition
decreases-condition l = 64 * l.left + 1

abbrev pub decreases-expr : goal.decreases-expr
decreases-expr l = 64 * l.left + 2

abbrev pub decreases-args : goal.decreases-args
decreases-args l = 64 * l.left + 2

abbrev pub decreases-block : goal.decreases-block
decreases-block l = 64 * l.left + 3

abbrev pub decreases-braced : goal.decreases-braced
decreases-braced l = 64 * l.left + 5

abbrev pub decreases-head : goal.decreases-head
decreases-head l = 64 * l.left + 6

abbrev pub decreases-second : goal.decreases-second
decreases-second l = 64 * l.left + 7

abbrev pub decreases-conditional : goal.decreases-conditional
decreases-conditional l = 64 * l.left + 8

abbrev pub decreases-when_from : goal.decreases-when_from
decreases-when_from l = 64 * l.left + 8

abbrev pub decreases-when : goal.decreases-when
decreases-when l = 64 * l.left + 9

abbrev pub decreases-reference : goal.decreases-reference
decreases-reference l = 64 * l.left + 9

abbrev pub decreases-members : goal.decreases-members
decreases-members l = 64 * l.left + 10

abbrev pub decreases-object : goal.decreases-object
decreases-object l = 64 * l.left + 12

abbrev pub decreases-control : goal.decreases-control
decreases-control l = 64 * l.left + 13

abbrev pub decreases-bracketed : goal.decreases-bracketed
decreases-bracketed l = 64 * l.left + 14

abbrev pub decreases-primary : goal.decreases-primary
decreases-primary l = 64 * l.left + 15

abbrev pub decreases-postfix_from : goal.decreases-postfix_from
decreases-postfix_from l = 64 * l.left + 15

abbrev pub decreases-operands : goal.decreases-operands
decreases-operands l = 64 * l.left + 4 * rank l.level + 21

abbrev pub decreases-operands_from : goal.decreases-operands_from
decreases-operands_from l = 64 * l.left + 4 * rank l.level + 20

abbrev pub decreases-joined_from : goal.decreases-joined_from
decreases-joined_from l = 64 * l.left + 4 * rank l.tighter + 22

abbrev pub decreases-comparison_from : goal.decreases-comparison_from
decreases-comparison_from l = 64 * l.left + 30

abbrev pub invariant-postfix_from-more : goal.invariant-postfix_from-more
invariant-postfix_from-more l =
    Turns (postfix_next (within_at l.left)) (postfix_from (within_at l.left) (tree_of l.fn.first) (plain l.fn.self.rest.now)) (tree_of l.postfix) (plain l.self.rest.now)

abbrev pub decreases-postfix_from-more : goal.decreases-postfix_from-more
decreases-postfix_from-more l = length (plain l.self.rest.now)

abbrev pub invariant-args-more : goal.invariant-args-more
invariant-args-more l =
    Turns (commas_next snoc (within_at l.left).expression) (items_at (within_at l.left) (plain l.fn.self.rest.now)) (trees_of l.items.items) (plain l.self.rest.now)

abbrev pub decreases-args-more : goal.decreases-args-more
decreases-args-more l = length (plain l.self.rest.now)

abbrev pub invariant-block-more : goal.invariant-block-more
invariant-block-more l =
    Turns (block_next (within_at l.left)) (block_at (within_at l.left) (plain l.fn.self.rest.now)) (trees_of l.items.items) (plain l.self.rest.now)

abbrev pub decreases-block-more : goal.decreases-block-more
decreases-block-more l = length (plain l.self.rest.now)

abbrev pub invariant-members-more : goal.invariant-members-more
invariant-members-more l =
    Turns (methods_next (within_at l.left)) (methods_at (within_at l.left) (plain l.fn.self.rest.now)) (methods_of l.methods.items) (plain l.self.rest.now)

abbrev pub decreases-members-more : goal.decreases-members-more
decreases-members-more l = length (plain l.self.rest.now)

abbrev pub invariant-joined_from-more : goal.invariant-joined_from-more
invariant-joined_from-more l =
    Turns (operand_next (operator_of l.level) (level_at l.tighter (within_at l.left))) (operands_from (operator_of l.level) (level_at l.tighter (within_at l.left)) (tree_of l.fn.first) (plain l.fn.self.rest.now)) (tree_of l.joined) (plain l.self.rest.now)

abbrev pub decreases-joined_from-more : goal.decreases-joined_from-more
decreases-joined_from-more l = length (plain l.self.rest.now)
