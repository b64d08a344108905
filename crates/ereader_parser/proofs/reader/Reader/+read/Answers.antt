use Rattle.std.proofs.Common.{rules, arith, length, sym, ap, ◌∙◌}
use Rattle.std.proofs.lemmas.Result.{err_from_is_err_and}
use Rattle.kernele.specs.Tree.{and_then, none}
use Rattle.etoken.specs.declared.breaks.Bracket.TheVariants as bracket
use Rattle.ereader_grammar.proofs.Turns.{turns_here, turns_begin}
use Rattle.ereader_grammar.proofs.Shorter.{shorter_expression, shorter_expr, shorter_args, shorter_block, shorter_method}
use Rattle.ereader_forms.proofs.Views.{trees_push}
use Rattle.ereader_signs.specs.Signs.{link_of, operator_of, closer}
use Rattle.ereader_grammar.proofs.Steps.{rest_le, front_length, operand_more, operand_end, postfix_more, postfix_end, commas_more, commas_end, block_begin, block_more, block_end, separator_le, methods_begin, methods_more, methods_end}
use Rattle.ids.proofs.Failing.{claims_nothing}
use Rattle.ereader_parser.proofs.Levels.{first_read, first_fails, behind_here, behind_read, behind_compared, behind_fails, shorter_level}
use Rattle.ereader_parser.proofs.Steps.{gives_behind, gives_shared_behind, operand_fails, args_fail, verb_fails, block_part_fails}
use Rattle.ereader_parser.proofs.Parts.{expression_gives, expression_none, else_if_is, else_if_fails, else_if_none, makes, makes_many, makes_head, for_is, other_word, head_is, head_fails, head_block_fails, method_is, method_head_fails, method_block_fails, members_are, members_open, object_members, function_is, parameters_fail, function_fails, args_are, args_open, first_arg_fails, arg_fails, given_is, value_fails, condition_is, unary_is, primary_fails, postfix_fails, compared_is}
use Rattle.ereader_parser.specs.Heads.{head_at}
use Rattle.ereader_parser.specs.Levels.{level_at, level_from}
use Rattle.ereader_forms.specs.Forms.{snoc}
use Rattle.ereader_grammar.specs.Reading.{past, is_close, rest_of, control_at, commas_next, condition_at, comparison_from, else_at, expr_at, if_at, members_at, object_at, operand_next, operands_from, postfix_next, return_at, within_at}
use Rattle.ereader_grammar.specs.View.{plain}
use Rattle.kernele.specs.View.{tree_of}
use Rattle.ereader_parser.proofs.reader.Reader.+read.Goals as goal

pub expression-returns : goal.expression-returns
expression-returns t c =
    expression_gives c.operands.result c.args.left c.args.self.now c.operands.new.self (omega arith) c.operands.ensures

pub expression-returns-then-left-eq0 : goal.expression-returns-then-left-eq0
expression-returns-then-left-eq0 t c = rw c.if-left-eq0.true (expression_none (plain c.args.self.now.rest.now))

pub operands-returns-in_err-operand : goal.operands-returns-in_err-operand
operands-returns-in_err-operand t c =
    let k = err_from_is_err_and c.from_residual.result c.from_residual.ensures.1 in
    rw (k.1, k.2) (first_fails (within_at c.args.left) c.in_err-operand.field-0.0 c.args.level (plain c.args.self.now.rest.now) (primary_fails (within_at c.args.left) c.in_err-operand.field-0.0 c.prefix-prefix.result (plain c.args.self.now.rest.now) (plain c.prefix-prefix.new.self.rest.now) c.prefix-prefix.ensures.is c.prefix-prefix.ensures.past c.in_err-operand.ensures))

pub operands-returns-in_err-operand-2 : goal.operands-returns-in_err-operand-2
operands-returns-in_err-operand-2 t c =
    let k = err_from_is_err_and c.from_residual-in_err-operand-2.result c.from_residual-in_err-operand-2.ensures.1 in
    rw (k.1, k.2) (first_fails (within_at c.args.left) c.in_err-operand-2.field-0.0 c.args.level (plain c.args.self.now.rest.now) (postfix_fails (within_at c.args.left) c.in_err-operand-2.field-0.0 c.prefix-prefix.result (plain c.args.self.now.rest.now) (plain c.prefix-prefix.new.self.rest.now) c.prefix-prefix.ensures.is c.prefix-prefix.ensures.past c.in_ok-operand.ensures c.in_err-operand-2.ensures))

pub operands-returns : goal.operands-returns
operands-returns t c =
    gives_behind c.operands_from.result c.args.self.now c.postfix_from.new.self c.operands_from.new.self (level_at c.args.level (within_at c.args.left)) (level_from c.args.level (within_at c.args.left) (tree_of c.in_ok-first.first))
    (first_read (within_at c.args.left) c.args.level (plain c.args.self.now.rest.now) (rw c.in_ok-first.ensures (unary_is (within_at c.args.left) c.prefix-prefix.result (plain c.args.self.now.rest.now) (plain c.prefix-prefix.new.self.rest.now) c.prefix-prefix.ensures.is c.prefix-prefix.ensures.past c.in_ok-operand.ensures c.in_ok-operand-2.ensures))) c.operands_from.ensures

pub operands_from-returns-in_default : goal.operands_from-returns-in_default
operands_from-returns-in_default t c =
    behind_here (within_at c.args.left) (tree_of c.args.first) (plain c.args.self.now.rest.now) c.args.level (sym c.tighter.ensures ∙ c.in_default.is)

pub operands_from-returns-in_err-operand : goal.operands_from-returns-in_err-operand
operands_from-returns-in_err-operand t c =
    let k = err_from_is_err_and c.from_residual.result c.from_residual.ensures.1 in
    rw (k.1, k.2) (behind_fails (within_at c.args.left) (tree_of c.args.first) (plain c.args.self.now.rest.now) c.in_err-operand.field-0.0 c.args.level _ (sym c.tighter.ensures ∙ c.in-Some.is) c.in_err-operand.ensures)

pub operands_from-returns-then-joins_two : goal.operands_from-returns-then-joins_two
operands_from-returns-then-joins_two t c =
    gives_behind c.comparison_from.result c.args.self.now c.operands_from.new.self c.comparison_from.new.self (level_from c.args.level (within_at c.args.left) (tree_of c.args.first)) (comparison_from (within_at c.args.left) (tree_of c.in_ok-operand.operand))
    (behind_compared (within_at c.args.left) (tree_of c.args.first) (plain c.args.self.now.rest.now) c.args.level c.in-Some.tighter (sym c.tighter.ensures ∙ c.in-Some.is) (sym c.joins_two.ensures ∙ c.if-joins_two.true) c.in_ok-operand.ensures) c.comparison_from.ensures

pub operands_from-returns : goal.operands_from-returns
operands_from-returns t c =
    gives_behind c.joined_from.result c.args.self.now c.operands_from.new.self c.joined_from.new.self (level_from c.args.level (within_at c.args.left) (tree_of c.args.first)) (operands_from (operator_of c.args.level) (level_at c.in-Some.tighter (within_at c.args.left)) (tree_of c.in_ok-operand.operand))
    (behind_read (within_at c.args.left) (tree_of c.args.first) (plain c.args.self.now.rest.now) c.args.level c.in-Some.tighter (sym c.tighter.ensures ∙ c.in-Some.is) (sym c.joins_two.ensures ∙ c.if-joins_two.false) c.in_ok-operand.ensures) c.joined_from.ensures

pub joined_from-more-init : goal.joined_from-more-init
joined_from-more-init t c = turns_here (operand_next (operator_of c.args.level) (level_at c.args.tighter (within_at c.args.left))) (tree_of c.args.first) (plain c.args.self.now.rest.now)

pub joined_from-more-preserved : goal.joined_from-more-preserved
joined_from-more-preserved t c =
    rw (c.in_ok-joined.ensures, c.in_ok-whole.ensures.ok)
    (operand_more (operator_of c.args.level) (level_at c.args.tighter (within_at c.args.left)) _ (plain c.skip.new.self.rest.now) _ c.more.invariant (sym c.operator.ensures ∙ c.in-Some.is) c.skip.ensures c.in_ok-right.ensures (shorter_level c.args.left c.args.tighter (plain c.skip.new.self.rest.now) c.in_ok-right.ensures))

pub joined_from-more-smaller : goal.joined_from-more-smaller
joined_from-more-smaller t c = omega (arith, shorter_level c.args.left c.args.tighter (plain c.skip.new.self.rest.now) c.in_ok-right.ensures, ap length c.skip.ensures, rest_le (plain c.more.self.rest.now))

pub joined_from-returns-in_err-right : goal.joined_from-returns-in_err-right
joined_from-returns-in_err-right t c =
    let k = err_from_is_err_and c.from_residual-in_err-right.result c.from_residual-in_err-right.ensures.1 in
    rw (k.1, k.2) (operand_fails (operator_of c.args.level) (level_at c.args.tighter (within_at c.args.left)) c.in_err-right.field-0.0 (plain c.skip.new.self.rest.now) c.more.invariant (sym c.operator.ensures ∙ c.in-Some.is) c.skip.ensures c.in_err-right.ensures)

pub joined_from-returns : goal.joined_from-returns
joined_from-returns t c = operand_end (operator_of c.args.level) (level_at c.args.tighter (within_at c.args.left)) c.more.invariant (search rules)

pub comparison_from-returns : goal.comparison_from-returns
comparison_from-returns t c =
    makes c.joined.result c.args.self.now c.operands.new.self (comparison_from (within_at c.args.left) (tree_of c.args.first)) c.joined.ensures
    (rw c.in_ok-first.ensures.ok (compared_is (within_at c.args.left) (tree_of c.args.first) (plain c.args.self.now.rest.now) (plain c.skip.new.self.rest.now) (sym c.operator.ensures ∙ c.in-Some.is) c.skip.ensures c.in_ok-second.ensures))

pub postfix_from-more-init : goal.postfix_from-more-init
postfix_from-more-init t c = turns_here (postfix_next (within_at c.args.left)) (tree_of c.args.first) (plain c.args.self.now.rest.now)

pub postfix_from-more-preserved : goal.postfix_from-more-preserved
postfix_from-more-preserved t c =
    postfix_more (within_at c.args.left) _ (plain c.skip.new.self.rest.now) _ c.more.invariant (sym c.link.ensures ∙ c.in-Some.is) c.skip.ensures (search rules)
    (omega (arith, shorter_args c.args.left (plain c.verb.new.self.rest.now) (closer c.in-Some.link) (rw c.bracket.ensures at c.in_ok-args.ensures), c.in_ok-verb.ensures.shorter))

pub postfix_from-more-smaller : goal.postfix_from-more-smaller
postfix_from-more-smaller t c =
    omega (arith, shorter_args c.args.left (plain c.verb.new.self.rest.now) (closer c.in-Some.link) (rw c.bracket.ensures at c.in_ok-args.ensures), c.in_ok-verb.ensures.shorter, ap length c.skip.ensures, front_length link_of (plain c.more.self.rest.now) (sym c.link.ensures ∙ c.in-Some.is))

pub postfix_from-returns-in_err-verb : goal.postfix_from-returns-in_err-verb
postfix_from-returns-in_err-verb t c =
    let k = err_from_is_err_and c.from_residual-in_err-verb.result c.from_residual-in_err-verb.ensures.1 in
    rw (k.1, k.2) (verb_fails (within_at c.args.left) c.in_err-verb.field-0.0 (plain c.skip.new.self.rest.now) c.more.invariant (sym c.link.ensures ∙ c.in-Some.is) c.skip.ensures c.in_err-verb.ensures.gives)

pub postfix_from-returns-in_err-args : goal.postfix_from-returns-in_err-args
postfix_from-returns-in_err-args t c =
    let k = err_from_is_err_and c.from_residual-in_err-args.result c.from_residual-in_err-args.ensures.1 in
    rw (k.1, k.2) (args_fail (within_at c.args.left) c.in_err-args.field-0.0 (plain c.skip.new.self.rest.now) c.more.invariant (sym c.link.ensures ∙ c.in-Some.is) c.skip.ensures c.in_ok-verb.ensures.gives c.bracket.ensures c.in_err-args.ensures)

pub postfix_from-returns : goal.postfix_from-returns
postfix_from-returns t c = postfix_end (within_at c.args.left) c.more.invariant (search rules)

pub args-returns-in_err-first : goal.args-returns-in_err-first
args-returns-in_err-first t c =
    let k = err_from_is_err_and c.from_residual.result c.from_residual.ensures.1 in
    rw (k.1, k.2) (first_arg_fails (within_at c.args.left) c.in_err-first.field-0.0 c.args.bracket (plain c.args.self.now.rest.now) (sym c.at_close.ensures ∙ c.if-at_close.false) c.in_err-first.ensures)

pub args-more-init : goal.args-more-init
args-more-init t c = rw c.in_ok-items.ensures (turns_begin (commas_next snoc (within_at c.args.left).expression) (λ t. and_then t none) ((within_at c.args.left).expression (plain c.args.self.now.rest.now)) c.in_ok-first.ensures)

pub args-more-preserved : goal.args-more-preserved
args-more-preserved t c =
    rw (c.in_ok-push.ensures.items, trees_push)
    (commas_more snoc (within_at c.args.left).expression _ (plain c.skip-in-more.new.self.rest.now) _ c.more.invariant (sym c.at_comma.ensures ∙ c.more-test.true) c.skip-in-more.ensures c.in_ok-item.ensures (shorter_expression c.args.left (plain c.skip-in-more.new.self.rest.now) c.in_ok-item.ensures))

pub args-more-smaller : goal.args-more-smaller
args-more-smaller t c = omega (arith, shorter_expression c.args.left (plain c.skip-in-more.new.self.rest.now) c.in_ok-item.ensures, ap length c.skip-in-more.ensures, rest_le (plain c.more.self.rest.now))

pub args-returns-in_err-item : goal.args-returns-in_err-item
args-returns-in_err-item t c =
    let k = err_from_is_err_and c.from_residual-in_err-item.result c.from_residual-in_err-item.ensures.1 in
    rw (k.1, k.2) (arg_fails (within_at c.args.left) c.in_err-item.field-0.0 c.args.bracket (plain c.args.self.now.rest.now) (plain c.skip-in-more.new.self.rest.now) (sym c.at_close.ensures ∙ c.if-at_close.false) c.more.invariant (sym c.at_comma.ensures ∙ c.more-test.true) c.skip-in-more.ensures c.in_err-item.ensures)

pub args-returns : goal.args-returns
args-returns t c = args_are (within_at c.args.left) c.args.bracket (plain c.args.self.now.rest.now) (plain c.more.self.rest.now) (sym c.at_close.ensures ∙ c.if-at_close.false) (commas_end snoc (within_at c.args.left).expression c.more.invariant (sym c.at_comma.ensures ∙ c.more-test.false)) c.in_ok-close.ensures.0 c.in_ok-close.ensures.1

pub args-returns-in_err-close : goal.args-returns-in_err-close
args-returns-in_err-close t c =
    let k = err_from_is_err_and c.from_residual-in_err-close.result c.from_residual-in_err-close.ensures.1 in
    rw (k.1, k.2) (rw c.in_err-close.ensures.1 (args_open (within_at c.args.left) c.args.bracket (plain c.args.self.now.rest.now) (plain c.more.self.rest.now) (sym c.at_close.ensures ∙ c.if-at_close.false) (commas_end snoc (within_at c.args.left).expression c.more.invariant (sym c.at_comma.ensures ∙ c.more-test.false)) c.in_err-close.ensures.0))

pub block-more-init : goal.block-more-init
block-more-init t c = rw c.new-items.ensures.items (block_begin (within_at c.args.left) (plain c.args.self.now.rest.now) _ c.skip_semicolons.ensures)

pub block-more-preserved : goal.block-more-preserved
block-more-preserved t c =
    rw c.in_ok-put_item.ensures.0 (block_more (within_at c.args.left) _ _ _ c.more.invariant (sym c.at_block_end.ensures ∙ c.more-test.true) c.in_ok-item.ensures (shorter_expr c.args.left (plain c.more.self.rest.now) c.in_ok-item.ensures) c.in_ok-put_item.ensures.1)

pub block-more-smaller : goal.block-more-smaller
block-more-smaller t c = omega (arith, shorter_expr c.args.left (plain c.more.self.rest.now) c.in_ok-item.ensures, separator_le (plain c.expr.new.self.rest.now) (plain c.put_item.new.self.rest.now) c.in_ok-put_item.ensures.1)

pub block-returns-clause-gives : goal.block-returns-clause-gives
block-returns-clause-gives t c = block_end (within_at c.args.left) c.more.invariant (sym c.at_block_end.ensures ∙ c.more-test.false)

pub block-returns-clause-shorter : goal.block-returns-clause-shorter
block-returns-clause-shorter t c = shorter_block c.args.left (plain c.args.self.now.rest.now) (block_end (within_at c.args.left) c.more.invariant (sym c.at_block_end.ensures ∙ c.more-test.false))

pub block-returns-in_err-put_item-clause-gives : goal.block-returns-in_err-put_item-clause-gives
block-returns-in_err-put_item-clause-gives t c =
    let k = err_from_is_err_and c.from_residual-in_err-put_item.result c.from_residual-in_err-put_item.ensures.1 in
    rw (k.1, k.2) (block_part_fails (within_at c.args.left) c.in_err-put_item.field-0.0 _ _ c.more.invariant (sym c.at_block_end.ensures ∙ c.more-test.true) c.in_ok-item.ensures c.in_err-put_item.ensures)

pub block-returns-in_err-item-clause-shorter : goal.block-returns-in_err-item-clause-shorter
block-returns-in_err-item-clause-shorter t c = claims_nothing c.from_residual.result _ c.from_residual.ensures.0

pub block-returns-in_err-put_item-clause-shorter : goal.block-returns-in_err-put_item-clause-shorter
block-returns-in_err-put_item-clause-shorter t c = claims_nothing c.from_residual-in_err-put_item.result _ c.from_residual-in_err-put_item.ensures.0

pub condition-returns : goal.condition-returns
condition-returns t c =
    gives_shared_behind c.closed_condition.result c.args.self.now c.expression.new.self c.closed_condition.new.self (condition_at (within_at c.args.left)) (λ a. past (is_close bracket.Round) (tree_of c.in_ok-condition.condition, a))
    (condition_is (within_at c.args.left) (plain c.args.self.now.rest.now) (plain c.open.new.self.rest.now) c.in_ok-open.ensures.0 c.in_ok-open.ensures.1 c.in_ok-condition.ensures) c.closed_condition.ensures

pub conditional-returns : goal.conditional-returns
conditional-returns t c =
    makes c.choice.result c.args.self.now c.second.new.self (if_at (within_at c.args.left)) c.choice.ensures
    (rw (c.in_ok-condition.ensures, c.in_ok-first.ensures, c.in_ok-second.ensures))

pub second-returns : goal.second-returns
second-returns t c =
    makes_many c.one.result c.args.self.now c.conditional.new.self (else_at (within_at c.args.left)) c.one.ensures
    (else_if_is c.args.left (plain c.args.self.now.rest.now) (plain c.skip.new.self.rest.now) (plain c.skip-2.new.self.rest.now) (omega arith) (sym c.at_else.ensures ∙ c.if-not-at_else.false) c.skip.ensures (sym c.at_if.ensures ∙ c.if-not-at_if.false) c.skip-2.ensures c.in_ok-inner.ensures)

pub second-returns-in_err-inner : goal.second-returns-in_err-inner
second-returns-in_err-inner t c =
    let k = err_from_is_err_and c.from_residual.result c.from_residual.ensures.1 in
    rw (k.1, k.2) (else_if_fails c.in_err-inner.field-0.0 c.args.left (plain c.args.self.now.rest.now) (plain c.skip.new.self.rest.now) (plain c.skip-2.new.self.rest.now) (omega arith) (sym c.at_else.ensures ∙ c.if-not-at_else.false) c.skip.ensures (sym c.at_if.ensures ∙ c.if-not-at_if.false) c.skip-2.ensures c.in_err-inner.ensures)

pub second-returns-then-left-eq0 : goal.second-returns-then-left-eq0
second-returns-then-left-eq0 t c =
    rw c.if-left-eq0.true (else_if_none (plain c.args.self.now.rest.now) (plain c.skip.new.self.rest.now) (sym c.at_else.ensures ∙ c.if-not-at_else.false) c.skip.ensures (sym c.at_if.ensures ∙ c.if-not-at_if.false))

pub object-returns-then-at_open : goal.object-returns-then-at_open
object-returns-then-at_open t c =
    gives_behind c.members.result c.args.self.now c.skip.new.self c.members.new.self (object_at (within_at c.args.left)) (members_at (within_at c.args.left) c.in_ok-pattern.pattern)
    (object_members (within_at c.args.left) (plain c.args.self.now.rest.now) (plain c.pattern.new.self.rest.now) (plain c.skip.new.self.rest.now) c.in_ok-pattern.ensures.gives (sym c.at_open.ensures ∙ c.if-at_open.true) c.skip.ensures) c.members.ensures

pub object-returns-in_err-parameters : goal.object-returns-in_err-parameters
object-returns-in_err-parameters t c =
    let k = err_from_is_err_and c.from_residual-in_err-parameters.result c.from_residual-in_err-parameters.ensures.1 in
    rw (k.1, k.2) (parameters_fail (within_at c.args.left) c.in_err-parameters.field-0.0 (plain c.args.self.now.rest.now) (plain c.pattern.new.self.rest.now) c.in_ok-pattern.ensures.gives (sym c.at_open.ensures ∙ c.if-at_open.false) c.in_err-parameters.ensures)

pub object-returns-in_err-body : goal.object-returns-in_err-body
object-returns-in_err-body t c =
    let k = err_from_is_err_and c.from_residual-in_err-body.result c.from_residual-in_err-body.ensures.1 in
    rw (k.1, k.2) (function_fails (within_at c.args.left) c.in_err-body.field-0.0 (plain c.args.self.now.rest.now) (plain c.pattern.new.self.rest.now) c.in_ok-pattern.ensures.gives (sym c.at_open.ensures ∙ c.if-at_open.false) c.in_ok-parameters.ensures c.in_err-body.ensures)

pub object-returns : goal.object-returns
object-returns t c =
    makes c.function.result c.args.self.now c.braced.new.self (object_at (within_at c.args.left)) c.function.ensures (function_is (within_at c.args.left) (plain c.args.self.now.rest.now) (plain c.pattern.new.self.rest.now) c.in_ok-pattern.ensures.gives (sym c.at_open.ensures ∙ c.if-at_open.false) c.in_ok-parameters.ensures c.in_ok-body.ensures)

pub members-more-init : goal.members-more-init
members-more-init t c = rw c.new-methods.ensures.items (methods_begin (within_at c.args.left) (plain c.args.self.now.rest.now))

pub members-more-preserved : goal.members-more-preserved
members-more-preserved t c =
    rw c.in_ok-put.ensures (methods_more (within_at c.args.left) _ _ c.more.invariant (sym c.at_method.ensures ∙ c.more-test.true) (method_is (within_at c.args.left) (plain c.more.self.rest.now) c.in_ok-head.ensures c.in_ok-body.ensures) (shorter_method c.args.left (plain c.more.self.rest.now) (sym c.at_method.ensures ∙ c.more-test.true) (method_is (within_at c.args.left) (plain c.more.self.rest.now) c.in_ok-head.ensures c.in_ok-body.ensures)))

pub members-more-smaller : goal.members-more-smaller
members-more-smaller t c = omega (arith, shorter_method c.args.left (plain c.more.self.rest.now) (sym c.at_method.ensures ∙ c.more-test.true) (method_is (within_at c.args.left) (plain c.more.self.rest.now) c.in_ok-head.ensures c.in_ok-body.ensures))

pub members-returns-in_err-head : goal.members-returns-in_err-head
members-returns-in_err-head t c =
    let k = err_from_is_err_and c.from_residual.result c.from_residual.ensures.1 in
    rw (k.1, k.2) (method_head_fails (within_at c.args.left) c.in_err-head.field-0.0 c.args.pattern (plain c.args.self.now.rest.now) (plain c.more.self.rest.now) c.more.invariant (sym c.at_method.ensures ∙ c.more-test.true) c.in_err-head.ensures)

pub members-returns-in_err-body : goal.members-returns-in_err-body
members-returns-in_err-body t c =
    let k = err_from_is_err_and c.from_residual-in_err-body.result c.from_residual-in_err-body.ensures.1 in
    rw (k.1, k.2) (method_block_fails (within_at c.args.left) c.in_err-body.field-0.0 c.args.pattern (plain c.args.self.now.rest.now) (plain c.more.self.rest.now) c.more.invariant (sym c.at_method.ensures ∙ c.more-test.true) c.in_ok-head.ensures c.in_err-body.ensures)

pub members-returns-in_err-close : goal.members-returns-in_err-close
members-returns-in_err-close t c =
    let k = err_from_is_err_and c.from_residual-in_err-close.result c.from_residual-in_err-close.ensures.1 in
    rw (k.1, k.2) (rw c.in_err-close.ensures.1 (members_open (within_at c.args.left) c.args.pattern (plain c.args.self.now.rest.now) (plain c.more.self.rest.now) (methods_end (within_at c.args.left) c.more.invariant (sym c.at_method.ensures ∙ c.more-test.false)) c.in_err-close.ensures.0))

pub members-returns : goal.members-returns
members-returns t c =
    makes c.object.result c.args.self.now c.close.new.self (members_at (within_at c.args.left) c.args.pattern) c.object.ensures
    (members_are (within_at c.args.left) c.args.pattern (plain c.args.self.now.rest.now) (plain c.more.self.rest.now) (methods_end (within_at c.args.left) c.more.invariant (sym c.at_method.ensures ∙ c.more-test.false)) c.in_ok-close.ensures.0 c.in_ok-close.ensures.1)

pub expr-returns-in_err-value : goal.expr-returns-in_err-value
expr-returns-in_err-value t c =
    let k = err_from_is_err_and c.from_residual-in_err-value.result c.from_residual-in_err-value.ensures.1 in
    rw (k.1, k.2) (value_fails (within_at c.args.left) c.in_err-value.field-0.0 c.in_ok-target.target c.args.self.now c.target.new.self (sym c.at_return.ensures ∙ c.if-at_return.false) c.in_ok-target.ensures.gives c.in_err-value.ensures)

pub expr-returns : goal.expr-returns
expr-returns t c =
    makes c.given.result c.args.self.now c.expression.new.self (expr_at (within_at c.args.left)) c.given.ensures (given_is (within_at c.args.left) c.in_ok-target.target c.args.self.now c.target.new.self (sym c.at_return.ensures ∙ c.if-at_return.false) c.in_ok-target.ensures.gives c.in_ok-value.ensures)

pub returned-returns-then-not-at_operand : goal.returned-returns-then-not-at_operand
returned-returns-then-not-at_operand t c = makes c.returned.result c.args.self.now c.args.self.now (return_at (within_at c.args.left)) c.returned.ensures (rw (sym c.at_operand.ensures ∙ c.if-not-at_operand.true))

pub returned-returns : goal.returned-returns
returned-returns t c =
    makes c.returned-2.result c.args.self.now c.expression.new.self (return_at (within_at c.args.left)) c.returned-2.ensures (rw (sym c.at_operand.ensures ∙ c.if-not-at_operand.false, c.in_ok-value.ensures))

pub control-returns-in_err-head-in_default : goal.control-returns-in_err-head-in_default
control-returns-in_err-head-in_default t c =
    let k = err_from_is_err_and c.from_residual-in_err-head-in_default.result c.from_residual-in_err-head-in_default.ensures.1 in
    rw (k.1, k.2) (head_fails (within_at c.args.left) c.in_err-head-in_default.field-0.0 c.args.word (rest_of (plain c.args.self.now.rest.now)) (other_word c.args.word c.in_default.not-If c.in_default.not-Throw c.in_default.not-Def c.in_default.not-When c.in_default.not-Ref) c.in_err-head-in_default.ensures)

pub control-returns-in_err-body-in_default : goal.control-returns-in_err-body-in_default
control-returns-in_err-body-in_default t c =
    let k = err_from_is_err_and c.from_residual-in_err-body-in_default.result c.from_residual-in_err-body-in_default.ensures.1 in
    rw (k.1, k.2) (head_block_fails (within_at c.args.left) c.in_err-body-in_default.field-0.0 c.args.word (rest_of (plain c.args.self.now.rest.now)) (other_word c.args.word c.in_default.not-If c.in_default.not-Throw c.in_default.not-Def c.in_default.not-When c.in_default.not-Ref) c.in_ok-head-in_default.ensures c.in_err-body-in_default.ensures)

pub control-returns-in_ok-body-in_default : goal.control-returns-in_ok-body-in_default
control-returns-in_ok-body-in_default t c =
    makes c.whole.result c.args.self.now c.braced.new.self (λ a. control_at (within_at c.args.left) c.args.word (rest_of a)) c.whole.ensures
    (head_is (within_at c.args.left) c.args.word (rest_of (plain c.args.self.now.rest.now)) (other_word c.args.word c.in_default.not-If c.in_default.not-Throw c.in_default.not-Def c.in_default.not-When c.in_default.not-Ref) c.in_ok-head-in_default.ensures c.in_ok-body-in_default.ensures)

pub head-returns-in_ok-list-in-For : goal.head-returns-in_ok-list-in-For
head-returns-in_ok-list-in-For t c =
    makes_head c.each-in-For.result c.args.self.now c.expression.new.self (λ a. head_at (within_at c.args.left) c.args.word (rest_of a)) c.each-in-For.ensures
    (for_is (within_at c.args.left) c.args.word (plain c.args.self.now.rest.now) (plain c.skip-in-For.new.self.rest.now) c.in-For.is c.skip-in-For.ensures c.in_ok-pattern-in-For.ensures c.in_ok-list-in-For.ensures)
