use Rattle.std.proofs.Common.{◌≡◌, Option, Some, None, rules, arith, ap, ◌∙◌, ◌+◌, ◌-◌, refl, sym, subst, length, ◌++◌, ◌∷◌, []}
use Rattle.code.specs.View.{tree_of_code, trees_of_codes}
use Rattle.code.proofs.Views.{tree_of_code-Call, tree_of_code-List, tree_of_code-Hide, tree_of_code-If, tree_of_code-While, tree_of_code-For, tree_of_code-Try, tree_of_code-Object, tree_of_code-Escape, tree_of_code-Send, tree_of_code-When, tree_of_code-WhenCatch}
use Rattle.kernele.specs.declared.tree.Pattern.TheVariants as pattern
use Rattle.values.specs.Replies.{list_reply, text_reply}
use Rattle.values.specs.View.{val_of, vals_of}
use Rattle.post.specs.Delivery.{Handler}
use Rattle.eval_rules.specs.At.{At}
use Rattle.eval_rules.specs.Outcomes.{halt, halted, value, values, reply_end}
use Rattle.eval_rules.specs.Answered.{OnEnd}
use Rattle.eval_rules.specs.Doings.{behind, given_by, pair_end, pair_out, promise_pair, same_end, same_read, sent_at, sent_end}
use Rattle.eval_rules.specs.Locals.{captured_in}
use Rattle.eval_rules.specs.View.{at, halt_of, opened_of}
use Rattle.eval_objects.specs.View.{Led, OnEntry}
use Rattle.eval.specs.Escaping.{Escapes}
use Rattle.eval.specs.Leading.{Leads}
use Rattle.code.specs.View.{methods_of_codes}
use Rattle.kernele.specs.Tree.{call, list_tree}
use Rattle.eval.specs.Sides.{taken_at, taken_end}
use Rattle.eval_rules.specs.Rules.{ejects, is_open, begun, noun_end, noun_read, sought, object_end, with_object, capture_of, capturing, Ends, Runs, Args, Items, Block, Taking, at_node, Needs, needs, escape_end, choice_of, ends, listing_of, unlisted, run_null, run_bool, run_int, run_text, run_noun, run_call_receiver, run_list, run_same_left, run_same, goes, run_hide, run_if_goes, run_if_ends, run_while_again, run_while_halts, run_while_done, run_while_ends, run_for_ends, run_try, run_try_caught, run_object, run_send_receiver, run_send, run_when, run_when_catch, run_new_promise, when_end, when_made, args_halt}
use Rattle.eval_rules.proofs.Answering.{stop_weaker, ends_weaker, ends_on, handed_on, ends_over, of_halted}
use Rattle.eval_rules.proofs.Steps.{node, child, end_taken, slice_of, runs_as, runs_to, ends_to, args_as, args_begin, args_pushed, args_more, args_no_more, args_end, args_done, only_one, one_arg, items_more, items_no_more, items_end, blocks, taking, block_end, taking_end, each_more, each_no_more, each_end, next_round}
use Rattle.values.specs.Data.{bool, ejector, null}
use Rattle.eval.proofs.Choosing.{chosen, truth_there, wanted}
use Rattle.eval.proofs.Repeating.{for_runs}
use Rattle.eval.proofs.Beginning.{no_steps, no_level, block_none}
use Rattle.eval.proofs.Unwanted.{all_done, done_then, some_over, to_the_end}
use Rattle.eval.proofs.Entered.{Enters, call_leads, call_halts, entered, call_as, call_at_hand_over, entered_so, entered_not, call_came, call_entered, on_method, on_none, as_many, escape_over}
use Rattle.eval_rules.proofs.Scopes.{truncated}
use Rattle.eval_rules.proofs.Added.{goes_add, block_stays, taking_stays}
use Rattle.eval_rules.proofs.Fitting.{fits_then, all_fit_then, chosen_fits, repeated_fits, parts_fit, block_fits, entry_fits, round_fits, fits_from}
use Rattle.code.proofs.Fitting.{fits-Call, fits-List, fits-Hide, fits-If, fits-While, fits-For, fits-Try, fits-Object, fits-Escape, fits-Send, fits-When, fits-WhenCatch}
use Rattle.code.specs.Frames.{only_names, fits_all}
use Rattle.kernele_scopes.specs.Scope.{name_of}
use Rattle.heap.specs.State.{frame_of}
use Rattle.eval_rules.specs.Fits.{fits_at, all_fit_at, frame_behind}
use Rattle.eval_rules.proofs.Grown.{round_grow}
use Rattle.eval_rules.proofs.Paid.{args_paid, ends_paid}
use Rattle.eval.proofs.Promised.{captures_then, handler_there, still_promised}
use Rattle.eval_rules.proofs.Spent.{condition_less, block_left}
use Rattle.eval.proofs.Returning.{newest_stays, newest_begun, item_returns, alone, escapes_to}
use Rattle.eval.proofs.Sides.{runs_right, halts_right, right_fits, right_placed, side_of}
use Rattle.eval.proofs.+evaluate.Goals as goal

pub eval::eval-returns-then-w-eq0 : goal.eval::eval-returns-then-w-eq0
eval::eval-returns-then-w-eq0 t c = no_steps c.abandon.result c.abandon.new.w _ _ _ (search rules) c.abandon.ensures.end

pub eval::eval-returns-then-level-gt-DEEPEST : goal.eval::eval-returns-then-level-gt-DEEPEST
eval::eval-returns-then-level-gt-DEEPEST t c = no_level c.abandon-then-level-gt-DEEPEST.result c.abandon-then-level-gt-DEEPEST.new.w _ _ (at c.args.w.now) (omega arith) c.if-level-gt-DEEPEST.true c.abandon-then-level-gt-DEEPEST.ensures.end

pub eval::eval-returns-in-Null : goal.eval::eval-returns-in-Null
eval::eval-returns-in-Null t c = node c.args.e.now (ap tree_of_code c.in-Null.is) run_null (omega arith) c.if-level-gt-DEEPEST.false

pub eval::eval-returns-in-Bool : goal.eval::eval-returns-in-Bool
eval::eval-returns-in-Bool t c = node c.args.e.now (ap tree_of_code c.in-Bool.is) run_bool (omega arith) c.if-level-gt-DEEPEST.false

pub eval::eval-returns-in-Int : goal.eval::eval-returns-in-Int
eval::eval-returns-in-Int t c = node c.args.e.now (ap tree_of_code c.in-Int.is) (runs_as run_int (search rules)) (omega arith) c.if-level-gt-DEEPEST.false

pub eval::eval-returns-in-Text : goal.eval::eval-returns-in-Text
eval::eval-returns-in-Text t c = ends_weaker c.give_text.result c.give_text.new.into c.give_text.new.w (λ o b. (o ≡ reply_end (text_reply c.in-Text.text)) × (b ≡ record (at c.args.w.now) { left = c.args.w.now.steps - 1 })) (Ends c.args.level _ _) c.give_text.ensures (λ o b h. node c.args.e.now {a = at c.args.w.now} (ap tree_of_code c.in-Text.is) (runs_to run_text h.0 h.1) (omega arith) c.if-level-gt-DEEPEST.false)

pub eval::eval-returns-in-Noun : goal.eval::eval-returns-in-Noun
eval::eval-returns-in-Noun t c = ends_weaker c.read_noun.result c.read_noun.new.into c.read_noun.new.w (λ o b. (o ≡ noun_end (at c.args.w.now).state c.in-Noun.name (sought c.in-Noun.name (begun (at c.args.w.now)))) × (b ≡ noun_read c.in-Noun.name (begun (at c.args.w.now)))) (Ends c.args.level _ _) c.read_noun.ensures (λ o b h. node c.args.e.now {a = at c.args.w.now} (ap tree_of_code c.in-Noun.is) (runs_to run_noun h.0 h.1) (omega arith) c.if-level-gt-DEEPEST.false)

pub eval::eval-returns-in-Call : goal.eval::eval-returns-in-Call
eval::eval-returns-in-Call t c = ends_weaker c.eval_call.result c.eval_call.new.into c.eval_call.new.w (Runs c.args.level _ _) (Ends c.args.level _ _) c.eval_call.ensures (λ o b h. node c.args.e.now {a = at c.args.w.now} (ap tree_of_code c.in-Call.is ∙ tree_of_code-Call c.in-Call.receiver c.in-Call.verb c.in-Call.args) h (omega arith) c.if-level-gt-DEEPEST.false)

pub eval::eval-returns-in-List : goal.eval::eval-returns-in-List
eval::eval-returns-in-List t c = ends_weaker c.eval_list.result c.eval_list.new.into c.eval_list.new.w (Runs c.args.level _ _) (Ends c.args.level _ _) c.eval_list.ensures (λ o b h. node c.args.e.now {a = at c.args.w.now} (ap tree_of_code c.in-List.is ∙ tree_of_code-List c.in-List.items) h (omega arith) c.if-level-gt-DEEPEST.false)

pub eval::eval-returns-in-Same : goal.eval::eval-returns-in-Same
eval::eval-returns-in-Same t c = ends_weaker c.eval_same.result c.eval_same.new.into c.eval_same.new.w (Runs c.args.level _ _) (Ends c.args.level _ _) c.eval_same.ensures (λ o b h. node c.args.e.now {a = at c.args.w.now} (ap tree_of_code c.in-Same.is) h (omega arith) c.if-level-gt-DEEPEST.false)

pub eval::eval-eval_right-requires : goal.eval::eval-eval_right-requires
eval::eval-eval_right-requires t c = (search rules, (search rules, (side_of c.in-Def.right c.in-Def.is, search rules)))

pub eval::eval-returns-in-Def : goal.eval::eval-returns-in-Def
eval::eval-returns-in-Def t c = ends_weaker c.eval_right.result c.eval_right.new.into c.eval_right.new.w (Runs c.args.level _ _) (Ends c.args.level (tree_of_code c.args.e.now) (at c.args.w.now)) c.eval_right.ensures (λ o b h. at_node {a = at c.args.w.now} (omega arith) c.if-level-gt-DEEPEST.false h)

pub eval::eval-returns-in-If : goal.eval::eval-returns-in-If
eval::eval-returns-in-If t c = ends_weaker c.eval_if.result c.eval_if.new.into c.eval_if.new.w (Runs c.args.level _ _) (Ends c.args.level _ _) c.eval_if.ensures (λ o b h. node c.args.e.now {a = at c.args.w.now} (ap tree_of_code c.in-If.is ∙ tree_of_code-If c.in-If.condition c.in-If.first c.in-If.second) h (omega arith) c.if-level-gt-DEEPEST.false)

pub eval::eval-returns-in-While : goal.eval::eval-returns-in-While
eval::eval-returns-in-While t c = ends_weaker c.eval_while.result c.eval_while.new.into c.eval_while.new.w (Runs c.args.level _ _) (Ends c.args.level _ _) c.eval_while.ensures (λ o b h. node c.args.e.now {a = at c.args.w.now} (ap tree_of_code c.in-While.is ∙ tree_of_code-While c.in-While.condition c.in-While.body) h (omega arith) c.if-level-gt-DEEPEST.false)

pub eval::eval-returns-in-For : goal.eval::eval-returns-in-For
eval::eval-returns-in-For t c = ends_weaker c.eval_for.result c.eval_for.new.into c.eval_for.new.w (Runs c.args.level _ _) (Ends c.args.level _ _) c.eval_for.ensures (λ o b h. node c.args.e.now {a = at c.args.w.now} (ap tree_of_code c.in-For.is ∙ tree_of_code-For c.in-For.pattern c.in-For.list c.in-For.body) h (omega arith) c.if-level-gt-DEEPEST.false)

pub eval::eval-returns-in-Try : goal.eval::eval-returns-in-Try
eval::eval-returns-in-Try t c = ends_weaker c.eval_try.result c.eval_try.new.into c.eval_try.new.w (Runs c.args.level _ _) (Ends c.args.level _ _) c.eval_try.ensures (λ o b h. node c.args.e.now {a = at c.args.w.now} (ap tree_of_code c.in-Try.is ∙ tree_of_code-Try c.in-Try.body c.in-Try.pattern c.in-Try.handler) h (omega arith) c.if-level-gt-DEEPEST.false)

pub eval::eval-returns-in-Escape : goal.eval::eval-returns-in-Escape
eval::eval-returns-in-Escape t c = ends_weaker c.eval_escape.result c.eval_escape.new.into c.eval_escape.new.w (Runs c.args.level _ _) (Ends c.args.level _ _) c.eval_escape.ensures (λ o b h. node c.args.e.now {a = at c.args.w.now} (ap tree_of_code c.in-Escape.is ∙ tree_of_code-Escape c.in-Escape.name c.in-Escape.body) h (omega arith) c.if-level-gt-DEEPEST.false)

pub eval::eval-returns-in-Object : goal.eval::eval-returns-in-Object
eval::eval-returns-in-Object t c = ends_weaker c.define_object.result c.define_object.new.into c.define_object.new.w (λ o b. (o ≡ object_end (capture_of c.in-Object.pattern (methods_of_codes c.in-Object.methods.value.items) (begun (at c.args.w.now))) (begun (at c.args.w.now))) × (b ≡ with_object c.in-Object.pattern (methods_of_codes c.in-Object.methods.value.items) (capture_of c.in-Object.pattern (methods_of_codes c.in-Object.methods.value.items) (begun (at c.args.w.now))) (capturing c.in-Object.pattern (methods_of_codes c.in-Object.methods.value.items) (begun (at c.args.w.now))))) (Ends c.args.level _ _) c.define_object.ensures (λ o b h. node c.args.e.now {a = at c.args.w.now} (ap tree_of_code c.in-Object.is ∙ tree_of_code-Object c.in-Object.pattern c.in-Object.captures c.in-Object.methods c.in-Object.index) (runs_to run_object h.0 h.1) (omega arith) c.if-level-gt-DEEPEST.false)

pub eval::eval-returns-in-Hide : goal.eval::eval-returns-in-Hide
eval::eval-returns-in-Hide t c = ends_weaker c.eval_block.result c.eval_block.new.into c.eval_block.new.w (Block (c.args.level + 1) _ _) (Ends c.args.level _ _) c.eval_block.ensures (λ o b h. node c.args.e.now {a = at c.args.w.now} {b = b} (ap tree_of_code c.in-Hide.is ∙ tree_of_code-Hide c.in-Hide.body) (run_hide (blocks (slice_of c.deref-in-Hide.ensures.value c.deref.ensures) h)) (omega arith) c.if-level-gt-DEEPEST.false)

pub eval::eval-eval_call-requires : goal.eval::eval-eval_call-requires
eval::eval-eval_call-requires t c = (search rules, (search rules, parts_fit (at c.args.w.now) c.in-Call.is (fits-Call c.args.w.now.own_scope (frame_of (at c.args.w.now).nouns) c.in-Call.receiver c.in-Call.verb c.in-Call.args) c.requires.fits))

pub eval::eval-eval_list-requires : goal.eval::eval-eval_list-requires
eval::eval-eval_list-requires t c = (search rules, (search rules, parts_fit (at c.args.w.now) c.in-List.is (fits-List c.args.w.now.own_scope (frame_of (at c.args.w.now).nouns) c.in-List.items) c.requires.fits))

pub eval::eval-eval_block-requires : goal.eval::eval-eval_block-requires
eval::eval-eval_block-requires t c = (search rules, (search rules, block_fits (slice_of c.deref-in-Hide.ensures.value c.deref.ensures) refl (parts_fit (at c.args.w.now) c.in-Hide.is (fits-Hide c.args.w.now.own_scope (frame_of (at c.args.w.now).nouns) c.in-Hide.body) c.requires.fits)))

pub eval::eval-eval_if-requires : goal.eval::eval-eval_if-requires
eval::eval-eval_if-requires t c = (search rules, (search rules, parts_fit (at c.args.w.now) c.in-If.is (fits-If c.args.w.now.own_scope (frame_of (at c.args.w.now).nouns) c.in-If.condition c.in-If.first c.in-If.second) c.requires.fits))

pub eval::eval-eval_while-requires : goal.eval::eval-eval_while-requires
eval::eval-eval_while-requires t c = (search rules, (search rules, parts_fit (at c.args.w.now) c.in-While.is (fits-While c.args.w.now.own_scope (frame_of (at c.args.w.now).nouns) c.in-While.condition c.in-While.body) c.requires.fits))

pub eval::eval-eval_for-requires : goal.eval::eval-eval_for-requires
eval::eval-eval_for-requires t c = (search rules, (search rules, parts_fit (at c.args.w.now) c.in-For.is (fits-For c.args.w.now.own_scope (frame_of (at c.args.w.now).nouns) c.in-For.pattern c.in-For.list c.in-For.body) c.requires.fits))

pub eval::eval-eval_try-requires : goal.eval::eval-eval_try-requires
eval::eval-eval_try-requires t c = (search rules, (search rules, parts_fit (at c.args.w.now) c.in-Try.is (fits-Try c.args.w.now.own_scope (frame_of (at c.args.w.now).nouns) c.in-Try.body c.in-Try.pattern c.in-Try.handler) c.requires.fits))

pub eval::eval-define_object-requires : goal.eval::eval-define_object-requires
eval::eval-define_object-requires t c = record { fits = parts_fit (at c.args.w.now) c.in-Object.is (fits-Object c.args.w.now.own_scope (frame_of (at c.args.w.now).nouns) c.in-Object.pattern c.in-Object.captures c.in-Object.methods c.in-Object.index) c.requires.fits }

pub eval::eval-eval_escape-requires : goal.eval::eval-eval_escape-requires
eval::eval-eval_escape-requires t c = (search rules, (search rules, (parts_fit (at c.args.w.now) c.in-Escape.is (fits-Escape c.args.w.now.own_scope (frame_of (at c.args.w.now).nouns) c.in-Escape.name c.in-Escape.body) c.requires.fits, search rules)))

pub eval::eval_part-returns-in_ok-into-in-Some : goal.eval::eval_part-returns-in_ok-into-in-Some
eval::eval_part-returns-in_ok-into-in-Some t c = ends_to c.in-Some.ensures.ends (ap value c.in_ok-into-in-Some.ensures) refl

pub eval::eval_right-returns-in_err-eval : goal.eval::eval_right-returns-in_err-eval
eval::eval_right-returns-in_err-eval t c = ends_on c.from_residual.result c.in_err-eval.field-0.0 c.eval.new.into c.eval.new.w (Ends (c.args.level + 1) _ _) (Runs c.args.level _ _) c.from_residual.ensures.1 c.in_err-eval.ensures (λ h b r. halts_right c.args.e.now c.requires.side (child c.deref.ensures r))

pub eval::eval_right-returns : goal.eval::eval_right-returns
eval::eval_right-returns t c = ends_weaker c.take.result c.take.new.into c.take.new.w (λ o b. (o ≡ taken_end c.args.e.now (value (val_of c.eval.new.into)) (at c.eval.new.w)) × (b ≡ taken_at c.args.e.now (value (val_of c.eval.new.into)) (at c.eval.new.w))) (Runs c.args.level _ _) c.take.ensures (λ o b h. runs_to (runs_right c.args.e.now c.requires.side (child c.deref.ensures c.in_ok-eval.ensures)) h.0 h.1)

pub eval::eval_right-eval-requires : goal.eval::eval_right-eval-requires
eval::eval_right-eval-requires t c = (search rules, subst (fits_at (at c.args.w.now)) (sym c.deref.ensures) (right_fits c.args.e.now (at c.args.w.now) c.requires.side c.requires.fits))

pub eval::eval_right-take-requires : goal.eval::eval_right-take-requires
eval::eval_right-take-requires t c = right_placed c.args.e.now c.requires.side c.requires.fits (child c.deref.ensures c.in_ok-eval.ensures)

pub eval::eval_args-loop-arg-init : goal.eval::eval_args-loop-arg-init
eval::eval_args-loop-arg-init t c = (λ g b h. args_begin c.in_ok-values.ensures.items h, c.requires.fits)

pub eval::eval_args-loop-arg-preserved : goal.eval::eval_args-loop-arg-preserved
eval::eval_args-loop-arg-preserved t c = (
  λ g b h. args_pushed g _ _ c.in_ok-push.ensures.items (c.loop-arg.invariant.0 _ _ (args_more _ g c.loop-arg-test.true c.arg-item.is c.in_ok-eval_part.ensures h)),
  all_fit_then refl c.in_ok-eval_part.ensures (fits_from _ _ c.args.args.now c.loop-arg.arg-index _ c.loop-arg-test.true c.arg-item.is c.loop-arg.invariant.1).1,
)

pub eval::eval_args-returns-in_err-eval_part : goal.eval::eval_args-returns-in_err-eval_part
eval::eval_args-returns-in_err-eval_part t c = handed_on c.from_residual-in_err-eval_part.result c.in_err-eval_part.field-0.0 c.eval_part.new.w (λ vs b. Args c.args.level (trees_of_codes c.args.args.now) (at c.args.w.now) (values (vals_of vs.items)) b) (λ h b. Ends c.args.level _ _ (halt h) b) (λ h b. Args c.args.level (trees_of_codes c.args.args.now) (at c.args.w.now) (halted h) b) c.from_residual-in_err-eval_part.ensures.1 c.in_err-eval_part.ensures (λ h b r. c.loop-arg.invariant.0 _ _ (args_no_more _ c.loop-arg-test.true c.arg-item.is r))

pub eval::eval_args-returns : goal.eval::eval_args-returns
eval::eval_args-returns t c = args_done _ (c.loop-arg.invariant.0 _ _ (args_end _ c.loop-arg-test.false))

pub eval::eval_args-eval_part-requires : goal.eval::eval_args-eval_part-requires
eval::eval_args-eval_part-requires t c = (search rules, (fits_from _ _ c.args.args.now c.loop-arg.arg-index _ c.loop-arg-test.true c.arg-item.is c.loop-arg.invariant.1).0)

pub eval::eval_list-returns : goal.eval::eval_list-returns
eval::eval_list-returns t c = ends_weaker c.give_list.result c.give_list.new.into c.give_list.new.w (λ o b. (o ≡ reply_end (list_reply (vals_of c.in_ok-values.values.items))) × (b ≡ at c.eval_args.new.w)) (Runs c.args.level _ _) c.give_list.ensures (λ o b h. runs_to (run_list (args_as (slice_of c.deref-2.ensures.value c.deref.ensures) c.in_ok-values.ensures)) h.0 h.1)

pub eval::eval_list-returns-in_err-values : goal.eval::eval_list-returns-in_err-values
eval::eval_list-returns-in_err-values t c = handed_on c.from_residual.result c.in_err-values.field-0.0 c.eval_args.new.w (λ u b. Runs c.args.level (list_tree (trees_of_codes c.args.items.now.value.items)) (at c.args.w.now) (value (val_of c.args.into.now)) b) (λ h b. Args (c.args.level + 1) _ _ (halted h) b) (λ h b. Runs c.args.level (list_tree (trees_of_codes c.args.items.now.value.items)) (at c.args.w.now) (halt h) b) c.from_residual.ensures.1 c.in_err-values.ensures (λ h b r. run_list (args_as (slice_of c.deref-2.ensures.value c.deref.ensures) r))

pub eval::eval_same-returns-in_err-eval : goal.eval::eval_same-returns-in_err-eval
eval::eval_same-returns-in_err-eval t c = ends_on c.from_residual.result c.in_err-eval.field-0.0 c.args.into.now c.eval.new.w (Ends (c.args.level + 1) _ _) (Runs c.args.level _ _) c.from_residual.ensures.1 c.in_err-eval.ensures (λ h b r. run_same_left (child c.deref.ensures r))

pub eval::eval_same-returns-in_err-eval-2 : goal.eval::eval_same-returns-in_err-eval-2
eval::eval_same-returns-in_err-eval-2 t c = ends_on c.from_residual-in_err-eval-2.result c.in_err-eval-2.field-0.0 c.eval-2.new.into c.eval-2.new.w (Ends (c.args.level + 1) _ _) (Runs c.args.level _ _) c.from_residual-in_err-eval-2.ensures.1 c.in_err-eval-2.ensures (λ h b r. run_same (child c.deref.ensures c.in_ok-eval.ensures) (child c.deref-2.ensures r))

pub eval::eval_same-returns : goal.eval::eval_same-returns
eval::eval_same-returns t c =
    let a = at c.eval-2.new.w in
    let v = val_of c.eval.new.into in
    let o = value (val_of c.eval-2.new.into) in
    ends_weaker c.give_same.result c.give_same.new.into c.give_same.new.w (λ p b. (p ≡ same_end v o a) × (b ≡ same_read v o a)) (Runs c.args.level _ _) c.give_same.ensures (λ p b h. runs_to (run_same (child c.deref.ensures c.in_ok-eval.ensures) (child c.deref-2.ensures c.in_ok-eval-2.ensures)) h.0 h.1)

pub eval::eval_same-eval-requires-2 : goal.eval::eval_same-eval-requires-2
eval::eval_same-eval-requires-2 t c = (search rules, fits_then c.deref-2.ensures (child c.deref.ensures c.in_ok-eval.ensures) c.requires.fits.1)

pub eval::eval_items-loop-item-preserved : goal.eval::eval_items-loop-item-preserved
eval::eval_items-loop-item-preserved t c = (
  λ o b h. c.loop-item.invariant.0 _ _ (items_more _ c.loop-item-test.true c.item-item.is c.in_ok-eval_item.ensures h),
  all_fit_then refl c.in_ok-eval_item.ensures (fits_from _ _ c.args.items.now c.loop-item.item-index _ c.loop-item-test.true c.item-item.is c.loop-item.invariant.1).1,
)

pub eval::eval_items-returns-in_err-eval_item : goal.eval::eval_items-returns-in_err-eval_item
eval::eval_items-returns-in_err-eval_item t c = ends_on c.from_residual.result c.in_err-eval_item.field-0.0 c.eval_item.new.into c.eval_item.new.w (Ends c.args.level _ _) (Items c.args.level _ _ _) c.from_residual.ensures.1 c.in_err-eval_item.ensures (λ h b r. c.loop-item.invariant.0 _ _ (items_no_more _ c.loop-item-test.true c.item-item.is r))

pub eval::eval_items-returns : goal.eval::eval_items-returns
eval::eval_items-returns t c = c.loop-item.invariant.0 _ _ (items_end _ c.loop-item-test.false)

pub eval::eval_items-eval_item-requires : goal.eval::eval_items-eval_item-requires
eval::eval_items-eval_item-requires t c = (search rules, (fits_from _ _ c.args.items.now c.loop-item.item-index _ c.loop-item-test.true c.item-item.is c.loop-item.invariant.1).0)

pub eval::eval_item-returns-in_ok-set-in-Some : goal.eval::eval_item-returns-in_ok-set-in-Some
eval::eval_item-returns-in_ok-set-in-Some t c = ends_to c.in-Some.ensures.ends (ap value c.in_ok-set-in-Some.ensures.value) c.in_ok-set-in-Some.ensures.place

pub calling::eval_call-returns-in-Some : goal.calling::eval_call-returns-in-Some
calling::eval_call-returns-in-Some t c = call_as c.deref.ensures (slice_of c.deref-3.ensures.value c.deref-2.ensures) c.in-Some.ensures.runs

pub calling::eval_any_call-eval_items-answer-requires : goal.calling::eval_any_call-eval_items-answer-requires
calling::eval_any_call-eval_items-answer-requires t c =
    let tree = call (tree_of_code c.deref.result.now) c.args.verb.now (trees_of_codes c.deref-3.result.now) in
    let method = entered_so _ c.in-Some.entered tree (at c.args.w.now) (at c.enter_at_hand.new.w) c.in-Some.is c.in_ok-entered.ensures in
    (search rules, (search rules, subst (all_fit_at (at c.enter_at_hand.new.w)) (sym (slice_of c.deref-in-Some-2.ensures.value c.deref-in-Some.ensures)) method.fits))

pub calling::eval_any_call-returns-in-Some : goal.calling::eval_any_call-returns-in-Some
calling::eval_any_call-returns-in-Some t c =
    let tree = call (tree_of_code c.deref.result.now) c.args.verb.now (trees_of_codes c.deref-3.result.now) in
    let method = entered_so _ c.in-Some.entered tree (at c.args.w.now) (at c.enter_at_hand.new.w) c.in-Some.is c.in_ok-entered.ensures in
    ends_over c.eval_items-answer.result c.eval_items-answer.new.into c.eval_items-answer.new.w c.leave_method.new.w (Items (c.args.level + 1) _ _ _) (Runs c.args.level _ _) c.leave_method.ensures.halt c.eval_items-answer.ensures (λ o r.
    call_at_hand_over c.in-Some.entered c.deref.ensures (slice_of c.deref-3.ensures.value c.deref-2.ensures) (slice_of c.deref-in-Some-2.ensures.value c.deref-in-Some.ensures) method r c.leave_method.ensures.place)

pub calling::eval_any_call-eval_other_call-requires : goal.calling::eval_any_call-eval_other_call-requires
calling::eval_any_call-eval_other_call-requires t c =
    let tree = call (tree_of_code c.deref.result.now) c.args.verb.now (trees_of_codes c.deref-3.result.now) in
    let same = entered_not _ c.args.level tree (at c.args.w.now) (at c.enter_at_hand.new.w) c.in-None.is c.in_ok-entered.ensures in
    (search rules, (search rules, subst (λ (a : At). fits_at a c.args.receiver.now.value × fits_all a.own_scope (frame_behind a c.args.receiver.now.value) c.args.args.now.value.items) (sym same) c.requires.fits))

pub calling::eval_any_call-returns-in-None : goal.calling::eval_any_call-returns-in-None
calling::eval_any_call-returns-in-None t c =
    let tree = call (tree_of_code c.deref.result.now) c.args.verb.now (trees_of_codes c.deref-3.result.now) in
    let same = entered_not _ c.args.level tree (at c.args.w.now) (at c.enter_at_hand.new.w) c.in-None.is c.in_ok-entered.ensures in
    let whole = call (tree_of_code c.args.receiver.now.value) c.args.verb.now (trees_of_codes c.args.args.now.value.items) in
    ends_weaker c.eval_other_call.result c.eval_other_call.new.into c.eval_other_call.new.w (Runs c.args.level whole (at c.enter_at_hand.new.w)) (Runs c.args.level whole (at c.args.w.now)) c.eval_other_call.ensures
    (λ o b r. subst (λ (a : At). Runs c.args.level whole a o b) same r)

pub calling::eval_other_call-eval_part-requires : goal.calling::eval_other_call-eval_part-requires
calling::eval_other_call-eval_part-requires t c =
    let one = alone c.in-Some.ensures.one (slice_of c.deref-3.ensures.value c.deref-2.ensures) c.deref-in-Some.ensures c.index.ensures in
    (search rules, (subst (all_fit_at (at c.args.w.now)) (sym one) c.in-Some.ensures.fits).0)

pub calling::eval_other_call-returns-in_err-eval_part-in-Some : goal.calling::eval_other_call-returns-in_err-eval_part-in-Some
calling::eval_other_call-returns-in_err-eval_part-in-Some t c =
    let one = alone c.in-Some.ensures.one (slice_of c.deref-3.ensures.value c.deref-2.ensures) c.deref-in-Some.ensures c.index.ensures in
    ends_on c.from_residual.result c.in_err-eval_part-in-Some.field-0.0 c.eval_part.new.into c.eval_part.new.w (Ends (c.args.level + 1) _ _) (Runs c.args.level _ _) c.from_residual.ensures.1 c.in_err-eval_part-in-Some.ensures (λ h b r.
    call_as c.deref.ensures (slice_of c.deref-3.ensures.value c.deref-2.ensures) (c.in-Some.ensures.sends _ (ap trees_of_codes (sym one)) (halt h) b r))

pub calling::eval_other_call-returns-in_ok-eval_part-in-Some : goal.calling::eval_other_call-returns-in_ok-eval_part-in-Some
calling::eval_other_call-returns-in_ok-eval_part-in-Some t c =
    let one = alone c.in-Some.ensures.one (slice_of c.deref-3.ensures.value c.deref-2.ensures) c.deref-in-Some.ensures c.index.ensures in
    stop_weaker c.eject.result c.eject.new.w _ (λ h b. Runs c.args.level _ _ (halt h) b) (λ h b p.
    runs_to (call_as c.deref.ensures (slice_of c.deref-3.ensures.value c.deref-2.ensures) (c.in-Some.ensures.sends _ (ap trees_of_codes (sym one)) (value (val_of c.eval_part.new.into)) (at c.eval_part.new.w) c.in_ok-eval_part-in-Some.ensures)) (p.0 ∙ ap (λ v. ejects (is_open c.in-Some.ejector (opened_of c.eval_part.new.w.opened.items)) c.in-Some.ejector (val_of v)) c.replace-value.ensures.value) p.1) c.eject.ensures.end

pub calling::eval_far_call-returns-in_err-eval_part : goal.calling::eval_far_call-returns-in_err-eval_part
calling::eval_far_call-returns-in_err-eval_part t c = ends_on c.from_residual.result c.in_err-eval_part.field-0.0 c.args.into.now c.eval_part.new.w (Ends (c.args.level + 1) _ _) (Runs c.args.level _ _) c.from_residual.ensures.1 c.in_err-eval_part.ensures (λ h b r. run_call_receiver (child c.deref.ensures r))

pub calling::eval_far_call-returns-in_err-entry : goal.calling::eval_far_call-returns-in_err-entry
calling::eval_far_call-returns-in_err-entry t c = handed_on c.from_residual-in_err-entry.result c.in_err-entry.field-0.0 c.eval_target.new.w (λ u b. Runs c.args.level _ _ (value (val_of c.eval_target.new.into)) b) (λ h b. Led (Leads (c.args.level + 1) _ _ _ _) (halt h) b) (λ h b. Runs c.args.level _ _ (halt h) b) c.from_residual-in_err-entry.ensures.1 c.in_err-entry.ensures (λ h b r. call_came (slice_of c.deref-3.ensures.value c.deref-2.ensures) (child c.deref.ensures c.in_ok-eval_part.ensures) r)

pub calling::eval_far_call-returns-in-Some : goal.calling::eval_far_call-returns-in-Some
calling::eval_far_call-returns-in-Some t c =
    ends_weaker c.eval_method.result c.eval_method.new.into c.eval_method.new.w (Enters (c.args.level + 1) _ _ _) (Runs c.args.level _ _) c.eval_method.ensures (λ o b h. call_entered (slice_of c.deref-3.ensures.value c.deref-2.ensures) (child c.deref.ensures c.in_ok-eval_part.ensures) (on_method _ c.eval_target.new.into (Leads (c.args.level + 1) _ _ _ _) _ c.in-Some.is c.in_ok-entry.ensures) refl h)

pub calling::eval_far_call-returns : goal.calling::eval_far_call-returns
calling::eval_far_call-returns t c =
    call_came (slice_of c.deref-3.ensures.value c.deref-2.ensures) (child c.deref.ensures c.in_ok-eval_part.ensures) (on_none _ c.eval_target.new.into (Leads (c.args.level + 1) _ _ _ _) _ c.in-None.is c.in_ok-entry.ensures)

pub calling::eval_far_call-eval_target-requires : goal.calling::eval_far_call-eval_target-requires
calling::eval_far_call-eval_target-requires t c = (search rules, (search rules, all_fit_then (slice_of c.deref-3.ensures.value c.deref-2.ensures) (child c.deref.ensures c.in_ok-eval_part.ensures) c.requires.fits.1))

pub calling::eval_target-eval_part-requires : goal.calling::eval_target-eval_part-requires
calling::eval_target-eval_part-requires t c = (search rules, (subst (all_fit_at (at c.args.w.now)) (sym (only_one c.args.args.now _ (search rules) c.index-args-0.is)) c.requires.fits).0)

pub calling::eval_target-returns-in_err-eval_part : goal.calling::eval_target-returns-in_err-eval_part
calling::eval_target-returns-in_err-eval_part t c = handed_on c.from_residual.result c.in_err-eval_part.field-0.0 c.eval_part.new.w (λ e b. OnEntry e c.args.into.now (Leads c.args.level (trees_of_codes c.args.args.now) (val_of c.args.receiver.now) c.args.verb.now (at c.args.w.now)) b) (λ h b. Ends c.args.level _ _ (halt h) b) (λ h b. Led (Leads c.args.level (trees_of_codes c.args.args.now) (val_of c.args.receiver.now) c.args.verb.now (at c.args.w.now)) (halt h) b) c.from_residual.ensures.1 c.in_err-eval_part.ensures (λ h b r. call_halts (val_of c.args.receiver.now) c.args.verb.now h (args_as (only_one c.args.args.now c.index-args-0.result (search rules) c.index-args-0.is) (args_halt r)))

pub calling::eval_target-returns-then-args-eq1 : goal.calling::eval_target-returns-then-args-eq1
calling::eval_target-returns-then-args-eq1 t c =
    call_leads c.call_target.result c.call_target.new.into c.call_target.new.w (val_of c.args.receiver.now) c.args.verb.now
    (args_as (only_one c.args.args.now c.index-args-0.result (search rules) c.index-args-0.is) (one_arg c.from_mut.ensures.value c.in_ok-eval_part.ensures)) c.call_target.ensures

pub calling::eval_target-returns-in_err-values : goal.calling::eval_target-returns-in_err-values
calling::eval_target-returns-in_err-values t c = handed_on c.from_residual-in_err-values.result c.in_err-values.field-0.0 c.eval_args.new.w (λ e b. OnEntry e c.args.into.now (Leads c.args.level (trees_of_codes c.args.args.now) (val_of c.args.receiver.now) c.args.verb.now (at c.args.w.now)) b) (λ h b. Args c.args.level (trees_of_codes c.args.args.now) (at c.args.w.now) (halted h) b) (λ h b. Led (Leads c.args.level (trees_of_codes c.args.args.now) (val_of c.args.receiver.now) c.args.verb.now (at c.args.w.now)) (halt h) b) c.from_residual-in_err-values.ensures.1 c.in_err-values.ensures (λ h b r. call_halts (val_of c.args.receiver.now) c.args.verb.now h r)

pub calling::eval_target-returns : goal.calling::eval_target-returns
calling::eval_target-returns t c =
    call_leads c.call_target-2.result c.call_target-2.new.into c.call_target-2.new.w (val_of c.args.receiver.now) c.args.verb.now
    (subst (λ xs. Args c.args.level (trees_of_codes c.args.args.now) (at c.args.w.now) (values (vals_of xs)) (at c.eval_args.new.w)) (sym c.deref_mut.ensures.value) c.in_ok-values.ensures) c.call_target-2.ensures

pub calling::eval_method-returns : goal.calling::eval_method-returns
calling::eval_method-returns t c = ends_over c.eval_items-answer.result c.eval_items-answer.new.into c.eval_items-answer.new.w c.leave_method.new.w (Items c.args.level _ _ _) (Enters c.args.level _ _ _) c.leave_method.ensures.halt c.eval_items-answer.ensures (λ o r. entered (ap trees_of_codes (slice_of c.deref-2.ensures.value c.deref.ensures)) _ c.args.w.now c.eval_items-answer.new.w c.enter_method-caller.ensures.captured c.enter_method-caller.ensures.older (ap (λ v. v.items) c.enter_method-caller.ensures.names) c.enter_method-caller.ensures.own c.enter_method-caller.ensures.place r c.leave_method.ensures.place)

pub calling::eval_method-eval_items-answer-requires : goal.calling::eval_method-eval_items-answer-requires
calling::eval_method-eval_items-answer-requires t c = (search rules, (search rules, entry_fits (captured_in c.args.entry.captured) c.args.entry.nouns.items (at c.args.w.now) _ c.enter_method-caller.ensures.place (slice_of c.deref-2.ensures.value c.deref.ensures) c.args.entry.fits))

pub calling::eval_escape-eval_naming-answer-requires : goal.calling::eval_escape-eval_naming-answer-requires
calling::eval_escape-eval_naming-answer-requires t c = (search rules, (search rules, (block_fits (slice_of c.deref-2.ensures.value c.deref.ensures) (ap (λ (a : At). frame_of a.nouns ++ c.args.name.now ∷ []) c.in_ok-ejector.ensures.place) c.requires.fits, newest_begun _ (at c.args.w.now) _ c.in_ok-ejector.ensures.named c.in_ok-ejector.ensures.place)))

pub calling::eval_escape-returns : goal.calling::eval_escape-returns
calling::eval_escape-returns t c =
    ends_over c.eval_naming-answer.result c.eval_naming-answer.new.into c.eval_naming-answer.new.w c.close_escape.new.w (Escapes _ (Taking (c.args.level + 1) _ _ _ _)) (Runs c.args.level _ _) c.close_escape.ensures.halt c.eval_naming-answer.ensures (λ o r.
    escape_over c.args.name.now _ c.args.w.now c.eval_naming-answer.new.w (as_many c.args.w.now.opened c.len-outer.ensures) c.in_ok-ejector.ensures.named c.in_ok-ejector.ensures.place refl
    (ap trees_of_codes (slice_of c.deref-2.ensures.value c.deref.ensures)) r.1 c.close_escape.ensures.place r.2)

pub calling::eval_naming-bind_local-requires : goal.calling::eval_naming-bind_local-requires
calling::eval_naming-bind_local-requires t c = ap (λ (a : At). a.own_scope) c.enter-outer.ensures.place

pub calling::eval_naming-returns : goal.calling::eval_naming-returns
calling::eval_naming-returns t c =
    ends_over c.eval_returning-answer.result c.eval_returning-answer.new.into c.eval_returning-answer.new.w c.leave.new.w (Escapes c.args.ejector (Items c.args.level _ _ _)) (Escapes c.args.ejector (Taking c.args.level (pattern.Name c.args.name.now) (ejector c.args.ejector) (trees_of_codes c.args.items.now) (at c.args.w.now))) c.leave.ensures.halt c.eval_returning-answer.ensures (λ o r.
    (r.0, taking_end (pattern.Name c.args.name.now) (ejector c.args.ejector) c.args.w.now c.eval_returning-answer.new.w c.enter-outer.ensures.names c.enter-outer.ensures.own c.enter-outer.ensures.place c.in_ok-bind_local.ensures r.1 c.leave.ensures.place, r.2))

pub calling::eval_returning-eval_returned-requires : goal.calling::eval_returning-eval_returned-requires
calling::eval_returning-eval_returned-requires t c = (search rules, c.in-Some.ensures.fits)

pub calling::eval_returning-returned-requires : goal.calling::eval_returning-returned-requires
calling::eval_returning-returned-requires t c = (fits_from _ _ c.args.items.now c.loop-item.item-index _ c.loop-item-test.true c.item-item.is c.loop-item.invariant.1).0

pub calling::eval_returning-eval_item-requires : goal.calling::eval_returning-eval_item-requires
calling::eval_returning-eval_item-requires t c = (search rules, (fits_from _ _ c.args.items.now c.loop-item.item-index _ c.loop-item-test.true c.item-item.is c.loop-item.invariant.1).0)

pub calling::eval_returning-returns-in-Some : goal.calling::eval_returning-returns-in-Some
calling::eval_returning-returns-in-Some t c =
    ends_weaker c.eval_returned.result c.eval_returned.new.into c.eval_returned.new.w (Escapes c.args.ejector (Ends (c.args.level + 1) _ _)) (Escapes c.args.ejector (Items c.args.level null (trees_of_codes c.args.items.now) (at c.args.w.now))) c.eval_returned.ensures (λ o b h.
    let p = item_returns c.args.items.now c.loop-item-test.true c.item-item.is c.loop-item.invariant.2 c.in-Some.ensures.returns h.1 in
    (p.0, c.loop-item.invariant.0 _ _ p.1, h.2 ∙ p.2))

pub calling::eval_returning-returns-in-Err-Halted : goal.calling::eval_returning-returns-in-Err-Halted
calling::eval_returning-returns-in-Err-Halted t c =
    ends_weaker c.end_escape.result c.end_escape.new.into c.end_escape.new.w (λ o b. (o ≡ escape_end c.args.ejector (halt (halt_of c.eval_item.new.w.halt))) × (b ≡ at c.eval_item.new.w)) (Escapes c.args.ejector (Items c.args.level null (trees_of_codes c.args.items.now) (at c.args.w.now))) c.end_escape.ensures (λ o b h.
    escapes_to c.args.ejector (Items c.args.level null (trees_of_codes c.args.items.now) (at c.args.w.now)) (c.loop-item.invariant.0 _ _ (items_no_more _ c.loop-item-test.true c.item-item.is (of_halted c.in-Err-Halted.field-0 c.eval_item.new.w (λ h b. Ends c.args.level _ _ (halt h) b) c.in-Err-Halted.field-0-is c.in-Err-Halted.ensures))) h.0 h.1)

pub calling::eval_returning-loop-item-preserved : goal.calling::eval_returning-loop-item-preserved
calling::eval_returning-loop-item-preserved t c = (
  λ o b h. c.loop-item.invariant.0 _ _ (items_more _ c.loop-item-test.true c.item-item.is c.in-Ok.ensures h),
  all_fit_then refl c.in-Ok.ensures (fits_from _ _ c.args.items.now c.loop-item.item-index _ c.loop-item-test.true c.item-item.is c.loop-item.invariant.1).1,
  newest_stays c.args.ejector c.in-Ok.ensures c.loop-item.invariant.2,
)

pub calling::eval_returning-returns : goal.calling::eval_returning-returns
calling::eval_returning-returns t c = (value (val_of c.loop-item.into), c.loop-item.invariant.0 _ _ (items_end _ c.loop-item-test.false), refl)

pub calling::eval_returned-returns-in-Ok : goal.calling::eval_returned-returns-in-Ok
calling::eval_returned-returns-in-Ok t c = (value (val_of c.eval_part.new.into), c.in-Ok.ensures, refl)

pub calling::eval_returned-returns-in-Err-Halted : goal.calling::eval_returned-returns-in-Err-Halted
calling::eval_returned-returns-in-Err-Halted t c = ends_weaker c.end_escape.result c.end_escape.new.into c.end_escape.new.w (λ o b. (o ≡ escape_end c.args.ejector (halt (halt_of c.eval_part.new.w.halt))) × (b ≡ at c.eval_part.new.w)) (Escapes c.args.ejector (Ends c.args.level (tree_of_code c.args.given.now) (at c.args.w.now))) c.end_escape.ensures (λ o b h. escapes_to c.args.ejector (Ends c.args.level (tree_of_code c.args.given.now) (at c.args.w.now)) (of_halted c.in-Err-Halted.field-0 c.eval_part.new.w (λ h b. Ends c.args.level (tree_of_code c.args.given.now) (at c.args.w.now) (halt h) b) c.in-Err-Halted.field-0-is c.in-Err-Halted.ensures) h.0 h.1)

pub eval::eval-returns-in-Send : goal.eval::eval-returns-in-Send
eval::eval-returns-in-Send t c = ends_weaker c.eval_send.result c.eval_send.new.into c.eval_send.new.w (Runs c.args.level _ _) (Ends c.args.level _ _) c.eval_send.ensures (λ o b h. node c.args.e.now {a = at c.args.w.now} (ap tree_of_code c.in-Send.is ∙ tree_of_code-Send c.in-Send.receiver c.in-Send.verb c.in-Send.args) h (omega arith) c.if-level-gt-DEEPEST.false)

pub eval::eval-returns-in-When : goal.eval::eval-returns-in-When
eval::eval-returns-in-When t c = ends_weaker c.eval_when.result c.eval_when.new.into c.eval_when.new.w (Runs c.args.level _ _) (Ends c.args.level _ _) c.eval_when.ensures (λ o b h. node c.args.e.now {a = at c.args.w.now} (ap tree_of_code c.in-When.is ∙ tree_of_code-When c.in-When.value c.in-When.captures c.in-When.block) h (omega arith) c.if-level-gt-DEEPEST.false)

pub eval::eval-returns-in-WhenCatch : goal.eval::eval-returns-in-WhenCatch
eval::eval-returns-in-WhenCatch t c = ends_weaker c.eval_when_catch.result c.eval_when_catch.new.into c.eval_when_catch.new.w (Runs c.args.level _ _) (Ends c.args.level _ _) c.eval_when_catch.ensures (λ o b h. node c.args.e.now {a = at c.args.w.now} (ap tree_of_code c.in-WhenCatch.is ∙ tree_of_code-WhenCatch c.in-WhenCatch.value c.in-WhenCatch.captures c.in-WhenCatch.block c.in-WhenCatch.pattern c.in-WhenCatch.handler) h (omega arith) c.if-level-gt-DEEPEST.false)

pub eval::eval-returns-in-NewPromise : goal.eval::eval-returns-in-NewPromise
eval::eval-returns-in-NewPromise t c =
    let a = begun (at c.args.w.now) in
    ends_weaker c.make_promise.result c.make_promise.new.into c.make_promise.new.w (λ o b. (o ≡ pair_end (given_by (promise_pair a) a) a) × (b ≡ pair_out (given_by (promise_pair a) a) (behind (promise_pair a) a))) (Ends c.args.level _ _) c.make_promise.ensures (λ o b h. node c.args.e.now {a = at c.args.w.now} (ap tree_of_code c.in-NewPromise.is) (runs_to run_new_promise h.0 h.1) (omega arith) c.if-level-gt-DEEPEST.false)

pub eval::eval-eval_send-requires : goal.eval::eval-eval_send-requires
eval::eval-eval_send-requires t c = (search rules, (search rules, (parts_fit (at c.args.w.now) c.in-Send.is (fits-Send c.args.w.now.own_scope (frame_of (at c.args.w.now).nouns) c.in-Send.receiver c.in-Send.verb c.in-Send.args) c.requires.fits, search rules)))

pub eval::eval-eval_when-requires : goal.eval::eval-eval_when-requires
eval::eval-eval_when-requires t c = (search rules, (search rules, (parts_fit (at c.args.w.now) c.in-When.is (fits-When c.args.w.now.own_scope (frame_of (at c.args.w.now).nouns) c.in-When.value c.in-When.captures c.in-When.block) c.requires.fits, search rules)))

pub eval::eval-eval_when_catch-requires : goal.eval::eval-eval_when_catch-requires
eval::eval-eval_when_catch-requires t c = (search rules, (search rules, (parts_fit (at c.args.w.now) c.in-WhenCatch.is (fits-WhenCatch c.args.w.now.own_scope (frame_of (at c.args.w.now).nouns) c.in-WhenCatch.value c.in-WhenCatch.captures c.in-WhenCatch.block c.in-WhenCatch.pattern c.in-WhenCatch.handler) c.requires.fits, search rules)))

pub sending::eval_send-returns-in_err-eval_part : goal.sending::eval_send-returns-in_err-eval_part
sending::eval_send-returns-in_err-eval_part t c = ends_on c.from_residual.result c.in_err-eval_part.field-0.0 c.args.into.now c.eval_part.new.w (Ends (c.args.level + 1) _ _) (Runs c.args.level _ _) c.from_residual.ensures.1 c.in_err-eval_part.ensures (λ h b r. run_send_receiver (child c.deref.ensures r))

pub sending::eval_send-eval_args-requires : goal.sending::eval_send-eval_args-requires
sending::eval_send-eval_args-requires t c = (search rules, (search rules, all_fit_then (slice_of c.deref-3.ensures.value c.deref-2.ensures) (child c.deref.ensures c.in_ok-eval_part.ensures) c.requires.fits.1))

pub sending::eval_send-returns-in_err-values : goal.sending::eval_send-returns-in_err-values
sending::eval_send-returns-in_err-values t c = handed_on c.from_residual-in_err-values.result c.in_err-values.field-0.0 c.eval_args.new.w (λ u b. Runs c.args.level _ _ (value (val_of c.args.into.now)) b) (λ h b. Args (c.args.level + 1) _ _ (halted h) b) (λ h b. Runs c.args.level _ _ (halt h) b) c.from_residual-in_err-values.ensures.1 c.in_err-values.ensures (λ h b r. run_send (child c.deref.ensures c.in_ok-eval_part.ensures) (args_as (slice_of c.deref-3.ensures.value c.deref-2.ensures) r))

pub sending::eval_send-send_call-requires : goal.sending::eval_send-send_call-requires
sending::eval_send-send_call-requires t c = omega (arith, ends_paid (child c.deref.ensures c.in_ok-eval_part.ensures), args_paid c.in_ok-values.ensures, c.requires.promised)

pub sending::eval_send-returns : goal.sending::eval_send-returns
sending::eval_send-returns t c =
    let a = at c.eval_args.new.w in
    let v = val_of c.eval_part.new.into in
    let vs = vals_of c.in_ok-values.values.items in
    ends_weaker c.send_call.result c.send_call.new.into c.send_call.new.w (λ o b. (o ≡ sent_end v (values vs) a) × (b ≡ sent_at c.args.verb.now v (values vs) a)) (Runs c.args.level _ _)
    (subst (λ xs. OnEnd c.send_call.result c.send_call.new.into c.send_call.new.w (λ o b. (o ≡ sent_end v (values (vals_of xs)) a) × (b ≡ sent_at c.args.verb.now v (values (vals_of xs)) a))) c.deref-4.ensures.value c.send_call.ensures)
    (λ o b h. runs_to (run_send (child c.deref.ensures c.in_ok-eval_part.ensures) (args_as (slice_of c.deref-3.ensures.value c.deref-2.ensures) c.in_ok-values.ensures)) h.0 h.1)

pub sending::eval_when-returns-in_err-eval : goal.sending::eval_when-returns-in_err-eval
sending::eval_when-returns-in_err-eval t c = ends_on c.from_residual.result c.in_err-eval.field-0.0 c.eval.new.into c.eval.new.w (Ends (c.args.level + 1) _ _) (Runs c.args.level _ _) c.from_residual.ensures.1 c.in_err-eval.ensures (λ h b r. run_when (child c.deref.ensures r))

pub sending::eval_when-define_when-requires : goal.sending::eval_when-define_when-requires
sending::eval_when-define_when-requires t c =
    let ended = child c.deref.ensures c.in_ok-eval.ensures in
    record {
      captures = c.requires.fits.1;
      placed = captures_then c.args.captures.now.value.items ended c.requires.fits.2;
      fits = c.requires.fits.3;
      handled = tt;
      promised = still_promised c.args.w.now c.eval.new.w (ends_paid ended) c.requires.promised;
    }

pub sending::eval_when-returns : goal.sending::eval_when-returns
sending::eval_when-returns t c =
    let a = at c.eval.new.w in
    let o = value (val_of c.eval.new.into) in
    let body = trees_of_codes c.args.block.now.value.items in
    ends_weaker c.define_when.result c.define_when.new.into c.define_when.new.w (λ p b. (p ≡ when_end body None o a) × (b ≡ when_made body None o a)) (Runs c.args.level _ _) c.define_when.ensures (λ p b h. runs_to (run_when (child c.deref.ensures c.in_ok-eval.ensures)) h.0 h.1)

pub sending::eval_when_catch-returns-in_err-eval : goal.sending::eval_when_catch-returns-in_err-eval
sending::eval_when_catch-returns-in_err-eval t c = ends_on c.from_residual.result c.in_err-eval.field-0.0 c.eval.new.into c.eval.new.w (Ends (c.args.level + 1) _ _) (Runs c.args.level _ _) c.from_residual.ensures.1 c.in_err-eval.ensures (λ h b r. run_when_catch (child c.deref.ensures r))

pub sending::eval_when_catch-define_when-requires-clause-placed : goal.sending::eval_when_catch-define_when-requires-clause-placed
sending::eval_when_catch-define_when-requires-clause-placed t c = captures_then c.args.captures.now.value.items (child c.deref.ensures c.in_ok-eval.ensures) c.requires.fits.2

pub sending::eval_when_catch-define_when-requires-clause-promised : goal.sending::eval_when_catch-define_when-requires-clause-promised
sending::eval_when_catch-define_when-requires-clause-promised t c = still_promised c.args.w.now c.eval.new.w (ends_paid (child c.deref.ensures c.in_ok-eval.ensures)) c.requires.promised

pub sending::eval_when_catch-returns : goal.sending::eval_when_catch-returns
sending::eval_when_catch-returns t c =
    let a = at c.eval.new.w in
    let o = value (val_of c.eval.new.into) in
    let body = trees_of_codes c.args.block.now.value.items in
    let shared : Option Handler = Some (record { pattern = c.in_ok-share.field-0; block = trees_of_codes c.in_ok-try_clone.field-0.value.items }) in
    let same = handler_there c.in_ok-share.ensures c.in_ok-try_clone.ensures in
    ends_weaker c.define_when.result c.define_when.new.into c.define_when.new.w (λ p b. (p ≡ when_end body shared o a) × (b ≡ when_made body shared o a)) (Runs c.args.level _ _) c.define_when.ensures (λ p b h. runs_to (run_when_catch (child c.deref.ensures c.in_ok-eval.ensures)) (h.0 ∙ ap (λ m. when_end body m o a) same) (h.1 ∙ ap (λ m. when_made body m o a) same))

pub control::eval_if-returns-in_err-holds : goal.control::eval_if-returns-in_err-holds
control::eval_if-returns-in_err-holds t c = handed_on c.from_residual.result c.in_err-holds.field-0.0 c.eval_condition.new.w (λ u b. Runs c.args.level _ _ (value (val_of c.eval_condition.new.into)) b) (λ h b. (o : _) × Needs (c.args.level + 1) _ _ o b × (choice_of o ≡ ends (halt h))) (λ h b. Runs c.args.level _ _ (halt h) b) c.from_residual.ensures.1 c.in_err-holds.ensures (λ h b r. run_if_ends (wanted c.deref.ensures r.1) r.2)

pub control::eval_if-returns-then-holds : goal.control::eval_if-returns-then-holds
control::eval_if-returns-then-holds t c = ends_weaker c.eval_block.result c.eval_block.new.into c.eval_block.new.w (Block (c.args.level + 1) _ _) (Runs c.args.level _ _) c.eval_block.ensures (λ o b h. run_if_goes (wanted c.deref.ensures c.in_ok-holds.ensures.1) (c.in_ok-holds.ensures.2 ∙ ap goes c.if-holds.true) (blocks (slice_of c.deref-then-holds-2.ensures.value c.deref-then-holds.ensures) h))

pub control::eval_if-returns-else-holds : goal.control::eval_if-returns-else-holds
control::eval_if-returns-else-holds t c = ends_weaker c.eval_block-else-holds.result c.eval_block-else-holds.new.into c.eval_block-else-holds.new.w (Block (c.args.level + 1) _ _) (Runs c.args.level _ _) c.eval_block-else-holds.ensures (λ o b h. run_if_goes (wanted c.deref.ensures c.in_ok-holds.ensures.1) (c.in_ok-holds.ensures.2 ∙ ap goes c.if-holds.false) (blocks (slice_of c.deref-else-holds-2.ensures.value c.deref-else-holds.ensures) h))

pub control::eval_if-eval_block-requires : goal.control::eval_if-eval_block-requires
control::eval_if-eval_block-requires t c = (search rules, (search rules, chosen_fits (slice_of c.deref-then-holds-2.ensures.value c.deref-then-holds.ensures) (wanted c.deref.ensures c.in_ok-holds.ensures.1) c.in_ok-holds.ensures.2 c.requires.fits.1))

pub control::eval_if-eval_block-requires-else-holds : goal.control::eval_if-eval_block-requires-else-holds
control::eval_if-eval_block-requires-else-holds t c = (search rules, (search rules, chosen_fits (slice_of c.deref-else-holds-2.ensures.value c.deref-else-holds.ensures) (wanted c.deref.ensures c.in_ok-holds.ensures.1) c.in_ok-holds.ensures.2 c.requires.fits.2))

pub control::eval_while-returns-in_err-holds : goal.control::eval_while-returns-in_err-holds
control::eval_while-returns-in_err-holds t c = handed_on c.from_residual.result c.in_err-holds.field-0.0 c.eval_condition.new.w (λ u b. Runs c.args.level _ _ (value (val_of c.eval_condition.new.into)) b) (λ h b. (o : _) × Needs (c.args.level + 1) _ _ o b × (choice_of o ≡ ends (halt h))) (λ h b. Runs c.args.level _ _ (halt h) b) c.from_residual.ensures.1 c.in_err-holds.ensures (λ h b r. c.rounds.invariant.0 _ _ (run_while_ends (wanted c.deref.ensures r.1) r.2))

pub control::eval_while-returns-then-not-holds : goal.control::eval_while-returns-then-not-holds
control::eval_while-returns-then-not-holds t c = c.rounds.invariant.0 _ _ (run_while_done (wanted c.deref.ensures c.in_ok-holds.ensures.1) (c.in_ok-holds.ensures.2 ∙ ap goes c.if-not-holds.true))

pub control::eval_while-returns-in_err-run_block : goal.control::eval_while-returns-in_err-run_block
control::eval_while-returns-in_err-run_block t c = ends_on c.from_residual-in_err-run_block.result c.in_err-run_block.field-0.0 c.run_block.new.into c.run_block.new.w (Block (c.args.level + 1) _ _) (Runs c.args.level _ _) c.from_residual-in_err-run_block.ensures.1 c.in_err-run_block.ensures (λ h b r. c.rounds.invariant.0 _ _ (run_while_halts (wanted c.deref.ensures c.in_ok-holds.ensures.1) (c.in_ok-holds.ensures.2 ∙ ap goes c.if-not-holds.false) (blocks (slice_of c.deref-in-rounds-2.ensures.value c.deref-in-rounds.ensures) r)))

pub control::eval_while-rounds-preserved : goal.control::eval_while-rounds-preserved
control::eval_while-rounds-preserved t c =
    let ended = c.in_ok-run_block.ensures.1 in
    let g = round_grow c.in_ok-holds.ensures.1 ended in
    let kept = ap (λ (b : At). b.nouns) c.keep_names.ensures.place ∙ truncated (at c.rounds.w).nouns (at c.run_block.new.w).nouns c.count_names-names.result c.rounds.invariant.1 g in (
      λ o b h. c.rounds.invariant.0 _ _ (run_while_again (wanted c.deref.ensures c.in_ok-holds.ensures.1) (c.in_ok-holds.ensures.2 ∙ ap goes c.if-not-holds.false) (blocks (slice_of c.deref-in-rounds-2.ensures.value c.deref-in-rounds.ensures) ended) (next_round c.rounds.w c.run_block.new.w c.rounds.invariant.1 g c.keep_names.ensures.place h)),
      c.rounds.invariant.1 ∙ ap length (sym kept),
      round_fits (at c.rounds.w) (at c.keep_names.new.w) c.args.condition.now.value c.args.body.now.value.items kept
          (ap (λ (b : At). b.own_scope) c.keep_names.ensures.place ∙ (block_stays ended).1 ∙ (goes_add c.in_ok-holds.ensures.1 c.in_ok-holds.ensures.2).1) c.rounds.invariant.2,
    )

pub control::eval_while-rounds-smaller : goal.control::eval_while-rounds-smaller
control::eval_while-rounds-smaller t c = omega (arith, condition_less c.in_ok-holds.ensures.1 (c.in_ok-holds.ensures.2 ∙ ap goes c.if-not-holds.false), block_left c.in_ok-run_block.ensures.1, ap (λ (b : At). b.left) c.keep_names.ensures.place)

pub control::eval_while-eval_condition-requires : goal.control::eval_while-eval_condition-requires
control::eval_while-eval_condition-requires t c = (search rules, (search rules, subst (fits_at (at c.rounds.w)) (sym c.deref.ensures) c.rounds.invariant.2.0))

pub control::eval_while-run_block-requires : goal.control::eval_while-run_block-requires
control::eval_while-run_block-requires t c = (search rules, (search rules, chosen_fits (slice_of c.deref-in-rounds-2.ensures.value c.deref-in-rounds.ensures) (wanted c.deref.ensures c.in_ok-holds.ensures.1) c.in_ok-holds.ensures.2 c.rounds.invariant.2.1))

pub control::run_block-returns : goal.control::run_block-returns
control::run_block-returns t c = some_over c.run_items-answer.result c.run_items-answer.new.w c.leave.new.w (Items c.args.level _ _ _) (Block c.args.level _ _) c.leave.ensures.halt c.run_items-answer.ensures (λ o r. block_end c.args.w.now c.run_items-answer.new.w c.enter-outer.ensures.names c.enter-outer.ensures.own c.enter-outer.ensures.place r c.leave.ensures.place)

pub control::run_items-returns-then-done-items : goal.control::run_items-returns-then-done-items
control::run_items-returns-then-done-items t c = all_done c.args.items.now c.in_ok-done.done (omega (arith, c.if-done-items.true)) c.in_ok-done.ensures.runs

pub control::run_items-returns : goal.control::run_items-returns
control::run_items-returns t c = done_then c.eval_items.result c.eval_items.new.into c.eval_items.new.w c.args.items.now c.in_ok-done.done (at c.run_settings.new.w) (to_the_end c.in_ok-done.done c.args.items.now) c.in_ok-done.ensures.runs c.eval_items.ensures

pub control::eval_for-returns-in_err-eval : goal.control::eval_for-returns-in_err-eval
control::eval_for-returns-in_err-eval t c = ends_on c.from_residual.result c.in_err-eval.field-0.0 c.eval.new.into c.eval.new.w (Ends (c.args.level + 1) _ _) (Runs c.args.level _ _) c.from_residual.ensures.1 c.in_err-eval.ensures (λ h b r. run_for_ends (needs (child c.deref.ensures r)) refl)

pub control::eval_for-returns-in_err-values : goal.control::eval_for-returns-in_err-values
control::eval_for-returns-in_err-values t c = handed_on c.from_residual-in_err-values.result c.in_err-values.field-0.0 c.items_of.new.w (λ u b. Runs c.args.level _ _ (value (val_of c.take_end.new.value)) b) (λ h b. (listing_of (value (val_of c.take_end.new.value)) ≡ unlisted (halt h)) × (b ≡ at c.take_end.new.w)) (λ h b. Runs c.args.level _ _ (halt h) b) c.from_residual-in_err-values.ensures.1 c.in_err-values.ensures (λ h b r. runs_to (run_for_ends (end_taken (child c.deref.ensures c.in_ok-eval.ensures) c.in_ok-take_end.ensures.end c.in_ok-take_end.ensures.place) r.0) refl r.1)

pub control::eval_for-loop-value-init : goal.control::eval_for-loop-value-init
control::eval_for-loop-value-init t c = (λ o b h. h, block_fits refl (ap (λ (a : At). frame_of a.nouns ++ only_names (name_of c.args.pattern.now)) c.in_ok-values.ensures.1) (repeated_fits (only_names (name_of c.args.pattern.now)) refl (end_taken (child c.deref.ensures c.in_ok-eval.ensures) c.in_ok-take_end.ensures.end c.in_ok-take_end.ensures.place) c.in_ok-values.ensures.0 c.requires.fits.1))

pub control::eval_for-eval_taking-requires : goal.control::eval_for-eval_taking-requires
control::eval_for-eval_taking-requires t c = (search rules, (search rules, block_fits (slice_of c.deref-in-loop-value-2.ensures.value c.deref-in-loop-value.ensures) refl c.loop-value.invariant.1))

pub control::eval_for-loop-value-preserved : goal.control::eval_for-loop-value-preserved
control::eval_for-loop-value-preserved t c = (
  λ o b h. c.loop-value.invariant.0 _ _ (each_more _ c.loop-value-test.true c.value-item.is (taking (slice_of c.deref-in-loop-value-2.ensures.value c.deref-in-loop-value.ensures) refl c.in_ok-eval_taking.ensures) h),
  block_fits refl (ap (λ ns. frame_of ns ++ only_names (name_of c.args.pattern.now)) (taking_stays c.in_ok-eval_taking.ensures).0) c.loop-value.invariant.1,
)

pub control::eval_for-returns-in_err-eval_taking : goal.control::eval_for-returns-in_err-eval_taking
control::eval_for-returns-in_err-eval_taking t c = ends_on c.from_residual-in_err-eval_taking.result c.in_err-eval_taking.field-0.0 c.eval_taking.new.into c.eval_taking.new.w (Taking (c.args.level + 1) _ _ _ _) (Runs c.args.level _ _) c.from_residual-in_err-eval_taking.ensures.1 c.in_err-eval_taking.ensures (λ h b r. (for_runs _ (end_taken (child c.deref.ensures c.in_ok-eval.ensures) c.in_ok-take_end.ensures.end c.in_ok-take_end.ensures.place) c.in_ok-values.ensures.0 c.in_ok-values.ensures.1 (c.as_slice-value-items.ensures ∙ ap (λ (a : _). a) c.deref-2.ensures) (c.loop-value.invariant.0 _ _ (each_no_more _ c.loop-value-test.true c.value-item.is (taking (slice_of c.deref-in-loop-value-2.ensures.value c.deref-in-loop-value.ensures) refl r)))))

pub control::eval_for-returns : goal.control::eval_for-returns
control::eval_for-returns t c = (for_runs _ (end_taken (child c.deref.ensures c.in_ok-eval.ensures) c.in_ok-take_end.ensures.end c.in_ok-take_end.ensures.place) c.in_ok-values.ensures.0 c.in_ok-values.ensures.1 (c.as_slice-value-items.ensures ∙ ap (λ (a : _). a) c.deref-2.ensures) (c.loop-value.invariant.0 _ _ (each_end _ c.loop-value-test.false)))

pub control::eval_try-returns-in-Ok : goal.control::eval_try-returns-in-Ok
control::eval_try-returns-in-Ok t c = run_try (blocks (slice_of c.deref-2.ensures.value c.deref.ensures) c.in-Ok.ensures) refl

pub control::eval_try-returns-in-None : goal.control::eval_try-returns-in-None
control::eval_try-returns-in-None t c = run_try (blocks (slice_of c.deref-2.ensures.value c.deref.ensures) (of_halted c.in-Err-Halted.field-0 c.eval_block.new.w (λ h b. Block (c.args.level + 1) _ _ (halt h) b) c.in-Err-Halted.field-0-is c.in-Err-Halted.ensures)) (sym (search rules))

pub control::eval_try-returns-in-Some : goal.control::eval_try-returns-in-Some
control::eval_try-returns-in-Some t c = ends_weaker c.eval_taking.result c.eval_taking.new.into c.eval_taking.new.w (Taking (c.args.level + 1) _ _ _ _) (Runs c.args.level _ _) c.eval_taking.ensures (λ o b h. run_try_caught (blocks (slice_of c.deref-2.ensures.value c.deref.ensures) (of_halted c.in-Err-Halted.field-0 c.eval_block.new.w (λ h b. Block (c.args.level + 1) _ _ (halt h) b) c.in-Err-Halted.field-0-is c.in-Err-Halted.ensures)) (search rules) (taking (slice_of c.deref-in-Some-2.ensures.value c.deref-in-Some.ensures) refl h))

pub control::eval_condition-returns-in-Some : goal.control::eval_condition-returns-in-Some
control::eval_condition-returns-in-Some t c = (value (bool c.in-Some.truth), truth_there c.in-Some.ensures.ends, refl)

pub control::eval_any_condition-returns : goal.control::eval_any_condition-returns
control::eval_any_condition-returns t c = chosen c.choose.result c.choose.new.w (end_taken c.in_ok-eval.ensures c.in_ok-take_end.ensures.end c.in_ok-take_end.ensures.place) c.choose.ensures

pub control::eval_any_condition-returns-in_err-eval : goal.control::eval_any_condition-returns-in_err-eval
control::eval_any_condition-returns-in_err-eval t c = handed_on c.from_residual.result c.in_err-eval.field-0.0 c.eval.new.w (λ q b. (o : _) × Needs c.args.level _ _ o b × (choice_of o ≡ goes q)) (λ h b. Ends c.args.level _ _ (halt h) b) (λ h b. (o : _) × Needs c.args.level _ _ o b × (choice_of o ≡ ends (halt h))) c.from_residual.ensures.1 c.in_err-eval.ensures (λ h b r. (halt h, needs r, refl))

pub control::eval_block-returns : goal.control::eval_block-returns
control::eval_block-returns t c = ends_over c.eval_items-answer.result c.eval_items-answer.new.into c.eval_items-answer.new.w c.leave.new.w (Items c.args.level _ _ _) (Block c.args.level _ _) c.leave.ensures.halt c.eval_items-answer.ensures (λ o r. block_end c.args.w.now c.eval_items-answer.new.w c.enter-outer.ensures.names c.enter-outer.ensures.own c.enter-outer.ensures.place r c.leave.ensures.place)

pub control::eval_taking-returns : goal.control::eval_taking-returns
control::eval_taking-returns t c = ends_over c.eval_items-answer.result c.eval_items-answer.new.into c.eval_items-answer.new.w c.leave.new.w (Items c.args.level _ _ _) (Taking c.args.level _ _ _ _) c.leave.ensures.halt c.eval_items-answer.ensures (λ o r. taking_end c.args.pattern.now (val_of c.args.value.now) c.args.w.now c.eval_items-answer.new.w c.enter-outer.ensures.names c.enter-outer.ensures.own c.enter-outer.ensures.place c.in_ok-match_pattern.ensures r c.leave.ensures.place)

pub control::eval_block-returns-then-is_empty : goal.control::eval_block-returns-then-is_empty
control::eval_block-returns-then-is_empty t c = block_none c.args.items.now (at c.args.w.now) (search rules)
