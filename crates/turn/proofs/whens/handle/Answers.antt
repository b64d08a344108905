use Rattle.std.proofs.Common.{ap, rules, subst, ◌∙◌}
use Rattle.std.specs.Option.{option_map}
use Rattle.code.specs.View.{trees_of_codes}
use Rattle.heap.specs.Names.{names_of}
use Rattle.heap.specs.View.{nouns_of}
use Rattle.post.specs.Blocks.{handler_fits}
use Rattle.post.specs.DeliveryView.{handler_of}
use Rattle.values.specs.Data.{null, text}
use Rattle.eval_rules.specs.Outcomes.{halt}
use Rattle.eval_rules.specs.Rules.{Items, matched}
use Rattle.eval_rules.specs.View.{at}
use Rattle.eval_rules.proofs.Answering.{ends_weaker, stop_weaker}
use Rattle.eval_rules.proofs.Steps.{slice_of}
use Rattle.turn_deliveries.specs.Turn.{Led, handled}
use Rattle.turn.proofs.Waiting.{entered_there, handled_fits, handler_there, thrown_there}
use Rattle.turn.proofs.whens.handle.Goals as goal

pub eval_items-requires : goal.eval_items-requires
eval_items-requires c =
    let when = c.args.when.now in
    let cs = when.captured.value.items in
    let h = c.in-Some.handler in
    let taken = c.in_ok-match_pattern-in-Some.ensures ∙ ap (λ t. matched h.pattern (text t) (at c.enter_when.new.w)) c.in_ok-share-in-Some.ensures in
    record {
      level = search rules;
      fits = handled_fits h.pattern c.args.problem.now cs (at c.args.w.now) (at c.match_pattern.new.w) (handler_there h.pattern c.args.problem.now cs (at c.args.w.now) c.in_ok-enter_when-in-Some.ensures taken) (slice_of c.deref-in-Some.ensures.value c.deref.ensures) (subst (handler_fits (names_of cs)) c.in-Some.is when.handled);
    }

pub returns-in_ok-match_pattern-in-Some : goal.returns-in_ok-match_pattern-in-Some
returns-in_ok-match_pattern-in-Some c =
    let when = c.args.when.now in
    let cs = when.captured.value.items in
    let a = at c.args.w.now in
    let h = c.in-Some.handler in
    let problem = c.args.problem.now in
    let taken = c.in_ok-match_pattern-in-Some.ensures ∙ ap (λ t. matched h.pattern (text t) (at c.enter_when.new.w)) c.in_ok-share-in-Some.ensures in
    let place = handler_there h.pattern problem cs a c.in_ok-enter_when-in-Some.ensures taken in
    let items = slice_of c.deref-in-Some.ensures.value c.deref.ensures in
    ends_weaker c.eval_items.result c.eval_items.new.into c.eval_items.new.w (Items 1 null _ (at c.match_pattern.new.w)) (Led (handled problem (nouns_of cs) (option_map handler_of when.handler)) a) c.eval_items.ensures
    (λ o b r. entered_there (ap (λ m. handled problem (nouns_of cs) (option_map handler_of m)) c.in-Some.is) (ap trees_of_codes items) place r)

pub returns-in_ok-share-in-None : goal.returns-in_ok-share-in-None
returns-in_ok-share-in-None c =
    let when = c.args.when.now in
    let cs = when.captured.value.items in
    let problem = c.args.problem.now in
    stop_weaker c.throw.result c.throw.new.w _ (λ h b. Led (handled problem (nouns_of cs) (option_map handler_of when.handler)) (at c.args.w.now) (halt h) b)
    (λ h b e. thrown_there (ap (λ m. handled problem (nouns_of cs) (option_map handler_of m)) c.in-None.is) c.in_ok-share-in-None.ensures e.0 e.1) c.throw.ensures.end
