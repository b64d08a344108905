use Rattle.std.proofs.Common.{get_or, ap, sym, ◌∙◌}
use Rattle.std.proofs.lemmas.Result.{on_ok_weaker}
use Rattle.values.specs.View.{val_of}
use Rattle.eval_rules.specs.Doings.{given_by, behind}
use Rattle.eval_rules.specs.View.{at}
use Rattle.eval_messages.specs.Arguments.{wanted_args}
use Rattle.eval_messages.proofs.Arguments.{one_argument, more_arguments}
use Rattle.eval_messages.proofs.calls.take_datum.Goals as goal

pub returns-in-len1-clause-place : goal.returns-in-len1-clause-place
returns-in-len1-clause-place c =
    let a = at c.args.w.now in
    let x = c.index-args-0.result in
    let one = one_argument (val_of c.args.receiver.now) c.args.verb.now c.args.args.now x c.in-len1.len_at_least c.in-len1.len_below in
    on_ok_weaker c.take_wanted.result (λ e. e ∙ ap (λ q. behind (wanted_args q (val_of (get_or c.args.args.now 0 x))) a) c.wants_datum.ensures ∙ ap (λ d. behind d a) (sym one)) c.take_wanted.ensures.place

pub returns-in_default-2-clause-args : goal.returns-in_default-2-clause-args
returns-in_default-2-clause-args c = sym (ap (λ d. given_by d (at c.args.w.now)) (more_arguments (val_of c.args.receiver.now) c.args.verb.now c.args.args.now c.in_default.len_at_least))

pub returns-in_default-2-clause-place : goal.returns-in_default-2-clause-place
returns-in_default-2-clause-place c = sym (ap (λ d. behind d (at c.args.w.now)) (more_arguments (val_of c.args.receiver.now) c.args.verb.now c.args.args.now c.in_default.len_at_least))
