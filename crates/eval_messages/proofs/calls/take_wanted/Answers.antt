use Rattle.std.proofs.Common.{ap, sym, ◌∙◌}
use Rattle.std.proofs.lemmas.Result.{on_ok_weaker}
use Rattle.values.specs.Data.{and_val, no_vals}
use Rattle.values.specs.View.{val_of}
use Rattle.eval_rules.specs.Doings.{given_by, behind}
use Rattle.eval_rules.specs.View.{at}
use Rattle.eval_messages.specs.Arguments.{wanted_args}
use Rattle.eval_messages.proofs.Arguments.{end_given, end_behind}
use Rattle.eval_messages.proofs.calls.take_wanted.Goals as goal

pub returns-then-wanted-clause-args : goal.returns-then-wanted-clause-args
returns-then-wanted-clause-args c =
    let v = val_of c.args.value.now in
    let a = at c.args.w.now in
    on_ok_weaker c.take_end.result (λ e. ap (λ u. and_val u no_vals) e ∙ sym (end_given v a) ∙ ap (λ q. given_by (wanted_args q v) a) (sym c.if-wanted.true)) c.take_end.ensures.end

pub returns-then-wanted-clause-place : goal.returns-then-wanted-clause-place
returns-then-wanted-clause-place c =
    let v = val_of c.args.value.now in
    let a = at c.args.w.now in
    on_ok_weaker c.take_end.result (λ e. e ∙ sym (end_behind v a) ∙ ap (λ q. behind (wanted_args q v) a) (sym c.if-wanted.true)) c.take_end.ensures.place
