use Rattle.std.proofs.Common.{ap, sym, ◌∙◌}
use Rattle.eval_rules.specs.Outcomes.{reply_end}
use Rattle.eval_rules.specs.View.{at}
use Rattle.eval_rules.proofs.Answering.{end_to}
use Rattle.values.specs.Replies.{data_reply}
use Rattle.values.specs.View.{val_of, vals_of}
use Rattle.eval_messages.proofs.Arguments.{data_given, data_behind}
use Rattle.eval_messages.proofs.calls.call_datum.Goals as goal

pub returns : goal.returns
returns c =
    let v = val_of c.args.receiver.now in
    let verb = c.args.verb.now in
    let vs = vals_of c.args.args.now in
    let a = at c.args.w.now in
    end_to c.call_data.result c.call_data.new.into c.call_data.new.w _ _ _ _
    (ap (λ us. reply_end (data_reply v verb us)) c.in_ok-take_datum.ensures.args ∙ ap reply_end (sym (data_given v verb vs a)))
    (c.in_ok-take_datum.ensures.place ∙ sym (data_behind v verb vs a))
    c.call_data.ensures
