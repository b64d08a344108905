use Rattle.std.specs.Option.{option_map}
use Rattle.std.proofs.lemmas.Result.{IfOk-weaker}
use Rattle.values.specs.View.{reply_of, val_of}
use Rattle.turn.proofs.Telling.{settles}
use Rattle.turn.proofs.ending.end.Goals as goal

pub returns : goal.returns
returns c = IfOk-weaker c.tell.result _ _ (λ e h x left. settles c.args.w.now c.settle.new.draft x c.args.promise (val_of c.args.value.now) (option_map val_of c.in_ok-form.form) (reply_of c.in_ok-told.told) c.in_ok-form.ensures.did c.in_ok-form.ensures.turn c.in_ok-told.ensures (h x left)) c.tell.ensures
