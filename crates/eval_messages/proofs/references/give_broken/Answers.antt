use Rattle.std.proofs.Common.{ap, sym, ◌∙◌}
use Rattle.std.specs.Prelude.{option_map}
use Rattle.values.specs.Data.{broken}
use Rattle.values.specs.Replies.{text_in}
use Rattle.values.specs.View.{val_of}
use Rattle.eval_rules.specs.Rules.{broken_by}
use Rattle.eval_rules.proofs.Answering.{stop_is}
use Rattle.eval_messages.proofs.Made.{unmapped}
use Rattle.eval_messages.proofs.references.give_broken.Goals as goal

pub returns-in-None : goal.returns-in-None
returns-in-None c =
    let v = val_of c.args.into.now in
    let none = unmapped broken (text_in v) (sym (ap (option_map val_of) c.in-None.is) ∙ c.in_ok-broken.ensures) in
    stop_is c.mismatch.result c.mismatch.new.w _ _ _ (ap (broken_by v) (sym none)) c.mismatch.ensures
