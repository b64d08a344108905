use Rattle.std.proofs.Common.{refl, sym}
use Rattle.values.specs.Replies.{bool_table}
use Rattle.values.proofs.Tables.{beyond_none, replied}
use Rattle.values.proofs.calls.bool_call.Goals as goal

pub returns-in_default : goal.returns-in_default
returns-in_default c = replied c.no_method-in_default.result _ _ (sym (beyond_none (bool_table c.args.holds) c.args.verb.now (λ v vs. refl) c.args.arguments.now c.in_default.len_at_least)) c.no_method-in_default.ensures
