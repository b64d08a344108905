use Rattle.std.proofs.Common.{rules, ap, sym, ◌∙◌}
use Rattle.values.specs.Data.{list}
use Rattle.values.specs.View.{val_of}
use Rattle.values.proofs.Tables.{no_row, no_verbs, replied}
use Rattle.values.proofs.calls.call_verb.Goals as goal

pub returns-in-Null : goal.returns-in-Null
returns-in-Null c = rw (no_verbs c.args.receiver.now c.in-Null.is) (replied c.no_method.result _ _ (sym (no_row c.args.verb.now c.args.arguments.now)) c.no_method.ensures)

pub returns-in-List : goal.returns-in-List
returns-in-List c = rw (ap val_of c.in-List.is ∙ ap list (sym c.deref.ensures)) c.list_call.ensures

pub returns-in-Bool : goal.returns-in-Bool
returns-in-Bool c = search rules
