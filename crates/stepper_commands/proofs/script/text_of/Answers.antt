use Rattle.stepper_commands.proofs.ScriptLemmas.{no_fault, bad_word}
use Rattle.std.proofs.Common.{sym, rules}
use Rattle.stepper_commands.proofs.script.text_of.Goals as goal

pub returns-in-Ok-clause-fault : goal.returns-in-Ok-clause-fault
returns-in-Ok-clause-fault c = sym (no_fault c.args.line.now c.args.is_long c.if-is_long.false c.in-Ok.ensures.cases.1)

pub returns-in-Err-clause-fault : goal.returns-in-Err-clause-fault
returns-in-Err-clause-fault c = sym (bad_word c.args.line.now c.args.is_long c.if-is_long.false c.in-Err.ensures.cases.0)

pub returns-then-is_long-clause-fault : goal.returns-then-is_long-clause-fault
returns-then-is_long-clause-fault c = search rules
