use Rattle.std.proofs.Common.{◌∙◌}
use Rattle.stepper.proofs.Whole.{said_text, said_fault}
use Rattle.stepper.proofs.Going.{line_answered}
use Rattle.stepper.proofs.engine.Engine.answer_line.Goals as goal

pub returns-in-Ok : goal.returns-in-Ok
returns-in-Ok g c =
    let line = c.args.line.now in
    line_answered g.R.Read.remaining g.W.Write.contents c.args.self.now c.answer_said.new.self c.args.source.now c.answer_said.new.source c.args.sink.now c.answer_said.new.sink line _ c.answer_said.result
    (c.command_of.ensures ∙ said_text line c.as_slice.result.now c.in-Ok.text.now c.as_slice.ensures.value c.in-Ok.ensures.ok c.in-Ok.ensures.fault) c.answer_said.ensures

pub returns-in-Err : goal.returns-in-Err
returns-in-Err g c =
    let line = c.args.line.now in
    line_answered g.R.Read.remaining g.W.Write.contents c.args.self.now c.answer_said-in-Err.new.self c.args.source.now c.answer_said-in-Err.new.source c.args.sink.now c.answer_said-in-Err.new.sink line _
    c.answer_said-in-Err.result (said_fault line c.as_slice.result.now c.in-Err.fault c.as_slice.ensures.value c.in-Err.ensures.fault) c.answer_said-in-Err.ensures
