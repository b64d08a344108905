use Rattle.std.proofs.Common.{ap, sym, refl, subst, ℕ, Ok, Some}
use Rattle.std.proofs.lemmas.Result.{err_from_is_err_and}
use Rattle.stepper_commands.specs.Commands.{command_of}
use Rattle.stepper_commands.specs.Words.{words_in}
use Rattle.stepper.specs.Replies.{arrive_moves, forward_moves, turn_moves, script_lines}
use Rattle.stepper.specs.Taking.{StopsWithin}
use Rattle.stepper.proofs.Answered.{happens_as}
use Rattle.stepper.proofs.Doing.{does_alone, does_held}
use Rattle.stepper.proofs.engine.Engine.answer.Goals as goal

pub returns-in_ok-script-in-Birth : goal.returns-in_ok-script-in-Birth
returns-in_ok-script-in-Birth g c =
    does_held g.R.Read.remaining g.W.Write.contents c.args.source.now c.take_script.new.source c.args.sink.now c.take_script.new.sink c.birth.new.out _ c.in-Birth.name.now (words_in c.in-Birth.earlier.now) c.in-Birth.lines
    (ap command_of c.in-Birth.is) c.requires.open refl refl refl c.in_ok-script-in-Birth.ensures c.birth.ensures

pub returns-in-Ask : goal.returns-in-Ask
returns-in-Ask g c = does_alone g.R.Read.remaining g.W.Write.contents c.args.source.now c.args.sink.now c.ask.new.out c.requires.sound _ _ (ap command_of c.in-Ask.is) refl refl refl refl c.ask.ensures

pub returns-in-Arrive : goal.returns-in-Arrive
returns-in-Arrive g c = does_alone g.R.Read.remaining g.W.Write.contents c.args.source.now c.args.sink.now c.obey.new.out c.requires.sound _ _ (ap command_of c.in-Arrive.is) refl refl refl refl (happens_as (λ b r s d k. arrive_moves k) c.obey.ensures)

pub returns-in-Forward : goal.returns-in-Forward
returns-in-Forward g c = does_alone g.R.Read.remaining g.W.Write.contents c.args.source.now c.args.sink.now c.obey-in-Forward.new.out c.requires.sound _ _ (ap command_of c.in-Forward.is) refl refl refl refl (happens_as (λ b r s d k. forward_moves k) c.obey-in-Forward.ensures)

pub returns-in-Learn : goal.returns-in-Learn
returns-in-Learn g c = does_alone g.R.Read.remaining g.W.Write.contents c.args.source.now c.args.sink.now c.learn.new.out c.requires.sound _ _ (ap command_of c.in-Learn.is) refl refl refl refl c.learn.ensures

pub returns-in-Turn : goal.returns-in-Turn
returns-in-Turn g c = does_alone g.R.Read.remaining g.W.Write.contents c.args.source.now c.args.sink.now c.obey-in-Turn.new.out c.requires.sound _ _ (ap command_of c.in-Turn.is) refl refl refl refl (happens_as (λ b r s d k. turn_moves k) c.obey-in-Turn.ensures)

pub returns-in-Step : goal.returns-in-Step
returns-in-Step g c = does_alone g.R.Read.remaining g.W.Write.contents c.args.source.now c.args.sink.now c.step.new.out c.requires.sound _ _ (ap command_of c.in-Step.is) refl refl refl refl c.step.ensures

pub returns-in-Run : goal.returns-in-Run
returns-in-Run g c = does_alone g.R.Read.remaining g.W.Write.contents c.args.source.now c.args.sink.now c.run.new.out c.requires.sound _ _ (ap command_of c.in-Run.is) refl refl refl refl c.run.ensures

pub returns-in-Work : goal.returns-in-Work
returns-in-Work g c = does_alone g.R.Read.remaining g.W.Write.contents c.args.source.now c.args.sink.now c.work.new.out c.requires.sound _ _ (ap command_of c.in-Work.is) refl refl refl refl c.work.ensures

pub returns-in-Enabled : goal.returns-in-Enabled
returns-in-Enabled g c = does_alone g.R.Read.remaining g.W.Write.contents c.args.source.now c.args.sink.now c.enabled.new.out c.requires.sound _ _ (ap command_of c.in-Enabled.is) refl refl refl refl c.enabled.ensures

pub returns-in-Show : goal.returns-in-Show
returns-in-Show g c = does_alone g.R.Read.remaining g.W.Write.contents c.args.source.now c.args.sink.now c.show.new.out c.requires.sound _ _ (ap command_of c.in-Show.is) refl refl refl refl c.show.ensures

pub returns-in-Journal : goal.returns-in-Journal
returns-in-Journal g c = does_alone g.R.Read.remaining g.W.Write.contents c.args.source.now c.args.sink.now c.journal.new.out c.requires.sound _ _ (ap command_of c.in-Journal.is) refl refl refl refl c.journal.ensures

pub returns-in-Log : goal.returns-in-Log
returns-in-Log g c = does_alone g.R.Read.remaining g.W.Write.contents c.args.source.now c.args.sink.now c.log.new.out c.requires.sound _ _ (ap command_of c.in-Log.is) refl refl refl refl c.log.ensures

pub returns-in-Cone : goal.returns-in-Cone
returns-in-Cone g c = does_alone g.R.Read.remaining g.W.Write.contents c.args.source.now c.args.sink.now c.cone.new.out c.requires.sound _ _ (ap command_of c.in-Cone.is) refl refl refl refl c.cone.ensures

pub returns-in-Undo : goal.returns-in-Undo
returns-in-Undo g c = does_alone g.R.Read.remaining g.W.Write.contents c.args.source.now c.args.sink.now c.undo_named.new.out c.requires.sound _ _ (ap command_of c.in-Undo.is) refl refl refl refl c.undo_named.ensures

pub returns-in-UndoCone : goal.returns-in-UndoCone
returns-in-UndoCone g c = does_alone g.R.Read.remaining g.W.Write.contents c.args.source.now c.args.sink.now c.undo_cone.new.out c.requires.sound _ _ (ap command_of c.in-UndoCone.is) refl refl refl refl c.undo_cone.ensures

pub returns-in-Redo : goal.returns-in-Redo
returns-in-Redo g c = does_alone g.R.Read.remaining g.W.Write.contents c.args.source.now c.args.sink.now c.redo_named.new.out c.requires.sound _ _ (ap command_of c.in-Redo.is) refl refl refl refl c.redo_named.ensures

pub returns-in-Exchange : goal.returns-in-Exchange
returns-in-Exchange g c = does_alone g.R.Read.remaining g.W.Write.contents c.args.source.now c.args.sink.now c.exchange.new.out c.requires.sound _ _ (ap command_of c.in-Exchange.is) refl refl refl refl c.exchange.ensures

pub returns-in-Settle : goal.returns-in-Settle
returns-in-Settle g c = does_alone g.R.Read.remaining g.W.Write.contents c.args.source.now c.args.sink.now c.settle.new.out c.requires.sound _ _ (ap command_of c.in-Settle.is) refl refl refl refl c.settle.ensures

pub returns-in-Why : goal.returns-in-Why
returns-in-Why g c = does_alone g.R.Read.remaining g.W.Write.contents c.args.source.now c.args.sink.now c.why.new.out c.requires.sound _ _ (ap command_of c.in-Why.is) refl refl refl refl c.why.ensures

pub returns-in-Event : goal.returns-in-Event
returns-in-Event g c = does_alone g.R.Read.remaining g.W.Write.contents c.args.source.now c.args.sink.now c.event.new.out c.requires.sound _ _ (ap command_of c.in-Event.is) refl refl refl refl c.event.ensures

pub returns-in-Message : goal.returns-in-Message
returns-in-Message g c = does_alone g.R.Read.remaining g.W.Write.contents c.args.source.now c.args.sink.now c.message.new.out c.requires.sound _ _ (ap command_of c.in-Message.is) refl refl refl refl c.message.ensures

pub returns-in-Object : goal.returns-in-Object
returns-in-Object g c = does_alone g.R.Read.remaining g.W.Write.contents c.args.source.now c.args.sink.now c.object.new.out c.requires.sound _ _ (ap command_of c.in-Object.is) refl refl refl refl c.object.ensures

pub returns-in_err-script-in-Birth : goal.returns-in_err-script-in-Birth
returns-in_err-script-in-Birth g c =
    let p = err_from_is_err_and c.from_residual.result c.from_residual.ensures.1 in
    rw (p.1, p.2) (subst (λ (n : ℕ). StopsWithin g.R.Read.remaining g.W.Write.contents c.args.source.now c.take_script.new.source c.args.sink.now c.take_script.new.sink n c.in_err-script-in-Birth.field-0.0)
    (sym (ap (λ z. script_lines (Ok (Some (command_of z)))) c.in-Birth.is)) c.in_err-script-in-Birth.ensures)
