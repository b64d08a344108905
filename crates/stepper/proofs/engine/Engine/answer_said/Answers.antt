use Rattle.std.proofs.Common.{refl, sym, ap, subst, ◌∙◌, Ok}
use Rattle.std.specs.Prelude.{MatchResult}
use Rattle.stepper_commands.specs.Commands.{reading_of}
use Rattle.stepper.specs.Replies.{script_lines}
use Rattle.stepper.specs.Taking.{Does, StopsWithin}
use Rattle.stepper.proofs.Doing.{does_nothing, does_refuse}
use Rattle.stepper.proofs.engine.Engine.answer_said.Goals as goal

pub returns-in-Some : goal.returns-in-Some
returns-in-Some g c =
    let remaining = g.R.Read.remaining in
    let contents = g.W.Write.contents in
    let e = ap reading_of (c.in-Ok.is ∙ ap (λ o. Ok o) c.in-Some.is) in
    subst (λ z. MatchResult c.answer.result (λ _. Does remaining contents c.args.self.now c.answer.new.self c.args.source.now c.answer.new.source c.args.sink.now c.answer.new.sink z)
    (StopsWithin remaining contents c.args.source.now c.answer.new.source c.args.sink.now c.answer.new.sink (script_lines z))) (sym e) c.answer.ensures

pub returns-in-None : goal.returns-in-None
returns-in-None g c = does_nothing g.R.Read.remaining g.W.Write.contents c.args.source.now c.args.sink.now c.requires.sound c.args.self.now (ap reading_of (c.in-Ok.is ∙ ap (λ o. Ok o) c.in-None.is))

pub returns-in-Err : goal.returns-in-Err
returns-in-Err g c =
    does_refuse g.R.Read.remaining g.W.Write.contents c.args.source.now c.args.sink.now c.refuse_line.new.out c.requires.sound c.in-Err.fault (ap reading_of c.in-Err.is) refl refl c.refuse_line.ensures
