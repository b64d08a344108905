use Rattle.std.proofs.lemmas.Result.{err_from_is_err_and}
use Rattle.stepper.specs.declared.fault.Fault.TheVariants.{Reader, Writer, Memory}
use Rattle.stepper.proofs.Going.{ends_sent, ends_cut, ends_from, fails_sent, fails_cut, fails_from}
use Rattle.stepper.proofs.engine.Engine.answer_and_send.Goals as goal

pub returns-in_err-send-in-Ok-clause-err : goal.returns-in_err-send-in-Ok-clause-err
returns-in_err-send-in-Ok-clause-err g c =
    let p = err_from_is_err_and c.from_residual.result c.from_residual.ensures.1 in
    rw (p.1, p.2) (fails_from g.R.Read.remaining g.W.Write.contents c.args.self.now.limits c.args.source.now c.answer_all.new.source c.args.sink.now c.reopen.new.self c.send.new.self Writer c.reopen.ensures.gives
    (ends_cut g.R.Read.remaining g.W.Write.contents c.args.self.now.limits c.args.source.now c.answer_all.new.source c.reopen.new.self c.answer_all.new.sink c.send.new.self
    c.answer_all.new.self.written.refused c.in-Ok.ensures.whole (c.send.ensures.tells.some c.in-Ok.ensures.uncut c.in_err-send-in-Ok.ensures.err)))

pub returns-in_ok-send-in-Ok-clause-ok : goal.returns-in_ok-send-in-Ok-clause-ok
returns-in_ok-send-in-Ok-clause-ok g c =
    ends_from g.R.Read.remaining g.W.Write.contents c.args.self.now.limits c.args.source.now c.answer_all.new.source c.args.sink.now c.reopen.new.self c.send.new.self c.answer_all.new.self.written.refused c.reopen.ensures.gives
    (ends_sent g.R.Read.remaining g.W.Write.contents c.args.self.now.limits c.args.source.now c.answer_all.new.source c.reopen.new.self c.answer_all.new.sink c.send.new.self c.answer_all.new.self.written.refused c.in-Ok.ensures.whole
    (c.send.ensures.tells.all c.in-Ok.ensures.uncut c.in_ok-send-in-Ok.ensures.ok))

pub returns-in_err-send-in-Err-Reader-clause-err : goal.returns-in_err-send-in-Err-Reader-clause-err
returns-in_err-send-in-Err-Reader-clause-err g c =
    let p = err_from_is_err_and c.from_residual-in_err-send-in-Err-Reader.result c.from_residual-in_err-send-in-Err-Reader.ensures.1 in
    let r = rw c.in-Err-Reader.field-0-is at c.in-Err-Reader.ensures.whole in
    let u = rw c.in-Err-Reader.field-0-is at c.in-Err-Reader.ensures.uncut in
    rw (p.1, p.2) (fails_from g.R.Read.remaining g.W.Write.contents c.args.self.now.limits c.args.source.now c.answer_all.new.source c.args.sink.now c.reopen.new.self c.send-in-Err-Reader.new.self Writer c.reopen.ensures.gives
    (fails_cut g.R.Read.remaining g.W.Write.contents c.args.self.now.limits c.args.source.now c.answer_all.new.source c.reopen.new.self c.answer_all.new.sink c.send-in-Err-Reader.new.self Reader (λ e. cc) r
    (c.send-in-Err-Reader.ensures.tells.some u c.in_err-send-in-Err-Reader.ensures.err)))

pub returns-in_ok-send-in-Err-Reader-clause-err : goal.returns-in_ok-send-in-Err-Reader-clause-err
returns-in_ok-send-in-Err-Reader-clause-err g c =
    let r = rw c.in-Err-Reader.field-0-is at c.in-Err-Reader.ensures.whole in
    let u = rw c.in-Err-Reader.field-0-is at c.in-Err-Reader.ensures.uncut in
    fails_from g.R.Read.remaining g.W.Write.contents c.args.self.now.limits c.args.source.now c.answer_all.new.source c.args.sink.now c.reopen.new.self c.send-in-Err-Reader.new.self Reader c.reopen.ensures.gives
    (fails_sent g.R.Read.remaining g.W.Write.contents c.args.self.now.limits c.args.source.now c.answer_all.new.source c.reopen.new.self c.answer_all.new.sink c.send-in-Err-Reader.new.self Reader (λ e. cc) r
    (c.send-in-Err-Reader.ensures.tells.all u c.in_ok-send-in-Err-Reader.ensures.ok))

pub returns-in-Err-Writer-clause-err : goal.returns-in-Err-Writer-clause-err
returns-in-Err-Writer-clause-err g c =
    let r = rw c.in-Err-Writer.field-0-is at c.in-Err-Writer.ensures.whole in
    fails_from g.R.Read.remaining g.W.Write.contents c.args.self.now.limits c.args.source.now c.answer_all.new.source c.args.sink.now c.reopen.new.self c.answer_all.new.sink Writer c.reopen.ensures.gives r

pub returns-in-Err-Writer-clause-all_out : goal.returns-in-Err-Writer-clause-all_out
returns-in-Err-Writer-clause-all_out g c = let r = rw c.in-Err-Writer.field-0-is at c.in-Err-Writer.ensures.whole in r.cut.none_waits

pub returns-in_err-send-in-Err-Memory-clause-err : goal.returns-in_err-send-in-Err-Memory-clause-err
returns-in_err-send-in-Err-Memory-clause-err g c =
    let p = err_from_is_err_and c.from_residual-in_err-send-in-Err-Memory.result c.from_residual-in_err-send-in-Err-Memory.ensures.1 in
    let r = rw c.in-Err-Memory.field-0-is at c.in-Err-Memory.ensures.whole in
    let u = rw c.in-Err-Memory.field-0-is at c.in-Err-Memory.ensures.uncut in
    rw (p.1, p.2) (fails_from g.R.Read.remaining g.W.Write.contents c.args.self.now.limits c.args.source.now c.answer_all.new.source c.args.sink.now c.reopen.new.self c.send-in-Err-Memory.new.self Writer c.reopen.ensures.gives
    (fails_cut g.R.Read.remaining g.W.Write.contents c.args.self.now.limits c.args.source.now c.answer_all.new.source c.reopen.new.self c.answer_all.new.sink c.send-in-Err-Memory.new.self Memory (λ e. cc) r
    (c.send-in-Err-Memory.ensures.tells.some u c.in_err-send-in-Err-Memory.ensures.err)))

pub returns-in_ok-send-in-Err-Memory-clause-err : goal.returns-in_ok-send-in-Err-Memory-clause-err
returns-in_ok-send-in-Err-Memory-clause-err g c =
    let r = rw c.in-Err-Memory.field-0-is at c.in-Err-Memory.ensures.whole in
    let u = rw c.in-Err-Memory.field-0-is at c.in-Err-Memory.ensures.uncut in
    fails_from g.R.Read.remaining g.W.Write.contents c.args.self.now.limits c.args.source.now c.answer_all.new.source c.args.sink.now c.reopen.new.self c.send-in-Err-Memory.new.self Memory c.reopen.ensures.gives
    (fails_sent g.R.Read.remaining g.W.Write.contents c.args.self.now.limits c.args.source.now c.answer_all.new.source c.reopen.new.self c.answer_all.new.sink c.send-in-Err-Memory.new.self Memory (λ e. cc) r
    (c.send-in-Err-Memory.ensures.tells.all u c.in_ok-send-in-Err-Memory.ensures.ok))
