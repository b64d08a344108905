use Rattle.std.proofs.Common.{refl, arith}
use Rattle.std.proofs.lemmas.Result.{err_from_is_err_and}
use Rattle.stepper.proofs.Going.{run_begins, run_ends, run_stops_at_line, run_stops_behind, run_goes_on, run_is_cut, line_uncut, stop_uncut}
use Rattle.stepper.proofs.engine.Engine.answer_all.Goals as goal

pub commands-init : goal.commands-init
commands-init g c = run_begins g.R.Read.remaining g.W.Write.contents c.args.self.now.limits c.args.source.now c.args.sink.now c.args.self.now c.requires.sound c.requires.open c.requires.blank c.requires.none_refused refl

pub commands-preserved : goal.commands-preserved
commands-preserved g c =
    let t = rw c.in-Some.is at c.in_ok-line.ensures.line in
    run_goes_on g.R.Read.remaining g.W.Write.contents c.args.self.now.limits c.args.source.now c.commands.source c.next_line.new.source c.answer_line.new.source c.args.sink.now c.commands.sink c.next_line.new.sink
    c.answer_line.new.sink c.commands.self c.answer_line.new.self c.in-Some.line c.commands.invariant t c.in_ok-line.ensures.none_refused c.in_ok-line.ensures.gives (c.in_ok-answer_line-in-Some.ensures t.bytes t.reads t.one)
    c.in_ok-line.ensures.uncut c.in_ok-check.ensures.ok

pub commands-smaller : goal.commands-smaller
commands-smaller g c =
    let t = rw c.in-Some.is at c.in_ok-line.ensures.line in
    let counted = rw c.in-Some.is at c.in_ok-line.ensures.counted in
    let a = c.in_ok-answer_line-in-Some.ensures t.bytes t.reads t.one in
    let more = a.counted in
    omega (arith, counted.0, counted.1, more)

pub returns-in-None-clause-whole : goal.returns-in-None-clause-whole
returns-in-None-clause-whole g c =
    run_ends g.R.Read.remaining g.W.Write.contents c.args.self.now.limits c.args.source.now c.commands.source c.next_line.new.source c.args.sink.now c.commands.sink c.next_line.new.sink c.commands.self c.commands.invariant
    (rw c.in-None.is at c.in_ok-line.ensures.line) c.in_ok-line.ensures.none_refused c.in_ok-line.ensures.gives

pub returns-in_err-line-clause-whole : goal.returns-in_err-line-clause-whole
returns-in_err-line-clause-whole g c =
    let p = err_from_is_err_and c.from_residual.result c.from_residual.ensures.1 in
    rw (p.1, p.2) (run_stops_at_line g.R.Read.remaining g.W.Write.contents c.args.self.now.limits c.args.source.now c.commands.source c.next_line.new.source c.args.sink.now c.commands.sink c.next_line.new.sink c.commands.self
    c.commands.invariant _ c.in_err-line.ensures.err)

pub returns-in_err-answer_line-in-Some-clause-whole : goal.returns-in_err-answer_line-in-Some-clause-whole
returns-in_err-answer_line-in-Some-clause-whole g c =
    let t = rw c.in-Some.is at c.in_ok-line.ensures.line in
    let p = err_from_is_err_and c.from_residual-in_err-answer_line-in-Some.result c.from_residual-in_err-answer_line-in-Some.ensures.1 in
    rw (p.1, p.2) (run_stops_behind g.R.Read.remaining g.W.Write.contents c.args.self.now.limits c.args.source.now c.commands.source c.next_line.new.source c.answer_line.new.source c.args.sink.now c.commands.sink
    c.next_line.new.sink c.answer_line.new.sink c.commands.self c.answer_line.new.self c.in-Some.line c.commands.invariant t c.in_ok-line.ensures.none_refused c.in_ok-line.ensures.gives _
    (c.in_err-answer_line-in-Some.ensures t.bytes t.reads t.one))

pub returns-in_err-check-clause-whole : goal.returns-in_err-check-clause-whole
returns-in_err-check-clause-whole g c =
    let t = rw c.in-Some.is at c.in_ok-line.ensures.line in
    let p = err_from_is_err_and c.from_residual-in_err-check.result c.from_residual-in_err-check.ensures.1 in
    rw (p.1, p.2) (run_is_cut g.R.Read.remaining g.W.Write.contents c.args.self.now.limits c.args.source.now c.commands.source c.next_line.new.source c.answer_line.new.source c.args.sink.now c.commands.sink
    c.next_line.new.sink c.answer_line.new.sink c.commands.self c.answer_line.new.self c.in-Some.line c.commands.invariant t c.in_ok-line.ensures.none_refused c.in_ok-line.ensures.gives (c.in_ok-answer_line-in-Some.ensures t.bytes t.reads t.one)
    c.in_ok-line.ensures.uncut c.in_err-check.ensures.err)

pub returns-in_err-line-clause-uncut : goal.returns-in_err-line-clause-uncut
returns-in_err-line-clause-uncut g c =
    let p = err_from_is_err_and c.from_residual.result c.from_residual.ensures.1 in
    rw (p.1, p.2) (line_uncut g.R.Read.remaining g.W.Write.contents c.commands.source c.next_line.new.source c.commands.sink c.next_line.new.sink _ c.in_err-line.ensures.err)

pub returns-in_err-answer_line-in-Some-clause-uncut : goal.returns-in_err-answer_line-in-Some-clause-uncut
returns-in_err-answer_line-in-Some-clause-uncut g c =
    let t = rw c.in-Some.is at c.in_ok-line.ensures.line in
    let p = err_from_is_err_and c.from_residual-in_err-answer_line-in-Some.result c.from_residual-in_err-answer_line-in-Some.ensures.1 in
    rw (p.1, p.2) (stop_uncut g.R.Read.remaining g.W.Write.contents c.next_line.new.source c.answer_line.new.source c.next_line.new.sink c.answer_line.new.sink t.bytes _ (c.in_err-answer_line-in-Some.ensures t.bytes t.reads t.one))

pub returns-in_err-check-clause-uncut : goal.returns-in_err-check-clause-uncut
returns-in_err-check-clause-uncut g c =
    let p = err_from_is_err_and c.from_residual-in_err-check.result c.from_residual-in_err-check.ensures.1 in
    rw (p.1, p.2) tt
