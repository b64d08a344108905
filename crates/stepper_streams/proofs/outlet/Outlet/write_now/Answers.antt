use Rattle.std.proofs.Common.{refl}
use Rattle.stepper_streams.proofs.Giving.{on_ok_both, on_err_both, written_behind, cut_writing}
use Rattle.stepper_streams.proofs.outlet.Outlet.write_now.Goals as goal

pub returns-clause-ok : goal.returns-clause-ok
returns-clause-ok g c =
    let mid = c.write_waiting.new.self in
    on_ok_both c.write_whole.result
    (written_behind g.W.Write.contents c.args.self.now mid (record mid { sink = c.write_whole.new.sink }) c.args.bytes.now c.in_ok-write_waiting.ensures.ok c.write_waiting.ensures.none_waits refl)
    c.write_whole.ensures.ok c.write_whole.ensures.none_failed

pub returns-clause-err : goal.returns-clause-err
returns-clause-err g c =
    let mid = c.write_waiting.new.self in
    on_err_both c.write_whole.result
    (cut_writing g.W.Write.contents c.args.self.now mid (record mid { sink = c.write_whole.new.sink }) c.args.bytes.now c.in_ok-write_waiting.ensures.ok c.write_waiting.ensures.none_waits refl)
    c.write_whole.ensures.err c.write_whole.ensures.one_failed
