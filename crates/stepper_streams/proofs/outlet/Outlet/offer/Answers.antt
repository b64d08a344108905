use Rattle.std.proofs.Common.{[], refl}
use Rattle.std.proofs.lemmas.Result.{on_ok_weaker, on_err_weaker}
use Rattle.stepper_streams.proofs.Giving.{stays, gives_both, cut_behind}
use Rattle.stepper_streams.proofs.outlet.Outlet.offer.Goals as goal

pub returns-in-Err-clause-ok : goal.returns-in-Err-clause-ok
returns-in-Err-clause-ok g c =
    let contents = g.W.Write.contents in
    let old = c.args.self.now in
    let mid = c.write_many.new.self in
    let kept = record mid { waiting = c.extend_from_slice.new.self } in
    let before = gives_both contents old mid kept [] [] c.in_ok-write_many.ensures.ok (stays contents mid kept refl c.in-Err.ensures.items) in
    on_ok_weaker c.write_now-in-Err.result (gives_both contents old kept c.write_now-in-Err.new.self [] c.args.bytes.now before) c.write_now-in-Err.ensures.ok

pub returns-in-Err-clause-err : goal.returns-in-Err-clause-err
returns-in-Err-clause-err g c =
    let contents = g.W.Write.contents in
    let old = c.args.self.now in
    let mid = c.write_many.new.self in
    let kept = record mid { waiting = c.extend_from_slice.new.self } in
    let before = gives_both contents old mid kept [] [] c.in_ok-write_many.ensures.ok (stays contents mid kept refl c.in-Err.ensures.items) in
    on_err_weaker c.write_now-in-Err.result (cut_behind contents old kept c.write_now-in-Err.new.self [] c.args.bytes.now before) c.write_now-in-Err.ensures.err
