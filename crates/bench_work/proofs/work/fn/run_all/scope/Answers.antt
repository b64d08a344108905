-- A worker may be sent to its thread: the place that it shares may cross, and so may what it hands over and gets back.
use denote.Exit.{no}
use denote.Param.{param}
use denote.Param.Send.{IsSync, param_send, arg_send}
use mir.Syntax.{named}
use Rattle.std.proofs.Common.{rules}
use Rattle.bench_work.proofs.crossing.Shared.{worker_send}
use Rattle.bench_work.proofs.work.fn.run_all.scope.Goals as goal

pub spawn_scoped-requires-send-F : goal.spawn_scoped-requires-send-F
spawn_scoped-requires-send-F g c κs within =
    let place : IsSync g.row.P = search (rules, c.requires) in
    let runtime : IsSync g.row.R = search (rules, c.requires) in
    let gate : IsSync g.row.G = search (rules, c.requires) in
    param_send 1 _ (arg_send _ no _ (worker_send (param 0 g.row.L) g.L.Opening g.L.Ledger g.row.P g.row.R g.row.G
    (record { mir = named 5; lft = κs.1.1.1.1.1.0 }) (record { mir = named 6; lft = κs.1.1.1.1.1.1.0 }) (record { mir = named 7; lft = κs.1.1.1.1.1.1.1.0 }) _ place runtime gate))
