use Rattle.std.proofs.Common.{ap, ◌∙◌}
use Rattle.std.proofs.lemmas.Result.{on_ok_weaker, on_err_weaker}
use Rattle.std.specs.Map.{lookup}
use Rattle.cells.proofs.Rows.{looked_inserted}
use Rattle.cells.proofs.touches.Touches.add.Goals as goal

pub returns-clause-ok : goal.returns-clause-ok
returns-clause-ok g c =
    let eq = g.K.PartialEq.eq in
    on_ok_weaker c.insert.result (λ e q. ap (lookup (eq q)) e ∙ looked_inserted g.met.K.Eq.laws c.args.key c.args.added q c.args.self.now.touches) c.insert.ensures.ok

pub returns-clause-err : goal.returns-clause-err
returns-clause-err g c = on_err_weaker c.insert.result (λ e q. ap (lookup (g.K.PartialEq.eq q)) e) c.insert.ensures.err
