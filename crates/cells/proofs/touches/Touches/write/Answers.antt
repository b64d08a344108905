use Rattle.std.proofs.Common.{Some, is_some, ap, ◌∙◌}
use Rattle.std.proofs.lemmas.Result.{on_ok_weaker, on_err_weaker}
use Rattle.std.specs.Map.{lookup}
use Rattle.std.proofs.lemmas.Map.{lookup-set_value}
use Rattle.cells.proofs.touches.Touches.write.Goals as goal

pub returns-clause-written : goal.returns-clause-written
returns-clause-written g c =
    let eq = g.K.PartialEq.eq in
    let laws = g.met.K.Eq.laws in
    let es = c.args.self.now.touches in
    on_ok_weaker c.write.result
    (λ w q t is. ap (lookup (eq q)) (w t is) ∙ lookup-set_value laws (eq c.args.key.now) (λ x y h. laws.congr c.args.key.now x y h) q (record { found = t.found; written = Some c.args.value }) es (ap is_some is))
    c.write.ensures.written

pub returns-clause-same : goal.returns-clause-same
returns-clause-same g c = on_err_weaker c.write.result (λ e q. ap (lookup (g.K.PartialEq.eq q)) e) c.write.ensures.same
