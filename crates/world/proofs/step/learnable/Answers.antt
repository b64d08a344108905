use Rattle.std.proofs.Common.{ap, sym, ◌∙◌}
use Rattle.std.proofs.lemmas.Bool.{false≢true}
use Rattle.world_cells.specs.World.{published_in}
use Rattle.world.proofs.step.learnable.Goals as goal

pub returns-then-not-is_open-clause-err : goal.returns-then-not-is_open-clause-err
returns-then-not-is_open-clause-err c = λ b h. false≢true (sym c.if-not-is_open.true ∙ c.is_open.ensures.1 h.unresolved)

pub returns-in-None-clause-err : goal.returns-in-None-clause-err
returns-in-None-clause-err c = λ b h. absurd (cc (ap published_in c.in-None.ensures, h.resolved))
