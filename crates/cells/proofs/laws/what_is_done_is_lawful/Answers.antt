use Rattle.cells.proofs.Doings.{one_after_another, cells_only_grow, goes_alike}
use Rattle.cells.proofs.laws.what_is_done_is_lawful.Goals as goal

pub returns-clause-one_after_another : goal.returns-clause-one_after_another
returns-clause-one_after_another g c = one_after_another _ _ _ _

pub returns-clause-cells_only_grow : goal.returns-clause-cells_only_grow
returns-clause-cells_only_grow g c = cells_only_grow _ _ _

pub returns-clause-goes_alike : goal.returns-clause-goes_alike
returns-clause-goes_alike g c = goes_alike _ _ _
