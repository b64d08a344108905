use Rattle.eorder.proofs.Keeping.{entries_keep, rows_keep}
use Rattle.eorder.proofs.Deeds.{deeds_keep}
use Rattle.eorder.proofs.theorems.turns_keep_order.Goals as goal

pub returns-clause-entries : goal.returns-clause-entries
returns-clause-entries c = entries_keep

pub returns-clause-deeds : goal.returns-clause-deeds
returns-clause-deeds c = deeds_keep

pub returns-clause-rows : goal.returns-clause-rows
returns-clause-rows c = rows_keep
