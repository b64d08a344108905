use Rattle.undo.proofs.Standing.{begins, enters, undoes, redoes}
use Rattle.undo.proofs.Neighbours.{exchanges}
use Rattle.undo.proofs.theorems.cores_stand.Goals as goal

pub returns : goal.returns
returns g c = let does = g.E.Lawful.does in let laws = g.E.Lawful.laws in record {
  begins = begins does laws;
  enters = enters does laws;
  undoes = undoes does laws;
  redoes = redoes does laws;
  exchanges = exchanges does laws;
}
