use Rattle.cells.proofs.Cloning.{looked}
use Rattle.cells.proofs.store.CellStoreClone.clone.Goals as goal

pub returns : goal.returns
returns g c = record { cases = λ k. looked g.K.Clone.is_clone g.V.Clone.is_clone g.met.K.Key.clone_is_same (g.K.PartialEq.eq k) c.args.self.now.cells.entries c.in_ok-clone.field-0.entries c.in_ok-clone.ensures.cases }
