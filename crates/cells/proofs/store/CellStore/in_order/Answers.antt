use Rattle.std.proofs.Common.{◌≡◌, suc, ◌-◌, sym, subst, arith}
use Rattle.cells.specs.Clones.{Lists}
use Rattle.cells.proofs.Places.{drop_at}
use Rattle.cells.proofs.store.CellStore.in_order.Goals as goal

pub loop-i-preserved : goal.loop-i-preserved
loop-i-preserved g c = record {
  within = omega (arith, c.loop-i.invariant.within);
  listed =
      let one : c.loop-i.i ≡ suc (c.loop-i.i - 1) = omega (arith, c.loop-i-test.true) in
      subst (λ es. Lists g.K.PartialEq.eq g.K.Ord.cmp g.V.Clone.is_clone es c.list_cell.new.listed)
      (sym (drop_at c.args.self.now.cells.entries c.loop-i.i (c.loop-i.i - 1) _ one c.cell_at.ensures))
      (c.in_ok-list_cell.ensures _ c.loop-i.invariant.listed);
}
