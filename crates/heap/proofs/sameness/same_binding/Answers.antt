use Rattle.std.proofs.Common.{ap}
use Rattle.values.specs.View.{val_of}
use Rattle.heap.specs.View.{bind_of}
use Rattle.heap.proofs.Alike.{fixed_told}
use Rattle.heap.proofs.sameness.same_binding.Goals as goal

pub returns-in-Fixed-Fixed : goal.returns-in-Fixed-Fixed
returns-in-Fixed-Fixed c = fixed_told (val_of c.in-Fixed-Fixed.x) (val_of c.in-Fixed-Fixed.y) c.same.result (ap bind_of c.in-Fixed-Fixed.is-0) (ap bind_of c.in-Fixed-Fixed.is-1) c.same.ensures
