use Rattle.std.proofs.Common.{◌≡◌, sym, ap, ◌∙◌}
use Rattle.values.specs.View.{val_of}
use Rattle.values.specs.Same.{same_as}
use Rattle.values.proofs.Equivalence.{itself, equal}
use Rattle.heap.specs.State.{held}
use Rattle.event.proofs.found.ValueStandsFor.is_same.Goals as goal

pub returns : goal.returns
returns c =
    let v = val_of c.args.self.now in
    let w = val_of c.args.other.now in (
      λ t. ap held (equal v w (sym c.same.ensures ∙ t)),
      λ s. let same : v ≡ w = cc in c.same.ensures ∙ ap (same_as v) (sym same) ∙ itself v,
    )
