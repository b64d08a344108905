use Rattle.event.proofs.KindsFound.{kinds_are_all}
use Rattle.event.proofs.found.is_found.Goals as goal

pub returns : goal.returns
returns c =
    let k = kinds_are_all c.args.footprint.now c.args.state.now in (
      λ t. k.0 (c.hold_kinds.ensures.0 t),
      λ all. c.hold_kinds.ensures.1 (k.1 all),
    )
