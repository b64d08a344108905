use Rattle.event.proofs.found.hold_kinds.Goals as goal

pub returns : goal.returns
returns c = (
  λ t. (
    c.hold_found.ensures.0 c.if-not-hold_found.false,
    c.hold_found-2.ensures.0 c.if-not-hold_found-2.false,
    c.hold_found-3.ensures.0 c.if-not-hold_found-3.false,
    c.hold_found-4.ensures.0 c.if-not-hold_found-4.false,
    c.hold_found-5.ensures.0 t,
  ),
  λ k. c.hold_found-5.ensures.1 k.4,
)
