use Rattle.std.proofs.Common.{◌++◌, take, drop, sym, ap, ◌∙◌, append_assoc, take-append-drop}
use Rattle.std.proofs.KnownBytes.{Appends-trans}
use Rattle.stepper_streams.proofs.outlet.write_whole.Goals as goal

pub writes-preserved : goal.writes-preserved
writes-preserved g c =
    let i = c.writes.invariant in
    let n = c.in-Ok.taken in
    let rest = c.writes.rest.now in (
      i.0 ++ take n rest,
      i.1 ∙ ap (λ z. i.0 ++ z) (sym (take-append-drop n rest)) ∙ sym (append_assoc i.0 (take n rest) (drop n rest)) ∙ ap (λ z. (i.0 ++ take n rest) ++ z) (sym c.split_at.ensures.back),
      Appends-trans _ _ _ i.0 (take n rest) i.2 c.in-Ok.ensures.bytes,
      c.in-Ok.ensures.count ∙ i.3,
    )
