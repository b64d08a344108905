use Rattle.std.proofs.Common.{[], ◌∷◌, sym, ap}
use Rattle.event.proofs.Gathering.{keys_next}
use Rattle.event.proofs.left.add_keys.Goals as goal

pub loop-place-preserved : goal.loop-place-preserved
loop-place-preserved g c = record {
  count = c.loop-place.invariant.count;
  keys = keys_next g.K.VatKey.cell g.K.VatKey.content _ _ _ _ _ _ _ _ c.at.ensures c.loop-place.invariant.keys c.in_ok-push.ensures.items (ap (λ k. k ∷ []) (sym c.in_ok-in_world.ensures));
}
