use Rattle.std.proofs.Common.{refl, sym, ap, ◌∙◌}
use Rattle.cells.specs.Seen.{Seen}
use Rattle.heap.specs.State.{Content}
use Rattle.world_cells.proofs.Changing.{ext}
use Rattle.world_cells.proofs.Worlds.{seen_alike, state_is_seen, ok_follows}
use Rattle.world_cells.proofs.world.World.share_vat.Goals as goal

pub returns-clause-shared : goal.returns-clause-shared
returns-clause-shared c = ok_follows c.share.result _ _ c.share.ensures.shared (λ s h. ext _ _ (λ k. ap (λ (x : Seen Content). x.0) (h k) ∙ sym (state_is_seen c.args.self.now c.args.vat k)))

pub returns-clause-seen : goal.returns-clause-seen
returns-clause-seen c = seen_alike c.args.self.now (record (c.args.self.now) { homes = c.share.new.self }) (λ k. refl) (λ k. ap (λ f. f k) c.share.ensures.seen) (λ k. refl) (λ k. refl)
