use Rattle.std.proofs.Common.{refl}
use Rattle.world_cells.proofs.Worlds.{ok_follows}
use Rattle.book_agenda.proofs.Fronts.{adds_behind, adds_moving, adds_ready}
use Rattle.book_agenda.proofs.waiting.Waiting.add.Goals as goal

pub returns-in-Moving : goal.returns-in-Moving
returns-in-Moving c = λ was. ok_follows c.add_front.result _ _ c.add_front.ensures (λ _ f. adds_moving c.args.name c.args.waits c.args.self.now _ _ c.in-Moving.is (λ m. c.in_ok-insert.ensures.updates.0 m) refl refl f was)

pub returns-in-Ready : goal.returns-in-Ready
returns-in-Ready c = λ was. ok_follows c.add_ready.result _ _ c.add_ready.ensures (λ _ g. adds_ready c.args.name c.args.waits c.in-Ready.vat c.args.self.now _ _ c.in-Ready.is (λ m. c.in_ok-insert.ensures.updates.0 m) refl refl g was)

pub returns-in-Behind : goal.returns-in-Behind
returns-in-Behind c = λ was. adds_behind c.args.name c.args.waits c.args.self.now _ c.in-Behind.is (λ m. c.in_ok-insert.ensures.updates.0 m) refl refl was
