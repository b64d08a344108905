use Rattle.std.proofs.Common.{refl, rules}
use Rattle.world_cells.proofs.Worlds.{ok_follows}
use Rattle.book_agenda.proofs.Fronts.{stays_behind, takes_place}
use Rattle.book_agenda.proofs.waiting.Waiting.replace_front.Goals as goal

pub returns-then-lt : goal.returns-then-lt
returns-then-lt c = stays_behind c.args.first c.args.name c.args.self.now (search rules)

pub returns : goal.returns
returns c = ok_follows c.add_front.result _ _ c.add_front.ensures (λ _ f. takes_place c.args.first c.args.name c.args.self.now _ _ (search rules) refl refl (λ m. c.remove.ensures.updates.0 m) f)
