use Rattle.std.proofs.Common.{Some, None, sym, ◌∙◌}
use Rattle.world_cells.proofs.Worlds.{ok_follows}
use Rattle.book_agenda.proofs.Fronts.{puts_same, puts_both, puts_told, gone}
use Rattle.book_agenda.proofs.waiting.Waiting.put.Goals as goal

pub returns-then-is_same : goal.returns-then-is_same
returns-then-is_same c = puts_same c.args.name c.args.waits c.args.self.now (sym c.get.ensures ∙ c.is_same.ensures c.if-is_same.true)

pub returns-in-Some : goal.returns-in-Some
returns-in-Some c = ok_follows c.add.result _ _ (c.add.ensures (gone c.args.name c.args.self.now c.remove.new.self c.in_ok-remove.ensures))
    (λ _ p. puts_told c.args.name (Some c.in-Some.waits) c.args.waits c.args.self.now c.add.new.self (sym c.in-Some.is) (puts_both c.args.name (Some c.in-Some.waits) c.args.self.now c.remove.new.self c.add.new.self c.in_ok-remove.ensures p))

pub returns-in-None : goal.returns-in-None
returns-in-None c = puts_told c.args.name None c.args.waits c.args.self.now c.remove.new.self (sym c.in-None.is) c.in_ok-remove.ensures
