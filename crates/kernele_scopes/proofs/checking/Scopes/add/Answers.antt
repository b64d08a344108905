use Rattle.std.proofs.Common.{ap, sym, ◌∙◌, is_some, rules}
use Rattle.kernele_scopes.proofs.Names.{puts}
use Rattle.kernele_scopes.proofs.checking.Scopes.add.Goals as goal

pub returns : goal.returns
returns c =
    puts c.args.self.now.around c.args.self.now.defined c.insert.new.self (record { name = c.args.name.now; kind = c.args.kind }) (ap is_some (sym c.kind_in_own.ensures) ∙ sym c.is_some.ensures ∙ c.if-is_some.false)
    (rw c.in_ok-share-2.ensures at c.in_ok-insert.ensures.updates)

pub returns-then-is_some : goal.returns-then-is_some
returns-then-is_some c = search rules
