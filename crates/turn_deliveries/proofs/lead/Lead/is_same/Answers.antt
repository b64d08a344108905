use Rattle.std.proofs.Common.{◌≡◌, ◌↔◌, IsTrue, rules}
use Rattle.values.specs.View.{val_of}
use Rattle.post.proofs.Arguments.{value_told}
use Rattle.turn_deliveries.proofs.lead.Lead.is_same.Goals as goal

pub returns-then-same : goal.returns-then-same
returns-then-same c =
    let ends : IsTrue c.same.result ↔ (val_of c.args.self.now.end ≡ val_of c.args.other.now.end) = value_told (val_of c.args.self.now.end) (val_of c.args.other.now.end) c.same.result c.same.ensures in
    search rules

pub returns-else-same : goal.returns-else-same
returns-else-same c =
    let ends : IsTrue c.same.result ↔ (val_of c.args.self.now.end ≡ val_of c.args.other.now.end) = value_told (val_of c.args.self.now.end) (val_of c.args.other.now.end) c.same.result c.same.ensures in
    search rules
