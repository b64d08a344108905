use Rattle.std.proofs.Common.{◌≡◌, true, rules, sym, ap, ◌∙◌, subst}
use Rattle.code.specs.View.{tree_of_code}
use Rattle.values.specs.Data.{object}
use Rattle.values.specs.View.{val_of}
use Rattle.eval_rules.specs.Doings.{same_vat}
use Rattle.eval_rules.specs.View.{at}
use Rattle.eval_quick.specs.Leaves.{GivesAtHand}
use Rattle.eval_quick.proofs.Leaves.{noun_leaf}
use Rattle.eval_quick.proofs.direct.object_at_hand.Goals as goal

pub returns-then-eq : goal.returns-then-eq
returns-then-eq c =
    let a = at c.args.w.now in
    let id = c.in-Some-Object.id in
    let own : same_vat id.vat c.here.result ≡ true = search rules in
    let gives : GivesAtHand c.in-Noun.name (object id) a = subst (λ v. GivesAtHand c.in-Noun.name v a) (ap val_of c.in-Some-Object.field-0-is) c.in-Some-Object.ensures in
    (noun_leaf a c.args.e.now c.in-Noun.name (object id) (ap tree_of_code c.in-Noun.is) gives, ap (λ v. same_vat id.vat v) (sym c.here.ensures) ∙ own)
