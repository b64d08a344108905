use Rattle.std.proofs.Common.{◌==◌, sym, ◌∙◌, rules, tests}
use Rattle.std.proofs.lemmas.Iterator.{YieldsList-from_slice}
use Rattle.std.proofs.lemmas.Iterator.Search.{any_from_yields_List}
use Rattle.desk.specs.DeskView.{lent_of}
use Rattle.desk.proofs.Mapped.{any_mapped}
use Rattle.desk.proofs.desk.Desk.has_vat.Goals as goal

pub returns : goal.returns
returns c =
    let xs = c.args.self.now.out.items in
    any_from_yields_List (λ x. x.vat.0.0 == c.args.vat.0.0) _ _ c.any.result c.any.ensures.ran (YieldsList-from_slice xs cc) (λ x b q k. search (rules, tests))
    ∙ sym (any_mapped (λ t. t.vat.0.0 == c.args.vat.0.0) lent_of xs)
