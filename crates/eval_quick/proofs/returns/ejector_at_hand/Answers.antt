use Rattle.std.proofs.Common.{◌≡◌, true, rules, sym, ap, ◌∙◌}
use Rattle.code.specs.View.{trees_of_codes}
use Rattle.eval_rules.specs.Doings.{same_vat}
use Rattle.eval_rules.specs.View.{at}
use Rattle.eval_quick.proofs.Leaves.{leaf_fits}
use Rattle.eval_quick.proofs.Sent.{call_sends}
use Rattle.eval_quick.proofs.returns.ejector_at_hand.Goals as goal

pub returns-then-eq-2-clause-fits : goal.returns-then-eq-2-clause-fits
returns-then-eq-2-clause-fits c = leaf_fits (at c.args.w.now) _ c.args.args.now c.in_ok-called.ensures c.requires.fits.1

pub returns-then-eq-2-clause-sends : goal.returns-then-eq-2-clause-sends
returns-then-eq-2-clause-sends c =
    let own : same_vat c.in_ok-called.called.vat c.here.result ≡ true = search rules in
    call_sends (at c.args.w.now) (trees_of_codes c.args.args.now) c.in_ok-called.ensures (ap (λ v. same_vat c.in_ok-called.called.vat v) (sym c.here.ensures) ∙ own) (search rules) (search rules) (search rules)
