use Rattle.std.proofs.Common.{◌≡◌, true, rules, sym, ap, ◌∙◌, subst}
use Rattle.eval_rules.specs.Fits.{all_fit_at}
use Rattle.eval_rules.specs.Doings.{same_vat}
use Rattle.eval_rules.specs.View.{at}
use Rattle.eval_rules.proofs.Steps.{only_one}
use Rattle.eval_quick.proofs.Leaves.{leaf_fits}
use Rattle.eval_quick.proofs.Sent.{call_returns}
use Rattle.eval_quick.proofs.returns.given.Goals as goal

pub returns-then-eq-clause-fits : goal.returns-then-eq-clause-fits
returns-then-eq-clause-fits c = (subst (all_fit_at (at c.args.w.now)) (sym (only_one c.args.args.now _ (search rules) c.index-args-0.is)) (leaf_fits (at c.args.w.now) _ c.args.args.now c.in_ok-called.ensures c.requires.1)).0

pub returns-then-eq-clause-returns : goal.returns-then-eq-clause-returns
returns-then-eq-clause-returns c =
    let own : same_vat c.in_ok-called.called.vat c.here.result ≡ true = search rules in
    call_returns (at c.args.w.now) c.args.ejector (only_one c.args.args.now _ (search rules) c.index-args-0.is) c.in_ok-called.ensures (search rules) (ap (λ v. same_vat c.in_ok-called.called.vat v) (sym c.here.ensures) ∙ own) (search rules) c.if-w-lt2.false c.if-level-ge-DEEPEST.false
