use Rattle.std.proofs.Common.{drop, ◌+◌, ap, sym, ◌∙◌, arith}
use Rattle.eval_rules.specs.Rules.{matched_all}
use Rattle.eval_rules.specs.View.{at}
use Rattle.values.specs.View.{vals_of}
use Rattle.eval_rules.proofs.Patterns.{matched_more, matched_end}
use Rattle.eval_objects.proofs.nouns.match_all.Goals as goal

pub loop-i-preserved : goal.loop-i-preserved
loop-i-preserved c =
    ap (matched_all (drop (c.loop-i.i + 1) c.args.patterns.now) (vals_of (drop (c.loop-i.i + 1) c.args.values.now))) c.in_ok-match_pattern.ensures
    ∙ sym (matched_more c.args.patterns.now c.args.values.now c.loop-i.i c.index-patterns-i.result c.index-values-i.result (at c.loop-i.w) c.loop-i-test.true (omega (arith, c.loop-i-test.true, c.requires)) c.index-patterns-i.is c.index-values-i.is)
    ∙ c.loop-i.invariant

pub returns : goal.returns
returns c = sym (matched_end c.args.patterns.now (vals_of (drop c.loop-i.i c.args.values.now)) c.loop-i.i (at c.loop-i.w) c.loop-i-test.false) ∙ c.loop-i.invariant
