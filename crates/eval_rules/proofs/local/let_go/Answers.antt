use Rattle.std.proofs.Common.{◌≡◌, arith, rules, ap, sym, take, [], ◌∷◌, ◌∙◌, length, length-append}
use Rattle.std.proofs.lemmas.List.{take-append-le, take_all}
use Rattle.eval_rules.proofs.local.let_go.Goals as goal

pub loop-nouns-preserved : goal.loop-nouns-preserved
loop-nouns-preserved c =
    let left = c.pop.new.self.items in
    let last = c.in-Some.local ∷ [] in
    let many : c.len.result ≡ length c.loop-nouns.nouns.items = search rules in
    sym (ap (take c.args.left) c.in-Some.ensures.items ∙ take-append-le c.args.left left last (omega (arith, many, ap length c.in-Some.ensures.items, length-append left last))) ∙ c.loop-nouns.invariant

pub returns : goal.returns
returns c = sym (take_all c.args.left c.loop-nouns.nouns.items (omega arith)) ∙ c.loop-nouns.invariant
