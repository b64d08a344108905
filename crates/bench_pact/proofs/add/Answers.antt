use Rattle.std.proofs.Common.{[], ◌∷◌, rules, ◌∙◌, ap}
use Rattle.bench_pact.specs.Agree.{keeper_of, holder_of}
use Rattle.bench_pact.proofs.Moves.{adds_as, parts_as}
use Rattle.bench_pact.proofs.add.Goals as goal

pub swap_as-requires : goal.swap_as-requires
swap_as-requires g c = (search rules, (search rules, (c.requires.cell, adds_as _ _ _ (0 ∷ []) c.requires.view)))

pub split_pass-requires : goal.split_pass-requires
split_pass-requires g c = let s = c.swap_as.ensures in (search rules, (search rules, (s.cell.0 ∙ c.requires.cell, parts_as _ _ _ _ _ s.rule)))

pub returns-clause-keeper : goal.returns-clause-keeper
returns-clause-keeper g c = let s = c.swap_as.ensures in let t = c.split_pass.ensures in (t.kept.0.0 ∙ s.cell.0, t.kept.1 ∙ ap keeper_of s.rule)

pub returns-clause-holder : goal.returns-clause-holder
returns-clause-holder g c = let s = c.swap_as.ensures in let t = c.split_pass.ensures in (t.given.0 ∙ s.cell.0, t.given.2, t.given.1 ∙ ap holder_of s.rule)
