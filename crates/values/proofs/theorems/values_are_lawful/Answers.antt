use Rattle.values.proofs.Equivalence.{itself, equal, both_ways, third}
use Rattle.values.proofs.VerbTexts.{each_found, spelled, others}
use Rattle.values.proofs.theorems.values_are_lawful.Goals as goal

pub returns : goal.returns
returns c = record { reflexive = itself; symmetric = both_ways; transitive = third; exact = equal; found = each_found; spelled = spelled; others = others }
