use Rattle.std.proofs.Common.{[], ◌∷◌, rules}
use Rattle.bench_pact.proofs.Moves.{begins}
use Rattle.bench_pact.proofs.begin.Goals as goal

pub ruled-requires : goal.ruled-requires
ruled-requires c = (search rules, (search rules, begins (0 ∷ [])))
