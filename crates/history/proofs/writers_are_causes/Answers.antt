use Rattle.history.proofs.Chaining.{chain_ends}
use Rattle.history.proofs.Standing.{last_shown, chains_stand, chain_stands}
use Rattle.history.proofs.writers_are_causes.Goals as goal

pub returns : goal.returns
returns g c = let s = g.S.Undoable.subject in let laws = g.S.Undoable.laws in record {
  last_writer = λ start next rows state h k. last_shown s h k;
  causes_are_chains = λ start next rows state h. chains_stand s laws h;
  chain_ends = λ k es. chain_ends s k es;
  chain_is_followed = λ start next rows state h k xs ys a is. chain_stands s laws h k xs ys a is;
}
