-- The invariant of a journal with records, and of the state beside it.
use Rattle.std.specs.Prelude.{ℕ, List}
use Rattle.history.specs.Subject.{Subject, World}
use Rattle.history.specs.Journal.{live_set, Good, Named}
use Rattle.history.specs.Records.{Row, State, contents, entries_of, Follows}
use Rattle.history.specs.Chains.{Chained}

-- the live entries have made the contents from the start, the state and the records are what they leave, and last writers lead to causes
pub record Stands (s : Subject) (start : World s) (next : ℕ) (rows : List (Row s)) (state : State s) : Type 0 where
  pub good : Good s start (live_set s) (entries_of rows) (contents s state)
  pub named : Named s next (entries_of rows)
  pub follows : Follows s start (live_set s) rows state
  pub chained : Chained s (entries_of rows)
