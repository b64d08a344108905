-- Entries in order.
use Rattle.history.specs.Subject.{Subject}
use Rattle.history.specs.Journal.{Entry, live_set, Distinct, NoneNamesItself, Ordered, Sound}
use Rattle.history.specs.Chains.{Chained}
use Rattle.std.specs.Prelude.{List}

-- entries have names of their own, no entry is its own cause or that of an older one, the live ones are sound, and last writers lead to
-- causes
pub record Orderly (s : Subject) (es : List (Entry s)) : Type 0 where
  pub distinct : Distinct s es
  pub own : NoneNamesItself s es
  pub ordered : Ordered s es
  pub sound : Sound s (live_set s) es
  pub chained : Chained s es
