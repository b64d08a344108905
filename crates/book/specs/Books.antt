-- The book: what has happened so far.
use Rattle.std.specs.Prelude.{ℕ, ◌-◌, List, [], take, drop, length}
use Rattle.world_cells.specs.World.{World, empty}
use Rattle.journal.specs.Lines.{Line}
use Rattle.desk.specs.Desks.{Lent}

-- the world, the journal, the oldest line first, how many of its lines are settled, the name that comes next, and the tickets that are out
pub record Book : Type 0 where
  pub world : World
  pub journal : List Line
  pub settled : ℕ
  pub next : ℕ
  pub out : List Lent

-- nothing has happened
abbrev pub blank : Book
blank = record { world = empty; journal = []; settled = 0; next = 1; out = [] }

-- how many lines are not settled
abbrev pub open_count : Book → ℕ
open_count b = length b.journal - b.settled

-- the lines that are settled, and those behind them
abbrev pub settled_lines : Book → List Line
settled_lines b = take b.settled b.journal

abbrev pub open_lines : Book → List Line
open_lines b = drop b.settled b.journal
