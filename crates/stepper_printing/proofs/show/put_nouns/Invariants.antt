use Rattle.stepper_streams.proofs.Giving.{LeadsTo}
use Rattle.stepper_printing.specs.Show.{noun_lines}
use Rattle.stepper_printing.specs.ShowView.{nouns_in, noun_entries}
use Rattle.stepper_printing.proofs.show.put_nouns.Given as goal

-- what may be put of those that are left leads to all
abbrev pub invariant-loop-name : goal.invariant-loop-name
invariant-loop-name g l = LeadsTo g.W.Write.contents l.fn.out l.out (noun_lines (noun_entries l.name-iterator)) (noun_lines (nouns_in l.nouns))
