use Rattle.std.proofs.Common.{drop}
use Rattle.stepper_streams.proofs.Giving.{LeadsTo}
use Rattle.stepper_printing.specs.PictureView.{homes_text}
use Rattle.stepper_printing.proofs.show.put_homes.Given as goal

-- what may be put of those that are left leads to all
abbrev pub invariant-loop-home : goal.invariant-loop-home
invariant-loop-home g l = LeadsTo g.W.Write.contents l.fn.out l.out (homes_text (drop l.home-index l.homes)) (homes_text l.homes)
