use Rattle.stepper_streams.proofs.Giving.{LeadsTo}
use Rattle.stepper_printing.specs.Show.{board_lines}
use Rattle.stepper_printing.specs.ShowView.{board_in, board_entries}
use Rattle.stepper_printing.proofs.show.put_board.Given as goal

-- what may be put of those that are left leads to all
abbrev pub invariant-loop-promise : goal.invariant-loop-promise
invariant-loop-promise g l = LeadsTo g.W.Write.contents l.fn.out l.out (board_lines (board_entries l.promise-iterator)) (board_lines (board_in l.board))
