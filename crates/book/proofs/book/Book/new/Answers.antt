use Rattle.std.proofs.Common.{ap, length, arith}
use Rattle.journal.specs.Lines.{lines_of}
use Rattle.desk.specs.DeskView.{out_of}
use Rattle.book.proofs.Blank.{blank_stands}
use Rattle.book.proofs.book.Book.new.Goals as goal

pub invariant_of-result-clause-stands : goal.invariant_of-result-clause-stands
invariant_of-result-clause-stands c = blank_stands c.new.result (out_of c.new-2.result) c.new.ensures.entries c.new.ensures.cells c.new-2.ensures

pub invariant_of-result-clause-within : goal.invariant_of-result-clause-within
invariant_of-result-clause-within c = let none = ap length c.new.ensures.entries in omega (arith, none)

pub returns-clause-blank : goal.returns-clause-blank
returns-clause-blank c = λ i. record { world = λ k. (c.new.ensures.cells k i).0; journal = lines_of (c.new.ensures.entries i); settled = c.new.ensures.settled i; next = 1; out = c.new-2.ensures i }
