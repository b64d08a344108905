-- The faults of a program's check in words.
use Rattle.std.specs.Prelude.{ℕ, List}
use Rattle.kernele_scopes.specs.declared.checking.CheckFault.{CheckFault}
use Rattle.book_refusals.specs.declared.fault.BookFault.TheVariants.{Check}
use Rattle.book_refusals.specs.Fault.{fault_text}

-- as the book tells them
abbrev pub check_text : CheckFault → List ℕ
check_text fault = fault_text (Check fault)
