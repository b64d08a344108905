-- A fault of the check is written as the refusal that it tells, or as want of memory.
use Rattle.std.proofs.Common.{◌≡◌, refl}
use Rattle.kernele_scopes.specs.Check as check
use Rattle.kernele_scopes.specs.declared.checking.CheckFault.{CheckFault}
use Rattle.kernele_scopes.specs.declared.checking.CheckFault.TheVariants as fault
use Rattle.book_refusals.specs.Fault.{told_by_check, words_of}

pub check_words : (f : CheckFault) → words_of (told_by_check f) ≡ check.fault_text f
check_words (fault.Unbound x) = refl
check_words (fault.DuplicateName x) = refl
check_words (fault.AssignToDef x) = refl
check_words fault.TooDeep = refl
check_words fault.TooLong = refl
check_words fault.Memory = refl
