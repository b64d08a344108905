use Rattle.ids.proofs.CellKeys.{same_is_equal}
use Rattle.ids.proofs.NameLaws.{events_tell_apart, numbers_tell_apart, same_names_are_one}
use Rattle.ids.proofs.References.{same_reference_is_equal}
use Rattle.ids.proofs.theorems.keys_are_lawful.Goals as goal

pub returns-clause-same_is_equal : goal.returns-clause-same_is_equal
returns-clause-same_is_equal c = same_is_equal

pub returns-clause-events_tell_apart : goal.returns-clause-events_tell_apart
returns-clause-events_tell_apart c = events_tell_apart

pub returns-clause-numbers_tell_apart : goal.returns-clause-numbers_tell_apart
returns-clause-numbers_tell_apart c = numbers_tell_apart

pub returns-clause-same_names_are_one : goal.returns-clause-same_names_are_one
returns-clause-same_names_are_one c = same_names_are_one

pub returns-clause-same_reference_is_equal : goal.returns-clause-same_reference_is_equal
returns-clause-same_reference_is_equal c = same_reference_is_equal
