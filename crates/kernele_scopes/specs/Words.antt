-- Why a program is refused, in words.
use Rattle.std.specs.Prelude.{ℕ, List, ◌++◌, codes}
use Rattle.kernele_scopes.specs.Scope.{Refusal, unbound, assign_to_def, duplicate_name, too_deep, too_long}

abbrev pub refusal_text : Refusal → List ℕ
refusal_text (unbound x) = codes "K1 Unbound " ++ x
refusal_text (assign_to_def x) = codes "K2 AssignToDef " ++ x
refusal_text (duplicate_name x) = codes "K3 DuplicateName " ++ x
refusal_text too_deep = codes "K4 TooDeep"
refusal_text too_long = codes "K5 TooLong"

-- what is told where memory ran out
abbrev pub no_memory : List ℕ
no_memory = codes "B20 Memory"
