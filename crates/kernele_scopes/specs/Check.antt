-- What the check's values stand for.
use Rattle.std.specs.Prelude.{◌≡◌, ℕ, List, length, Bool, true, Result, Ok, Err, MatchResult}
use Rattle.std.specs.Ordering.{nat_cmp}
use Rattle.std.specs.Cmp.Lexicographic.{slice_cmp}
use Rattle.std.specs.Option.{option_or}
use Rattle.std.specs.BTreeMap.{BTreeMap, get}
use Rattle.kernele.specs.Tree.{Name}
use Rattle.kernele_scopes.specs.Scope.{Names, Scopes, Signature, kind_in, unbound, assign_to_def, duplicate_name, too_deep, too_long, Checked}
use Rattle.kernele_scopes.specs.Words.{refusal_text, no_memory}
use Rattle.kernele.specs.declared.tree.Method.{Method}
use Rattle.kernele_scopes.specs.declared.naming.NameKind.{NameKind}
use Rattle.kernele_scopes.specs.declared.checking.CheckFault.{CheckFault}
use Rattle.kernele_scopes.specs.declared.checking.CheckFault.TheVariants as fault
use Rattle.kernele_scopes.specs.declared.checking.Outer.{Outer}
use Rattle.kernele_scopes.specs.declared.checking.Around.{Around}
use Rattle.kernele_scopes.specs.declared.checking.Around as around
use Rattle.kernele_scopes.specs.declared.checking.Scopes as code

-- a fault in words
abbrev pub fault_text : CheckFault → List ℕ
fault_text (fault.Unbound x) = refusal_text (unbound x)
fault_text (fault.AssignToDef x) = refusal_text (assign_to_def x)
fault_text (fault.DuplicateName x) = refusal_text (duplicate_name x)
fault_text fault.TooDeep = refusal_text too_deep
fault_text fault.TooLong = refusal_text too_long
fault_text fault.Memory = no_memory

-- the names of a map
abbrev pub names_of : BTreeMap Name NameKind → Names
names_of names = λ x. get (slice_cmp nat_cmp) names x

-- what a program finds in scope
abbrev pub scopes_of : Outer → Scopes
scopes_of outer = record { own = names_of outer.own; around = names_of outer.around }

-- the fault tells why the program is refused, unless it is memory that failed
abbrev pub Refuses : CheckFault → Checked → Type 0
Refuses (fault.Unbound x) checked = checked ≡ Err (unbound x)
Refuses (fault.AssignToDef x) checked = checked ≡ Err (assign_to_def x)
Refuses (fault.DuplicateName x) checked = checked ≡ Err (duplicate_name x)
Refuses fault.TooDeep checked = checked ≡ Err too_deep
Refuses fault.TooLong checked = checked ≡ Err too_long
Refuses fault.Memory checked = Unit {0}

-- a fault of what is defined twice, where it is
abbrev pub MayRefuse : CheckFault → Bool → Name → Type 0
MayRefuse fault.Memory twice x = Unit {0}
MayRefuse f twice x = (twice ≡ true) × (f ≡ fault.DuplicateName x)

-- how a method is found
abbrev pub signature_of : Method → Signature
signature_of m = (m.verb, length m.parameters.value.items)

-- the scopes that are left are those of the definition, or the fault is its refusal
abbrev pub Gives : Result (Unit {0}) CheckFault → Scopes → Checked → Type 0
Gives result s checked = MatchResult result (λ done. checked ≡ Ok s) (λ fault. Refuses fault checked)

-- where the innermost scope has defined these names so far, and this lies around them: in its own scope a program's definitions
-- come before the names that it found there; what lies around a block is all that is in scope where the block stands
abbrev pub scopes_with : Around → Names → Scopes
scopes_with (around.Program outer) defined = record { own = λ x. option_or (defined x) (names_of outer.now.own x); around = names_of outer.now.around }
scopes_with (around.Block' names p rest) defined = record { own = defined; around = kind_in (scopes_with rest (names_of names.now)) }

-- the scopes where an expression stands
abbrev pub scopes_in : code.Scopes → Scopes
scopes_in s = scopes_with s.around (names_of s.defined)
