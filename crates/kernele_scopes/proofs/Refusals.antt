-- On what a fault tells.
use Rattle.std.proofs.Common.{◌≡◌, Ok, Err, Result, ap, sym, subst, ◌∙◌}
use Rattle.kernele_scopes.specs.Scope.{Scopes, Checked, in_turn, entered, in_block, left_for}
use Rattle.kernele_scopes.specs.Check.{Refuses, Gives}
use Rattle.kernele_scopes.specs.Parts.{AddedNames, binding_checked, checked_behind}
use Rattle.kernele_scopes.specs.declared.checking.CheckFault.{CheckFault}
use Rattle.kernele_scopes.specs.declared.checking.CheckFault.TheVariants as fault

-- what refuses the first of two refuses both
pub refuses_in_turn : (f : CheckFault) (first : Checked) (next : Scopes → Checked) → Refuses f first → Refuses f (in_turn first next)
refuses_in_turn (fault.Unbound x) first next h = ap (λ r. in_turn r next) h
refuses_in_turn (fault.AssignToDef x) first next h = ap (λ r. in_turn r next) h
refuses_in_turn (fault.DuplicateName x) first next h = ap (λ r. in_turn r next) h
refuses_in_turn fault.TooDeep first next h = ap (λ r. in_turn r next) h
refuses_in_turn fault.TooLong first next h = ap (λ r. in_turn r next) h
refuses_in_turn fault.Memory first next h = tt

-- what refuses a block's inside refuses the block
pub refuses_in_block : (f : CheckFault) (inside : Scopes → Checked) (s : Scopes) → Refuses f (inside (entered s)) → Refuses f (in_block inside s)
refuses_in_block (fault.Unbound x) inside s h = ap (left_for s) h
refuses_in_block (fault.AssignToDef x) inside s h = ap (left_for s) h
refuses_in_block (fault.DuplicateName x) inside s h = ap (left_for s) h
refuses_in_block fault.TooDeep inside s h = ap (left_for s) h
refuses_in_block fault.TooLong inside s h = ap (left_for s) h
refuses_in_block fault.Memory inside s h = tt

-- a fault refuses what is the same
pub refuses_same : (f : CheckFault) (r s : Checked) → s ≡ r → Refuses f r → Refuses f s
refuses_same f r s e h = subst (Refuses f) (sym e) h

-- where the first of two is refused, so are both
pub fails : {result : Result (Unit {0}) CheckFault} {f : CheckFault} {whole : Checked} (first : Checked) (next : Scopes → Checked) (s : Scopes) → (e : CheckFault) × (result ≡ Err e) × (e ≡ f) → whole ≡ in_turn first next → Refuses f first → Gives result s whole
fails first next s failed is h = rw (failed.1, failed.2) (refuses_same _ _ _ is (refuses_in_turn _ first next h))

-- what stands in a block gives what the block gives
block_gives : (r : Result (Unit {0}) CheckFault) (inside : Scopes → Checked) (s after : Scopes) → Gives r after (inside (entered s)) → Gives r s (in_block inside s)
block_gives (Ok done) inside s after h = ap (left_for s) h
block_gives (Err f) inside s after h = refuses_in_block f inside s h

-- the same of what stands there behind a binding
pub behind_gives : (r : Result (Unit {0}) CheckFault) (b : AddedNames) (body : Scopes → Checked) (s : Scopes) {inner middle : Scopes} (after : Scopes) → inner ≡ entered s → binding_checked b inner ≡ Ok middle → Gives r after (body middle) → Gives r s (in_block (checked_behind b body) s)
behind_gives r b body s after begins bound h =
    block_gives r (checked_behind b body) s after (subst (Gives r after) (sym (ap (λ o. in_turn o body) (ap (binding_checked b) (sym begins) ∙ bound))) h)
