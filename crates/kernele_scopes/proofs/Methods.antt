-- The methods of an object, checked one after the other.
use Rattle.std.proofs.Common.{◌≡◌, Bool, false, cond, Ok, Err, ℕ, ◌+◌, ◌<◌, List, [], ◌∷◌, ◌++◌, length, get_or, take, drop, map, ap, sym, ◌∙◌}
use Rattle.std.proofs.lemmas.List.{map_more}
use Rattle.kernele.specs.Tree.{Name, Trees}
use Rattle.kernele.specs.View.{trees_of, methods_of}
use Rattle.kernele.proofs.Walks.{methods_from}
use Rattle.kernele.specs.declared.tree.Method.{Method}
use Rattle.kernele.specs.declared.tree.Pattern.{Pattern}
use Rattle.kernele_scopes.specs.Scope.{Scopes, in_turn, in_block, checked_all, checked_methods, checked_taking, new_method, Checked, has_signature, duplicate_name}
use Rattle.kernele_scopes.specs.Check.{Refuses, MayRefuse, signature_of}
use Rattle.kernele_scopes.specs.Parts.{patterns_bound, checked_behind}
use Rattle.kernele_scopes.specs.declared.checking.CheckFault.{CheckFault}
use Rattle.kernele_scopes.specs.declared.checking.CheckFault.TheVariants as fault

-- a method behind the earlier ones of its object: it must be new, and stands in a block behind its parameters
abbrev pub method_checked : List Method → Method → Scopes → Checked
method_checked earlier m s = in_turn (new_method (map signature_of earlier) (signature_of m) s) (in_block (checked_taking m.parameters.value.items (checked_all (trees_of m.body.value.items))))

-- what the methods from an index on give is what the one there gives, and then those behind it
pub methods_next : (ms : List Method) (i : ℕ) (m : Method) (s : Scopes) → i < length ms → m ≡ get_or ms i m
    → checked_methods (map signature_of (take i ms)) (methods_of (drop i ms)) s ≡ in_turn (method_checked (take i ms) m s) (checked_methods (map signature_of (take (i + 1) ms)) (methods_of (drop (i + 1) ms)))
methods_next ms i m s h e =
    ap (λ ns. checked_methods (map signature_of (take i ms)) ns s) (methods_from ms i m h e)
    ∙ ap (λ earlier. in_turn (method_checked (take i ms) m s) (checked_methods earlier (methods_of (drop (i + 1) ms))))
    (sym (map_more signature_of ms i m h ∙ ap (λ n. map signature_of (take i ms) ++ signature_of n ∷ []) (sym e)))

-- a method that is not new is refused
pub twice_refused : (f : CheckFault) (twice : Bool) (x : Name) (s : Scopes) → MayRefuse f twice x → Refuses f (cond twice (Err (duplicate_name x)) (Ok s))
twice_refused (fault.Unbound y) twice x s h = absurd (cc)
twice_refused (fault.AssignToDef y) twice x s h = absurd (cc)
twice_refused (fault.DuplicateName y) twice x s h = let same : y ≡ x = cc in ap (λ b. cond b (Err (duplicate_name x)) (Ok s)) h.0 ∙ ap (λ z. Err (duplicate_name z)) (sym same)
twice_refused fault.TooDeep twice x s h = absurd (cc)
twice_refused fault.TooLong twice x s h = absurd (cc)
twice_refused fault.Memory twice x s h = tt

-- a new method gives what its block gives
method_is_new : (earlier : List Method) (m : Method) (s : Scopes) → has_signature (map signature_of earlier) (signature_of m) ≡ false
    → method_checked earlier m s ≡ in_block (checked_taking m.parameters.value.items (checked_all (trees_of m.body.value.items))) s
method_is_new earlier m s new = ap (λ b. in_turn (cond b (Err (duplicate_name m.verb)) (Ok s)) (in_block (checked_taking m.parameters.value.items (checked_all (trees_of m.body.value.items))))) new

-- the same from the slices of its parameters and its body
pub block_is_left : (earlier : List Method) (m : Method) (s : Scopes) {ps : List Pattern} {body : Trees} → has_signature (map signature_of earlier) (signature_of m) ≡ false → ps ≡ m.parameters.value.items → body ≡ trees_of m.body.value.items
    → method_checked earlier m s ≡ in_block (checked_behind (patterns_bound ps) (checked_all body)) s
block_is_left earlier m s new same all = method_is_new earlier m s new ∙ λ i. in_block (checked_taking (sym same i) (checked_all (sym all i))) s
