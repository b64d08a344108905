-- How a call finds a method: at the position where an index has it, or nowhere.
use Rattle.std.proofs.Common.{◌≡◌, ℕ, ◌+◌, ◌<◌, arith, add-one, Bool, true, false, ◌&&◌, cond, List, [], ◌∷◌, Option, Some, None, length, get_or, refl, ap, sym, subst, ◌∙◌}
use Rattle.std.specs.Prelude.{nat_eq}
use Rattle.std.specs.Option.{option_map}
use Rattle.std.specs.Str.{bytes_eq}
use Rattle.std.proofs.lemmas.Bool.{eqb-true, eqb-false, and_parts}
use Rattle.kernele.specs.Tree.{Name}
use Rattle.kernele.specs.declared.tree.Pattern.{Pattern}
use Rattle.code.specs.View.{trees_of_codes, methods_of_codes}
use Rattle.code.specs.Index.{position_in, found_at, Indexes}
use Rattle.code.specs.declared.index.MethodIndex.{MethodIndex}
use Rattle.code.specs.declared.code.MethodCode.{MethodCode}
use Rattle.values.specs.View.{vals_of}
use Rattle.values.specs.declared.value.Value.{Value}
use Rattle.eval_rules.specs.Rules.{as_many, method_in}
use Rattle.eval_rules.specs.Fits.{FindsMethod}
use Rattle.eval_objects.specs.Finding.{FindsForCount}
use Rattle.eval_rules.proofs.Captures.{method_not, method_other}
use Rattle.eval_rules.proofs.Patterns.{as_many-true, as_many-false}

counted : (ps : List Pattern) (vs : List Value) (b : Bool) → nat_eq (length ps) (length vs) ≡ b → as_many ps (vals_of vs) ≡ b
counted ps vs true e = as_many-true ps vs (sym (eqb-true (length ps) (length vs) e))
counted ps vs false e = as_many-false ps vs (λ h. eqb-false (length ps) (length vs) e (sym h))

-- whether a method has this verb and as many parameters
abbrev has : MethodCode → Name → List Value → Bool
has m verb vs = bytes_eq m.verb verb && nat_eq (length m.parameters.value.items) (length vs)

-- the first of the methods is the one, or it is among the others
first_or : (k : MethodCode) (ks : List MethodCode) (verb : Name) (vs : List Value) (b : Bool) → has k verb vs ≡ b
    → method_in (methods_of_codes (k ∷ ks)) verb (vals_of vs) ≡ cond b (Some (k.parameters.value.items, trees_of_codes k.body.value.items)) (method_in (methods_of_codes ks) verb (vals_of vs))
first_or k ks verb vs b h =
    let m = Some (k.parameters.value.items, trees_of_codes k.body.value.items) in
    let other = method_in (methods_of_codes ks) verb (vals_of vs) in
    ap (λ c. cond (bytes_eq k.verb verb && c) m other) (counted k.parameters.value.items vs (nat_eq (length k.parameters.value.items) (length vs)) refl)
    ∙ ap (λ c. cond c m other) h

within_case : (b : Bool) (o : Option ℕ) (n i : ℕ) → ((j : ℕ) → o ≡ Some j → j < n) → cond b (Some 0) (option_map (λ j. j + 1) o) ≡ Some i → i < n + 1
within_case true o n i less e =
    let first : 0 ≡ i = cc in
    omega (arith, first)
within_case false None n i less e = absurd (cc)
within_case false (Some j) n i less e =
    let next : j + 1 ≡ i = cc in
    omega (arith, next, less j refl)

-- a position is one of the methods
pub position_within : (ms : List MethodCode) (verb : Name) (count : ℕ) (i : ℕ) → position_in (methods_of_codes ms) verb count ≡ Some i → i < length ms
position_within [] verb count i e = absurd (cc)
position_within (k ∷ ks) verb count i e =
    omega (arith, within_case (bytes_eq k.verb verb && nat_eq (length k.parameters.value.items) count) (position_in (methods_of_codes ks) verb count) (length ks) i (position_within ks verb count) e)

next_case : (k : MethodCode) (ks : List MethodCode) (verb : Name) (vs : List Value) (i : ℕ) (m : MethodCode) (o : Option ℕ) → has k verb vs ≡ false → position_in (methods_of_codes ks) verb (length vs) ≡ o → option_map (λ j. j + 1) o ≡ Some i
    → m ≡ get_or (k ∷ ks) i m → ((j : ℕ) → position_in (methods_of_codes ks) verb (length vs) ≡ Some j → m ≡ get_or ks j m → FindsMethod ks verb vs (Some m)) → FindsMethod (k ∷ ks) verb vs (Some m)
next_case k ks verb vs i m None h p e is later = absurd (cc)
next_case k ks verb vs i m (Some j) h p e is later =
    let next : j + 1 ≡ i = cc in
    let found = later j p (is ∙ ap (λ n. get_or (k ∷ ks) n m) (sym next ∙ add-one j)) in
    record { method = found.method ∙ sym (first_or k ks verb vs false h); count = found.count; fits = λ frame g. found.fits frame g.1 }

found_case : (k : MethodCode) (ks : List MethodCode) (verb : Name) (vs : List Value) (i : ℕ) (m : MethodCode) (b : Bool) → has k verb vs ≡ b → cond b (Some 0) (option_map (λ j. j + 1) (position_in (methods_of_codes ks) verb (length vs))) ≡ Some i
    → m ≡ get_or (k ∷ ks) i m → ((j : ℕ) → position_in (methods_of_codes ks) verb (length vs) ≡ Some j → m ≡ get_or ks j m → FindsMethod ks verb vs (Some m)) → FindsMethod (k ∷ ks) verb vs (Some m)
found_case k ks verb vs i m true h e is later =
    let first : 0 ≡ i = cc in
    let same : m ≡ k = is ∙ ap (λ n. get_or (k ∷ ks) n m) (sym first) in
    subst (λ (n : MethodCode). FindsMethod (k ∷ ks) verb vs (Some n)) (sym same) (record {
      method = sym (first_or k ks verb vs true h);
      count = sym (eqb-true (length k.parameters.value.items) (length vs) (and_parts (bytes_eq k.verb verb) (nat_eq (length k.parameters.value.items) (length vs)) h).1);
      fits = λ frame g. g.0;
    })
found_case k ks verb vs i m false h e is later = next_case k ks verb vs i m (position_in (methods_of_codes ks) verb (length vs)) h refl e is later

-- at the position of the first method with this verb and as many parameters is the one that a call finds
found_there : (ms : List MethodCode) (verb : Name) (vs : List Value) (i : ℕ) (m : MethodCode) → position_in (methods_of_codes ms) verb (length vs) ≡ Some i → m ≡ get_or ms i m → FindsMethod ms verb vs (Some m)
found_there [] verb vs i m e is = absurd (cc)
found_there (k ∷ ks) verb vs i m e is = found_case k ks verb vs i m (has k verb vs) refl e is (λ j p q. found_there ks verb vs j m p q)

-- what an index of these methods gives is the position
pub index_gives : (ms : List MethodCode) (index : MethodIndex) (verb : Name) (count : ℕ) (given o : Option ℕ) → Indexes index (methods_of_codes ms) → given ≡ found_at index verb count → given ≡ o → position_in (methods_of_codes ms) verb count ≡ o
index_gives ms index verb count given o indexed is e = sym (indexed verb count) ∙ sym is ∙ e

neither : (b : Bool) (o : Option ℕ) → cond b (Some 0) (option_map (λ j. j + 1) o) ≡ None → (b ≡ false) × (o ≡ None)
neither true o e = absurd (cc)
neither false (Some j) e = absurd (cc)
neither false None e = (refl, refl)

-- where there is no such method a call finds none
found_nowhere : (ms : List MethodCode) (verb : Name) (vs : List Value) → position_in (methods_of_codes ms) verb (length vs) ≡ None → None ≡ method_in (methods_of_codes ms) verb (vals_of vs)
found_nowhere [] verb vs e = refl
found_nowhere (k ∷ ks) verb vs e =
    let none = neither (has k verb vs) (position_in (methods_of_codes ks) verb (length vs)) e in
    found_nowhere ks verb vs none.1 ∙ sym (first_or k ks verb vs false none.0)

finds_none : (ms : List MethodCode) (verb : Name) (vs : List Value) → None ≡ method_in (methods_of_codes ms) verb (vals_of vs) → FindsMethod ms verb vs None
finds_none ms verb vs e = record { method = e; count = tt; fits = tt }

-- a method with another number of parameters is not the one that is sought
pub method_many : (rest others : List MethodCode) (m : MethodCode) (verb : Name) (vs : List Value) → rest ≡ m ∷ others → (length vs ≡ length m.parameters.value.items → ⊥) → (b : Bool) → bytes_eq m.verb verb ≡ b
    → method_in (methods_of_codes others) verb (vals_of vs) ≡ method_in (methods_of_codes rest) verb (vals_of vs)
method_many rest others m verb vs e q true p = method_other rest others m verb vs e p q
method_many rest others m verb vs e q false p = method_not rest others m verb vs e p

-- so for whatever arguments there are so many of
pub found_for : (ms : List MethodCode) (verb : Name) (count i : ℕ) (m : MethodCode) → position_in (methods_of_codes ms) verb count ≡ Some i → m ≡ get_or ms i m → FindsForCount ms verb count (Some m)
found_for ms verb count i m e is = λ vs l. found_there ms verb vs i m (ap (position_in (methods_of_codes ms) verb) l ∙ e) is

pub nowhere_for : (ms : List MethodCode) (verb : Name) (count : ℕ) → position_in (methods_of_codes ms) verb count ≡ None → FindsForCount ms verb count None
nowhere_for ms verb count e = λ vs l. finds_none ms verb vs (found_nowhere ms verb vs (ap (position_in (methods_of_codes ms) verb) l ∙ e))

-- a scan that has none left finds none
pub none_left : (rest ms : List MethodCode) (verb : Name) (vs : List Value) → length rest ≡ 0 → method_in (methods_of_codes rest) verb (vals_of vs) ≡ method_in (methods_of_codes ms) verb (vals_of vs) → FindsMethod ms verb vs None
none_left [] ms verb vs is h = finds_none ms verb vs h
none_left (k ∷ ks) ms verb vs is h = absurd (omega (arith, is))
