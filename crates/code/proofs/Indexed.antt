-- On the positions of methods, and on what an index of them holds.
use Rattle.std.proofs.Common.{◌≡◌, ℕ, ◌+◌, arith, Bool, true, false, ◌&&◌, cond, List, [], ◌∷◌, ◌++◌, Option, Some, None, length, refl, ap, sym, ◌∙◌}
use Rattle.std.specs.Prelude.{nat_eq}
use Rattle.std.specs.Option.{option_map, option_or}
use Rattle.std.specs.Str.{bytes_eq}
use Rattle.std.specs.HashMap.{HashMap, get, Updates}
use Rattle.std.specs.Map.{lookup}
use Rattle.kernele.specs.Tree.{Name}
use Rattle.code.specs.View.{methods_of_codes}
use Rattle.code.specs.Index.{position_in, same_key, key_of}
use Rattle.code.specs.declared.index.MethodKey.{MethodKey}
use Rattle.code.specs.declared.code.MethodCode.{MethodCode}

-- whether a method has this key
abbrev has_key : MethodCode → Name → ℕ → Bool
has_key m verb count = bytes_eq m.verb verb && nat_eq (length m.parameters.value.items) count

one_further : (b : Bool) (o : Option ℕ) (c : Bool) (n : ℕ)
    → cond b (Some 0) (option_map (λ i. i + 1) (option_or o (cond c (Some n) None))) ≡ option_or (cond b (Some 0) (option_map (λ i. i + 1) o)) (cond c (Some (n + 1)) None)
one_further true o c n = refl
one_further false (Some i) c n = refl
one_further false None true n = refl
one_further false None false n = refl

-- the last method is found where none before it is
position-last : (ms : List MethodCode) (m : MethodCode) (verb : Name) (count : ℕ)
    → position_in (methods_of_codes (ms ++ m ∷ [])) verb count ≡ option_or (position_in (methods_of_codes ms) verb count) (cond (has_key m verb count) (Some (length ms)) None)
position-last [] m verb count = refl
position-last (k ∷ ks) m verb count =
    ap (λ o. cond (has_key k verb count) (Some 0) (option_map (λ i. i + 1) o)) (position-last ks m verb count)
    ∙ one_further (has_key k verb count) (position_in (methods_of_codes ks) verb count) (has_key m verb count) (length ks)
    ∙ ap (λ n. option_or (cond (has_key k verb count) (Some 0) (option_map (λ i. i + 1) (position_in (methods_of_codes ks) verb count))) (cond (has_key m verb count) (Some n) None)) (omega arith)

put_first : (o g : Option ℕ) (b : Bool) (n : ℕ) → option_or o (cond b (Some n) g) ≡ option_or (option_or o (cond b (Some n) None)) g
put_first (Some i) g b n = refl
put_first None g true n = refl
put_first None g false n = refl

-- the last of the methods that are left is put into the index, and the others are left
pub put_more : {S : Type 0} (rest before : List MethodCode) (m : MethodCode) (was now : HashMap MethodKey ℕ S) (verb : Name) (count : ℕ) (all : Option ℕ) → rest ≡ before ++ m ∷ []
    → Updates same_key was now (key_of m.verb (length m.parameters.value.items)) (Some (length before)) → option_or (position_in (methods_of_codes rest) verb count) (get same_key was (key_of verb count)) ≡ all
    → option_or (position_in (methods_of_codes before) verb count) (get same_key now (key_of verb count)) ≡ all
put_more rest before m was now verb count all is u h =
    let q = key_of verb count in
    let left = position_in (methods_of_codes before) verb count in
    ap (option_or left) (u.0 q)
    ∙ put_first left (get same_key was q) (has_key m verb count) (length before)
    ∙ ap (λ o. option_or o (get same_key was q)) (sym (ap (λ ms. position_in (methods_of_codes ms) verb count) is ∙ position-last before m verb count))
    ∙ h

or_none : (o : Option ℕ) → option_or o None ≡ o
or_none (Some i) = refl
or_none None = refl

-- at first all methods are left
pub put_none : {S : Type 0} (ms : List MethodCode) (m : HashMap MethodKey ℕ S) (verb : Name) (count : ℕ) → m.entries ≡ [] → option_or (position_in (methods_of_codes ms) verb count) (get same_key m (key_of verb count)) ≡ position_in (methods_of_codes ms) verb count
put_none ms m verb count e = ap (λ es. option_or (position_in (methods_of_codes ms) verb count) (lookup (same_key (key_of verb count)) es)) e ∙ or_none (position_in (methods_of_codes ms) verb count)

-- in the end none is left
pub put_all : {S : Type 0} (rest : List MethodCode) (m : HashMap MethodKey ℕ S) (verb : Name) (count : ℕ) (all : Option ℕ) → length rest ≡ 0 → option_or (position_in (methods_of_codes rest) verb count) (get same_key m (key_of verb count)) ≡ all → get same_key m (key_of verb count) ≡ all
put_all [] m verb count all is h = h
put_all (k ∷ ks) m verb count all is h = absurd (omega (arith, is))
