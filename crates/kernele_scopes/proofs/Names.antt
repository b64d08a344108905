-- Maps of names, in code and in the definitions.
use Rattle.std.proofs.Common.{◌≡◌, ℕ, ◌+◌, ◌<◌, ◌≤◌, List, [], ◌∷◌, Bool, true, false, cond, Option, Some, is_some, Ok, Err, ap, sym, refl, ◌∙◌, length, drop, get_or, add-one, Bor}
use Rattle.std.proofs.Math.Seq.{drop-cons}
use Rattle.std.proofs.lemmas.List.{drop_all}
use Rattle.std.proofs.lemmas.Map.Text.{is_eq-slice_cmp}
use Rattle.std.specs.Option.{option_or}
use Rattle.std.specs.Ordering.{nat_cmp}
use Rattle.std.specs.Cmp.Lexicographic.{slice_cmp}
use Rattle.std.specs.Str.{bytes_eq}
use Rattle.std.specs.BTreeMap.{BTreeMap, Updates, IsEmpty, is_at}
use Rattle.std.specs.Map.{lookup}
use Rattle.kernele.specs.Tree.{Name}
use Rattle.kernele_scopes.specs.Scope.{Names, Scopes, no_names, with_name, with_names, added, Checked, duplicate_name}
use Rattle.kernele_scopes.specs.Check.{names_of, scopes_of, scopes_with}
use Rattle.kernele_scopes.specs.declared.naming.NameKind.{NameKind}
use Rattle.kernele_scopes.specs.declared.naming.TopName.{TopName}
use Rattle.kernele_scopes.specs.declared.checking.Outer.{Outer}
use Rattle.kernele_scopes.specs.declared.checking.Around.{Around}
use Rattle.kernele_scopes.specs.declared.checking.Around as around

-- a map that got a name
got : (old new : BTreeMap Name NameKind) (t : TopName) → Updates (slice_cmp nat_cmp) old new t.name (Some t.kind) → names_of new ≡ with_name t (names_of old)
got old new t put =
    let same : (y : Name) → names_of new y ≡ with_name t (names_of old) y = λ y. put.0 y ∙ ap (λ b. cond b (Some t.kind) (names_of old y)) (is_eq-slice_cmp t.name y) in
    λ i y. same y i

-- a name that is there comes before all else
chosen : (b : Bool) (k : NameKind) (o p : Option NameKind) → option_or (cond b (Some k) o) p ≡ cond b (Some k) (option_or o p)
chosen true k o p = refl
chosen false k o p = refl

-- one more name that the innermost scope defined, over what lies around it
with_one : (a : Around) (x : TopName) (defined : Names) → scopes_with a (with_name x defined) ≡ record (scopes_with a defined) { own = with_name x (scopes_with a defined).own }
with_one (around.Program outer) x defined = λ i. record { own = λ y. chosen (bytes_eq x.name y) x.kind (defined y) (names_of outer.now.own y) i; around = names_of outer.now.around }
with_one (around.Block' names p rest) x defined = refl

-- a name that its scope does not have is added
pub puts : (a : Around) (old new : BTreeMap Name NameKind) (x : TopName) → is_some ((scopes_with a (names_of old)).own x.name) ≡ false → Updates (slice_cmp nat_cmp) old new x.name (Some x.kind) → added x (scopes_with a (names_of old)) ≡ Ok (scopes_with a (names_of new))
puts a old new x absent put =
    let s : Scopes = scopes_with a (names_of old) in
    let chosen : Bool → Checked = λ b. cond b (Err (duplicate_name x.name)) (Ok (record s { own = with_name x s.own })) in
    let more : Scopes → Checked = λ r. Ok r in
    ap chosen absent ∙ ap more (sym (ap (scopes_with a) (got old new x put) ∙ with_one a x (names_of old)))

-- a map with no keys
pub no_keys : (names : BTreeMap Name NameKind) → IsEmpty names → names_of names ≡ no_names
no_keys names empty = λ i y. lookup (is_at (slice_cmp nat_cmp y)) (empty i)

-- a map that gets the names of a list: those that are left come on top of those that it has
pub gathers : {A : Type 0} (all : List A → List TopName) (one : A → TopName) → ((x : A) (xs : List A) → all (x ∷ xs) ≡ one x ∷ all xs) → (old new : BTreeMap Name NameKind) (t : TopName) (xs : List A) (i : ℕ) (x : A)
    → i < length xs → x ≡ get_or xs i x → t ≡ one x → Updates (slice_cmp nat_cmp) old new t.name (Some t.kind) → with_names (all (drop (i + 1) xs)) (names_of new) ≡ with_names (all (drop i xs)) (names_of old)
gathers all one law old new t xs i x h e same put =
    ap (with_names (all (drop (i + 1) xs))) (got old new t put)
    ∙ ap (λ u. with_names (all (drop (i + 1) xs)) (with_name u (names_of old))) (same ∙ ap one e)
    ∙ sym (ap (λ us. with_names us (names_of old)) (ap all left ∙ law (get_or xs i x) (drop (i + 1) xs)))
  where
    left : drop i xs ≡ get_or xs i x ∷ drop (i + 1) xs
    left = rw add-one (drop-cons xs i x h)

-- at the end it has them all, on top of those that it began with
pub gathered : {A : Type 0} (all : List A → List TopName) → all [] ≡ [] → (base : Names) (names : BTreeMap Name NameKind) (xs : List A) (i : ℕ) → length xs ≤ i → with_names (all (drop i xs)) (names_of names) ≡ with_names (all xs) base → names_of names ≡ with_names (all xs) base
gathered all law base names xs i h invariant = sym (ap (λ us. with_names us (names_of names)) (ap all (drop_all i xs h) ∙ law)) ∙ invariant

-- where a program begins, it has defined nothing yet
pub fresh : (outer : Bor Outer) (defined : BTreeMap Name NameKind) → IsEmpty defined → scopes_with (around.Program outer) (names_of defined) ≡ scopes_of outer.now
fresh outer defined empty = λ i. record { own = λ y. option_or (no_keys defined empty i y) (names_of outer.now.own y); around = names_of outer.now.around }
