-- What names mean behind a past, and what scopes it leaves, when more happens.
use Rattle.std.proofs.Common.{◌≡◌, ◌⊎◌, inl, inr, ℕ, suc, List, [], ◌∷◌, ◌++◌, Option, Some, None, Bool, true, false, if◌then◌else◌, ap, sym, refl, ◌∙◌, subst, arith}
use Rattle.std.proofs.lemmas.Bool.{false≢true}
use Rattle.std.proofs.lemmas.Slice.Eq.{bytes_eq-Decides}
use Rattle.std.specs.Option.{option_or}
use Rattle.std.specs.Str.{bytes_eq}
use Rattle.kernele.specs.Tree.{Name}
use Rattle.kernele_scopes.specs.Scope.{Names, Scopes, no_names, with_name, with_names, kind_in, entered, script_scopes, asked_scopes, definitions, names_in}
use Rattle.kernele_scopes.specs.Bindings.{Happening, opens, defines, opened, left_open, Happened, IsUnbound, Means, IsDefinedHere, following, defining, before_script, before_asked}
use Rattle.kernele_scopes.proofs.Past.{split_cons, not_happened, opened_from, passed, passed_open, passed_split, happened_passed, passed_happened}
use Rattle.kernele_scopes.specs.declared.naming.NameKind.{NameKind}
use Rattle.kernele_scopes.specs.declared.naming.TopName.{TopName}

-- a name is defined as this
abbrev pub named : Name → NameKind → Happening
named x k = defines (record { name = x; kind = k })

-- what a past tells of a name
abbrev pub Meaning : List Happening → Name → Option NameKind → Type 0
Meaning past x None = IsUnbound x past
Meaning past x (Some k) = Means x k past

-- and of a name in the innermost scope
abbrev pub Here : List Happening → Name → Option NameKind → Type 0
Here past x None = ¬ IsDefinedHere x past
Here past x (Some k) = IsDefinedHere x past

-- these are the scopes that a past leaves
pub record Fits (past : List Happening) (s : Scopes) : Type 0 where
  pub meaning : (x : Name) → Meaning past x (kind_in s x)
  pub here : (x : Name) → Here past x (s.own x)

-- what leaves braces as they are
abbrev pub IsQuiet : Happening → Type 0
IsQuiet h = (past : List Happening) → left_open (h ∷ past) ≡ left_open past

-- behind what leaves braces as they are, all has happened that had, and nothing else
pub happened_more : (h : Happening) → IsQuiet h → (e : Happening) (n : ℕ) (past : List Happening) → Happened e n past → Happened e n (h ∷ past)
happened_more h quiet e n past at = (h ∷ at.0, at.1, ap (λ (p : List Happening). h ∷ p) at.2, quiet at.0 ∙ at.3)

pub more_happened : (h : Happening) → IsQuiet h → (e : Happening) (n : ℕ) (past : List Happening) → (h ≡ e → ⊥) → Happened e n (h ∷ past) → Happened e n past
more_happened h quiet e n past other at = last (split_cons h e past at.0 at.1 at.2)
  where
    last : ((h ≡ e) × (at.0 ≡ [])) ⊎ ((c : List Happening) × (at.0 ≡ h ∷ c) × (past ≡ c ++ e ∷ at.1)) → Happened e n past
    last (inl is) = absurd (other is.0)
    last (inr is) = (is.0, at.1, is.2, sym (quiet is.0) ∙ ap left_open (sym is.1) ∙ at.3)

-- what has happened last
pub happened_last : (e h : Happening) (past : List Happening) → h ≡ e → Happened e 0 (h ∷ past)
happened_last e h past same = ([], past, ap (λ (x : Happening). x ∷ past) same, refl)

-- inside braces that open, what had happened has happened outside
pub opens_happened : (e : Happening) (n : ℕ) (past : List Happening) → (opens ≡ e → ⊥) → Happened e n (opens ∷ past) → (m : ℕ) × (n ≡ suc m) × Happened e m past
opens_happened e n past other at = last (split_cons opens e past at.0 at.1 at.2)
  where
    last : ((opens ≡ e) × (at.0 ≡ [])) ⊎ ((c : List Happening) × (at.0 ≡ opens ∷ c) × (past ≡ c ++ e ∷ at.1)) → (m : ℕ) × (n ≡ suc m) × Happened e m past
    last (inl is) = absurd (other is.0)
    last (inr is) = let from = opened_from (left_open is.0) n (ap left_open (sym is.1) ∙ at.3) in (from.0, from.2, (is.0, at.1, is.2, from.1))

-- so nothing has happened in them yet
pub none_in_new : (e : Happening) (past : List Happening) → (opens ≡ e → ⊥) → Happened e 0 (opens ∷ past) → ⊥
none_in_new e past other at = let from = opens_happened e 0 past other at in let absent : 0 ≡ suc from.0 = from.1 in absurd (omega arith)

-- names keep their meaning behind what does not define them and leaves braces as they are
unbound_more : (h : Happening) → IsQuiet h → (x : Name) → ((k : NameKind) → h ≡ named x k → ⊥) → (past : List Happening) → IsUnbound x past → IsUnbound x (h ∷ past)
unbound_more h quiet x other past u k n at = u k n (more_happened h quiet (named x k) n past (other k) at)

meaning_more : (h : Happening) → IsQuiet h → (x : Name) → ((k : NameKind) → h ≡ named x k → ⊥) → (past : List Happening) (o : Option NameKind) → Meaning past x o → Meaning (h ∷ past) x o
meaning_more h quiet x other past None u = unbound_more h quiet x other past u
meaning_more h quiet x other past (Some k) at = (h ∷ at.0, at.1, at.2, ap (λ (p : List Happening). h ∷ p) at.3, quiet at.0 ∙ at.4, unbound_more h quiet x other at.0 at.5)

here_more : (h : Happening) → IsQuiet h → (x : Name) → ((k : NameKind) → h ≡ named x k → ⊥) → (past : List Happening) (o : Option NameKind) → Here past x o → Here (h ∷ past) x o
here_more h quiet x other past None absent = λ at. absent (at.0, more_happened h quiet (named x at.0) 0 past (other at.0) at.1)
here_more h quiet x other past (Some k) at = (at.0, happened_more h quiet (named x at.0) 0 past at.1)

pub fits_more : (h : Happening) → IsQuiet h → ((x : Name) (k : NameKind) → h ≡ named x k → ⊥) → (past : List Happening) (s : Scopes) → Fits past s → Fits (h ∷ past) s
fits_more h quiet other past s f = record {
  meaning = λ x. meaning_more h quiet x (other x) past (kind_in s x) (f.meaning x);
  here = λ x. here_more h quiet x (other x) past (s.own x) (f.here x);
}

-- braces that open change no meaning
unbound_in_new : (x : Name) (past : List Happening) → IsUnbound x past → IsUnbound x (opens ∷ past)
unbound_in_new x past u k n at = let from = opens_happened (named x k) n past (λ e. cc) at in u k from.0 from.2

pub meaning_in_new : (x : Name) (past : List Happening) (o : Option NameKind) → Meaning past x o → Meaning (opens ∷ past) x o
meaning_in_new x past None u = unbound_in_new x past u
meaning_in_new x past (Some k) at = (opens ∷ at.0, at.1, suc at.2, ap (λ (p : List Happening). opens ∷ p) at.3, ap opened at.4, unbound_in_new x at.0 at.5)

here_in_new : (x : Name) (past : List Happening) → ¬ IsDefinedHere x (opens ∷ past)
here_in_new x past at = none_in_new (named x at.0) past (λ e. cc) at.1

pub fits_entered : (past : List Happening) (s : Scopes) → Fits past s → Fits (opens ∷ past) (entered s)
fits_entered past s f = record {
  meaning = λ x. meaning_in_new x past (kind_in s x) (f.meaning x);
  here = λ x. here_in_new x past;
}

-- behind braces that closed, all is as before them
unbound_passed : (b : List Happening) → left_open b ≡ Some 0 → (x : Name) (past : List Happening) → IsUnbound x past → IsUnbound x (passed b past)
unbound_passed b even x past u k n at = u k n (passed_happened (named x k) n b past (λ e. cc) (λ e. cc) even at)

meaning_passed : (b : List Happening) → left_open b ≡ Some 0 → (x : Name) (past : List Happening) (o : Option NameKind) → Meaning past x o → Meaning (passed b past) x o
meaning_passed b even x past None u = unbound_passed b even x past u
meaning_passed b even x past (Some k) at = (passed b at.0, at.1, at.2, passed_split b past at.0 at.1 (named x k) at.3, passed_open b at.0 even ∙ at.4, unbound_passed b even x at.0 at.5)

here_passed : (b : List Happening) → left_open b ≡ Some 0 → (x : Name) (past : List Happening) (o : Option NameKind) → Here past x o → Here (passed b past) x o
here_passed b even x past None absent = λ at. absent (at.0, passed_happened (named x at.0) 0 b past (λ e. cc) (λ e. cc) even at.1)
here_passed b even x past (Some k) at = (at.0, happened_passed (named x at.0) 0 b past even at.1)

pub fits_passed : (b : List Happening) → left_open b ≡ Some 0 → (past : List Happening) (s : Scopes) → Fits past s → Fits (passed b past) s
fits_passed b even past s f = record {
  meaning = λ x. meaning_passed b even x past (kind_in s x) (f.meaning x);
  here = λ x. here_passed b even x past (s.own x) (f.here x);
}

-- a name that is defined
other_name : (t : TopName) (x : Name) → bytes_eq t.name x ≡ false → (k : NameKind) → defines t ≡ named x k → ⊥
other_name t x absent k is = let same : t ≡ record { name = x; kind = k } = cc in false≢true (sym absent ∙ (bytes_eq-Decides t.name x).1 (ap (λ (u : TopName). u.name) same))

-- a definition of the name that is asked for
is_named : (t : TopName) (x : Name) → bytes_eq t.name x ≡ true → defines t ≡ named x t.kind
is_named t x equal = ap (λ (y : Name). defines (record { name = y; kind = t.kind })) ((bytes_eq-Decides t.name x).0 equal)

meaning_defined : (t : TopName) (past : List Happening) (x : Name) (own around : Option NameKind) → Meaning past x (option_or own around) → (b : Bool) → bytes_eq t.name x ≡ b → Meaning (defines t ∷ past) x (option_or (if b then Some t.kind else own) around)
meaning_defined t past x own around was true e = ([], past, 0, ap (λ (h : Happening). h ∷ past) (is_named t x e), refl, λ k n at. not_happened (named x k) n at)
meaning_defined t past x own around was false e = meaning_more (defines t) (λ p. refl) x (other_name t x e) past (option_or own around) was

here_defined : (t : TopName) (past : List Happening) (x : Name) (own : Option NameKind) → Here past x own → (b : Bool) → bytes_eq t.name x ≡ b → Here (defines t ∷ past) x (if b then Some t.kind else own)
here_defined t past x own was true e = (t.kind, happened_last (named x t.kind) (defines t) past (is_named t x e))
here_defined t past x own was false e = here_more (defines t) (λ p. refl) x (other_name t x e) past own was

pub fits_defined : (t : TopName) (past : List Happening) (s : Scopes) → Fits past s → Fits (defines t ∷ past) (record s { own = with_name t s.own })
fits_defined t past s f = record {
  meaning = λ x. meaning_defined t past x (s.own x) (s.around x) (f.meaning x) (bytes_eq t.name x) refl;
  here = λ x. here_defined t past x (s.own x) (f.here x) (bytes_eq t.name x) refl;
}

fits_all_defined : (ts : List TopName) (past : List Happening) (s : Scopes) → Fits past s → Fits (following past (defining ts)) (record s { own = with_names ts s.own })
fits_all_defined [] past s f = f
fits_all_defined (t ∷ ts) past s f = fits_all_defined ts (defines t ∷ past) (record s { own = with_name t s.own }) (fits_defined t past s f)

-- before anything has happened
fits_nothing : Fits [] (record { own = no_names; around = no_names })
fits_nothing = record {
  meaning = λ x k n at. not_happened (named x k) n at;
  here = λ x at. not_happened (named x at.0) 0 at.1;
}

-- where a script begins
pub fits_script : (earlier : List Name) → Fits (before_script earlier) (script_scopes earlier)
fits_script earlier = fits_all_defined (definitions earlier) [] (record { own = no_names; around = no_names }) fits_nothing

-- the names around an asked program, and where they are defined
abbrev names_around : List Name → List TopName → Names
names_around earlier tops = with_names tops (names_in (definitions earlier))

abbrev before_braces : List Name → List TopName → List Happening
before_braces earlier tops = following (before_script earlier) (defining tops)

-- nothing lies around them
alone : (o : Option NameKind) → option_or o None ≡ o
alone None = refl
alone (Some k) = refl

names_fit : (earlier : List Name) (tops : List TopName) → Fits (before_braces earlier tops) (record { own = names_around earlier tops; around = no_names })
names_fit earlier tops = fits_all_defined tops (before_script earlier) (script_scopes earlier) (fits_script earlier)

meaning_around : (earlier : List Name) (tops : List TopName) (x : Name) → Meaning (before_braces earlier tops) x (names_around earlier tops x)
meaning_around earlier tops x = subst (λ (o : Option NameKind). Meaning (before_braces earlier tops) x o) (alone (names_around earlier tops x)) ((names_fit earlier tops).meaning x)

-- where an asked program begins
pub fits_asked : (earlier : List Name) (tops : List TopName) → Fits (before_asked earlier tops) (asked_scopes earlier tops)
fits_asked earlier tops = record {
  meaning = λ x. meaning_in_new x (before_braces earlier tops) (names_around earlier tops x) (meaning_around earlier tops x);
  here = λ x. here_in_new x (before_braces earlier tops);
}
