-- What the check says of things that happen: that all are right, and what scopes they leave, or the first fault.
use Rattle.std.proofs.Common.{◌≡◌, inl, inr, List, [], ◌∷◌, ◌++◌, Option, Some, None, Bool, true, false, if◌then◌else◌, is_some, nat_eq, Ok, Err, ap, sym, refl, ◌∙◌, subst}
use Rattle.std.proofs.lemmas.Slice.Eq.{bytes_eq-Decides}
use Rattle.std.proofs.lemmas.Bool.{eqb-true, eq-eqb, false≢true}
use Rattle.std.specs.Str.{bytes_eq}
use Rattle.kernele.specs.Tree.{Name, Trees}
use Rattle.kernele.specs.declared.tree.Pattern.{Pattern}
use Rattle.kernele.specs.declared.tree.Pattern.TheVariants as pattern
use Rattle.kernele_scopes.specs.Scope.{Scopes, Checked, Refusal, in_turn, in_block, left_for, entered, found, assigned, assigned_to, added, with_name, bound, all_bound, checked_with, checked_taking, checked_all, kind_in, unbound, duplicate_name, defined_name, name_of, names_of_all, Signature, same_signature, has_signature, new_method}
use Rattle.kernele_scopes.specs.Bindings.{Happening, opens, closes, defines, gets_method, uses, assigns, left_open, Happened, unbound_noun, unbound_assigned, assigned_definition, defined_twice, method_twice, AreRight, IsFirstFault, following, defining, braced, happens_in}
use Rattle.kernele_scopes.proofs.Past.{passed, happened_passed, passed_happened, IsEven, following-append, following_braced}
use Rattle.kernele_scopes.proofs.Meanings.{Meaning, Here, Fits, happened_more, more_happened, happened_last, none_in_new, fits_more, fits_entered, fits_passed, fits_defined}
use Rattle.kernele_scopes.specs.declared.naming.NameKind.{NameKind}
use Rattle.kernele_scopes.specs.declared.naming.NameKind.TheVariants as kind
use Rattle.kernele_scopes.specs.declared.naming.TopName.{TopName}

-- all is right, and the scopes that are left are these; or the first fault is told
abbrev pub Says : (List Happening → Scopes → Type 0) → List Happening → List Happening → Checked → Type 0
Says P past hs (Ok s) = AreRight past hs × P (following past hs) s
Says P past hs (Err r) = IsFirstFault past hs r

-- ---- one thing after the other

are_right_append : (past xs ys : List Happening) → AreRight past xs → AreRight (following past xs) ys → AreRight past (xs ++ ys)
are_right_append past [] ys one two = two
are_right_append past (x ∷ xs) ys one two = (one.0, are_right_append (x ∷ past) xs ys one.1 two)

fault_first : (past xs ys : List Happening) (r : Refusal) → IsFirstFault past xs r → IsFirstFault past (xs ++ ys) r
fault_first past [] ys r h = absurd h
fault_first past (x ∷ xs) ys r (inl h) = inl h
fault_first past (x ∷ xs) ys r (inr h) = inr (h.0, fault_first (x ∷ past) xs ys r h.1)

fault_behind : (past xs ys : List Happening) (r : Refusal) → AreRight past xs → IsFirstFault (following past xs) ys r → IsFirstFault past (xs ++ ys) r
fault_behind past [] ys r right h = h
fault_behind past (x ∷ xs) ys r right h = inr (right.0, fault_behind (x ∷ past) xs ys r right.1 h)

says_behind : (P : List Happening → Scopes → Type 0) (past xs ys : List Happening) (c : Checked) → AreRight past xs → Says P (following past xs) ys c → Says P past (xs ++ ys) c
says_behind P past xs ys (Ok s) right h = (are_right_append past xs ys right h.0, subst (λ (p : List Happening). P p s) (sym (following-append past xs ys)) h.1)
says_behind P past xs ys (Err r) right h = fault_behind past xs ys r right h

-- what is said of one thing and then of another is said of both
pub then_says : (P Q : List Happening → Scopes → Type 0) (past xs ys : List Happening) (first : Checked) (next : Scopes → Checked)
    → Says P past xs first → ((q : Scopes) → P (following past xs) q → Says Q (following past xs) ys (next q)) → Says Q past (xs ++ ys) (in_turn first next)
then_says P Q past xs ys (Ok q) next h k = says_behind Q past xs ys (next q) h.0 (k q h.1)
then_says P Q past xs ys (Err r) next h k = fault_first past xs ys r h

-- behind braces, what held before them holds again
pub braced_says : (P R : List Happening → Scopes → Type 0) (past hs : List Happening) (s : Scopes) (c : Checked)
    → ((b : List Happening) → left_open b ≡ Some 0 → P (passed b past) s) → IsEven hs → Says R (opens ∷ past) hs c → Says P past (braced hs) (left_for s c)
braced_says P R past hs s (Ok inner) lasts even h = (
  (tt, are_right_append (opens ∷ past) hs (closes ∷ []) h.0 (tt, tt)),
  subst (λ (p : List Happening). P p s) (sym (following_braced hs past even)) (lasts (even (opens ∷ past)).0 (even (opens ∷ past)).2),
)
braced_says P R past hs s (Err r) lasts even h = inr (tt, fault_first (opens ∷ past) hs (closes ∷ []) r h)

-- a block
pub block_says : (past hs : List Happening) (s : Scopes) (inside : Scopes → Checked) → Fits past s → IsEven hs → Says Fits (opens ∷ past) hs (inside (entered s)) → Says Fits past (braced hs) (in_block inside s)
block_says past hs s inside fits even h = braced_says Fits Fits past hs s (inside (entered s)) (λ b e. fits_passed b e past s fits) even h

-- a block behind another thing
pub then_block : (past xs hs : List Happening) (first : Checked) (inside : Scopes → Checked) → IsEven hs → Says Fits past xs first
    → ((p : List Happening) (q : Scopes) → Fits (opens ∷ p) q → Says Fits (opens ∷ p) hs (inside q)) → Says Fits past (xs ++ braced hs) (in_turn first (in_block inside))
then_block past xs hs first inside even h k =
    then_says Fits Fits past xs (braced hs) first (in_block inside) h (λ q fits. block_says (following past xs) hs q inside fits even (k (following past xs) (entered q) (fits_entered (following past xs) q fits)))

-- nothing happens
pub says_nothing : (past : List Happening) (s : Scopes) → Fits past s → Says Fits past [] (Ok s)
says_nothing past s fits = (tt, fits)

-- ---- names

-- a noun
found_case : (x : Name) (past : List Happening) (s : Scopes) → Fits past s → (o : Option NameKind) → Meaning past x o → Says Fits past (uses x ∷ []) (if is_some o then Ok s else Err (unbound x))
found_case x past s fits None u = inl (unbound_noun u)
found_case x past s fits (Some k) means = (((k, means), tt), fits_more (uses x) (λ p. refl) (λ y j e. cc) past s fits)

pub found_says : (x : Name) (past : List Happening) (s : Scopes) → Fits past s → Says Fits past (uses x ∷ []) (found x s)
found_says x past s fits = found_case x past s fits (kind_in s x) (fits.meaning x)

-- a name that is assigned
assigned_case : (x : Name) (past : List Happening) (s : Scopes) → Fits past s → (o : Option NameKind) → Meaning past x o → Says Fits past (assigns x ∷ []) (assigned_to o x s)
assigned_case x past s fits None u = inl (unbound_assigned u)
assigned_case x past s fits (Some kind.Definition) means = inl (assigned_definition means)
assigned_case x past s fits (Some kind.Variable) means = ((means, tt), fits_more (assigns x) (λ p. refl) (λ y j e. cc) past s fits)

pub assigned_says : (x : Name) (past : List Happening) (s : Scopes) → Fits past s → Says Fits past (assigns x ∷ []) (assigned x s)
assigned_says x past s fits = assigned_case x past s fits (kind_in s x) (fits.meaning x)

-- a name that is defined
added_case : (t : TopName) (past : List Happening) (s : Scopes) → Fits past s → (o : Option NameKind) → Here past t.name o → Says Fits past (defines t ∷ []) (if is_some o then Err (duplicate_name t.name) else Ok (record s { own = with_name t s.own }))
added_case t past s fits None absent = ((absent, tt), fits_defined t past s fits)
added_case t past s fits (Some k) at = inl (defined_twice at)

pub added_says : (t : TopName) (past : List Happening) (s : Scopes) → Fits past s → Says Fits past (defines t ∷ []) (added t s)
added_says t past s fits = added_case t past s fits (s.own t.name) (fits.here t.name)

pub bound_says : (p : Pattern) (past : List Happening) (s : Scopes) → Fits past s → Says Fits past (defining (name_of p)) (bound p s)
bound_says (pattern.Name x) past s fits = added_says (defined_name x) past s fits
bound_says pattern.Ignore past s fits = says_nothing past s fits

pub all_bound_say : (ps : List Pattern) (past : List Happening) (s : Scopes) → Fits past s → Says Fits past (defining (names_of_all ps)) (all_bound ps s)
all_bound_say [] past s fits = says_nothing past s fits
all_bound_say (pattern.Name x ∷ ps) past s fits =
    then_says Fits Fits past (defines (defined_name x) ∷ []) (defining (names_of_all ps)) (bound (pattern.Name x) s) (all_bound ps) (added_says (defined_name x) past s fits) (λ q more. all_bound_say ps (defines (defined_name x) ∷ past) q more)
all_bound_say (pattern.Ignore ∷ ps) past s fits = all_bound_say ps past s fits

-- ---- blocks that begin with names

-- what is said of a block, whatever it begins with
abbrev pub BlockSays : Trees → Type 0
BlockSays body = (past : List Happening) (s : Scopes) → Fits past s → Says Fits past (happens_in body) (checked_all body s)

pub with_says : (p : Pattern) (body : Trees) → BlockSays body → (past : List Happening) (s : Scopes) → Fits past s → Says Fits past (defining (name_of p) ++ happens_in body) (checked_with p (checked_all body) s)
with_says p body all past s fits = then_says Fits Fits past (defining (name_of p)) (happens_in body) (bound p s) (checked_all body) (bound_says p past s fits) (λ q more. all (following past (defining (name_of p))) q more)

taking_says : (ps : List Pattern) (body : Trees) → BlockSays body → (past : List Happening) (s : Scopes) → Fits past s → Says Fits past (defining (names_of_all ps) ++ happens_in body) (checked_taking ps (checked_all body) s)
taking_says ps body all past s fits = then_says Fits Fits past (defining (names_of_all ps)) (happens_in body) (all_bound ps s) (checked_all body) (all_bound_say ps past s fits) (λ q more. all (following past (defining (names_of_all ps))) q more)

-- ---- methods

-- what a past tells of a method of the innermost object
abbrev Met : List Happening → Signature → Bool → Type 0
Met past m true = Happened (gets_method m) 0 past
Met past m false = ¬ Happened (gets_method m) 0 past

-- an object's methods stand in its braces, behind these, and leave the scopes around it as they are
pub record InObject (s : Scopes) (earlier : List Signature) (past : List Happening) (q : Scopes) : Type 0 where
  pub same : q ≡ s
  pub fits : Fits past (entered s)
  pub met : (m : Signature) → Met past m (has_signature earlier m)

-- behind them the scopes are those around it
pub record Gone (s : Scopes) (past : List Happening) (q : Scopes) : Type 0 where
  pub same : q ≡ s

-- where the braces open, there are none
pub in_new_object : (past : List Happening) (s : Scopes) → Fits past s → InObject s [] (opens ∷ past) s
in_new_object past s fits = record { same = refl; fits = fits_entered past s fits; met = λ m at. none_in_new (gets_method m) past (λ e. cc) at }

met_passed : (b : List Happening) → left_open b ≡ Some 0 → (past : List Happening) (m : Signature) (known : Bool) → Met past m known → Met (passed b past) m known
met_passed b even past m true at = happened_passed (gets_method m) 0 b past even at
met_passed b even past m false absent = λ at. absent (passed_happened (gets_method m) 0 b past (λ e. cc) (λ e. cc) even at)

in_object_passed : (b : List Happening) → left_open b ≡ Some 0 → (s : Scopes) (earlier : List Signature) (past : List Happening) (q : Scopes) → InObject s earlier past q → InObject s earlier (passed b past) q
in_object_passed b even s earlier past q o = record { same = o.same; fits = fits_passed b even past (entered s) o.fits; met = λ m. met_passed b even past m (has_signature earlier m) (o.met m) }

-- the signatures of two methods are the same exactly where the verbs are and the numbers of parameters
same_from : (verb alike : Bool) (a b : Signature) → bytes_eq a.0 b.0 ≡ verb → nat_eq a.1 b.1 ≡ alike → (if verb then alike else false) ≡ true → a ≡ b
same_from true true a b e f h = let verbs = (bytes_eq-Decides a.0 b.0).0 e in let numbers = eqb-true a.1 b.1 f in λ i. (verbs i, numbers i)
same_from true false a b e f h = absurd (cc)
same_from false alike a b e f h = absurd (cc)

same_signatures : (a b : Signature) → same_signature a b ≡ true → a ≡ b
same_signatures a b h = same_from (bytes_eq a.0 b.0) (nat_eq a.1 b.1) a b refl refl h

same_as_itself : (a : Signature) → same_signature a a ≡ true
same_as_itself a = (λ i. if verbs i then numbers i else false)
  where
    verbs : bytes_eq a.0 a.0 ≡ true
    verbs = (bytes_eq-Decides a.0 a.0).1 refl

    numbers : nat_eq a.1 a.1 ≡ true
    numbers = eq-eqb a.1 a.1 refl

other_signatures : (a b : Signature) → same_signature a b ≡ false → gets_method a ≡ gets_method b → ⊥
other_signatures a b absent e = let same : a ≡ b = cc in false≢true (sym absent ∙ ap (λ (m : Signature). same_signature a m) (sym same) ∙ same_as_itself a)

-- one more method
has_last : (earlier : List Signature) (m n : Signature) → has_signature (earlier ++ m ∷ []) n ≡ (if has_signature earlier n then true else same_signature m n)
has_last [] m n = either (same_signature m n)
  where
    either : (b : Bool) → (if b then true else false) ≡ b
    either true = refl
    either false = refl
has_last (a ∷ earlier) m n = passed_by (same_signature a n) (has_signature (earlier ++ m ∷ []) n) (has_signature earlier n) (same_signature m n) (has_last earlier m n)
  where
    passed_by : (here all there last : Bool) → all ≡ (if there then true else last) → (if here then true else all) ≡ (if (if here then true else there) then true else last)
    passed_by true all there last e = refl
    passed_by false all there last e = e

met_last : (past : List Happening) (m n : Signature) (known same : Bool) → Met past n known → same_signature m n ≡ same → Met (gets_method m ∷ past) n (if known then true else same)
met_last past m n true same at e = happened_more (gets_method m) (λ p. refl) (gets_method n) 0 past at
met_last past m n false true absent e = happened_last (gets_method n) (gets_method m) past (ap gets_method (same_signatures m n e))
met_last past m n false false absent e = λ at. absent (more_happened (gets_method m) (λ p. refl) (gets_method n) 0 past (other_signatures m n e) at)

new_case : (s : Scopes) (earlier : List Signature) (m : Signature) (past : List Happening) (q : Scopes) → InObject s earlier past q → (known : Bool) → Met past m known
    → Says (InObject s (earlier ++ m ∷ [])) past (gets_method m ∷ []) (if known then Err (duplicate_name m.0) else Ok q)
new_case s earlier m past q o true at = inl (method_twice at)
new_case s earlier m past q o false absent = (
  (absent, tt),
  record {
    same = o.same;
    fits = fits_more (gets_method m) (λ p. refl) (λ y j e. cc) past (entered s) o.fits;
    met = λ n. subst (Met (gets_method m ∷ past) n) (sym (has_last earlier m n)) (met_last past m n (has_signature earlier n) (same_signature m n) (o.met n) refl);
  },
)

pub new_says : (s : Scopes) (earlier : List Signature) (m : Signature) (past : List Happening) (q : Scopes) → InObject s earlier past q → Says (InObject s (earlier ++ m ∷ [])) past (gets_method m ∷ []) (new_method earlier m q)
new_says s earlier m past q o = new_case s earlier m past q o (has_signature earlier m) (o.met m)

-- a method's block
pub method_block_says : (s : Scopes) (earlier : List Signature) (ps : List Pattern) (body : Trees) → BlockSays body → IsEven (defining (names_of_all ps) ++ happens_in body) → (past : List Happening) (q : Scopes) → InObject s earlier past q
    → Says (InObject s earlier) past (braced (defining (names_of_all ps) ++ happens_in body)) (in_block (checked_taking ps (checked_all body)) q)
method_block_says s earlier ps body all even past q o =
    braced_says (InObject s earlier) Fits past (defining (names_of_all ps) ++ happens_in body) q (checked_taking ps (checked_all body) (entered q)) (λ b e. in_object_passed b e s earlier past q o) even
    (taking_says ps body all (opens ∷ past) (entered q) inner)
  where
    inner : Fits (opens ∷ past) (entered q)
    inner = subst (λ (r : Scopes). Fits (opens ∷ past) (entered r)) (sym o.same) (fits_entered past (entered s) o.fits)

-- what an object's methods leave is what was there
gone_same : (s : Scopes) (past hs : List Happening) (c : Checked) → Says (Gone s) past hs c → left_for s c ≡ c
gone_same s past hs (Ok q) h = ap (λ (r : Scopes). Ok r) (sym h.1.same)
gone_same s past hs (Err r) h = refl

pub object_says : (past hs : List Happening) (s : Scopes) (c : Checked) → Fits past s → IsEven hs → Says (Gone s) (opens ∷ past) hs c → Says Fits past (braced hs) c
object_says past hs s c fits even h = subst (λ (d : Checked). Says Fits past (braced hs) d) (gone_same s (opens ∷ past) hs c h) (braced_says Fits (Gone s) past hs s c (λ b e. fits_passed b e past s fits) even h)
