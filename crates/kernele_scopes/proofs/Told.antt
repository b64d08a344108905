-- What the check tells of the free names of a program.
use Rattle.std.proofs.Common.{◌≡◌, List, [], ◌∷◌, ◌++◌, Bool, true, false, Option, Some, None, is_some, Ok, Err, append_assoc, append-nil, ap, sym, subst, refl, ◌∙◌, if◌then◌else◌, length}
use Rattle.std.specs.Prelude.{All, Contains, IsSome, IsNone}
use Rattle.std.specs.Option.{option_or}
use Rattle.std.specs.Str.{bytes_eq}
use Rattle.std.proofs.lemmas.List.Elements.{All-nil, All-cons, All-append, Contains-append_left, Contains-append_right, Contains-push}
use Rattle.kernele.specs.Tree.{Name, Tree, null_tree, bool_tree, int_tree, text_tree, noun, define, variable, assign, call, list_tree, same_tree, define_list, hide, if_tree, while_tree, for_tree, try_tree, primitive, object_tree, escape_tree, send, when_tree, when_catch_tree, new_promise, Trees, none, and_then, Methods, no_methods, and_method}
use Rattle.kernele.specs.declared.tree.Pattern.{Pattern}
use Rattle.kernele.specs.declared.tree.Pattern.TheVariants as pattern
use Rattle.kernele_scopes.specs.Scope.{Scopes, Checked, unbound, assign_to_def, duplicate_name, too_deep, too_long, in_turn, kind_in, found, assigned, assigned_to, added, bound, all_bound, with_name, left_for, entered, in_block, checked_with, checked_taking, Signature, has_signature, new_method, checked, checked_all, checked_methods, defined_name, variable_name, name_of, names_of_all, own_names, own_names_in}
use Rattle.kernele_scopes.specs.Free.{defines, occurring, free, free_in, free_of, FreeNamesAreInScope, UnboundNamesAreFree}
use Rattle.kernele_scopes.specs.declared.naming.NameKind.{NameKind}
use Rattle.kernele_scopes.specs.declared.naming.NameKind.TheVariants as kind
use Rattle.kernele_scopes.specs.declared.naming.TopName.{TopName}

-- a name is in one of the scopes
abbrev InScope : Scopes → Name → Type 0
InScope s x = IsSome (kind_in s x)

-- where a program began in these scopes and has defined these names so far, a name is in scope that is one of them or was in scope
abbrev Knows : Scopes → List TopName → Scopes → Type 0
Knows s bs q = (x : Name) → is_some (kind_in q x) ≡ (if defines bs x then true else is_some (kind_in s x))

-- what a check tells of names that are free, where these are defined behind it
abbrev Tells : Scopes → List TopName → List Name → Checked → Type 0
Tells s bs xs (Ok q) = All (InScope s) xs × Knows s bs q
Tells s bs xs (Err (unbound x)) = Contains xs x × IsNone (kind_in s x)
Tells s bs xs (Err (assign_to_def x)) = Unit {0}
Tells s bs xs (Err (duplicate_name x)) = Unit {0}
Tells s bs xs (Err too_deep) = Unit {0}
Tells s bs xs (Err too_long) = Unit {0}

-- the same of names that are the same
tells_same : (s : Scopes) {bs cs : List TopName} {xs ys : List Name} (c : Checked) → bs ≡ cs → xs ≡ ys → Tells s bs xs c → Tells s cs ys c
tells_same s {cs = cs} {xs = xs} c e f h = subst (λ (zs : List Name). Tells s cs zs c) f (subst (λ (ds : List TopName). Tells s ds xs c) e h)

-- names that are in scope may stand before others, and behind them
tells_before : (s : Scopes) (bs : List TopName) (xs ys : List Name) (c : Checked) → All (InScope s) xs → Tells s bs ys c → Tells s bs (xs ++ ys) c
tells_before s bs xs ys (Ok q) a h = (All-append (InScope s) xs ys a h.0, h.1)
tells_before s bs xs ys (Err (unbound x)) a h = (Contains-append_right xs ys x h.0, h.1)
tells_before s bs xs ys (Err (assign_to_def x)) a h = tt
tells_before s bs xs ys (Err (duplicate_name x)) a h = tt
tells_before s bs xs ys (Err too_deep) a h = tt
tells_before s bs xs ys (Err too_long) a h = tt

tells_behind : (s : Scopes) (bs : List TopName) (xs ys : List Name) (c : Checked) → All (InScope s) xs → Tells s bs ys c → Tells s bs (ys ++ xs) c
tells_behind s bs xs ys (Ok q) a h = (All-append (InScope s) ys xs h.0 a, h.1)
tells_behind s bs xs ys (Err (unbound x)) a h = (Contains-append_left ys xs x h.0, h.1)
tells_behind s bs xs ys (Err (assign_to_def x)) a h = tt
tells_behind s bs xs ys (Err (duplicate_name x)) a h = tt
tells_behind s bs xs ys (Err too_deep) a h = tt
tells_behind s bs xs ys (Err too_long) a h = tt

-- one and then another tell of the names of both
in_both : (s : Scopes) (one both : List TopName) (xs ys : List Name) (first : Checked) (next : Scopes → Checked)
    → Tells s one xs first → ((q : Scopes) → Knows s one q → Tells s both ys (next q)) → Tells s both (xs ++ ys) (in_turn first next)
in_both s one both xs ys (Ok q) next h k = tells_before s both xs ys (next q) h.0 (k q h.1)
in_both s one both xs ys (Err (unbound x)) next h k = (Contains-append_left xs ys x h.0, h.1)
in_both s one both xs ys (Err (assign_to_def x)) next h k = tt
in_both s one both xs ys (Err (duplicate_name x)) next h k = tt
in_both s one both xs ys (Err too_deep) next h k = tt
in_both s one both xs ys (Err too_long) next h k = tt

-- the names of the second may stand first in the text
turned : (s : Scopes) (one both : List TopName) (xs ys : List Name) (first : Checked) (next : Scopes → Checked)
    → Tells s one xs first → ((q : Scopes) → Knows s one q → Tells s both ys (next q)) → Tells s both (ys ++ xs) (in_turn first next)
turned s one both xs ys (Ok q) next h k = tells_behind s both xs ys (next q) h.0 (k q h.1)
turned s one both xs ys (Err (unbound x)) next h k = (Contains-append_right ys xs x h.0, h.1)
turned s one both xs ys (Err (assign_to_def x)) next h k = tt
turned s one both xs ys (Err (duplicate_name x)) next h k = tt
turned s one both xs ys (Err too_deep) next h k = tt
turned s one both xs ys (Err too_long) next h k = tt

-- what defines more names
defining : (s : Scopes) (bs one two : List TopName) (xs ys : List Name) (first : Checked) (next : Scopes → Checked)
    → Tells s (bs ++ one) xs first → ((q : Scopes) → Knows s (bs ++ one) q → Tells s ((bs ++ one) ++ two) ys (next q)) → Tells s (bs ++ (one ++ two)) (xs ++ ys) (in_turn first next)
defining s bs one two xs ys first next h k =
    tells_same s (in_turn first next) (append_assoc bs one two) refl (in_both s (bs ++ one) ((bs ++ one) ++ two) xs ys first next h k)

-- what only defines more names
binding : (s : Scopes) (bs one two : List TopName) (xs : List Name) (first : Checked) (next : Scopes → Checked)
    → Tells s (bs ++ one) xs first → ((q : Scopes) → Knows s (bs ++ one) q → Tells s ((bs ++ one) ++ two) [] (next q)) → Tells s (bs ++ (one ++ two)) xs (in_turn first next)
binding s bs one two xs first next h k = tells_same s (in_turn first next) refl (append-nil xs) (defining s bs one two xs [] first next h k)

-- the names that a block defines end with it
blocked : (s : Scopes) (bs inner : List TopName) (xs : List Name) (q : Scopes) (c : Checked) → Knows s bs q → Tells s inner xs c → Tells s bs xs (left_for q c)
blocked s bs inner xs q (Ok r) k h = (h.0, k)
blocked s bs inner xs q (Err (unbound x)) k h = h
blocked s bs inner xs q (Err (assign_to_def x)) k h = tt
blocked s bs inner xs q (Err (duplicate_name x)) k h = tt
blocked s bs inner xs q (Err too_deep) k h = tt
blocked s bs inner xs q (Err too_long) k h = tt

-- a block behind another part
then_block : (s : Scopes) (bs inner : List TopName) (xs ys : List Name) (first : Checked) (inside : Scopes → Checked)
    → Tells s bs xs first → ((q : Scopes) → Knows s bs q → Tells s inner ys (inside q)) → Tells s bs (xs ++ ys) (in_turn first (in_block inside))
then_block s bs inner xs ys first inside h k = in_both s bs bs xs ys first (in_block inside) h (λ q known. blocked s bs inner ys q (inside (entered q)) known (k (entered q) known))

-- nothing is named and nothing defined
nothing : (s : Scopes) (bs : List TopName) (q : Scopes) → Knows s bs q → Tells s (bs ++ []) [] (Ok q)
nothing s bs q k = (All-nil (InScope s), subst (λ (cs : List TopName). Knows s cs q) (sym (append-nil bs)) k)

-- a noun is found where it was defined, or was in scope
found_case : (s : Scopes) (bs : List TopName) (x : Name) (q : Scopes) → Knows s bs q → (here there defined : Bool) → is_some (kind_in s x) ≡ there → here ≡ (if defined then true else there)
    → Tells s bs (if defined then [] else x ∷ []) (if here then Ok q else Err (unbound x))
found_case s bs x q k true there true e f = (All-nil (InScope s), k)
found_case s bs x q k false there true e f = absurd (cc)
found_case s bs x q k true true false e f = (All-cons (InScope s) x [] e (All-nil (InScope s)), k)
found_case s bs x q k true false false e f = absurd (cc)
found_case s bs x q k false true false e f = absurd (cc)
found_case s bs x q k false false false e f = (Contains-push [] x, e)

found_tells : (s : Scopes) (bs : List TopName) (x : Name) (q : Scopes) → Knows s bs q → Tells s bs (occurring x bs) (found x q)
found_tells s bs x q k = found_case s bs x q k (is_some (kind_in q x)) (is_some (kind_in s x)) (defines bs x) refl (k x)

-- so is a name that is assigned
assigned_case : (s : Scopes) (bs : List TopName) (x : Name) (q : Scopes) → Knows s bs q → (o : Option NameKind) → Tells s bs (occurring x bs) (if is_some o then Ok q else Err (unbound x)) → Tells s bs (occurring x bs) (assigned_to o x q)
assigned_case s bs x q k None h = h
assigned_case s bs x q k (Some kind.Definition) h = tt
assigned_case s bs x q k (Some kind.Variable) h = h

assigned_tells : (s : Scopes) (bs : List TopName) (x : Name) (q : Scopes) → Knows s bs q → Tells s bs (occurring x bs) (assigned x q)
assigned_tells s bs x q k = assigned_case s bs x q k (kind_in q x) (found_tells s bs x q k)

-- a name is defined by a longer list where it is by the shorter one, or is the last
defines_last : (bs : List TopName) (t : TopName) (x : Name) → defines (bs ++ t ∷ []) x ≡ (if defines bs x then true else bytes_eq t.name x)
defines_last [] t x = either (bytes_eq t.name x)
  where
    either : (b : Bool) → (if b then true else false) ≡ b
    either true = refl
    either false = refl
defines_last (b ∷ bs) t x = passed (bytes_eq b.name x) (defines bs x) (bytes_eq t.name x) (defines_last bs t x)
  where
    passed : (here there last : Bool) {all : Bool} → all ≡ (if there then true else last) → (if here then true else all) ≡ (if (if here then true else there) then true else last)
    passed true there last e = refl
    passed false there last e = e

knows_case : (here defined was : Bool) (k : NameKind) (own around : Option NameKind) → is_some (option_or own around) ≡ (if defined then true else was)
    → is_some (option_or (if here then Some k else own) around) ≡ (if (if defined then true else here) then true else was)
knows_case true true was k own around e = refl
knows_case true false was k own around e = refl
knows_case false true was k own around e = e
knows_case false false was k own around e = e

knows_more : (s : Scopes) (bs : List TopName) (t : TopName) (q : Scopes) → Knows s bs q → Knows s (bs ++ t ∷ []) (record q { own = with_name t q.own })
knows_more s bs t q k x =
    knows_case (bytes_eq t.name x) (defines bs x) (is_some (kind_in s x)) t.kind (q.own x) (q.around x) (k x)
    ∙ ap (λ (b : Bool). if b then true else is_some (kind_in s x)) (sym (defines_last bs t x))

added_case : (s : Scopes) (bs : List TopName) (t : TopName) (q : Scopes) (twice : Bool) → Knows s bs q → Tells s (bs ++ t ∷ []) [] (if twice then Err (duplicate_name t.name) else Ok (record q { own = with_name t q.own }))
added_case s bs t q true k = tt
added_case s bs t q false k = (All-nil (InScope s), knows_more s bs t q k)

added_tells : (s : Scopes) (bs : List TopName) (t : TopName) (q : Scopes) → Knows s bs q → Tells s (bs ++ t ∷ []) [] (added t q)
added_tells s bs t q k = added_case s bs t q (is_some (q.own t.name)) k

bound_tells : (s : Scopes) (bs : List TopName) (p : Pattern) (q : Scopes) → Knows s bs q → Tells s (bs ++ name_of p) [] (bound p q)
bound_tells s bs (pattern.Name x) q k = added_tells s bs (defined_name x) q k
bound_tells s bs pattern.Ignore q k = nothing s bs q k

all_bound_tell : (s : Scopes) (bs : List TopName) (ps : List Pattern) (q : Scopes) → Knows s bs q → Tells s (bs ++ names_of_all ps) [] (all_bound ps q)
all_bound_tell s bs [] q k = nothing s bs q k
all_bound_tell s bs (p ∷ ps) q k = binding s bs (name_of p) (names_of_all ps) [] (bound p q) (all_bound ps) (bound_tells s bs p q k) (λ r known. all_bound_tell s (bs ++ name_of p) ps r known)

-- a method that is new names nothing
new_tells : (s : Scopes) (bs : List TopName) (m : Signature) (q : Scopes) (twice : Bool) → Knows s bs q → Tells s bs [] (if twice then Err (duplicate_name m.0) else Ok q)
new_tells s bs m q true k = tt
new_tells s bs m q false k = (All-nil (InScope s), k)

-- what a block tells behind names that it begins with
abbrev BlockTells : Scopes → Trees → Type 0
BlockTells s body = (bs : List TopName) (q : Scopes) → Knows s bs q → Tells s (bs ++ own_names_in body) (free_in body bs) (checked_all body q)

-- what stands in a block behind a pattern
with_tells : (s : Scopes) (p : Pattern) (body : Trees) (bs : List TopName) (q : Scopes) → BlockTells s body → Knows s bs q → Tells s ((bs ++ name_of p) ++ own_names_in body) (free_in body (bs ++ name_of p)) (checked_with p (checked_all body) q)
with_tells s p body bs q all k =
    in_both s (bs ++ name_of p) ((bs ++ name_of p) ++ own_names_in body) [] (free_in body (bs ++ name_of p)) (bound p q) (checked_all body) (bound_tells s bs p q k) (λ r known. all (bs ++ name_of p) r known)

-- a method's block behind its parameters
taking_tells : (s : Scopes) (ps : List Pattern) (body : Trees) (bs : List TopName) (q : Scopes) → BlockTells s body → Knows s bs q → Tells s ((bs ++ names_of_all ps) ++ own_names_in body) (free_in body (bs ++ names_of_all ps)) (checked_taking ps (checked_all body) q)
taking_tells s ps body bs q all k =
    in_both s (bs ++ names_of_all ps) ((bs ++ names_of_all ps) ++ own_names_in body) [] (free_in body (bs ++ names_of_all ps)) (all_bound ps q) (checked_all body) (all_bound_tell s bs ps q k) (λ r known. all (bs ++ names_of_all ps) r known)

mutual
  -- a tree tells of its free names
  tells : (s : Scopes) (t : Tree) (bs : List TopName) (q : Scopes) → Knows s bs q → Tells s (bs ++ own_names t) (free t bs) (checked t q)
  tells s null_tree bs q k = nothing s bs q k
  tells s (bool_tree b) bs q k = nothing s bs q k
  tells s (int_tree z) bs q k = nothing s bs q k
  tells s (text_tree t) bs q k = nothing s bs q k
  tells s (noun x) bs q k = tells_same s (found x q) (sym (append-nil bs)) refl (found_tells s bs x q k)
  tells s (define p e) bs q k = binding s bs (own_names e) (name_of p) (free e bs) (checked e q) (bound p) (tells s e bs q k) (λ r known. bound_tells s (bs ++ own_names e) p r known)
  tells s (variable x e) bs q k =
      binding s bs (own_names e) (variable_name x ∷ []) (free e bs) (checked e q) (added (variable_name x)) (tells s e bs q k) (λ r known. added_tells s (bs ++ own_names e) (variable_name x) r known)
  tells s (assign x e) bs q k =
      turned s (bs ++ own_names e) (bs ++ own_names e) (free e bs) (occurring x (bs ++ own_names e)) (checked e q) (assigned x) (tells s e bs q k) (λ r known. assigned_tells s (bs ++ own_names e) x r known)
  tells s (call t verb args) bs q k =
      defining s bs (own_names t) (own_names_in args) (free t bs) (free_in args (bs ++ own_names t)) (checked t q) (checked_all args) (tells s t bs q k) (λ r known. all_tell s args (bs ++ own_names t) r known)
  tells s (list_tree items) bs q k = all_tell s items bs q k
  tells s (same_tree l r) bs q k =
      defining s bs (own_names l) (own_names r) (free l bs) (free r (bs ++ own_names l)) (checked l q) (checked r) (tells s l bs q k) (λ p known. tells s r (bs ++ own_names l) p known)
  tells s (define_list ps e) bs q k = binding s bs (own_names e) (names_of_all ps) (free e bs) (checked e q) (all_bound ps) (tells s e bs q k) (λ r known. all_bound_tell s (bs ++ own_names e) ps r known)
  tells s (hide body) bs q k = tells_same s (in_block (checked_all body) q) (sym (append-nil bs)) refl (blocked s bs (bs ++ own_names_in body) (free_in body bs) q (checked_all body (entered q)) k (all_tell s body bs (entered q) k))
  tells s (if_tree c first second) bs q k = let ds : List TopName = bs ++ own_names c in
      then_block s ds (ds ++ own_names_in second) (free c bs ++ free_in first ds) (free_in second ds) (in_turn (checked c q) (in_block (checked_all first))) (checked_all second)
      (then_block s ds (ds ++ own_names_in first) (free c bs) (free_in first ds) (checked c q) (checked_all first) (tells s c bs q k) (λ r known. all_tell s first ds r known))
      (λ r known. all_tell s second ds r known)
  tells s (while_tree c body) bs q k = let ds : List TopName = bs ++ own_names c in
      then_block s ds (ds ++ own_names_in body) (free c bs) (free_in body ds) (checked c q) (checked_all body) (tells s c bs q k) (λ r known. all_tell s body ds r known)
  tells s (for_tree p e body) bs q k = let ds : List TopName = bs ++ own_names e in
      then_block s ds ((ds ++ name_of p) ++ own_names_in body) (free e bs) (free_in body (ds ++ name_of p)) (checked e q) (checked_with p (checked_all body)) (tells s e bs q k) (λ r known. with_tells s p body ds r (λ cs v seen. all_tell s body cs v seen) known)
  tells s (try_tree body p handler) bs q k =
      tells_same s (in_turn (in_block (checked_all body) q) (in_block (checked_with p (checked_all handler)))) (sym (append-nil bs)) refl
      (then_block s bs ((bs ++ name_of p) ++ own_names_in handler) (free_in body bs) (free_in handler (bs ++ name_of p)) (in_block (checked_all body) q) (checked_with p (checked_all handler))
      (blocked s bs (bs ++ own_names_in body) (free_in body bs) q (checked_all body (entered q)) k (all_tell s body bs (entered q) k)) (λ r known. with_tells s p handler bs r (λ cs v seen. all_tell s handler cs v seen) known))
  tells s (primitive o e) bs q k = tells s e bs q k
  tells s (object_tree p ms) bs q k =
      in_both s (bs ++ name_of p) (bs ++ name_of p) [] (free_of ms (bs ++ name_of p)) (bound p q) (checked_methods [] ms) (bound_tells s bs p q k) (λ r known. methods_tell s ms [] (bs ++ name_of p) r known)
  tells s (escape_tree x body) bs q k =
      tells_same s (in_block (checked_with (pattern.Name x) (checked_all body)) q) (sym (append-nil bs)) refl
      (blocked s bs ((bs ++ defined_name x ∷ []) ++ own_names_in body) (free_in body (bs ++ defined_name x ∷ [])) q (checked_with (pattern.Name x) (checked_all body) (entered q)) k (with_tells s (pattern.Name x) body bs (entered q) (λ cs v seen. all_tell s body cs v seen) k))
  tells s (send t verb args) bs q k =
      defining s bs (own_names t) (own_names_in args) (free t bs) (free_in args (bs ++ own_names t)) (checked t q) (checked_all args) (tells s t bs q k) (λ r known. all_tell s args (bs ++ own_names t) r known)
  tells s (when_tree e body) bs q k = let ds : List TopName = bs ++ own_names e in
      then_block s ds (ds ++ own_names_in body) (free e bs) (free_in body ds) (checked e q) (checked_all body) (tells s e bs q k) (λ r known. all_tell s body ds r known)
  tells s (when_catch_tree e body p handler) bs q k = let ds : List TopName = bs ++ own_names e in
      then_block s ds ((ds ++ name_of p) ++ own_names_in handler) (free e bs ++ free_in body ds) (free_in handler (ds ++ name_of p)) (in_turn (checked e q) (in_block (checked_all body))) (checked_with p (checked_all handler))
      (then_block s ds (ds ++ own_names_in body) (free e bs) (free_in body ds) (checked e q) (checked_all body) (tells s e bs q k) (λ r known. all_tell s body ds r known))
      (λ r known. with_tells s p handler ds r (λ cs v seen. all_tell s handler cs v seen) known)
  tells s new_promise bs q k = nothing s bs q k

  all_tell : (s : Scopes) (ts : Trees) (bs : List TopName) (q : Scopes) → Knows s bs q → Tells s (bs ++ own_names_in ts) (free_in ts bs) (checked_all ts q)
  all_tell s none bs q k = nothing s bs q k
  all_tell s (and_then t ts) bs q k =
      defining s bs (own_names t) (own_names_in ts) (free t bs) (free_in ts (bs ++ own_names t)) (checked t q) (checked_all ts) (tells s t bs q k) (λ r known. all_tell s ts (bs ++ own_names t) r known)

  methods_tell : (s : Scopes) (ms : Methods) (earlier : List Signature) (bs : List TopName) (q : Scopes) → Knows s bs q → Tells s bs (free_of ms bs) (checked_methods earlier ms q)
  methods_tell s no_methods earlier bs q k = (All-nil (InScope s), k)
  methods_tell s (and_method verb ps body ms) earlier bs q k =
      in_both s bs bs (free_in body (bs ++ names_of_all ps)) (free_of ms bs) (in_turn (new_method earlier (verb, length ps) q) (in_block (checked_taking ps (checked_all body)))) (checked_methods (earlier ++ (verb, length ps) ∷ []) ms)
      (then_block s bs ((bs ++ names_of_all ps) ++ own_names_in body) [] (free_in body (bs ++ names_of_all ps)) (new_method earlier (verb, length ps) q) (checked_taking ps (checked_all body))
      (new_tells s bs (verb, length ps) q (has_signature earlier (verb, length ps)) k) (λ r known. taking_tells s ps body bs r (λ cs v seen. all_tell s body cs v seen) known))
      (λ r known. methods_tell s ms (earlier ++ (verb, length ps) ∷ []) bs r known)

told : (ts : Trees) (s : Scopes) → Tells s (own_names_in ts) (free_in ts []) (checked_all ts s)
told ts s = all_tell s ts [] s (λ x. refl)

pub free_names_are_in_scope : FreeNamesAreInScope
free_names_are_in_scope ts s r e = (subst (Tells s (own_names_in ts) (free_in ts [])) e (told ts s)).0

pub unbound_names_are_free : UnboundNamesAreFree
unbound_names_are_free ts s x e = subst (Tells s (own_names_in ts) (free_in ts [])) e (told ts s)
