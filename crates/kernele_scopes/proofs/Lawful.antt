-- The check is that of the rules of scope: it passes what is right throughout, and tells the first fault of the rest.
use Rattle.std.proofs.Common.{◌≡◌, ◌⊎◌, ◌↔◌, inl, inr, ◌≤◌, List, [], ◌∷◌, ◌++◌, Bool, true, false, if◌then◌else◌, nat_lt, Ok, Err, IsOk, length, ap, sym, refl, ◌∙◌, subst, arith}
use Rattle.std.proofs.lemmas.Bool.{ltb-true, ltb-false, false≢true}
use Rattle.kernele.specs.Tree.{Name, Tree, null_tree, bool_tree, int_tree, text_tree, noun, define, variable, assign, call, list_tree, same_tree, define_list, hide, if_tree, while_tree, for_tree, try_tree, primitive, object_tree, escape_tree, send, when_tree, when_catch_tree, new_promise, Trees, none, and_then, Methods, no_methods, and_method}
use Rattle.kernele.specs.declared.tree.Pattern.{Pattern}
use Rattle.kernele.specs.declared.tree.Pattern.TheVariants as pattern
use Rattle.kernele_scopes.specs.Scope.{Scopes, Checked, Refusal, too_long, too_deep, in_turn, in_block, assigned, added, bound, all_bound, checked_with, checked_taking, checked, checked_all, checked_methods, checked_program, Signature, new_method, defined_name, variable_name, name_of, names_of_all, nodes_in, depth_in, script_scopes, asked_scopes}
use Rattle.kernele_scopes.specs.Bindings.{Happening, opens, defines, gets_method, uses, assigns, IsUnbound, Means, IsRight, IsWrong, unbound_noun, unbound_assigned, assigned_definition, defined_twice, method_twice, AreRight, IsFirstFault, following, defining, braced, happens, happens_in, happens_of, Passes, IsRefused, is_too_long, is_too_deep, is_wrong, IsCheckBehind, before_script, before_asked, ScriptsAreChecked, AskedAreChecked}
use Rattle.kernele_scopes.proofs.Past.{split_cons, split_append, IsEven, even_nil, even_append, even_braced, even_defining, even_one}
use Rattle.kernele_scopes.proofs.Meanings.{named, Fits, fits_script, fits_asked}
use Rattle.kernele_scopes.proofs.Says.{Says, then_says, then_block, says_nothing, found_says, assigned_says, added_says, bound_says, all_bound_say, with_says, InObject, Gone, in_new_object, new_says, method_block_says, object_says}
use Rattle.kernele_scopes.specs.declared.naming.NameKind.{NameKind}
use Rattle.kernele_scopes.specs.declared.naming.NameKind.TheVariants as kind
use Rattle.kernele_scopes.specs.declared.naming.TopName.{TopName}
use Rattle.kernele_scopes.specs.declared.checking.TheConstants.{MOST_NODES, GREATEST_DEPTH}

mutual
  -- a tree closes the braces that it opens, and no others
  even_tree : (t : Tree) → IsEven (happens t)
  even_tree null_tree = even_nil
  even_tree (bool_tree b) = even_nil
  even_tree (int_tree z) = even_nil
  even_tree (text_tree s) = even_nil
  even_tree (noun x) = even_one (uses x) (λ p. refl)
  even_tree (define p e) = even_append (happens e) (defining (name_of p)) (even_tree e) (even_defining (name_of p))
  even_tree (variable x e) = even_append (happens e) (defines (variable_name x) ∷ []) (even_tree e) (even_one (defines (variable_name x)) (λ p. refl))
  even_tree (assign x e) = even_append (happens e) (assigns x ∷ []) (even_tree e) (even_one (assigns x) (λ p. refl))
  even_tree (call r verb args) = even_append (happens r) (happens_in args) (even_tree r) (even_trees args)
  even_tree (list_tree items) = even_trees items
  even_tree (same_tree l r) = even_append (happens l) (happens r) (even_tree l) (even_tree r)
  even_tree (define_list ps e) = even_append (happens e) (defining (names_of_all ps)) (even_tree e) (even_defining (names_of_all ps))
  even_tree (hide body) = even_braced (happens_in body) (even_trees body)
  even_tree (if_tree c first second) =
      even_append (happens c ++ braced (happens_in first)) (braced (happens_in second))
      (even_append (happens c) (braced (happens_in first)) (even_tree c) (even_braced (happens_in first) (even_trees first))) (even_braced (happens_in second) (even_trees second))
  even_tree (while_tree c body) = even_append (happens c) (braced (happens_in body)) (even_tree c) (even_braced (happens_in body) (even_trees body))
  even_tree (for_tree p e body) =
      even_append (happens e) (braced (defining (name_of p) ++ happens_in body)) (even_tree e)
      (even_braced (defining (name_of p) ++ happens_in body) (even_append (defining (name_of p)) (happens_in body) (even_defining (name_of p)) (even_trees body)))
  even_tree (try_tree body p handler) =
      even_append (braced (happens_in body)) (braced (defining (name_of p) ++ happens_in handler)) (even_braced (happens_in body) (even_trees body))
      (even_braced (defining (name_of p) ++ happens_in handler) (even_append (defining (name_of p)) (happens_in handler) (even_defining (name_of p)) (even_trees handler)))
  even_tree (primitive q e) = even_tree e
  even_tree (object_tree p ms) = even_append (defining (name_of p)) (braced (happens_of ms)) (even_defining (name_of p)) (even_braced (happens_of ms) (even_methods ms))
  even_tree (escape_tree x body) = even_braced (defines (defined_name x) ∷ happens_in body) (even_append (defines (defined_name x) ∷ []) (happens_in body) (even_one (defines (defined_name x)) (λ p. refl)) (even_trees body))
  even_tree (send r verb args) = even_append (happens r) (happens_in args) (even_tree r) (even_trees args)
  even_tree (when_tree e body) = even_append (happens e) (braced (happens_in body)) (even_tree e) (even_braced (happens_in body) (even_trees body))
  even_tree (when_catch_tree e body p handler) =
      even_append (happens e ++ braced (happens_in body)) (braced (defining (name_of p) ++ happens_in handler))
      (even_append (happens e) (braced (happens_in body)) (even_tree e) (even_braced (happens_in body) (even_trees body)))
      (even_braced (defining (name_of p) ++ happens_in handler) (even_append (defining (name_of p)) (happens_in handler) (even_defining (name_of p)) (even_trees handler)))
  even_tree new_promise = even_nil

  even_trees : (ts : Trees) → IsEven (happens_in ts)
  even_trees none = even_nil
  even_trees (and_then t ts) = even_append (happens t) (happens_in ts) (even_tree t) (even_trees ts)

  even_methods : (ms : Methods) → IsEven (happens_of ms)
  even_methods no_methods = even_nil
  even_methods (and_method verb ps body ms) =
      even_append (gets_method (verb, length ps) ∷ []) (braced (defining (names_of_all ps) ++ happens_in body) ++ happens_of ms) (even_one (gets_method (verb, length ps)) (λ p. refl))
      (even_append (braced (defining (names_of_all ps) ++ happens_in body)) (happens_of ms)
      (even_braced (defining (names_of_all ps) ++ happens_in body) (even_append (defining (names_of_all ps)) (happens_in body) (even_defining (names_of_all ps)) (even_trees body))) (even_methods ms))

-- blocks that begin with names
even_with : (p : Pattern) (body : Trees) → IsEven (defining (name_of p) ++ happens_in body)
even_with p body = even_append (defining (name_of p)) (happens_in body) (even_defining (name_of p)) (even_trees body)

mutual
  -- what the check says of a tree
  says : (t : Tree) (past : List Happening) (s : Scopes) → Fits past s → Says Fits past (happens t) (checked t s)
  says null_tree past s f = says_nothing past s f
  says (bool_tree b) past s f = says_nothing past s f
  says (int_tree z) past s f = says_nothing past s f
  says (text_tree t) past s f = says_nothing past s f
  says (noun x) past s f = found_says x past s f
  says (define p e) past s f = then_says Fits Fits past (happens e) (defining (name_of p)) (checked e s) (bound p) (says e past s f) (λ q g. bound_says p (following past (happens e)) q g)
  says (variable x e) past s f = then_says Fits Fits past (happens e) (defines (variable_name x) ∷ []) (checked e s) (added (variable_name x)) (says e past s f) (λ q g. added_says (variable_name x) (following past (happens e)) q g)
  says (assign x e) past s f = then_says Fits Fits past (happens e) (assigns x ∷ []) (checked e s) (assigned x) (says e past s f) (λ q g. assigned_says x (following past (happens e)) q g)
  says (call r verb args) past s f = then_says Fits Fits past (happens r) (happens_in args) (checked r s) (checked_all args) (says r past s f) (λ q g. all_say args (following past (happens r)) q g)
  says (list_tree items) past s f = all_say items past s f
  says (same_tree l r) past s f = then_says Fits Fits past (happens l) (happens r) (checked l s) (checked r) (says l past s f) (λ q g. says r (following past (happens l)) q g)
  says (define_list ps e) past s f = then_says Fits Fits past (happens e) (defining (names_of_all ps)) (checked e s) (all_bound ps) (says e past s f) (λ q g. all_bound_say ps (following past (happens e)) q g)
  says (hide body) past s f = then_block past [] (happens_in body) (Ok s) (checked_all body) (even_trees body) (says_nothing past s f) (λ p q g. all_say body (opens ∷ p) q g)
  says (if_tree c first second) past s f =
      then_block past (happens c ++ braced (happens_in first)) (happens_in second) (in_turn (checked c s) (in_block (checked_all first))) (checked_all second) (even_trees second)
      (then_block past (happens c) (happens_in first) (checked c s) (checked_all first) (even_trees first) (says c past s f) (λ p q g. all_say first (opens ∷ p) q g))
      (λ p q g. all_say second (opens ∷ p) q g)
  says (while_tree c body) past s f = then_block past (happens c) (happens_in body) (checked c s) (checked_all body) (even_trees body) (says c past s f) (λ p q g. all_say body (opens ∷ p) q g)
  says (for_tree p e body) past s f =
      then_block past (happens e) (defining (name_of p) ++ happens_in body) (checked e s) (checked_with p (checked_all body)) (even_with p body) (says e past s f)
      (λ v q g. with_says p body (λ w r h. all_say body w r h) (opens ∷ v) q g)
  says (try_tree body p handler) past s f =
      then_block past (braced (happens_in body)) (defining (name_of p) ++ happens_in handler) (in_block (checked_all body) s) (checked_with p (checked_all handler)) (even_with p handler)
      (then_block past [] (happens_in body) (Ok s) (checked_all body) (even_trees body) (says_nothing past s f) (λ v q g. all_say body (opens ∷ v) q g))
      (λ v q g. with_says p handler (λ w r h. all_say handler w r h) (opens ∷ v) q g)
  says (primitive q e) past s f = says e past s f
  says (object_tree p ms) past s f =
      then_says Fits Fits past (defining (name_of p)) (braced (happens_of ms)) (bound p s) (checked_methods [] ms) (bound_says p past s f)
      (λ q g. object_says (following past (defining (name_of p))) (happens_of ms) q (checked_methods [] ms q) g (even_methods ms)
      (methods_say ms q [] (opens ∷ following past (defining (name_of p))) q (in_new_object (following past (defining (name_of p))) q g)))
  says (escape_tree x body) past s f =
      then_block past [] (defining (name_of (pattern.Name x)) ++ happens_in body) (Ok s) (checked_with (pattern.Name x) (checked_all body)) (even_with (pattern.Name x) body) (says_nothing past s f)
      (λ v q g. with_says (pattern.Name x) body (λ w r h. all_say body w r h) (opens ∷ v) q g)
  says (send r verb args) past s f = then_says Fits Fits past (happens r) (happens_in args) (checked r s) (checked_all args) (says r past s f) (λ q g. all_say args (following past (happens r)) q g)
  says (when_tree e body) past s f = then_block past (happens e) (happens_in body) (checked e s) (checked_all body) (even_trees body) (says e past s f) (λ p q g. all_say body (opens ∷ p) q g)
  says (when_catch_tree e body p handler) past s f =
      then_block past (happens e ++ braced (happens_in body)) (defining (name_of p) ++ happens_in handler) (in_turn (checked e s) (in_block (checked_all body))) (checked_with p (checked_all handler)) (even_with p handler)
      (then_block past (happens e) (happens_in body) (checked e s) (checked_all body) (even_trees body) (says e past s f) (λ v q g. all_say body (opens ∷ v) q g))
      (λ v q g. with_says p handler (λ w r h. all_say handler w r h) (opens ∷ v) q g)
  says new_promise past s f = says_nothing past s f

  all_say : (ts : Trees) (past : List Happening) (s : Scopes) → Fits past s → Says Fits past (happens_in ts) (checked_all ts s)
  all_say none past s f = says_nothing past s f
  all_say (and_then t ts) past s f = then_says Fits Fits past (happens t) (happens_in ts) (checked t s) (checked_all ts) (says t past s f) (λ q g. all_say ts (following past (happens t)) q g)

  methods_say : (ms : Methods) (s : Scopes) (earlier : List Signature) (past : List Happening) (q : Scopes) → InObject s earlier past q → Says (Gone s) past (happens_of ms) (checked_methods earlier ms q)
  methods_say no_methods s earlier past q o = (tt, record { same = o.same })
  methods_say (and_method verb ps body ms) s earlier past q o =
      let m : Signature = (verb, length ps) in
      let inside : List Happening = braced (defining (names_of_all ps) ++ happens_in body) in
      then_says (InObject s (earlier ++ m ∷ [])) (Gone s) past (gets_method m ∷ inside) (happens_of ms) (in_turn (new_method earlier m q) (in_block (checked_taking ps (checked_all body)))) (checked_methods (earlier ++ m ∷ []) ms)
      (then_says (InObject s (earlier ++ m ∷ [])) (InObject s (earlier ++ m ∷ [])) past (gets_method m ∷ []) inside (new_method earlier m q) (in_block (checked_taking ps (checked_all body))) (new_says s earlier m past q o)
      (λ r n. method_block_says s (earlier ++ m ∷ []) ps body (λ w v h. all_say body w v h) (even_append (defining (names_of_all ps)) (happens_in body) (even_defining (names_of_all ps)) (even_trees body)) (gets_method m ∷ past) r n))
      (λ r n. methods_say ms s (earlier ++ m ∷ []) (following past (gets_method m ∷ inside)) r n)

-- ---- the rules agree with themselves

-- a name means one kind
means_once : (x : Name) (k j : NameKind) (past : List Happening) → Means x k past → Means x j past → k ≡ j
means_once x k j past one two = at (split_append (named x j) one.0 (named x k ∷ one.1) two.0 two.1 (sym one.3 ∙ two.3))
  where
    last : (d : List Happening) → two.0 ≡ one.0 ++ d → ((named x k ≡ named x j) × (d ≡ [])) ⊎ ((f : List Happening) × (d ≡ named x k ∷ f) × (one.1 ≡ f ++ named x j ∷ two.1)) → k ≡ j
    last d over (inl is) = let same : ◌≡◌ {A = TopName} (record { name = x; kind = k }) (record { name = x; kind = j }) = cc in ap (λ (t : TopName). t.kind) same
    last d over (inr is) = absurd (two.5 k one.2 (one.0, is.0, over ∙ ap (λ (p : List Happening). one.0 ++ p) is.1, one.4))

    at : ((d : List Happening) × (one.0 ≡ two.0 ++ named x j ∷ d)) ⊎ ((d : List Happening) × (two.0 ≡ one.0 ++ d) × (named x k ∷ one.1 ≡ d ++ named x j ∷ two.1)) → k ≡ j
    at (inl is) = absurd (one.5 j two.2 (two.0, is.0, is.1, two.4))
    at (inr is) = last is.0 is.1 (split_cons (named x k) (named x j) one.1 is.0 two.1 is.2)

-- a name that means something is not unbound
means_bound : (x : Name) (k : NameKind) (past : List Happening) → Means x k past → IsUnbound x past → ⊥
means_bound x k past means u = u k means.2 (means.0, means.1, means.3, means.4)

-- nothing is right and wrong
right_or_wrong : (past : List Happening) (h : Happening) (r : Refusal) → IsWrong past h r → IsRight past h → ⊥
right_or_wrong past h r (unbound_noun {x} u) right = means_bound x right.0 past right.1 u
right_or_wrong past h r (unbound_assigned {x} u) right = means_bound x kind.Variable past right u
right_or_wrong past h r (assigned_definition {x} means) right = let same = means_once x kind.Definition kind.Variable past means right in absurd (cc)
right_or_wrong past h r (defined_twice at) right = right at
right_or_wrong past h r (method_twice at) right = right at

-- what is wrong is wrong for one reason
wrong_once : (past : List Happening) (h : Happening) (r q : Refusal) → IsWrong past h r → IsWrong past h q → r ≡ q
wrong_once past h r q (unbound_noun u) (unbound_noun v) = refl
wrong_once past h r q (unbound_assigned u) (unbound_assigned v) = refl
wrong_once past h r q (unbound_assigned {x} u) (assigned_definition means) = absurd (means_bound x kind.Definition past means u)
wrong_once past h r q (assigned_definition {x} means) (unbound_assigned u) = absurd (means_bound x kind.Definition past means u)
wrong_once past h r q (assigned_definition means) (assigned_definition also) = refl
wrong_once past h r q (defined_twice at) (defined_twice also) = refl
wrong_once past h r q (method_twice at) (method_twice also) = refl

right_throughout : (past hs : List Happening) (r : Refusal) → IsFirstFault past hs r → AreRight past hs → ⊥
right_throughout past [] r fault right = absurd fault
right_throughout past (h ∷ hs) r (inl wrong) right = right_or_wrong past h r wrong right.0
right_throughout past (h ∷ hs) r (inr later) right = right_throughout (h ∷ past) hs r later.1 right.1

-- so the first fault is one
first_once : (past hs : List Happening) (r q : Refusal) → IsFirstFault past hs r → IsFirstFault past hs q → r ≡ q
first_once past [] r q one two = absurd one
first_once past (h ∷ hs) r q (inl one) (inl two) = wrong_once past h r q one two
first_once past (h ∷ hs) r q (inl one) (inr two) = absurd (right_or_wrong past h r one two.0)
first_once past (h ∷ hs) r q (inr one) (inl two) = absurd (right_or_wrong past h q two one.0)
first_once past (h ∷ hs) r q (inr one) (inr two) = first_once (h ∷ past) hs r q one.1 two.1

-- a program that passes is not refused
passes_alone : (past : List Happening) (ts : Trees) (r : Refusal) → IsRefused past ts r → Passes past ts → ⊥
passes_alone past ts r (is_too_long over) p = let few = p.few in absurd (omega arith)
passes_alone past ts r (is_too_deep few over) p = let shallow = p.shallow in absurd (omega arith)
passes_alone past ts r (is_wrong few shallow fault) p = right_throughout past (happens_in ts) r fault p.right

-- and it is refused for one reason
refused_once : (past : List Happening) (ts : Trees) (r q : Refusal) → IsRefused past ts r → IsRefused past ts q → r ≡ q
refused_once past ts r q (is_too_long over) (is_too_long also) = refl
refused_once past ts r q (is_too_long over) (is_too_deep few also) = absurd (omega arith)
refused_once past ts r q (is_too_long over) (is_wrong few shallow fault) = absurd (omega arith)
refused_once past ts r q (is_too_deep few over) (is_too_long also) = absurd (omega arith)
refused_once past ts r q (is_too_deep few over) (is_too_deep too also) = refl
refused_once past ts r q (is_too_deep few over) (is_wrong too shallow fault) = absurd (omega arith)
refused_once past ts r q (is_wrong few shallow fault) (is_too_long over) = absurd (omega arith)
refused_once past ts r q (is_wrong few shallow fault) (is_too_deep too over) = absurd (omega arith)
refused_once past ts r q (is_wrong few shallow fault) (is_wrong too low other) = first_once past (happens_in ts) r q fault other

-- ---- the check and the rules

-- a program passes, or is refused for this
abbrev Ruled : List Happening → Trees → Checked → Type 0
Ruled past ts (Ok q) = Passes past ts
Ruled past ts (Err r) = IsRefused past ts r

names_ruled : (past : List Happening) (ts : Trees) (c : Checked) → nodes_in ts ≤ MOST_NODES → depth_in ts ≤ GREATEST_DEPTH → Says Fits past (happens_in ts) c → Ruled past ts c
names_ruled past ts (Ok q) few shallow h = record { few = few; shallow = shallow; right = h.0 }
names_ruled past ts (Err r) few shallow h = is_wrong few shallow h

program_ruled : (past : List Happening) (s : Scopes) (ts : Trees) → Fits past s → (long deep : Bool) → nat_lt MOST_NODES (nodes_in ts) ≡ long → nat_lt GREATEST_DEPTH (depth_in ts) ≡ deep
    → Ruled past ts (if long then Err too_long else (if deep then Err too_deep else checked_all ts s))
program_ruled past s ts f true deep e d = is_too_long (ltb-true MOST_NODES (nodes_in ts) e)
program_ruled past s ts f false true e d = is_too_deep (ltb-false MOST_NODES (nodes_in ts) e) (ltb-true GREATEST_DEPTH (depth_in ts) d)
program_ruled past s ts f false false e d = names_ruled past ts (checked_all ts s) (ltb-false MOST_NODES (nodes_in ts) e) (ltb-false GREATEST_DEPTH (depth_in ts) d) (all_say ts past s f)

ruled : (past : List Happening) (s : Scopes) (ts : Trees) → Fits past s → Ruled past ts (checked_program ts s)
ruled past s ts f = program_ruled past s ts f (nat_lt MOST_NODES (nodes_in ts)) (nat_lt GREATEST_DEPTH (depth_in ts)) refl refl

-- what is ruled so is checked so
exactly : (past : List Happening) (ts : Trees) (c : Checked) → Ruled past ts c → (IsOk c ↔ Passes past ts) × ((r : Refusal) → (c ≡ Err r) ↔ IsRefused past ts r)
exactly past ts (Ok q) h = ((λ _. h, λ _. refl), λ r. (λ e. absurd (cc), λ refused. absurd (passes_alone past ts r refused h)))
exactly past ts (Err f) h = ((λ e. absurd (false≢true e), λ p. absurd (passes_alone past ts f h p)), λ r. (λ e. let same : f ≡ r = cc in subst (IsRefused past ts) same h, λ refused. ap (λ (g : Refusal). Err g) (refused_once past ts f r h refused)))

checks_behind : (past : List Happening) (s : Scopes) → Fits past s → IsCheckBehind past s
checks_behind past s f ts = exactly past ts (checked_program ts s) (ruled past s ts f)

pub scripts_are_checked : ScriptsAreChecked
scripts_are_checked earlier = checks_behind (before_script earlier) (script_scopes earlier) (fits_script earlier)

pub asked_are_checked : AskedAreChecked
asked_are_checked earlier tops = checks_behind (before_asked earlier tops) (asked_scopes earlier tops) (fits_asked earlier tops)
