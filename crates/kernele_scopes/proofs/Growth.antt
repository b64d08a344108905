-- What a check adds to the scopes.
use Rattle.std.proofs.Common.{◌≡◌, List, [], ◌∷◌, ◌++◌, Bool, true, false, Option, Some, None, Ok, Err, ap, sym, refl, ◌∙◌, cond, length}
use Rattle.kernele.specs.Tree.{Name, Tree, null_tree, bool_tree, int_tree, text_tree, noun, define, variable, assign, call, list_tree, same_tree, define_list, hide, if_tree, while_tree, for_tree, try_tree, primitive, object_tree, escape_tree, send, when_tree, when_catch_tree, new_promise, Trees, none, and_then, Methods, no_methods, and_method}
use Rattle.kernele_scopes.specs.Scope.{Names, Scopes, Refusal, Checked, in_turn, added, bound, all_bound, entered, left_for, in_block, checked_with, checked_taking, checked_methods, Signature, new_method, assigned, assigned_to, kind_in, checked, checked_all, with_names, with_name, defined_name, variable_name, name_of, names_of_all, own_names, own_names_in}
use Rattle.kernele.specs.declared.tree.Pattern.{Pattern}
use Rattle.kernele.specs.declared.tree.Pattern.TheVariants as pattern
use Rattle.kernele_scopes.specs.declared.naming.NameKind.{NameKind}
use Rattle.kernele_scopes.specs.declared.naming.NameKind.TheVariants as kind
use Rattle.kernele_scopes.specs.declared.naming.TopName.{TopName}

-- the scopes with the names of a list besides
abbrev grown : List TopName → Scopes → Scopes
grown xs s = record s { own = with_names xs s.own }

-- the names of two lists are those of the first, then those of the second
with_names-append : (xs ys : List TopName) (names : Names) → with_names (xs ++ ys) names ≡ with_names ys (with_names xs names)
with_names-append [] ys names = refl
with_names-append (x ∷ xs) ys names = with_names-append xs ys (with_name x names)

-- the same of scopes
grown-append : (xs ys : List TopName) (s : Scopes) → grown ys (grown xs s) ≡ grown (xs ++ ys) s
grown-append xs ys s = ap (λ names. record s { own = names }) (sym (with_names-append xs ys s.own))

-- one result has one value
same_scopes : {s r : Scopes} → ◌≡◌ {A = Checked} (Ok s) (Ok r) → r ≡ s
same_scopes e = cc

-- one and then another add the names of both
in_both : (first : Checked) (next : Scopes → Checked) (xs ys : List TopName) (s r : Scopes)
    → ((q : Scopes) → first ≡ Ok q → q ≡ grown xs s) → ((q : Scopes) → next q ≡ Ok r → r ≡ grown ys q) → in_turn first next ≡ Ok r → r ≡ grown (xs ++ ys) s
in_both (Ok q) next xs ys s r one other e = other q e ∙ ap (grown ys) (one q refl) ∙ grown-append xs ys s
in_both (Err f) next xs ys s r one other e = absurd (cc)

-- one and then what adds nothing
in_first : (first : Checked) (next : Scopes → Checked) (xs : List TopName) (s r : Scopes)
    → ((q : Scopes) → first ≡ Ok q → q ≡ grown xs s) → ((q : Scopes) → next q ≡ Ok r → r ≡ q) → in_turn first next ≡ Ok r → r ≡ grown xs s
in_first (Ok q) next xs s r one other e = other q e ∙ one q refl
in_first (Err f) next xs s r one other e = absurd (cc)

-- a noun that is found adds nothing
found_grows : (x : Name) (s r : Scopes) (here : Bool) (f : Refusal) → ◌≡◌ {A = Checked} (cond here (Ok s) (Err f)) (Ok r) → r ≡ s
found_grows x s r true f e = same_scopes e
found_grows x s r false f e = absurd (cc)

-- a name is added, where its scope does not have it
added_grows_case : (t : TopName) (s r : Scopes) (here : Bool) (f : Refusal) → ◌≡◌ {A = Checked} (cond here (Err f) (Ok (grown (t ∷ []) s))) (Ok r) → r ≡ grown (t ∷ []) s
added_grows_case t s r true f e = absurd (cc)
added_grows_case t s r false f e = same_scopes e

added_grows : (t : TopName) (s r : Scopes) → added t s ≡ Ok r → r ≡ grown (t ∷ []) s
added_grows t s r e = added_grows_case t s r _ _ e

-- a definition adds the name of its pattern
bound_grows : (p : Pattern) (s r : Scopes) → bound p s ≡ Ok r → r ≡ grown (name_of p) s
bound_grows (pattern.Name x) s r e = added_grows (defined_name x) s r e
bound_grows pattern.Ignore s r e = same_scopes e

-- a definition of a list adds the names of its patterns
all_bound_grow : (ps : List Pattern) (s r : Scopes) → all_bound ps s ≡ Ok r → r ≡ grown (names_of_all ps) s
all_bound_grow [] s r e = same_scopes e
all_bound_grow (p ∷ ps) s r e = in_both (bound p s) (all_bound ps) (name_of p) (names_of_all ps) s r (λ q. bound_grows p s q) (λ q. all_bound_grow ps q r) e

-- a block adds nothing
block_grows : (inside : Checked) (s r : Scopes) → left_for s inside ≡ Ok r → r ≡ s
block_grows (Ok inner) s r e = same_scopes e
block_grows (Err f) s r e = absurd (cc)

-- an assignment adds nothing
assigned_grows_case : (o : Option NameKind) (x : Name) (s r : Scopes) → assigned_to o x s ≡ Ok r → r ≡ s
assigned_grows_case None x s r e = absurd (cc)
assigned_grows_case (Some kind.Definition) x s r e = absurd (cc)
assigned_grows_case (Some kind.Variable) x s r e = same_scopes e

assigned_grows : (x : Name) (s r : Scopes) → assigned x s ≡ Ok r → r ≡ s
assigned_grows x s r e = assigned_grows_case (kind_in s x) x s r e

-- a method that is new adds nothing
new_grows : (m : Signature) (s r : Scopes) (twice : Bool) (f : Refusal) → ◌≡◌ {A = Checked} (cond twice (Err f) (Ok s)) (Ok r) → r ≡ s
new_grows m s r true f e = absurd (cc)
new_grows m s r false f e = same_scopes e

-- methods add nothing
methods_grow : (earlier : List Signature) (ms : Methods) (s r : Scopes) → checked_methods earlier ms s ≡ Ok r → r ≡ s
methods_grow earlier no_methods s r e = same_scopes e
methods_grow earlier (and_method verb ps body ms) s r e =
    in_first (in_turn (new_method earlier (verb, length ps) s) (in_block (checked_taking ps (checked_all body)))) (checked_methods (earlier ++ (verb, length ps) ∷ []) ms) [] s r
    (λ p. in_first (new_method earlier (verb, length ps) s) (in_block (checked_taking ps (checked_all body))) [] s p (λ q. new_grows (verb, length ps) s q _ _) (λ q. block_grows (checked_taking ps (checked_all body) (entered q)) q p))
    (λ q. methods_grow (earlier ++ (verb, length ps) ∷ []) ms q r) e

mutual
  -- a tree that is not refused adds the names that it defines
  pub grows : (t : Tree) (s r : Scopes) → checked t s ≡ Ok r → r ≡ grown (own_names t) s
  grows null_tree s r e = same_scopes e
  grows (bool_tree b) s r e = same_scopes e
  grows (int_tree z) s r e = same_scopes e
  grows (text_tree t) s r e = same_scopes e
  grows (noun x) s r e = found_grows x s r _ _ e
  grows (define p t) s r e = in_both (checked t s) (bound p) (own_names t) (name_of p) s r (grows t s) (λ q. bound_grows p q r) e
  grows (variable x t) s r e = in_both (checked t s) (added (variable_name x)) (own_names t) (variable_name x ∷ []) s r (grows t s) (λ q. added_grows (variable_name x) q r) e
  grows (assign x t) s r e = in_first (checked t s) (assigned x) (own_names t) s r (grows t s) (λ q. assigned_grows x q r) e
  grows (call t verb args) s r e = in_both (checked t s) (checked_all args) (own_names t) (own_names_in args) s r (grows t s) (λ q. all_grow args q r) e
  grows (list_tree items) s r e = all_grow items s r e
  grows (same_tree t u) s r e = in_both (checked t s) (checked u) (own_names t) (own_names u) s r (grows t s) (λ q. grows u q r) e
  grows (define_list ps t) s r e = in_both (checked t s) (all_bound ps) (own_names t) (names_of_all ps) s r (grows t s) (λ q. all_bound_grow ps q r) e
  grows (hide body) s r e = block_grows (checked_all body (entered s)) s r e
  grows (if_tree t first second) s r e =
      in_first (in_turn (checked t s) (in_block (checked_all first))) (in_block (checked_all second)) (own_names t) s r
      (λ p. in_first (checked t s) (in_block (checked_all first)) (own_names t) s p (grows t s) (λ q. block_grows (checked_all first (entered q)) q p))
      (λ q. block_grows (checked_all second (entered q)) q r) e
  grows (while_tree t body) s r e = in_first (checked t s) (in_block (checked_all body)) (own_names t) s r (grows t s) (λ q. block_grows (checked_all body (entered q)) q r) e
  grows (for_tree p t body) s r e = in_first (checked t s) (in_block (checked_with p (checked_all body))) (own_names t) s r (grows t s) (λ q. block_grows (checked_with p (checked_all body) (entered q)) q r) e
  grows (try_tree body p handler) s r e =
      in_first (in_block (checked_all body) s) (in_block (checked_with p (checked_all handler))) [] s r
      (λ q. block_grows (checked_all body (entered s)) s q) (λ q. block_grows (checked_with p (checked_all handler) (entered q)) q r) e
  grows (primitive q t) s r e = grows t s r e
  grows (object_tree p ms) s r e = in_first (bound p s) (checked_methods [] ms) (name_of p) s r (λ q. bound_grows p s q) (λ q. methods_grow [] ms q r) e
  grows (escape_tree x body) s r e = block_grows (checked_with (pattern.Name x) (checked_all body) (entered s)) s r e
  grows (send t verb args) s r e = in_both (checked t s) (checked_all args) (own_names t) (own_names_in args) s r (grows t s) (λ q. all_grow args q r) e
  grows (when_tree t body) s r e = in_first (checked t s) (in_block (checked_all body)) (own_names t) s r (grows t s) (λ q. block_grows (checked_all body (entered q)) q r) e
  grows (when_catch_tree t body p handler) s r e =
      in_first (in_turn (checked t s) (in_block (checked_all body))) (in_block (checked_with p (checked_all handler))) (own_names t) s r
      (λ v. in_first (checked t s) (in_block (checked_all body)) (own_names t) s v (grows t s) (λ q. block_grows (checked_all body (entered q)) q v))
      (λ q. block_grows (checked_with p (checked_all handler) (entered q)) q r) e
  grows new_promise s r e = same_scopes e

  -- so do trees in order
  pub all_grow : (ts : Trees) (s r : Scopes) → checked_all ts s ≡ Ok r → r ≡ grown (own_names_in ts) s
  all_grow none s r e = same_scopes e
  all_grow (and_then t ts) s r e = in_both (checked t s) (checked_all ts) (own_names t) (own_names_in ts) s r (grows t s) (λ q. all_grow ts q r) e
