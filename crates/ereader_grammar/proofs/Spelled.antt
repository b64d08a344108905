-- The tokens of the canonical spelling are in the grammar.
use Rattle.std.proofs.Common.{◌≡◌, Bool, true, false, not, List, [], ◌∷◌, ◌++◌, map, refl, sym, ap, ◌∙◌, subst, append_assoc, append-nil}
use Rattle.etoken.specs.declared.token.Token.{Token}
use Rattle.etoken.specs.declared.token.Token.TheVariants as token
use Rattle.etoken.specs.declared.token.Sign.TheVariants as sign
use Rattle.kernele.specs.declared.tree.Pattern.{Pattern}
use Rattle.kernele.specs.declared.tree.Pattern.TheVariants as pattern
use Rattle.kernele.specs.Tree.{Name, Tree, null_tree, bool_tree, int_tree, text_tree, noun, define, variable, assign, call, list_tree, same_tree, define_list, hide, if_tree, while_tree, for_tree, try_tree, primitive, object_tree, escape_tree, send, when_tree, when_catch_tree, new_promise, Trees, none, and_then, Methods, no_methods, and_method}
use Rattle.kernele.specs.Spelling.{needs_brackets, is_bare_receiver}
use Rattle.kernele.specs.declared.tree.Primitive.TheVariants as primitives
use Rattle.ereader_forms.specs.Forms.{snoc}
use Rattle.ereader_nodes.specs.Nodes.{method_tree}
use Rattle.ereader_grammar.specs.Grammar.{put_method, Pat, pat_name, pat_ignore, Pats, pats_one, pats_and, PatList, pat_list_none, pat_list_some, semicolons_none, Expr, expr_define, expr_define_list, expr_variable, expr_assign, expr_disjunction, Disjunction, disjunction_conjunction, conjunction_comparison, Sum, comparison_sum, comparison_two, sum_product, product_unary, unary_postfix, Postfix, postfix_primary, postfix_method, postfix_send, Primary, primary_int, primary_text, primary_true, primary_false, primary_null, primary_name, primary_list, primary_group, primary_hide, primary_if, primary_while, primary_for, primary_try, primary_throw, primary_escape, primary_object, primary_when, primary_when_catch, primary_promise, primary_broken, primary_state, method_plain, MethodList, methods_none, methods_and, conditional_else, condition, Braced, braced, Args, args_none, args_some, Items, items_one, items_and, Sequence, sequence_one, sequence_and, Block, block_empty, block_items, Program}
use Rattle.ereader_grammar.specs.Written.{led_by, between, bracketed, bound, bound_in, in_braces, truth_word, written, written_parts, written_items, written_methods, program_tokens}

-- trees put at the end, one after another
abbrev extend : Trees → Trees → Trees
extend us none = us
extend us (and_then t ts) = extend (snoc us t) ts

extend-first : (u : Tree) (us ts : Trees) → extend (and_then u us) ts ≡ and_then u (extend us ts)
extend-first u us none = refl
extend-first u us (and_then t ts) = extend-first u (snoc us t) ts

extend-none : (ts : Trees) → extend none ts ≡ ts
extend-none none = refl
extend-none (and_then t ts) = extend-first t none ts ∙ ap (and_then t) (extend-none ts)

-- all but the first, put behind the first
extend-one : (t : Tree) (ts : Trees) → extend (and_then t none) ts ≡ and_then t ts
extend-one t ts = extend-first t none ts ∙ ap (and_then t) (extend-none ts)

-- methods put at the end, one after another
abbrev extend_methods : Methods → Methods → Methods
extend_methods ms no_methods = ms
extend_methods ms (and_method verb ps body rest) = extend_methods (put_method ms (method_tree verb ps body)) rest

extend_methods-first : (verb : Name) (ps : List Pattern) (body : Trees) (ms rest : Methods) → extend_methods (and_method verb ps body ms) rest ≡ and_method verb ps body (extend_methods ms rest)
extend_methods-first verb ps body ms no_methods = refl
extend_methods-first verb ps body ms (and_method v qs b rest) = extend_methods-first verb ps body (put_method ms (method_tree v qs b)) rest

extend_methods-none : (ms : Methods) → extend_methods no_methods ms ≡ ms
extend_methods-none no_methods = refl
extend_methods-none (and_method verb ps body ms) = extend_methods-first verb ps body no_methods ms ∙ ap (and_method verb ps body) (extend_methods-none ms)

sum : {a r : List Token} {t : Tree} → Postfix a t r → Sum a t r
sum p = sum_product (product_unary (unary_postfix p))

disjunction : {a r : List Token} {t : Tree} → Postfix a t r → Disjunction a t r
disjunction p = disjunction_conjunction (conjunction_comparison (comparison_sum (sum p)))

bound_is : (p : Pattern) (r : List Token) → Pat (bound p ∷ r) p r
bound_is (pattern.Name x) r = pat_name
bound_is pattern.Ignore r = pat_ignore

-- further patterns of a list
pats_go_on : (ps qs : List Pattern) (a r : List Token) → Pats a qs (led_by (token.Sign sign.Comma) (map bound_in ps) r) → Pats a (qs ++ ps) r
pats_go_on [] qs a r h = subst (λ l. Pats a l r) (sym (append-nil qs)) h
pats_go_on (p ∷ ps) qs a r h = subst (λ l. Pats a l r) (append_assoc qs (p ∷ []) ps) (pats_go_on ps (qs ++ (p ∷ [])) a r (pats_and h (bound_is p _)))

pat_list_is : (ps : List Pattern) (r : List Token) → PatList (between (token.Sign sign.Comma) (map bound_in ps) r) ps r
pat_list_is [] r = pat_list_none
pat_list_is (p ∷ ps) r = pat_list_some (pats_go_on ps (p ∷ []) _ r (pats_one (bound_is p _)))

truth_is : (b : Bool) (r : List Token) → Primary (token.Word (truth_word b) ∷ r) (bool_tree b) r
truth_is true r = primary_true
truth_is false r = primary_false

-- what is written of t is read as t: as an item of a block, and as a part of another tree
abbrev Reads : Tree → Type 0
Reads t = (r : List Token) → Expr (written t r) t r × Postfix (bracketed (needs_brackets t) (written t) r) t r

-- what is written of the items ts goes on with a sequence, and is a block
abbrev ReadsItems : Trees → Type 0
ReadsItems ts =
    ((a r : List Token) (us : Trees) → Sequence a us (led_by (token.Sign sign.Semicolon) (written_items ts) r) → Sequence a (extend us ts) r)
    × ((r : List Token) → Block (between (token.Sign sign.Semicolon) (written_items ts) r) ts r)

-- what is written of the methods ms goes on with methods
abbrev ReadsMethods : Methods → Type 0
ReadsMethods ms = (a r : List Token) (ns : Methods) → MethodList a ns (written_methods ms r) → MethodList a (extend_methods ns ms) r

both : {a r : List Token} {t : Tree} → Postfix a t r → Expr a t r × Postfix a t r
both p = (expr_disjunction (disjunction p), p)

-- what is written of the parts ts goes on with arguments, and is arguments
abbrev ReadsAll : Trees → Type 0
ReadsAll ts =
    ((a r : List Token) (us : Trees) → Items a us (led_by (token.Sign sign.Comma) (written_parts ts) r) → Items a (extend us ts) r)
    × ((r : List Token) → Args (between (token.Sign sign.Comma) (written_parts ts) r) ts r)

defines : (p : Pattern) (e : Tree) → Reads e → (r : List Token) → Expr (written (define p e) r) (define p e) r
defines p e h r = expr_define (bound_is p _) (disjunction (h r).1)

varies : (x : Name) (e : Tree) → Reads e → (r : List Token) → Expr (written (variable x e) r) (variable x e) r
varies x e h r = expr_variable (disjunction (h r).1)

defines_list : (ps : List Pattern) (e : Tree) → Reads e → (r : List Token) → Expr (written (define_list ps e) r) (define_list ps e) r
defines_list ps e h r = expr_define_list (pat_list_is ps _) (disjunction (h r).1)

assigns : (x : Name) (e : Tree) → Reads e → (r : List Token) → Expr (written (assign x e) r) (assign x e) r
assigns x e h r = expr_assign (disjunction (h r).1)

-- in brackets
grouped : {a r : List Token} {t : Tree} → Expr a t (token.Sign sign.CloseRound ∷ r) → Postfix (token.Sign sign.OpenRound ∷ a) t r
grouped x = postfix_primary (primary_group x)

-- what is written of t is read as t, as a receiver
receives : (t : Tree) → Reads t → (r : List Token) → Postfix (bracketed (not (is_bare_receiver t)) (written t) r) t r
receives null_tree h r = (h r).1
receives (bool_tree b) h r = (h r).1
receives (int_tree z) h r = (h r).1
receives (text_tree s) h r = (h r).1
receives (noun x) h r = (h r).1
receives (define p e) h r = grouped (h (token.Sign sign.CloseRound ∷ r)).0
receives (variable x e) h r = grouped (h (token.Sign sign.CloseRound ∷ r)).0
receives (assign x e) h r = grouped (h (token.Sign sign.CloseRound ∷ r)).0
receives (call t verb ts) h r = (h r).1
receives (list_tree ts) h r = (h r).1
receives (same_tree t u) h r = (h r).1
receives (define_list ps e) h r = grouped (h (token.Sign sign.CloseRound ∷ r)).0
receives (hide body) h r = grouped (h (token.Sign sign.CloseRound ∷ r)).0
receives (if_tree c first second) h r = grouped (h (token.Sign sign.CloseRound ∷ r)).0
receives (while_tree c body) h r = grouped (h (token.Sign sign.CloseRound ∷ r)).0
receives (for_tree p e body) h r = grouped (h (token.Sign sign.CloseRound ∷ r)).0
receives (try_tree body p handler) h r = grouped (h (token.Sign sign.CloseRound ∷ r)).0
receives (primitive q e) h r = grouped (h (token.Sign sign.CloseRound ∷ r)).0
receives (object_tree p ms) h r = grouped (h (token.Sign sign.CloseRound ∷ r)).0
receives (escape_tree x body) h r = grouped (h (token.Sign sign.CloseRound ∷ r)).0
receives (send t verb ts) h r = (h r).1
receives (when_tree e body) h r = grouped (h (token.Sign sign.CloseRound ∷ r)).0
receives (when_catch_tree e body p handler) h r = grouped (h (token.Sign sign.CloseRound ∷ r)).0
receives new_promise h r = grouped (h (token.Sign sign.CloseRound ∷ r)).0

-- a block in its braces
braces : (ts : Trees) → ReadsItems ts → (r : List Token) → Braced (in_braces (written_items ts) r) ts r
braces ts h r = braced (h.1 (token.Sign sign.CloseCurly ∷ r))

-- all the methods of an object
members : (ms : Methods) → ReadsMethods ms → (r : List Token) → MethodList (written_methods ms r) ms r
members ms h r = subst (λ ns. MethodList (written_methods ms r) ns r) (extend_methods-none ms) (h (written_methods ms r) r no_methods methods_none)

mutual
  reads : (t : Tree) → Reads t
  reads null_tree = λ r. both (postfix_primary primary_null)
  reads (bool_tree b) = λ r. both (postfix_primary (truth_is b r))
  reads (int_tree z) = λ r. both (postfix_primary primary_int)
  reads (text_tree s) = λ r. both (postfix_primary primary_text)
  reads (noun x) = λ r. both (postfix_primary primary_name)
  reads (define p e) = λ r. (defines p e (reads e) r, postfix_primary (primary_group (defines p e (reads e) (token.Sign sign.CloseRound ∷ r))))
  reads (variable x e) = λ r. (varies x e (reads e) r, postfix_primary (primary_group (varies x e (reads e) (token.Sign sign.CloseRound ∷ r))))
  reads (assign x e) = λ r. (assigns x e (reads e) r, postfix_primary (primary_group (assigns x e (reads e) (token.Sign sign.CloseRound ∷ r))))
  reads (call t verb ts) = λ r. both (postfix_method (receives t (reads t) _) ((reads_all ts).1 (token.Sign sign.CloseRound ∷ r)))
  reads (list_tree ts) = λ r. both (postfix_primary (primary_list ((reads_all ts).1 (token.Sign sign.CloseSquare ∷ r))))
  reads (same_tree t u) = λ r. both (postfix_primary (primary_group (expr_disjunction (disjunction_conjunction (conjunction_comparison (comparison_two (sum (reads t _).1) refl (sum (reads u (token.Sign sign.CloseRound ∷ r)).1)))))))
  reads (define_list ps e) = λ r. (defines_list ps e (reads e) r, postfix_primary (primary_group (defines_list ps e (reads e) (token.Sign sign.CloseRound ∷ r))))
  reads (hide body) = λ r. both (postfix_primary (primary_hide ((reads_items body).1 (token.Sign sign.CloseCurly ∷ r))))
  reads (if_tree c first second) = λ r. both (postfix_primary (primary_if (conditional_else (condition (disjunction (reads c _).1)) (braces first (reads_items first) _) (braces second (reads_items second) r))))
  reads (while_tree c body) = λ r. both (postfix_primary (primary_while (condition (disjunction (reads c _).1)) (braces body (reads_items body) r)))
  reads (for_tree p e body) = λ r. both (postfix_primary (primary_for (bound_is p _) (disjunction (reads e _).1) (braces body (reads_items body) r)))
  reads (try_tree body p handler) = λ r. both (postfix_primary (primary_try (braces body (reads_items body) _) (bound_is p _) (braces handler (reads_items handler) r)))
  reads (primitive primitives.Throw e) = λ r. both (postfix_primary (primary_throw (condition (disjunction (reads e _).1))))
  reads (object_tree p ms) = λ r. both (postfix_primary (primary_object (bound_is p _) (members ms (reads_methods ms) (token.Sign sign.CloseCurly ∷ r))))
  reads (escape_tree x body) = λ r. both (postfix_primary (primary_escape (braces body (reads_items body) r)))
  reads (send t verb ts) = λ r. both (postfix_send (receives t (reads t) _) ((reads_all ts).1 (token.Sign sign.CloseRound ∷ r)))
  reads (when_tree e body) = λ r. both (postfix_primary (primary_when (condition (disjunction (reads e _).1)) (braces body (reads_items body) r)))
  reads (when_catch_tree e body p handler) = λ r.
      both (postfix_primary (primary_when_catch (condition (disjunction (reads e _).1)) (braces body (reads_items body) _) (bound_is p _) (braces handler (reads_items handler) r)))
  reads new_promise = λ r. both (postfix_primary primary_promise)
  reads (primitive primitives.BreakRef e) = λ r. both (postfix_primary (primary_broken (condition (disjunction (reads e _).1))))
  reads (primitive primitives.StateRef e) = λ r. both (postfix_primary (primary_state (condition (disjunction (reads e _).1))))

  reads_methods : (ms : Methods) → ReadsMethods ms
  reads_methods no_methods = λ a r ns s. s
  reads_methods (and_method verb ps body ms) = λ a r ns s.
      reads_methods ms a r (put_method ns (method_tree verb ps body)) (methods_and s (method_plain (pat_list_is ps _) (braces body (reads_items body) (written_methods ms r))))

  reads_all : (ts : Trees) → ReadsAll ts
  reads_all none = (λ a r us s. s, λ r. args_none)
  reads_all (and_then t ts) = (
    λ a r us s. (reads_all ts).0 a r (snoc us t) (items_and s (disjunction (reads t (led_by (token.Sign sign.Comma) (written_parts ts) r)).1)),
    λ r. args_some (subst (λ us. Items (between (token.Sign sign.Comma) (written_parts (and_then t ts)) r) us r) (extend-one t ts)
        ((reads_all ts).0 _ r (and_then t none) (items_one (disjunction (reads t (led_by (token.Sign sign.Comma) (written_parts ts) r)).1)))),
  )

  reads_items : (ts : Trees) → ReadsItems ts
  reads_items none = (λ a r us s. s, λ r. block_empty semicolons_none)
  reads_items (and_then t ts) = (
    λ a r us s. (reads_items ts).0 a r (snoc us t) (sequence_and s semicolons_none (reads t (led_by (token.Sign sign.Semicolon) (written_items ts) r)).0),
    λ r. block_items semicolons_none
        (subst (λ us. Sequence (between (token.Sign sign.Semicolon) (written_items (and_then t ts)) r) us r) (extend-one t ts)
        ((reads_items ts).0 _ r (and_then t none) (sequence_one (reads t (led_by (token.Sign sign.Semicolon) (written_items ts) r)).0)))
        semicolons_none,
  )

pub spelled : (ts : Trees) → Program (program_tokens ts) ts
spelled ts = (reads_items ts).1 []
