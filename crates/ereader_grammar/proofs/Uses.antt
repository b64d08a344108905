-- How much of the tokens a part uses up, and how it begins.
use Rattle.std.proofs.Common.{◌≡◌, ℕ, ◌<◌, ◌≤◌, List, [], ◌∷◌, length, Bool, true, false, cond, Option, Some, None, refl, sym, ap, ◌∙◌, arith}
use Rattle.std.proofs.lemmas.Bool.{false_from_ne_true}
use Rattle.etoken.specs.declared.token.Token.{Token}
use Rattle.etoken.specs.declared.token.Token.TheVariants as token
use Rattle.etoken.specs.declared.token.Reserved as words
use Rattle.etoken.specs.declared.token.Reserved.TheVariants as word
use Rattle.etoken.specs.declared.token.Sign as signs
use Rattle.etoken.specs.declared.token.Sign.TheVariants as sign
use Rattle.kernele.specs.declared.tree.Pattern.{Pattern}
use Rattle.kernele.specs.Tree.{Tree, Trees, Methods}
use Rattle.ereader_signs.specs.declared.operator.Operator.{Operator}
use Rattle.ereader_signs.specs.declared.operator.Prefix.{Prefix}
use Rattle.etoken.specs.declared.breaks.Bracket.{Bracket}
use Rattle.etoken.specs.declared.breaks.Bracket.TheVariants as bracket
use Rattle.ereader_nodes.specs.Nodes.{MethodTree}
use Rattle.ereader_signs.specs.Signs.{product_operator, sum_operator, comparison_operator, and_operator, or_operator, prefix_operator, link_of}
use Rattle.ereader_grammar.specs.Grammar.{Pat, pat_name, pat_ignore, Pats, pats_one, pats_and, PatList, pat_list_none, pat_list_some, Semicolons, semicolons_none, semicolons_more, Expr, expr_define, expr_define_list, expr_variable, expr_assign, expr_return, expr_return_null, expr_disjunction, Disjunction, disjunction_conjunction, disjunction_more, Conjunction, conjunction_comparison, conjunction_more, Comparison, comparison_sum, comparison_two, Sum, sum_product, sum_more, Product, product_unary, product_more, Unary, unary_postfix, unary_prefix, Postfix, postfix_primary, postfix_method, postfix_run, postfix_get, postfix_send, postfix_send_run, Primary, primary_int, primary_text, primary_true, primary_false, primary_null, primary_name, primary_list, primary_group, primary_hide, primary_if, primary_while, primary_for, primary_try, primary_throw, primary_escape, primary_object, primary_function, primary_when, primary_when_catch, primary_promise, primary_broken, primary_state, Method, method_to, method_plain, MethodList, methods_none, methods_and, Conditional, conditional_alone, conditional_else, conditional_else_if, Condition, condition, Braced, braced, Args, args_none, args_some, Items, items_one, items_and, Sequence, sequence_one, sequence_and, Block, block_empty, block_items}
use Rattle.ereader_grammar.specs.Reading.{sign_in, front, is_at_word, is_var_word, is_else_word, is_catch_word, is_return_word, is_method_word, begins, begins_word, begins_sign, is_bound, is_definition, is_assignment, is_semicolon, is_becomes, is_open, is_close, is_block_end}
use Rattle.ereader_grammar.proofs.Turns.{none_some}

pub less_pat : {a r : List Token} {p : Pattern} → Pat a p r → length r < length a
less_pat pat_name = omega arith
less_pat pat_ignore = omega arith

pub less_pats : {a r : List Token} {ps : List Pattern} → Pats a ps r → length r < length a
less_pats (pats_one p) = less_pat p
less_pats (pats_and s p) = omega (arith, less_pats s, less_pat p)

pub less_pat_list : {a r : List Token} {ps : List Pattern} → PatList a ps r → length r ≤ length a
less_pat_list pat_list_none = omega arith
less_pat_list (pat_list_some p) = omega (arith, less_pats p)

pub le_semicolons : {a r : List Token} → Semicolons a r → length r ≤ length a
le_semicolons semicolons_none = omega arith
le_semicolons (semicolons_more s) = omega (arith, le_semicolons s)

-- tokens are used up
mutual
  pub less_expr : {a r : List Token} {t : Tree} → Expr a t r → length r < length a
  less_expr (expr_define p x) = omega (arith, less_pat p, less_disjunction x)
  less_expr (expr_define_list p x) = omega (arith, less_pat_list p, less_disjunction x)
  less_expr (expr_variable x) = omega (arith, less_disjunction x)
  less_expr (expr_assign x) = omega (arith, less_disjunction x)
  less_expr (expr_return x) = omega (arith, less_disjunction x)
  less_expr expr_return_null = omega arith
  less_expr (expr_disjunction x) = less_disjunction x

  pub less_disjunction : {a r : List Token} {t : Tree} → Disjunction a t r → length r < length a
  less_disjunction (disjunction_conjunction x) = less_conjunction x
  less_disjunction (disjunction_more s e p) = omega (arith, less_disjunction s, less_conjunction p)

  pub less_conjunction : {a r : List Token} {t : Tree} → Conjunction a t r → length r < length a
  less_conjunction (conjunction_comparison x) = less_comparison x
  less_conjunction (conjunction_more s e p) = omega (arith, less_conjunction s, less_comparison p)

  pub less_comparison : {a r : List Token} {t : Tree} → Comparison a t r → length r < length a
  less_comparison (comparison_sum s) = less_sum s
  less_comparison (comparison_two s e p) = omega (arith, less_sum s, less_sum p)

  pub less_sum : {a r : List Token} {t : Tree} → Sum a t r → length r < length a
  less_sum (sum_product p) = less_product p
  less_sum (sum_more s e p) = omega (arith, less_sum s, less_product p)

  pub less_product : {a r : List Token} {t : Tree} → Product a t r → length r < length a
  less_product (product_unary p) = less_unary p
  less_product (product_more s e p) = omega (arith, less_product s, less_unary p)

  pub less_unary : {a r : List Token} {t : Tree} → Unary a t r → length r < length a
  less_unary (unary_postfix p) = less_postfix p
  less_unary (unary_prefix e p) = omega (arith, less_postfix p)

  pub less_postfix : {a r : List Token} {t : Tree} → Postfix a t r → length r < length a
  less_postfix (postfix_primary p) = less_primary p
  less_postfix (postfix_method s p) = omega (arith, less_postfix s, less_args p)
  less_postfix (postfix_run s p) = omega (arith, less_postfix s, less_args p)
  less_postfix (postfix_get s p) = omega (arith, less_postfix s, less_args p)
  less_postfix (postfix_send s p) = omega (arith, less_postfix s, less_args p)
  less_postfix (postfix_send_run s p) = omega (arith, less_postfix s, less_args p)

  pub less_primary : {a r : List Token} {t : Tree} → Primary a t r → length r < length a
  less_primary primary_int = omega arith
  less_primary primary_text = omega arith
  less_primary primary_true = omega arith
  less_primary primary_false = omega arith
  less_primary primary_null = omega arith
  less_primary primary_name = omega arith
  less_primary (primary_list x) = omega (arith, less_args x)
  less_primary (primary_group x) = omega (arith, less_expr x)
  less_primary (primary_hide x) = omega (arith, less_block x)
  less_primary (primary_if x) = omega (arith, less_conditional x)
  less_primary (primary_while x y) = omega (arith, less_condition x, less_braced y)
  less_primary (primary_for p x y) = omega (arith, less_pat p, less_disjunction x, less_braced y)
  less_primary (primary_try x p y) = omega (arith, less_braced x, less_pat p, less_braced y)
  less_primary (primary_throw x) = omega (arith, less_condition x)
  less_primary (primary_escape x) = omega (arith, less_braced x)
  less_primary (primary_object p x) = omega (arith, less_pat p, less_methods x)
  less_primary (primary_function p q x) = omega (arith, less_pat p, less_pat_list q, less_braced x)
  less_primary (primary_when x y) = omega (arith, less_condition x, less_braced y)
  less_primary (primary_when_catch x y p z) = omega (arith, less_condition x, less_braced y, less_pat p, less_braced z)
  less_primary primary_promise = omega arith
  less_primary (primary_broken x) = omega (arith, less_condition x)
  less_primary (primary_state x) = omega (arith, less_condition x)

  pub less_method : {a r : List Token} {m : MethodTree} → Method a m r → length r < length a
  less_method (method_to p x) = omega (arith, less_pat_list p, less_braced x)
  less_method (method_plain p x) = omega (arith, less_pat_list p, less_braced x)

  pub less_methods : {a r : List Token} {ms : Methods} → MethodList a ms r → length r ≤ length a
  less_methods methods_none = omega arith
  less_methods (methods_and s x) = omega (arith, less_methods s, less_method x)

  pub less_conditional : {a r : List Token} {t : Tree} → Conditional a t r → length r < length a
  less_conditional (conditional_alone x y) = omega (arith, less_condition x, less_braced y)
  less_conditional (conditional_else x y z) = omega (arith, less_condition x, less_braced y, less_braced z)
  less_conditional (conditional_else_if x y z) = omega (arith, less_condition x, less_braced y, less_conditional z)

  pub less_condition : {a r : List Token} {t : Tree} → Condition a t r → length r < length a
  less_condition (condition x) = omega (arith, less_disjunction x)

  pub less_braced : {a r : List Token} {ts : Trees} → Braced a ts r → length r < length a
  less_braced (braced x) = omega (arith, less_block x)

  pub less_args : {a r : List Token} {ts : Trees} → Args a ts r → length r ≤ length a
  less_args args_none = omega arith
  less_args (args_some x) = omega (arith, less_items x)

  pub less_items : {a r : List Token} {ts : Trees} → Items a ts r → length r < length a
  less_items (items_one x) = less_disjunction x
  less_items (items_and s x) = omega (arith, less_items s, less_disjunction x)

  pub less_sequence : {a r : List Token} {ts : Trees} → Sequence a ts r → length r < length a
  less_sequence (sequence_one x) = less_expr x
  less_sequence (sequence_and s p x) = omega (arith, less_sequence s, le_semicolons p, less_expr x)

  pub less_block : {a r : List Token} {ts : Trees} → Block a ts r → length r ≤ length a
  less_block (block_empty s) = le_semicolons s
  less_block (block_items s x e) = omega (arith, le_semicolons s, less_sequence x, le_semicolons e)

-- how tightly a sign binds to what is before it
abbrev pub sign_strength : signs.Sign → ℕ
sign_strength sign.Dot = 6
sign_strength sign.OpenRound = 6
sign_strength sign.OpenSquare = 6
sign_strength sign.SendTo = 6
sign_strength sign.Times = 5
sign_strength sign.Divide = 5
sign_strength sign.Plus = 4
sign_strength sign.Minus = 4
sign_strength sign.Equal = 3
sign_strength sign.NotEqual = 3
sign_strength sign.Less = 3
sign_strength sign.AtMost = 3
sign_strength sign.More = 3
sign_strength sign.AtLeast = 3
sign_strength sign.And = 2
sign_strength sign.Or = 1
sign_strength sign.Becomes = 1
sign_strength _ = 0

-- `else` and `catch` bind most tightly
abbrev pub word_strength : words.Reserved → ℕ
word_strength word.Else = 7
word_strength word.Catch = 7
word_strength _ = 0

abbrev pub strength : List Token → ℕ
strength [] = 0
strength (token.Sign s ∷ a) = sign_strength s
strength (token.Word w ∷ a) = word_strength w
strength (_ ∷ a) = 0

-- nothing that binds so tightly is in front
abbrev pub Below : ℕ → List Token → Type 0
Below n a = strength a < n

pub product_none : (s : signs.Sign) → sign_strength s < 5 → product_operator s ≡ None
product_none sign.Times h = absurd (omega (arith, h))
product_none sign.Divide h = absurd (omega (arith, h))
product_none _ h = refl

pub sum_none : (s : signs.Sign) → sign_strength s < 4 → sum_operator s ≡ None
sum_none sign.Plus h = absurd (omega (arith, h))
sum_none sign.Minus h = absurd (omega (arith, h))
sum_none _ h = refl

pub comparison_none : (s : signs.Sign) → sign_strength s < 3 → comparison_operator s ≡ None
comparison_none sign.Equal h = absurd (omega (arith, h))
comparison_none sign.NotEqual h = absurd (omega (arith, h))
comparison_none sign.Less h = absurd (omega (arith, h))
comparison_none sign.AtMost h = absurd (omega (arith, h))
comparison_none sign.More h = absurd (omega (arith, h))
comparison_none sign.AtLeast h = absurd (omega (arith, h))
comparison_none _ h = refl

pub and_none : (s : signs.Sign) → sign_strength s < 2 → and_operator s ≡ None
and_none sign.And h = absurd (omega (arith, h))
and_none _ h = refl

pub or_none : (s : signs.Sign) → sign_strength s < 1 → or_operator s ≡ None
or_none sign.Or h = absurd (omega (arith, h))
or_none _ h = refl

pub link_none : (s : signs.Sign) → sign_strength s < 6 → link_of s ≡ None
link_none sign.Dot h = absurd (omega (arith, h))
link_none sign.OpenRound h = absurd (omega (arith, h))
link_none sign.OpenSquare h = absurd (omega (arith, h))
link_none sign.SendTo h = absurd (omega (arith, h))
link_none _ h = refl

-- signs that bind more loosely are not what is looked for
pub front_none : {A : Type 0} (of : signs.Sign → Option A) (n : ℕ) → ((s : signs.Sign) → sign_strength s < n → of s ≡ None) → (a : List Token) → Below n a → front of a ≡ None
front_none of n h [] b = refl
front_none of n h (token.Sign s ∷ a) b = h s b
front_none of n h (_ ∷ a) b = refl

no_else_word : (w : words.Reserved) → word_strength w < 7 → is_else_word w ≡ false
no_else_word word.Else h = absurd (omega (arith, h))
no_else_word _ h = refl

pub no_else : (a : List Token) → Below 7 a → is_at_word is_else_word a ≡ false
no_else [] b = refl
no_else (token.Word w ∷ a) b = no_else_word w b
no_else (_ ∷ a) b = refl

no_catch_word : (w : words.Reserved) → word_strength w < 7 → is_catch_word w ≡ false
no_catch_word word.Catch h = absurd (omega (arith, h))
no_catch_word _ h = refl

pub no_catch : (a : List Token) → Below 7 a → is_at_word is_catch_word a ≡ false
no_catch [] b = refl
no_catch (token.Word w ∷ a) b = no_catch_word w b
no_catch (_ ∷ a) b = refl

pub product_strength : (s : signs.Sign) {o : Operator} → product_operator s ≡ Some o → sign_strength s < 6
product_strength sign.Times e = omega arith
product_strength sign.Divide e = omega arith
product_strength _ e = absurd (cc)

pub sum_strength : (s : signs.Sign) {o : Operator} → sum_operator s ≡ Some o → sign_strength s < 5
sum_strength sign.Plus e = omega arith
sum_strength sign.Minus e = omega arith
sum_strength _ e = absurd (cc)

pub comparison_strength : (s : signs.Sign) {o : Operator} → comparison_operator s ≡ Some o → sign_strength s < 4
comparison_strength sign.Equal e = omega arith
comparison_strength sign.NotEqual e = omega arith
comparison_strength sign.Less e = omega arith
comparison_strength sign.AtMost e = omega arith
comparison_strength sign.More e = omega arith
comparison_strength sign.AtLeast e = omega arith
comparison_strength _ e = absurd (cc)

pub and_strength : (s : signs.Sign) {o : Operator} → and_operator s ≡ Some o → sign_strength s < 3
and_strength sign.And e = omega arith
and_strength _ e = absurd (cc)

pub or_strength : (s : signs.Sign) {o : Operator} → or_operator s ≡ Some o → sign_strength s < 2
or_strength sign.Or e = omega arith
or_strength _ e = absurd (cc)

abbrev pub sign_start : signs.Sign → ℕ
sign_start sign.OpenRound = 2
sign_start sign.OpenSquare = 2
sign_start sign.OpenCurly = 2
sign_start sign.Not = 1
sign_start sign.Minus = 1
sign_start _ = 0

-- the definition of an object begins an expression, and no other definition does
abbrev pub word_start : words.Reserved → List Token → ℕ
word_start word.Def a = cond (is_bound a) 0 2
word_start word.True _ = 2
word_start word.False _ = 2
word_start word.Null _ = 2
word_start word.If _ = 2
word_start word.While _ = 2
word_start word.For _ = 2
word_start word.Try _ = 2
word_start word.Throw _ = 2
word_start word.Escape _ = 2
word_start word.When _ = 2
word_start word.Ref _ = 2
word_start _ _ = 0

-- 0: not with an expression's token; 1: with an operator before an operand; 2: with any other
abbrev pub start : List Token → ℕ
start [] = 0
start (token.Int z ∷ a) = 2
start (token.Text s ∷ a) = 2
start (token.Name x ∷ a) = 2
start (token.Word w ∷ a) = word_start w a
start (token.Sign s ∷ a) = sign_start s

no_prefix_sign : (s : signs.Sign) → sign_start s ≡ 2 → prefix_operator s ≡ None
no_prefix_sign sign.Not h = absurd (omega (arith, h))
no_prefix_sign sign.Minus h = absurd (omega (arith, h))
no_prefix_sign _ h = refl

pub no_prefix : (a : List Token) → start a ≡ 2 → front prefix_operator a ≡ None
no_prefix [] h = refl
no_prefix (token.Sign s ∷ a) h = no_prefix_sign s h
no_prefix (_ ∷ a) h = refl

no_close_sign : (b : Bracket) (s : signs.Sign) → 0 < sign_start s → is_close b (Some s) ≡ false
no_close_sign bracket.Round sign.CloseRound h = absurd (omega (arith, h))
no_close_sign bracket.Round _ h = refl
no_close_sign bracket.Square sign.CloseSquare h = absurd (omega (arith, h))
no_close_sign bracket.Square _ h = refl
no_close_sign bracket.Curly sign.CloseCurly h = absurd (omega (arith, h))
no_close_sign bracket.Curly _ h = refl

no_close_none : (b : Bracket) → is_close b None ≡ false
no_close_none bracket.Round = refl
no_close_none bracket.Square = refl
no_close_none bracket.Curly = refl

pub no_close : (b : Bracket) (a : List Token) → 0 < start a → is_close b (sign_in a) ≡ false
no_close b [] h = no_close_none b
no_close b (token.Sign s ∷ a) h = no_close_sign b s h
no_close b (_ ∷ a) h = no_close_none b

-- a word that is not in front, since it begins no expression
no_word_front : (is : words.Reserved → Bool) → ((w : words.Reserved) (a : List Token) → 0 < word_start w a → is w ≡ false) → (a : List Token) → 0 < start a → is_at_word is a ≡ false
no_word_front is never [] h = refl
no_word_front is never (token.Word w ∷ a) h = never w a h
no_word_front is never (_ ∷ a) h = refl

no_var_word : (w : words.Reserved) (a : List Token) → 0 < word_start w a → is_var_word w ≡ false
no_var_word word.Var a h = absurd (omega (arith, h))
no_var_word _ a h = refl

no_return_word : (w : words.Reserved) (a : List Token) → 0 < word_start w a → is_return_word w ≡ false
no_return_word word.Return a h = absurd (omega (arith, h))
no_return_word _ a h = refl

pub no_var : (a : List Token) → 0 < start a → is_at_word is_var_word a ≡ false
no_var = no_word_front is_var_word no_var_word

pub no_return : (a : List Token) → 0 < start a → is_at_word is_return_word a ≡ false
no_return = no_word_front is_return_word no_return_word

-- what is bound to no value
not_bound : (b : Bool) → 0 < cond b 0 2 → b ≡ false
not_bound true h = absurd (omega (arith, h))
not_bound false h = refl

no_def_word : (w : words.Reserved) (a : List Token) → 0 < word_start w a → is_definition (token.Word w ∷ a) ≡ false
no_def_word word.Def a h = not_bound (is_bound a) h
no_def_word _ a h = refl

pub no_def : (a : List Token) → 0 < start a → is_definition a ≡ false
no_def [] h = refl
no_def (token.Word w ∷ a) h = no_def_word w a h
no_def (_ ∷ a) h = refl

begins_at_word : (w : words.Reserved) (a : List Token) → 0 < word_start w a → begins_word w ≡ true
begins_at_word word.True a h = refl
begins_at_word word.False a h = refl
begins_at_word word.Null a h = refl
begins_at_word word.If a h = refl
begins_at_word word.While a h = refl
begins_at_word word.For a h = refl
begins_at_word word.Escape a h = refl
begins_at_word word.Try a h = refl
begins_at_word word.Throw a h = refl
begins_at_word word.Def a h = refl
begins_at_word word.When a h = refl
begins_at_word word.Ref a h = refl
begins_at_word _ a h = absurd (omega (arith, h))

begins_at_sign : (s : signs.Sign) → 0 < sign_start s → begins_sign s ≡ true
begins_at_sign sign.OpenRound h = refl
begins_at_sign sign.OpenSquare h = refl
begins_at_sign sign.OpenCurly h = refl
begins_at_sign sign.Not h = refl
begins_at_sign sign.Minus h = refl
begins_at_sign _ h = absurd (omega (arith, h))

-- an expression begins where one can
pub begins_start : (a : List Token) → 0 < start a → begins a ≡ true
begins_start [] h = absurd (omega (arith, h))
begins_start (token.Word w ∷ a) h = begins_at_word w a h
begins_start (token.Sign s ∷ a) h = begins_at_sign s h
begins_start (_ ∷ a) h = refl

no_semicolon_sign : (s : signs.Sign) → 0 < sign_start s → is_semicolon (Some s) ≡ false
no_semicolon_sign sign.Semicolon h = absurd (omega (arith, h))
no_semicolon_sign _ h = refl

no_semicolon : (a : List Token) → 0 < start a → is_semicolon (sign_in a) ≡ false
no_semicolon [] h = refl
no_semicolon (token.Sign s ∷ a) h = no_semicolon_sign s h
no_semicolon (_ ∷ a) h = refl

start_prefix : (s : signs.Sign) {o : Prefix} → prefix_operator s ≡ Some o → 0 < sign_start s
start_prefix sign.Not e = omega arith
start_prefix sign.Minus e = omega arith
start_prefix _ e = absurd (cc)

-- the definition of an object is in front
start_object : {a b : List Token} {p : Pattern} {s : signs.Sign} → Pat a p (token.Sign s ∷ b) → is_becomes (Some s) ≡ false → start (token.Word word.Def ∷ a) ≡ 2
start_object pat_name e = ap (λ o. cond o 0 2) e
start_object pat_ignore e = ap (λ o. cond o 0 2) e

start_primary : {a r : List Token} {t : Tree} → Primary a t r → start a ≡ 2
start_primary primary_int = refl
start_primary primary_text = refl
start_primary primary_true = refl
start_primary primary_false = refl
start_primary primary_null = refl
start_primary primary_name = refl
start_primary (primary_list x) = refl
start_primary (primary_group x) = refl
start_primary (primary_hide x) = refl
start_primary (primary_if x) = refl
start_primary (primary_while x y) = refl
start_primary (primary_for p x y) = refl
start_primary (primary_try x p y) = refl
start_primary (primary_throw x) = refl
start_primary (primary_escape x) = refl
start_primary (primary_object p x) = start_object p refl
start_primary (primary_function p q x) = start_object p refl
start_primary (primary_when x y) = refl
start_primary (primary_when_catch x y p z) = refl
start_primary primary_promise = refl
start_primary (primary_broken x) = refl
start_primary (primary_state x) = refl

pub start_postfix : {a r : List Token} {t : Tree} → Postfix a t r → start a ≡ 2
start_postfix (postfix_primary p) = start_primary p
start_postfix (postfix_method s p) = start_postfix s
start_postfix (postfix_run s p) = start_postfix s
start_postfix (postfix_get s p) = start_postfix s
start_postfix (postfix_send s p) = start_postfix s
start_postfix (postfix_send_run s p) = start_postfix s

start_unary : {a r : List Token} {t : Tree} → Unary a t r → 0 < start a
start_unary (unary_postfix p) = omega (arith, start_postfix p)
start_unary (unary_prefix {s = s} e p) = start_prefix s e

start_product : {a r : List Token} {t : Tree} → Product a t r → 0 < start a
start_product (product_unary p) = start_unary p
start_product (product_more s e p) = start_product s

start_sum : {a r : List Token} {t : Tree} → Sum a t r → 0 < start a
start_sum (sum_product p) = start_product p
start_sum (sum_more s e p) = start_sum s

start_comparison : {a r : List Token} {t : Tree} → Comparison a t r → 0 < start a
start_comparison (comparison_sum s) = start_sum s
start_comparison (comparison_two s e p) = start_sum s

start_conjunction : {a r : List Token} {t : Tree} → Conjunction a t r → 0 < start a
start_conjunction (conjunction_comparison x) = start_comparison x
start_conjunction (conjunction_more s e p) = start_conjunction s

pub start_disjunction : {a r : List Token} {t : Tree} → Disjunction a t r → 0 < start a
start_disjunction (disjunction_conjunction x) = start_conjunction x
start_disjunction (disjunction_more s e p) = start_disjunction s

pub start_items : {a r : List Token} {ts : Trees} → Items a ts r → 0 < start a
start_items (items_one x) = start_disjunction x
start_items (items_and s x) = start_items s

-- no operator is `:=`
no_becomes : {A : Type 0} (of : signs.Sign → Option A) (s : signs.Sign) {o : A} → of sign.Becomes ≡ None → of s ≡ Some o → is_becomes (Some s) ≡ false
no_becomes of sign.Becomes n e = absurd (none_some (sym n ∙ e))
no_becomes of _ n e = refl

true_false : {b : Bool} → b ≡ true → b ≡ false → ⊥
true_false e f = cc

-- behind a name with `:=` behind it, an expression goes no further
stops_primary : {a r : List Token} {t : Tree} → Primary a t r → is_assignment a ≡ true → is_becomes (sign_in r) ≡ true
stops_primary primary_int h = absurd (cc)
stops_primary primary_text h = absurd (cc)
stops_primary primary_true h = absurd (cc)
stops_primary primary_false h = absurd (cc)
stops_primary primary_null h = absurd (cc)
stops_primary primary_name h = h
stops_primary (primary_list x) h = absurd (cc)
stops_primary (primary_group x) h = absurd (cc)
stops_primary (primary_hide x) h = absurd (cc)
stops_primary (primary_if x) h = absurd (cc)
stops_primary (primary_while x y) h = absurd (cc)
stops_primary (primary_for p x y) h = absurd (cc)
stops_primary (primary_try x p y) h = absurd (cc)
stops_primary (primary_throw x) h = absurd (cc)
stops_primary (primary_escape x) h = absurd (cc)
stops_primary (primary_object p x) h = absurd (cc)
stops_primary (primary_function p q x) h = absurd (cc)
stops_primary (primary_when x y) h = absurd (cc)
stops_primary (primary_when_catch x y p z) h = absurd (cc)
stops_primary primary_promise h = absurd (cc)
stops_primary (primary_broken x) h = absurd (cc)
stops_primary (primary_state x) h = absurd (cc)

stops_postfix : {a r : List Token} {t : Tree} → Postfix a t r → is_assignment a ≡ true → is_becomes (sign_in r) ≡ true
stops_postfix (postfix_primary p) h = stops_primary p h
stops_postfix (postfix_method s p) h = absurd (true_false (stops_postfix s h) refl)
stops_postfix (postfix_run s p) h = absurd (true_false (stops_postfix s h) refl)
stops_postfix (postfix_get s p) h = absurd (true_false (stops_postfix s h) refl)
stops_postfix (postfix_send s p) h = absurd (true_false (stops_postfix s h) refl)
stops_postfix (postfix_send_run s p) h = absurd (true_false (stops_postfix s h) refl)

stops_unary : {a r : List Token} {t : Tree} → Unary a t r → is_assignment a ≡ true → is_becomes (sign_in r) ≡ true
stops_unary (unary_postfix p) h = stops_postfix p h
stops_unary (unary_prefix e p) h = absurd (cc)

stops_product : {a r : List Token} {t : Tree} → Product a t r → is_assignment a ≡ true → is_becomes (sign_in r) ≡ true
stops_product (product_unary p) h = stops_unary p h
stops_product (product_more {s = s} q e p) h = absurd (true_false (stops_product q h) (no_becomes product_operator s refl e))

stops_sum : {a r : List Token} {t : Tree} → Sum a t r → is_assignment a ≡ true → is_becomes (sign_in r) ≡ true
stops_sum (sum_product p) h = stops_product p h
stops_sum (sum_more {s = s} q e p) h = absurd (true_false (stops_sum q h) (no_becomes sum_operator s refl e))

stops_comparison : {a r : List Token} {t : Tree} → Comparison a t r → is_assignment a ≡ true → is_becomes (sign_in r) ≡ true
stops_comparison (comparison_sum s) h = stops_sum s h
stops_comparison (comparison_two {s = s} q e p) h = absurd (true_false (stops_sum q h) (no_becomes comparison_operator s refl e))

stops_conjunction : {a r : List Token} {t : Tree} → Conjunction a t r → is_assignment a ≡ true → is_becomes (sign_in r) ≡ true
stops_conjunction (conjunction_comparison x) h = stops_comparison x h
stops_conjunction (conjunction_more {s = s} q e p) h = absurd (true_false (stops_conjunction q h) (no_becomes and_operator s refl e))

stops_disjunction : {a r : List Token} {t : Tree} → Disjunction a t r → is_assignment a ≡ true → is_becomes (sign_in r) ≡ true
stops_disjunction (disjunction_conjunction x) h = stops_conjunction x h
stops_disjunction (disjunction_more {s = s} q e p) h = absurd (true_false (stops_disjunction q h) (no_becomes or_operator s refl e))

becomes_sign : (s : signs.Sign) → is_becomes (Some s) ≡ true → sign_strength s ≡ 1
becomes_sign sign.Becomes e = refl
becomes_sign _ e = absurd (cc)

becomes_strength : (a : List Token) → is_becomes (sign_in a) ≡ true → strength a ≡ 1
becomes_strength [] e = absurd (cc)
becomes_strength (token.Sign s ∷ a) e = becomes_sign s e
becomes_strength (_ ∷ a) e = absurd (cc)

-- an expression with no `:=` behind it is no assignment
pub no_assignment : {a r : List Token} {t : Tree} → Disjunction a t r → Below 1 r → is_assignment a ≡ false
no_assignment {a = a} {r = r} x b = false_from_ne_true (is_assignment a) (λ h. absurd (omega (arith, b, becomes_strength r (stops_disjunction x h))))

-- an expression begins with no semicolon
pub expr_begins : {a r : List Token} {t : Tree} → Expr a t r → is_semicolon (sign_in a) ≡ false
expr_begins (expr_define p x) = refl
expr_begins (expr_define_list p x) = refl
expr_begins (expr_variable x) = refl
expr_begins (expr_assign x) = refl
expr_begins (expr_return x) = refl
expr_begins expr_return_null = refl
expr_begins (expr_disjunction {a = a} x) = no_semicolon a (start_disjunction x)

pub sequence_begins : {a r : List Token} {ts : Trees} → Sequence a ts r → is_semicolon (sign_in a) ≡ false
sequence_begins (sequence_one x) = expr_begins x
sequence_begins (sequence_and s p x) = sequence_begins s

not_end : (a : List Token) → 0 < start a → is_block_end a ≡ false
not_end [] h = absurd (omega (arith, h))
not_end (x ∷ a) h = no_close bracket.Curly (x ∷ a) h

-- nor does a block end before one
pub expr_goes : {a r : List Token} {t : Tree} → Expr a t r → is_block_end a ≡ false
expr_goes (expr_define p x) = refl
expr_goes (expr_define_list p x) = refl
expr_goes (expr_variable x) = refl
expr_goes (expr_assign x) = refl
expr_goes (expr_return x) = refl
expr_goes expr_return_null = refl
expr_goes (expr_disjunction {a = a} x) = not_end a (start_disjunction x)

-- a pattern is not one in brackets
pub pat_begins : {a r : List Token} {p : Pattern} → Pat a p r → is_open bracket.Square (sign_in a) ≡ false
pat_begins pat_name = refl
pat_begins pat_ignore = refl

closes_nothing : (b : Bracket) → is_close b (Some sign.Underscore) ≡ false
closes_nothing bracket.Round = refl
closes_nothing bracket.Square = refl
closes_nothing bracket.Curly = refl

no_bracket_close : (b : Bracket) {a r : List Token} {p : Pattern} → Pat a p r → is_close b (sign_in a) ≡ false
no_bracket_close b pat_name = no_close_none b
no_bracket_close b pat_ignore = closes_nothing b

-- nor does a list of patterns end before one
pub pats_begin : (b : Bracket) {a r : List Token} {ps : List Pattern} → Pats a ps r → is_close b (sign_in a) ≡ false
pats_begin b (pats_one p) = no_bracket_close b p
pats_begin b (pats_and s p) = pats_begin b s

-- a block in braces does not begin with `if`
pub braced_begins : {a r : List Token} {ts : Trees} → Braced a ts r → (is : words.Reserved → Bool) → is_at_word is a ≡ false
braced_begins (braced x) is = refl

-- a method begins with `to` or `method`
pub method_begins : {a r : List Token} {m : MethodTree} → Method a m r → is_at_word is_method_word a ≡ true
method_begins (method_to p x) = refl
method_begins (method_plain p x) = refl
