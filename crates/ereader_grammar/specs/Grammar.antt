-- The grammar: which trees tokens spell.
use Rattle.std.specs.Prelude.{◌≡◌, ℤ, true, false, List, [], ◌∷◌, ◌++◌, Some, codes}
use Rattle.etoken.specs.declared.token.Token.{Token}
use Rattle.etoken.specs.declared.token.Token.TheVariants as token
use Rattle.etoken.specs.declared.token.Reserved.TheVariants as word
use Rattle.etoken.specs.declared.token.Sign as signs
use Rattle.etoken.specs.declared.token.Sign.TheVariants as sign
use Rattle.kernele.specs.declared.tree.Pattern.{Pattern}
use Rattle.kernele.specs.declared.tree.Pattern.TheVariants as pattern
use Rattle.kernele.specs.Tree.{Name, Tree, null_tree, bool_tree, int_tree, text_tree, noun, define, variable, assign, call, list_tree, define_list, hide, if_tree, while_tree, for_tree, try_tree, primitive, object_tree, escape_tree, send, when_tree, when_catch_tree, new_promise, Trees, none, and_then, Methods, no_methods, and_method}
use Rattle.kernele.specs.declared.tree.Primitive.TheVariants as primitives
use Rattle.ereader_signs.specs.declared.operator.Operator.{Operator}
use Rattle.ereader_signs.specs.declared.operator.Prefix.{Prefix}
use Rattle.ereader_signs.specs.Signs.{product_operator, sum_operator, comparison_operator, and_operator, or_operator, prefix_operator}
use Rattle.ereader_forms.specs.Forms.{alone, joined, prefix_verb, snoc, return_tree, returning, function_tree}
use Rattle.ereader_nodes.specs.Nodes.{MethodTree, method_tree}

-- the tokens that rules name
abbrev pub dot : Token
dot = token.Sign sign.Dot

abbrev pub comma : Token
comma = token.Sign sign.Comma

abbrev pub semicolon : Token
semicolon = token.Sign sign.Semicolon

abbrev pub becomes : Token
becomes = token.Sign sign.Becomes

abbrev pub open_round : Token
open_round = token.Sign sign.OpenRound

abbrev pub close_round : Token
close_round = token.Sign sign.CloseRound

abbrev pub open_square : Token
open_square = token.Sign sign.OpenSquare

abbrev pub close_square : Token
close_square = token.Sign sign.CloseSquare

abbrev pub open_curly : Token
open_curly = token.Sign sign.OpenCurly

abbrev pub close_curly : Token
close_curly = token.Sign sign.CloseCurly

abbrev pub send_to : Token
send_to = token.Sign sign.SendTo

abbrev pub arrow : Token
arrow = token.Sign sign.Arrow

abbrev pub underscore : Token
underscore = token.Sign sign.Underscore

-- one method more at the end
abbrev pub put_method : Methods → MethodTree → Methods
put_method no_methods (method_tree verb ps body) = and_method verb ps body no_methods
put_method (and_method v qs b ms) m = and_method v qs b (put_method ms m)

-- what a definition binds
pub data Pat : List Token → Pattern → List Token → Type 0 where
  pat_name : {r : List Token} {x : Name} → Pat (token.Name x ∷ r) (pattern.Name x) r
  pat_ignore : {r : List Token} → Pat (underscore ∷ r) pattern.Ignore r

-- one or more, with commas between them
pub data Pats : List Token → List Pattern → List Token → Type 0 where
  pats_one : {a r : List Token} {p : Pattern} → Pat a p r → Pats a (p ∷ []) r
  pats_and : {a b r : List Token} {p : Pattern} {ps : List Pattern} → Pats a ps (comma ∷ b) → Pat b p r → Pats a (ps ++ (p ∷ [])) r

-- between brackets
pub data PatList : List Token → List Pattern → List Token → Type 0 where
  pat_list_none : {r : List Token} → PatList r [] r
  pat_list_some : {a r : List Token} {ps : List Pattern} → Pats a ps r → PatList a ps r

-- any number of semicolons
pub data Semicolons : List Token → List Token → Type 0 where
  semicolons_none : {r : List Token} → Semicolons r r
  semicolons_more : {a r : List Token} → Semicolons a r → Semicolons (semicolon ∷ a) r

-- Sum a t r: the tokens a begin with a sum of tree t, and r is after it; the same with every other part
mutual
  -- an item of a block
  pub data Expr : List Token → Tree → List Token → Type 0 where
    expr_define : {a b r : List Token} {p : Pattern} {t : Tree}
        → Pat a p (becomes ∷ b) → Disjunction b t r → Expr (token.Word word.Def ∷ a) (define p t) r
    expr_define_list : {a b r : List Token} {ps : List Pattern} {t : Tree}
        → PatList a ps (close_square ∷ becomes ∷ b) → Disjunction b t r → Expr (token.Word word.Def ∷ open_square ∷ a) (define_list ps t) r
    expr_variable : {a r : List Token} {x : Name} {t : Tree}
        → Disjunction a t r → Expr (token.Word word.Var ∷ token.Name x ∷ becomes ∷ a) (variable x t) r
    expr_assign : {a r : List Token} {x : Name} {t : Tree}
        → Disjunction a t r → Expr (token.Name x ∷ becomes ∷ a) (assign x t) r
    expr_return : {a r : List Token} {t : Tree} → Disjunction a t r → Expr (token.Word word.Return ∷ a) (return_tree t) r
    expr_return_null : {r : List Token} → Expr (token.Word word.Return ∷ r) (return_tree null_tree) r
    expr_disjunction : {a r : List Token} {t : Tree} → Disjunction a t r → Expr a t r

  -- an expression that may stand in any place; associates to the left
  pub data Disjunction : List Token → Tree → List Token → Type 0 where
    disjunction_conjunction : {a r : List Token} {t : Tree} → Conjunction a t r → Disjunction a t r
    disjunction_more : {a b r : List Token} {t u : Tree} {s : signs.Sign} {o : Operator}
        → Disjunction a t (token.Sign s ∷ b) → or_operator s ≡ Some o → Conjunction b u r → Disjunction a (joined o t u) r

  -- associates to the left
  pub data Conjunction : List Token → Tree → List Token → Type 0 where
    conjunction_comparison : {a r : List Token} {t : Tree} → Comparison a t r → Conjunction a t r
    conjunction_more : {a b r : List Token} {t u : Tree} {s : signs.Sign} {o : Operator}
        → Conjunction a t (token.Sign s ∷ b) → and_operator s ≡ Some o → Comparison b u r → Conjunction a (joined o t u) r

  -- does not associate
  pub data Comparison : List Token → Tree → List Token → Type 0 where
    comparison_sum : {a r : List Token} {t : Tree} → Sum a t r → Comparison a t r
    comparison_two : {a b r : List Token} {t u : Tree} {s : signs.Sign} {o : Operator}
        → Sum a t (token.Sign s ∷ b) → comparison_operator s ≡ Some o → Sum b u r → Comparison a (joined o t u) r

  -- associates to the left
  pub data Sum : List Token → Tree → List Token → Type 0 where
    sum_product : {a r : List Token} {t : Tree} → Product a t r → Sum a t r
    sum_more : {a b r : List Token} {t u : Tree} {s : signs.Sign} {o : Operator}
        → Sum a t (token.Sign s ∷ b) → sum_operator s ≡ Some o → Product b u r → Sum a (joined o t u) r

  -- associates to the left
  pub data Product : List Token → Tree → List Token → Type 0 where
    product_unary : {a r : List Token} {t : Tree} → Unary a t r → Product a t r
    product_more : {a b r : List Token} {t u : Tree} {s : signs.Sign} {o : Operator}
        → Product a t (token.Sign s ∷ b) → product_operator s ≡ Some o → Unary b u r → Product a (joined o t u) r

  pub data Unary : List Token → Tree → List Token → Type 0 where
    unary_postfix : {a r : List Token} {t : Tree} → Postfix a t r → Unary a t r
    unary_prefix : {a r : List Token} {t : Tree} {s : signs.Sign} {o : Prefix}
        → prefix_operator s ≡ Some o → Postfix a t r → Unary (token.Sign s ∷ a) (call t (prefix_verb o) none) r

  -- calls of what stands before them, and messages to it
  pub data Postfix : List Token → Tree → List Token → Type 0 where
    postfix_primary : {a r : List Token} {t : Tree} → Primary a t r → Postfix a t r
    postfix_method : {a b r : List Token} {t : Tree} {verb : Name} {ts : Trees}
        → Postfix a t (dot ∷ token.Name verb ∷ open_round ∷ b) → Args b ts (close_round ∷ r) → Postfix a (call t verb ts) r
    postfix_run : {a b r : List Token} {t : Tree} {ts : Trees}
        → Postfix a t (open_round ∷ b) → Args b ts (close_round ∷ r) → Postfix a (call t (codes "run") ts) r
    postfix_get : {a b r : List Token} {t : Tree} {ts : Trees}
        → Postfix a t (open_square ∷ b) → Args b ts (close_square ∷ r) → Postfix a (call t (codes "get") ts) r
    postfix_send : {a b r : List Token} {t : Tree} {verb : Name} {ts : Trees}
        → Postfix a t (send_to ∷ token.Name verb ∷ open_round ∷ b) → Args b ts (close_round ∷ r) → Postfix a (send t verb ts) r
    postfix_send_run : {a b r : List Token} {t : Tree} {ts : Trees}
        → Postfix a t (send_to ∷ open_round ∷ b) → Args b ts (close_round ∷ r) → Postfix a (send t (codes "run") ts) r

  pub data Primary : List Token → Tree → List Token → Type 0 where
    primary_int : {r : List Token} {z : ℤ} → Primary (token.Int z ∷ r) (int_tree z) r
    primary_text : {r : List Token} {s : Name} → Primary (token.Text s ∷ r) (text_tree s) r
    primary_true : {r : List Token} → Primary (token.Word word.True ∷ r) (bool_tree true) r
    primary_false : {r : List Token} → Primary (token.Word word.False ∷ r) (bool_tree false) r
    primary_null : {r : List Token} → Primary (token.Word word.Null ∷ r) null_tree r
    primary_name : {r : List Token} {x : Name} → Primary (token.Name x ∷ r) (noun x) r
    primary_list : {a r : List Token} {ts : Trees}
        → Args a ts (close_square ∷ r) → Primary (open_square ∷ a) (list_tree ts) r
    primary_group : {a r : List Token} {t : Tree}
        → Expr a t (close_round ∷ r) → Primary (open_round ∷ a) t r
    primary_hide : {a r : List Token} {ts : Trees}
        → Block a ts (close_curly ∷ r) → Primary (open_curly ∷ a) (hide ts) r
    primary_if : {a r : List Token} {t : Tree}
        → Conditional a t r → Primary (token.Word word.If ∷ a) t r
    primary_while : {a b r : List Token} {t : Tree} {ts : Trees}
        → Condition a t b → Braced b ts r → Primary (token.Word word.While ∷ a) (while_tree t ts) r
    primary_for : {a b c r : List Token} {p : Pattern} {t : Tree} {ts : Trees}
        → Pat a p (token.Word word.In ∷ b) → Disjunction b t c → Braced c ts r → Primary (token.Word word.For ∷ a) (for_tree p t ts) r
    primary_try : {a b c r : List Token} {p : Pattern} {ts us : Trees}
        → Braced a ts (token.Word word.Catch ∷ b) → Pat b p c → Braced c us r → Primary (token.Word word.Try ∷ a) (try_tree ts p us) r
    primary_throw : {a r : List Token} {t : Tree}
        → Condition a t r → Primary (token.Word word.Throw ∷ a) (primitive primitives.Throw t) r
    primary_escape : {a r : List Token} {x : Name} {ts : Trees}
        → Braced a ts r → Primary (token.Word word.Escape ∷ token.Name x ∷ a) (escape_tree x ts) r
    primary_object : {a b r : List Token} {p : Pattern} {ms : Methods}
        → Pat a p (open_curly ∷ b) → MethodList b ms (close_curly ∷ r) → Primary (token.Word word.Def ∷ a) (object_tree p ms) r
    primary_function : {a b c r : List Token} {p : Pattern} {ps : List Pattern} {ts : Trees}
        → Pat a p (open_round ∷ b) → PatList b ps (close_round ∷ c) → Braced c ts r → Primary (token.Word word.Def ∷ a) (function_tree p ps ts) r
    primary_when : {a b r : List Token} {t : Tree} {ts : Trees}
        → Condition a t (arrow ∷ b) → Braced b ts r → Primary (token.Word word.When ∷ a) (when_tree t ts) r
    primary_when_catch : {a b c d r : List Token} {p : Pattern} {t : Tree} {ts us : Trees}
        → Condition a t (arrow ∷ b) → Braced b ts (token.Word word.Catch ∷ c) → Pat c p d → Braced d us r
        → Primary (token.Word word.When ∷ a) (when_catch_tree t ts p us) r
    primary_promise : {r : List Token}
        → Primary (token.Word word.Ref ∷ dot ∷ token.Name (codes "promise") ∷ open_round ∷ close_round ∷ r) new_promise r
    primary_broken : {a r : List Token} {t : Tree}
        → Condition a t r → Primary (token.Word word.Ref ∷ dot ∷ token.Name (codes "broken") ∷ a) (primitive primitives.BreakRef t) r
    primary_state : {a r : List Token} {t : Tree}
        → Condition a t r → Primary (token.Word word.Ref ∷ dot ∷ token.Name (codes "state") ∷ a) (primitive primitives.StateRef t) r

  -- a method
  pub data Method : List Token → MethodTree → List Token → Type 0 where
    method_to : {a b r : List Token} {verb : Name} {ps : List Pattern} {ts : Trees}
        → PatList a ps (close_round ∷ b) → Braced b ts r
        → Method (token.Word word.To ∷ token.Name verb ∷ open_round ∷ a) (method_tree verb ps (returning ts)) r
    method_plain : {a b r : List Token} {verb : Name} {ps : List Pattern} {ts : Trees}
        → PatList a ps (close_round ∷ b) → Braced b ts r
        → Method (token.Word word.Method ∷ token.Name verb ∷ open_round ∷ a) (method_tree verb ps ts) r

  -- any number of methods, one behind the other
  pub data MethodList : List Token → Methods → List Token → Type 0 where
    methods_none : {r : List Token} → MethodList r no_methods r
    methods_and : {a b r : List Token} {ms : Methods} {m : MethodTree} → MethodList a ms b → Method b m r → MethodList a (put_method ms m) r

  -- what stands behind `if`
  pub data Conditional : List Token → Tree → List Token → Type 0 where
    conditional_alone : {a b r : List Token} {t : Tree} {ts : Trees}
        → Condition a t b → Braced b ts r → Conditional a (if_tree t ts none) r
    conditional_else : {a b c r : List Token} {t : Tree} {ts us : Trees}
        → Condition a t b → Braced b ts (token.Word word.Else ∷ c) → Braced c us r → Conditional a (if_tree t ts us) r
    conditional_else_if : {a b c r : List Token} {t u : Tree} {ts : Trees}
        → Condition a t b → Braced b ts (token.Word word.Else ∷ token.Word word.If ∷ c) → Conditional c u r
        → Conditional a (if_tree t ts (alone u)) r

  -- an expression in round brackets, which are part of what it stands in
  pub data Condition : List Token → Tree → List Token → Type 0 where
    condition : {a r : List Token} {t : Tree} → Disjunction a t (close_round ∷ r) → Condition (open_round ∷ a) t r

  -- a block in its braces
  pub data Braced : List Token → Trees → List Token → Type 0 where
    braced : {a r : List Token} {ts : Trees} → Block a ts (close_curly ∷ r) → Braced (open_curly ∷ a) ts r

  -- between brackets
  pub data Args : List Token → Trees → List Token → Type 0 where
    args_none : {r : List Token} → Args r none r
    args_some : {a r : List Token} {ts : Trees} → Items a ts r → Args a ts r

  -- one or more, with commas between them
  pub data Items : List Token → Trees → List Token → Type 0 where
    items_one : {a r : List Token} {t : Tree} → Disjunction a t r → Items a (and_then t none) r
    items_and : {a b r : List Token} {t : Tree} {ts : Trees}
        → Items a ts (comma ∷ b) → Disjunction b t r → Items a (snoc ts t) r

  -- one expression or more, with semicolons between them
  pub data Sequence : List Token → Trees → List Token → Type 0 where
    sequence_one : {a r : List Token} {t : Tree} → Expr a t r → Sequence a (and_then t none) r
    sequence_and : {a b c r : List Token} {t : Tree} {ts : Trees}
        → Sequence a ts (semicolon ∷ b) → Semicolons b c → Expr c t r → Sequence a (snoc ts t) r

  pub data Block : List Token → Trees → List Token → Type 0 where
    block_empty : {a r : List Token} → Semicolons a r → Block a none r
    block_items : {a b c r : List Token} {ts : Trees}
        → Semicolons a b → Sequence b ts c → Semicolons c r → Block a ts r

-- all the tokens
abbrev pub Program : List Token → Trees → Type 0
Program a ts = Block a ts []
