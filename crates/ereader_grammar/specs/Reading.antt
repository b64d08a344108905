-- What each part of the reader gives, as a function of the tokens: a tree and what is after it, or nothing.
use Rattle.std.specs.Prelude.{Bool, true, false, cond, ℕ, zero, suc, List, [], ◌∷◌, ◌++◌, length, Option, Some, None, codes}
use Rattle.etoken.specs.declared.token.Token.{Token}
use Rattle.etoken.specs.declared.token.Token.TheVariants as token
use Rattle.etoken.specs.declared.token.Reserved as words
use Rattle.etoken.specs.declared.token.Reserved.TheVariants as word
use Rattle.etoken.specs.declared.token.Sign as signs
use Rattle.etoken.specs.declared.token.Sign.TheVariants as sign
use Rattle.kernele.specs.declared.tree.Pattern.{Pattern}
use Rattle.kernele.specs.declared.tree.Pattern.TheVariants as pattern
use Rattle.kernele.specs.Tree.{Name, Tree, null_tree, int_tree, text_tree, noun, call, list_tree, hide, if_tree, while_tree, for_tree, try_tree, primitive, object_tree, escape_tree, when_tree, when_catch_tree, new_promise, Trees, none, and_then, Methods, no_methods}
use Rattle.kernele.specs.declared.tree.Primitive.TheVariants as primitives
use Rattle.ereader_signs.specs.declared.operator.Operator.{Operator}
use Rattle.ereader_signs.specs.declared.operator.CallSign.{CallSign}
use Rattle.etoken.specs.declared.breaks.Bracket.{Bracket}
use Rattle.etoken.specs.declared.breaks.Bracket.TheVariants as bracket
use Rattle.ereader_signs.specs.Signs.{product_operator, sum_operator, comparison_operator, and_operator, or_operator, prefix_operator, link_of, is_send, verb_of, closer}
use Rattle.ereader_forms.specs.Forms.{joined, prefix_verb, linked, snoc, alone, return_tree, function_tree, literal_of, ref_word_of, block_of}
use Rattle.ereader_forms.specs.declared.words.RefWord.{RefWord}
use Rattle.ereader_forms.specs.declared.words.RefWord.TheVariants as reference
use Rattle.ereader_nodes.specs.Nodes.{Place, definition, definitions, new_variable, assignment, given, MethodTree, method_tree}
use Rattle.ereader_grammar.specs.Grammar.{put_method}

-- what is read, and the tokens after it
abbrev pub Read : Type 0 → Type 0
Read A = Option (A × List Token)

infixl 10 ◌>>=◌
abbrev pub ◌>>=◌ : {A B : Type 0} → Option A → (A → Option B) → Option B
None >>= f = None
(Some x) >>= f = f x

abbrev pub or_else : {A B : Type 0} → Option A → B → (A → B) → B
or_else None y f = y
or_else (Some x) y f = f x

abbrev pub rest_of : List Token → List Token
rest_of [] = []
rest_of (x ∷ xs) = xs

abbrev pub is_empty : List Token → Bool
is_empty [] = true
is_empty (x ∷ xs) = false

-- the sign that a token is
abbrev pub sign_of : Token → Option signs.Sign
sign_of (token.Sign s) = Some s
sign_of _ = None

-- the sign in front
abbrev pub sign_in : List Token → Option signs.Sign
sign_in [] = None
sign_in (x ∷ xs) = sign_of x

-- what the sign in front stands for
abbrev pub front : {A : Type 0} → (signs.Sign → Option A) → List Token → Option A
front of a = or_else (sign_in a) None of

abbrev pub is_def_word : words.Reserved → Bool
is_def_word word.Def = true
is_def_word _ = false

abbrev pub is_var_word : words.Reserved → Bool
is_var_word word.Var = true
is_var_word _ = false

abbrev pub is_if_word : words.Reserved → Bool
is_if_word word.If = true
is_if_word _ = false

abbrev pub is_else_word : words.Reserved → Bool
is_else_word word.Else = true
is_else_word _ = false

abbrev pub is_in_word : words.Reserved → Bool
is_in_word word.In = true
is_in_word _ = false

abbrev pub is_catch_word : words.Reserved → Bool
is_catch_word word.Catch = true
is_catch_word _ = false

abbrev pub is_return_word : words.Reserved → Bool
is_return_word word.Return = true
is_return_word _ = false

abbrev pub is_to_word : words.Reserved → Bool
is_to_word word.To = true
is_to_word _ = false

-- a word that a method begins with
abbrev pub is_method_word : words.Reserved → Bool
is_method_word word.To = true
is_method_word word.Method = true
is_method_word _ = false

-- a word that an operand begins with
abbrev pub begins_word : words.Reserved → Bool
begins_word word.True = true
begins_word word.False = true
begins_word word.Null = true
begins_word word.If = true
begins_word word.While = true
begins_word word.For = true
begins_word word.Escape = true
begins_word word.Try = true
begins_word word.Throw = true
begins_word word.Def = true
begins_word word.When = true
begins_word word.Ref = true
begins_word _ = false

-- a sign that an operand begins with, or that stands before one
abbrev pub begins_sign : signs.Sign → Bool
begins_sign sign.OpenRound = true
begins_sign sign.OpenSquare = true
begins_sign sign.OpenCurly = true
begins_sign sign.Not = true
begins_sign sign.Minus = true
begins_sign _ = false

abbrev pub begins_token : Token → Bool
begins_token (token.Word w) = begins_word w
begins_token (token.Sign s) = begins_sign s
begins_token _ = true

-- an expression that may stand in any place can begin here
abbrev pub begins : List Token → Bool
begins [] = false
begins (t ∷ a) = begins_token t

-- a word that passes a test is in front
abbrev pub is_at_word : (words.Reserved → Bool) → List Token → Bool
is_at_word is [] = false
is_at_word is (token.Word w ∷ xs) = is w
is_at_word is (_ ∷ xs) = false

abbrev pub is_comma : Option signs.Sign → Bool
is_comma (Some sign.Comma) = true
is_comma _ = false

abbrev pub is_semicolon : Option signs.Sign → Bool
is_semicolon (Some sign.Semicolon) = true
is_semicolon _ = false

abbrev pub is_becomes : Option signs.Sign → Bool
is_becomes (Some sign.Becomes) = true
is_becomes _ = false

abbrev pub is_dot : Option signs.Sign → Bool
is_dot (Some sign.Dot) = true
is_dot _ = false

abbrev pub is_arrow : Option signs.Sign → Bool
is_arrow (Some sign.Arrow) = true
is_arrow _ = false

-- a name and the sign behind it are in front
abbrev pub is_assignment : List Token → Bool
is_assignment [] = false
is_assignment (token.Name x ∷ a) = is_becomes (sign_in a)
is_assignment (_ ∷ a) = false

abbrev pub is_open : Bracket → Option signs.Sign → Bool
is_open bracket.Round (Some sign.OpenRound) = true
is_open bracket.Square (Some sign.OpenSquare) = true
is_open bracket.Curly (Some sign.OpenCurly) = true
is_open _ _ = false

-- a list of patterns, or one and the sign for a value, is in front
abbrev pub is_bound : List Token → Bool
is_bound [] = false
is_bound (x ∷ a) = cond (is_open bracket.Square (sign_of x)) true (is_becomes (sign_in a))

-- a definition of what a value is given to is in front, and not one of an object
abbrev pub is_definition : List Token → Bool
is_definition a = cond (is_at_word is_def_word a) (is_bound (rest_of a)) false

abbrev pub is_close : Bracket → Option signs.Sign → Bool
is_close bracket.Round (Some sign.CloseRound) = true
is_close bracket.Square (Some sign.CloseSquare) = true
is_close bracket.Curly (Some sign.CloseCurly) = true
is_close _ _ = false

-- what may come again and again, at most n times: next is the next turn, if there is one
abbrev pub repeat : {A : Type 0} → (A → List Token → Option (Read A)) → ℕ → A → List Token → Read A
repeat next zero t a = Some (t, a)
repeat next (suc n) t a = or_else (next t a) (Some (t, a)) (λ turn. turn >>= λ x. repeat next n x.0 x.1)

-- past a token that has to be there
abbrev pub past : {A : Type 0} → (Option signs.Sign → Bool) → A × List Token → Read A
past is x = cond (is (sign_in x.1)) (Some (x.0, rest_of x.1)) None

-- past a word that has to be there
abbrev pub past_word : {A : Type 0} → (words.Reserved → Bool) → A × List Token → Read A
past_word is x = cond (is_at_word is x.1) (Some (x.0, rest_of x.1)) None

-- an operator and what is on its right; part reads an operand
abbrev pub operand_next : (signs.Sign → Option Operator) → (List Token → Read Tree) → Tree → List Token → Option (Read Tree)
operand_next of part t a = or_else (front of a) None (λ o. Some (part (rest_of a) >>= λ x. Some (joined o t x.0, x.1)))

-- operators and operands behind the first, joined from the left
abbrev pub operands_from : (signs.Sign → Option Operator) → (List Token → Read Tree) → Tree → List Token → Read Tree
operands_from of part t a = repeat (operand_next of part) (length a) t a

-- operands with operators between them
abbrev pub operands_at : (signs.Sign → Option Operator) → (List Token → Read Tree) → List Token → Read Tree
operands_at of part a = part a >>= λ x. operands_from of part x.0 x.1

-- a comma and what is behind it, put at the end
abbrev pub commas_next : {A B : Type 0} → (B → A → B) → (List Token → Read A) → B → List Token → Option (Read B)
commas_next push part xs a = cond (is_comma (sign_in a)) (Some (part (rest_of a) >>= λ x. Some (push xs x.0, x.1))) None

-- one or more, with commas between them
abbrev pub commas_at : {A B : Type 0} → (A → B) → (B → A → B) → (List Token → Read A) → List Token → Read B
commas_at first push part a = part a >>= λ x. repeat (commas_next push part) (length x.1) (first x.0) x.1

-- none or some, up to and past the closing bracket
abbrev pub closed_at : {B : Type 0} → B → (List Token → Read B) → Bracket → List Token → Read B
closed_at empty some close a = cond (is_close close (sign_in a)) (Some (empty, rest_of a)) (some a >>= past (is_close close))

abbrev pub pattern_at_sign : signs.Sign → List Token → Read Pattern
pattern_at_sign sign.Underscore a = Some (pattern.Ignore, a)
pattern_at_sign _ a = None

abbrev pub pattern_at : List Token → Read Pattern
pattern_at [] = None
pattern_at (token.Name x ∷ a) = Some (pattern.Name x, a)
pattern_at (token.Sign s ∷ a) = pattern_at_sign s a
pattern_at _ = None

-- one more at the end
abbrev pub push_pattern : List Pattern → Pattern → List Pattern
push_pattern ps p = ps ++ (p ∷ [])

-- one pattern or more
abbrev pub patterns_at : List Token → Read (List Pattern)
patterns_at = commas_at (λ p. p ∷ []) push_pattern pattern_at

-- a list of patterns, behind its opening bracket
abbrev pub pattern_list_at : Bracket → List Token → Read (List Pattern)
pattern_list_at = closed_at [] patterns_at

-- a pattern and the sign behind it
abbrev pub bound_at : List Token → Read Pattern
bound_at a = pattern_at a >>= past is_becomes

-- a list of patterns, behind its opening bracket, and the sign behind it
abbrev pub bound_list_at : List Token → Read (List Pattern)
bound_list_at a = pattern_list_at bracket.Square a >>= past is_becomes

abbrev pub name_at : List Token → Read Name
name_at [] = None
name_at (token.Name v ∷ a) = Some (v, a)
name_at _ = None

-- a name and the sign behind it
abbrev pub assigned_at : List Token → Read Name
assigned_at a = name_at a >>= past is_becomes

-- what a definition of one pattern binds
abbrev pub define_one_at : List Token → Read (Option Place)
define_one_at a = bound_at a >>= λ p. Some (Some (definition p.0), p.1)

-- what a definition of a list of patterns binds, behind its opening bracket
abbrev pub define_list_at : List Token → Read (Option Place)
define_list_at a = bound_list_at a >>= λ p. Some (Some (definitions p.0), p.1)

-- what a definition binds, behind its first word
abbrev pub define_at : List Token → Read (Option Place)
define_at a = cond (is_open bracket.Square (sign_in a)) (define_list_at (rest_of a)) (define_one_at a)

-- the name of a variable, behind its first word
abbrev pub variable_at : List Token → Read (Option Place)
variable_at a = assigned_at a >>= λ x. Some (Some (new_variable x.0), x.1)

-- the name that is assigned
abbrev pub assign_at : List Token → Read (Option Place)
assign_at a = assigned_at a >>= λ x. Some (Some (assignment x.0), x.1)

-- what the value behind it is given to, if there is a sign for it
abbrev pub target_at : List Token → Read (Option Place)
target_at a =
    cond (is_definition a) (define_at (rest_of a))
    (cond (is_at_word is_var_word a) (variable_at (rest_of a)) (cond (is_assignment a) (assign_at a) (Some (None, a))))

-- What reads a part behind at least one token of the whole: an expression that gives its value to no name, and what stands
-- behind `if`.
pub record Within : Type 0 where
  pub expression : List Token → Read Tree
  pub conditional : List Token → Read Tree

abbrev pub items_at : Within → List Token → Read Trees
items_at within = commas_at (λ t. and_then t none) snoc within.expression

-- up to and past the closing bracket
abbrev pub args_at : Within → Bracket → List Token → Read Trees
args_at within = closed_at none (items_at within)

-- a list, behind its opening bracket
abbrev pub list_at : Within → List Token → Read Tree
list_at within a = args_at within bracket.Square a >>= λ x. Some (list_tree x.0, x.1)

-- what stands behind `return`
abbrev pub return_at : Within → List Token → Read Tree
return_at within a = cond (begins a) (within.expression a >>= λ x. Some (return_tree x.0, x.1)) (Some (return_tree null_tree, a))

-- a value, and what it is given to, if it is given to anything
abbrev pub given_at : Within → List Token → Read Tree
given_at within a = target_at a >>= λ g. or_else g.0 (within.expression g.1) (λ t. within.expression g.1 >>= λ x. Some (given t x.0, x.1))

abbrev pub expr_at : Within → List Token → Read Tree
expr_at within a = cond (is_at_word is_return_word a) (return_at within (rest_of a)) (given_at within a)

-- an expression in brackets, behind the opening one
abbrev pub group_at : Within → List Token → Read Tree
group_at within a = expr_at within a >>= past (is_close bracket.Round)

abbrev pub skip_semicolons_sign : signs.Sign → List Token → List Token → List Token
skip_semicolons_sign sign.Semicolon a b = b
skip_semicolons_sign _ a b = a

abbrev pub skip_semicolons : List Token → List Token
skip_semicolons [] = []
skip_semicolons (token.Sign s ∷ a) = skip_semicolons_sign s (token.Sign s ∷ a) (skip_semicolons a)
skip_semicolons (x ∷ a) = x ∷ a

-- a block ends here: at the end, or before its closing brace
abbrev pub is_block_end : List Token → Bool
is_block_end a = cond (is_empty a) true (is_close bracket.Curly (sign_in a))

-- what is behind the semicolons that part an item of a block from the next, or the block's end
abbrev pub separator_at : List Token → Option (List Token)
separator_at a = cond (is_block_end a) (Some a) (cond (is_semicolon (sign_in a)) (Some (skip_semicolons a)) None)

abbrev pub separated : Trees → List Token → Read Trees
separated ts a = separator_at a >>= λ r. Some (ts, r)

abbrev pub block_next : Within → Trees → List Token → Option (Read Trees)
block_next within ts a = cond (is_block_end a) None (Some (expr_at within a >>= λ x. separated (snoc ts x.0) x.1))

abbrev pub block_at : Within → List Token → Read Trees
block_at within a = repeat (block_next within) (length a) none (skip_semicolons a)

-- a block and the brace behind it
abbrev pub block_past_at : Within → List Token → Read Trees
block_past_at within a = block_at within a >>= past (is_close bracket.Curly)

-- a block in its braces
abbrev pub braced_at : Within → List Token → Read Trees
braced_at within a = cond (is_open bracket.Curly (sign_in a)) (block_past_at within (rest_of a)) None

-- a hidden block, behind its opening brace
abbrev pub hide_at : Within → List Token → Read Tree
hide_at within a = block_past_at within a >>= λ b. Some (hide b.0, b.1)

-- an expression in round brackets
abbrev pub condition_at : Within → List Token → Read Tree
condition_at within a = cond (is_open bracket.Round (sign_in a)) (within.expression (rest_of a) >>= past (is_close bracket.Round)) None

-- what stands behind `else`
abbrev pub branch_at : Within → List Token → Read Trees
branch_at within a = cond (is_at_word is_if_word a) (within.conditional (rest_of a) >>= λ t. Some (alone t.0, t.1)) (braced_at within a)

-- the second block, if there is one
abbrev pub else_at : Within → List Token → Read Trees
else_at within a = cond (is_at_word is_else_word a) (branch_at within (rest_of a)) (Some (none, a))

-- what stands behind `if`
abbrev pub if_at : Within → List Token → Read Tree
if_at within a = condition_at within a >>= λ c. braced_at within c.1 >>= λ b. else_at within b.1 >>= λ d. Some (if_tree c.0 b.0 d.0, d.1)

-- what stands behind `while`
abbrev pub while_at : Within → List Token → Read Tree
while_at within a = condition_at within a >>= λ c. braced_at within c.1 >>= λ b. Some (while_tree c.0 b.0, b.1)

-- a pattern and the `in` behind it
abbrev pub each_at : List Token → Read Pattern
each_at a = pattern_at a >>= past_word is_in_word

-- what stands behind `for`
abbrev pub for_at : Within → List Token → Read Tree
for_at within a = each_at a >>= λ p. within.expression p.1 >>= λ e. braced_at within e.1 >>= λ b. Some (for_tree p.0 e.0 b.0, b.1)

-- a block and the `catch` behind it
abbrev pub tried_at : Within → List Token → Read Trees
tried_at within a = braced_at within a >>= past_word is_catch_word

-- what stands behind `try`
abbrev pub try_at : Within → List Token → Read Tree
try_at within a = tried_at within a >>= λ b. pattern_at b.1 >>= λ p. braced_at within p.1 >>= λ h. Some (try_tree b.0 p.0 h.0, h.1)

-- the value of a `when` and the arrow behind it
abbrev pub awaited_at : Within → List Token → Read Tree
awaited_at within a = condition_at within a >>= past is_arrow

-- the `catch` behind the block of a `when`, if there is one
abbrev pub when_from : Within → Tree → Trees → List Token → Read Tree
when_from within t ts a =
    cond (is_at_word is_catch_word a)
    (pattern_at (rest_of a) >>= λ p. braced_at within p.1 >>= λ h. Some (when_catch_tree t ts p.0 h.0, h.1))
    (Some (when_tree t ts, a))

-- what stands behind `when`
abbrev pub when_at : Within → List Token → Read Tree
when_at within a = awaited_at within a >>= λ e. braced_at within e.1 >>= λ b. when_from within e.0 b.0 b.1

-- a name with a meaning of its own behind `Ref.`
abbrev pub ref_name_at : List Token → Read RefWord
ref_name_at a = name_at a >>= λ x. ref_word_of x.0 >>= λ k. Some (k, x.1)

-- the `.` before it, and the name
abbrev pub ref_word_at : List Token → Read RefWord
ref_word_at a = cond (is_dot (sign_in a)) (ref_name_at (rest_of a)) None

-- round brackets with nothing in them
abbrev pub promise_at : List Token → Read Tree
promise_at a = cond (is_open bracket.Round (sign_in a)) (past (is_close bracket.Round) (new_promise, rest_of a)) None

-- what stands behind that name
abbrev pub ref_form_at : Within → RefWord → List Token → Read Tree
ref_form_at within reference.Promise a = promise_at a
ref_form_at within reference.Broken a = condition_at within a >>= λ e. Some (primitive primitives.BreakRef e.0, e.1)
ref_form_at within reference.State a = condition_at within a >>= λ e. Some (primitive primitives.StateRef e.0, e.1)

-- what stands behind `Ref`
abbrev pub ref_at : Within → List Token → Read Tree
ref_at within a = ref_word_at a >>= λ k. ref_form_at within k.0 k.1

-- what stands behind `throw`
abbrev pub throw_at : Within → List Token → Read Tree
throw_at within a = condition_at within a >>= λ e. Some (primitive primitives.Throw e.0, e.1)

-- what stands behind `escape`
abbrev pub escape_at : Within → List Token → Read Tree
escape_at within a = name_at a >>= λ x. braced_at within x.1 >>= λ b. Some (escape_tree x.0 b.0, b.1)

-- parameters and a block, behind the bracket that opens the parameters
abbrev pub function_at : Within → Pattern → List Token → Read Tree
function_at within p a = pattern_list_at bracket.Round a >>= λ ps. braced_at within ps.1 >>= λ b. Some (function_tree p ps.0 b.0, b.1)

-- a verb and the bracket behind it
abbrev pub method_verb_at : List Token → Read Name
method_verb_at a = name_at a >>= past (is_open bracket.Round)

-- a method, behind its first word
abbrev pub taking_at : Within → Bool → List Token → Read MethodTree
taking_at within returns a = method_verb_at a >>= λ v. pattern_list_at bracket.Round v.1 >>= λ ps. braced_at within ps.1 >>= λ b. Some (method_tree v.0 ps.0 (block_of returns b.0), b.1)

-- a method, where its first word is in front
abbrev pub method_at : Within → List Token → Read MethodTree
method_at within a = taking_at within (is_at_word is_to_word a) (rest_of a)

-- one method more, put at the end
abbrev pub methods_next : Within → Methods → List Token → Option (Read Methods)
methods_next within ms a = cond (is_at_word is_method_word a) (Some (method_at within a >>= λ m. Some (put_method ms m.0, m.1))) None

-- methods, one behind the other
abbrev pub methods_at : Within → List Token → Read Methods
methods_at within a = repeat (methods_next within) (length a) no_methods a

-- methods and the brace behind them
abbrev pub methods_past_at : Within → List Token → Read Methods
methods_past_at within a = methods_at within a >>= past (is_close bracket.Curly)

-- an object that p is bound to, behind its opening brace
abbrev pub members_at : Within → Pattern → List Token → Read Tree
members_at within p a = methods_past_at within a >>= λ ms. Some (object_tree p ms.0, ms.1)

-- what stands behind what an object is bound to
abbrev pub body_at : Within → Pattern → List Token → Read Tree
body_at within p a =
    cond (is_open bracket.Curly (sign_in a)) (members_at within p (rest_of a))
    (cond (is_open bracket.Round (sign_in a)) (function_at within p (rest_of a)) None)

-- what stands behind the `def` of an object
abbrev pub object_at : Within → List Token → Read Tree
object_at within a = pattern_at a >>= λ p. body_at within p.0 p.1

-- what begins with a word that is no literal, behind that word
abbrev pub control_at : Within → words.Reserved → List Token → Read Tree
control_at within word.If a = if_at within a
control_at within word.While a = while_at within a
control_at within word.For a = for_at within a
control_at within word.Try a = try_at within a
control_at within word.Throw a = throw_at within a
control_at within word.Escape a = escape_at within a
control_at within word.Def a = object_at within a
control_at within word.When a = when_at within a
control_at within word.Ref a = ref_at within a
control_at within _ a = None

abbrev pub word_at : Within → words.Reserved → List Token → Read Tree
word_at within w a = or_else (literal_of w) (control_at within w a) (λ t. Some (t, a))

abbrev pub bracket_at : Within → signs.Sign → List Token → Read Tree
bracket_at within sign.OpenRound a = group_at within a
bracket_at within sign.OpenSquare a = list_at within a
bracket_at within sign.OpenCurly a = hide_at within a
bracket_at within _ a = None

abbrev pub primary_at : Within → List Token → Read Tree
primary_at within [] = None
primary_at within (token.Int z ∷ a) = Some (int_tree z, a)
primary_at within (token.Text s ∷ a) = Some (text_tree s, a)
primary_at within (token.Name x ∷ a) = Some (noun x, a)
primary_at within (token.Word w ∷ a) = word_at within w a
primary_at within (token.Sign s ∷ a) = bracket_at within s a

-- the verb of a send, up to the arguments: where no name stands for it, `run`
abbrev pub send_verb_at : List Token → Read Name
send_verb_at a = cond (is_open bracket.Round (sign_in a)) (Some (codes "run", rest_of a)) (method_verb_at a)

-- that of a call
abbrev pub call_verb_at : CallSign → List Token → Read Name
call_verb_at l a = or_else (verb_of l) (method_verb_at a) (λ v. Some (v, a))

-- the verb, up to the arguments
abbrev pub verb_at : CallSign → List Token → Read Name
verb_at l a = cond (is_send l) (send_verb_at a) (call_verb_at l a)

-- a call of t or a message to it, behind what makes it one
abbrev pub linked_at : Within → CallSign → Tree → List Token → Read Tree
linked_at within l t a = verb_at l a >>= λ v. args_at within (closer l) v.1 >>= λ x. Some (linked l t v.0 x.0, x.1)

abbrev pub postfix_next : Within → Tree → List Token → Option (Read Tree)
postfix_next within t a = or_else (front link_of a) None (λ l. Some (linked_at within l t (rest_of a)))

abbrev pub postfix_from : Within → Tree → List Token → Read Tree
postfix_from within t a = repeat (postfix_next within) (length a) t a

abbrev pub postfix_at : Within → List Token → Read Tree
postfix_at within a = primary_at within a >>= λ x. postfix_from within x.0 x.1

abbrev pub unary_at : Within → List Token → Read Tree
unary_at within a = or_else (front prefix_operator a) (postfix_at within a) (λ o. postfix_at within (rest_of a) >>= λ x. Some (call x.0 (prefix_verb o) none, x.1))

abbrev pub product_at : Within → List Token → Read Tree
product_at within = operands_at product_operator (unary_at within)

abbrev pub sum_at : Within → List Token → Read Tree
sum_at within = operands_at sum_operator (product_at within)

-- an operator and the other sum, if they are behind t
abbrev pub comparison_from : Within → Tree → List Token → Read Tree
comparison_from within t a = or_else (front comparison_operator a) (Some (t, a)) (λ o. sum_at within (rest_of a) >>= λ y. Some (joined o t y.0, y.1))

abbrev pub comparison_at : Within → List Token → Read Tree
comparison_at within a = sum_at within a >>= λ x. comparison_from within x.0 x.1

abbrev pub conjunction_at : Within → List Token → Read Tree
conjunction_at within = operands_at and_operator (comparison_at within)

abbrev pub disjunction_at : Within → List Token → Read Tree
disjunction_at within = operands_at or_operator (conjunction_at within)

-- The same behind the first operand that has no operator between two operands: what binds more tightly goes first.
abbrev pub sums_from : Within → Tree → List Token → Read Tree
sums_from within t a = operands_from product_operator (unary_at within) t a >>= λ x. operands_from sum_operator (product_at within) x.0 x.1

abbrev pub comparisons_from : Within → Tree → List Token → Read Tree
comparisons_from within t a = sums_from within t a >>= λ x. comparison_from within x.0 x.1

abbrev pub conjunctions_from : Within → Tree → List Token → Read Tree
conjunctions_from within t a = comparisons_from within t a >>= λ x. operands_from and_operator (comparison_at within) x.0 x.1

abbrev pub disjunctions_from : Within → Tree → List Token → Read Tree
disjunctions_from within t a = conjunctions_from within t a >>= λ x. operands_from or_operator (conjunction_at within) x.0 x.1

-- where fewer than n tokens have to be gone past
unfoldable pub within_at : ℕ → Within
within_at zero = record { expression = λ a. None; conditional = λ a. None }
within_at (suc n) = record { expression = disjunction_at (within_at n); conditional = if_at (within_at n) }

-- nothing is left
abbrev pub ended : Trees × List Token → Read Trees
ended x = cond (is_empty x.1) (Some x) None

-- all the tokens
abbrev pub all_at : Within → List Token → Read Trees
all_at within a = block_at within a >>= ended

abbrev pub program_at : List Token → Read Trees
program_at a = all_at (within_at (length a)) a
