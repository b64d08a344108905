-- What the reading functions give is in the grammar.
use Rattle.std.proofs.Common.{◌≡◌, subst, ℕ, zero, suc, List, [], ◌∷◌, length, Option, Some, None, refl, sym, ap, ◌∙◌, Bool, true, false, cond, inl, inr, codes}
use Rattle.std.specs.Str.{bytes_eq}
use Rattle.std.proofs.lemmas.Slice.Eq.{bytes_eq-Decides}
use Rattle.etoken.specs.Table.{entry_at}
use Rattle.etoken.specs.declared.token.Token.{Token}
use Rattle.etoken.specs.declared.token.Token.TheVariants as token
use Rattle.etoken.specs.declared.token.Reserved as words
use Rattle.etoken.specs.declared.token.Reserved.TheVariants as word
use Rattle.etoken.specs.declared.token.Sign as signs
use Rattle.etoken.specs.declared.token.Sign.TheVariants as sign
use Rattle.kernele.specs.declared.tree.Pattern.{Pattern}
use Rattle.kernele.specs.Tree.{Name, Tree, null_tree, define, define_list, variable, assign, call, list_tree, hide, if_tree, while_tree, for_tree, try_tree, primitive, object_tree, escape_tree, send, when_tree, when_catch_tree, new_promise, Trees, none, and_then, Methods, no_methods}
use Rattle.kernele.specs.declared.tree.Primitive.TheVariants as primitives
use Rattle.ereader_signs.specs.declared.operator.Operator.{Operator}
use Rattle.ereader_signs.specs.declared.operator.CallSign.{CallSign}
use Rattle.ereader_signs.specs.declared.operator.CallSign.TheVariants as link
use Rattle.etoken.specs.declared.breaks.Bracket.{Bracket}
use Rattle.etoken.specs.declared.breaks.Bracket.TheVariants as bracket
use Rattle.ereader_signs.specs.Signs.{product_operator, sum_operator, comparison_operator, and_operator, or_operator, prefix_operator, link_of, closer}
use Rattle.ereader_forms.specs.Forms.{joined, prefix_verb, snoc, alone, return_tree, returning, function_tree, literal_of, linked, ref_word_of}
use Rattle.ereader_forms.specs.declared.words.RefWord.{RefWord}
use Rattle.ereader_forms.specs.declared.words.RefWord.TheVariants as reference
use Rattle.ereader_nodes.specs.Nodes.{Place, definition, definitions, new_variable, assignment, given, MethodTree, method_tree}
use Rattle.ereader_grammar.specs.Grammar.{put_method, Pat, pat_name, pat_ignore, Pats, pats_one, pats_and, PatList, pat_list_none, pat_list_some, Semicolons, semicolons_none, semicolons_more, Expr, expr_define, expr_define_list, expr_variable, expr_assign, expr_return, expr_return_null, expr_disjunction, Disjunction, disjunction_conjunction, disjunction_more, Conjunction, conjunction_comparison, conjunction_more, Comparison, comparison_sum, comparison_two, Sum, sum_product, sum_more, Product, product_unary, product_more, Unary, unary_postfix, unary_prefix, Postfix, postfix_primary, postfix_method, postfix_run, postfix_get, postfix_send, postfix_send_run, Primary, primary_int, primary_text, primary_true, primary_false, primary_null, primary_name, primary_list, primary_group, primary_hide, primary_if, primary_while, primary_for, primary_try, primary_throw, primary_escape, primary_object, primary_function, primary_when, primary_when_catch, primary_promise, primary_broken, primary_state, Method, method_to, method_plain, MethodList, methods_none, methods_and, Conditional, conditional_alone, conditional_else, conditional_else_if, Condition, condition, Braced, braced, Args, args_none, args_some, Items, items_one, items_and, Sequence, sequence_one, sequence_and, Block, block_empty, block_items, Program}
use Rattle.ereader_grammar.specs.Reading.{Read, ◌>>=◌, or_else, rest_of, is_empty, sign_in, front, is_at_word, is_def_word, is_var_word, is_if_word, is_else_word, is_in_word, is_catch_word, is_dot, is_arrow, is_assignment, is_comma, is_semicolon, is_becomes, is_open, is_close, repeat, past, past_word, operand_next, operands_at, commas_next, commas_at, closed_at, push_pattern, Within, items_at, args_at, list_at, pattern_at, pattern_at_sign, patterns_at, pattern_list_at, bound_at, bound_list_at, assigned_at, define_one_at, define_list_at, define_at, variable_at, assign_at, target_at, is_return_word, is_to_word, is_method_word, is_definition, is_bound, begins, method_verb_at, taking_at, method_at, methods_next, methods_at, methods_past_at, members_at, function_at, escape_at, body_at, object_at, name_at, return_at, given_at, expr_at, group_at, control_at, word_at, bracket_at, primary_at, verb_at, linked_at, postfix_next, postfix_at, unary_at, product_at, sum_at, comparison_at, conjunction_at, disjunction_at, if_at, while_at, for_at, try_at, throw_at, awaited_at, when_from, when_at, ref_name_at, ref_word_at, promise_at, ref_form_at, ref_at, send_verb_at, within_at, skip_semicolons, is_block_end, separator_at, separated, block_next, block_at, block_past_at, braced_at, hide_at, condition_at, branch_at, else_at, each_at, tried_at, ended, program_at}
use Rattle.ereader_grammar.proofs.Turns.{bind_some, or_else_is, if_is, some_same, none_some, repeat_sound}

-- a sign in front
sign_front : (a : List Token) {s : signs.Sign} → sign_in a ≡ Some s → a ≡ token.Sign s ∷ rest_of a
sign_front [] e = absurd (none_some e)
sign_front (token.Sign s ∷ a) e = ap (λ z. token.Sign z ∷ a) (some_same e)
sign_front (_ ∷ a) e = absurd (none_some e)

front_is : {A : Type 0} (of : signs.Sign → Option A) (a : List Token) {o : A} → front of a ≡ Some o → (s : signs.Sign) × (a ≡ token.Sign s ∷ rest_of a) × (of s ≡ Some o)
front_is of a e = elim (or_else_is (sign_in a) None of e) [
  | inl h ↦ absurd (none_some h.1)
  | inr h ↦ (h.0, sign_front a h.1, h.2)
]

-- a test that must hold
needed : {A : Type 0} (b : Bool) (v : A) {w : A} → ◌≡◌ {A = Option A} (cond b (Some v) None) (Some w) → (b ≡ true) × (v ≡ w)
needed true v e = (refl, some_same e)
needed false v e = absurd (none_some e)

past_is : {A : Type 0} (is : Option signs.Sign → Bool) (s : signs.Sign) → ((o : Option signs.Sign) → is o ≡ true → o ≡ Some s) → (y x : A × List Token) → past is y ≡ Some x → (y.1 ≡ token.Sign s ∷ x.1) × (y.0 ≡ x.0)
past_is is s h y x e =
    let n = needed (is (sign_in y.1)) (y.0, rest_of y.1) e in
    (sign_front y.1 (h (sign_in y.1) n.0) ∙ ap (λ z. token.Sign s ∷ z.1) n.1, ap (λ z. z.0) n.1)

comma_is : (o : Option signs.Sign) → is_comma o ≡ true → o ≡ Some sign.Comma
comma_is (Some sign.Comma) e = refl
comma_is _ e = absurd (cc)

semicolon_is : (o : Option signs.Sign) → is_semicolon o ≡ true → o ≡ Some sign.Semicolon
semicolon_is (Some sign.Semicolon) e = refl
semicolon_is _ e = absurd (cc)

becomes_is : (o : Option signs.Sign) → is_becomes o ≡ true → o ≡ Some sign.Becomes
becomes_is (Some sign.Becomes) e = refl
becomes_is _ e = absurd (cc)

dot_is : (o : Option signs.Sign) → is_dot o ≡ true → o ≡ Some sign.Dot
dot_is (Some sign.Dot) e = refl
dot_is _ e = absurd (cc)

arrow_is : (o : Option signs.Sign) → is_arrow o ≡ true → o ≡ Some sign.Arrow
arrow_is (Some sign.Arrow) e = refl
arrow_is _ e = absurd (cc)

-- the opening bracket
abbrev open_sign : Bracket → signs.Sign
open_sign bracket.Round = sign.OpenRound
open_sign bracket.Square = sign.OpenSquare
open_sign bracket.Curly = sign.OpenCurly

open_is : (b : Bracket) (o : Option signs.Sign) → is_open b o ≡ true → o ≡ Some (open_sign b)
open_is bracket.Round (Some sign.OpenRound) e = refl
open_is bracket.Square (Some sign.OpenSquare) e = refl
open_is bracket.Curly (Some sign.OpenCurly) e = refl
open_is _ _ e = absurd (cc)

-- the closing bracket
abbrev close_sign : Bracket → signs.Sign
close_sign bracket.Round = sign.CloseRound
close_sign bracket.Square = sign.CloseSquare
close_sign bracket.Curly = sign.CloseCurly

close_is : (b : Bracket) (o : Option signs.Sign) → is_close b o ≡ true → o ≡ Some (close_sign b)
close_is bracket.Round (Some sign.CloseRound) e = refl
close_is bracket.Square (Some sign.CloseSquare) e = refl
close_is bracket.Curly (Some sign.CloseCurly) e = refl
close_is _ _ e = absurd (cc)

def_word : (w : words.Reserved) → is_def_word w ≡ true → w ≡ word.Def
def_word word.Def e = refl
def_word _ e = absurd (cc)

var_word : (w : words.Reserved) → is_var_word w ≡ true → w ≡ word.Var
var_word word.Var e = refl
var_word _ e = absurd (cc)

if_word : (w : words.Reserved) → is_if_word w ≡ true → w ≡ word.If
if_word word.If e = refl
if_word _ e = absurd (cc)

else_word : (w : words.Reserved) → is_else_word w ≡ true → w ≡ word.Else
else_word word.Else e = refl
else_word _ e = absurd (cc)

in_word : (w : words.Reserved) → is_in_word w ≡ true → w ≡ word.In
in_word word.In e = refl
in_word _ e = absurd (cc)

catch_word : (w : words.Reserved) → is_catch_word w ≡ true → w ≡ word.Catch
catch_word word.Catch e = refl
catch_word _ e = absurd (cc)

return_word : (w : words.Reserved) → is_return_word w ≡ true → w ≡ word.Return
return_word word.Return e = refl
return_word _ e = absurd (cc)

to_word : (w : words.Reserved) → is_to_word w ≡ true → w ≡ word.To
to_word word.To e = refl
to_word _ e = absurd (cc)

method_word : (w : words.Reserved) → is_method_word w ≡ true → is_to_word w ≡ false → w ≡ word.Method
method_word word.To e f = absurd (cc)
method_word word.Method e f = refl
method_word _ e f = absurd (cc)

-- a word in front
word_front : (is : words.Reserved → Bool) (v : words.Reserved) → ((w : words.Reserved) → is w ≡ true → w ≡ v) → (a : List Token) → is_at_word is a ≡ true → a ≡ token.Word v ∷ rest_of a
word_front is v h [] e = absurd (cc)
word_front is v h (token.Word w ∷ a) e = ap (λ z. token.Word z ∷ a) (h w e)
word_front is v h (_ ∷ a) e = absurd (cc)

past_word_is : {A : Type 0} (is : words.Reserved → Bool) (v : words.Reserved) → ((w : words.Reserved) → is w ≡ true → w ≡ v) → (y x : A × List Token) → past_word is y ≡ Some x → (y.1 ≡ token.Word v ∷ x.1) × (y.0 ≡ x.0)
past_word_is is v h y x e =
    let n = needed (is_at_word is y.1) (y.0, rest_of y.1) e in
    (word_front is v h y.1 n.0 ∙ ap (λ z. token.Word v ∷ z.1) n.1, ap (λ z. z.0) n.1)

-- the word of a method that may not return, in front
method_front : (a : List Token) → is_at_word is_method_word a ≡ true → is_at_word is_to_word a ≡ false → a ≡ token.Word word.Method ∷ rest_of a
method_front [] e f = absurd (cc)
method_front (token.Word w ∷ a) e f = ap (λ z. token.Word z ∷ a) (method_word w e f)
method_front (_ ∷ a) e f = absurd (cc)

-- a definition in front
definition_front : (a : List Token) → is_definition a ≡ true → a ≡ token.Word word.Def ∷ rest_of a
definition_front a e = elim (if_is (is_at_word is_def_word a) (is_bound (rest_of a)) false e) [
  | inl h ↦ word_front is_def_word word.Def def_word a h.0
  | inr h ↦ absurd (cc)
]

-- a name in front
name_front : (a : List Token) (x : Name × List Token) → name_at a ≡ Some x → a ≡ token.Name x.0 ∷ x.1
name_front [] x e = absurd (none_some e)
name_front (token.Name n ∷ a) x e = ap (λ y. token.Name y.0 ∷ y.1) (some_same e)
name_front (_ ∷ a) x e = absurd (none_some e)

-- a name and an opening bracket in front
verb_front : (a : List Token) (x : Name × List Token) → method_verb_at a ≡ Some x → a ≡ token.Name x.0 ∷ token.Sign sign.OpenRound ∷ x.1
verb_front a x e =
    let g = bind_some (name_at a) (past (is_open bracket.Round)) e in
    let p = past_is (is_open bracket.Round) sign.OpenRound (open_is bracket.Round) g.0 x g.2 in
    name_front a g.0 g.1 ∙ ap (λ z. token.Name g.0.0 ∷ z) p.0 ∙ ap (λ z. token.Name z ∷ token.Sign sign.OpenRound ∷ x.1) p.1

-- the names with a meaning of their own behind `Ref.`
abbrev ref_name : RefWord → Name
ref_name reference.Promise = codes "promise"
ref_name reference.Broken = codes "broken"
ref_name reference.State = codes "state"

-- a row of their table
ref_row : (x w : Name) (k l : RefWord) (rows : List (Name × RefWord)) → entry_at ((w, k) ∷ rows) x ≡ Some l → ref_name k ≡ w → (entry_at rows x ≡ Some l → x ≡ ref_name l) → x ≡ ref_name l
ref_row x w k l rows e named rest = elim (if_is (bytes_eq x w) (Some k) (entry_at rows x) e) [
  | inl h ↦ (bytes_eq-Decides x w).0 h.0 ∙ sym named ∙ ap ref_name (some_same h.1)
  | inr h ↦ rest h.1
]

ref_word_is : (x : Name) (k : RefWord) → ref_word_of x ≡ Some k → x ≡ ref_name k
ref_word_is x k e =
    ref_row x (codes "promise") reference.Promise k ((codes "broken", reference.Broken) ∷ (codes "state", reference.State) ∷ []) e refl
    (λ e. ref_row x (codes "broken") reference.Broken k ((codes "state", reference.State) ∷ []) e refl
    (λ e. ref_row x (codes "state") reference.State k [] e refl (λ e. absurd (none_some e))))

-- such a name behind a dot in front
ref_front : (a : List Token) (k : RefWord × List Token) → ref_word_at a ≡ Some k → a ≡ token.Sign sign.Dot ∷ token.Name (ref_name k.0) ∷ k.1
ref_front a k e = elim (if_is (is_dot (sign_in a)) (ref_name_at (rest_of a)) None e) [
  | inl h ↦
      let g = bind_some (name_at (rest_of a)) (λ x. ref_word_of x.0 >>= λ k. Some (k, x.1)) h.1 in
      let f = bind_some (ref_word_of g.0.0) (λ k. Some (k, g.0.1)) g.2 in
      sign_front a (dot_is (sign_in a) h.0)
      ∙ ap (λ z. token.Sign sign.Dot ∷ z) (name_front (rest_of a) g.0 g.1)
      ∙ ap (λ z. token.Sign sign.Dot ∷ token.Name z ∷ g.0.1) (ref_word_is g.0.0 f.0 f.1)
      ∙ ap (λ (y : RefWord × List Token). token.Sign sign.Dot ∷ token.Name (ref_name y.0) ∷ y.1) (some_same f.2)
  | inr h ↦ absurd (none_some h.1)
]

-- a name and `:=` in front
assigned_is : (a : List Token) (x : Name × List Token) → assigned_at a ≡ Some x → a ≡ token.Name x.0 ∷ token.Sign sign.Becomes ∷ x.1
assigned_is [] x e = absurd (none_some e)
assigned_is (token.Name n ∷ a) x e =
    let p = past_is is_becomes sign.Becomes becomes_is (n, a) x e in
    ap (λ z. token.Name n ∷ z) p.0 ∙ ap (λ z. token.Name z ∷ token.Sign sign.Becomes ∷ x.1) p.1
assigned_is (_ ∷ a) x e = absurd (none_some e)

-- operands with operators between them: Whole has the rules of such a level, and Part is what is read between operators
module _ (of : signs.Sign → Option Operator) (part : List Token → Read Tree) (Whole Part : List Token → Tree → List Token → Type 0)
    (part_sound : (a : List Token) (x : Tree × List Token) → part a ≡ Some x → Part a x.0 x.1)
    (one : (a r : List Token) (t : Tree) → Part a t r → Whole a t r)
    (more : (a b r : List Token) (t u : Tree) (s : signs.Sign) (o : Operator) → Whole a t (token.Sign s ∷ b) → of s ≡ Some o → Part b u r → Whole a (joined o t u) r) where
  operand_step : (a : List Token) (t : Tree) (b : List Token) (turn : Read Tree) (x : Tree × List Token) → operand_next of part t b ≡ Some turn → turn ≡ Some x → Whole a t b → Whole a x.0 x.1
  operand_step a t b turn x e k w = elim (or_else_is (front of b) None (λ o. Some (part (rest_of b) >>= λ x. Some (joined o t x.0, x.1))) e) [
    | inl h ↦ absurd (none_some h.1)
    | inr h ↦
        let g = bind_some (part (rest_of b)) (λ x. Some (joined h.0 t x.0, x.1)) (some_same h.2 ∙ k) in
        let f = front_is of b h.1 in
        subst (λ y. Whole a y.0 y.1) (some_same g.2)
        (more a (rest_of b) g.0.1 t g.0.0 f.0 h.0 (subst (λ r. Whole a t r) f.1 w) f.2 (part_sound (rest_of b) g.0 g.1))
  ]

  operands_sound : (a : List Token) (x : Tree × List Token) → operands_at of part a ≡ Some x → Whole a x.0 x.1
  operands_sound a x e =
      let g = bind_some (part a) (λ x. repeat (operand_next of part) (length x.1) x.0 x.1) e in
      repeat_sound (operand_next of part) (Whole a) (operand_step a) (length g.0.1) g.0.0 g.0.1 x (one a g.0.1 g.0.0 (part_sound a g.0 g.1)) g.2

-- one or more with commas between them: Whole has the rules of such a level, and Part is what is read between commas
module _ {A B : Type 0} (first : A → B) (push : B → A → B) (part : List Token → Read A) (Whole : List Token → B → List Token → Type 0) (Part : List Token → A → List Token → Type 0)
    (part_sound : (a : List Token) (x : A × List Token) → part a ≡ Some x → Part a x.0 x.1)
    (one : (a r : List Token) (t : A) → Part a t r → Whole a (first t) r)
    (more : (a b r : List Token) (ts : B) (t : A) → Whole a ts (token.Sign sign.Comma ∷ b) → Part b t r → Whole a (push ts t) r) where
  commas_step : (a : List Token) (ts : B) (b : List Token) (turn : Read B) (x : B × List Token) → commas_next push part ts b ≡ Some turn → turn ≡ Some x → Whole a ts b → Whole a x.0 x.1
  commas_step a ts b turn x e k s = elim (if_is (is_comma (sign_in b)) (Some (part (rest_of b) >>= λ y. Some (push ts y.0, y.1))) None e) [
    | inl h ↦
        let g = bind_some (part (rest_of b)) (λ y. Some (push ts y.0, y.1)) (some_same h.1 ∙ k) in
        subst (λ y. Whole a y.0 y.1) (some_same g.2) (more a (rest_of b) g.0.1 ts g.0.0 (subst (λ r. Whole a ts r) (sign_front b (comma_is (sign_in b) h.0)) s) (part_sound (rest_of b) g.0 g.1))
    | inr h ↦ absurd (none_some h.1)
  ]

  commas_sound : (a : List Token) (x : B × List Token) → commas_at first push part a ≡ Some x → Whole a x.0 x.1
  commas_sound a x e =
      let g = bind_some (part a) (λ y. repeat (commas_next push part) (length y.1) (first y.0) y.1) e in
      repeat_sound (commas_next push part) (Whole a) (commas_step a) (length g.0.1) (first g.0.0) g.0.1 x (one a g.0.1 g.0.0 (part_sound a g.0 g.1)) g.2

-- nothing or some, and the closing bracket
module _ {B : Type 0} (empty : B) (some : List Token → Read B) (Whole Some_of : List Token → B → List Token → Type 0)
    (some_sound : (a : List Token) (x : B × List Token) → some a ≡ Some x → Some_of a x.0 x.1)
    (without : (r : List Token) → Whole r empty r)
    (having : (a r : List Token) (ts : B) → Some_of a ts r → Whole a ts r) where
  closed_sound : (c : Bracket) (a : List Token) (x : B × List Token) → closed_at empty some c a ≡ Some x → Whole a x.0 (token.Sign (close_sign c) ∷ x.1)
  closed_sound c a x e = elim (if_is (is_close c (sign_in a)) (Some (empty, rest_of a)) (some a >>= past (is_close c)) e) [
    | inl h ↦
        subst (λ y. Whole a y.0 (token.Sign (close_sign c) ∷ y.1)) (some_same h.1)
        (subst (λ z. Whole z empty (token.Sign (close_sign c) ∷ rest_of a)) (sym (sign_front a (close_is c (sign_in a) h.0))) (without (token.Sign (close_sign c) ∷ rest_of a)))
    | inr h ↦
        let g = bind_some (some a) (past (is_close c)) h.1 in
        let p = past_is (is_close c) (close_sign c) (close_is c) g.0 x g.2 in
        having a (token.Sign (close_sign c) ∷ x.1) x.0 (subst (λ ts. Some_of a ts (token.Sign (close_sign c) ∷ x.1)) p.1 (subst (λ r. Some_of a g.0.0 r) p.0 (some_sound a g.0 g.1)))
  ]

sound_sign_pattern : (s : signs.Sign) (a : List Token) (x : Pattern × List Token) → pattern_at_sign s a ≡ Some x → Pat (token.Sign s ∷ a) x.0 x.1
sound_sign_pattern sign.Underscore a x e = subst (λ y. Pat (token.Sign sign.Underscore ∷ a) y.0 y.1) (some_same e) pat_ignore
sound_sign_pattern _ a x e = absurd (none_some e)

sound_pattern : (a : List Token) (x : Pattern × List Token) → pattern_at a ≡ Some x → Pat a x.0 x.1
sound_pattern [] x e = absurd (none_some e)
sound_pattern (token.Name n ∷ a) x e = subst (λ y. Pat (token.Name n ∷ a) y.0 y.1) (some_same e) pat_name
sound_pattern (token.Sign s ∷ a) x e = sound_sign_pattern s a x e
sound_pattern (_ ∷ a) x e = absurd (none_some e)

sound_patterns : (a : List Token) (x : List Pattern × List Token) → patterns_at a ≡ Some x → Pats a x.0 x.1
sound_patterns = commas_sound (λ p. p ∷ []) push_pattern pattern_at Pats Pat sound_pattern (λ a r p h. pats_one h) (λ a b r ps p h k. pats_and h k)

sound_pattern_list : (c : Bracket) (a : List Token) (x : List Pattern × List Token) → pattern_list_at c a ≡ Some x → PatList a x.0 (token.Sign (close_sign c) ∷ x.1)
sound_pattern_list = closed_sound [] patterns_at PatList Pats sound_patterns (λ r. pat_list_none) (λ a r ps h. pat_list_some h)

sound_bound : (a : List Token) (x : Pattern × List Token) → bound_at a ≡ Some x → Pat a x.0 (token.Sign sign.Becomes ∷ x.1)
sound_bound a x e =
    let k = bind_some (pattern_at a) (past is_becomes) e in
    let n = past_is is_becomes sign.Becomes becomes_is k.0 x k.2 in
    subst (λ q. Pat a q (token.Sign sign.Becomes ∷ x.1)) n.1 (subst (λ r. Pat a k.0.0 r) n.0 (sound_pattern a k.0 k.1))

sound_bound_list : (a : List Token) (x : List Pattern × List Token) → bound_list_at a ≡ Some x → PatList a x.0 (token.Sign sign.CloseSquare ∷ token.Sign sign.Becomes ∷ x.1)
sound_bound_list a x e =
    let k = bind_some (pattern_list_at bracket.Square a) (past is_becomes) e in
    let n = past_is is_becomes sign.Becomes becomes_is k.0 x k.2 in
    subst (λ q. PatList a q (token.Sign sign.CloseSquare ∷ token.Sign sign.Becomes ∷ x.1)) n.1 (subst (λ r. PatList a k.0.0 (token.Sign sign.CloseSquare ∷ r)) n.0 (sound_pattern_list bracket.Square a k.0 k.1))

sound_each : (a : List Token) (x : Pattern × List Token) → each_at a ≡ Some x → Pat a x.0 (token.Word word.In ∷ x.1)
sound_each a x e =
    let k = bind_some (pattern_at a) (past_word is_in_word) e in
    let n = past_word_is is_in_word word.In in_word k.0 x k.2 in
    subst (λ q. Pat a q (token.Word word.In ∷ x.1)) n.1 (subst (λ r. Pat a k.0.0 r) n.0 (sound_pattern a k.0 k.1))

sound_literal : (w : words.Reserved) (a : List Token) (t : Tree) → literal_of w ≡ Some t → Primary (token.Word w ∷ a) t a
sound_literal word.True a t e = subst (λ y. Primary (token.Word word.True ∷ a) y a) (some_same e) primary_true
sound_literal word.False a t e = subst (λ y. Primary (token.Word word.False ∷ a) y a) (some_same e) primary_false
sound_literal word.Null a t e = subst (λ y. Primary (token.Word word.Null ∷ a) y a) (some_same e) primary_null
sound_literal _ a t e = absurd (none_some e)

-- semicolons are gone past
skip_sign_is : (s : signs.Sign) (a : List Token) → Semicolons a (skip_semicolons a) → Semicolons (token.Sign s ∷ a) (skip_semicolons (token.Sign s ∷ a))
skip_sign_is sign.Semicolon a p = semicolons_more p
skip_sign_is _ a p = semicolons_none

skip_is : (a : List Token) → Semicolons a (skip_semicolons a)
skip_is [] = semicolons_none
skip_is (token.Sign s ∷ a) = skip_sign_is s a (skip_is a)
skip_is (_ ∷ a) = semicolons_none

-- b is left of a block whose items ts begin at a: nothing is read, or an item and what parts it from b
data Begun (a : List Token) : Trees → List Token → Type 0 where
  begun_none : {b : List Token} → b ≡ a → Begun a none b
  begun_end : {ts : Trees} {b : List Token} → Sequence a ts b → is_block_end b ≡ true → Begun a ts b
  begun_more : {ts : Trees} {b c : List Token} → Sequence a ts (token.Sign sign.Semicolon ∷ c) → Semicolons c b → Begun a ts b

begun_separated : (a r b : List Token) (ts : Trees) → Sequence a ts r → separator_at r ≡ Some b → Begun a ts b
begun_separated a r b ts s e = elim (if_is (is_block_end r) (Some r) (cond (is_semicolon (sign_in r)) (Some (skip_semicolons r)) None) e) [
  | inl h ↦ subst (Begun a ts) (some_same h.1) (begun_end s h.0)
  | inr h ↦ elim (if_is (is_semicolon (sign_in r)) (Some (skip_semicolons r)) None h.1) [
    | inl k ↦
        let f = sign_front r (semicolon_is (sign_in r) k.0) in
        begun_more (subst (λ r. Sequence a ts r) f s) (subst (λ b. Semicolons (rest_of r) b) (sym (ap skip_semicolons f) ∙ some_same k.1) (skip_is (rest_of r)))
    | inr k ↦ absurd (none_some k.1)
  ]
]

true_not : {b : Bool} → b ≡ true → b ≡ false → ⊥
true_not e f = cc

-- one item more
begun_and : (a b r : List Token) (ts : Trees) (t : Tree) → Begun a ts b → is_block_end b ≡ false → Expr b t r → Sequence a (snoc ts t) r
begun_and a b r _ t (begun_none e) h x = sequence_one (subst (λ z. Expr z t r) e x)
begun_and a b r ts t (begun_end s e) h x = absurd (true_not e h)
begun_and a b r ts t (begun_more s p) h x = sequence_and s p x

begun_block : (a b r : List Token) (ts : Trees) → Semicolons a b → Begun b ts r → Block a ts r
begun_block a b r _ s (begun_none e) = block_empty (subst (λ z. Semicolons a z) (sym e) s)
begun_block a b r ts s (begun_end q e) = block_items s q semicolons_none
begun_block a b r ts s (begun_more q p) = block_items s q (semicolons_more p)

-- what is read is in the grammar, where that holds of within
module _ (within : Within)
    (inside : (a : List Token) (x : Tree × List Token) → within.expression a ≡ Some x → Disjunction a x.0 x.1)
    (chained : (a : List Token) (x : Tree × List Token) → within.conditional a ≡ Some x → Conditional a x.0 x.1) where
  sound_items : (a : List Token) (x : Trees × List Token) → items_at within a ≡ Some x → Items a x.0 x.1
  sound_items = commas_sound (λ t. and_then t none) snoc within.expression Items Disjunction inside (λ a r t h. items_one h) (λ a b r ts t h k. items_and h k)

  pub sound_args : (c : Bracket) (a : List Token) (x : Trees × List Token) → args_at within c a ≡ Some x → Args a x.0 (token.Sign (close_sign c) ∷ x.1)
  sound_args = closed_sound none (items_at within) Args Items sound_items (λ r. args_none) (λ a r ts h. args_some h)

  sound_variable : (a : List Token) (n : Name × List Token) (x : Tree × List Token) → assigned_at a ≡ Some n → within.expression n.1 ≡ Some x → Expr (token.Word word.Var ∷ a) (variable n.0 x.0) x.1
  sound_variable a n x e i = subst (λ z. Expr (token.Word word.Var ∷ z) (variable n.0 x.0) x.1) (sym (assigned_is a n e)) (expr_variable (inside n.1 x i))

  sound_assign : (a : List Token) (n : Name × List Token) (x : Tree × List Token) → assigned_at a ≡ Some n → within.expression n.1 ≡ Some x → Expr a (assign n.0 x.0) x.1
  sound_assign a n x e i = subst (λ z. Expr z (assign n.0 x.0) x.1) (sym (assigned_is a n e)) (expr_assign (inside n.1 x i))

  -- the value behind what it is given to
  abbrev value_at : Option Place × List Token → Read Tree
  value_at g = or_else g.0 (within.expression g.1) (λ t. within.expression g.1 >>= λ y. Some (given t y.0, y.1))

  sound_define : (a : List Token) (g : Option Place × List Token) (x : Tree × List Token) → define_at a ≡ Some g → value_at g ≡ Some x → Expr (token.Word word.Def ∷ a) x.0 x.1
  sound_define a g x e i = elim (if_is (is_open bracket.Square (sign_in a)) (define_list_at (rest_of a)) (define_one_at a) e) [
    | inl h ↦
        let k = bind_some (bound_list_at (rest_of a)) (λ p. Some (Some (definitions p.0), p.1)) h.1 in
        let f = bind_some (within.expression k.0.1) (λ y. Some (define_list k.0.0 y.0, y.1)) (ap value_at (some_same k.2) ∙ i) in
        subst (λ z. Expr (token.Word word.Def ∷ z) x.0 x.1) (sym (sign_front a (open_is bracket.Square (sign_in a) h.0)))
        (subst (λ y. Expr (token.Word word.Def ∷ token.Sign sign.OpenSquare ∷ rest_of a) y.0 y.1) (some_same f.2) (expr_define_list (sound_bound_list (rest_of a) k.0 k.1) (inside k.0.1 f.0 f.1)))
    | inr h ↦
        let k = bind_some (bound_at a) (λ p. Some (Some (definition p.0), p.1)) h.1 in
        let f = bind_some (within.expression k.0.1) (λ y. Some (define k.0.0 y.0, y.1)) (ap value_at (some_same k.2) ∙ i) in
        subst (λ y. Expr (token.Word word.Def ∷ a) y.0 y.1) (some_same f.2) (expr_define (sound_bound a k.0 k.1) (inside k.0.1 f.0 f.1))
  ]

  sound_return : (a : List Token) (x : Tree × List Token) → return_at within a ≡ Some x → Expr (token.Word word.Return ∷ a) x.0 x.1
  sound_return a x e = elim (if_is (begins a) (within.expression a >>= λ y. Some (return_tree y.0, y.1)) (Some (return_tree null_tree, a)) e) [
    | inl h ↦
        let g = bind_some (within.expression a) (λ y. Some (return_tree y.0, y.1)) h.1 in
        subst (λ y. Expr (token.Word word.Return ∷ a) y.0 y.1) (some_same g.2) (expr_return (inside a g.0 g.1))
    | inr h ↦ subst (λ y. Expr (token.Word word.Return ∷ a) y.0 y.1) (some_same h.1) expr_return_null
  ]

  sound_given : (a : List Token) (x : Tree × List Token) → given_at within a ≡ Some x → Expr a x.0 x.1
  sound_given a x e =
      let g = bind_some (target_at a) value_at e in
      elim (if_is (is_definition a) (define_at (rest_of a)) (cond (is_at_word is_var_word a) (variable_at (rest_of a)) (cond (is_assignment a) (assign_at a) (Some (None, a)))) g.1) [
        | inl h ↦ subst (λ z. Expr z x.0 x.1) (sym (definition_front a h.0)) (sound_define (rest_of a) g.0 x h.1 g.2)
        | inr o ↦ elim (if_is (is_at_word is_var_word a) (variable_at (rest_of a)) (cond (is_assignment a) (assign_at a) (Some (None, a))) o.1) [
          | inl h ↦
              let k = bind_some (assigned_at (rest_of a)) (λ n. Some (Some (new_variable n.0), n.1)) h.1 in
              let f = bind_some (within.expression k.0.1) (λ y. Some (variable k.0.0 y.0, y.1)) (ap value_at (some_same k.2) ∙ g.2) in
              subst (λ z. Expr z x.0 x.1) (sym (word_front is_var_word word.Var var_word a h.0)) (subst (λ y. Expr (token.Word word.Var ∷ rest_of a) y.0 y.1) (some_same f.2) (sound_variable (rest_of a) k.0 f.0 k.1 f.1))
          | inr p ↦ elim (if_is (is_assignment a) (assign_at a) (Some (None, a)) p.1) [
            | inl h ↦
                let k = bind_some (assigned_at a) (λ n. Some (Some (assignment n.0), n.1)) h.1 in
                let f = bind_some (within.expression k.0.1) (λ y. Some (assign k.0.0 y.0, y.1)) (ap value_at (some_same k.2) ∙ g.2) in
                subst (λ y. Expr a y.0 y.1) (some_same f.2) (sound_assign a k.0 f.0 k.1 f.1)
            | inr h ↦ expr_disjunction (inside a x (ap value_at (some_same h.1) ∙ g.2))
          ]
        ]
      ]

  pub sound_expr : (a : List Token) (x : Tree × List Token) → expr_at within a ≡ Some x → Expr a x.0 x.1
  sound_expr a x e = elim (if_is (is_at_word is_return_word a) (return_at within (rest_of a)) (given_at within a) e) [
    | inl h ↦ subst (λ z. Expr z x.0 x.1) (sym (word_front is_return_word word.Return return_word a h.0)) (sound_return (rest_of a) x h.1)
    | inr h ↦ sound_given a x h.1
  ]

  block_step : (a : List Token) (ts : Trees) (b : List Token) (turn : Read Trees) (x : Trees × List Token) → block_next within ts b ≡ Some turn → turn ≡ Some x → Begun a ts b → Begun a x.0 x.1
  block_step a ts b turn x e k w = elim (if_is (is_block_end b) None (Some (expr_at within b >>= λ y. separated (snoc ts y.0) y.1)) e) [
    | inl h ↦ absurd (none_some h.1)
    | inr h ↦
        let g = bind_some (expr_at within b) (λ y. separated (snoc ts y.0) y.1) (some_same h.1 ∙ k) in
        let f = bind_some (separator_at g.0.1) (λ r. Some (snoc ts g.0.0, r)) g.2 in
        subst (λ y. Begun a y.0 y.1) (some_same f.2)
        (begun_separated a g.0.1 f.0 (snoc ts g.0.0) (begun_and a b g.0.1 ts g.0.0 w h.0 (sound_expr b g.0 g.1)) f.1)
  ]

  pub sound_block : (a : List Token) (x : Trees × List Token) → block_at within a ≡ Some x → Block a x.0 x.1
  sound_block a x e =
      begun_block a (skip_semicolons a) x.1 x.0 (skip_is a)
      (repeat_sound (block_next within) (Begun (skip_semicolons a)) (block_step (skip_semicolons a)) (length a) none (skip_semicolons a) x (begun_none refl) e)

  sound_block_past : (a : List Token) (x : Trees × List Token) → block_past_at within a ≡ Some x → Block a x.0 (token.Sign sign.CloseCurly ∷ x.1)
  sound_block_past a x e =
      let g = bind_some (block_at within a) (past (is_close bracket.Curly)) e in
      let p = past_is (is_close bracket.Curly) sign.CloseCurly (close_is bracket.Curly) g.0 x g.2 in
      subst (λ ts. Block a ts (token.Sign sign.CloseCurly ∷ x.1)) p.1 (subst (λ r. Block a g.0.0 r) p.0 (sound_block a g.0 g.1))

  sound_braced : (a : List Token) (x : Trees × List Token) → braced_at within a ≡ Some x → Braced a x.0 x.1
  sound_braced a x e = elim (if_is (is_open bracket.Curly (sign_in a)) (block_past_at within (rest_of a)) None e) [
    | inl h ↦ subst (λ z. Braced z x.0 x.1) (sym (sign_front a (open_is bracket.Curly (sign_in a) h.0))) (braced (sound_block_past (rest_of a) x h.1))
    | inr h ↦ absurd (none_some h.1)
  ]

  sound_condition : (a : List Token) (x : Tree × List Token) → condition_at within a ≡ Some x → Condition a x.0 x.1
  sound_condition a x e = elim (if_is (is_open bracket.Round (sign_in a)) (within.expression (rest_of a) >>= past (is_close bracket.Round)) None e) [
    | inl h ↦
        let g = bind_some (within.expression (rest_of a)) (past (is_close bracket.Round)) h.1 in
        let p = past_is (is_close bracket.Round) sign.CloseRound (close_is bracket.Round) g.0 x g.2 in
        subst (λ z. Condition z x.0 x.1) (sym (sign_front a (open_is bracket.Round (sign_in a) h.0)))
        (condition (subst (λ t. Disjunction (rest_of a) t (token.Sign sign.CloseRound ∷ x.1)) p.1 (subst (λ r. Disjunction (rest_of a) g.0.0 r) p.0 (inside (rest_of a) g.0 g.1))))
    | inr h ↦ absurd (none_some h.1)
  ]

  -- what is behind `else`
  sound_branch : (a b d : List Token) (t : Tree) (ts : Trees) (x : Trees × List Token) → Condition a t b → Braced b ts (token.Word word.Else ∷ d) → branch_at within d ≡ Some x → Conditional a (if_tree t ts x.0) x.1
  sound_branch a b d t ts x p q e = elim (if_is (is_at_word is_if_word d) (within.conditional (rest_of d) >>= λ u. Some (alone u.0, u.1)) (braced_at within d) e) [
    | inl k ↦
        let g = bind_some (within.conditional (rest_of d)) (λ u. Some (alone u.0, u.1)) k.1 in
        let f = word_front is_if_word word.If if_word d k.0 in
        subst (λ y. Conditional a (if_tree t ts y.0) y.1) (some_same g.2) (conditional_else_if p (subst (λ r. Braced b ts (token.Word word.Else ∷ r)) f q) (chained (rest_of d) g.0 g.1))
    | inr k ↦ conditional_else p q (sound_braced d x k.1)
  ]

  -- what is behind the first block
  sound_else : (a b c : List Token) (t : Tree) (ts : Trees) (x : Trees × List Token) → Condition a t b → Braced b ts c → else_at within c ≡ Some x → Conditional a (if_tree t ts x.0) x.1
  sound_else a b c t ts x p q e = elim (if_is (is_at_word is_else_word c) (branch_at within (rest_of c)) (Some (none, c)) e) [
    | inl h ↦ sound_branch a b (rest_of c) t ts x p (subst (λ r. Braced b ts r) (word_front is_else_word word.Else else_word c h.0) q) h.1
    | inr h ↦ subst (λ y. Conditional a (if_tree t ts y.0) y.1) (some_same h.1) (conditional_alone p q)
  ]

  sound_if : (a : List Token) (x : Tree × List Token) → if_at within a ≡ Some x → Conditional a x.0 x.1
  sound_if a x e =
      let g = bind_some (condition_at within a) (λ c. braced_at within c.1 >>= λ b. else_at within b.1 >>= λ d. Some (if_tree c.0 b.0 d.0, d.1)) e in
      let f = bind_some (braced_at within g.0.1) (λ b. else_at within b.1 >>= λ d. Some (if_tree g.0.0 b.0 d.0, d.1)) g.2 in
      let k = bind_some (else_at within f.0.1) (λ d. Some (if_tree g.0.0 f.0.0 d.0, d.1)) f.2 in
      subst (λ y. Conditional a y.0 y.1) (some_same k.2) (sound_else a g.0.1 f.0.1 g.0.0 f.0.0 k.0 (sound_condition a g.0 g.1) (sound_braced g.0.1 f.0 f.1) k.1)

  sound_while : (a : List Token) (x : Tree × List Token) → while_at within a ≡ Some x → Primary (token.Word word.While ∷ a) x.0 x.1
  sound_while a x e =
      let g = bind_some (condition_at within a) (λ c. braced_at within c.1 >>= λ b. Some (while_tree c.0 b.0, b.1)) e in
      let f = bind_some (braced_at within g.0.1) (λ b. Some (while_tree g.0.0 b.0, b.1)) g.2 in
      subst (λ y. Primary (token.Word word.While ∷ a) y.0 y.1) (some_same f.2) (primary_while (sound_condition a g.0 g.1) (sound_braced g.0.1 f.0 f.1))

  sound_for : (a : List Token) (x : Tree × List Token) → for_at within a ≡ Some x → Primary (token.Word word.For ∷ a) x.0 x.1
  sound_for a x e =
      let g = bind_some (each_at a) (λ p. within.expression p.1 >>= λ e. braced_at within e.1 >>= λ b. Some (for_tree p.0 e.0 b.0, b.1)) e in
      let f = bind_some (within.expression g.0.1) (λ e. braced_at within e.1 >>= λ b. Some (for_tree g.0.0 e.0 b.0, b.1)) g.2 in
      let k = bind_some (braced_at within f.0.1) (λ b. Some (for_tree g.0.0 f.0.0 b.0, b.1)) f.2 in
      subst (λ y. Primary (token.Word word.For ∷ a) y.0 y.1) (some_same k.2) (primary_for (sound_each a g.0 g.1) (inside g.0.1 f.0 f.1) (sound_braced f.0.1 k.0 k.1))

  sound_tried : (a : List Token) (x : Trees × List Token) → tried_at within a ≡ Some x → Braced a x.0 (token.Word word.Catch ∷ x.1)
  sound_tried a x e =
      let k = bind_some (braced_at within a) (past_word is_catch_word) e in
      let n = past_word_is is_catch_word word.Catch catch_word k.0 x k.2 in
      subst (λ ts. Braced a ts (token.Word word.Catch ∷ x.1)) n.1 (subst (λ r. Braced a k.0.0 r) n.0 (sound_braced a k.0 k.1))

  sound_try : (a : List Token) (x : Tree × List Token) → try_at within a ≡ Some x → Primary (token.Word word.Try ∷ a) x.0 x.1
  sound_try a x e =
      let g = bind_some (tried_at within a) (λ b. pattern_at b.1 >>= λ p. braced_at within p.1 >>= λ h. Some (try_tree b.0 p.0 h.0, h.1)) e in
      let f = bind_some (pattern_at g.0.1) (λ p. braced_at within p.1 >>= λ h. Some (try_tree g.0.0 p.0 h.0, h.1)) g.2 in
      let k = bind_some (braced_at within f.0.1) (λ h. Some (try_tree g.0.0 f.0.0 h.0, h.1)) f.2 in
      subst (λ y. Primary (token.Word word.Try ∷ a) y.0 y.1) (some_same k.2) (primary_try (sound_tried a g.0 g.1) (sound_pattern g.0.1 f.0 f.1) (sound_braced f.0.1 k.0 k.1))

  sound_awaited : (a : List Token) (x : Tree × List Token) → awaited_at within a ≡ Some x → Condition a x.0 (token.Sign sign.Arrow ∷ x.1)
  sound_awaited a x e =
      let k = bind_some (condition_at within a) (past is_arrow) e in
      let n = past_is is_arrow sign.Arrow arrow_is k.0 x k.2 in
      subst (λ t. Condition a t (token.Sign sign.Arrow ∷ x.1)) n.1 (subst (λ r. Condition a k.0.0 r) n.0 (sound_condition a k.0 k.1))

  -- what is behind the block of a `when`
  sound_when_from : (a b c : List Token) (t : Tree) (ts : Trees) (x : Tree × List Token) → Condition a t (token.Sign sign.Arrow ∷ b) → Braced b ts c → when_from within t ts c ≡ Some x → Primary (token.Word word.When ∷ a) x.0 x.1
  sound_when_from a b c t ts x p q e = elim (if_is (is_at_word is_catch_word c) (pattern_at (rest_of c) >>= λ p. braced_at within p.1 >>= λ h. Some (when_catch_tree t ts p.0 h.0, h.1)) (Some (when_tree t ts, c)) e) [
    | inl k ↦
        let g = bind_some (pattern_at (rest_of c)) (λ p. braced_at within p.1 >>= λ h. Some (when_catch_tree t ts p.0 h.0, h.1)) k.1 in
        let f = bind_some (braced_at within g.0.1) (λ h. Some (when_catch_tree t ts g.0.0 h.0, h.1)) g.2 in
        subst (λ y. Primary (token.Word word.When ∷ a) y.0 y.1) (some_same f.2)
        (primary_when_catch p (subst (λ r. Braced b ts r) (word_front is_catch_word word.Catch catch_word c k.0) q) (sound_pattern (rest_of c) g.0 g.1) (sound_braced g.0.1 f.0 f.1))
    | inr k ↦ subst (λ y. Primary (token.Word word.When ∷ a) y.0 y.1) (some_same k.1) (primary_when p q)
  ]

  sound_when : (a : List Token) (x : Tree × List Token) → when_at within a ≡ Some x → Primary (token.Word word.When ∷ a) x.0 x.1
  sound_when a x e =
      let g = bind_some (awaited_at within a) (λ e. braced_at within e.1 >>= λ b. when_from within e.0 b.0 b.1) e in
      let f = bind_some (braced_at within g.0.1) (λ b. when_from within g.0.0 b.0 b.1) g.2 in
      sound_when_from a g.0.1 f.0.1 g.0.0 f.0.0 x (sound_awaited a g.0 g.1) (sound_braced g.0.1 f.0 f.1) f.2

  sound_promise : (a : List Token) (x : Tree × List Token) → promise_at a ≡ Some x → Primary (token.Word word.Ref ∷ token.Sign sign.Dot ∷ token.Name (codes "promise") ∷ a) x.0 x.1
  sound_promise a x e = elim (if_is (is_open bracket.Round (sign_in a)) (past (is_close bracket.Round) (new_promise, rest_of a)) None e) [
    | inl h ↦
        let p = past_is (is_close bracket.Round) sign.CloseRound (close_is bracket.Round) (new_promise, rest_of a) x h.1 in
        subst (λ z. Primary (token.Word word.Ref ∷ token.Sign sign.Dot ∷ token.Name (codes "promise") ∷ z) x.0 x.1)
        (sym (sign_front a (open_is bracket.Round (sign_in a) h.0) ∙ ap (λ z. token.Sign sign.OpenRound ∷ z) p.0))
        (subst (λ t. Primary (token.Word word.Ref ∷ token.Sign sign.Dot ∷ token.Name (codes "promise") ∷ token.Sign sign.OpenRound ∷ token.Sign sign.CloseRound ∷ x.1) t x.1) p.1 primary_promise)
    | inr h ↦ absurd (none_some h.1)
  ]

  sound_ref_form : (k : RefWord) (a : List Token) (x : Tree × List Token) → ref_form_at within k a ≡ Some x → Primary (token.Word word.Ref ∷ token.Sign sign.Dot ∷ token.Name (ref_name k) ∷ a) x.0 x.1
  sound_ref_form reference.Promise a x e = sound_promise a x e
  sound_ref_form reference.Broken a x e =
      let g = bind_some (condition_at within a) (λ e. Some (primitive primitives.BreakRef e.0, e.1)) e in
      subst (λ y. Primary (token.Word word.Ref ∷ token.Sign sign.Dot ∷ token.Name (codes "broken") ∷ a) y.0 y.1) (some_same g.2) (primary_broken (sound_condition a g.0 g.1))
  sound_ref_form reference.State a x e =
      let g = bind_some (condition_at within a) (λ e. Some (primitive primitives.StateRef e.0, e.1)) e in
      subst (λ y. Primary (token.Word word.Ref ∷ token.Sign sign.Dot ∷ token.Name (codes "state") ∷ a) y.0 y.1) (some_same g.2) (primary_state (sound_condition a g.0 g.1))

  sound_ref : (a : List Token) (x : Tree × List Token) → ref_at within a ≡ Some x → Primary (token.Word word.Ref ∷ a) x.0 x.1
  sound_ref a x e =
      let g = bind_some (ref_word_at a) (λ k. ref_form_at within k.0 k.1) e in
      subst (λ z. Primary (token.Word word.Ref ∷ z) x.0 x.1) (sym (ref_front a g.0 g.1)) (sound_ref_form g.0.0 g.0.1 x g.2)

  sound_throw : (a : List Token) (x : Tree × List Token) → throw_at within a ≡ Some x → Primary (token.Word word.Throw ∷ a) x.0 x.1
  sound_throw a x e =
      let g = bind_some (condition_at within a) (λ e. Some (primitive primitives.Throw e.0, e.1)) e in
      subst (λ y. Primary (token.Word word.Throw ∷ a) y.0 y.1) (some_same g.2) (primary_throw (sound_condition a g.0 g.1))

  sound_escape : (a : List Token) (x : Tree × List Token) → escape_at within a ≡ Some x → Primary (token.Word word.Escape ∷ a) x.0 x.1
  sound_escape a x e =
      let g = bind_some (name_at a) (λ n. braced_at within n.1 >>= λ b. Some (escape_tree n.0 b.0, b.1)) e in
      let f = bind_some (braced_at within g.0.1) (λ b. Some (escape_tree g.0.0 b.0, b.1)) g.2 in
      subst (λ z. Primary (token.Word word.Escape ∷ z) x.0 x.1) (sym (name_front a g.0 g.1))
      (subst (λ y. Primary (token.Word word.Escape ∷ token.Name g.0.0 ∷ g.0.1) y.0 y.1) (some_same f.2) (primary_escape (sound_braced g.0.1 f.0 f.1)))

  sound_function : (a b : List Token) (p : Pattern) (x : Tree × List Token) → Pat a p (token.Sign sign.OpenRound ∷ b) → function_at within p b ≡ Some x → Primary (token.Word word.Def ∷ a) x.0 x.1
  sound_function a b p x q e =
      let g = bind_some (pattern_list_at bracket.Round b) (λ ps. braced_at within ps.1 >>= λ c. Some (function_tree p ps.0 c.0, c.1)) e in
      let f = bind_some (braced_at within g.0.1) (λ c. Some (function_tree p g.0.0 c.0, c.1)) g.2 in
      subst (λ y. Primary (token.Word word.Def ∷ a) y.0 y.1) (some_same f.2) (primary_function q (sound_pattern_list bracket.Round b g.0 g.1) (sound_braced g.0.1 f.0 f.1))

  -- behind `to`
  sound_to : (a : List Token) (x : MethodTree × List Token) → taking_at within true a ≡ Some x → Method (token.Word word.To ∷ a) x.0 x.1
  sound_to a x e =
      let g = bind_some (method_verb_at a) (λ v. pattern_list_at bracket.Round v.1 >>= λ ps. braced_at within ps.1 >>= λ b. Some (method_tree v.0 ps.0 (returning b.0), b.1)) e in
      let f = bind_some (pattern_list_at bracket.Round g.0.1) (λ ps. braced_at within ps.1 >>= λ b. Some (method_tree g.0.0 ps.0 (returning b.0), b.1)) g.2 in
      let k = bind_some (braced_at within f.0.1) (λ b. Some (method_tree g.0.0 f.0.0 (returning b.0), b.1)) f.2 in
      subst (λ z. Method (token.Word word.To ∷ z) x.0 x.1) (sym (verb_front a g.0 g.1))
      (subst (λ y. Method (token.Word word.To ∷ token.Name g.0.0 ∷ token.Sign sign.OpenRound ∷ g.0.1) y.0 y.1) (some_same k.2) (method_to (sound_pattern_list bracket.Round g.0.1 f.0 f.1) (sound_braced f.0.1 k.0 k.1)))

  -- behind `method`
  sound_plain : (a : List Token) (x : MethodTree × List Token) → taking_at within false a ≡ Some x → Method (token.Word word.Method ∷ a) x.0 x.1
  sound_plain a x e =
      let g = bind_some (method_verb_at a) (λ v. pattern_list_at bracket.Round v.1 >>= λ ps. braced_at within ps.1 >>= λ b. Some (method_tree v.0 ps.0 b.0, b.1)) e in
      let f = bind_some (pattern_list_at bracket.Round g.0.1) (λ ps. braced_at within ps.1 >>= λ b. Some (method_tree g.0.0 ps.0 b.0, b.1)) g.2 in
      let k = bind_some (braced_at within f.0.1) (λ b. Some (method_tree g.0.0 f.0.0 b.0, b.1)) f.2 in
      subst (λ z. Method (token.Word word.Method ∷ z) x.0 x.1) (sym (verb_front a g.0 g.1))
      (subst (λ y. Method (token.Word word.Method ∷ token.Name g.0.0 ∷ token.Sign sign.OpenRound ∷ g.0.1) y.0 y.1) (some_same k.2) (method_plain (sound_pattern_list bracket.Round g.0.1 f.0 f.1) (sound_braced f.0.1 k.0 k.1)))

  pub sound_method_word : (a : List Token) (returns : Bool) (x : MethodTree × List Token) → is_at_word is_method_word a ≡ true → is_at_word is_to_word a ≡ returns → taking_at within returns (rest_of a) ≡ Some x → Method a x.0 x.1
  sound_method_word a true x h k e = subst (λ z. Method z x.0 x.1) (sym (word_front is_to_word word.To to_word a k)) (sound_to (rest_of a) x e)
  sound_method_word a false x h k e = subst (λ z. Method z x.0 x.1) (sym (method_front a h k)) (sound_plain (rest_of a) x e)

  methods_step : (a : List Token) (ms : Methods) (b : List Token) (turn : Read Methods) (x : Methods × List Token) → methods_next within ms b ≡ Some turn → turn ≡ Some x → MethodList a ms b → MethodList a x.0 x.1
  methods_step a ms b turn x e k s = elim (if_is (is_at_word is_method_word b) (Some (method_at within b >>= λ m. Some (put_method ms m.0, m.1))) None e) [
    | inl h ↦
        let g = bind_some (method_at within b) (λ m. Some (put_method ms m.0, m.1)) (some_same h.1 ∙ k) in
        subst (λ y. MethodList a y.0 y.1) (some_same g.2) (methods_and s (sound_method_word b (is_at_word is_to_word b) g.0 h.0 refl g.1))
    | inr h ↦ absurd (none_some h.1)
  ]

  sound_methods : (a : List Token) (x : Methods × List Token) → methods_past_at within a ≡ Some x → MethodList a x.0 (token.Sign sign.CloseCurly ∷ x.1)
  sound_methods a x e =
      let g = bind_some (methods_at within a) (past (is_close bracket.Curly)) e in
      let p = past_is (is_close bracket.Curly) sign.CloseCurly (close_is bracket.Curly) g.0 x g.2 in
      subst (λ ms. MethodList a ms (token.Sign sign.CloseCurly ∷ x.1)) p.1 (subst (λ r. MethodList a g.0.0 r) p.0
      (repeat_sound (methods_next within) (MethodList a) (methods_step a) (length a) no_methods a g.0 methods_none g.1))

  sound_members : (a b : List Token) (p : Pattern) (x : Tree × List Token) → Pat a p (token.Sign sign.OpenCurly ∷ b) → members_at within p b ≡ Some x → Primary (token.Word word.Def ∷ a) x.0 x.1
  sound_members a b p x q e =
      let g = bind_some (methods_past_at within b) (λ ms. Some (object_tree p ms.0, ms.1)) e in
      subst (λ y. Primary (token.Word word.Def ∷ a) y.0 y.1) (some_same g.2) (primary_object q (sound_methods b g.0 g.1))

  sound_body : (a b : List Token) (p : Pattern) (x : Tree × List Token) → Pat a p b → body_at within p b ≡ Some x → Primary (token.Word word.Def ∷ a) x.0 x.1
  sound_body a b p x q e = elim (if_is (is_open bracket.Curly (sign_in b)) (members_at within p (rest_of b)) (cond (is_open bracket.Round (sign_in b)) (function_at within p (rest_of b)) None) e) [
    | inl h ↦ sound_members a (rest_of b) p x (subst (λ r. Pat a p r) (sign_front b (open_is bracket.Curly (sign_in b) h.0)) q) h.1
    | inr h ↦ elim (if_is (is_open bracket.Round (sign_in b)) (function_at within p (rest_of b)) None h.1) [
      | inl k ↦ sound_function a (rest_of b) p x (subst (λ r. Pat a p r) (sign_front b (open_is bracket.Round (sign_in b) k.0)) q) k.1
      | inr k ↦ absurd (none_some k.1)
    ]
  ]

  sound_object : (a : List Token) (x : Tree × List Token) → object_at within a ≡ Some x → Primary (token.Word word.Def ∷ a) x.0 x.1
  sound_object a x e =
      let g = bind_some (pattern_at a) (λ p. body_at within p.0 p.1) e in
      sound_body a g.0.1 g.0.0 x (sound_pattern a g.0 g.1) g.2

  sound_control : (w : words.Reserved) (a : List Token) (x : Tree × List Token) → control_at within w a ≡ Some x → Primary (token.Word w ∷ a) x.0 x.1
  sound_control word.If a x e = primary_if (sound_if a x e)
  sound_control word.While a x e = sound_while a x e
  sound_control word.For a x e = sound_for a x e
  sound_control word.Try a x e = sound_try a x e
  sound_control word.Throw a x e = sound_throw a x e
  sound_control word.Escape a x e = sound_escape a x e
  sound_control word.Def a x e = sound_object a x e
  sound_control word.When a x e = sound_when a x e
  sound_control word.Ref a x e = sound_ref a x e
  sound_control _ a x e = absurd (none_some e)

  sound_word : (w : words.Reserved) (a : List Token) (x : Tree × List Token) → word_at within w a ≡ Some x → Primary (token.Word w ∷ a) x.0 x.1
  sound_word w a x e = elim (or_else_is (literal_of w) (control_at within w a) (λ t. Some (t, a)) e) [
    | inl h ↦ sound_control w a x h.1
    | inr h ↦ subst (λ y. Primary (token.Word w ∷ a) y.0 y.1) (some_same h.2) (sound_literal w a h.0 h.1)
  ]

  sound_list : (a : List Token) (x : Tree × List Token) → list_at within a ≡ Some x → Primary (token.Sign sign.OpenSquare ∷ a) x.0 x.1
  sound_list a x e =
      let g = bind_some (args_at within bracket.Square a) (λ y. Some (list_tree y.0, y.1)) e in
      subst (λ y. Primary (token.Sign sign.OpenSquare ∷ a) y.0 y.1) (some_same g.2) (primary_list (sound_args bracket.Square a g.0 g.1))

  sound_group : (a : List Token) (x : Tree × List Token) → group_at within a ≡ Some x → Primary (token.Sign sign.OpenRound ∷ a) x.0 x.1
  sound_group a x e =
      let g = bind_some (expr_at within a) (past (is_close bracket.Round)) e in
      let p = past_is (is_close bracket.Round) sign.CloseRound (close_is bracket.Round) g.0 x g.2 in
      primary_group (subst (λ t. Expr a t (token.Sign sign.CloseRound ∷ x.1)) p.1 (subst (λ r. Expr a g.0.0 r) p.0 (sound_expr a g.0 g.1)))

  sound_hide : (a : List Token) (x : Tree × List Token) → hide_at within a ≡ Some x → Primary (token.Sign sign.OpenCurly ∷ a) x.0 x.1
  sound_hide a x e =
      let g = bind_some (block_past_at within a) (λ b. Some (hide b.0, b.1)) e in
      subst (λ y. Primary (token.Sign sign.OpenCurly ∷ a) y.0 y.1) (some_same g.2) (primary_hide (sound_block_past a g.0 g.1))

  sound_bracket : (s : signs.Sign) (a : List Token) (x : Tree × List Token) → bracket_at within s a ≡ Some x → Primary (token.Sign s ∷ a) x.0 x.1
  sound_bracket sign.OpenRound a x e = sound_group a x e
  sound_bracket sign.OpenSquare a x e = sound_list a x e
  sound_bracket sign.OpenCurly a x e = sound_hide a x e
  sound_bracket _ a x e = absurd (none_some e)

  sound_primary : (a : List Token) (x : Tree × List Token) → primary_at within a ≡ Some x → Primary a x.0 x.1
  sound_primary [] x e = absurd (none_some e)
  sound_primary (token.Int z ∷ a) x e = subst (λ y. Primary (token.Int z ∷ a) y.0 y.1) (some_same e) primary_int
  sound_primary (token.Text s ∷ a) x e = subst (λ y. Primary (token.Text s ∷ a) y.0 y.1) (some_same e) primary_text
  sound_primary (token.Name n ∷ a) x e = subst (λ y. Primary (token.Name n ∷ a) y.0 y.1) (some_same e) primary_name
  sound_primary (token.Word w ∷ a) x e = sound_word w a x e
  sound_primary (token.Sign s ∷ a) x e = sound_bracket s a x e

  sound_method : (a b c r : List Token) (t : Tree) (ts : Trees) (v : Name) → verb_at link.Method b ≡ Some (v, c) → Postfix a t (token.Sign sign.Dot ∷ b) → Args c ts (token.Sign sign.CloseRound ∷ r) → Postfix a (call t v ts) r
  sound_method a [] c r t ts v e s p = absurd (none_some e)
  sound_method a (token.Name w ∷ b) c r t ts v e s p =
      let n = past_is (is_open bracket.Round) sign.OpenRound (open_is bracket.Round) (w, b) (v, c) e in
      subst (λ w. Postfix a (call t w ts) r) n.1 (postfix_method (subst (λ z. Postfix a t (token.Sign sign.Dot ∷ token.Name w ∷ z)) n.0 s) p)
  sound_method a (_ ∷ b) c r t ts v e s p = absurd (none_some e)

  sound_send : (a b c r : List Token) (t : Tree) (ts : Trees) (v : Name) → send_verb_at b ≡ Some (v, c) → Postfix a t (token.Sign sign.SendTo ∷ b) → Args c ts (token.Sign sign.CloseRound ∷ r) → Postfix a (send t v ts) r
  sound_send a b c r t ts v e s p = elim (if_is (is_open bracket.Round (sign_in b)) (Some (codes "run", rest_of b)) (method_verb_at b) e) [
    | inl h ↦
        let f = sign_front b (open_is bracket.Round (sign_in b) h.0) in
        subst (λ w. Postfix a (send t w ts) r) (ap (λ y. y.0) (some_same h.1))
        (postfix_send_run (subst (λ z. Postfix a t (token.Sign sign.SendTo ∷ z)) f s) (subst (λ z. Args z ts (token.Sign sign.CloseRound ∷ r)) (sym (ap (λ y. y.1) (some_same h.1))) p))
    | inr h ↦ postfix_send (subst (λ z. Postfix a t (token.Sign sign.SendTo ∷ z)) (verb_front b (v, c) h.1) s) p
  ]

  sound_linked : (s : signs.Sign) (l : CallSign) (a b c r : List Token) (t : Tree) (ts : Trees) (v : Name)
      → link_of s ≡ Some l → verb_at l b ≡ Some (v, c) → Postfix a t (token.Sign s ∷ b) → Args c ts (token.Sign (close_sign (closer l)) ∷ r) → Postfix a (linked l t v ts) r
  sound_linked sign.Dot link.Method a b c r t ts v k e s p = sound_method a b c r t ts v e s p
  sound_linked sign.OpenRound link.Run a b c r t ts v k e s p =
      subst (λ w. Postfix a (call t w ts) r) (ap (λ y. y.0) (some_same e)) (postfix_run s (subst (λ z. Args z ts (token.Sign sign.CloseRound ∷ r)) (sym (ap (λ y. y.1) (some_same e))) p))
  sound_linked sign.OpenSquare link.Index a b c r t ts v k e s p =
      subst (λ w. Postfix a (call t w ts) r) (ap (λ y. y.0) (some_same e)) (postfix_get s (subst (λ z. Args z ts (token.Sign sign.CloseSquare ∷ r)) (sym (ap (λ y. y.1) (some_same e))) p))
  sound_linked sign.SendTo link.Send a b c r t ts v k e s p = sound_send a b c r t ts v e s p
  sound_linked _ _ a b c r t ts v k e s p = absurd (cc)

  postfix_step : (a : List Token) (t : Tree) (b : List Token) (turn : Read Tree) (x : Tree × List Token) → postfix_next within t b ≡ Some turn → turn ≡ Some x → Postfix a t b → Postfix a x.0 x.1
  postfix_step a t b turn x e k s = elim (or_else_is (front link_of b) None (λ l. Some (linked_at within l t (rest_of b))) e) [
    | inl h ↦ absurd (none_some h.1)
    | inr h ↦
        let g = bind_some (verb_at h.0 (rest_of b)) (λ v. args_at within (closer h.0) v.1 >>= λ y. Some (linked h.0 t v.0 y.0, y.1)) (some_same h.2 ∙ k) in
        let f = bind_some (args_at within (closer h.0) g.0.1) (λ y. Some (linked h.0 t g.0.0 y.0, y.1)) g.2 in
        let i = front_is link_of b h.1 in
        subst (λ y. Postfix a y.0 y.1) (some_same f.2)
        (sound_linked i.0 h.0 a (rest_of b) g.0.1 f.0.1 t f.0.0 g.0.0 i.2 g.1 (subst (λ r. Postfix a t r) i.1 s) (sound_args (closer h.0) g.0.1 f.0 f.1))
  ]

  sound_postfix : (a : List Token) (x : Tree × List Token) → postfix_at within a ≡ Some x → Postfix a x.0 x.1
  sound_postfix a x e =
      let g = bind_some (primary_at within a) (λ y. repeat (postfix_next within) (length y.1) y.0 y.1) e in
      repeat_sound (postfix_next within) (Postfix a) (postfix_step a) (length g.0.1) g.0.0 g.0.1 x (postfix_primary (sound_primary a g.0 g.1)) g.2

  pub sound_unary : (a : List Token) (x : Tree × List Token) → unary_at within a ≡ Some x → Unary a x.0 x.1
  sound_unary a x e = elim (or_else_is (front prefix_operator a) (postfix_at within a) (λ o. postfix_at within (rest_of a) >>= λ x. Some (call x.0 (prefix_verb o) none, x.1)) e) [
    | inl h ↦ unary_postfix (sound_postfix a x h.1)
    | inr h ↦
        let g = bind_some (postfix_at within (rest_of a)) (λ x. Some (call x.0 (prefix_verb h.0) none, x.1)) h.2 in
        let f = front_is prefix_operator a h.1 in
        subst (λ z. Unary z x.0 x.1) (sym f.1) (subst (λ y. Unary (token.Sign f.0 ∷ rest_of a) y.0 y.1) (some_same g.2) (unary_prefix f.2 (sound_postfix (rest_of a) g.0 g.1)))
  ]

  pub sound_product : (a : List Token) (x : Tree × List Token) → product_at within a ≡ Some x → Product a x.0 x.1
  sound_product = operands_sound product_operator (unary_at within) Product Unary sound_unary (λ a r t p. product_unary p) (λ a b r t u s o w e p. product_more w e p)

  pub sound_sum : (a : List Token) (x : Tree × List Token) → sum_at within a ≡ Some x → Sum a x.0 x.1
  sound_sum = operands_sound sum_operator (product_at within) Sum Product sound_product (λ a r t p. sum_product p) (λ a b r t u s o w e p. sum_more w e p)

  pub sound_comparison : (a : List Token) (x : Tree × List Token) → comparison_at within a ≡ Some x → Comparison a x.0 x.1
  sound_comparison a x e =
      let g = bind_some (sum_at within a) (λ x. or_else (front comparison_operator x.1) (Some x) (λ o. sum_at within (rest_of x.1) >>= λ y. Some (joined o x.0 y.0, y.1))) e in
      elim (or_else_is (front comparison_operator g.0.1) (Some g.0) (λ o. sum_at within (rest_of g.0.1) >>= λ y. Some (joined o g.0.0 y.0, y.1)) g.2) [
        | inl h ↦ comparison_sum (sound_sum a x (g.1 ∙ h.1))
        | inr h ↦
            let f = bind_some (sum_at within (rest_of g.0.1)) (λ y. Some (joined h.0 g.0.0 y.0, y.1)) h.2 in
            let i = front_is comparison_operator g.0.1 h.1 in
            subst (λ y. Comparison a y.0 y.1) (some_same f.2) (comparison_two (subst (λ r. Sum a g.0.0 r) i.1 (sound_sum a g.0 g.1)) i.2 (sound_sum (rest_of g.0.1) f.0 f.1))
      ]

  pub sound_conjunction : (a : List Token) (x : Tree × List Token) → conjunction_at within a ≡ Some x → Conjunction a x.0 x.1
  sound_conjunction = operands_sound and_operator (comparison_at within) Conjunction Comparison sound_comparison (λ a r t p. conjunction_comparison p) (λ a b r t u s o w e p. conjunction_more w e p)

  pub sound_disjunction : (a : List Token) (x : Tree × List Token) → disjunction_at within a ≡ Some x → Disjunction a x.0 x.1
  sound_disjunction = operands_sound or_operator (conjunction_at within) Disjunction Conjunction sound_conjunction (λ a r t p. disjunction_conjunction p) (λ a b r t u s o w e p. disjunction_more w e p)

mutual
  unfolding within_at

  pub sound_expression : (n : ℕ) (a : List Token) (x : Tree × List Token) → (within_at n).expression a ≡ Some x → Disjunction a x.0 x.1
  sound_expression zero a x e = absurd (none_some e)
  sound_expression (suc n) a x e = sound_disjunction (within_at n) (sound_expression n) (sound_conditional n) a x e

  pub sound_conditional : (n : ℕ) (a : List Token) (x : Tree × List Token) → (within_at n).conditional a ≡ Some x → Conditional a x.0 x.1
  sound_conditional zero a x e = absurd (none_some e)
  sound_conditional (suc n) a x e = sound_if (within_at n) (sound_expression n) (sound_conditional n) a x e

-- what is read is a program of the grammar
pub sound : (a : List Token) (ts : Trees) → program_at a ≡ Some (ts, []) → Program a ts
sound a ts e =
    let n = length a in
    let g = bind_some (block_at (within_at n) a) ended e in
    let k = needed (is_empty g.0.1) g.0 g.2 in
    subst (λ y. Block a y.0 y.1) k.1 (sound_block (within_at n) (sound_expression n) (sound_conditional n) a g.0 g.1)
