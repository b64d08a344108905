-- What the grammar says is what the reading functions give.
use Rattle.std.proofs.Common.{◌≡◌, ℕ, zero, suc, ◌<◌, ◌≤◌, List, [], ◌∷◌, length, Option, Some, None, refl, sym, ap, ◌∙◌, arith, Bool, true, false, cond, inl, inr, codes}
use Rattle.etoken.specs.declared.token.Token.{Token}
use Rattle.etoken.specs.declared.token.Token.TheVariants as token
use Rattle.etoken.specs.declared.token.Reserved.TheVariants as word
use Rattle.etoken.specs.declared.token.Sign as signs
use Rattle.etoken.specs.declared.token.Sign.TheVariants as sign
use Rattle.kernele.specs.declared.tree.Pattern.{Pattern}
use Rattle.kernele.specs.Tree.{Name, Tree, null_tree, define, define_list, variable, assign, call, list_tree, hide, if_tree, while_tree, for_tree, try_tree, primitive, object_tree, escape_tree, send, when_tree, when_catch_tree, Trees, none, and_then, Methods}
use Rattle.kernele.specs.declared.tree.Primitive.TheVariants as primitives
use Rattle.ereader_signs.specs.declared.operator.CallSign.TheVariants as link
use Rattle.etoken.specs.declared.breaks.Bracket.{Bracket}
use Rattle.etoken.specs.declared.breaks.Bracket.TheVariants as bracket
use Rattle.ereader_signs.specs.Signs.{product_operator, sum_operator, comparison_operator, and_operator, or_operator, link_of}
use Rattle.ereader_forms.specs.Forms.{joined, prefix_verb, snoc, alone, return_tree, function_tree, block_of}
use Rattle.ereader_nodes.specs.Nodes.{given, MethodTree, method_tree, Place, definition, definitions}
use Rattle.ereader_grammar.specs.Grammar.{Pat, pat_name, pat_ignore, Pats, pats_one, pats_and, PatList, pat_list_none, pat_list_some, Semicolons, semicolons_none, semicolons_more, Expr, expr_define, expr_define_list, expr_variable, expr_assign, expr_return, expr_return_null, expr_disjunction, Disjunction, disjunction_conjunction, disjunction_more, Conjunction, conjunction_comparison, conjunction_more, Comparison, comparison_sum, comparison_two, Sum, sum_product, sum_more, Product, product_unary, product_more, Unary, unary_postfix, unary_prefix, Postfix, postfix_primary, postfix_method, postfix_run, postfix_get, postfix_send, postfix_send_run, Primary, primary_int, primary_text, primary_true, primary_false, primary_null, primary_name, primary_list, primary_group, primary_hide, primary_if, primary_while, primary_for, primary_try, primary_throw, primary_escape, primary_object, primary_function, primary_when, primary_when_catch, primary_promise, primary_broken, primary_state, Method, method_to, method_plain, MethodList, methods_none, methods_and, Conditional, conditional_alone, conditional_else, conditional_else_if, Condition, condition, Braced, braced, Args, args_none, args_some, Items, items_one, items_and, Sequence, sequence_one, sequence_and, Block, block_empty, block_items, Program}
use Rattle.ereader_grammar.specs.Reading.{Read, ◌>>=◌, or_else, rest_of, sign_in, front, is_comma, is_semicolon, is_becomes, is_close, past, past_word, operand_next, commas_next, push_pattern, Within, items_at, args_at, is_at_word, is_var_word, is_if_word, is_in_word, is_catch_word, is_arrow, when_from, is_assignment, pattern_at, patterns_at, pattern_list_at, define_list_at, define_one_at, define_at, target_at, is_definition, begins, taking_at, method_at, methods_next, methods_at, methods_past_at, body_at, return_at, given_at, expr_at, primary_at, linked_at, postfix_next, postfix_at, unary_at, product_at, sum_at, comparison_at, conjunction_at, disjunction_at, if_at, within_at, skip_semicolons, is_block_end, separator_at, block_next, block_at, block_past_at, braced_at, condition_at, branch_at, else_at, ended, program_at}
use Rattle.ereader_grammar.proofs.Turns.{Turns, turns_begin, turns_more, if_is, some_same, none_some}
use Rattle.ereader_grammar.proofs.Steps.{methods_begin, methods_more, methods_end, operand_more, operand_end, postfix_end, commas_end, skip-end, block_begin, block_more, block_end}
use Rattle.ereader_grammar.proofs.Uses.{less_expr, less_pat, less_pat_list, less_disjunction, less_conjunction, less_comparison, less_sum, less_product, less_unary, less_postfix, less_conditional, less_condition, less_braced, less_args, less_items, le_semicolons, less_sequence, sign_strength, Below, product_none, sum_none, comparison_none, and_none, or_none, link_none, front_none, no_else, no_catch, product_strength, sum_strength, comparison_strength, and_strength, or_strength, no_prefix, no_close, no_def, no_var, no_return, begins_start, method_begins, less_method, less_methods, no_assignment, start_postfix, start_disjunction, start_items, expr_begins, expr_goes, sequence_begins, pat_begins, pats_begin, braced_begins}

complete_pat : (a r : List Token) (p : Pattern) → Pat a p r → pattern_at a ≡ Some (p, r)
complete_pat _ _ _ pat_name = refl
complete_pat _ _ _ pat_ignore = refl

turns_pats : (a r : List Token) (ps : List Pattern) → Pats a ps r → Turns (commas_next push_pattern pattern_at) (patterns_at a) ps r
turns_pats _ _ _ (pats_one {a = a} {r = r} {p = p} x) = turns_begin (commas_next push_pattern pattern_at) (λ p. p ∷ []) (pattern_at a) (complete_pat a r p x)
turns_pats _ _ _ (pats_and {b = c} {r = r} {p = p} {ps = ps} s x) =
    turns_more (commas_next push_pattern pattern_at) (pattern_at c >>= λ y. Some (push_pattern ps y.0, y.1)) (turns_pats _ _ _ s) refl
    (ap (λ o. o >>= λ y. Some (push_pattern ps y.0, y.1)) (complete_pat c r p x)) (omega (arith, less_pat x))

-- patterns up to a bracket, which is no comma
complete_pat_list : (close : Bracket) (s : signs.Sign) (a r : List Token) (ps : List Pattern) → is_close close (Some s) ≡ true → is_comma (Some s) ≡ false → PatList a ps (token.Sign s ∷ r) → pattern_list_at close a ≡ Some (ps, r)
complete_pat_list close s _ r _ e n pat_list_none = ap (λ o. cond o (Some ([], r)) (patterns_at (token.Sign s ∷ r) >>= past (is_close close))) e
complete_pat_list close s _ r _ e n (pat_list_some {a = a} {ps = ps} x) =
    ap (λ o. cond o (Some ([], rest_of a)) (patterns_at a >>= past (is_close close))) (pats_begin close x)
    ∙ ap (λ o. o >>= past (is_close close)) (commas_end push_pattern pattern_at (turns_pats a (token.Sign s ∷ r) ps x) n)
    ∙ ap (λ o. cond o (Some (ps, r)) None) e

-- what a definition binds
define_is : (a b : List Token) (p : Pattern) → Pat a p (token.Sign sign.Becomes ∷ b) → define_at a ≡ Some (Some (definition p), b)
define_is a b p q =
    ap (λ o. cond o (define_list_at (rest_of a)) (define_one_at a)) (pat_begins q)
    ∙ ap (λ o. (o >>= past is_becomes) >>= λ y. Some (Some (definition y.0), y.1)) (complete_pat a (token.Sign sign.Becomes ∷ b) p q)

define_list_is : (a b : List Token) (ps : List Pattern) → PatList a ps (token.Sign sign.CloseSquare ∷ token.Sign sign.Becomes ∷ b) → define_at (token.Sign sign.OpenSquare ∷ a) ≡ Some (Some (definitions ps), b)
define_list_is a b ps q = ap (λ o. (o >>= past is_becomes) >>= λ y. Some (Some (definitions y.0), y.1)) (complete_pat_list bracket.Square sign.CloseSquare a (token.Sign sign.Becomes ∷ b) ps refl refl q)

-- where there is no sign for it, a value is given to nothing
no_target : (a : List Token) → is_definition a ≡ false → is_at_word is_var_word a ≡ false → is_assignment a ≡ false → target_at a ≡ Some (None, a)
no_target a e f g = rw (e, f, g)

-- semicolons are gone past
skip_is : (a r : List Token) → Semicolons a r → is_semicolon (sign_in r) ≡ false → skip_semicolons a ≡ r
skip_is a _ semicolons_none h = skip-end a h
skip_is _ r (semicolons_more {a = a} s) h = skip_is a r s h

-- no semicolon is in front where a block ends
end_stops : (a : List Token) → is_block_end a ≡ true → is_semicolon (sign_in a) ≡ false
end_stops [] e = refl
end_stops (token.Sign s ∷ a) e = end_sign s e
  where
    end_sign : (s : signs.Sign) → is_close bracket.Curly (Some s) ≡ true → is_semicolon (Some s) ≡ false
    end_sign sign.CloseCurly e = refl
    end_sign _ e = absurd (cc)
end_stops (_ ∷ a) e = refl

separator_is : (a r : List Token) → Semicolons a r → is_block_end r ≡ true → separator_at a ≡ Some r
separator_is a _ semicolons_none e = ap (λ o. cond o (Some a) (cond (is_semicolon (sign_in a)) (Some (skip_semicolons a)) None)) e
separator_is _ r (semicolons_more {a = a} s) e = ap (λ r. Some r) (skip_is a r s (end_stops r e))

separates : (s : signs.Sign) → is_semicolon (Some s) ≡ true → sign_strength s < 1
separates sign.Semicolon e = omega arith
separates _ e = absurd (cc)

closes : (s : signs.Sign) → is_close bracket.Curly (Some s) ≡ true → sign_strength s < 1
closes sign.CloseCurly e = omega arith
closes _ e = absurd (cc)

separator_below : (a r : List Token) → separator_at a ≡ Some r → Below 1 a
separator_below [] r e = omega arith
separator_below (token.Sign s ∷ a) r e = elim (if_is (is_close bracket.Curly (Some s)) (Some (token.Sign s ∷ a)) (cond (is_semicolon (Some s)) (Some (skip_semicolons (token.Sign s ∷ a))) None) e) [
  | inl h ↦ closes s h.0
  | inr h ↦ elim (if_is (is_semicolon (Some s)) (Some (skip_semicolons (token.Sign s ∷ a))) None h.1) [
    | inl k ↦ separates s k.0
    | inr k ↦ absurd (none_some k.1)
  ]
]
separator_below (_ ∷ a) r e = absurd (none_some e)

ends_sign : (s : signs.Sign) → is_close bracket.Curly (Some s) ≡ true → begins (token.Sign s ∷ []) ≡ false
ends_sign sign.CloseCurly e = refl
ends_sign _ e = absurd (cc)

parts_sign : (s : signs.Sign) → is_semicolon (Some s) ≡ true → begins (token.Sign s ∷ []) ≡ false
parts_sign sign.Semicolon e = refl
parts_sign _ e = absurd (cc)

-- no expression begins where an item of a block ends
separator_ends : (a r : List Token) → separator_at a ≡ Some r → begins a ≡ false
separator_ends [] r e = refl
separator_ends (token.Sign s ∷ a) r e = elim (if_is (is_close bracket.Curly (Some s)) (Some (token.Sign s ∷ a)) (cond (is_semicolon (Some s)) (Some (skip_semicolons (token.Sign s ∷ a))) None) e) [
  | inl h ↦ ends_sign s h.0
  | inr h ↦ elim (if_is (is_semicolon (Some s)) (Some (skip_semicolons (token.Sign s ∷ a))) None h.1) [
    | inl k ↦ parts_sign s k.0
    | inr k ↦ absurd (none_some k.1)
  ]
]
separator_ends (_ ∷ a) r e = absurd (none_some e)

-- what the grammar gives is read, where within reads what is no longer than m
module _ (m : ℕ) (within : Within)
    (inside : (a r : List Token) (t : Tree) → length a ≤ m → Disjunction a t r → Below 1 r → within.expression a ≡ Some (t, r))
    (chained : (a r : List Token) (t : Tree) → length a ≤ m → Conditional a t r → Below 7 r → within.conditional a ≡ Some (t, r)) where
  turns_items : (a r : List Token) (ts : Trees) → length a ≤ m → Items a ts r → Below 1 r → Turns (commas_next snoc within.expression) (items_at within a) ts r
  turns_items _ _ _ h (items_one {a = a} {r = r} {t = t} x) b = turns_begin (commas_next snoc within.expression) (λ u. and_then u none) (within.expression a) (inside a r t h x b)
  turns_items _ _ _ h (items_and {b = c} {r = r} {t = t} {ts = ts} s x) b =
      turns_more (commas_next snoc within.expression) (within.expression c >>= λ y. Some (snoc ts y.0, y.1)) (turns_items _ _ _ h s (omega arith)) refl
      (ap (λ o. o >>= λ y. Some (snoc ts y.0, y.1)) (inside c r t (omega (arith, h, less_items s)) x b)) (omega (arith, less_disjunction x))

  complete_args : (close : Bracket) (s : signs.Sign) (a r : List Token) (ts : Trees) → is_close close (Some s) ≡ true → is_comma (Some s) ≡ false → sign_strength s < 1 → length a ≤ m → Args a ts (token.Sign s ∷ r) → args_at within close a ≡ Some (ts, r)
  complete_args close s _ r _ e n w h args_none = ap (λ o. cond o (Some (none, r)) (items_at within (token.Sign s ∷ r) >>= past (is_close close))) e
  complete_args close s _ r _ e n w h (args_some {a = a} {ts = ts} x) =
      ap (λ o. cond o (Some (none, rest_of a)) (items_at within a >>= past (is_close close))) (no_close close a (start_items x))
      ∙ ap (λ o. o >>= past (is_close close)) (commas_end snoc within.expression (turns_items a (token.Sign s ∷ r) ts h x w) n)
      ∙ ap (λ o. cond o (Some (ts, r)) None) e

  -- the value behind what it is given to
  abbrev value_at : Option Place × List Token → Read Tree
  value_at g = or_else g.0 (within.expression g.1) (λ t. within.expression g.1 >>= λ x. Some (given t x.0, x.1))

  -- with a definition in front
  define_goes : (a r : List Token) (g : Option Place × List Token) → is_definition (token.Word word.Def ∷ a) ≡ true → define_at a ≡ Some g → expr_at within (token.Word word.Def ∷ a) ≡ value_at g
  define_goes a r g e k = ap (λ o. cond o (define_at a) (Some (None, token.Word word.Def ∷ a)) >>= value_at) e ∙ ap (λ o. o >>= value_at) k

  bound_front : (a b : List Token) (p : Pattern) → Pat a p (token.Sign sign.Becomes ∷ b) → is_definition (token.Word word.Def ∷ a) ≡ true
  bound_front _ _ _ pat_name = refl
  bound_front _ _ _ pat_ignore = refl

  complete_expr : (a r : List Token) (t : Tree) → length a ≤ m → Expr a t r → Below 1 r → begins r ≡ false → expr_at within a ≡ Some (t, r)
  complete_expr _ _ _ h (expr_define {a = a} {b = c} {r = r} {p = p} {t = t} q x) b e =
      define_goes a r (Some (definition p), c) (bound_front a c p q) (define_is a c p q)
      ∙ ap (λ o. o >>= λ x. Some (define p x.0, x.1)) (inside c r t (omega (arith, h, less_pat q)) x b)
  complete_expr _ _ _ h (expr_define_list {a = a} {b = c} {r = r} {ps = ps} {t = t} q x) b e =
      define_goes (token.Sign sign.OpenSquare ∷ a) r (Some (definitions ps), c) refl (define_list_is a c ps q)
      ∙ ap (λ o. o >>= λ x. Some (define_list ps x.0, x.1)) (inside c r t (omega (arith, h, less_pat_list q)) x b)
  complete_expr _ _ _ h (expr_variable {a = a} {r = r} {x = y} {t = t} x) b e = ap (λ o. o >>= λ x. Some (variable y x.0, x.1)) (inside a r t (omega (arith, h)) x b)
  complete_expr _ _ _ h (expr_assign {a = a} {r = r} {x = y} {t = t} x) b e = ap (λ o. o >>= λ x. Some (assign y x.0, x.1)) (inside a r t (omega (arith, h)) x b)
  complete_expr _ _ _ h (expr_return {a = a} {r = r} {t = t} x) b e =
      ap (λ o. cond o (within.expression a >>= λ y. Some (return_tree y.0, y.1)) (Some (return_tree null_tree, a))) (begins_start a (start_disjunction x))
      ∙ ap (λ o. o >>= λ y. Some (return_tree y.0, y.1)) (inside a r t (omega (arith, h)) x b)
  complete_expr _ _ _ h (expr_return_null {r = r}) b e = ap (λ o. cond o (within.expression r >>= λ y. Some (return_tree y.0, y.1)) (Some (return_tree null_tree, r))) e
  complete_expr _ _ _ h (expr_disjunction {a = a} {r = r} {t = t} x) b e =
      let start = start_disjunction x in
      ap (λ o. cond o (return_at within (rest_of a)) (given_at within a)) (no_return a start)
      ∙ ap (λ o. o >>= value_at) (no_target a (no_def a start) (no_var a start) (no_assignment x b)) ∙ inside a r t h x b

  turns_sequence : (read : Read Trees) (a r s : List Token) (ts : Trees) → length a ≤ m → Turns (block_next within) read none a → Sequence a ts r → separator_at r ≡ Some s → Turns (block_next within) read ts s
  turns_sequence read _ _ s _ h c (sequence_one {a = a} {r = r} {t = t} x) e =
      block_more within t r s c (expr_goes x) (complete_expr a r t h x (separator_below r s e) (separator_ends r s e)) (less_expr x) e
  turns_sequence read _ _ s _ h c (sequence_and {a = a} {b = b} {c = d} {r = r} {t = t} {ts = ts} q p x) e =
      block_more within t r s
      (turns_sequence read a (token.Sign sign.Semicolon ∷ b) d ts h c q (ap (λ r. Some r) (skip_is b d p (expr_begins x))))
      (expr_goes x) (complete_expr d r t (omega (arith, h, less_sequence q, le_semicolons p)) x (separator_below r s e) (separator_ends r s e)) (less_expr x) e

  complete_block : (a r : List Token) (ts : Trees) → length a ≤ m → Block a ts r → is_block_end r ≡ true → block_at within a ≡ Some (ts, r)
  complete_block a r _ h (block_empty s) e = block_end within (block_begin within a r (sym (skip_is a r s (end_stops r e)))) e
  complete_block a r ts h (block_items {b = b} {c = c} s q p) e =
      block_end within
      (turns_sequence (block_at within a) b c r ts (omega (arith, h, le_semicolons s)) (block_begin within a b (sym (skip_is a b s (sequence_begins q)))) q (separator_is c r p e)) e

  complete_block_past : (a r : List Token) (ts : Trees) → length a ≤ m → Block a ts (token.Sign sign.CloseCurly ∷ r) → block_past_at within a ≡ Some (ts, r)
  complete_block_past a r ts h x = ap (λ o. o >>= past (is_close bracket.Curly)) (complete_block a (token.Sign sign.CloseCurly ∷ r) ts h x refl)

  complete_braced : (a r : List Token) (ts : Trees) → length a ≤ suc m → Braced a ts r → braced_at within a ≡ Some (ts, r)
  complete_braced _ r ts h (braced {a = a} x) = complete_block_past a r ts (omega (arith, h)) x

  complete_condition : (a r : List Token) (t : Tree) → length a ≤ suc m → Condition a t r → condition_at within a ≡ Some (t, r)
  complete_condition _ r t h (condition {a = a} x) = ap (λ o. o >>= past (is_close bracket.Round)) (inside a (token.Sign sign.CloseRound ∷ r) t (omega (arith, h)) x (omega arith))

  -- the second block of a choice, behind the first
  abbrev chosen_at : Tree → Trees → Read Trees → Read Tree
  chosen_at t ts o = o >>= λ d. Some (if_tree t ts d.0, d.1)

  complete_if : (a r : List Token) (t : Tree) → length a ≤ suc m → Conditional a t r → Below 7 r → if_at within a ≡ Some (t, r)
  complete_if _ _ _ h (conditional_alone {a = a} {b = b} {r = r} {t = t} {ts = ts} x y) k =
      ap (λ o. o >>= λ c. braced_at within c.1 >>= λ b. else_at within b.1 >>= λ d. Some (if_tree c.0 b.0 d.0, d.1)) (complete_condition a b t h x)
      ∙ ap (λ o. o >>= λ b. else_at within b.1 >>= λ d. Some (if_tree t b.0 d.0, d.1)) (complete_braced b r ts (omega (arith, h, less_condition x)) y)
      ∙ ap (λ o. chosen_at t ts (cond o (branch_at within (rest_of r)) (Some (none, r)))) (no_else r k)
  complete_if _ _ _ h (conditional_else {a = a} {b = b} {c = c} {r = r} {t = t} {ts = ts} {us = us} x y z) k =
      ap (λ o. o >>= λ c. braced_at within c.1 >>= λ b. else_at within b.1 >>= λ d. Some (if_tree c.0 b.0 d.0, d.1)) (complete_condition a b t h x)
      ∙ ap (λ o. o >>= λ b. else_at within b.1 >>= λ d. Some (if_tree t b.0 d.0, d.1)) (complete_braced b (token.Word word.Else ∷ c) ts (omega (arith, h, less_condition x)) y)
      ∙ ap (λ o. chosen_at t ts (cond o (within.conditional (rest_of c) >>= λ u. Some (alone u.0, u.1)) (braced_at within c))) (braced_begins z is_if_word)
      ∙ ap (chosen_at t ts) (complete_braced c r us (omega (arith, h, less_condition x, less_braced y)) z)
  complete_if _ _ _ h (conditional_else_if {a = a} {b = b} {c = c} {r = r} {t = t} {u = u} {ts = ts} x y z) k =
      ap (λ o. o >>= λ c. braced_at within c.1 >>= λ b. else_at within b.1 >>= λ d. Some (if_tree c.0 b.0 d.0, d.1)) (complete_condition a b t h x)
      ∙ ap (λ o. o >>= λ b. else_at within b.1 >>= λ d. Some (if_tree t b.0 d.0, d.1)) (complete_braced b (token.Word word.Else ∷ token.Word word.If ∷ c) ts (omega (arith, h, less_condition x)) y)
      ∙ ap (λ o. chosen_at t ts (o >>= λ u. Some (alone u.0, u.1))) (chained c r u (omega (arith, h, less_condition x, less_braced y)) z k)

  brace_below : {a r : List Token} {ts : Trees} → Braced a ts r → Below 1 a
  brace_below (braced x) = omega arith

  -- the parameters and the block of a method
  complete_taking : (returns : Bool) (v : Name) (a b r : List Token) (ps : List Pattern) (ts : Trees) → length a ≤ m → PatList a ps (token.Sign sign.CloseRound ∷ b) → Braced b ts r
      → taking_at within returns (token.Name v ∷ token.Sign sign.OpenRound ∷ a) ≡ Some (method_tree v ps (block_of returns ts), r)
  complete_taking returns v a b r ps ts h q x =
      ap (λ o. o >>= λ ps. braced_at within ps.1 >>= λ b. Some (method_tree v ps.0 (block_of returns b.0), b.1)) (complete_pat_list bracket.Round sign.CloseRound a b ps refl refl q)
      ∙ ap (λ o. o >>= λ b. Some (method_tree v ps (block_of returns b.0), b.1)) (complete_braced b r ts (omega (arith, h, less_pat_list q)) x)

  complete_method : (a r : List Token) (t : MethodTree) → length a ≤ suc m → Method a t r → method_at within a ≡ Some (t, r)
  complete_method _ _ _ h (method_to {a = a} {b = b} {r = r} {verb = v} {ps = ps} {ts = ts} q x) = complete_taking true v a b r ps ts (omega (arith, h)) q x
  complete_method _ _ _ h (method_plain {a = a} {b = b} {r = r} {verb = v} {ps = ps} {ts = ts} q x) = complete_taking false v a b r ps ts (omega (arith, h)) q x

  turns_methods : (a r : List Token) (ms : Methods) → length a ≤ suc m → MethodList a ms r → Turns (methods_next within) (methods_at within a) ms r
  turns_methods a _ _ h methods_none = methods_begin within a
  turns_methods _ _ _ h (methods_and {a = a} {b = b} {r = r} {ms = ms} {m = t} s x) =
      methods_more within t r (turns_methods a b ms h s) (method_begins x) (complete_method b r t (omega (arith, h, less_methods s)) x) (less_method x)

  -- the methods of an object and the brace behind them
  complete_methods : (a r : List Token) (ms : Methods) → length a ≤ suc m → MethodList a ms (token.Sign sign.CloseCurly ∷ r) → methods_past_at within a ≡ Some (ms, r)
  complete_methods a r ms h s = ap (λ o. o >>= past (is_close bracket.Curly)) (methods_end within (turns_methods a (token.Sign sign.CloseCurly ∷ r) ms h s) refl)

  complete_primary : (a r : List Token) (t : Tree) → length a ≤ suc m → Primary a t r → Below 7 r → primary_at within a ≡ Some (t, r)
  complete_primary _ _ _ h primary_int k = refl
  complete_primary _ _ _ h primary_text k = refl
  complete_primary _ _ _ h primary_true k = refl
  complete_primary _ _ _ h primary_false k = refl
  complete_primary _ _ _ h primary_null k = refl
  complete_primary _ _ _ h primary_name k = refl
  complete_primary _ _ _ h (primary_list {a = a} {r = r} {ts = ts} x) k =
      ap (λ o. o >>= λ y. Some (list_tree y.0, y.1)) (complete_args bracket.Square sign.CloseSquare a r ts refl refl (omega arith) (omega (arith, h)) x)
  complete_primary _ _ _ h (primary_group {a = a} {r = r} {t = t} x) k =
      ap (λ o. o >>= past (is_close bracket.Round)) (complete_expr a (token.Sign sign.CloseRound ∷ r) t (omega (arith, h)) x (omega arith) refl)
  complete_primary _ _ _ h (primary_hide {a = a} {r = r} {ts = ts} x) k =
      ap (λ o. o >>= λ b. Some (hide b.0, b.1)) (complete_block_past a r ts (omega (arith, h)) x)
  complete_primary _ _ _ h (primary_if {a = a} {r = r} {t = t} x) k = complete_if a r t (omega (arith, h)) x k
  complete_primary _ _ _ h (primary_while {a = a} {b = b} {r = r} {t = t} {ts = ts} x y) k =
      ap (λ o. o >>= λ c. braced_at within c.1 >>= λ b. Some (while_tree c.0 b.0, b.1)) (complete_condition a b t (omega (arith, h)) x)
      ∙ ap (λ o. o >>= λ b. Some (while_tree t b.0, b.1)) (complete_braced b r ts (omega (arith, h, less_condition x)) y)
  complete_primary _ _ _ h (primary_for {a = a} {b = b} {c = c} {r = r} {p = p} {t = t} {ts = ts} q x y) k =
      ap (λ o. (o >>= past_word is_in_word) >>= λ p. within.expression p.1 >>= λ e. braced_at within e.1 >>= λ b. Some (for_tree p.0 e.0 b.0, b.1)) (complete_pat a (token.Word word.In ∷ b) p q)
      ∙ ap (λ o. o >>= λ e. braced_at within e.1 >>= λ b. Some (for_tree p e.0 b.0, b.1)) (inside b c t (omega (arith, h, less_pat q)) x (brace_below y))
      ∙ ap (λ o. o >>= λ b. Some (for_tree p t b.0, b.1)) (complete_braced c r ts (omega (arith, h, less_pat q, less_disjunction x)) y)
  complete_primary _ _ _ h (primary_try {a = a} {b = b} {c = c} {r = r} {p = p} {ts = ts} {us = us} x q y) k =
      ap (λ o. (o >>= past_word is_catch_word) >>= λ b. pattern_at b.1 >>= λ p. braced_at within p.1 >>= λ h. Some (try_tree b.0 p.0 h.0, h.1)) (complete_braced a (token.Word word.Catch ∷ b) ts (omega (arith, h)) x)
      ∙ ap (λ o. o >>= λ p. braced_at within p.1 >>= λ h. Some (try_tree ts p.0 h.0, h.1)) (complete_pat b c p q)
      ∙ ap (λ o. o >>= λ h. Some (try_tree ts p h.0, h.1)) (complete_braced c r us (omega (arith, h, less_braced x, less_pat q)) y)
  complete_primary _ _ _ h (primary_throw {a = a} {r = r} {t = t} x) k =
      ap (λ o. o >>= λ e. Some (primitive primitives.Throw e.0, e.1)) (complete_condition a r t (omega (arith, h)) x)
  complete_primary _ _ _ h (primary_escape {a = a} {r = r} {x = x} {ts = ts} y) k =
      ap (λ o. o >>= λ b. Some (escape_tree x b.0, b.1)) (complete_braced a r ts (omega (arith, h)) y)
  complete_primary _ _ _ h (primary_object {a = a} {b = b} {r = r} {p = p} {ms = ms} q x) k =
      ap (λ o. o >>= λ p. body_at within p.0 p.1) (complete_pat a (token.Sign sign.OpenCurly ∷ b) p q)
      ∙ ap (λ o. o >>= λ ms. Some (object_tree p ms.0, ms.1)) (complete_methods b r ms (omega (arith, h, less_pat q)) x)
  complete_primary _ _ _ h (primary_function {a = a} {b = b} {c = c} {r = r} {p = p} {ps = ps} {ts = ts} q y x) k =
      ap (λ o. o >>= λ p. body_at within p.0 p.1) (complete_pat a (token.Sign sign.OpenRound ∷ b) p q)
      ∙ ap (λ o. o >>= λ ps. braced_at within ps.1 >>= λ b. Some (function_tree p ps.0 b.0, b.1)) (complete_pat_list bracket.Round sign.CloseRound b c ps refl refl y)
      ∙ ap (λ o. o >>= λ b. Some (function_tree p ps b.0, b.1)) (complete_braced c r ts (omega (arith, h, less_pat q, less_pat_list y)) x)
  complete_primary _ _ _ h (primary_when {a = a} {b = b} {r = r} {t = t} {ts = ts} x y) k =
      ap (λ o. (o >>= past is_arrow) >>= λ e. braced_at within e.1 >>= λ b. when_from within e.0 b.0 b.1) (complete_condition a (token.Sign sign.Arrow ∷ b) t (omega (arith, h)) x)
      ∙ ap (λ o. o >>= λ b. when_from within t b.0 b.1) (complete_braced b r ts (omega (arith, h, less_condition x)) y)
      ∙ ap (λ o. cond o (pattern_at (rest_of r) >>= λ p. braced_at within p.1 >>= λ h. Some (when_catch_tree t ts p.0 h.0, h.1)) (Some (when_tree t ts, r))) (no_catch r k)
  complete_primary _ _ _ h (primary_when_catch {a = a} {b = b} {c = c} {d = d} {r = r} {p = p} {t = t} {ts = ts} {us = us} x y q z) k =
      ap (λ o. (o >>= past is_arrow) >>= λ e. braced_at within e.1 >>= λ b. when_from within e.0 b.0 b.1) (complete_condition a (token.Sign sign.Arrow ∷ b) t (omega (arith, h)) x)
      ∙ ap (λ o. o >>= λ b. when_from within t b.0 b.1) (complete_braced b (token.Word word.Catch ∷ c) ts (omega (arith, h, less_condition x)) y)
      ∙ ap (λ o. o >>= λ p. braced_at within p.1 >>= λ h. Some (when_catch_tree t ts p.0 h.0, h.1)) (complete_pat c d p q)
      ∙ ap (λ o. o >>= λ h. Some (when_catch_tree t ts p h.0, h.1)) (complete_braced d r us (omega (arith, h, less_condition x, less_braced y, less_pat q)) z)
  complete_primary _ _ _ h primary_promise k = refl
  complete_primary _ _ _ h (primary_broken {a = a} {r = r} {t = t} x) k =
      ap (λ o. o >>= λ e. Some (primitive primitives.BreakRef e.0, e.1)) (complete_condition a r t (omega (arith, h)) x)
  complete_primary _ _ _ h (primary_state {a = a} {r = r} {t = t} x) k =
      ap (λ o. o >>= λ e. Some (primitive primitives.StateRef e.0, e.1)) (complete_condition a r t (omega (arith, h)) x)

  turns_postfix : (a r : List Token) (t : Tree) → length a ≤ suc m → Postfix a t r → Below 7 r → Turns (postfix_next within) (postfix_at within a) t r
  turns_postfix _ _ _ h (postfix_primary {a = a} {r = r} {t = t} p) k = turns_begin (postfix_next within) (λ u. u) (primary_at within a) (complete_primary a r t h p k)
  turns_postfix _ _ _ h (postfix_method {b = b} {r = r} {t = t} {verb = verb} {ts = ts} s p) k =
      turns_more (postfix_next within) (linked_at within link.Method t (token.Name verb ∷ token.Sign sign.OpenRound ∷ b)) (turns_postfix _ _ _ h s (omega arith)) refl
      (ap (λ o. o >>= λ y. Some (call t verb y.0, y.1)) (complete_args bracket.Round sign.CloseRound b r ts refl refl (omega arith) (omega (arith, h, less_postfix s)) p)) (omega (arith, less_args p))
  turns_postfix _ _ _ h (postfix_run {b = b} {r = r} {t = t} {ts = ts} s p) k =
      turns_more (postfix_next within) (linked_at within link.Run t b) (turns_postfix _ _ _ h s (omega arith)) refl
      (ap (λ o. o >>= λ y. Some (call t (codes "run") y.0, y.1)) (complete_args bracket.Round sign.CloseRound b r ts refl refl (omega arith) (omega (arith, h, less_postfix s)) p)) (omega (arith, less_args p))
  turns_postfix _ _ _ h (postfix_get {b = b} {r = r} {t = t} {ts = ts} s p) k =
      turns_more (postfix_next within) (linked_at within link.Index t b) (turns_postfix _ _ _ h s (omega arith)) refl
      (ap (λ o. o >>= λ y. Some (call t (codes "get") y.0, y.1)) (complete_args bracket.Square sign.CloseSquare b r ts refl refl (omega arith) (omega (arith, h, less_postfix s)) p)) (omega (arith, less_args p))
  turns_postfix _ _ _ h (postfix_send {b = b} {r = r} {t = t} {verb = verb} {ts = ts} s p) k =
      turns_more (postfix_next within) (linked_at within link.Send t (token.Name verb ∷ token.Sign sign.OpenRound ∷ b)) (turns_postfix _ _ _ h s (omega arith)) refl
      (ap (λ o. o >>= λ y. Some (send t verb y.0, y.1)) (complete_args bracket.Round sign.CloseRound b r ts refl refl (omega arith) (omega (arith, h, less_postfix s)) p)) (omega (arith, less_args p))
  turns_postfix _ _ _ h (postfix_send_run {b = b} {r = r} {t = t} {ts = ts} s p) k =
      turns_more (postfix_next within) (linked_at within link.Send t (token.Sign sign.OpenRound ∷ b)) (turns_postfix _ _ _ h s (omega arith)) refl
      (ap (λ o. o >>= λ y. Some (send t (codes "run") y.0, y.1)) (complete_args bracket.Round sign.CloseRound b r ts refl refl (omega arith) (omega (arith, h, less_postfix s)) p)) (omega (arith, less_args p))

  complete_postfix : (a r : List Token) (t : Tree) → length a ≤ suc m → Postfix a t r → Below 6 r → postfix_at within a ≡ Some (t, r)
  complete_postfix a r t h p b = postfix_end within (turns_postfix a r t h p (omega (arith, b))) (front_none link_of 6 link_none r b)

  complete_unary : (a r : List Token) (t : Tree) → length a ≤ suc m → Unary a t r → Below 6 r → unary_at within a ≡ Some (t, r)
  complete_unary _ _ _ h (unary_postfix {a = a} {r = r} {t = t} p) b =
      ap (λ o. or_else o (postfix_at within a) (λ o. postfix_at within (rest_of a) >>= λ x. Some (call x.0 (prefix_verb o) none, x.1))) (no_prefix a (start_postfix p)) ∙ complete_postfix a r t h p b
  complete_unary _ _ _ h (unary_prefix {a = a} {r = r} {t = t} {s = s} {o = o} e p) b =
      ap (λ o. or_else o (postfix_at within (token.Sign s ∷ a)) (λ o. postfix_at within a >>= λ x. Some (call x.0 (prefix_verb o) none, x.1))) e
      ∙ ap (λ y. y >>= λ x. Some (call x.0 (prefix_verb o) none, x.1)) (complete_postfix a r t (omega (arith, h)) p b)

  turns_product : (a r : List Token) (t : Tree) → length a ≤ suc m → Product a t r → Below 6 r → Turns (operand_next product_operator (unary_at within)) (product_at within a) t r
  turns_product _ _ _ h (product_unary {a = a} {r = r} {t = t} p) b = turns_begin (operand_next product_operator (unary_at within)) (λ u. u) (unary_at within a) (complete_unary a r t h p b)
  turns_product _ _ _ h (product_more {b = c} {r = r} {u = u} {s = s} q e p) b =
      operand_more product_operator (unary_at within) u c r (turns_product _ _ _ h q (product_strength s e)) e refl (complete_unary c r u (omega (arith, h, less_product q)) p b) (less_unary p)

  complete_product : (a r : List Token) (t : Tree) → length a ≤ suc m → Product a t r → Below 5 r → product_at within a ≡ Some (t, r)
  complete_product a r t h p b = operand_end product_operator (unary_at within) (turns_product a r t h p (omega (arith, b))) (front_none product_operator 5 product_none r b)

  turns_sum : (a r : List Token) (t : Tree) → length a ≤ suc m → Sum a t r → Below 5 r → Turns (operand_next sum_operator (product_at within)) (sum_at within a) t r
  turns_sum _ _ _ h (sum_product {a = a} {r = r} {t = t} p) b = turns_begin (operand_next sum_operator (product_at within)) (λ u. u) (product_at within a) (complete_product a r t h p b)
  turns_sum _ _ _ h (sum_more {b = c} {r = r} {u = u} {s = s} q e p) b =
      operand_more sum_operator (product_at within) u c r (turns_sum _ _ _ h q (sum_strength s e)) e refl (complete_product c r u (omega (arith, h, less_sum q)) p b) (less_product p)

  complete_sum : (a r : List Token) (t : Tree) → length a ≤ suc m → Sum a t r → Below 4 r → sum_at within a ≡ Some (t, r)
  complete_sum a r t h p b = operand_end sum_operator (product_at within) (turns_sum a r t h p (omega (arith, b))) (front_none sum_operator 4 sum_none r b)

  complete_comparison : (a r : List Token) (t : Tree) → length a ≤ suc m → Comparison a t r → Below 3 r → comparison_at within a ≡ Some (t, r)
  complete_comparison _ _ _ h (comparison_sum {a = a} {r = r} {t = t} s) b =
      ap (λ o. o >>= λ x. or_else (front comparison_operator x.1) (Some x) (λ o. sum_at within (rest_of x.1) >>= λ y. Some (joined o x.0 y.0, y.1))) (complete_sum a r t h s (omega (arith, b)))
      ∙ ap (λ o. or_else o (Some (t, r)) (λ o. sum_at within (rest_of r) >>= λ y. Some (joined o t y.0, y.1))) (front_none comparison_operator 3 comparison_none r b)
  complete_comparison _ _ _ h (comparison_two {a = a} {b = c} {r = r} {t = t} {u = u} {s = s} {o = o} q e p) b =
      ap (λ o. o >>= λ x. or_else (front comparison_operator x.1) (Some x) (λ o. sum_at within (rest_of x.1) >>= λ y. Some (joined o x.0 y.0, y.1))) (complete_sum a (token.Sign s ∷ c) t h q (comparison_strength s e))
      ∙ ap (λ o. or_else o (Some (t, token.Sign s ∷ c)) (λ o. sum_at within c >>= λ y. Some (joined o t y.0, y.1))) e
      ∙ ap (λ y. y >>= λ y. Some (joined o t y.0, y.1)) (complete_sum c r u (omega (arith, h, less_sum q)) p (omega (arith, b)))

  turns_conjunction : (a r : List Token) (t : Tree) → length a ≤ suc m → Conjunction a t r → Below 3 r → Turns (operand_next and_operator (comparison_at within)) (conjunction_at within a) t r
  turns_conjunction _ _ _ h (conjunction_comparison {a = a} {r = r} {t = t} p) b = turns_begin (operand_next and_operator (comparison_at within)) (λ u. u) (comparison_at within a) (complete_comparison a r t h p b)
  turns_conjunction _ _ _ h (conjunction_more {b = c} {r = r} {u = u} {s = s} q e p) b =
      operand_more and_operator (comparison_at within) u c r (turns_conjunction _ _ _ h q (and_strength s e)) e refl (complete_comparison c r u (omega (arith, h, less_conjunction q)) p b) (less_comparison p)

  complete_conjunction : (a r : List Token) (t : Tree) → length a ≤ suc m → Conjunction a t r → Below 2 r → conjunction_at within a ≡ Some (t, r)
  complete_conjunction a r t h p b = operand_end and_operator (comparison_at within) (turns_conjunction a r t h p (omega (arith, b))) (front_none and_operator 2 and_none r b)

  turns_disjunction : (a r : List Token) (t : Tree) → length a ≤ suc m → Disjunction a t r → Below 2 r → Turns (operand_next or_operator (conjunction_at within)) (disjunction_at within a) t r
  turns_disjunction _ _ _ h (disjunction_conjunction {a = a} {r = r} {t = t} p) b = turns_begin (operand_next or_operator (conjunction_at within)) (λ u. u) (conjunction_at within a) (complete_conjunction a r t h p b)
  turns_disjunction _ _ _ h (disjunction_more {b = c} {r = r} {u = u} {s = s} q e p) b =
      operand_more or_operator (conjunction_at within) u c r (turns_disjunction _ _ _ h q (or_strength s e)) e refl (complete_conjunction c r u (omega (arith, h, less_disjunction q)) p b) (less_conjunction p)

  complete_disjunction : (a r : List Token) (t : Tree) → length a ≤ suc m → Disjunction a t r → Below 1 r → disjunction_at within a ≡ Some (t, r)
  complete_disjunction a r t h p b = operand_end or_operator (conjunction_at within) (turns_disjunction a r t h p (omega (arith, b))) (front_none or_operator 1 or_none r b)

-- so what is no longer than n is read
mutual
  unfolding within_at

  complete_expression : (n : ℕ) (a r : List Token) (t : Tree) → length a ≤ n → Disjunction a t r → Below 1 r → (within_at n).expression a ≡ Some (t, r)
  complete_expression zero a r t h x b = absurd (omega (arith, h, less_disjunction x))
  complete_expression (suc n) a r t h x b = complete_disjunction n (within_at n) (complete_expression n) (complete_conditional n) a r t h x b

  complete_conditional : (n : ℕ) (a r : List Token) (t : Tree) → length a ≤ n → Conditional a t r → Below 7 r → (within_at n).conditional a ≡ Some (t, r)
  complete_conditional zero a r t h x b = absurd (omega (arith, h, less_conditional x))
  complete_conditional (suc n) a r t h x b = complete_if n (within_at n) (complete_expression n) (complete_conditional n) a r t h x b

-- a program of the grammar is read
pub complete : (a : List Token) (ts : Trees) → Program a ts → program_at a ≡ Some (ts, [])
complete a ts p =
    let n = length a in
    ap (λ o. o >>= ended) (complete_block n (within_at n) (complete_expression n) (complete_conditional n) a [] ts (omega arith) p refl)

pub one_program : (a : List Token) (ts us : Trees) → Program a ts → Program a us → ts ≡ us
one_program a ts us p q = ap (λ z. z.0) (some_same (sym (complete a ts p) ∙ complete a us q))
