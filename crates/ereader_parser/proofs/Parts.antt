-- What the reader gives of a whole by what it gives of the parts.
use Rattle.std.proofs.Common.{◌≡◌, ◌-◌, ◌≤◌, ℕ, zero, suc, List, [], ◌∷◌, ◌++◌, Bool, true, false, cond, Option, None, Some, Result, Ok, Err, refl, sym, ap, ◌∙◌, arith}
use Rattle.std.specs.declared.alloc.Global.{Global}
use Rattle.std.specs.declared.vec.Vec.{Vec}
use Rattle.etoken.specs.declared.token.Token.{Token}
use Rattle.etoken.specs.declared.token.Reserved.{Reserved}
use Rattle.etoken.specs.declared.token.Reserved.TheVariants as word
use Rattle.kernele.specs.declared.tree.Expr.{Expr}
use Rattle.kernele.specs.declared.tree.Pattern.{Pattern}
use Rattle.kernele.specs.Tree.{Tree, Trees, Methods, while_tree, for_tree, try_tree, escape_tree, object_tree}
use Rattle.etoken.specs.declared.breaks.Bracket.{Bracket}
use Rattle.etoken.specs.declared.breaks.Bracket.TheVariants as bracket
use Rattle.ereader_signs.specs.declared.operator.Operator.{Operator}
use Rattle.ereader_signs.specs.declared.operator.Prefix.{Prefix}
use Rattle.ereader_signs.specs.Signs.{prefix_operator, comparison_operator}
use Rattle.ereader_signs.specs.declared.stop.ReadStop.{ReadStop}
use Rattle.ereader_signs.specs.declared.stop.ReadStop.TheVariants as stop
use Rattle.ereader_forms.specs.Forms.{joined, alone, function_tree, block_of, snoc}
use Rattle.ereader_nodes.specs.declared.target.Target.{Target}
use Rattle.ereader_nodes.specs.Nodes.{MethodTree, method_tree}
use Rattle.ereader_grammar.specs.Reading.{Read, ◌>>=◌, Within, within_at, rest_of, sign_in, front, is_open, is_close, is_comma, is_at_word, is_else_word, is_if_word, is_return_word, is_method_word, is_to_word, past, commas_next, items_at, args_at, braced_at, condition_at, else_at, if_at, each_at, pattern_at, pattern_list_at, name_at, tried_at, method_verb_at, method_at, methods_next, methods_at, members_at, body_at, object_at, control_at, target_at, expr_at, primary_at, postfix_from, separator_at, unary_at, sum_at, comparison_from, disjunction_at}
use Rattle.ereader_grammar.proofs.Turns.{Turns}
use Rattle.ereader_grammar.proofs.Steps.{commas_fail, methods_fail}
use Rattle.ereader_forms.proofs.Views.{trees_push}
use Rattle.ereader_parser.specs.declared.head.Head.{Head}
use Rattle.ereader_parser.specs.declared.reader.Reader.{Reader}
use Rattle.ereader_parser.specs.Heads.{head_at, method_head_at, parameters_at, behind, prefixed, given_to}
use Rattle.ereader_parser.specs.View.{left_of, Fails, Gives, GivesMany, GivesHead, GivesPlace, GoesTo, Makes, MakesMany, MakesHead, PutsItem}

-- an expression that lies within others has one level fewer for its parts
pub expression_gives : (r : Result Expr ReadStop) (n : ℕ) (old new : Reader) → 1 ≤ n → Gives r old new (disjunction_at (within_at (n - 1))) → Gives r old new (within_at n).expression
unfolding within_at
expression_gives (Err stop.Memory) n old new h g = tt
expression_gives _ zero old new h g = absurd (omega arith)
expression_gives (Ok e) (suc n) old new h g =
    let m : suc n - 1 ≡ n = omega arith in
    rw (rw m at g)
expression_gives (Err stop.Unexpected) (suc n) old new h g =
    let m : suc n - 1 ≡ n = omega arith in
    rw (rw m at g)

pub expression_none : (a : List Token) → (within_at 0).expression a ≡ None
unfolding within_at
expression_none a = refl

-- an `if` behind `else` has one level fewer for its parts
pub else_if_is : (n : ℕ) (a b d : List Token) → 1 ≤ n → is_at_word is_else_word a ≡ true → b ≡ rest_of a → is_at_word is_if_word b ≡ true → d ≡ rest_of b → {t : Tree} {r : List Token} → if_at (within_at (n - 1)) d ≡ Some (t, r) → else_at (within_at n) a ≡ Some (alone t, r)
unfolding within_at
else_if_is zero a b d h e f g k w = absurd (omega arith)
else_if_is (suc n) a b d h e f g k w =
    let m : suc n - 1 ≡ n = omega arith in
    rw (e, ← f, g, ← k, rw m at w)

pub else_if_fails : (s : ReadStop) (n : ℕ) (a b d : List Token) → 1 ≤ n → is_at_word is_else_word a ≡ true → b ≡ rest_of a → is_at_word is_if_word b ≡ true → d ≡ rest_of b → Fails s (if_at (within_at (n - 1)) d) → Fails s (else_at (within_at n) a)
unfolding within_at
else_if_fails stop.Memory n a b d h e f g k w = tt
else_if_fails stop.Unexpected zero a b d h e f g k w = absurd (omega arith)
else_if_fails stop.Unexpected (suc n) a b d h e f g k w =
    let m : suc n - 1 ≡ n = omega arith in
    rw (e, ← f, g, ← k, rw m at w)

pub else_if_none : (a b : List Token) → is_at_word is_else_word a ≡ true → b ≡ rest_of a → is_at_word is_if_word b ≡ true → else_at (within_at 0) a ≡ None
unfolding within_at
else_if_none a b e f g = rw (e, ← f, g)

-- what is made of parts that were read is what is read of the whole
pub makes : (r : Result Expr ReadStop) (old new : Reader) (read : List Token → Read Tree) {t : Tree} → Makes r t → read (left_of old) ≡ Some (t, left_of new) → Gives r old new read
makes (Ok e) old new read m h = rw m h
makes (Err stop.Unexpected) old new read m h = absurd (cc)
makes (Err stop.Memory) old new read m h = tt

pub makes_many : (r : Result (Vec Expr Global) ReadStop) (old new : Reader) (read : List Token → Read Trees) {ts : Trees} → MakesMany r ts → read (left_of old) ≡ Some (ts, left_of new) → GivesMany r old new read
makes_many (Ok es) old new read m h = rw m h
makes_many (Err stop.Unexpected) old new read m h = absurd (cc)
makes_many (Err stop.Memory) old new read m h = tt

pub makes_head : (r : Result Head ReadStop) (old new : Reader) (read : List Token → Read (Trees → Tree)) {whole : Trees → Tree} → MakesHead r whole → read (left_of old) ≡ Some (whole, left_of new) → GivesHead r old new read
makes_head (Ok h) old new read m e = e ∙ ap (λ w. Some (w, left_of new)) (sym m)
makes_head (Err stop.Unexpected) old new read m e = absurd (cc)
makes_head (Err stop.Memory) old new read m e = tt

pub puts_item : (r : Result Unit ReadStop) (old new : Reader) (before : List Expr) (e : Expr) (after : List Expr) → after ≡ before ++ e ∷ [] → GoesTo r old new separator_at → PutsItem r old before e new after
puts_item (Ok x) old new before e after h g = (rw h (trees_push before e), g)
puts_item (Err s) old new before e after h g = g

bind_again : {A B C : Type 0} (m : Option A) (f : A → Option B) (g : B → Option C) → ((m >>= f) >>= g) ≡ (m >>= λ x. f x >>= g)
bind_again None f g = refl
bind_again (Some x) f g = refl

bind_same : {A B : Type 0} (m : Option A) (f g : A → Option B) → ((x : A) → f x ≡ g x) → (m >>= f) ≡ (m >>= g)
bind_same None f g e = refl
bind_same (Some x) f g e = e x

bind_if : {A B : Type 0} (b : Bool) (m : Option A) (f : A → Option B) → cond b (m >>= f) None ≡ (cond b m None >>= f)
bind_if true m f = refl
bind_if false m f = refl

-- a word whose whole has a last block behind its head, or that begins nothing
abbrev pub has_head : Reserved → Bool
has_head word.If = false
has_head word.Throw = false
has_head word.Def = false
has_head word.When = false
has_head word.Ref = false
has_head _ = true

pub other_word : (w : Reserved) → (w ≡ word.If → ⊥) → (w ≡ word.Throw → ⊥) → (w ≡ word.Def → ⊥) → (w ≡ word.When → ⊥) → (w ≡ word.Ref → ⊥) → has_head w ≡ true
other_word word.If f g h i j = absurd (f refl)
other_word word.Throw f g h i j = absurd (g refl)
other_word word.Def f g h i j = absurd (h refl)
other_word word.When f g h i j = absurd (i refl)
other_word word.Ref f g h i j = absurd (j refl)
other_word _ f g h i j = refl

module _ (within : Within) where
  pub condition_is : (a b : List Token) {d : List Token} {t : Tree} → is_open bracket.Round (sign_in a) ≡ true → b ≡ rest_of a → within.expression b ≡ Some (t, d) → condition_at within a ≡ past (is_close bracket.Round) (t, d)
  condition_is a b e f g = rw (e, ← f, g)

  headed : (w : Reserved) (a : List Token) → has_head w ≡ true → (head_at within w a >>= λ h. braced_at within h.1 >>= λ b. Some (h.0 b.0, b.1)) ≡ control_at within w a
  headed word.If a e = absurd (cc)
  headed word.Throw a e = absurd (cc)
  headed word.Def a e = absurd (cc)
  headed word.When a e = absurd (cc)
  headed word.Ref a e = absurd (cc)
  headed word.While a e = bind_again (condition_at within a) (λ c. Some (while_tree c.0, c.1)) (λ h. braced_at within h.1 >>= λ b. Some (h.0 b.0, b.1))
  headed word.For a e =
      bind_again (each_at a) (λ p. within.expression p.1 >>= λ e. Some (for_tree p.0 e.0, e.1)) (λ h. braced_at within h.1 >>= λ b. Some (h.0 b.0, b.1))
      ∙ bind_same (each_at a) (λ p. (within.expression p.1 >>= λ e. Some (for_tree p.0 e.0, e.1)) >>= λ h. braced_at within h.1 >>= λ b. Some (h.0 b.0, b.1)) (λ p. within.expression p.1 >>= λ e. braced_at within e.1 >>= λ b. Some (for_tree p.0 e.0 b.0, b.1))
      (λ p. bind_again (within.expression p.1) (λ e. Some (for_tree p.0 e.0, e.1)) (λ h. braced_at within h.1 >>= λ b. Some (h.0 b.0, b.1)))
  headed word.Try a e =
      bind_again (tried_at within a) (λ b. pattern_at b.1 >>= λ p. Some (try_tree b.0 p.0, p.1)) (λ h. braced_at within h.1 >>= λ b. Some (h.0 b.0, b.1))
      ∙ bind_same (tried_at within a) (λ b. (pattern_at b.1 >>= λ p. Some (try_tree b.0 p.0, p.1)) >>= λ h. braced_at within h.1 >>= λ b. Some (h.0 b.0, b.1)) (λ b. pattern_at b.1 >>= λ p. braced_at within p.1 >>= λ h. Some (try_tree b.0 p.0 h.0, h.1))
      (λ b. bind_again (pattern_at b.1) (λ p. Some (try_tree b.0 p.0, p.1)) (λ h. braced_at within h.1 >>= λ b. Some (h.0 b.0, b.1)))
  headed word.Escape a e = bind_again (name_at a) (λ x. Some (escape_tree x.0, x.1)) (λ h. braced_at within h.1 >>= λ b. Some (h.0 b.0, b.1))
  headed _ a e = refl

  pub head_is : (w : Reserved) (a : List Token) {b d : List Token} {whole : Trees → Tree} {ts : Trees} → has_head w ≡ true → head_at within w a ≡ Some (whole, b) → braced_at within b ≡ Some (ts, d) → control_at within w a ≡ Some (whole ts, d)
  head_is w a {b} {d} {whole} e f g = sym (headed w a e) ∙ ap (λ y. y >>= λ h. braced_at within h.1 >>= λ b. Some (h.0 b.0, b.1)) f ∙ ap (λ y. y >>= λ b. Some (whole b.0, b.1)) g

  pub head_fails : (s : ReadStop) (w : Reserved) (a : List Token) → has_head w ≡ true → Fails s (head_at within w a) → Fails s (control_at within w a)
  head_fails stop.Unexpected w a e f = sym (headed w a e) ∙ ap (λ y. y >>= λ h. braced_at within h.1 >>= λ b. Some (h.0 b.0, b.1)) f
  head_fails stop.Memory w a e f = tt

  pub head_block_fails : (s : ReadStop) (w : Reserved) (a : List Token) {b : List Token} {whole : Trees → Tree} → has_head w ≡ true → head_at within w a ≡ Some (whole, b) → Fails s (braced_at within b) → Fails s (control_at within w a)
  head_block_fails stop.Unexpected w a {b} {whole} e f g = sym (headed w a e) ∙ ap (λ y. y >>= λ h. braced_at within h.1 >>= λ b. Some (h.0 b.0, b.1)) f ∙ ap (λ y. y >>= λ b. Some (whole b.0, b.1)) g
  head_block_fails stop.Memory w a e f g = tt

  pub for_is : (w : Reserved) (a b : List Token) {d r : List Token} {p : Pattern} {l : Tree} → w ≡ word.For → b ≡ rest_of a → each_at b ≡ Some (p, d) → within.expression d ≡ Some (l, r) → head_at within w (rest_of a) ≡ Some (for_tree p l, r)
  for_is w a b e f g h = rw (e, ← f, g, h)

  method_headed : (a : List Token) → (method_head_at a >>= λ h. braced_at within h.1 >>= λ b. Some (h.0 b.0, b.1)) ≡ method_at within a
  method_headed a =
      bind_again (method_verb_at (rest_of a)) (λ v. pattern_list_at bracket.Round v.1 >>= λ ps. Some (λ body. method_tree v.0 ps.0 (block_of (is_at_word is_to_word a) body), ps.1)) (λ h. braced_at within h.1 >>= λ b. Some (h.0 b.0, b.1))
      ∙ bind_same (method_verb_at (rest_of a)) (λ v. (pattern_list_at bracket.Round v.1 >>= λ ps. Some (λ body. method_tree v.0 ps.0 (block_of (is_at_word is_to_word a) body), ps.1)) >>= λ h. braced_at within h.1 >>= λ b. Some (h.0 b.0, b.1))
      (λ v. pattern_list_at bracket.Round v.1 >>= λ ps. braced_at within ps.1 >>= λ b. Some (method_tree v.0 ps.0 (block_of (is_at_word is_to_word a) b.0), b.1))
      (λ v. bind_again (pattern_list_at bracket.Round v.1) (λ ps. Some (λ body. method_tree v.0 ps.0 (block_of (is_at_word is_to_word a) body), ps.1)) (λ h. braced_at within h.1 >>= λ b. Some (h.0 b.0, b.1)))

  pub method_is : (a : List Token) {b d : List Token} {whole : Trees → MethodTree} {ts : Trees} → method_head_at a ≡ Some (whole, b) → braced_at within b ≡ Some (ts, d) → method_at within a ≡ Some (whole ts, d)
  method_is a {whole = whole} f g = sym (method_headed a) ∙ ap (λ y. y >>= λ h. braced_at within h.1 >>= λ b. Some (h.0 b.0, b.1)) f ∙ ap (λ y. y >>= λ b. Some (whole b.0, b.1)) g

  pub method_head_fails : (s : ReadStop) (p : Pattern) (a : List Token) {ms : Methods} (b : List Token) → Turns (methods_next within) (methods_at within a) ms b → is_at_word is_method_word b ≡ true → Fails s (method_head_at b) → Fails s (members_at within p a)
  method_head_fails stop.Unexpected p a b c e f =
      let k = methods_fail within c e (sym (method_headed b) ∙ ap (λ y. y >>= λ h. braced_at within h.1 >>= λ b. Some (h.0 b.0, b.1)) f) in
      rw k
  method_head_fails stop.Memory p a b c e f = tt

  pub method_block_fails : (s : ReadStop) (p : Pattern) (a : List Token) {ms : Methods} (b : List Token) {d : List Token} {whole : Trees → MethodTree} → Turns (methods_next within) (methods_at within a) ms b → is_at_word is_method_word b ≡ true
      → method_head_at b ≡ Some (whole, d) → Fails s (braced_at within d) → Fails s (members_at within p a)
  method_block_fails stop.Unexpected p a b {whole = whole} c e f g =
      let k = methods_fail within c e (sym (method_headed b) ∙ ap (λ y. y >>= λ h. braced_at within h.1 >>= λ b. Some (h.0 b.0, b.1)) f ∙ ap (λ y. y >>= λ b. Some (whole b.0, b.1)) g) in
      rw k
  method_block_fails stop.Memory p a b c e f g = tt

  pub members_are : (p : Pattern) (a b : List Token) {d : List Token} {ms : Methods} → methods_at within a ≡ Some (ms, b) → is_close bracket.Curly (sign_in b) ≡ true → d ≡ rest_of b → members_at within p a ≡ Some (object_tree p ms, d)
  members_are p a b e f g = rw (e, f, g)

  pub members_open : (p : Pattern) (a b : List Token) {ms : Methods} → methods_at within a ≡ Some (ms, b) → is_close bracket.Curly (sign_in b) ≡ false → members_at within p a ≡ None
  members_open p a b e f = rw (e, f)

  pub object_members : (a b d : List Token) {p : Pattern} → pattern_at a ≡ Some (p, b) → is_open bracket.Curly (sign_in b) ≡ true → d ≡ rest_of b → object_at within a ≡ members_at within p d
  object_members a b d e f g = rw (e, f, g)

  function_headed : (p : Pattern) (b : List Token) → is_open bracket.Curly (sign_in b) ≡ false
      → body_at within p b ≡ (parameters_at b >>= λ ps. braced_at within ps.1 >>= λ b. Some (function_tree p ps.0 b.0, b.1))
  function_headed p b e = rw e (bind_if (is_open bracket.Round (sign_in b)) (pattern_list_at bracket.Round (rest_of b)) (λ ps. braced_at within ps.1 >>= λ b. Some (function_tree p ps.0 b.0, b.1)))

  pub function_is : (a b : List Token) {d r : List Token} {p : Pattern} {ps : List Pattern} {ts : Trees} → pattern_at a ≡ Some (p, b) → is_open bracket.Curly (sign_in b) ≡ false
      → parameters_at b ≡ Some (ps, d) → braced_at within d ≡ Some (ts, r) → object_at within a ≡ Some (function_tree p ps ts, r)
  function_is a b {p = p} {ps = ps} e f g h =
      ap (λ y. y >>= λ p. body_at within p.0 p.1) e ∙ function_headed p b f ∙ ap (λ y. y >>= λ ps. braced_at within ps.1 >>= λ b. Some (function_tree p ps.0 b.0, b.1)) g
      ∙ ap (λ y. y >>= λ b. Some (function_tree p ps b.0, b.1)) h

  pub parameters_fail : (s : ReadStop) (a b : List Token) {p : Pattern} → pattern_at a ≡ Some (p, b) → is_open bracket.Curly (sign_in b) ≡ false → Fails s (parameters_at b) → Fails s (object_at within a)
  parameters_fail stop.Unexpected a b {p = p} e f g =
      ap (λ y. y >>= λ p. body_at within p.0 p.1) e ∙ function_headed p b f ∙ ap (λ y. y >>= λ ps. braced_at within ps.1 >>= λ b. Some (function_tree p ps.0 b.0, b.1)) g
  parameters_fail stop.Memory a b e f g = tt

  pub function_fails : (s : ReadStop) (a b : List Token) {d : List Token} {p : Pattern} {ps : List Pattern} → pattern_at a ≡ Some (p, b) → is_open bracket.Curly (sign_in b) ≡ false
      → parameters_at b ≡ Some (ps, d) → Fails s (braced_at within d) → Fails s (object_at within a)
  function_fails stop.Unexpected a b {p = p} {ps = ps} e f g h =
      ap (λ y. y >>= λ p. body_at within p.0 p.1) e ∙ function_headed p b f ∙ ap (λ y. y >>= λ ps. braced_at within ps.1 >>= λ b. Some (function_tree p ps.0 b.0, b.1)) g
      ∙ ap (λ y. y >>= λ b. Some (function_tree p ps b.0, b.1)) h
  function_fails stop.Memory a b e f g h = tt

  pub args_are : (k : Bracket) (a b : List Token) {d : List Token} {ts : Trees} → is_close k (sign_in a) ≡ false → items_at within a ≡ Some (ts, b) → is_close k (sign_in b) ≡ true → d ≡ rest_of b → args_at within k a ≡ Some (ts, d)
  args_are k a b e f g h = rw (e, f, g, h)

  pub args_open : (k : Bracket) (a b : List Token) {ts : Trees} → is_close k (sign_in a) ≡ false → items_at within a ≡ Some (ts, b) → is_close k (sign_in b) ≡ false → args_at within k a ≡ None
  args_open k a b e f g = rw (e, f, g)

  pub first_arg_fails : (s : ReadStop) (k : Bracket) (a : List Token) → is_close k (sign_in a) ≡ false → Fails s (within.expression a) → Fails s (args_at within k a)
  first_arg_fails stop.Unexpected k a e f = rw (e, f)
  first_arg_fails stop.Memory k a e f = tt

  pub arg_fails : (s : ReadStop) (k : Bracket) (a : List Token) {ts : Trees} {b : List Token} (d : List Token) → is_close k (sign_in a) ≡ false → Turns (commas_next snoc within.expression) (items_at within a) ts b → is_comma (sign_in b) ≡ true → d ≡ rest_of b
      → Fails s (within.expression d) → Fails s (args_at within k a)
  arg_fails stop.Unexpected k a d e c f g h =
      let i = commas_fail snoc within.expression d c f g h in
      rw (e, i)
  arg_fails stop.Memory k a d e c f g h = tt

  pub given_is : (g : Option Target) (old between : Reader) {d : List Token} {u : Tree} → is_at_word is_return_word (left_of old) ≡ false → GivesPlace (Ok g) old between target_at → within.expression (left_of between) ≡ Some (u, d) → expr_at within (left_of old) ≡ Some (given_to g u, d)
  given_is None old between e f g = rw (e, f, g)
  given_is (Some x) old between e f g = rw (e, f, g)

  pub value_fails : (s : ReadStop) (g : Option Target) (old between : Reader) → is_at_word is_return_word (left_of old) ≡ false → GivesPlace (Ok g) old between target_at → Fails s (within.expression (left_of between)) → Fails s (expr_at within (left_of old))
  value_fails stop.Unexpected None old between e f g = rw (e, f, g)
  value_fails stop.Unexpected (Some x) old between e f g = rw (e, f, g)
  value_fails stop.Memory g old between e f h = tt

  pub unary_is : (o : Option Prefix) (a b : List Token) {c d : List Token} {t u : Tree} → o ≡ front prefix_operator a → b ≡ behind o a → primary_at within b ≡ Some (t, c) → postfix_from within t c ≡ Some (u, d) → unary_at within a ≡ Some (prefixed o u, d)
  unary_is None a b e f g h = rw (← e, ← f, g, h)
  unary_is (Some o) a b e f g h = rw (← e, ← f, g, h)

  pub primary_fails : (s : ReadStop) (o : Option Prefix) (a b : List Token) → o ≡ front prefix_operator a → b ≡ behind o a → Fails s (primary_at within b) → Fails s (unary_at within a)
  primary_fails stop.Unexpected None a b e f g = rw (← e, ← f, g)
  primary_fails stop.Unexpected (Some o) a b e f g = rw (← e, ← f, g)
  primary_fails stop.Memory o a b e f g = tt

  pub postfix_fails : (s : ReadStop) (o : Option Prefix) (a b : List Token) {c : List Token} {t : Tree} → o ≡ front prefix_operator a → b ≡ behind o a → primary_at within b ≡ Some (t, c) → Fails s (postfix_from within t c) → Fails s (unary_at within a)
  postfix_fails stop.Unexpected None a b e f g h = rw (← e, ← f, g, h)
  postfix_fails stop.Unexpected (Some o) a b e f g h = rw (← e, ← f, g, h)
  postfix_fails stop.Memory o a b e f g h = tt

  pub compared_is : (t : Tree) (a b : List Token) {d : List Token} {o : Operator} {u : Tree} → front comparison_operator a ≡ Some o → b ≡ rest_of a → sum_at within b ≡ Some (u, d) → comparison_from within t a ≡ Some (joined o t u, d)
  compared_is t a b e f g = rw (e, ← f, g)
