-- What a text spells can be spelled.
use Rattle.std.proofs.Common.{◌≡◌, ℕ, Bool, true, false, not, cond, List, [], ◌∷◌, ◌++◌, sym, refl, ap, ◌∙◌, None, is_none, codes}
use Rattle.std.specs.Prelude.{◌&&◌}
use Rattle.std.specs.Str.{bytes_eq}
use Rattle.std.proofs.lemmas.Bool.{false≢true, false_from_ne_true, or_parts}
use Rattle.std.specs.Char.{is_ascii_digit}
use Rattle.std.proofs.lemmas.List.Sums.{list_all-from_AllPass}
use Rattle.std.proofs.lemmas.Slice.Eq.{bytes_eq-Decides}
use Rattle.etoken.specs.declared.token.Token.{Token}
use Rattle.etoken.specs.declared.token.Token.TheVariants as token
use Rattle.etoken.specs.declared.token.Placed.{Placed}
use Rattle.etoken.specs.declared.breaks.Bracket.{Bracket}
use Rattle.etoken.specs.Bytes.{is_letter, is_word_byte, begins_with}
use Rattle.etoken.specs.Table.{reserved_of}
use Rattle.etoken.specs.Spelling.{IsWord, Spells, spells_int, spells_text, spells_reserved, spells_underscore, spells_name, spells_sign}
use Rattle.etoken.specs.Cutting.{Piece, piece_at, Cuts, cuts_none, cuts_more}
use Rattle.etoken.specs.Breaks.{parts, semicolon_at, with_breaks_in, behind, may_end}
use Rattle.kernele.specs.declared.tree.Pattern.{Pattern}
use Rattle.kernele.specs.Tree.{Tree, null_tree, call, Trees, none, and_then, Methods, no_methods, and_method}
use Rattle.kernele.specs.Spelling.{spelling}
use Rattle.ereader_signs.specs.declared.operator.Operator.{Operator}
use Rattle.ereader_signs.specs.declared.operator.Operator.TheVariants as operator
use Rattle.ereader_signs.specs.declared.operator.Prefix.{Prefix}
use Rattle.ereader_signs.specs.declared.operator.Prefix.TheVariants as prefix
use Rattle.ereader_forms.specs.Forms.{joined, prefix_verb, snoc, returning}
use Rattle.ereader_nodes.specs.Nodes.{MethodTree, method_tree}
use Rattle.ereader_grammar.specs.Grammar.{put_method, Pat, pat_name, pat_ignore, Pats, pats_one, pats_and, PatList, pat_list_none, pat_list_some, Semicolons, semicolons_none, semicolons_more, Expr, expr_define, expr_define_list, expr_variable, expr_assign, expr_return, expr_return_null, expr_disjunction, Disjunction, disjunction_conjunction, disjunction_more, Conjunction, conjunction_comparison, conjunction_more, Comparison, comparison_sum, comparison_two, Sum, sum_product, sum_more, Product, product_unary, product_more, Unary, unary_postfix, unary_prefix, Postfix, postfix_primary, postfix_method, postfix_run, postfix_get, postfix_send, postfix_send_run, Primary, primary_int, primary_text, primary_true, primary_false, primary_null, primary_name, primary_list, primary_group, primary_hide, primary_if, primary_while, primary_for, primary_try, primary_throw, primary_escape, primary_object, primary_function, primary_when, primary_when_catch, primary_promise, primary_broken, primary_state, Method, method_to, method_plain, MethodList, methods_none, methods_and, Conditional, conditional_alone, conditional_else, conditional_else_if, Condition, condition, Braced, braced, Args, args_none, args_some, Items, items_one, items_and, Sequence, sequence_one, sequence_and, Block, block_empty, block_items}
use Rattle.ereader_grammar.specs.View.{plain}
use Rattle.ereader_grammar.specs.Spelled.{CutInto, cut_into, SpelledBy, IsName, HasLiteral, BindsName, BindNames, IsSpellable, AreSpellable, AreSpellableMethods}
use Rattle.ereader_grammar.proofs.Retold.{spells_itself}

-- a token that some text spells
abbrev IsWritable : Token → Type 0
IsWritable (token.Int z) = HasLiteral z
IsWritable (token.Name x) = IsName x
IsWritable _ = Unit {0}

-- all of them are such
abbrev AreWritable : List Token → Type 0
AreWritable [] = Unit {0}
AreWritable (t ∷ ts) = IsWritable t × AreWritable ts

-- a word that is not reserved and no `_` is a name
name_is : {a w r : List ℕ} → IsWord a w r → reserved_of w ≡ None → (w ≡ codes "_" → ⊥) → IsName w
name_is {a} {w} {r} is free other = λ i. letter i && list_all-from_AllPass is_word_byte w is.longest.passes i && not (underscore i) && is_none (free i)
  where
    begins : (w : List ℕ) → begins_with is_letter (w ++ r) ≡ true → begins_with is_word_byte r ≡ false → begins_with is_letter w ≡ true
    begins [] h stops = absurd (false≢true (letter_stops r h stops))
      where
        letter_stops : (r : List ℕ) → begins_with is_letter r ≡ true → begins_with is_word_byte r ≡ false → false ≡ true
        letter_stops [] h stops = h
        letter_stops (x ∷ r) h stops = sym (or_parts (is_letter x) (is_ascii_digit x) stops).0 ∙ h
    begins (x ∷ w) h stops = h

    letter : begins_with is_letter w ≡ true
    letter = begins w (sym (ap (begins_with is_letter) is.longest.whole) ∙ is.letter) is.longest.stops

    underscore : bytes_eq w (codes "_") ≡ false
    underscore = false_from_ne_true (bytes_eq w (codes "_")) (λ h. other ((bytes_eq-Decides w (codes "_")).0 h))

-- what a text spells
spells_writable : {a r : List ℕ} {t : Token} → Spells a t r → IsWritable t
spells_writable (spells_int digits small) = small
spells_writable (spells_text quoted) = tt
spells_writable (spells_reserved is known) = tt
spells_writable (spells_underscore is) = tt
spells_writable (spells_name is free other) = name_is is free other
spells_writable (spells_sign found) = tt

-- one more token, and before it the semicolon that a line break gives
one_more : (b : Bool) (s p : Placed) (more : List Placed) → IsWritable s.token → IsWritable p.token → AreWritable (plain more) → AreWritable (plain ((cond b (s ∷ []) [] ++ p ∷ []) ++ more))
one_more true s p more g h k = (g, (h, k))
one_more false s p more g h k = (h, k)

-- the tokens of a cut
cuts_writable : {n : ℕ} {a r : List ℕ} {ps : List Piece} (open_ones : List Bracket) (ended : Bool) → Cuts n a ps r → AreWritable (plain (with_breaks_in open_ones ended ps))
cuts_writable open_ones ended cuts_none = tt
cuts_writable open_ones ended (cuts_more {n = n} {b = b} {broken = broken} {t = t} {ps = ps} blanks spells cuts) =
    let p = piece_at n broken t b in
    one_more (parts open_ones ended p) (semicolon_at p.placed) p.placed (with_breaks_in (behind t open_ones) (may_end t) ps) tt (spells_writable spells) (cuts_writable (behind t open_ones) (may_end t) cuts)

-- the tokens of a text
cut_writable : {text : List ℕ} {ts : List Token} → CutInto text ts → AreWritable ts
cut_writable (cut_into cuts ended) = cuts_writable [] false cuts

-- one more at the end
snoc_spellable : (ts : Trees) (t : Tree) → AreSpellable ts → IsSpellable t → AreSpellable (snoc ts t)
snoc_spellable none t h k = (k, tt)
snoc_spellable (and_then u us) t h k = (h.0, snoc_spellable us t h.1 k)

-- the verbs of operators are names
joined_spellable : (o : Operator) (t u : Tree) → IsSpellable t → IsSpellable u → IsSpellable (joined o t u)
joined_spellable operator.Add t u h k = (h, refl, (k, tt))
joined_spellable operator.Subtract t u h k = (h, refl, (k, tt))
joined_spellable operator.Multiply t u h k = (h, refl, (k, tt))
joined_spellable operator.FloorDivide t u h k = (h, refl, (k, tt))
joined_spellable operator.LessThan t u h k = (h, refl, (k, tt))
joined_spellable operator.AtMost t u h k = (h, refl, (k, tt))
joined_spellable operator.MoreThan t u h k = (h, refl, (k, tt))
joined_spellable operator.AtLeast t u h k = (h, refl, (k, tt))
joined_spellable operator.Same t u h k = (h, k)
joined_spellable operator.Differ t u h k = ((h, k), refl, tt)
joined_spellable operator.And t u h k = (h, (k, tt), (tt, tt))
joined_spellable operator.Or t u h k = (h, (tt, tt), (k, tt))

-- so are those of operators before a tree
prefix_spellable : (o : Prefix) (t : Tree) → IsSpellable t → IsSpellable (call t (prefix_verb o) none)
prefix_spellable prefix.Not t h = (h, refl, tt)
prefix_spellable prefix.Negate t h = (h, refl, tt)

-- what a definition binds
pat_spellable : {a r : List Token} {p : Pattern} → Pat a p r → AreWritable a → BindsName p × AreWritable r
pat_spellable pat_name h = h
pat_spellable pat_ignore h = h

-- what the grammar gives to such tokens can be spelled, and the tokens behind it are such
abbrev Keeps : List Token → Type 0 → List Token → Type 0
Keeps a P r = AreWritable a → P × AreWritable r

-- one pattern more at the end
push_binds : (ps : List Pattern) (p : Pattern) → BindNames ps → BindsName p → BindNames (ps ++ (p ∷ []))
push_binds [] p h k = (k, tt)
push_binds (q ∷ ps) p h k = (h.0, push_binds ps p h.1 k)

pats_spellable : {a r : List Token} {ps : List Pattern} → Pats a ps r → Keeps a (BindNames ps) r
pats_spellable (pats_one p) = λ h. let q = pat_spellable p h in ((q.0, tt), q.1)
pats_spellable (pats_and {p = p} {ps = ps} s x) = λ h.
    let q = pats_spellable s h in
    let k = pat_spellable x q.1.1 in
    (push_binds ps p q.0 k.0, k.1)

pat_list_spellable : {a r : List Token} {ps : List Pattern} → PatList a ps r → Keeps a (BindNames ps) r
pat_list_spellable pat_list_none = λ h. (tt, h)
pat_list_spellable (pat_list_some x) = pats_spellable x

-- behind semicolons
semicolons : {a r : List Token} → Semicolons a r → AreWritable a → AreWritable r
semicolons semicolons_none = λ h. h
semicolons (semicolons_more x) = λ h. semicolons x h.1

-- a method can be spelled
abbrev IsSpellableMethod : MethodTree → Type 0
IsSpellableMethod (method_tree verb ps body) = IsName verb × BindNames ps × AreSpellable body

put_spellable : (ms : Methods) (m : MethodTree) → AreSpellableMethods ms → IsSpellableMethod m → AreSpellableMethods (put_method ms m)
put_spellable no_methods (method_tree verb ps body) h k = (k.0, k.1, k.2, tt)
put_spellable (and_method v qs b ms) m h k = (h.0, h.1, h.2, put_spellable ms m h.3 k)

-- so can the block of a method that may return
returning_spellable : (ts : Trees) → AreSpellable ts → AreSpellable (returning ts)
returning_spellable ts h = ((refl, snoc_spellable ts null_tree h tt), tt)

mutual
  expr : {a r : List Token} {t : Tree} → Expr a t r → Keeps a (IsSpellable t) r
  expr (expr_define p x) = λ h.
      let q = pat_spellable p h.1 in
      let y = disjunction x q.1.1 in
      ((q.0, y.0), y.1)
  expr (expr_define_list p x) = λ h.
      let q = pat_list_spellable p h.1.1 in
      let y = disjunction x q.1.1.1 in
      ((q.0, y.0), y.1)
  expr (expr_variable x) = λ h. let y = disjunction x h.1.1.1 in ((h.1.0, y.0), y.1)
  expr (expr_assign x) = λ h. let y = disjunction x h.1.1 in ((h.0, y.0), y.1)
  expr (expr_return x) = λ h. let y = disjunction x h.1 in ((refl, refl, (y.0, tt)), y.1)
  expr expr_return_null = λ h. ((refl, refl, (tt, tt)), h.1)
  expr (expr_disjunction x) = disjunction x

  disjunction : {a r : List Token} {t : Tree} → Disjunction a t r → Keeps a (IsSpellable t) r
  disjunction (disjunction_conjunction x) = conjunction x
  disjunction (disjunction_more {t = t} {u = u} {o = o} x e y) = λ h.
      let p = disjunction x h in
      let q = conjunction y p.1.1 in
      (joined_spellable o t u p.0 q.0, q.1)

  conjunction : {a r : List Token} {t : Tree} → Conjunction a t r → Keeps a (IsSpellable t) r
  conjunction (conjunction_comparison x) = comparison x
  conjunction (conjunction_more {t = t} {u = u} {o = o} x e y) = λ h.
      let p = conjunction x h in
      let q = comparison y p.1.1 in
      (joined_spellable o t u p.0 q.0, q.1)

  comparison : {a r : List Token} {t : Tree} → Comparison a t r → Keeps a (IsSpellable t) r
  comparison (comparison_sum x) = sum x
  comparison (comparison_two {t = t} {u = u} {o = o} x e y) = λ h.
      let p = sum x h in
      let q = sum y p.1.1 in
      (joined_spellable o t u p.0 q.0, q.1)

  sum : {a r : List Token} {t : Tree} → Sum a t r → Keeps a (IsSpellable t) r
  sum (sum_product x) = product x
  sum (sum_more {t = t} {u = u} {o = o} x e y) = λ h.
      let p = sum x h in
      let q = product y p.1.1 in
      (joined_spellable o t u p.0 q.0, q.1)

  product : {a r : List Token} {t : Tree} → Product a t r → Keeps a (IsSpellable t) r
  product (product_unary x) = unary x
  product (product_more {t = t} {u = u} {o = o} x e y) = λ h.
      let p = product x h in
      let q = unary y p.1.1 in
      (joined_spellable o t u p.0 q.0, q.1)

  unary : {a r : List Token} {t : Tree} → Unary a t r → Keeps a (IsSpellable t) r
  unary (unary_postfix x) = postfix x
  unary (unary_prefix {t = t} {o = o} e x) = λ h. let p = postfix x h.1 in (prefix_spellable o t p.0, p.1)

  postfix : {a r : List Token} {t : Tree} → Postfix a t r → Keeps a (IsSpellable t) r
  postfix (postfix_primary x) = primary x
  postfix (postfix_method x y) = λ h.
      let p = postfix x h in
      let q = args y p.1.1.1.1 in
      ((p.0, p.1.1.0, q.0), q.1.1)
  postfix (postfix_run x y) = λ h.
      let p = postfix x h in
      let q = args y p.1.1 in
      ((p.0, refl, q.0), q.1.1)
  postfix (postfix_get x y) = λ h.
      let p = postfix x h in
      let q = args y p.1.1 in
      ((p.0, refl, q.0), q.1.1)
  postfix (postfix_send x y) = λ h.
      let p = postfix x h in
      let q = args y p.1.1.1.1 in
      ((p.0, p.1.1.0, q.0), q.1.1)
  postfix (postfix_send_run x y) = λ h.
      let p = postfix x h in
      let q = args y p.1.1.1 in
      ((p.0, refl, q.0), q.1.1)

  primary : {a r : List Token} {t : Tree} → Primary a t r → Keeps a (IsSpellable t) r
  primary primary_int = λ h. h
  primary primary_text = λ h. h
  primary primary_true = λ h. h
  primary primary_false = λ h. h
  primary primary_null = λ h. h
  primary primary_name = λ h. h
  primary (primary_list x) = λ h. let p = args x h.1 in (p.0, p.1.1)
  primary (primary_group x) = λ h. let p = expr x h.1 in (p.0, p.1.1)
  primary (primary_hide x) = λ h. let p = block x h.1 in (p.0, p.1.1)
  primary (primary_if x) = λ h. conditional x h.1
  primary (primary_while x y) = λ h.
      let p = in_round x h.1 in
      let q = in_curly y p.1 in
      ((p.0, q.0), q.1)
  primary (primary_for o x y) = λ h.
      let p = pat_spellable o h.1 in
      let q = disjunction x p.1.1 in
      let b = in_curly y q.1 in
      ((p.0, q.0, b.0), b.1)
  primary (primary_try x o y) = λ h.
      let p = in_curly x h.1 in
      let q = pat_spellable o p.1.1 in
      let b = in_curly y q.1 in
      ((p.0, q.0, b.0), b.1)
  primary (primary_throw x) = λ h. in_round x h.1
  primary (primary_escape x) = λ h. let p = in_curly x h.1.1 in ((h.1.0, p.0), p.1)
  primary (primary_object o x) = λ h.
      let p = pat_spellable o h.1 in
      let q = methods x p.1.1 in
      ((p.0, q.0), q.1.1)
  primary (primary_function {ts = ts} o x y) = λ h.
      let p = pat_spellable o h.1 in
      let q = pat_list_spellable x p.1.1 in
      let b = in_curly y q.1.1 in
      ((p.0, (refl, q.0, returning_spellable ts b.0, tt)), b.1)
  primary (primary_when x y) = λ h.
      let p = in_round x h.1 in
      let q = in_curly y p.1.1 in
      ((p.0, q.0), q.1)
  primary (primary_when_catch x y o z) = λ h.
      let p = in_round x h.1 in
      let q = in_curly y p.1.1 in
      let k = pat_spellable o q.1.1 in
      let b = in_curly z k.1 in
      ((p.0, q.0, k.0, b.0), b.1)
  primary primary_promise = λ h. (tt, h.1.1.1.1.1)
  primary (primary_broken x) = λ h. in_round x h.1.1.1
  primary (primary_state x) = λ h. in_round x h.1.1.1

  method : {a r : List Token} {m : MethodTree} → Method a m r → Keeps a (IsSpellableMethod m) r
  method (method_to {ts = ts} x y) = λ h.
      let q = pat_list_spellable x h.1.1.1 in
      let b = in_curly y q.1.1 in
      ((h.1.0, q.0, returning_spellable ts b.0), b.1)
  method (method_plain x y) = λ h.
      let q = pat_list_spellable x h.1.1.1 in
      let b = in_curly y q.1.1 in
      ((h.1.0, q.0, b.0), b.1)

  methods : {a r : List Token} {ms : Methods} → MethodList a ms r → Keeps a (AreSpellableMethods ms) r
  methods methods_none = λ h. (tt, h)
  methods (methods_and {ms = ms} {m = m} x y) = λ h.
      let p = methods x h in
      let q = method y p.1 in
      (put_spellable ms m p.0 q.0, q.1)

  conditional : {a r : List Token} {t : Tree} → Conditional a t r → Keeps a (IsSpellable t) r
  conditional (conditional_alone x y) = λ h.
      let p = in_round x h in
      let q = in_curly y p.1 in
      ((p.0, q.0, tt), q.1)
  conditional (conditional_else x y z) = λ h.
      let p = in_round x h in
      let q = in_curly y p.1 in
      let b = in_curly z q.1.1 in
      ((p.0, q.0, b.0), b.1)
  conditional (conditional_else_if x y z) = λ h.
      let p = in_round x h in
      let q = in_curly y p.1 in
      let b = conditional z q.1.1.1 in
      ((p.0, q.0, (b.0, tt)), b.1)

  in_round : {a r : List Token} {t : Tree} → Condition a t r → Keeps a (IsSpellable t) r
  in_round (condition x) = λ h. let p = disjunction x h.1 in (p.0, p.1.1)

  in_curly : {a r : List Token} {ts : Trees} → Braced a ts r → Keeps a (AreSpellable ts) r
  in_curly (braced x) = λ h. let p = block x h.1 in (p.0, p.1.1)

  args : {a r : List Token} {ts : Trees} → Args a ts r → Keeps a (AreSpellable ts) r
  args args_none = λ h. (tt, h)
  args (args_some x) = items x

  items : {a r : List Token} {ts : Trees} → Items a ts r → Keeps a (AreSpellable ts) r
  items (items_one x) = λ h. let p = disjunction x h in ((p.0, tt), p.1)
  items (items_and {t = t} {ts = ts} x y) = λ h.
      let p = items x h in
      let q = disjunction y p.1.1 in
      (snoc_spellable ts t p.0 q.0, q.1)

  sequence : {a r : List Token} {ts : Trees} → Sequence a ts r → Keeps a (AreSpellable ts) r
  sequence (sequence_one x) = λ h. let p = expr x h in ((p.0, tt), p.1)
  sequence (sequence_and {t = t} {ts = ts} x s y) = λ h.
      let p = sequence x h in
      let q = expr y (semicolons s p.1.1) in
      (snoc_spellable ts t p.0 q.0, q.1)

  block : {a r : List Token} {ts : Trees} → Block a ts r → Keeps a (AreSpellable ts) r
  block (block_empty s) = λ h. (tt, semicolons s h)
  block (block_items s x e) = λ h. let p = sequence x (semicolons s h) in (p.0, semicolons e p.1)

-- a program that a text spells can be spelled
pub spellable : (text : List ℕ) (ts : Trees) → SpelledBy text ts → AreSpellable ts
spellable text ts (tokens, cut, program) = (block program (cut_writable cut)).0

-- the canonical spelling of a program that a text spells spells that program
pub reads_back : (text : List ℕ) (ts : Trees) → SpelledBy text ts → SpelledBy (spelling ts) ts
reads_back text ts h = spells_itself ts (spellable text ts h)
