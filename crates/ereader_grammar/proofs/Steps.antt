-- One more turn of what may come again and again.
use Rattle.std.proofs.Common.{◌≡◌, ℕ, suc, ◌<◌, ◌≤◌, List, [], ◌∷◌, ◌++◌, length, Bool, true, false, cond, Option, Some, None, refl, sym, ap, ◌∙◌, arith, inl, inr}
use Rattle.etoken.specs.declared.token.Token.{Token}
use Rattle.etoken.specs.declared.token.Token.TheVariants as token
use Rattle.etoken.specs.declared.token.Reserved as words
use Rattle.etoken.specs.declared.token.Sign as signs
use Rattle.etoken.specs.declared.token.Sign.TheVariants as sign
use Rattle.kernele.specs.Tree.{Tree, Trees, none, Methods, no_methods, and_method}
use Rattle.kernele.specs.declared.tree.Method.{Method}
use Rattle.kernele.specs.View.{trees_of, methods_of}
use Rattle.ereader_signs.specs.declared.operator.Operator.{Operator}
use Rattle.ereader_signs.specs.declared.operator.CallSign.{CallSign}
use Rattle.ereader_forms.specs.Forms.{joined, snoc}
use Rattle.ereader_nodes.specs.Nodes.{MethodTree}
use Rattle.ereader_signs.specs.Signs.{link_of}
use Rattle.ereader_grammar.specs.Grammar.{put_method}
use Rattle.ereader_grammar.specs.Reading.{Read, ◌>>=◌, or_else, rest_of, is_empty, sign_in, front, is_comma, is_semicolon, Within, linked_at, postfix_next, commas_next, operand_next, skip_semicolons, skip_semicolons_sign, repeat, is_block_end, separator_at, separated, expr_at, block_next, block_at, is_at_word, is_method_word, method_at, methods_next, methods_at}
use Rattle.ereader_nodes.specs.View.{method_of}
use Rattle.ereader_grammar.proofs.Turns.{Turns, turns_here, turns_more, turns_fail, turns_end, if_is, some_same, none_some}

pub rest_le : (a : List Token) → length (rest_of a) ≤ length a
rest_le [] = omega arith
rest_le (x ∷ a) = omega arith

-- methods that grow at their end
pub methods_push : (ms : List Method) (m : Method) → methods_of (ms ++ m ∷ []) ≡ put_method (methods_of ms) (method_of m)
methods_push [] m = refl
methods_push (n ∷ ms) m = ap (and_method n.verb n.parameters.value.items (trees_of n.body.value.items)) (methods_push ms m)

-- where a sign is in front, a token is
pub front_length : {A : Type 0} (of : signs.Sign → Option A) (a : List Token) {o : A} → front of a ≡ Some o → length a ≡ suc (length (rest_of a))
front_length of [] e = absurd (none_some e)
front_length of (x ∷ a) e = refl

pub test_length : (is : Option signs.Sign → Bool) → is None ≡ false → (a : List Token) → is (sign_in a) ≡ true → length a ≡ suc (length (rest_of a))
test_length is n [] e = absurd (cc)
test_length is n (x ∷ a) e = refl

module _ (of : signs.Sign → Option Operator) (part : List Token → Read Tree) where
  pub operand_goes : (t : Tree) (a : List Token) {o : Operator} → front of a ≡ Some o → operand_next of part t a ≡ Some (part (rest_of a) >>= λ x. Some (joined o t x.0, x.1))
  operand_goes t a e = ap (λ o. or_else o None (λ o. Some (part (rest_of a) >>= λ x. Some (joined o t x.0, x.1)))) e

  pub operand_more : {read : Read Tree} {t : Tree} (u : Tree) {a : List Token} (b r : List Token) {o : Operator}
      → Turns (operand_next of part) read t a → front of a ≡ Some o → b ≡ rest_of a → part b ≡ Some (u, r) → length r < length b → Turns (operand_next of part) read (joined o t u) r
  operand_more {t = t} u {a = a} b r {o = o} c e k g h =
      turns_more (operand_next of part) (part (rest_of a) >>= λ x. Some (joined o t x.0, x.1)) c (operand_goes t a e)
      (ap (λ y. y >>= λ x. Some (joined o t x.0, x.1)) (ap part (sym k) ∙ g)) (omega (arith, h, ap length k, front_length of a e))

  pub operand_fail : {read : Read Tree} {t : Tree} {a : List Token} (b : List Token) {o : Operator}
      → Turns (operand_next of part) read t a → front of a ≡ Some o → b ≡ rest_of a → part b ≡ None → read ≡ None
  operand_fail {t = t} {a = a} b {o = o} c e k g =
      turns_fail (operand_next of part) (part (rest_of a) >>= λ x. Some (joined o t x.0, x.1)) c (operand_goes t a e)
      (ap (λ y. y >>= λ x. Some (joined o t x.0, x.1)) (ap part (sym k) ∙ g)) (omega (arith, front_length of a e))

  pub operand_end : {read : Read Tree} {t : Tree} {a : List Token} → Turns (operand_next of part) read t a → front of a ≡ None → read ≡ Some (t, a)
  operand_end {t = t} {a = a} c e = turns_end (operand_next of part) c (ap (λ o. or_else o None (λ o. Some (part (rest_of a) >>= λ x. Some (joined o t x.0, x.1)))) e)

module _ (within : Within) where
  pub postfix_goes : (t : Tree) (a : List Token) {l : CallSign} → front link_of a ≡ Some l → postfix_next within t a ≡ Some (linked_at within l t (rest_of a))
  postfix_goes t a e = ap (λ o. or_else o None (λ l. Some (linked_at within l t (rest_of a)))) e

  pub postfix_more : {read : Read Tree} {t : Tree} (u : Tree) {a : List Token} (b r : List Token) {l : CallSign}
      → Turns (postfix_next within) read t a → front link_of a ≡ Some l → b ≡ rest_of a → linked_at within l t b ≡ Some (u, r) → length r ≤ length b → Turns (postfix_next within) read u r
  postfix_more {t = t} u {a = a} b r {l = l} c e k g h =
      turns_more (postfix_next within) (linked_at within l t (rest_of a)) c (postfix_goes t a e) (ap (linked_at within l t) (sym k) ∙ g) (omega (arith, h, ap length k, front_length link_of a e))

  pub postfix_fail : {read : Read Tree} {t : Tree} {a : List Token} (b : List Token) {l : CallSign}
      → Turns (postfix_next within) read t a → front link_of a ≡ Some l → b ≡ rest_of a → linked_at within l t b ≡ None → read ≡ None
  postfix_fail {t = t} {a = a} b {l = l} c e k g =
      turns_fail (postfix_next within) (linked_at within l t (rest_of a)) c (postfix_goes t a e) (ap (linked_at within l t) (sym k) ∙ g) (omega (arith, front_length link_of a e))

  pub postfix_end : {read : Read Tree} {t : Tree} {a : List Token} → Turns (postfix_next within) read t a → front link_of a ≡ None → read ≡ Some (t, a)
  postfix_end {t = t} {a = a} c e = turns_end (postfix_next within) c (ap (λ o. or_else o None (λ l. Some (linked_at within l t (rest_of a)))) e)

module _ {A B : Type 0} (push : B → A → B) (part : List Token → Read A) where
  pub commas_goes : (xs : B) (a : List Token) → is_comma (sign_in a) ≡ true → commas_next push part xs a ≡ Some (part (rest_of a) >>= λ x. Some (push xs x.0, x.1))
  commas_goes xs a e = ap (λ o. cond o (Some (part (rest_of a) >>= λ x. Some (push xs x.0, x.1))) None) e

  pub commas_more : {read : Read B} {xs : B} (u : A) {a : List Token} (b r : List Token)
      → Turns (commas_next push part) read xs a → is_comma (sign_in a) ≡ true → b ≡ rest_of a → part b ≡ Some (u, r) → length r < length b → Turns (commas_next push part) read (push xs u) r
  commas_more {xs = xs} u {a = a} b r c e k g h =
      turns_more (commas_next push part) (part (rest_of a) >>= λ x. Some (push xs x.0, x.1)) c (commas_goes xs a e)
      (ap (λ y. y >>= λ x. Some (push xs x.0, x.1)) (ap part (sym k) ∙ g)) (omega (arith, h, ap length k, test_length is_comma refl a e))

  pub commas_fail : {read : Read B} {xs : B} {a : List Token} (b : List Token)
      → Turns (commas_next push part) read xs a → is_comma (sign_in a) ≡ true → b ≡ rest_of a → part b ≡ None → read ≡ None
  commas_fail {xs = xs} {a = a} b c e k g =
      turns_fail (commas_next push part) (part (rest_of a) >>= λ x. Some (push xs x.0, x.1)) c (commas_goes xs a e)
      (ap (λ y. y >>= λ x. Some (push xs x.0, x.1)) (ap part (sym k) ∙ g)) (omega (arith, test_length is_comma refl a e))

  pub commas_end : {read : Read B} {xs : B} {a : List Token} → Turns (commas_next push part) read xs a → is_comma (sign_in a) ≡ false → read ≡ Some (xs, a)
  commas_end {xs = xs} {a = a} c e = turns_end (commas_next push part) c (ap (λ o. cond o (Some (part (rest_of a) >>= λ x. Some (push xs x.0, x.1))) None) e)

-- semicolons are gone past one at a time
skip-sign : (s : signs.Sign) (a b : List Token) → is_semicolon (Some s) ≡ true → skip_semicolons (token.Sign s ∷ a) ≡ skip_semicolons a
skip-sign sign.Semicolon a b e = refl
skip-sign _ a b e = absurd (cc)

pub skip-more : (a : List Token) → is_semicolon (sign_in a) ≡ true → skip_semicolons a ≡ skip_semicolons (rest_of a)
skip-more [] e = absurd (cc)
skip-more (token.Sign s ∷ a) e = skip-sign s a a e
skip-more (_ ∷ a) e = absurd (cc)

skip-no_sign : (s : signs.Sign) (a : List Token) → is_semicolon (Some s) ≡ false → skip_semicolons (token.Sign s ∷ a) ≡ token.Sign s ∷ a
skip-no_sign sign.Semicolon a e = absurd (cc)
skip-no_sign _ a e = refl

pub skip-end : (a : List Token) → is_semicolon (sign_in a) ≡ false → skip_semicolons a ≡ a
skip-end [] e = refl
skip-end (token.Sign s ∷ a) e = skip-no_sign s a e
skip-end (_ ∷ a) e = refl

skip-le_sign : (s : signs.Sign) (a b : List Token) (n : ℕ) → length a ≤ n → length b ≤ n → length (skip_semicolons_sign s a b) ≤ n
skip-le_sign sign.Semicolon a b n h k = k
skip-le_sign _ a b n h k = h

pub skip-le : (a : List Token) → length (skip_semicolons a) ≤ length a
skip-le [] = omega arith
skip-le (token.Sign s ∷ a) = skip-le_sign s (token.Sign s ∷ a) (skip_semicolons a) (suc (length a)) (omega arith) (omega (arith, skip-le a))
skip-le (_ ∷ a) = omega arith

-- what parts two items, or the end
pub separator_le : (a r : List Token) → separator_at a ≡ Some r → length r ≤ length a
separator_le a r e = elim (if_is (is_block_end a) (Some a) (cond (is_semicolon (sign_in a)) (Some (skip_semicolons a)) None) e) [
  | inl h ↦ omega (arith, ap length (some_same h.1))
  | inr h ↦ elim (if_is (is_semicolon (sign_in a)) (Some (skip_semicolons a)) None h.1) [
    | inl k ↦ omega (arith, ap length (some_same k.1), skip-le a)
    | inr k ↦ absurd (none_some k.1)
  ]
]

more_length : (a : List Token) → is_block_end a ≡ false → 0 < length a
more_length [] e = absurd (cc)
more_length (x ∷ a) e = omega arith

pub empty_is : (a : List Token) → is_empty a ≡ true → a ≡ []
empty_is [] e = refl
empty_is (x ∷ a) e = absurd (cc)

module _ (within : Within) where
  pub block_begin : (a b : List Token) → b ≡ skip_semicolons a → Turns (block_next within) (block_at within a) none b
  block_begin a b e = record { fuel = length a; enough = omega (arith, ap length e, skip-le a); is = ap (λ c. repeat (block_next within) (length a) none c) (sym e) }

  block_goes : (ts : Trees) (a : List Token) → is_block_end a ≡ false → block_next within ts a ≡ Some (expr_at within a >>= λ x. separated (snoc ts x.0) x.1)
  block_goes ts a e = ap (λ o. cond o None (Some (expr_at within a >>= λ x. separated (snoc ts x.0) x.1))) e

  pub block_more : {read : Read Trees} {ts : Trees} (u : Tree) {a : List Token} (b r : List Token)
      → Turns (block_next within) read ts a → is_block_end a ≡ false → expr_at within a ≡ Some (u, b) → length b < length a → separator_at b ≡ Some r → Turns (block_next within) read (snoc ts u) r
  block_more {ts = ts} u {a = a} b r c e g h s =
      turns_more (block_next within) (expr_at within a >>= λ x. separated (snoc ts x.0) x.1) c (block_goes ts a e)
      (ap (λ y. y >>= λ x. separated (snoc ts x.0) x.1) g ∙ ap (λ y. y >>= λ z. Some (snoc ts u, z)) s) (omega (arith, h, separator_le b r s))

  pub block_fail : {read : Read Trees} {ts : Trees} {a : List Token} → Turns (block_next within) read ts a → is_block_end a ≡ false → expr_at within a ≡ None → read ≡ None
  block_fail {ts = ts} {a = a} c e g =
      turns_fail (block_next within) (expr_at within a >>= λ x. separated (snoc ts x.0) x.1) c (block_goes ts a e)
      (ap (λ y. y >>= λ x. separated (snoc ts x.0) x.1) g) (more_length a e)

  pub block_part_fail : {read : Read Trees} {ts : Trees} (u : Tree) {a : List Token} (b : List Token)
      → Turns (block_next within) read ts a → is_block_end a ≡ false → expr_at within a ≡ Some (u, b) → separator_at b ≡ None → read ≡ None
  block_part_fail {ts = ts} u {a = a} b c e g s =
      turns_fail (block_next within) (expr_at within a >>= λ x. separated (snoc ts x.0) x.1) c (block_goes ts a e)
      (ap (λ y. y >>= λ x. separated (snoc ts x.0) x.1) g ∙ ap (λ y. y >>= λ z. Some (snoc ts u, z)) s) (more_length a e)

  pub block_end : {read : Read Trees} {ts : Trees} {a : List Token} → Turns (block_next within) read ts a → is_block_end a ≡ true → read ≡ Some (ts, a)
  block_end {ts = ts} {a = a} c e =
      turns_end (block_next within) c (ap (λ o. cond o None (Some (expr_at within a >>= λ x. separated (snoc ts x.0) x.1))) e)

word_length : (is : words.Reserved → Bool) (a : List Token) → is_at_word is a ≡ true → length a ≡ suc (length (rest_of a))
word_length is [] e = absurd (cc)
word_length is (x ∷ a) e = refl

module _ (within : Within) where
  pub methods_begin : (a : List Token) → Turns (methods_next within) (methods_at within a) no_methods a
  methods_begin a = turns_here (methods_next within) no_methods a

  methods_goes : (ms : Methods) (a : List Token) → is_at_word is_method_word a ≡ true → methods_next within ms a ≡ Some (method_at within a >>= λ x. Some (put_method ms x.0, x.1))
  methods_goes ms a e = ap (λ o. cond o (Some (method_at within a >>= λ x. Some (put_method ms x.0, x.1))) None) e

  pub methods_more : {read : Read Methods} {ms : Methods} (m : MethodTree) {a : List Token} (r : List Token)
      → Turns (methods_next within) read ms a → is_at_word is_method_word a ≡ true → method_at within a ≡ Some (m, r) → length r < length a → Turns (methods_next within) read (put_method ms m) r
  methods_more {ms = ms} m {a = a} r c e g h =
      turns_more (methods_next within) (method_at within a >>= λ x. Some (put_method ms x.0, x.1)) c (methods_goes ms a e)
      (ap (λ y. y >>= λ x. Some (put_method ms x.0, x.1)) g) h

  pub methods_fail : {read : Read Methods} {ms : Methods} {a : List Token}
      → Turns (methods_next within) read ms a → is_at_word is_method_word a ≡ true → method_at within a ≡ None → read ≡ None
  methods_fail {ms = ms} {a = a} c e g =
      turns_fail (methods_next within) (method_at within a >>= λ x. Some (put_method ms x.0, x.1)) c (methods_goes ms a e)
      (ap (λ y. y >>= λ x. Some (put_method ms x.0, x.1)) g) (omega (arith, word_length is_method_word a e))

  pub methods_end : {read : Read Methods} {ms : Methods} {a : List Token} → Turns (methods_next within) read ms a → is_at_word is_method_word a ≡ false → read ≡ Some (ms, a)
  methods_end {ms = ms} {a = a} c e =
      turns_end (methods_next within) c (ap (λ o. cond o (Some (method_at within a >>= λ x. Some (put_method ms x.0, x.1))) None) e)
