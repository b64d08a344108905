-- What is read leaves fewer tokens, or no more.
use Rattle.std.proofs.Common.{◌≡◌, ℕ, ◌<◌, ◌≤◌, List, length, true, Some, refl, arith}
use Rattle.etoken.specs.declared.token.Token.{Token}
use Rattle.kernele.specs.Tree.{Tree, Trees}
use Rattle.etoken.specs.declared.breaks.Bracket.{Bracket}
use Rattle.ereader_nodes.specs.Nodes.{MethodTree}
use Rattle.ereader_grammar.specs.Reading.{is_at_word, is_method_word, is_to_word, within_at, expr_at, args_at, block_at, method_at, unary_at, product_at, sum_at, comparison_at, conjunction_at, disjunction_at}
use Rattle.ereader_grammar.proofs.Sound.{sound_args, sound_expr, sound_block, sound_unary, sound_product, sound_sum, sound_comparison, sound_conjunction, sound_disjunction, sound_method_word, sound_expression, sound_conditional}
use Rattle.ereader_grammar.proofs.Uses.{less_args, less_expr, less_block, less_unary, less_product, less_sum, less_comparison, less_conjunction, less_disjunction, less_method}

module _ (n : ℕ) (a : List Token) {r : List Token} where
  pub shorter_expression : {t : Tree} → (within_at n).expression a ≡ Some (t, r) → length r < length a
  shorter_expression {t} e = less_disjunction (sound_expression n a (t, r) e)

  pub shorter_expr : {t : Tree} → expr_at (within_at n) a ≡ Some (t, r) → length r < length a
  shorter_expr {t} e = less_expr (sound_expr (within_at n) (sound_expression n) (sound_conditional n) a (t, r) e)

  pub shorter_args : (k : Bracket) {ts : Trees} → args_at (within_at n) k a ≡ Some (ts, r) → length r ≤ length a
  shorter_args k {ts} e = omega (arith, less_args (sound_args (within_at n) (sound_expression n) (sound_conditional n) k a (ts, r) e))

  pub shorter_block : {ts : Trees} → block_at (within_at n) a ≡ Some (ts, r) → length r ≤ length a
  shorter_block {ts} e = less_block (sound_block (within_at n) (sound_expression n) (sound_conditional n) a (ts, r) e)

  pub shorter_method : {m : MethodTree} → is_at_word is_method_word a ≡ true → method_at (within_at n) a ≡ Some (m, r) → length r < length a
  shorter_method {m} h e = less_method (sound_method_word (within_at n) (sound_expression n) (sound_conditional n) a (is_at_word is_to_word a) (m, r) h refl e)

  pub shorter_unary : {t : Tree} → unary_at (within_at n) a ≡ Some (t, r) → length r < length a
  shorter_unary {t} e = less_unary (sound_unary (within_at n) (sound_expression n) (sound_conditional n) a (t, r) e)

  pub shorter_product : {t : Tree} → product_at (within_at n) a ≡ Some (t, r) → length r < length a
  shorter_product {t} e = less_product (sound_product (within_at n) (sound_expression n) (sound_conditional n) a (t, r) e)

  pub shorter_sum : {t : Tree} → sum_at (within_at n) a ≡ Some (t, r) → length r < length a
  shorter_sum {t} e = less_sum (sound_sum (within_at n) (sound_expression n) (sound_conditional n) a (t, r) e)

  pub shorter_comparison : {t : Tree} → comparison_at (within_at n) a ≡ Some (t, r) → length r < length a
  shorter_comparison {t} e = less_comparison (sound_comparison (within_at n) (sound_expression n) (sound_conditional n) a (t, r) e)

  pub shorter_conjunction : {t : Tree} → conjunction_at (within_at n) a ≡ Some (t, r) → length r < length a
  shorter_conjunction {t} e = less_conjunction (sound_conjunction (within_at n) (sound_expression n) (sound_conditional n) a (t, r) e)

  pub shorter_disjunction : {t : Tree} → disjunction_at (within_at n) a ≡ Some (t, r) → length r < length a
  shorter_disjunction {t} e = less_disjunction (sound_disjunction (within_at n) (sound_expression n) (sound_conditional n) a (t, r) e)
