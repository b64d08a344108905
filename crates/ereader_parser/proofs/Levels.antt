-- Each level of operators, from the level of its operands.
use Rattle.std.proofs.Common.{◌≡◌, ℕ, ◌<◌, List, length, true, false, Some, None, refl, ap, subst}
use Rattle.etoken.specs.declared.token.Token.{Token}
use Rattle.kernele.specs.Tree.{Tree}
use Rattle.ereader_signs.specs.Signs.{operator_of, product_operator}
use Rattle.ereader_grammar.specs.Reading.{or_else, Within, within_at, unary_at, operands_from, comparison_from}
use Rattle.ereader_grammar.proofs.Shorter.{shorter_unary, shorter_product, shorter_sum, shorter_comparison, shorter_conjunction, shorter_disjunction}
use Rattle.ereader_signs.specs.declared.stop.ReadStop.{ReadStop}
use Rattle.ereader_signs.specs.declared.stop.ReadStop.TheVariants as stop
use Rattle.ereader_signs.specs.declared.operator.Level.{Level}
use Rattle.ereader_signs.specs.declared.operator.Level.TheVariants as level
use Rattle.ereader_parser.specs.Levels.{tighter, joins_two, level_at, level_from}
use Rattle.ereader_parser.specs.View.{Fails}

-- how many levels bind more tightly
abbrev pub rank : Level → ℕ
rank level.Disjunction = 5
rank level.Conjunction = 4
rank level.Comparison = 3
rank level.Sum = 2
rank level.Product = 1
rank level.Unary = 0

-- the level of its operands, where there is one
abbrev below : Level → Level
below level.Disjunction = level.Conjunction
below level.Conjunction = level.Comparison
below level.Comparison = level.Sum
below level.Sum = level.Product
below level.Product = level.Unary
below level.Unary = level.Unary

tighter_is : (l k : Level) → tighter l ≡ Some k → below l ≡ k
tighter_is level.Disjunction k e = cc
tighter_is level.Conjunction k e = cc
tighter_is level.Comparison k e = cc
tighter_is level.Sum k e = cc
tighter_is level.Product k e = cc
tighter_is level.Unary k e = cc

module _ (within : Within) where
  pub first_read : (l : Level) (a : List Token) {t : Tree} {b : List Token} → unary_at within a ≡ Some (t, b) → level_at l within a ≡ level_from l within t b
  first_read level.Disjunction a e = rw e refl
  first_read level.Conjunction a e = rw e refl
  first_read level.Comparison a e = rw e refl
  first_read level.Sum a e = rw e refl
  first_read level.Product a e = rw e refl
  first_read level.Unary a e = e

  first_none : (l : Level) (a : List Token) → unary_at within a ≡ None → level_at l within a ≡ None
  first_none level.Disjunction a e = rw e refl
  first_none level.Conjunction a e = rw e refl
  first_none level.Comparison a e = rw e refl
  first_none level.Sum a e = rw e refl
  first_none level.Product a e = rw e refl
  first_none level.Unary a e = e

  pub first_fails : (e : ReadStop) (l : Level) (a : List Token) → Fails e (unary_at within a) → Fails e (level_at l within a)
  first_fails stop.Unexpected l a f = first_none l a f
  first_fails stop.Memory l a f = tt

  module _ (t : Tree) (a : List Token) where
    pub behind_here : (l : Level) → tighter l ≡ None → level_from l within t a ≡ Some (t, a)
    behind_here level.Disjunction e = cc
    behind_here level.Conjunction e = cc
    behind_here level.Comparison e = cc
    behind_here level.Sum e = cc
    behind_here level.Product e = cc
    behind_here level.Unary e = refl

    read_below : (l k : Level) {u : Tree} {b : List Token} → tighter l ≡ Some k → joins_two l ≡ false → level_from (below l) within t a ≡ Some (u, b) → level_from l within t a ≡ operands_from (operator_of l) (level_at (below l) within) u b
    read_below level.Disjunction k e j f = rw f refl
    read_below level.Conjunction k e j f = rw f refl
    read_below level.Comparison k e j f = cc
    read_below level.Sum k e j f = rw f refl
    read_below level.Product k e j f = ap (λ x. or_else x None (λ p. operands_from product_operator (unary_at within) p.0 p.1)) f
    read_below level.Unary k e j f = cc

    pub behind_read : (l k : Level) {u : Tree} {b : List Token} → tighter l ≡ Some k → joins_two l ≡ false → level_from k within t a ≡ Some (u, b) → level_from l within t a ≡ operands_from (operator_of l) (level_at k within) u b
    behind_read l k {u} {b} e j =
        subst (λ k. level_from k within t a ≡ Some (u, b) → level_from l within t a ≡ operands_from (operator_of l) (level_at k within) u b) (tighter_is l k e) (read_below l k e j)

    compared_below : (l k : Level) {u : Tree} {b : List Token} → tighter l ≡ Some k → joins_two l ≡ true → level_from (below l) within t a ≡ Some (u, b) → level_from l within t a ≡ comparison_from within u b
    compared_below level.Disjunction k e j f = cc
    compared_below level.Conjunction k e j f = cc
    compared_below level.Comparison k e j f = rw f refl
    compared_below level.Sum k e j f = cc
    compared_below level.Product k e j f = cc
    compared_below level.Unary k e j f = cc

    pub behind_compared : (l k : Level) {u : Tree} {b : List Token} → tighter l ≡ Some k → joins_two l ≡ true → level_from k within t a ≡ Some (u, b) → level_from l within t a ≡ comparison_from within u b
    behind_compared l k {u} {b} e j =
        subst (λ k. level_from k within t a ≡ Some (u, b) → level_from l within t a ≡ comparison_from within u b) (tighter_is l k e) (compared_below l k e j)

    none_below : (l k : Level) → tighter l ≡ Some k → level_from (below l) within t a ≡ None → level_from l within t a ≡ None
    none_below level.Disjunction k e f = rw f refl
    none_below level.Conjunction k e f = rw f refl
    none_below level.Comparison k e f = rw f refl
    none_below level.Sum k e f = rw f refl
    none_below level.Product k e f = cc
    none_below level.Unary k e f = cc

    behind_none : (l k : Level) → tighter l ≡ Some k → level_from k within t a ≡ None → level_from l within t a ≡ None
    behind_none l k e = subst (λ k. level_from k within t a ≡ None → level_from l within t a ≡ None) (tighter_is l k e) (none_below l k e)

    pub behind_fails : (e : ReadStop) (l k : Level) → tighter l ≡ Some k → Fails e (level_from k within t a) → Fails e (level_from l within t a)
    behind_fails stop.Unexpected l k e f = behind_none l k e f
    behind_fails stop.Memory l k e f = tt

-- operands are tokens
pub shorter_level : (n : ℕ) (l : Level) (a : List Token) {t : Tree} {r : List Token} → level_at l (within_at n) a ≡ Some (t, r) → length r < length a
shorter_level n level.Disjunction a e = shorter_disjunction n a e
shorter_level n level.Conjunction a e = shorter_conjunction n a e
shorter_level n level.Comparison a e = shorter_comparison n a e
shorter_level n level.Sum a e = shorter_sum n a e
shorter_level n level.Product a e = shorter_product n a e
shorter_level n level.Unary a e = shorter_unary n a e
