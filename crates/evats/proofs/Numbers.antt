-- The number that the text of an option spells.
use Rattle.std.proofs.Common.{◌≡◌, ℕ, List, Option, Some, None, Result, Ok, Err, refl, sym, subst}
use Rattle.std.specs.Prelude.{unwrap_or}
use Rattle.std.specs.Str.Parse.{ParsesUnsigned}
use Rattle.clap.specs.Words.{ReadsOne}
use Rattle.evats.specs.Options.{Spells, IsNumber, spelled, none_given, none_spelled}

spells : (E : Type 0) (text : List ℕ) (n : ℕ) → ParsesUnsigned {E = E} 32 10 text (Ok n) → Spells text n
spells E text n p = record { numeral = p.0.0; small = p.0.1; value = p.1 }

spells_none : (E : Type 0) (text : List ℕ) (e : E) → ParsesUnsigned {E = E} 32 10 text (Err e) → (n : ℕ) → ¬ Spells text n
spells_none E text e p n s = p (s.numeral, s.small)

module _ (E : Type 0) (gives : List ℕ → Result ℕ E → Type 0) (parses : (t : List ℕ) (r : Result ℕ E) → gives t r → ParsesUnsigned 32 10 t r) (otherwise : ℕ) where
  pub number_of : (o : Option (List ℕ)) (r : Option ℕ) → (o ≡ None → r ≡ None) → ((t : List ℕ) → o ≡ Some t → ReadsOne gives t r) → IsNumber otherwise o (unwrap_or r otherwise)
  number_of None r none value = subst (λ z. IsNumber otherwise None (unwrap_or z otherwise)) (sym (none refl)) none_given
  number_of (Some t) (Some n) none value = spelled (spells E t n (parses t (Ok n) (value t refl)))
  number_of (Some t) None none value = let read = value t refl in none_spelled (spells_none E t read.0 (parses t (Err read.0) read.1))
