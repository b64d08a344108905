-- Words that name vats, or one of which is a given word, one after another.
use Rattle.std.proofs.Common.{◌≡◌, ℕ, List, ◌∷◌, Bool, true, false, cond, length, refl, sym, ap, ◌∙◌, ◌==◌}
use Rattle.std.specs.Str.{bytes_eq}
use Rattle.stepper_commands.specs.Words.{is_bare, first_word, behind_word, words_in}
use Rattle.stepper_commands.specs.Commands.{is_vat_name, is_among, are_vats}
use Rattle.stepper_commands.proofs.Wording.{words_cut, no_words}

-- the first word of a text, and those behind it
cut : (rest word behind : List ℕ) → is_bare rest ≡ true → (length rest == 0) ≡ false → word ≡ first_word rest → behind ≡ behind_word rest → words_in rest ≡ word ∷ words_in behind
cut rest word behind b l w r = words_cut rest b l ∙ ap (λ x. x ∷ words_in (behind_word rest)) (sym w) ∙ ap (λ x. word ∷ words_in x) (sym r)

module _ (rest word behind : List ℕ) (b : is_bare rest ≡ true) (l : (length rest == 0) ≡ false) (w : word ≡ first_word rest) (r : behind ≡ behind_word rest) where
  -- what the first word tells, of whether it may name a vat and whether it is given twice
  told : (all name twice : Bool) → name ≡ is_vat_name word → twice ≡ is_among (words_in behind) word → are_vats (words_in rest) ≡ all
      → cond name (cond twice false (are_vats (words_in behind))) false ≡ all
  told all name twice n m inv =
      ap (λ t. cond t (cond twice false (are_vats (words_in behind))) false) n ∙ ap (λ t. cond (is_vat_name word) (cond t false (are_vats (words_in behind))) false) m
      ∙ sym (ap are_vats (cut rest word behind b l w r)) ∙ inv

  pub no_vat : (all : Bool) → false ≡ is_vat_name word → are_vats (words_in rest) ≡ all → false ≡ all
  no_vat all n inv = told all false (is_among (words_in behind) word) n refl inv

  pub vat_twice : (all : Bool) → true ≡ is_vat_name word → true ≡ is_among (words_in behind) word → are_vats (words_in rest) ≡ all → false ≡ all
  vat_twice all n m inv = told all true true n m inv

  pub vat_once : (all : Bool) → true ≡ is_vat_name word → false ≡ is_among (words_in behind) word → are_vats (words_in rest) ≡ all → are_vats (words_in behind) ≡ all
  vat_once all n m inv = told all true false n m inv

  among_told : (sought : List ℕ) (all same : Bool) → same ≡ bytes_eq word sought → is_among (words_in rest) sought ≡ all → cond same true (is_among (words_in behind) sought) ≡ all
  among_told sought all same e inv = ap (λ t. cond t true (is_among (words_in behind) sought)) e ∙ sym (ap (λ ws. is_among ws sought) (cut rest word behind b l w r)) ∙ inv

  -- the first word is the one that is sought
  pub among_here : (sought : List ℕ) (all : Bool) → true ≡ bytes_eq word sought → is_among (words_in rest) sought ≡ all → true ≡ all
  among_here sought all e inv = among_told sought all true e inv

  -- or it is another
  pub among_not : (sought : List ℕ) (all : Bool) → false ≡ bytes_eq word sought → is_among (words_in rest) sought ≡ all → is_among (words_in behind) sought ≡ all
  among_not sought all e inv = among_told sought all false e inv

-- no word is left
pub among_none : (rest sought : List ℕ) (all : Bool) → (length rest == 0) ≡ true → is_among (words_in rest) sought ≡ all → false ≡ all
among_none rest sought all l inv = sym (ap (λ ws. is_among ws sought) (no_words rest l)) ∙ inv

pub vats_none : (rest : List ℕ) (all : Bool) → (length rest == 0) ≡ true → are_vats (words_in rest) ≡ all → true ≡ all
vats_none rest all l inv = sym (ap are_vats (no_words rest l)) ∙ inv
