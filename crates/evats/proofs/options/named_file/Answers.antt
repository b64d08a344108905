use Rattle.std.proofs.Common.{◌≡◌, ◌≢◌, ℕ, List, Bor, Option, Some, None, true, false, codes, sym, subst, ◌∙◌, rules}
use Rattle.std.specs.Option.{option_map}
use Rattle.std.specs.Str.{bytes_eq}
use Rattle.std.proofs.lemmas.Slice.Eq.{bytes_eq-Decides}
use Rattle.evats.specs.Options.{IsFileOf, no_word, standard_input, path}
use Rattle.evats.proofs.options.named_file.Goals as goal

same_word : (w v : List ℕ) → bytes_eq w v ≡ true → w ≡ v
same_word w v e = search (rules, bytes_eq-Decides)

other_word : (w v : List ℕ) → bytes_eq w v ≡ false → w ≢ v
other_word w v e = search (rules, bytes_eq-Decides)

pub returns-in-None : goal.returns-in-None
returns-in-None c = subst (λ (w : Option (Bor (List ℕ))). IsFileOf (option_map (λ s. s.now) w) None) (sym c.in-None.is) no_word

pub returns-then-eq : goal.returns-then-eq
returns-then-eq c =
    subst (λ (w : Option (Bor (List ℕ))). IsFileOf (option_map (λ s. s.now) w) None) (sym c.in-Some.is)
    (subst (λ (t : List ℕ). IsFileOf (Some t) None) (sym (same_word c.in-Some.path.now (codes "-") (sym c.eq.ensures ∙ c.if-eq.true))) standard_input)

pub returns-else-eq : goal.returns-else-eq
returns-else-eq c =
    subst (λ (w : Option (Bor (List ℕ))). IsFileOf (option_map (λ s. s.now) w) (Some c.in-Some.path.now)) (sym c.in-Some.is)
    (path (other_word c.in-Some.path.now (codes "-") (sym c.eq.ensures ∙ c.if-eq.false)))
