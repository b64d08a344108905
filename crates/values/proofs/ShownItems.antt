-- Items as text, as the program writes them one after another.
use Rattle.std.proofs.Common.{◌≡◌, ℕ, ◌+◌, ◌<◌, ◌≤◌, List, [], ◌++◌, length, get_or, drop, refl, sym, ap, ◌∙◌, codes, append_assoc, append-nil}
use Rattle.std.proofs.lemmas.List.{drop_all}
use Rattle.values.specs.Data.{Vals, no_vals, and_val}
use Rattle.values.specs.Shown.{shown, shown_items, shown_more}
use Rattle.values.specs.View.{val_of, vals_of}
use Rattle.values.specs.declared.value.Value.{Value}
use Rattle.values.proofs.Tables.{vals_from}

-- items behind a separator
abbrev pub shown_after : List ℕ → Vals → List ℕ
shown_after separator no_vals = []
shown_after separator (and_val v vs) = separator ++ (shown v ++ shown_more vs)

pub shown_first : (vs : Vals) → shown_after [] vs ≡ shown_items vs
shown_first no_vals = refl
shown_first (and_val v vs) = refl

pub shown_next : (vs : Vals) → shown_after (codes ", ") vs ≡ shown_more vs
shown_next no_vals = refl
shown_next (and_val v vs) = refl

-- one more item, behind its separator
pub shown_step : (all old mid new separator : List ℕ) (xs : List Value) (i : ℕ) (x : Value) → i < length xs → x ≡ get_or xs i x → mid ≡ old ++ separator → new ≡ mid ++ shown (val_of x)
    → old ++ shown_after separator (vals_of (drop i xs)) ≡ all → new ++ shown_after (codes ", ") (vals_of (drop (i + 1) xs)) ≡ all
shown_step all old mid new separator xs i x h e p q r =
    ap (λ bs. bs ++ shown_after (codes ", ") (vals_of (drop (i + 1) xs))) (q ∙ ap (λ bs. bs ++ shown (val_of x)) p)
    ∙ ap (λ bs. ((old ++ separator) ++ shown (val_of x)) ++ bs) (shown_next (vals_of (drop (i + 1) xs)))
    ∙ append_assoc (old ++ separator) (shown (val_of x)) (shown_more (vals_of (drop (i + 1) xs)))
    ∙ append_assoc old separator (shown (val_of x) ++ shown_more (vals_of (drop (i + 1) xs)))
    ∙ ap (λ vs. old ++ shown_after separator vs) (sym (vals_from xs i x h e))
    ∙ r

-- the end of the items
pub shown_end : (all old separator : List ℕ) (xs : List Value) (i : ℕ) → length xs ≤ i → old ++ shown_after separator (vals_of (drop i xs)) ≡ all → old ≡ all
shown_end all old separator xs i h r = sym (append-nil old) ∙ ap (λ ys. old ++ shown_after separator (vals_of ys)) (sym (drop_all i xs h)) ∙ r

-- a bracket before and behind
pub between_brackets : (old first mid inner : List ℕ) → first ≡ old ++ codes "[" → mid ≡ first ++ inner → mid ++ codes "]" ≡ old ++ (codes "[" ++ (inner ++ codes "]"))
between_brackets old first mid inner p q =
    ap (λ bs. bs ++ codes "]") (q ∙ ap (λ bs. bs ++ inner) p ∙ append_assoc old (codes "[") inner)
    ∙ append_assoc old (codes "[" ++ inner) (codes "]")
