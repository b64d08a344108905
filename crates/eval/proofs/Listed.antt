-- What a list of patterns takes at the end of a value, which is given as it is.
use Rattle.std.proofs.Common.{◌≡◌, List, ap, ◌∙◌, refl, codes}
use Rattle.std.specs.Prelude.{Option, Some, None, Result, Ok, Err}
use Rattle.kernele.specs.Tree.{Name}
use Rattle.kernele.specs.declared.tree.Pattern.{Pattern}
use Rattle.values.specs.Data.{Val, broken, Vals}
use Rattle.values.specs.Replies.{items_in}
use Rattle.values.specs.View.{val_of}
use Rattle.values.specs.declared.value.Value.{Value}
use Rattle.eval_rules.specs.At.{At}
use Rattle.eval_rules.specs.Answered.{OnEnd}
use Rattle.eval_rules.specs.Outcomes.{Halt, thrown, value, halt}
use Rattle.eval_rules.specs.Rules.{mismatch, listing_by, taken, parts_of, parts_bound, parts_end}
use Rattle.eval_rules.specs.declared.end.Stop.{Stop}
use Rattle.eval_rules.specs.declared.end.Stop.TheVariants as stop
use Rattle.eval_rules.specs.declared.working.Working.{Working}

-- what is not as it is wanted throws
mismatch_throws : (words : Name) (v : Val) → (problem : Name) × (mismatch words v ≡ halt (thrown problem))
mismatch_throws words (broken problem) = (problem, refl)
mismatch_throws words _ = (words, refl)

-- whether items were taken or not: the value that is given may be another one than that which they were taken of
given_alike : (words : Name) (v u : Val) (m : Option Vals) → value v ≡ parts_end (value v) (listing_by words v m) → value u ≡ parts_end (value u) (listing_by words v m)
given_alike words v u (Some vs) e = refl
given_alike words v u None e = let thrown = (mismatch_throws words v).1 in absurd (cc)

halts_alike : (words : Name) (v u : Val) (m : Option Vals) {h : Halt} → halt h ≡ parts_end (value v) (listing_by words v m) → halt h ≡ parts_end (value u) (listing_by words v m)
halts_alike words v u (Some vs) e = absurd (cc)
halts_alike words v u None e = e

-- the parts of a value's end were taken, and another value is given
pub parts_given : {A : Type 0} (r : Result A Stop) (v u : Value) (w : Working) (ps : List Pattern) {x : Val} {b z : At} → val_of v ≡ x → z ≡ b
    → OnEnd r v w (λ o c. (o ≡ parts_end (value (val_of v)) (parts_of ps (value (val_of v)))) × (c ≡ parts_bound ps (parts_of ps (value (val_of v))) z))
    → OnEnd r u w (λ o c. (o ≡ parts_end (value (val_of u)) (parts_of ps (value x))) × (c ≡ parts_bound ps (parts_of ps (value x)) b))
parts_given (Ok y) v u w ps e f h = (
  given_alike (codes "wrong list") (val_of v) (val_of u) (taken ps (items_in (val_of v))) h.0 ∙ ap (λ x. parts_end (value (val_of u)) (parts_of ps (value x))) e,
  h.1 ∙ (λ i. parts_bound ps (parts_of ps (value (e i))) (f i)),
)
parts_given (Err stop.Memory) v u w ps e f h = tt
parts_given (Err stop.Halted) v u w ps e f h = (
  halts_alike (codes "wrong list") (val_of v) (val_of u) (taken ps (items_in (val_of v))) h.0 ∙ ap (λ x. parts_end (value (val_of u)) (parts_of ps (value x))) e,
  h.1 ∙ (λ i. parts_bound ps (parts_of ps (value (e i))) (f i)),
)
