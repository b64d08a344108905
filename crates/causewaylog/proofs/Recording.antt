-- The records of turns: one turn after another, and that no number in them is a float.
use Rattle.std.proofs.Common.{◌≡◌, ℕ, ◌+◌, ◌≤◌, Bool, true, false, ◌||◌, List, [], ◌∷◌, ◌++◌, map, refl, ap, ap₂, ◌∙◌, append_assoc, arith}
use Rattle.kernele.specs.Tree.{Name}
use Rattle.eval_rules.specs.Outbox.{Note, sent_note, waits_note, resolved_note, comment_note}
use Rattle.serde_json.specs.Data.{Data}
use Rattle.serde_json.specs.View.{items_of}
use Rattle.serde_json.specs.Written.{has_float, items_have_float, members_have_float}
use Rattle.causewaylog.specs.Facts.{note_fact, facts_of}
use Rattle.causewaylog.specs.Log.{records_from, records_of}
use Rattle.causewaylog.specs.Turns.{Turn}

-- what was added before the rest
pub added_before : (old new from rest : List Data) → new ≡ old ++ from → new ++ rest ≡ old ++ (from ++ rest)
added_before old new from rest e = ap (λ ds. ds ++ rest) e ∙ append_assoc old from rest

-- none of a row has a float where none of its parts has
floats_of_first : (a b c : Bool) → (a || b) ≡ false → (b ≡ false → c ≡ false) → (a || c) ≡ false
floats_of_first true b c h k = h
floats_of_first false b c h k = k h

floats_in_both : (xs ys : List Data) → items_have_float (items_of xs) ≡ false → items_have_float (items_of ys) ≡ false → items_have_float (items_of (xs ++ ys)) ≡ false
floats_in_both [] ys h k = k
floats_in_both (x ∷ xs) ys h k = floats_of_first (has_float x) (items_have_float (items_of xs)) (items_have_float (items_of (xs ++ ys))) h (λ none. floats_in_both xs ys none k)

no_float_said : (n : Note) → members_have_float (note_fact n).says ≡ false
no_float_said (sent_note m) = refl
no_float_said (waits_note p m) = refl
no_float_said (resolved_note p) = refl
no_float_said (comment_note words) = refl

no_floats_noted : (x : Name) (turn index : ℕ) (ns : List Note) → items_have_float (items_of (records_from x turn index (map note_fact ns))) ≡ false
no_floats_noted x turn index [] = refl
no_floats_noted x turn index (n ∷ ns) = ap₂ (λ (a b : Bool). a || b) (no_float_said n) (no_floats_noted x turn (index + 1) ns)

no_floats_from : (x : Name) (turn : ℕ) (t : Turn) → items_have_float (items_of (records_from x turn 0 (facts_of t))) ≡ false
no_floats_from x turn t = no_floats_noted x turn 1 t.notes

pub no_floats : (x : Name) (turn : ℕ) (ts : List Turn) → items_have_float (items_of (records_of x turn ts)) ≡ false
no_floats x turn [] = refl
no_floats x turn (t ∷ ts) = floats_in_both (records_from x turn 0 (facts_of t)) (records_of x (turn + 1) ts) (no_floats_from x turn t) (no_floats x (turn + 1) ts)

-- among so many entries so many turns were found; these records were made, and with those that are left they are all
pub record SoFar (turns entries : ℕ) (made left all : List Data) : Type 0 where
  pub counted : turns ≤ entries
  pub records : made ++ left ≡ all

-- so it is behind one more turn, whose records were added, and behind an entry that is none
pub one_turn : {turns entries : ℕ} (made new from left : List Data) {all : List Data} → new ≡ made ++ from → SoFar turns entries made (from ++ left) all → SoFar (turns + 1) (entries + 1) new left all
one_turn made new from left is h = record { counted = omega (arith, h.counted); records = added_before made new from left is ∙ h.records }

pub no_turn : {turns entries : ℕ} {made left all : List Data} → SoFar turns entries made left all → SoFar turns (entries + 1) made left all
no_turn h = record { counted = omega (arith, h.counted); records = h.records }
