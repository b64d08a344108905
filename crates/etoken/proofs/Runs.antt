-- What further bytes add to what is read so far.
use Rattle.std.proofs.Common.{◌≡◌, sym, refl, ap, subst, ℕ, suc, Bool, true, false, List, [], ◌∷◌, ◌++◌, append_assoc, append-nil, arith, Some, ◌≤◌, ◌⊎◌, inl, inr}
use Rattle.std.proofs.lemmas.Bool.{ltb-false}
use Rattle.std.proofs.lemmas.Bool.Decides.{nat_tests}
use Rattle.std.specs.Prelude.{◌||◌}
use Rattle.std.specs.List.{AllPass}
use Rattle.etoken.specs.Bytes.{is_ascii_byte, is_plain, is_in_line, is_space, is_blank, begins_with, Longest}
use Rattle.etoken.specs.Table.{escape_of}
use Rattle.etoken.specs.Spelling.{Quoted, quoted_none, quoted_plain, quoted_escape}
use Rattle.etoken.specs.Cutting.{Blanks, blanks_none, blanks_space, blanks_line, blanks_comment}

-- the blanks of the rest are blanks of the whole
pub record BlanksSoFar (whole : List ℕ) (broken : Bool) (rest : List ℕ) : Type 0 where
  pub go_on : (b : Bool) (c : List ℕ) → Blanks rest b c → Blanks whole (broken || b) c

-- nothing is read yet
pub blanks_begin : (whole : List ℕ) → BlanksSoFar whole false whole
blanks_begin whole = record { go_on = λ b c h. h }

-- one more space
pub blanks_past_space : {whole rest after : List ℕ} {broken : Bool} {byte : ℕ} → BlanksSoFar whole broken rest → rest ≡ byte ∷ after → is_space byte ≡ true → BlanksSoFar whole broken after
blanks_past_space so_far e space = record { go_on = λ b c h. so_far.go_on b c (subst (λ a. Blanks a b c) (sym e) (blanks_space space h)) }

-- `or` on the right
pub or_true : (b : Bool) → (b || true) ≡ true
or_true true = refl
or_true false = refl

-- `or` on the right
pub or_false : (b : Bool) → (b || false) ≡ b
or_false true = refl
or_false false = refl

-- one more line break
pub blanks_past_line : {whole rest after : List ℕ} {broken : Bool} → BlanksSoFar whole broken rest → rest ≡ 10 ∷ after → BlanksSoFar whole true after
blanks_past_line {whole = whole} {broken = broken} so_far e = record {
  go_on = λ b c h. subst (λ t. Blanks whole t c) (or_true broken) (so_far.go_on true c (subst (λ a. Blanks a true c) (sym e) (blanks_line h)));
}

-- one more comment
pub blanks_past_comment : {whole rest after w behind : List ℕ} {broken : Bool} → BlanksSoFar whole broken rest → rest ≡ 35 ∷ after → Longest is_in_line after w behind → BlanksSoFar whole broken behind
blanks_past_comment so_far e line = record { go_on = λ b c h. so_far.go_on b c (subst (λ a. Blanks a b c) (sym e) (blanks_comment line h)) }

-- no more blanks
pub blanks_end : {whole rest : List ℕ} {broken : Bool} → BlanksSoFar whole broken rest → begins_with is_blank rest ≡ false → Blanks whole broken rest
blanks_end {whole = whole} {rest = rest} {broken = broken} so_far stops = subst (λ t. Blanks whole t rest) (or_false broken) (so_far.go_on false rest (blanks_none stops))

-- a tab, a carriage return or a space
pub is_space_from : (b : ℕ) → (b ≡ 9) ⊎ ((b ≡ 13) ⊎ (b ≡ 32)) → is_space b ≡ true
is_space_from b (inl e) = ap is_space e
is_space_from b (inr (inl e)) = ap is_space e
is_space_from b (inr (inr e)) = ap is_space e

-- a byte past ASCII is no blank
pub no_blank_ascii : (a : List ℕ) → begins_with is_ascii_byte a ≡ false → begins_with is_blank a ≡ false
no_blank_ascii [] h = refl
no_blank_ascii (x ∷ a) h = let high : 128 ≤ x = ltb-false x 128 h in grind (arith, nat_tests)

-- what the rest stands for is what the whole stands for, behind the content so far
pub record QuotedSoFar (whole content rest : List ℕ) : Type 0 where
  pub go_on : (c r : List ℕ) → Quoted rest c r → Quoted whole (content ++ c) r

-- nothing is read yet
pub quoted_begin : (whole : List ℕ) → QuotedSoFar whole [] whole
quoted_begin whole = record { go_on = λ c r h. h }

-- a run of plain bytes stands for itself
quoted_run : (w rest c r : List ℕ) → AllPass is_plain w → Quoted rest c r → Quoted (w ++ rest) (w ++ c) r
quoted_run [] rest c r passes h = h
quoted_run (x ∷ w) rest c r passes h = quoted_plain (passes 0 x (omega arith)) (quoted_run w rest c r (λ k d lt. passes (suc k) d (omega (arith, lt))) h)

-- one more run of plain bytes
pub quoted_past_plain : {whole content rest w stop : List ℕ} → QuotedSoFar whole content rest → Longest is_plain rest w stop → QuotedSoFar whole (content ++ w) stop
quoted_past_plain {whole} {content} {rest} {w} {stop} so_far run = record {
  go_on = λ c r h. subst (λ l. Quoted whole l r) (sym (append_assoc content w c)) (so_far.go_on (w ++ c) r (subst (λ a. Quoted a (w ++ c) r) (sym run.whole) (quoted_run w stop c r run.passes h)));
}

-- one more escape
pub quoted_past_escape : {whole content rest after : List ℕ} {e b : ℕ} → QuotedSoFar whole content rest → rest ≡ 92 ∷ e ∷ after → escape_of e ≡ Some b → QuotedSoFar whole (content ++ b ∷ []) after
quoted_past_escape {whole} {content} {b = b} so_far e known = record {
  go_on = λ c r h. subst (λ l. Quoted whole l r) (sym (append_assoc content (b ∷ []) c)) (so_far.go_on (b ∷ c) r (subst (λ a. Quoted a (b ∷ c) r) (sym e) (quoted_escape known h)));
}

-- the content up to here
pub quoted_end : {whole content rest : List ℕ} → QuotedSoFar whole content rest → Quoted whole content rest
quoted_end {whole} {content} {rest} so_far = subst (λ l. Quoted whole l rest) (append-nil content) (so_far.go_on [] rest quoted_none)
