-- Bytes that stand as they are between quotation marks.
use Rattle.std.proofs.Common.{◌≡◌, ℕ, ◌+◌, ◌<◌, List, [], ◌∷◌, ◌++◌, Bool, true, false, not, ◌&&◌, ◌==◌, cond, take, drop, length, refl, sym, ap, ◌∙◌, append_assoc, append-nil, take-append-drop, get_or, arith}
use Rattle.std.specs.List.{flat_map}
use Rattle.std.proofs.lemmas.List.{take_more}
use Rattle.std.proofs.lemmas.List.Concat.{flat_map-append}
use Rattle.ids.specs.Quoted.{quoted_byte}
use Rattle.stepper_printing.specs.Plain.{is_plain}

plain_by : (b : ℕ) (p q r s t : Bool) → not p && not q && not r && not s && not t ≡ true
    → cond p (92 ∷ 34 ∷ []) (cond q (92 ∷ 92 ∷ []) (cond r (92 ∷ 110 ∷ []) (cond s (92 ∷ 116 ∷ []) (cond t (92 ∷ 114 ∷ []) (b ∷ []))))) ≡ b ∷ []
plain_by b true q r s t h = absurd (cc)
plain_by b false true r s t h = absurd (cc)
plain_by b false false true s t h = absurd (cc)
plain_by b false false false true t h = absurd (cc)
plain_by b false false false false true h = absurd (cc)
plain_by b false false false false false h = refl

plain_byte : (b : ℕ) → is_plain b ≡ true → quoted_byte b ≡ b ∷ []
plain_byte b h = plain_by b (b == 34) (b == 92) (b == 10) (b == 9) (b == 13) h

-- one more plain byte
pub plain_more : (bytes next : List ℕ) (b : ℕ) → next ≡ bytes ++ b ∷ [] → is_plain b ≡ true → flat_map quoted_byte bytes ≡ bytes → flat_map quoted_byte next ≡ next
plain_more bytes next b e p h =
    ap (flat_map quoted_byte) e ∙ flat_map-append quoted_byte bytes (b ∷ []) ∙ ap (λ l. l ++ (quoted_byte b ++ [])) h ∙ ap (λ l. bytes ++ l) (append-nil (quoted_byte b) ∙ plain_byte b p) ∙ sym e

-- a run of plain bytes, one more byte, and the rest
pub run_cut : (rest plain behind first later : List ℕ) (n : ℕ) → plain ≡ take n rest → behind ≡ drop n rest → behind ≡ first ++ later → flat_map quoted_byte (take n rest) ≡ take n rest
    → flat_map quoted_byte rest ≡ (plain ++ flat_map quoted_byte first) ++ flat_map quoted_byte later
run_cut rest plain behind first later n p d l h =
    ap (flat_map quoted_byte) (sym (take-append-drop n rest)) ∙ flat_map-append quoted_byte (take n rest) (drop n rest)
    ∙ ap (λ xs. xs ++ flat_map quoted_byte (drop n rest)) (h ∙ sym p) ∙ ap (λ xs. plain ++ flat_map quoted_byte xs) (sym d ∙ l)
    ∙ ap (λ xs. plain ++ xs) (flat_map-append quoted_byte first later)
    ∙ sym (append_assoc plain (flat_map quoted_byte first) (flat_map quoted_byte later))

pub no_bytes : (rest : List ℕ) → (length rest == 0) ≡ true → flat_map quoted_byte rest ≡ []
no_bytes [] h = refl
no_bytes (b ∷ bs) h = absurd (grind (arith, h))

-- one more byte of a run
pub plain_next : (bytes : List ℕ) (n i d : ℕ) → n ≡ i → i < length bytes → is_plain (get_or bytes i d) ≡ true → flat_map quoted_byte (take n bytes) ≡ take n bytes
    → (n + 1 ≡ i + 1) × (flat_map quoted_byte (take (n + 1) bytes) ≡ take (n + 1) bytes)
plain_next bytes n i d same l p h = (
  ap (λ k. k + 1) same,
  plain_more (take n bytes) (take (n + 1) bytes) (get_or bytes i d) (ap (λ k. take (k + 1) bytes) same ∙ take_more bytes i d l ∙ ap (λ k. take k bytes ++ get_or bytes i d ∷ []) (sym same)) p h,
)
