-- How a character is written between quotation marks.
use Rattle.std.proofs.Common.{◌≡◌, ◌≢◌, ℕ, ◌+◌, ◌≤◌, Bool, true, false, cond, ltb, List, [], ◌∷◌, ◌++◌, map, refl, sym, ap, ◌∙◌, arith, append_assoc, append-nil, map-id, if◌then◌else◌, is_ok, Result, Ok, Err, OnOk}
use Rattle.std.specs.List.{flat_map}
use Rattle.std.specs.Str.{IsUtf8, chars}
use lib.Utf8.{encode, encodes}
use Rattle.std.proofs.lemmas.Str.{encodes-append, encodes-chars}
use Rattle.std.proofs.lemmas.List.Concat.{flat_map-append}
use Rattle.std.proofs.lemmas.Bool.Decides.{nat_tests}
use Rattle.ids.specs.Quoted.{quoted, quoted_byte}

-- bytes that are written as they are
record IsPlain (bs : List ℕ) : Type 0 where
  same : flat_map quoted_byte bs ≡ bs

plain_byte : (b : ℕ) → b ≢ 34 → b ≢ 92 → b ≢ 10 → b ≢ 9 → b ≢ 13 → quoted_byte b ≡ b ∷ []
plain_byte b p q r s t = grind (arith, nat_tests)

-- a byte of a character of several bytes
high_byte : (a b : ℕ) → 93 ≤ a → quoted_byte (a + b) ≡ (a + b) ∷ []
high_byte a b h = plain_byte (a + b) (λ e. omega (arith, e)) (λ e. omega (arith, e)) (λ e. omega (arith, e)) (λ e. omega (arith, e)) (λ e. omega (arith, e))

plain_nil : IsPlain []
plain_nil = record { same = refl }

plain_cons : {b : ℕ} {bs : List ℕ} → quoted_byte b ≡ b ∷ [] → IsPlain bs → IsPlain (b ∷ bs)
plain_cons {b = b} {bs = bs} p h = record { same = ap (λ xs. xs ++ flat_map quoted_byte bs) p ∙ ap (λ xs. b ∷ xs) h.same }

plain_cond : (t : Bool) {bs cs : List ℕ} → IsPlain bs → IsPlain cs → IsPlain (cond t bs cs)
plain_cond t {bs = bs} {cs = cs} p q = elim t as (λ x. IsPlain (cond x bs cs)) [ true ↦ p | false ↦ q ]

high : (a b : ℕ) {bs : List ℕ} → 93 ≤ a → IsPlain bs → IsPlain ((a + b) ∷ bs)
high a b h p = plain_cons (high_byte a b h) p

encode_plain : (c : ℕ) → quoted_byte c ≡ c ∷ [] → IsPlain (encode c)
unfolding encode
encode_plain c p =
    plain_cond (ltb c 128) (plain_cons p plain_nil)
    (plain_cond (ltb c 2048) (high 192 _ (omega arith) (high 128 _ (omega arith) plain_nil))
    (plain_cond (ltb c 65536) (high 224 _ (omega arith) (high 128 _ (omega arith) (high 128 _ (omega arith) plain_nil)))
    (high 240 _ (omega arith) (high 128 _ (omega arith) (high 128 _ (omega arith) (high 128 _ (omega arith) plain_nil))))))

-- a character that needs no backslash
pub plain_character : (c : ℕ) → c ≢ 34 → c ≢ 92 → c ≢ 10 → c ≢ 9 → c ≢ 13 → flat_map quoted_byte (encode c) ≡ encode c
plain_character c p q r s t = (encode_plain c (plain_byte c p q r s t)).same

encodes_one : (c : ℕ) → encodes (c ∷ []) ≡ encode c
encodes_one c = append-nil (encode c)

-- one more character of a text
pub quoted_more : (old mid new cs : List ℕ) (c : ℕ) → mid ≡ old ++ flat_map quoted_byte (encodes cs) → new ≡ mid ++ flat_map quoted_byte (encode c) → new ≡ old ++ flat_map quoted_byte (encodes (cs ++ c ∷ []))
quoted_more old mid new cs c p q =
    q ∙ ap (λ bs. bs ++ flat_map quoted_byte (encode c)) p
    ∙ append_assoc old (flat_map quoted_byte (encodes cs)) (flat_map quoted_byte (encode c))
    ∙ ap (λ bs. old ++ bs) (sym (flat_map-append quoted_byte (encodes cs) (encode c)) ∙ ap (λ bs. flat_map quoted_byte (encodes cs ++ bs)) (sym (encodes_one c)) ∙ ap (flat_map quoted_byte) (sym (encodes-append cs (c ∷ []))))

-- the bytes of all characters of a text
pub all_characters : (text cs : List ℕ) → IsUtf8 text → map (λ c. c) cs ≡ chars text → encodes cs ≡ text
all_characters text cs u e = ap encodes (sym (map-id cs) ∙ e) ∙ encodes-chars text u

-- a quotation mark before and behind
pub between_marks : (old first mid text : List ℕ) → first ≡ old ++ 34 ∷ [] → mid ≡ first ++ flat_map quoted_byte text → mid ++ 34 ∷ [] ≡ old ++ quoted text
between_marks old first mid text p q =
    ap (λ bs. bs ++ 34 ∷ []) (q ∙ ap (λ bs. bs ++ flat_map quoted_byte text) p)
    ∙ ap (λ bs. bs ++ 34 ∷ []) (append_assoc old (34 ∷ []) (flat_map quoted_byte text))
    ∙ append_assoc old (34 ∷ flat_map quoted_byte text) (34 ∷ [])

-- what a string holds after its last write
pub after_last : {T E : Type 0} (r : Result T E) (new mid last all : List ℕ) → new ≡ (if is_ok r then last else mid) → last ≡ all → OnOk r (new ≡ all)
after_last (Ok x) new mid last all p q = p ∙ q
after_last (Err e) new mid last all p q = tt
