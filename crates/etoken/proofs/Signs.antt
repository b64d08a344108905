-- Signs, and the longest one.
use Rattle.std.proofs.Common.{◌≡◌, ◌≤◌, ◌<◌, ℕ, Bool, true, false, cond, List, [], ◌∷◌, ◌++◌, length, sym, refl, ap, ◌∙◌, subst, ⊎_elim, ◌⊎◌, inl, inr, arith, Option, Some, None, ltb, ◌&&◌}
use Rattle.std.specs.List.{list_all}
use Rattle.std.specs.Str.{bytes_eq}
use Rattle.std.proofs.lemmas.Bool.{cases_Bool, and_parts, ltb-false, false≢true}
use Rattle.std.proofs.lemmas.Slice.Eq.{bytes_eq-Decides}
use Rattle.etoken.specs.declared.token.Sign.{Sign}
use Rattle.etoken.specs.declared.token.Token.TheVariants as token
use Rattle.etoken.specs.declared.fault.TokenFault.TheVariants as fault
use Rattle.etoken.specs.Bytes.{begins_with, is_ascii_byte, is_word_byte}
use Rattle.etoken.specs.Table.{entry_at, signs, sign_of}
use Rattle.etoken.specs.Spelling.{Spells, spells_sign, Spoils, bad_character, LeftToSigns, offset_of}
use Rattle.etoken.proofs.Fronts.{word_ascii}

-- what holds of each spelling in a table holds of a spelling that is found there
pub entry_passes : {A : Type 0} (test : List ℕ → Bool) (rows : List (List ℕ × A)) (w : List ℕ) (u : A) → list_all (λ row. test row.0) rows ≡ true → entry_at rows w ≡ Some u → test w ≡ true
entry_passes test [] w u all e = absurd (cc)
entry_passes {A} test (row ∷ rows) w u all e =
    let parts = and_parts (test row.0) (list_all (λ row. test row.0) rows) all in
    ⊎_elim
    (λ (same : bytes_eq w row.0 ≡ true). ap test ((bytes_eq-Decides w row.0).0 same) ∙ parts.0)
    (λ (other : bytes_eq w row.0 ≡ false). entry_passes test rows w u parts.1 (sym (ap (λ b. cond b (Some row.1) (entry_at rows w)) other) ∙ e))
    (cases_Bool (bytes_eq w row.0))

-- one or two characters, all of them ASCII
abbrev is_short : List ℕ → Bool
is_short [] = false
is_short (x ∷ []) = ltb x 128
is_short (x ∷ y ∷ []) = ltb x 128 && ltb y 128
is_short (x ∷ y ∷ z ∷ w) = false

-- each sign is short
sign_short : (w : List ℕ) (u : Sign) → sign_of w ≡ Some u → is_short w ≡ true
sign_short w u e = entry_passes is_short signs w u refl e

-- short is at most two characters
at_most_two : (w : List ℕ) → is_short w ≡ true → length w ≤ 2
at_most_two [] e = omega arith
at_most_two (x ∷ []) e = omega arith
at_most_two (x ∷ y ∷ []) e = omega arith
at_most_two (x ∷ y ∷ z ∷ w) e = absurd (false≢true e)

-- a sign has a character
pub sign_some : (w : List ℕ) (u : Sign) → sign_of w ≡ Some u → 0 < length w
sign_some [] u e = absurd (false≢true (sign_short [] u e))
sign_some (x ∷ w) u e = omega arith

-- a sign of two characters is the longest
pub long_spelled : {rest behind after : List ℕ} {x y : ℕ} {s : Sign} → rest ≡ x ∷ behind → behind ≡ y ∷ after → sign_of (x ∷ y ∷ []) ≡ Some s → Spells rest (token.Sign s) after
long_spelled {x = x} {y = y} e f known = spells_sign (record {
  spelling = x ∷ y ∷ [];
  listed = known;
  whole = e ∙ ap (λ l. x ∷ l) f;
  longest = λ w q u is _. at_most_two w (sign_short w u is);
})

-- a sign in front of a text is its first character, or its first two
in_front : (w q : List ℕ) (x : ℕ) (behind : List ℕ) → is_short w ≡ true → x ∷ behind ≡ w ++ q → (w ≡ x ∷ []) ⊎ ((y : ℕ) × (w ≡ x ∷ y ∷ []) × (behind ≡ y ∷ q))
in_front [] q x behind e h = absurd (false≢true e)
in_front (v ∷ []) q x behind e h = inl (ap (λ t. t ∷ []) (let s : v ≡ x = cc in s))
in_front (v ∷ y ∷ []) q x behind e h = inr (y, ap (λ t. t ∷ y ∷ []) (let s : v ≡ x = cc in s), (let s : behind ≡ y ∷ q = cc in s))
in_front (v ∷ y ∷ z ∷ w) q x behind e h = absurd (false≢true e)

-- no sign of two characters begins with x and goes on in the text
abbrev pub NoLongSign : ℕ → List ℕ → Type 0
NoLongSign x behind = (y : ℕ) (a : List ℕ) → behind ≡ y ∷ a → sign_of (x ∷ y ∷ []) ≡ None

-- a table has no entry where none can be
pub none_of : {A : Type 0} (o : Option A) → ((u : A) → o ≡ Some u → ⊥) → o ≡ None
none_of None f = refl
none_of (Some u) f = absurd (f u refl)

-- a table has an entry or has none
pub not_both : {A : Type 0} {o : Option A} {u : A} → o ≡ None → o ≡ Some u → ⊥
not_both e f = absurd (cc)

-- a sign of one character is the longest where no sign of two stands there
pub short_spelled : {rest behind : List ℕ} {x : ℕ} {s : Sign} → rest ≡ x ∷ behind → NoLongSign x behind → sign_of (x ∷ []) ≡ Some s → Spells rest (token.Sign s) behind
short_spelled {rest} {behind} {x} {s} e none known = spells_sign (record {
  spelling = x ∷ [];
  listed = known;
  whole = e;
  longest = λ w q u is h. ⊎_elim
      (λ (one : w ≡ x ∷ []). omega (arith, ap length one))
      (λ (two : (y : ℕ) × (w ≡ x ∷ y ∷ []) × (behind ≡ y ∷ q)). absurd (not_both (none two.0 q two.2) (sym (ap sign_of two.1) ∙ is)))
      (in_front w q x behind (sign_short w u is) (sym e ∙ h));
})

-- where neither stands there, no token begins there
pub no_sign : {n : ℕ} {rest behind : List ℕ} {x : ℕ} → rest ≡ x ∷ behind → LeftToSigns x → NoLongSign x behind → sign_of (x ∷ []) ≡ None → Spoils n rest (fault.BadCharacter (offset_of n rest))
no_sign {n} {rest} {behind} {x} e nothing none known = subst (λ l. Spoils n l (fault.BadCharacter (offset_of n l))) (sym e) (bad_character nothing (λ w q u is h. ⊎_elim
    (λ (one : w ≡ x ∷ []). not_both known (sym (ap sign_of one) ∙ is))
    (λ (two : (y : ℕ) × (w ≡ x ∷ y ∷ []) × (behind ≡ y ∷ q)). not_both (none two.0 q two.2) (sym (ap sign_of two.1) ∙ is))
    (in_front w q x behind (sign_short w u is) h)))

-- no token begins with a byte past ASCII
pub past_ascii : (n : ℕ) (rest : List ℕ) → 0 < length rest → begins_with is_ascii_byte rest ≡ false → Spoils n rest (fault.BadCharacter (offset_of n rest))
past_ascii n [] some h = absurd (omega (arith, some))
past_ascii n (x ∷ a) some h = no_sign refl (begins x h) (λ y b e. none_of (sign_of (x ∷ y ∷ [])) (λ u is. false≢true (sym h ∙ (and_parts (ltb x 128) (ltb y 128) (sign_short (x ∷ y ∷ []) u is)).0)))
    (none_of (sign_of (x ∷ [])) (λ u is. false≢true (sym h ∙ sign_short (x ∷ []) u is)))
  where
    begins : (x : ℕ) → ltb x 128 ≡ false → LeftToSigns x
    begins x h = (⊎_elim (λ (w : is_word_byte x ≡ true). absurd (omega (arith, word_ascii x w, ltb-false x 128 h))) (λ (w : is_word_byte x ≡ false). w) (cases_Bool (is_word_byte x)), λ e. omega (arith, e, ltb-false x 128 h))
