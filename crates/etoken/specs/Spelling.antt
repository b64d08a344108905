-- How each token is spelled, over the bytes of a text.
use Rattle.std.specs.Prelude.{◌≡◌, ℕ, ◌+◌, ◌-◌, ◌*◌, ◌^◌, ◌<◌, ◌≤◌, pos, true, false, List, [], ◌∷◌, ◌++◌, ◌⊎◌, ◌≢◌, length, Some, None, codes}
use Rattle.std.specs.Char.{is_ascii_digit}
use Rattle.etoken.specs.declared.token.Token.TheVariants as token
use Rattle.etoken.specs.declared.token.Token.{Token}
use Rattle.etoken.specs.declared.token.Reserved.{Reserved}
use Rattle.etoken.specs.declared.token.Sign.TheVariants as sign
use Rattle.etoken.specs.declared.token.Sign.{Sign}
use Rattle.etoken.specs.declared.fault.TokenFault.TheVariants as fault
use Rattle.etoken.specs.declared.fault.TokenFault.{TokenFault}
use Rattle.etoken.specs.Bytes.{is_letter, is_word_byte, is_plain, begins_with, Longest}
use Rattle.etoken.specs.Table.{sign_of, reserved_of, escape_of}

-- the number of the digits so far and further digits
abbrev pub number_from : ℕ → List ℕ → ℕ
number_from n [] = n
number_from n (d ∷ ds) = number_from (10 * n + (d - 48)) ds

-- the number that decimal digits stand for
abbrev pub number : List ℕ → ℕ
number ds = number_from 0 ds

-- ds are digits in front of a, as many as there are, and r is behind them
pub record Digits (a ds r : List ℕ) : Type 0 where
  pub some : 0 < length ds
  pub longest : Longest is_ascii_digit a ds r

-- w is the longest word in front of a, and r is behind it
pub record IsWord (a w r : List ℕ) : Type 0 where
  pub letter : begins_with is_letter a ≡ true
  pub longest : Longest is_word_byte a w r

-- the bytes a begin with what stands for the content c between quotation marks, and r is behind it
pub data Quoted : List ℕ → List ℕ → List ℕ → Type 0 where
  quoted_none : {a : List ℕ} → Quoted a [] a
  quoted_plain : {b : ℕ} {a c r : List ℕ} → is_plain b ≡ true → Quoted a c r → Quoted (b ∷ a) (b ∷ c) r
  quoted_escape : {e b : ℕ} {a c r : List ℕ} → escape_of e ≡ Some b → Quoted a c r → Quoted (92 ∷ e ∷ a) (b ∷ c) r

-- the sign s stands in front of a, r is behind it, and no longer sign stands in front of a
pub record LongestSign (a : List ℕ) (s : Sign) (r : List ℕ) : Type 0 where
  pub spelling : List ℕ
  pub listed : sign_of spelling ≡ Some s
  pub whole : a ≡ spelling ++ r
  pub longest : (w q : List ℕ) (u : Sign) → sign_of w ≡ Some u → a ≡ w ++ q → length w ≤ length spelling

-- no sign stands in front of a
abbrev pub NoSign : List ℕ → Type 0
NoSign a = (w q : List ℕ) (u : Sign) → sign_of w ≡ Some u → a ≡ w ++ q → ⊥

-- the bytes a begin with the token t, and r is behind it
pub data Spells : List ℕ → Token → List ℕ → Type 0 where
  spells_int : {a ds r : List ℕ} → Digits a ds r → number ds < 2 ^ 63 → Spells a (token.Int (pos (number ds))) r
  spells_text : {a c r : List ℕ} → Quoted a c (34 ∷ r) → Spells (34 ∷ a) (token.Text c) r
  spells_reserved : {a w r : List ℕ} {word : Reserved} → IsWord a w r → reserved_of w ≡ Some word → Spells a (token.Word word) r
  spells_underscore : {a r : List ℕ} → IsWord a (codes "_") r → Spells a (token.Sign sign.Underscore) r
  spells_name : {a w r : List ℕ} → IsWord a w r → reserved_of w ≡ None → w ≢ codes "_" → Spells a (token.Name w) r
  spells_sign : {a r : List ℕ} {s : Sign} → LongestSign a s r → Spells a (token.Sign s) r

-- where the bytes a, the last of a text of n bytes, begin in it
abbrev pub offset_of : ℕ → List ℕ → ℕ
offset_of n a = n - length a

-- no integer, word or text begins with the byte b
abbrev pub LeftToSigns : ℕ → Type 0
LeftToSigns b = (is_word_byte b ≡ false) × (b ≢ 34)

-- the bytes a, the last of a text of n bytes, begin with no token, and why
pub data Spoils : ℕ → List ℕ → TokenFault → Type 0 where
  bad_character : {n b : ℕ} {a : List ℕ} → LeftToSigns b → NoSign (b ∷ a) → Spoils n (b ∷ a) (fault.BadCharacter (offset_of n (b ∷ a)))
  -- its content goes on to the end, or to a `\` at the end
  unclosed : {n : ℕ} {a c r : List ℕ} → Quoted a c r → (r ≡ []) ⊎ (r ≡ 92 ∷ []) → Spoils n (34 ∷ a) (fault.UnclosedText (offset_of n (34 ∷ a)))
  bad_escape : {n e : ℕ} {a c r : List ℕ} → Quoted a c (92 ∷ e ∷ r) → escape_of e ≡ None → Spoils n (34 ∷ a) (fault.BadEscape (offset_of n (92 ∷ e ∷ r)))
  too_large : {n : ℕ} {a ds r : List ℕ} → Digits a ds r → 2 ^ 63 ≤ number ds → Spoils n a (fault.IntegerTooLarge (offset_of n a))

-- what a fault of the bytes a, the last of a text of n bytes, says: that they spoil, or that memory ran out
abbrev pub Blames : ℕ → List ℕ → TokenFault → Type 0
Blames n a fault.Memory = Unit {0}
Blames n a f = Spoils n a f
