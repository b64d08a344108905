-- Names are looked for one after another.
use Rattle.std.proofs.Common.{◌≡◌, ℕ, zero, suc, ◌<◌, List, [], ◌∷◌, ◌++◌, length, get_or, take, drop, refl, ap, ◌∙◌, arith}
use Rattle.std.specs.Ordering.{match_ordering}
use Rattle.std.specs.declared.cmp.Ordering.TheVariants.{Less, Equal, Greater}
use Rattle.ids.specs.Cells.{message_cmp}
use Rattle.ids.specs.declared.names.MsgId.{MsgId}
use Rattle.eorder.specs.Fences.{with_name, joined}

module _ (m : MsgId) where
  -- the list with the name in it, where i names were passed
  abbrev pub passed : List MsgId → ℕ → List MsgId
  passed xs i = take i xs ++ with_name m (drop i xs)

  pub pass : (xs : List MsgId) (i : ℕ) (x : MsgId) → i < length xs → get_or xs i x ≡ x → message_cmp m x ≡ Greater → passed xs i ≡ passed xs (suc i)
  pass [] i x h e c = absurd (omega (arith, h))
  pass (y ∷ ys) zero x h e c = ap (λ o. match_ordering o (m ∷ y ∷ ys) (y ∷ ys) (y ∷ with_name m ys)) (ap (message_cmp m) e ∙ c)
  pass (y ∷ ys) (suc i) x h e c = ap (λ l. y ∷ l) (pass ys i x (omega (arith, h)) e c)

  pub stop_before : (xs : List MsgId) (i : ℕ) (x : MsgId) → i < length xs → get_or xs i x ≡ x → message_cmp m x ≡ Less → passed xs i ≡ take i xs ++ m ∷ drop i xs
  stop_before [] i x h e c = absurd (omega (arith, h))
  stop_before (y ∷ ys) zero x h e c = ap (λ o. match_ordering o (m ∷ y ∷ ys) (y ∷ ys) (y ∷ with_name m ys)) (ap (message_cmp m) e ∙ c)
  stop_before (y ∷ ys) (suc i) x h e c = ap (λ l. y ∷ l) (stop_before ys i x (omega (arith, h)) e c)

  pub stop_at : (xs : List MsgId) (i : ℕ) (x : MsgId) → i < length xs → get_or xs i x ≡ x → message_cmp m x ≡ Equal → passed xs i ≡ xs
  stop_at [] i x h e c = absurd (omega (arith, h))
  stop_at (y ∷ ys) zero x h e c = ap (λ o. match_ordering o (m ∷ y ∷ ys) (y ∷ ys) (y ∷ with_name m ys)) (ap (message_cmp m) e ∙ c)
  stop_at (y ∷ ys) (suc i) x h e c = ap (λ l. y ∷ l) (stop_at ys i x (omega (arith, h)) e c)

  pub all_passed : (xs : List MsgId) → passed xs (length xs) ≡ take (length xs) xs ++ m ∷ drop (length xs) xs
  all_passed [] = refl
  all_passed (y ∷ ys) = ap (λ l. y ∷ l) (all_passed ys)

-- one more name of g was put into f
pub one_joined : (f g : List MsgId) (i : ℕ) (x : MsgId) → i < length g → get_or g i x ≡ x → joined f (drop i g) ≡ joined (with_name x f) (drop (suc i) g)
one_joined f [] i x h e = absurd (omega (arith, h))
one_joined f (y ∷ ys) zero x h e = ap (λ z. joined (with_name z f) ys) e
one_joined f (y ∷ ys) (suc i) x h e = one_joined f ys i x (omega (arith, h)) e

pub all_joined : (f g : List MsgId) → joined f (drop (length g) g) ≡ f
all_joined f [] = refl
all_joined f (y ∷ ys) = all_joined f ys
