-- Two journals, of any subjects, whose entries have the same causes and meet alike: what is closed, sound or ordered in one is so in the other.
use Rattle.std.proofs.Common.{◌≡◌, Bool, ◌&&◌, List, [], ◌∷◌, map, sym, ap₂, ◌∙◌}
use Rattle.std.specs.List.{AllByRecursion}
use Rattle.history.specs.Subject.{Subject, meets}
use Rattle.history.specs.Journal.{Entry, name_of, caused, Sound, Closed, Part, Ordered, Distinct, NoneNamesItself}
use Rattle.history.proofs.Lists.{all_map, all_both, all_mapped}
use Rattle.journal.proofs.Reversed.{all_unmapped, all_zip, fewer_pairs}

module _ {A : Type 0} (s r : Subject) (f : A → Entry s) (g : A → Entry r) where
  -- an entry of the one names another as a cause where it does so in the other
  abbrev pub SameCauses : List A → Type 0
  SameCauses xs = AllByRecursion (λ p. AllByRecursion (λ q. caused s (f p) (f q) ≡ caused r (g p) (g q)) xs) xs

  -- and wrote what another touches
  abbrev pub SameMeets : List A → Type 0
  SameMeets xs = AllByRecursion (λ p. AllByRecursion (λ q. meets s (f q).foot (f p).foot ≡ meets r (g q).foot (g p).foot) xs) xs

  -- a set of the one and a set of the other have the same members
  abbrev pub SameSet : (Entry s → Bool) → (Entry r → Bool) → List A → Type 0
  SameSet t c xs = AllByRecursion (λ p. t (f p) ≡ c (g p)) xs

  pub sound_alike : (t : Entry s → Bool) (c : Entry r → Bool) (xs : List A) → SameCauses xs → SameMeets xs → SameSet t c xs → Sound s t (map f xs) → Sound r c (map g xs)
  sound_alike t c [] causes met same h = tt
  sound_alike t c (x ∷ xs) causes met (here, same) (h, hs) = (
    λ is. all_mapped g _ xs (all_both _ _ _ xs (λ q both old. sym both.0 ∙ old ∙ ap₂ (λ a b. a && b) both.1.1 both.1.0)
        (all_zip _ _ xs causes.0.1 (all_zip _ _ xs met.0.1 same)) (all_unmapped f _ xs (h (here ∙ is)))),
    sound_alike t c xs (fewer_pairs _ x xs causes) (fewer_pairs _ x xs met) same hs,
  )

  pub closed_alike : (t c : Entry s → Bool) (u d : Entry r → Bool) (xs : List A) → SameCauses xs → SameSet t u xs → SameSet c d xs → Closed s t c (map f xs) → Closed r u d (map g xs)
  closed_alike t c u d [] causes members same h = tt
  closed_alike t c u d (x ∷ xs) causes (member, members) (here, same) (h, hs) = (
    λ is. all_mapped g _ xs (all_both _ _ _ xs (λ q both old is_of named. sym here ∙ old (both.1 ∙ is_of) (both.0 ∙ named))
        (all_zip _ _ xs causes.0.1 same) (all_unmapped f _ xs (h (member ∙ is)))),
    closed_alike t c u d xs (fewer_pairs _ x xs causes) members same hs,
  )

  pub part_alike : (t c : Entry s → Bool) (u d : Entry r → Bool) (xs : List A) → SameSet t u xs → SameSet c d xs → Part c t (map f xs) → Part d u (map g xs)
  part_alike t c u d xs members same h =
      all_mapped g _ xs (all_both _ _ _ xs (λ q both old is. sym both.0 ∙ old (both.1 ∙ is)) (all_zip _ _ xs members same) (all_unmapped f _ xs h))

  pub ordered_alike : (xs : List A) → SameCauses xs → Ordered s (map f xs) → Ordered r (map g xs)
  ordered_alike [] causes h = tt
  ordered_alike (x ∷ xs) causes (h, hs) = (
    all_mapped g _ xs (all_both _ _ _ xs (λ q same old. sym same.0 ∙ old) causes.1 (all_unmapped f _ xs h)),
    ordered_alike xs (fewer_pairs _ x xs causes) hs,
  )

  pub own_alike : (xs : List A) → SameCauses xs → NoneNamesItself s (map f xs) → NoneNamesItself r (map g xs)
  own_alike xs causes h = all_mapped g _ xs (all_both _ _ _ xs (λ q same old. sym same ∙ old) (own_pairs xs causes) (all_unmapped f _ xs h))
    where
      own_pairs : (ys : List A) → SameCauses ys → AllByRecursion (λ q. caused s (f q) (f q) ≡ caused r (g q) (g q)) ys
      own_pairs [] h = tt
      own_pairs (y ∷ ys) h = (h.0.0, own_pairs ys (fewer_pairs _ y ys h))

  pub distinct_alike : ((p : A) → name_of s (f p) ≡ name_of r (g p)) → (xs : List A) → Distinct s (map f xs) → Distinct r (map g xs)
  distinct_alike names [] h = tt
  distinct_alike names (x ∷ xs) (h, hs) = (
    all_mapped g _ xs (all_map _ _ xs (λ q apart is. apart (names q ∙ is ∙ sym (names x))) (all_unmapped f _ xs h)),
    distinct_alike names xs hs,
  )

-- what holds of all pairs holds the other way round
pub causes_turned : {A : Type 0} (s r : Subject) (f : A → Entry s) (g : A → Entry r) (xs : List A) → SameCauses s r f g xs → SameCauses r s g f xs
causes_turned s r f g xs h = all_map _ _ xs (λ p hs. all_map _ _ xs (λ q e. sym e) hs) h

pub meets_turned : {A : Type 0} (s r : Subject) (f : A → Entry s) (g : A → Entry r) (xs : List A) → SameMeets s r f g xs → SameMeets r s g f xs
meets_turned s r f g xs h = all_map _ _ xs (λ p hs. all_map _ _ xs (λ q e. sym e) hs) h

pub set_turned : {A : Type 0} (s r : Subject) (f : A → Entry s) (g : A → Entry r) (t : Entry s → Bool) (c : Entry r → Bool) (xs : List A) → SameSet s r f g t c xs → SameSet r s g f c t xs
set_turned s r f g t c xs h = all_map _ _ xs (λ p e. sym e) h
