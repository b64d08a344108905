-- The word that is cut off a text is the word that it begins with.
use Rattle.std.proofs.Common.{◌≡◌, ℕ, ◌+◌, ◌<◌, List, [], ◌∷◌, ◌++◌, append_assoc, append-nil, length, take, drop, Bool, true, false, not, cond, refl, sym, ap, subst, ◌∙◌, arith, length-append}
use Rattle.std.specs.Prelude.{All}
use Rattle.std.specs.List.{position_or_len}
use Rattle.std.proofs.Math.Seq.{take-append_seam, drop-append_seam, get_or-append_seam}
use Rattle.std.proofs.lemmas.List.{take_all, drop_all, take-append-drop, get_or_append_left}
use Rattle.std.proofs.lemmas.List.Elements.{All-nil, All-cons, All-head, All-tail, All-get_or}
use Rattle.std.proofs.lemmas.List.Sums.{position_or_len_is}
use Rattle.stepper_commands.specs.Words.{is_blank, is_bare, without_blanks, first_word, behind_word}
use Rattle.stepper_commands.specs.Commands.{is_skipped}
use Rattle.stepper_commands.specs.Inputs.{IsWord}
use Rattle.stepper_commands.specs.Spells.{AreBlanks, BeginsWithWord, word_alone, word_before, BeginsCommand, behind_blanks}
use Rattle.stepper_commands.proofs.Wording.{one_more, skip_blank, keep_other, blanks_gone, not_true, behind, first_blank, first_other, behind_blank, behind_other}

abbrev IsBlank : ℕ → Type 0
IsBlank b = is_blank b ≡ true

abbrev IsOther : ℕ → Type 0
IsOther b = is_blank b ≡ false

-- a text with no blank in front loses none
pub bare_stays : (text : List ℕ) → is_bare text ≡ true → without_blanks text ≡ text
bare_stays [] h = refl
bare_stays (b ∷ bs) h = keep_other b bs (not_true (is_blank b) h)

pub blanks_dropped : (blanks text : List ℕ) → AreBlanks blanks → without_blanks (blanks ++ text) ≡ without_blanks text
blanks_dropped [] text h = refl
blanks_dropped (b ∷ bs) text h = skip_blank b (bs ++ text) (All-head IsBlank b bs h) ∙ blanks_dropped bs text (All-tail IsBlank b bs h)

-- a word has no blank in front
word_is_bare : (word rest : List ℕ) → IsWord word → is_bare (word ++ rest) ≡ true
word_is_bare [] rest is = absurd (omega (arith, is.0))
word_is_bare (b ∷ bs) rest is = ap not (All-head IsOther b bs is.1)

-- a word ends where the text ends, or at a blank
alone_end : (word : List ℕ) → IsWord word → position_or_len is_blank word ≡ length word
alone_end word is = position_or_len_is is_blank word (length word) 0 (omega arith) (λ k below. All-get_or IsOther word k 0 below is.1) (λ within. absurd (omega arith))

blank_end : (word : List ℕ) (b : ℕ) (rest : List ℕ) → IsWord word → is_blank b ≡ true → position_or_len is_blank (word ++ b ∷ rest) ≡ length word
blank_end word b rest is h =
    let long = length-append word (b ∷ rest) in
    position_or_len_is is_blank (word ++ b ∷ rest) (length word) 0 (omega arith)
    (λ k below. ap is_blank (get_or_append_left word (b ∷ rest) 0 k below) ∙ All-get_or IsOther word k 0 below is.1)
    (λ within. ap is_blank (get_or-append_seam word b rest 0) ∙ h)

first_before : (word blanks rest : List ℕ) → IsWord word → 0 < length blanks → AreBlanks blanks → is_bare rest ≡ true
    → (first_word (word ++ blanks ++ rest) ≡ word) × (behind_word (word ++ blanks ++ rest) ≡ rest)
first_before word [] rest is some h bare = absurd (omega (arith, some))
first_before word (b ∷ bs) rest is some h bare =
    let same : word ++ (b ∷ bs) ++ rest ≡ word ++ b ∷ (bs ++ rest) = append_assoc word (b ∷ bs) rest in
    let end : position_or_len is_blank (word ++ b ∷ (bs ++ rest)) ≡ length word = blank_end word b (bs ++ rest) is (All-head IsBlank b bs h) in (
      ap first_word same ∙ ap (λ n. take n (word ++ b ∷ (bs ++ rest))) end ∙ take-append_seam word (b ∷ (bs ++ rest)),
      ap behind_word same ∙ ap (λ n. without_blanks (drop n (word ++ b ∷ (bs ++ rest)))) end ∙ ap without_blanks (drop-append_seam word (b ∷ (bs ++ rest)))
          ∙ blanks_dropped (b ∷ bs) rest h ∙ bare_stays rest bare,
    )

-- a word that a text begins with is the one that is cut off
pub told_word : (text word rest : List ℕ) → BeginsWithWord text word rest → (word ≡ first_word text) × (rest ≡ behind_word text)
told_word text word rest (word_alone {word = w} is) =
    (sym (ap (λ n. take n w) (alone_end w is) ∙ take_all (length w) w (omega arith)), sym (ap (λ n. without_blanks (drop n w)) (alone_end w is) ∙ ap without_blanks (drop_all (length w) w (omega arith))))
told_word text word rest (word_before {word = w} {rest = r} blanks is some h bare) =
    let both = first_before w blanks r is some h bare in
    (sym both.0, sym both.1)

begins_bare : (text word rest : List ℕ) → BeginsWithWord text word rest → is_bare text ≡ true
begins_bare text word rest (word_alone {word = w} is) = ap is_bare (sym (append-nil w)) ∙ word_is_bare w [] is
begins_bare text word rest (word_before {word = w} {rest = r} blanks is some h bare) = ap is_bare (append_assoc w blanks r) ∙ word_is_bare w (blanks ++ r) is

-- what stands in front are blanks
front_first : (b : ℕ) (bs : List ℕ) (t : Bool) → is_blank b ≡ t → AreBlanks (take (position_or_len (λ c. not (is_blank c)) bs) bs) → AreBlanks (take (cond (not (not t)) (1 + position_or_len (λ c. not (is_blank c)) bs) 0) (b ∷ bs))
front_first b bs true h k = subst (λ (n : ℕ). AreBlanks (take n (b ∷ bs))) (sym (one_more (position_or_len (λ c. not (is_blank c)) bs))) (All-cons IsBlank b (take (position_or_len (λ c. not (is_blank c)) bs) bs) h k)
front_first b bs false h k = All-nil IsBlank

pub are_front : (text : List ℕ) → AreBlanks (take (position_or_len (λ b. not (is_blank b)) text) text)
are_front [] = All-nil IsBlank
are_front (b ∷ bs) = front_first b bs (is_blank b) refl (are_front bs)

some_front : (b : ℕ) (bs : List ℕ) → is_blank b ≡ true → 0 < length (take (position_or_len (λ c. not (is_blank c)) (b ∷ bs)) (b ∷ bs))
some_front b bs h =
    let m : ℕ = position_or_len (λ c. not (is_blank c)) bs in
    subst (λ (t : Bool). 0 < length (take (cond (not (not t)) (1 + m) 0) (b ∷ bs))) (sym h) (subst (λ (n : ℕ). 0 < length (take n (b ∷ bs))) (sym (one_more m)) (omega arith))

-- what a word leaves is empty or begins with a blank
abbrev is_parted : List ℕ → Bool
is_parted [] = true
is_parted (b ∷ bs) = is_blank b

parted_by : (b : ℕ) (bs : List ℕ) (t : Bool) → is_blank b ≡ t → is_parted (behind bs) ≡ true → is_parted (behind (b ∷ bs)) ≡ true
parted_by b bs true h k = ap is_parted (behind_blank b bs h) ∙ h
parted_by b bs false h k = ap is_parted (behind_other b bs h) ∙ k

parted : (text : List ℕ) → is_parted (behind text) ≡ true
parted [] = refl
parted (b ∷ bs) = parted_by b bs (is_blank b) refl (parted bs)

others_by : (b : ℕ) (bs : List ℕ) (t : Bool) → is_blank b ≡ t → All IsOther (first_word bs) → All IsOther (first_word (b ∷ bs))
others_by b bs true h k = subst (All IsOther) (sym (first_blank b bs h)) (All-nil IsOther)
others_by b bs false h k = subst (All IsOther) (sym (first_other b bs h)) (All-cons IsOther b (first_word bs) h k)

others : (text : List ℕ) → All IsOther (first_word text)
others [] = All-nil IsOther
others (b ∷ bs) = others_by b bs (is_blank b) refl (others bs)

first_is_word : (text : List ℕ) → is_bare text ≡ true → 0 < length text → IsWord (first_word text)
first_is_word [] bare some = absurd (omega (arith, some))
first_is_word (b ∷ bs) bare some = (omega (arith, ap length (first_other b bs (not_true (is_blank b) bare))), others (b ∷ bs))

cut_by : (word rest : List ℕ) → IsWord word → is_parted rest ≡ true → BeginsWithWord (word ++ rest) word (without_blanks rest)
cut_by word [] is h = subst (λ (t : List ℕ). BeginsWithWord t word []) (sym (append-nil word)) (word_alone is)
cut_by word (b ∷ bs) is h =
    let rest : List ℕ = b ∷ bs in
    let n : ℕ = position_or_len (λ c. not (is_blank c)) rest in
    subst (λ (t : List ℕ). BeginsWithWord t word (without_blanks rest)) (append_assoc word (take n rest) (drop n rest) ∙ ap (λ l. word ++ l) (take-append-drop n rest))
    (word_before (take n rest) is (some_front b bs h) (are_front rest) (blanks_gone rest))

-- what is cut off is a word that the text begins with
pub cut_word : (text : List ℕ) → is_bare text ≡ true → 0 < length text → BeginsWithWord text (first_word text) (behind_word text)
cut_word text bare some =
    subst (λ (t : List ℕ). BeginsWithWord t (first_word text) (behind_word text)) (take-append-drop (position_or_len is_blank text) text)
    (cut_by (first_word text) (behind text) (first_is_word text bare some) (parted text))

-- the same of the word of a command, behind blanks
pub told_command : (line word rest : List ℕ) → BeginsCommand line word rest → (word ≡ first_word (without_blanks line)) × (rest ≡ behind_word (without_blanks line))
told_command line word rest (behind_blanks {word = w} {rest = r} blanks text h begins) =
    let same : without_blanks (blanks ++ text) ≡ text = blanks_dropped blanks text h ∙ bare_stays text (begins_bare text w r begins) in
    let both = told_word text w r begins in
    (both.0 ∙ ap first_word (sym same), both.1 ∙ ap behind_word (sym same))

pub cut_command : (line : List ℕ) → 0 < length (without_blanks line) → BeginsCommand line (first_word (without_blanks line)) (behind_word (without_blanks line))
cut_command line some =
    let n : ℕ = position_or_len (λ b. not (is_blank b)) line in
    subst (λ (l : List ℕ). BeginsCommand l (first_word (without_blanks line)) (behind_word (without_blanks line))) (take-append-drop n line)
    (behind_blanks (take n line) (without_blanks line) (are_front line) (cut_word (without_blanks line) (blanks_gone line) some))

-- a text is skipped where its first word would be
pub same_skipped : (text : List ℕ) → is_bare text ≡ true → is_skipped (first_word text) ≡ is_skipped text
same_skipped [] bare = refl
same_skipped (b ∷ bs) bare = ap is_skipped (first_other b bs (not_true (is_blank b) bare))
