-- Cutting off one word after another gives all words of a text.
use Rattle.std.proofs.Common.{◌≡◌, ℕ, suc, ◌+◌, ◌<◌, ◌≤◌, List, [], ◌∷◌, ◌++◌, append_assoc, append-nil, length, map, take, drop, filter, Bool, true, false, not, cond, Option, Some, None, refl, sym, ap, subst, ◌∙◌, arith, length-drop, ◌==◌}
use Rattle.std.specs.Option.{option_map, option_and_then}
use Rattle.std.specs.List.{position_or_len, slice_split, onto_first}
use Rattle.std.specs.Borrow.{Bor}
use Rattle.std.proofs.lemmas.List.{map-append}
use Rattle.ids.specs.declared.names.EventName.{EventName}
use Rattle.stepper_commands.specs.Words.{is_blank, is_bare, without_blanks, first_word, behind_word, is_word, words_in}
use Rattle.stepper_commands.specs.Numbers.{event_named, events_named, one_or_more}

pub one_more : (n : ℕ) → 1 + n ≡ suc n
one_more n = omega arith

-- a blank in front is left out
pub skip_blank : (b : ℕ) (bs : List ℕ) → is_blank b ≡ true → without_blanks (b ∷ bs) ≡ without_blanks bs
skip_blank b bs h =
    ap (λ t. drop (cond (not (not t)) (1 + position_or_len (λ c. not (is_blank c)) bs) 0) (b ∷ bs)) h
    ∙ ap (λ n. drop n (b ∷ bs)) (one_more (position_or_len (λ c. not (is_blank c)) bs))

pub keep_other : (b : ℕ) (bs : List ℕ) → is_blank b ≡ false → without_blanks (b ∷ bs) ≡ b ∷ bs
keep_other b bs h = ap (λ t. drop (cond (not (not t)) (1 + position_or_len (λ c. not (is_blank c)) bs) 0) (b ∷ bs)) h

begins_by : (b : ℕ) (bs : List ℕ) (t : Bool) → is_blank b ≡ t → is_bare (without_blanks bs) ≡ true → is_bare (without_blanks (b ∷ bs)) ≡ true
begins_by b bs true h k = ap is_bare (skip_blank b bs h) ∙ k
begins_by b bs false h k = ap is_bare (keep_other b bs h) ∙ ap not h

pub blanks_gone : (text : List ℕ) → is_bare (without_blanks text) ≡ true
blanks_gone [] = refl
blanks_gone (b ∷ bs) = begins_by b bs (is_blank b) refl (blanks_gone bs)

split_blank : (b : ℕ) (bs : List ℕ) → is_blank b ≡ true → words_in (b ∷ bs) ≡ words_in bs
split_blank b bs h = ap (λ t. filter is_word (cond t ([] ∷ slice_split is_blank bs) (onto_first b (slice_split is_blank bs)))) h

skip_by : (b : ℕ) (bs : List ℕ) (t : Bool) → is_blank b ≡ t → words_in (without_blanks bs) ≡ words_in bs → words_in (without_blanks (b ∷ bs)) ≡ words_in (b ∷ bs)
skip_by b bs true h k = ap words_in (skip_blank b bs h) ∙ k ∙ sym (split_blank b bs h)
skip_by b bs false h k = ap words_in (keep_other b bs h)

-- blanks in front are no word
pub words_behind_blanks : (text : List ℕ) → words_in (without_blanks text) ≡ words_in text
words_behind_blanks [] = refl
words_behind_blanks (b ∷ bs) = skip_by b bs (is_blank b) refl (words_behind_blanks bs)

-- what is behind the first word, with the blanks before it
abbrev pub behind : List ℕ → List ℕ
behind text = drop (position_or_len is_blank text) text

abbrev parts_behind : List ℕ → List (List ℕ)
parts_behind [] = []
parts_behind (b ∷ bs) = slice_split is_blank bs

pub first_blank : (b : ℕ) (bs : List ℕ) → is_blank b ≡ true → first_word (b ∷ bs) ≡ []
first_blank b bs h = ap (λ t. take (cond (not t) (1 + position_or_len is_blank bs) 0) (b ∷ bs)) h

pub first_other : (b : ℕ) (bs : List ℕ) → is_blank b ≡ false → first_word (b ∷ bs) ≡ b ∷ first_word bs
first_other b bs h = ap (λ t. take (cond (not t) (1 + position_or_len is_blank bs) 0) (b ∷ bs)) h ∙ ap (λ n. take n (b ∷ bs)) (one_more (position_or_len is_blank bs))

pub behind_blank : (b : ℕ) (bs : List ℕ) → is_blank b ≡ true → behind (b ∷ bs) ≡ b ∷ bs
behind_blank b bs h = ap (λ t. drop (cond (not t) (1 + position_or_len is_blank bs) 0) (b ∷ bs)) h

pub behind_other : (b : ℕ) (bs : List ℕ) → is_blank b ≡ false → behind (b ∷ bs) ≡ behind bs
behind_other b bs h = ap (λ t. drop (cond (not t) (1 + position_or_len is_blank bs) 0) (b ∷ bs)) h ∙ ap (λ n. drop n (b ∷ bs)) (one_more (position_or_len is_blank bs))

parts_by : (b : ℕ) (bs : List ℕ) (t : Bool) → is_blank b ≡ t → slice_split is_blank bs ≡ first_word bs ∷ parts_behind (behind bs)
    → slice_split is_blank (b ∷ bs) ≡ first_word (b ∷ bs) ∷ parts_behind (behind (b ∷ bs))
parts_by b bs true h k =
    ap (λ t. cond t ([] ∷ slice_split is_blank bs) (onto_first b (slice_split is_blank bs))) h
    ∙ sym (ap (λ w. w ∷ parts_behind (behind (b ∷ bs))) (first_blank b bs h) ∙ ap (λ r. [] ∷ parts_behind r) (behind_blank b bs h))
parts_by b bs false h k =
    ap (λ t. cond t ([] ∷ slice_split is_blank bs) (onto_first b (slice_split is_blank bs))) h ∙ ap (onto_first b) k
    ∙ sym (ap (λ w. w ∷ parts_behind (behind (b ∷ bs))) (first_other b bs h) ∙ ap (λ r. (b ∷ first_word bs) ∷ parts_behind r) (behind_other b bs h))

parts : (text : List ℕ) → slice_split is_blank text ≡ first_word text ∷ parts_behind (behind text)
parts [] = refl
parts (b ∷ bs) = parts_by b bs (is_blank b) refl (parts bs)

behind_by : (b : ℕ) (bs : List ℕ) (t : Bool) → is_blank b ≡ t → filter is_word (parts_behind (behind bs)) ≡ words_in (behind bs)
    → filter is_word (parts_behind (behind (b ∷ bs))) ≡ words_in (behind (b ∷ bs))
behind_by b bs true h k = ap (λ r. filter is_word (parts_behind r)) (behind_blank b bs h) ∙ sym (split_blank b bs h) ∙ sym (ap words_in (behind_blank b bs h))
behind_by b bs false h k = ap (λ r. filter is_word (parts_behind r)) (behind_other b bs h) ∙ k ∙ sym (ap words_in (behind_other b bs h))

words_behind : (text : List ℕ) → filter is_word (parts_behind (behind text)) ≡ words_in (behind text)
words_behind [] = refl
words_behind (b ∷ bs) = behind_by b bs (is_blank b) refl (words_behind bs)

pub not_true : (b : Bool) → not b ≡ true → b ≡ false
not_true true h = cc
not_true false h = refl

is_word_more : (b : ℕ) (bs : List ℕ) → is_word (b ∷ bs) ≡ true
is_word_more b bs = grind arith

-- a text that begins with no blank begins with a word
pub words_cut : (text : List ℕ) → is_bare text ≡ true → (length text == 0) ≡ false → words_in text ≡ first_word text ∷ words_in (behind_word text)
words_cut [] h k = cc
words_cut (b ∷ bs) h k =
    let other = not_true (is_blank b) h in
    let word : is_word (first_word (b ∷ bs)) ≡ true = ap is_word (first_other b bs other) ∙ is_word_more b (first_word bs) in
    ap (filter is_word) (parts (b ∷ bs))
    ∙ ap (λ t. cond t (first_word (b ∷ bs) ∷ filter is_word (parts_behind (behind (b ∷ bs)))) (filter is_word (parts_behind (behind (b ∷ bs))))) word
    ∙ ap (λ ws. first_word (b ∷ bs) ∷ ws) (words_behind (b ∷ bs) ∙ sym (words_behind_blanks (behind (b ∷ bs))))

-- less is left behind a word
pub shorter_behind : (text : List ℕ) → is_bare text ≡ true → (length text == 0) ≡ false → length (behind_word text) < length text
shorter_behind [] h k = cc
shorter_behind (b ∷ bs) h k =
    let other = not_true (is_blank b) h in
    let all : length (without_blanks (behind bs)) ≤ length (behind bs) = omega (arith, length-drop (position_or_len (λ c. not (is_blank c)) (behind bs)) (behind bs)) in
    let rest : length (behind bs) ≤ length bs = omega (arith, length-drop (position_or_len is_blank bs) bs) in
    let same : length (behind_word (b ∷ bs)) ≡ length (without_blanks (behind bs)) = ap (λ r. length (without_blanks r)) (behind_other b bs other) in
    omega (arith, all, rest, same)

pub no_words : (text : List ℕ) → (length text == 0) ≡ true → words_in text ≡ []
no_words [] h = refl
no_words (b ∷ bs) h = absurd (grind (arith, h))

named_from : (o : Option (List EventName)) → o ≡ option_map (λ es. [] ++ es) o
named_from None = refl
named_from (Some es) = refl

-- before the first word no event is named
pub named_first : (words rest : List ℕ) (events : List EventName) → events ≡ [] → rest ≡ without_blanks words
    → events_named (words_in words) ≡ option_map (λ es. events ++ es) (events_named (words_in rest))
named_first words rest events e f =
    ap events_named (sym (words_behind_blanks words) ∙ sym (ap words_in f)) ∙ named_from (events_named (words_in rest))
    ∙ sym (ap (λ (so_far : List EventName). option_map (λ es. so_far ++ es) (events_named (words_in rest))) e)

more_named : (so_far : List EventName) (e : EventName) (o : Option (List EventName))
    → option_map (λ es. so_far ++ es) (option_map (λ es. e ∷ es) o) ≡ option_map (λ es. (so_far ++ e ∷ []) ++ es) o
more_named so_far e (Some es) = ap Some (sym (append_assoc so_far (e ∷ []) es))
more_named so_far e None = refl

-- one more word names an event
pub named_more : (words rest word behind : List ℕ) (events later : List EventName) (e : EventName) → is_bare rest ≡ true → (length rest == 0) ≡ false
    → word ≡ first_word rest → behind ≡ behind_word rest → Some e ≡ event_named word → later ≡ events ++ e ∷ []
    → events_named (words_in words) ≡ option_map (λ es. events ++ es) (events_named (words_in rest))
    → events_named (words_in words) ≡ option_map (λ es. later ++ es) (events_named (words_in behind))
named_more words rest word behind events later e b l w r n g h =
    let cut = words_cut rest b l ∙ ap (λ x. x ∷ words_in (behind_word rest)) (sym w) ∙ ap (λ x. word ∷ words_in x) (sym r) in
    h ∙ ap (λ ws. option_map (λ es. events ++ es) (events_named ws)) cut
    ∙ ap (λ o. option_map (λ es. events ++ es) (option_and_then (λ d. option_map (λ es. d ∷ es) (events_named (words_in behind))) o)) (sym n)
    ∙ more_named events e (events_named (words_in behind))
    ∙ sym (ap (λ (so_far : List EventName). option_map (λ es. so_far ++ es) (events_named (words_in behind))) g)

none_of_more : (ws : List (List ℕ)) → events_named ws ≡ None → None ≡ one_or_more ws
none_of_more [] h = refl
none_of_more (w ∷ ws) h = sym h

-- a word names none
pub named_not : (words rest word : List ℕ) (events : List EventName) → is_bare rest ≡ true → (length rest == 0) ≡ false → word ≡ first_word rest → None ≡ event_named word
    → events_named (words_in words) ≡ option_map (λ es. events ++ es) (events_named (words_in rest)) → None ≡ one_or_more (words_in words)
named_not words rest word events b l w n h =
    none_of_more (words_in words)
    (h ∙ ap (λ ws. option_map (λ es. events ++ es) (events_named ws)) (words_cut rest b l ∙ ap (λ x. x ∷ words_in (behind_word rest)) (sym w))
    ∙ ap (λ o. option_map (λ es. events ++ es) (option_and_then (λ d. option_map (λ es. d ∷ es) (events_named (words_in (behind_word rest)))) o)) (sym n))

same_some : {A : Type 0} {x y : A} → Some x ≡ Some y → x ≡ y
same_some h = cc

some_more : (e : EventName) (es : List EventName) → (length (e ∷ es) == 0) ≡ false
some_more e es = grind arith

some_by : (o : Option EventName) (p : Option (List EventName)) (events : List EventName) → option_and_then (λ e. option_map (λ es. e ∷ es) p) o ≡ Some events
    → cond (not (length events == 0)) (Some events) None ≡ Some events
some_by None p events h = cc
some_by (Some e) None events h = cc
some_by (Some e) (Some es) events h = subst (λ (xs : List EventName). cond (not (length xs == 0)) (Some xs) None ≡ Some xs) (same_some h) (ap (λ b. cond (not b) (Some (e ∷ es)) None) (some_more e es))

all_named : (ws : List (List ℕ)) (events : List EventName) → events_named ws ≡ Some events → cond (not (length events == 0)) (Some events) None ≡ one_or_more ws
all_named [] events h = subst (λ (xs : List EventName). cond (not (length xs == 0)) (Some xs) None ≡ None) (same_some h) refl
all_named (w ∷ ws) events h = some_by (event_named w) (events_named ws) events h ∙ sym h

-- behind the last word all events are named
pub named_all : (words rest : List ℕ) (events : List EventName) → (length rest == 0) ≡ true
    → events_named (words_in words) ≡ option_map (λ es. events ++ es) (events_named (words_in rest)) → cond (not (length events == 0)) (Some events) None ≡ one_or_more (words_in words)
named_all words rest events l h =
    all_named (words_in words) events (h ∙ ap (λ ws. option_map (λ es. events ++ es) (events_named ws)) (no_words rest l) ∙ ap Some (append-nil events))

-- words that a program holds
abbrev pub held : List (Bor (List ℕ)) → List (List ℕ)
held ws = map (λ w. w.now) ws

-- before the first word there is none
pub all_first : (text rest : List ℕ) (words : List (Bor (List ℕ))) → words ≡ [] → rest ≡ without_blanks text → held words ++ words_in rest ≡ words_in text
all_first text rest words e f = ap (λ ws. held ws ++ words_in rest) e ∙ ap words_in f ∙ words_behind_blanks text

-- one more word
pub all_more : (text rest : List ℕ) (word : Bor (List ℕ)) (behind : List ℕ) (words later : List (Bor (List ℕ))) → is_bare rest ≡ true → (length rest == 0) ≡ false
    → word.now ≡ first_word rest → behind ≡ behind_word rest → later ≡ words ++ word ∷ [] → held words ++ words_in rest ≡ words_in text → held later ++ words_in behind ≡ words_in text
all_more text rest word behind words later b l w r g h =
    let cut = words_cut rest b l ∙ ap (λ x. x ∷ words_in (behind_word rest)) (sym w) ∙ ap (λ x. word.now ∷ words_in x) (sym r) in
    ap (λ ws. held ws ++ words_in behind) g ∙ ap (λ ws. ws ++ words_in behind) (map-append (λ (x : Bor (List ℕ)). x.now) words (word ∷ []))
    ∙ append_assoc (held words) (word.now ∷ []) (words_in behind) ∙ ap (λ ws. held words ++ ws) (sym cut) ∙ h

-- behind the last word there are all
pub all_done : (text rest : List ℕ) (words : List (Bor (List ℕ))) → (length rest == 0) ≡ true → held words ++ words_in rest ≡ words_in text → held words ≡ words_in text
all_done text rest words l h = sym (append-nil (held words)) ∙ ap (λ ws. held words ++ ws) (sym (no_words rest l)) ∙ h
