-- Words that name events, one after another.
use Rattle.std.proofs.Common.{◌≡◌, ℕ, List, [], ◌∷◌, true, false, Option, Some, None, length, refl, sym, ap, ◌∙◌, arith, ◌==◌}
use Rattle.std.specs.Prelude.{is_some}
use Rattle.std.specs.Option.{option_map, option_and_then}
use Rattle.ids.specs.declared.names.EventName.{EventName}
use Rattle.stepper_commands.specs.Words.{is_bare, without_blanks, first_word, behind_word, words_in}
use Rattle.stepper_commands.specs.Numbers.{event_named, events_named, one_or_more}
use Rattle.stepper_commands.proofs.Wording.{words_cut, no_words, words_behind_blanks, blanks_gone}

-- a text without words names no event
pub no_word : (words rest : List ℕ) → (length rest == 0) ≡ true → rest ≡ without_blanks words → false ≡ is_some (one_or_more (words_in words))
no_word words rest none r = sym (ap (λ ws. is_some (one_or_more ws)) (sym (words_behind_blanks words) ∙ ap words_in (sym r) ∙ no_words rest none))

some_more : (w : List ℕ) (ws : List (List ℕ)) → (length (w ∷ ws) == 0) ≡ false
some_more w ws = grind arith

-- what is no blank begins with a word
pub some_word : (words rest : List ℕ) → (length rest == 0) ≡ false → rest ≡ without_blanks words → (length (words_in words) == 0) ≡ false
some_word words rest more r =
    ap (λ ws. length ws == 0) (sym (words_behind_blanks words) ∙ ap words_in (sym r) ∙ words_cut rest (ap is_bare r ∙ blanks_gone words) more) ∙ some_more (first_word rest) (words_in (behind_word rest))

cut : (rest word behind : List ℕ) → is_bare rest ≡ true → (length rest == 0) ≡ false → word ≡ first_word rest → behind ≡ behind_word rest → words_in rest ≡ word ∷ words_in behind
cut rest word behind b l w r = words_cut rest b l ∙ ap (λ x. x ∷ words_in (behind_word rest)) (sym w) ∙ ap (λ x. word ∷ words_in x) (sym r)

named_by : (o : Option EventName) (p : Option (List EventName)) → is_some o ≡ true → is_some p ≡ is_some (option_and_then (λ e. option_map (λ es. e ∷ es) p) o)
named_by None p h = cc
named_by (Some e) None h = refl
named_by (Some e) (Some es) h = refl

none_by : (o : Option EventName) (p : Option (List EventName)) → is_some o ≡ false → is_some (option_and_then (λ e. option_map (λ es. e ∷ es) p) o) ≡ false
none_by None p h = refl
none_by (Some e) p h = cc

-- a text of some words names events where all words do
named_all : (ws : List (List ℕ)) → (length ws == 0) ≡ false → is_some (events_named ws) ≡ is_some (one_or_more ws)
named_all [] h = cc
named_all (w ∷ ws) h = refl

module _ (rest word behind : List ℕ) (b : is_bare rest ≡ true) (l : (length rest == 0) ≡ false) (w : word ≡ first_word rest) (r : behind ≡ behind_word rest) where
  -- the first word names an event
  pub event_here : is_some (event_named word) ≡ true → is_some (events_named (words_in behind)) ≡ is_some (events_named (words_in rest))
  event_here h = named_by (event_named word) (events_named (words_in behind)) h ∙ sym (ap (λ ws. is_some (events_named ws)) (cut rest word behind b l w r))

  no_event : is_some (event_named word) ≡ false → is_some (events_named (words_in rest)) ≡ false
  no_event h = ap (λ ws. is_some (events_named ws)) (cut rest word behind b l w r) ∙ none_by (event_named word) (events_named (words_in behind)) h

-- or it names none
pub event_not : (words rest word behind : List ℕ) → is_bare rest ≡ true → (length rest == 0) ≡ false → word ≡ first_word rest → behind ≡ behind_word rest → is_some (event_named word) ≡ false
    → (length (words_in words) == 0) ≡ false → is_some (events_named (words_in rest)) ≡ is_some (events_named (words_in words)) → false ≡ is_some (one_or_more (words_in words))
event_not words rest word behind b l w r h some inv = sym (no_event rest word behind b l w r h) ∙ inv ∙ named_all (words_in words) some

-- behind the last word
pub all_events : (words rest : List ℕ) → (length rest == 0) ≡ true → (length (words_in words) == 0) ≡ false → is_some (events_named (words_in rest)) ≡ is_some (events_named (words_in words))
    → true ≡ is_some (one_or_more (words_in words))
all_events words rest l some inv = sym (ap (λ ws. is_some (events_named ws)) (no_words rest l)) ∙ inv ∙ named_all (words_in words) some
