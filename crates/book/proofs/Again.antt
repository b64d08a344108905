-- A redo of what was just undone is not refused.
use Rattle.std.proofs.Common.{◌≡◌, ℕ, zero, suc, Bool, true, false, cond, List, [], ◌∷◌, ◌++◌, take, Option, Some, None, option_map, refl, sym, ap, ap₂, ◌∙◌, subst}
use Rattle.std.specs.Prelude.{◌&&◌, ◌||◌, ◌==◌, not}
use Rattle.std.specs.List.{AllByRecursion, filter}
use Rattle.std.specs.Option.{option_or}
use Rattle.std.proofs.lemmas.List.{map-append}
use Rattle.history.specs.Subject.{meets}
use Rattle.history.specs.Journal.{Entry, caused, live_set, both, Sound}
use Rattle.history.proofs.Lists.{all_map, all_both, all_append, put_back}
use Rattle.ids.specs.declared.names.EventName.{EventName}
use Rattle.journal.specs.Lines.{plain, Line, entries_in}
use Rattle.journal.specs.declared.entry.Mark.TheVariants as mark
use Rattle.causality.specs.Selections.{name_of, is_live, among, chosen, is_entered, is_member, first_some, least, least_missing, first_settled, first_marked, gap, missing_cause, first_missing_cause, crossing, first_crossing_behind}
use Rattle.causality.proofs.Exactness.{lacks_of_sound}
use Rattle.causality.proofs.Firsts.{some_mapped, some_same, some_none, cond_none}
use Rattle.causality.proofs.Telling.{Tells}
use Rattle.undo.proofs.Settling.{map_take}
use Rattle.book_refusals.specs.Refusals.{Refusal, first, no_event, is_settled, still_live, cause_missing, crossed}
use Rattle.book_refusals.specs.Checks.{gap_refusal, missing_refusal, settled_refusal, closed_refusal, undo_refusal, redo_refusal}
use Rattle.book.specs.Books.{Book}
use Rattle.book.specs.Calls.{undone, undone_in, SameSet, Undoes}
use Rattle.book.proofs.Choosing.{neither}
use Rattle.book.proofs.Undoing.{live_set_of}

-- functions that are alike everywhere are one
ext : {A B : Type 0} (f g : A → B) → ((a : A) → f a ≡ g a) → f ≡ g
ext f g h i a = h a i

-- a list has what it had
entered_same : (names : List EventName) (lines : List Line) (e : EventName) → is_entered (undone_in names lines) e ≡ is_entered lines e
entered_same names [] e = refl
entered_same names (l ∷ lines) e = ap (λ b. ((name_of l).0 == e.0) || b) (entered_same names lines e)

all_taken : {A : Type 0} (P : A → Type 0) (n : ℕ) (xs : List A) → AllByRecursion P xs → AllByRecursion P (take n xs)
all_taken P zero xs h = tt
all_taken P (suc n) [] h = tt
all_taken P (suc n) (x ∷ xs) (p, h) = (p, all_taken P n xs h)

no_live : (t c d : Bool) → c ≡ d → (d && (t && not c)) ≡ false
no_live t true true h = and_false t
  where
    and_false : (b : Bool) → (true && (b && false)) ≡ false
    and_false true = refl
    and_false false = refl
no_live t c false h = refl
no_live t false true h = cc

or_false : (b : Bool) → (b || false) ≡ b
or_false true = refl
or_false false = refl

module _ (names others : List EventName) where
  -- what was undone was live, and both name it
  abbrev Told : Line → Type 0
  Told l = (chosen names l ≡ true → is_live l ≡ true) × (chosen names l ≡ chosen others l)

  -- a line that is undone is put back as a member where it was live
  member_same : (l : Line) → Told l → is_member others (undone names l) ≡ is_member [] l
  member_same l (live, same) = ap (λ b. (is_live l && not (chosen names l)) || b) (sym same) ∙ put_back (is_live l) (chosen names l) live ∙ sym (or_false (is_live l))

  cause_same : (lines : List Line) → AllByRecursion Told lines → (e : Line) → missing_cause others (undone_in names lines) (undone names e) ≡ missing_cause [] lines e
  cause_same lines h e =
      some_mapped (λ f. cond (caused plain (undone names e).entry f.entry && not (is_member others f)) (Some (name_of f)) None) (undone names) lines
      ∙ some_same _ _ lines (all_map Told _ lines (λ f told. ap (λ b. cond (caused plain e.entry f.entry && not b) (Some (name_of f)) None) (member_same f told)) h)

  causes_same : (lines : List Line) → AllByRecursion Told lines → first_missing_cause others (undone_in names lines) ≡ first_missing_cause [] lines
  causes_same lines h =
      some_mapped (λ e. cond (is_member others e) (option_map (gap (name_of e)) (missing_cause others (undone_in names lines) e)) None) (undone names) lines
      ∙ some_same _ _ lines (all_map Told _ lines (λ e told. ap₂ (λ b o. cond b (option_map (gap (name_of e)) o) None) (member_same e told) (cause_same lines h e)) h)

  cross_same : (before : List Line) → AllByRecursion Told before → (e : Line) → crossing others (undone_in names before) (undone names e) ≡ crossing [] before e
  cross_same before h e =
      some_mapped (λ f. cond (is_member others f && (meets plain f.entry.foot (undone names e).entry.foot && not (caused plain (undone names e).entry f.entry))) (Some (name_of f)) None) (undone names) before
      ∙ some_same _ _ before (all_map Told _ before (λ f told. ap (λ b. cond (b && (meets plain f.entry.foot e.entry.foot && not (caused plain e.entry f.entry))) (Some (name_of f)) None) (member_same f told)) h)

  crosses_behind : (before behind : List Line) → AllByRecursion Told before → AllByRecursion Told behind → first_crossing_behind others (undone_in names before) (undone_in names behind) ≡ first_crossing_behind [] before behind
  crosses_behind before [] h g = refl
  crosses_behind before (e ∷ behind) h (told, g) =
      ap₂ option_or
      (ap₂ (λ b o. cond b (option_map (gap (name_of e)) o) None) (member_same e told) (cross_same before h e))
      (ap (λ ls. first_crossing_behind others ls (undone_in names behind)) (sym (map-append (undone names) before (e ∷ [])))
      ∙ crosses_behind (before ++ e ∷ []) behind (all_append Told before (e ∷ []) h (told, tt)) g)

  settled_same : (n : ℕ) (lines : List Line) → AllByRecursion Told lines → first_settled others n (undone_in names lines) ≡ first_settled names n lines
  settled_same n lines h =
      ap (first_some (λ l. cond (chosen others l) (Some (name_of l)) None)) (map_take (undone names) n lines)
      ∙ some_mapped (λ l. cond (chosen others l) (Some (name_of l)) None) (undone names) (take n lines)
      ∙ some_same _ _ (take n lines) (all_taken _ n lines (all_map Told _ lines (λ l told. ap (λ b. cond b (Some (name_of l)) None) (sym told.1)) h))

  none_live : (lines : List Line) → AllByRecursion Told lines → first_marked mark.Live others (undone_in names lines) ≡ None
  none_live lines h =
      some_mapped (λ l. cond (chosen others l && is_live l) (Some (name_of l)) None) (undone names) lines
      ∙ some_none _ lines (all_map Told _ lines (λ l told. cond_none _ (Some (name_of l)) (no_live (is_live l) (chosen names l) (chosen others l) told.1)) h)

  missing_same : (lines : List Line) → least_missing others (undone_in names lines) ≡ least_missing others lines
  missing_same lines = ap (λ (f : EventName → Bool). least (filter (λ e. not (f e)) others)) (ext _ _ (entered_same names lines))

-- what is live is what is live, or of no set
members_none : (es : List (Entry plain)) → Sound plain (live_set plain) es → Sound plain (both (live_set plain) (among [])) es
members_none es h = subst (λ t. Sound plain t es) (sym (ext _ _ (λ (e : Entry plain). or_false e.live))) h

no_first : (a b : Option Refusal) → a ≡ None → b ≡ None → first a b ≡ None
no_first a b h g = ap₂ first h g

-- THE LEMMA
pub may_redo : (names others : List EventName) (before between : Book) → Tells before.journal → Sound plain (live_set plain) (entries_in before.journal) → undo_refusal before.settled before.journal names ≡ None → Undoes names before between
    → SameSet names others before.journal → missing_refusal others before.journal ≡ None → redo_refusal between.settled between.journal others ≡ None
may_redo names others before between tells sound ok undoes same there =
    let lines = before.journal in
    let told : AllByRecursion (Told names others) lines = all_both _ _ (Told names others) lines (λ l live is. (live, is)) (live_set_of names before.settled lines ok) same in
    let closed = neither (missing_refusal names lines) (settled_refusal names before.settled lines) (neither (closed_refusal names before.settled lines) _ ok).0 in
    let lacks = lacks_of_sound [] lines tells (members_none (entries_in lines) sound) in
    ap₂ (λ n ls. redo_refusal n ls others) undoes.same_settled undoes.marked
    ∙ no_first _ _
    (no_first _ _ (ap (option_map no_event) (missing_same names others lines) ∙ there) (ap (option_map is_settled) (settled_same names others before.settled lines told) ∙ closed.1))
    (no_first _ _ (ap (option_map still_live) (none_live names others lines told))
    (no_first _ _ (ap (option_map (gap_refusal cause_missing)) (causes_same names others lines told ∙ lacks.0))
    (ap (option_map (gap_refusal crossed)) (crosses_behind names others [] lines tt told ∙ lacks.1))))
