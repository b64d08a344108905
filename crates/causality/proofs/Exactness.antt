-- What a set lacks is nothing exactly where it is closed, or sound with what is live.
use Rattle.std.proofs.Common.{◌≡◌, ◌∙◌, Bool, true, false, cond, ◌&&◌, ◌⊎◌, inl, inr, List, [], ◌∷◌, ◌++◌, Option, Some, None, refl, ap, sym}
use Rattle.std.specs.Prelude.{not}
use Rattle.std.specs.Option.{option_map, option_or}
use Rattle.std.specs.List.{AllByRecursion}
use Rattle.std.proofs.lemmas.Bool.{both_ways, cases_Bool}
use Rattle.history.specs.Journal.{Entry, caused, live_set, both, Sound}
use Rattle.history.specs.Subject.{meets}
use Rattle.history.proofs.Cones.{closed_outside, outside_closed}
use Rattle.history.proofs.Lists.{all_map, all_of}
use Rattle.ids.specs.declared.names.EventName.{EventName}
use Rattle.journal.specs.Lines.{plain, Line, entries_in}
use Rattle.journal.specs.declared.entry.Mark.TheVariants as mark
use Rattle.causality.specs.Exact.{ClosedIn, Cone}
use Rattle.causality.specs.Selections.{name_of, is_live, among, chosen, is_member, first_marked, gap, consequence, first_gap, missing_cause, first_missing_cause, crossing, first_crossing_behind, first_crossing}
use Rattle.causality.proofs.Facts.{Older, older_pairs, sound_pairs, all_then}
use Rattle.causality.proofs.Firsts.{none_each, some_none, cond_none, or_none}
use Rattle.causality.proofs.Pairs.{Pairs, Amid, Around, pairs_map, pairs_both, pairs_around, pairs_from_end, pairs_to_end, all_from_end, all_to_end, every_pair, pairs_of_all, around_pairs}
use Rattle.causality.proofs.Telling.{Tells}

-- an answer is made of another, where there is one
not_mapped : {A B : Type 0} (f : A → B) (c : Bool) (o : Option A) → cond c (option_map f o) None ≡ None → c ≡ true → o ≡ None
not_mapped f true None h is = refl
not_mapped f true (Some x) h is = cc
not_mapped f false o h is = cc

mapped_none : {A B : Type 0} (f : A → B) (c : Bool) (o : Option A) → (c ≡ true → o ≡ None) → cond c (option_map f o) None ≡ None
mapped_none f true o h = ap (option_map f) (h refl)
mapped_none f false o h = refl

no_answer : {C : Type 0} (b : Bool) (x : C) → cond b (Some x) None ≡ None → b ≡ false
no_answer true x h = cc
no_answer false x h = refl

swapped : {A : Type 0} (R : A → A → Type 0) (xs ys : List A) → AllByRecursion (λ x. AllByRecursion (R x) ys) xs → AllByRecursion (λ y. AllByRecursion (λ x. R x y) xs) ys
swapped R xs [] h = tt
swapped R xs (y ∷ ys) h = (all_map _ _ xs (λ x g. g.0) h, swapped R xs ys (all_map _ _ xs (λ x g. g.1) h))

-- of each two lines, told of their entries
all_pairs_to_end : (R : Entry plain → Entry plain → Type 0) (lines : List Line) → AllByRecursion (λ l. AllByRecursion (λ m. R l.entry m.entry) lines) lines → AllByRecursion (λ e. AllByRecursion (R e) (entries_in lines)) (entries_in lines)
all_pairs_to_end R lines h = all_to_end (λ (l : Line). l.entry) (λ e. AllByRecursion (R e) (entries_in lines)) lines (all_map _ _ lines (λ l g. all_to_end (λ (m : Line). m.entry) (R l.entry) lines g) h)

all_pairs_from_end : (R : Entry plain → Entry plain → Type 0) (lines : List Line) → AllByRecursion (λ e. AllByRecursion (R e) (entries_in lines)) (entries_in lines) → AllByRecursion (λ l. AllByRecursion (λ m. R l.entry m.entry) lines) lines
all_pairs_from_end R lines h = all_map _ _ lines (λ l g. all_from_end (λ (m : Line). m.entry) (R l.entry) lines g) (all_from_end (λ (l : Line). l.entry) (λ e. AllByRecursion (R e) (entries_in lines)) lines h)

module _ (names : List EventName) (lines : List Line) where
  -- a live entry outside the set does not have a member as a cause
  abbrev Parted : Entry plain → Entry plain → Type 0
  Parted e a = e.live ≡ true → among names e ≡ false → among names a ≡ true → caused plain e a ≡ false

  parted_at : (live c x m : Bool) → (live && (not c && x)) ≡ false → m ≡ true → live ≡ true → c ≡ false → x ≡ false
  parted_at true false true m h i p q = cc
  parted_at true false false m h i p q = refl
  parted_at true true x m h i p q = cc
  parted_at false c x m h i p q = cc

  joined_at : (live c x : Bool) → (live ≡ true → c ≡ false → x ≡ false) → (live && (not c && x)) ≡ false
  joined_at true false x h = h refl refl
  joined_at true true x h = refl
  joined_at false c x h = refl

  to_parted : first_gap names lines ≡ None → AllByRecursion (λ l. AllByRecursion (λ m. Parted m.entry l.entry) lines) lines
  to_parted none = all_map _ _ lines (λ l h. each l (cases_Bool (chosen names l)) h) (none_each _ lines none)
    where
      each : (l : Line) → ((chosen names l ≡ true) ⊎ (chosen names l ≡ false)) → cond (chosen names l) (option_map (gap (name_of l)) (consequence names lines l)) None ≡ None → AllByRecursion (λ m. Parted m.entry l.entry) lines
      each l (inl is) h = all_map _ _ lines (λ m g live out _. parted_at (is_live m) (chosen names m) (caused plain m.entry l.entry) true (no_answer _ (name_of m) g) refl live out)
          (none_each _ lines (not_mapped (gap (name_of l)) (chosen names l) (consequence names lines l) h is))
      each l (inr apart) h = all_of _ lines (λ m live out is. absurd (both_ways _ apart is))

  from_parted : AllByRecursion (λ l. AllByRecursion (λ m. Parted m.entry l.entry) lines) lines → first_gap names lines ≡ None
  from_parted h = some_none _ lines (all_map _ _ lines
      (λ l g. mapped_none (gap (name_of l)) (chosen names l) (consequence names lines l) (λ is. some_none _ lines (all_map _ _ lines (λ m p. cond_none _ (Some (name_of m)) (joined_at (is_live m) (chosen names m) (caused plain m.entry l.entry) (λ live out. p live out is))) g))) h)

  -- NO GAP is in a set exactly where it is closed
  pub closed_of_gaps : first_gap names lines ≡ None → ClosedIn names lines
  closed_of_gaps none = outside_closed plain (live_set plain) (among names) (entries_in lines)
      (all_map _ _ (entries_in lines) (λ e h live out. all_map _ _ (entries_in lines) (λ a g is. g live out is) h) (all_pairs_to_end Parted lines (swapped (λ (l m : Line). Parted m.entry l.entry) lines lines (to_parted none))))

  pub gaps_of_closed : Tells lines → ClosedIn names lines → first_gap names lines ≡ None
  gaps_of_closed h closed = from_parted (swapped (λ (m l : Line). Parted m.entry l.entry) lines lines (all_pairs_from_end Parted lines
      (all_map _ _ (entries_in lines) (λ e g. all_then (e.live ≡ true) (λ a. among names e ≡ false → among names a ≡ true → caused plain e a ≡ false) (entries_in lines)
      (λ live. all_then (among names e ≡ false) (λ a. among names a ≡ true → caused plain e a ≡ false) (entries_in lines) (g live)))
      (closed_outside plain (live_set plain) (among names) (entries_in lines) h.lines_are.own h.lines_are.ordered closed))))

  -- the members: what is live, and the set
  abbrev members : Entry plain → Bool
  members = both (live_set plain) (among names)

  -- a member has just those members as causes that it meets
  abbrev Exact : Entry plain → Entry plain → Type 0
  Exact a e = members e ≡ true → caused plain e a ≡ (members a && meets plain a.foot e.foot)

  pub sound_of : (es : List (Entry plain)) → Pairs (λ e a. Exact a e) es → Sound plain members es
  sound_of [] h = tt
  sound_of (e ∷ es) (p, h) = (λ is. all_map _ _ es (λ a x. x is) p, sound_of es h)

  -- what is said of causes where none is missing, and of members where none is crossed
  abbrev Kept : Line → Line → Type 0
  Kept e f = is_member names e ≡ true → (caused plain e.entry f.entry && not (is_member names f)) ≡ false

  abbrev Uncrossed : Line → Line → Type 0
  Uncrossed f e = is_member names e ≡ true → (is_member names f && (meets plain f.entry.foot e.entry.foot && not (caused plain e.entry f.entry))) ≡ false

  kept : first_missing_cause names lines ≡ None → AllByRecursion (λ e. AllByRecursion (Kept e) lines) lines
  kept none = all_map _ _ lines (λ e h. all_then (is_member names e ≡ true) (λ f. (caused plain e.entry f.entry && not (is_member names f)) ≡ false) lines
      (λ is. all_map _ _ lines (λ f g. no_answer _ (name_of f) g) (none_each _ lines (not_mapped (gap (name_of e)) (is_member names e) (missing_cause names lines e) h is))))
      (none_each _ lines none)

  none_kept : AllByRecursion (λ e. AllByRecursion (Kept e) lines) lines → first_missing_cause names lines ≡ None
  none_kept h = some_none _ lines (all_map _ _ lines
      (λ e g. mapped_none (gap (name_of e)) (is_member names e) (missing_cause names lines e) (λ is. some_none _ lines (all_map _ _ lines (λ f k. cond_none _ (Some (name_of f)) (k is)) g))) h)

  uncrossed : (before behind : List Line) → first_crossing_behind names before behind ≡ None → Around (λ older e newer. AllByRecursion (λ f. Uncrossed f e) older) before behind
  uncrossed before [] h = tt
  uncrossed before (e ∷ behind) h =
      let parts = or_none (cond (is_member names e) (option_map (gap (name_of e)) (crossing names before e)) None) (first_crossing_behind names (before ++ e ∷ []) behind) h in (
        all_then (is_member names e ≡ true) (λ f. (is_member names f && (meets plain f.entry.foot e.entry.foot && not (caused plain e.entry f.entry))) ≡ false) before
            (λ is. all_map _ _ before (λ f g. no_answer _ (name_of f) g) (none_each _ before (not_mapped (gap (name_of e)) (is_member names e) (crossing names before e) parts.0 is))),
        uncrossed (before ++ e ∷ []) behind parts.1,
      )

  none_crossed : (before behind : List Line) → Around (Amid Uncrossed) before behind → first_crossing_behind names before behind ≡ None
  none_crossed before [] h = refl
  none_crossed before (e ∷ behind) (p, h) =
      ap (λ o. option_or o (first_crossing_behind names (before ++ e ∷ []) behind))
      (mapped_none (gap (name_of e)) (is_member names e) (crossing names before e) (λ is. some_none _ before (all_map _ _ before (λ f k. cond_none _ (Some (name_of f)) (k is)) p.older)))
      ∙ none_crossed (before ++ e ∷ []) behind h

  exact : (x m y : Bool) → (x && not m) ≡ false → (m && (y && not x)) ≡ false → (x ≡ true → y ≡ true) → x ≡ (m && y)
  exact true true true h g met = refl
  exact true true false h g met = sym (met refl)
  exact true false y h g met = h
  exact false true true h g met = sym g
  exact false true false h g met = refl
  exact false false y h g met = refl

  exact_kept : (x m y : Bool) → x ≡ (m && y) → (x && not m) ≡ false
  exact_kept x true y h = ap (λ b. b && false) h ∙ never y
    where
      never : (b : Bool) → (b && false) ≡ false
      never true = refl
      never false = refl
  exact_kept x false y h = ap (λ b. b && true) h

  exact_met : (x m y : Bool) → x ≡ (m && y) → (m && (y && not x)) ≡ false
  exact_met x true true h = ap not h
  exact_met x true false h = refl
  exact_met x false y h = refl

  -- NOTHING IS MISSING OR CROSSED exactly where the members are sound
  pub sound_of_lacks : Tells lines → (first_missing_cause names lines ≡ None) × (first_crossing names lines ≡ None) → Sound plain members (entries_in lines)
  sound_of_lacks h (none, clear) = sound_of (entries_in lines) (pairs_to_end (λ (l : Line). l.entry) (λ e a. Exact a e) lines
      (pairs_both (λ a e. Older a.entry e.entry) (λ a e. Kept e a × Uncrossed a e) (λ a e. Exact a.entry e.entry) lines
      (λ a e o k is. exact (caused plain e.entry a.entry) (is_member names a) (meets plain a.entry.foot e.entry.foot) (k.0 is) (k.1 is) o.met)
      (pairs_from_end (λ (l : Line). l.entry) (λ e a. Older a e) lines (older_pairs lines h))
      (pairs_both _ _ _ lines (λ a e k u. (k, u)) (pairs_of_all Kept lines (kept none)) (around_pairs Uncrossed lines (uncrossed [] lines clear)))))

  pub lacks_of_sound : Tells lines → Sound plain members (entries_in lines) → (first_missing_cause names lines ≡ None) × (first_crossing names lines ≡ None)
  lacks_of_sound h sound =
      let exacts : Pairs (λ a e. Exact a.entry e.entry) lines = pairs_from_end (λ (l : Line). l.entry) (λ e a. Exact a e) lines (sound_pairs members (entries_in lines) sound) in (
        none_kept (every_pair Kept lines
            (pairs_both (λ a e. Older a.entry e.entry) (λ a e. Exact a.entry e.entry) (λ a e. Kept e a × Kept a e) lines
            (λ a e o x. (λ is. exact_kept (caused plain e.entry a.entry) (is_member names a) (meets plain a.entry.foot e.entry.foot) (x is), λ is. ap (λ b. b && not (is_member names e)) o.order))
            (pairs_from_end (λ (l : Line). l.entry) (λ e a. Older a e) lines (older_pairs lines h)) exacts)
            (all_map _ _ lines (λ a own is. ap (λ b. b && not (is_member names a)) own) (all_from_end (λ (l : Line). l.entry) (λ e. caused plain e e ≡ false) lines h.lines_are.own))),
        none_crossed [] lines (pairs_around Uncrossed lines (pairs_map (λ a e. Exact a.entry e.entry) Uncrossed lines
            (λ a e x is. exact_met (caused plain e.entry a.entry) (is_member names a) (meets plain a.entry.foot e.entry.foot) (x is)) exacts)),
      )

  -- A CONE MAY BE UNDONE: it is live, and has no gap
  pub cone_undone : (root : EventName) → Tells lines → Cone lines root names → (first_marked mark.Undone names lines ≡ None) × (first_gap names lines ≡ None)
  cone_undone root h cone = (
    some_none _ lines (all_map _ _ lines (λ l live. cond_none _ (Some (name_of l)) (all_live (chosen names l) (is_live l) live)) cone.live),
    gaps_of_closed h cone.closed,
  )
    where
      all_live : (c l : Bool) → (c ≡ true → l ≡ true) → (c && not l) ≡ false
      all_live true l g = ap not (g refl)
      all_live false l g = refl
