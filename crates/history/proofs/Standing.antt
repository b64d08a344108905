-- A journal that stands goes on standing.
use Rattle.std.proofs.Common.{◌≡◌, ℕ, ◌+◌, ◌<◌, ◌≤◌, ◌==◌, Bool, true, false, cond, ◌&&◌, ◌||◌, not, List, [], ◌∷◌, ◌++◌, Option, Some, None, map, filter, unwrap_or, is_some, ◌∙◌, refl, sym, ap, ap₂, subst, true≢false}
use Rattle.std.specs.List.{list_any, AllByRecursion}
use Rattle.std.proofs.lemmas.List.{map-append}
use Rattle.history.specs.Subject.{Subject, Laws, World, Foot, found, new, meets, Run}
use Rattle.history.specs.Journal.{Entry, name_of, live_set, without, both, Part, mark, marked, named, caused, over, Sound, Good, Distinct, Named, Free, is_in, NamesCauses, new_entry, Closed}
use Rattle.history.specs.Records.{Seen, State, Record, Row, contents, untouched, entries_of, swap_state, swap_record, swap_row, Fits, Writes, left_by, Kept, Follows, undo_rows, undo_state, redo_rows, redo_state}
use Rattle.history.specs.Chains.{last_writer, last_of, chain, HasCells, Chained}
use Rattle.history.specs.Stands.{Stands}
use Rattle.history.proofs.Lists.{all_map, all_both, all_of, all_mapped, put_back, take_back}
use Rattle.history.proofs.Marks.{good_marked, named_marked, sound_marked}
use Rattle.history.proofs.Changes.{sound_same, sound_without, closed_of_sound, good_run}
use Rattle.history.proofs.Naming.{appended, appended_named}
use Rattle.history.proofs.Exchanges.{seen_swap, twice_state, twice_record}
use Rattle.history.proofs.Rows.{undo_kept, redo_kept, Fit, leaves_of, entries_undo_kept, entries_redo_kept, contents_left, follows_same, undone_follows, redone_follows, appended_follows}
use Rattle.history.proofs.Swaps.{good_swap, named_swap, follows_swap}
use Rattle.history.proofs.Chaining.{left_last, chained_marked, traced_new, no_cause, chained_swap, causes_on_chains, chain_followed, last_older, lasts_at}

kept_live : (b : Bool) → (b && true) ≡ b
kept_live true = refl
kept_live false = refl

and_none : (b : Bool) → (b && false) ≡ false
and_none true = refl
and_none false = refl

module _ (s : Subject) (t : Entry s → Bool) where
  -- a row that is live exactly in this set
  abbrev pub mark_row : Row s → Row s
  mark_row p = (mark s t p.0, p.1)

  pub entries_marked : (rows : List (Row s)) → entries_of (map mark_row rows) ≡ marked s t (entries_of rows)
  entries_marked [] = refl
  entries_marked (p ∷ ps) = ap (λ es. mark s t p.0 ∷ es) (entries_marked ps)

  left_marked : (start : World s) (k : s.Key) (ps : List (Row s)) → left_by s start (live_set s) (entries_of (map mark_row ps)) k ≡ left_by s start t (entries_of ps) k
  left_marked start k [] = refl
  left_marked start k (p ∷ ps) = ap (λ z. cond (t p.0) (unwrap_or (leaves_of s k p.0) z) z) (left_marked start k ps)

  kept_marked : (start : World s) (ps : List (Row s)) → Kept s start t ps → Kept s start (live_set s) (map mark_row ps)
  kept_marked start [] h = tt
  kept_marked start (p ∷ ps) (h, hs) = (λ k x is. h k x is ∙ ap (λ z. cond (t p.0) z x) (sym (left_marked start k ps)), kept_marked start ps hs)

  follows_marked : {start : World s} {rows : List (Row s)} {w : State s} → Follows s start t rows w → Follows s start (live_set s) (map mark_row rows) w
  follows_marked {start = start} {rows = rows} f = record { seen = λ k. f.seen k ∙ sym (left_marked start k rows); records = kept_marked start rows f.records; fit = all_mapped mark_row _ rows f.fit }

module _ (s : Subject) where
  -- the contents tell the world that is good
  good_contents : {start w : World s} {t : Entry s → Bool} {rows : List (Row s)} {state : State s} → Good s start t (entries_of rows) w → Follows s start t rows state → Good s start t (entries_of rows) (contents s state)
  good_contents g f = record { recorded = g.recorded; sound = g.sound; ordered = g.ordered; world = contents_left s f }

  -- rows over the same entries stand with another set as the live one
  pub stands_marked : {start : World s} {next : ℕ} {rows : List (Row s)} {state : State s} (t : Entry s → Bool) (qs : List (Row s)) (w : State s) → Stands s start next rows state
      → entries_of qs ≡ entries_of rows → Sound s t (entries_of rows) → Follows s start t qs w → Stands s start next (map (mark_row s t) qs) w
  stands_marked {start = start} {next = next} {rows = rows} t qs w h same sound f =
      let es : entries_of (map (mark_row s t) qs) ≡ marked s t (entries_of rows) = entries_marked s t qs ∙ ap (marked s t) same in
      let g : Follows s start (live_set s) (map (mark_row s t) qs) w = follows_marked s t f in
      let good : Good s start (live_set s) (marked s t (entries_of rows)) (over s start t (entries_of rows)) = good_marked s t (record { recorded = h.good.recorded; sound = sound; ordered = h.good.ordered; world = refl }) in
      record {
        good = good_contents (subst (λ fs. Good s start (live_set s) fs (over s start t (entries_of rows))) (sym es) good) g;
        named = subst (Named s next) (sym es) (named_marked s t h.named);
        follows = g;
        chained = subst (Chained s) (sym es) (chained_marked s t (entries_of rows) h.chained);
      }

  pub begun : (start : World s) (next : ℕ) → Stands s start next [] (untouched s start)
  begun start next = record {
    good = record { recorded = tt; sound = tt; ordered = tt; world = refl };
    named = record { distinct = tt; below = tt; own = tt };
    follows = record { seen = λ k. refl; records = tt; fit = tt };
    chained = tt;
  }

  pub standing_run : (l : Laws s) {start : World s} {next : ℕ} {rows : List (Row s)} {state : State s} → Stands s start next rows state → Run s start (map (λ e. e.event) (filter (live_set s) (entries_of rows))) (contents s state)
  standing_run l h = good_run s l h.good

  pub last_shown : {start : World s} {next : ℕ} {rows : List (Row s)} {state : State s} → Stands s start next rows state → (k : s.Key) → (state k).1 ≡ last_writer s k (live_set s) (entries_of rows)
  last_shown {start = start} {rows = rows} h k = ap (λ (x : Seen s). x.1) (h.follows.seen k) ∙ left_last s start k (live_set s) (entries_of rows)

-- an event is appended
module _ (s : Subject) (l : Laws s) {start : World s} {next later : ℕ} {rows : List (Row s)} {state : State s} (e : s.Event) (f : Foot s) (ns : List ℕ) (ls : List (s.Key × Option ℕ)) (p : Record s) where
  pub appended_stands : Stands s start next rows state → s.Does e (contents s state) f → Free s (s.name e) (entries_of rows) → next ≤ later → s.name e < later → NamesCauses s ns f (entries_of rows)
      → AllByRecursion (λ n. n < later) ns → is_in ns (s.name e) ≡ false
      → HasCells s f ls → AllByRecursion (λ q. q.1 ≡ (state q.0).1) ls → Writes s (s.name e) f p
      → Stands s start later ((new_entry s e f ns ls, swap_record s p state) ∷ rows) (swap_state s p state)
  appended_stands h d free le lt causes below other cells lasts writes =
      let g : Follows s start (live_set s) ((new_entry s e f ns ls, swap_record s p state) ∷ rows) (swap_state s p state) = appended_follows s l (live_set s) (new_entry s e f ns ls) p rows state h.follows writes refl in
      record {
        good = good_contents s {rows = (new_entry s e f ns ls, swap_record s p state) ∷ rows} (appended s l e f ns ls h.good d free causes) g;
        named = appended_named s e f ns ls h.named free le lt below other;
        follows = g;
        chained = (
          traced_new s l (live_set s) (new_entry s e f ns ls) (entries_of rows) h.good.sound causes cells (all_map _ _ ls (λ q is. is ∙ last_shown s h q.0) lasts),
          h.chained,
        );
      }

-- entries are undone and redone
module _ (s : Subject) where
  undo_marks : (c : Entry s → Bool) (rows : List (Row s)) (w : State s) → undo_rows s c rows w ≡ map (mark_row s (without (live_set s) c)) (undo_kept s c rows w)
  undo_marks c [] w = refl
  undo_marks c (p ∷ ps) w = ap₂ (λ (q : Row s) qs. q ∷ qs) (one (c p.0)) (undo_marks c ps _)
    where
      one : (b : Bool) → ◌≡◌ {A = Row s} (cond b (swap_row s false p w) p) (record (p.0) { live = p.0.live && not b }, cond b (swap_record s p.1 w) p.1)
      one true = λ i. (record (p.0) { live = (sym (and_none p.0.live)) i }, swap_record s p.1 w)
      one false = λ i. (record (p.0) { live = (sym (kept_live p.0.live)) i }, p.1)

  redo_marks : (c : Entry s → Bool) (rows : List (Row s)) (w : State s) → redo_rows s c rows w ≡ map (mark_row s (both (live_set s) c)) (redo_kept s c rows w)
  redo_marks c [] w = refl
  redo_marks c (p ∷ ps) w = ap₂ (λ (q : Row s) qs. q ∷ qs) (one (c p.0)) (redo_marks c ps w)
    where
      or_all : (b : Bool) → true ≡ (b || true)
      or_all true = refl
      or_all false = refl

      or_none : (b : Bool) → b ≡ (b || false)
      or_none true = refl
      or_none false = refl

      one : (b : Bool) → ◌≡◌ {A = Row s} (cond b (swap_row s true p (redo_state s c ps w)) p) (record (p.0) { live = p.0.live || b }, cond b (swap_record s p.1 (redo_state s c ps w)) p.1)
      one true = λ i. (record (p.0) { live = (or_all p.0.live) i }, swap_record s p.1 (redo_state s c ps w))
      one false = λ i. (record (p.0) { live = (or_none p.0.live) i }, p.1)

  pub entries_undone : (c : Entry s → Bool) (rows : List (Row s)) (w : State s) → entries_of (undo_rows s c rows w) ≡ marked s (without (live_set s) c) (entries_of rows)
  entries_undone c rows w = ap entries_of (undo_marks c rows w) ∙ entries_marked s (without (live_set s) c) (undo_kept s c rows w) ∙ ap (marked s (without (live_set s) c)) (entries_undo_kept s c rows w)

  pub entries_redone : (c : Entry s → Bool) (rows : List (Row s)) (w : State s) → entries_of (redo_rows s c rows w) ≡ marked s (both (live_set s) c) (entries_of rows)
  entries_redone c rows w = ap entries_of (redo_marks c rows w) ∙ entries_marked s (both (live_set s) c) (redo_kept s c rows w) ∙ ap (marked s (both (live_set s) c)) (entries_redo_kept s c rows w)

module _ (s : Subject) (l : Laws s) {start : World s} {next : ℕ} (c : Entry s → Bool) (rows : List (Row s)) (state : State s) (h : Stands s start next rows state) where
  module _ (closed : Closed s (live_set s) c (entries_of rows)) (part : Part c (live_set s) (entries_of rows)) where
    undone_kept : Follows s start (without (live_set s) c) (undo_kept s c rows state) (undo_state s c rows state)
    undone_kept = undone_follows s l start (live_set s) c rows state h.good.sound closed part h.follows

    pub undone_stands : Stands s start next (undo_rows s c rows state) (undo_state s c rows state)
    undone_stands = subst (λ qs. Stands s start next qs (undo_state s c rows state)) (sym (undo_marks s c rows state))
        (stands_marked s (without (live_set s) c) (undo_kept s c rows state) (undo_state s c rows state) h (entries_undo_kept s c rows state) (sound_without s (live_set s) c (entries_of rows) closed h.good.sound) undone_kept)

    pub undone_contents : contents s (undo_state s c rows state) ≡ over s start (without (live_set s) c) (entries_of rows)
    undone_contents = contents_left s undone_kept ∙ ap (over s start (without (live_set s) c)) (entries_undo_kept s c rows state)

  module _ (dead : AllByRecursion (λ a. c a ≡ true → a.live ≡ false) (entries_of rows)) (sound : Sound s (both (live_set s) c) (entries_of rows)) where
    same_live : AllByRecursion (λ a. a.live ≡ without (both (live_set s) c) c a) (entries_of rows)
    same_live = all_map _ _ (entries_of rows) (λ a p. sym (take_back a.live (c a) p)) dead

    in_both : (t b : Bool) → b ≡ true → (t || b) ≡ true
    in_both true b q = refl
    in_both false b q = q

    redone_kept : Follows s start (both (live_set s) c) (redo_kept s c rows state) (redo_state s c rows state)
    redone_kept = redone_follows s l start (both (live_set s) c) c rows state sound
        (closed_of_sound s (both (live_set s) c) c (entries_of rows) sound (sound_same s (live_set s) (without (both (live_set s) c) c) (entries_of rows) same_live h.good.sound))
        (all_of _ (entries_of rows) (λ a. in_both a.live (c a))) (follows_same s (without (both (live_set s) c) c) same_live h.follows)

    pub redone_stands : Stands s start next (redo_rows s c rows state) (redo_state s c rows state)
    redone_stands = subst (λ qs. Stands s start next qs (redo_state s c rows state)) (sym (redo_marks s c rows state))
        (stands_marked s (both (live_set s) c) (redo_kept s c rows state) (redo_state s c rows state) h (entries_redo_kept s c rows state) sound redone_kept)

    pub redone_contents : contents s (redo_state s c rows state) ≡ over s start (both (live_set s) c) (entries_of rows)
    redone_contents = contents_left s redone_kept ∙ ap (over s start (both (live_set s) c)) (entries_redo_kept s c rows state)

-- a cell that no member of the set writes
module _ (s : Subject) (l : Laws s) (c : Entry s → Bool) (k : s.Key) where
  none_found : (o : Option (Seen s)) (p : Option s.Content) (x : Seen s) → is_some o ≡ is_some p → p ≡ None → unwrap_or o x ≡ x
  none_found None p x h q = refl
  none_found (Some y) p x h q = absurd (true≢false (h ∙ ap is_some q))

  stays : (p : Row s) (w : State s) (b : Bool) → c p.0 ≡ b → Fits s p.0.foot p.1 → (c p.0 ≡ true → new s p.0.foot k ≡ None) → cond b (swap_state s p.1 w) w k ≡ w k
  stays p w true e f h = seen_swap s l p.1 w k f.apart ∙ none_found (found s p.1 k) (new s p.0.foot k) (w k) (f.cells k) (h e)
  stays p w false e f h = refl

  pub undone_elsewhere : (rows : List (Row s)) (w : State s) → Fit s rows → AllByRecursion (λ a. c a ≡ true → new s a.foot k ≡ None) (entries_of rows) → undo_state s c rows w k ≡ w k
  undone_elsewhere [] w f h = refl
  undone_elsewhere (p ∷ ps) w (f, fs) (h, hs) = undone_elsewhere ps _ fs hs ∙ stays p w (c p.0) refl f h

-- what was undone is redone: d tells of the marked entries what c told of them before
module _ (s : Subject) (l : Laws s) (c d : Entry s → Bool) where
  -- the same entries as they are marked
  abbrev Same : List (Entry s) → Type 0
  Same es = AllByRecursion (λ a. d (mark s (without (live_set s) c) a) ≡ c a) es

  -- a row that was undone is chosen, and another is not
  chosen : (p : Row s) → d (mark s (without (live_set s) c) p.0) ≡ c p.0 → c p.0 ≡ true → d (record (p.0) { live = false }) ≡ true
  chosen p same is = ap d (λ i. record (p.0) { live = (sym (and_none p.0.live) ∙ ap (λ b. p.0.live && not b) (sym is)) i }) ∙ same ∙ is

  not_chosen : (p : Row s) → d (mark s (without (live_set s) c) p.0) ≡ c p.0 → c p.0 ≡ false → d p.0 ≡ false
  not_chosen p same is = ap d (λ i. record (p.0) { live = (sym (kept_live p.0.live) ∙ ap (λ b. p.0.live && not b) (sym is)) i }) ∙ same ∙ is

  pub back_state : (rows : List (Row s)) (w : State s) → Fit s rows → Same (entries_of rows) → redo_state s d (undo_rows s c rows w) (undo_state s c rows w) ≡ w
  back_state [] w f h = refl
  back_state (p ∷ ps) w (f, fs) (h, hs) = one (c p.0) refl (λ v. back_state ps v fs hs)
    where
      one : (b : Bool) → c p.0 ≡ b → ((v : State s) → redo_state s d (undo_rows s c ps v) (undo_state s c ps v) ≡ v)
          → redo_state s d (cond b (swap_row s false p w) p ∷ undo_rows s c ps (cond b (swap_state s p.1 w) w)) (undo_state s c ps (cond b (swap_state s p.1 w) w)) ≡ w
      one true e ih = rw (chosen p h e, ih (swap_state s p.1 w)) (twice_state s l p.1 w f.apart)
      one false e ih = rw (not_chosen p h e) (ih w)

  pub back_rows : (rows : List (Row s)) (w : State s) → Fit s rows → Same (entries_of rows) → Part c (live_set s) (entries_of rows) → redo_rows s d (undo_rows s c rows w) (undo_state s c rows w) ≡ rows
  back_rows [] w f h q = refl
  back_rows (p ∷ ps) w (f, fs) (h, hs) (q, qs) = one (c p.0) refl (λ v. back_state ps v fs hs) (λ v. back_rows ps v fs hs qs)
    where
      one : (b : Bool) → c p.0 ≡ b → ((v : State s) → redo_state s d (undo_rows s c ps v) (undo_state s c ps v) ≡ v) → ((v : State s) → redo_rows s d (undo_rows s c ps v) (undo_state s c ps v) ≡ ps)
          → redo_rows s d (cond b (swap_row s false p w) p ∷ undo_rows s c ps (cond b (swap_state s p.1 w) w)) (undo_state s c ps (cond b (swap_state s p.1 w) w)) ≡ p ∷ ps
      one true e is ih = rw (chosen p h e, is (swap_state s p.1 w)) (λ i. (record (p.0) { live = (sym (q e)) i }, twice_record s l p.1 w f.apart i) ∷ ih (swap_state s p.1 w) i)
      one false e is ih = rw (not_chosen p h e) (ap (λ ps. p ∷ ps) (ih w))

  -- it was live, is not, and is sound with what is left
  not_live : (t b : Bool) → b ≡ true → (t && not b) ≡ false
  not_live t true h = and_none t
  not_live t false h = absurd (true≢false (sym h))

  pub back_dead : (es : List (Entry s)) → Same es → AllByRecursion (λ a. d a ≡ true → a.live ≡ false) (marked s (without (live_set s) c) es)
  back_dead es h = all_mapped (mark s (without (live_set s) c)) _ es (all_map _ _ es (λ a same is. not_live a.live (c a) (sym same ∙ is)) h)

  pub back_sound : (es : List (Entry s)) → Same es → Part c (live_set s) es → Sound s (live_set s) es → Sound s (both (live_set s) d) (marked s (without (live_set s) c) es)
  back_sound es h part sound =
      sound_marked s (without (live_set s) c) (both (live_set s) d) es
      (sound_same s (live_set s) (λ a. both (live_set s) d (mark s (without (live_set s) c) a)) es
      (all_both _ _ _ es (λ a same p. sym (ap (λ b. (a.live && not (c a)) || b) same ∙ put_back a.live (c a) p)) h part) sound)

-- neighbours change places, and chains are followed
module _ (s : Subject) (l : Laws s) where
  pub exchanged_stands : {start : World s} {next : ℕ} {state : State s} (xs ys : List (Row s)) (a b : Row s) → Stands s start next (xs ++ a ∷ b ∷ ys) state
      → meets s a.0.foot b.0.foot ≡ false → meets s b.0.foot a.0.foot ≡ false → Stands s start next (xs ++ b ∷ a ∷ ys) state
  exchanged_stands {start = start} {next = next} {state = state} xs ys a b h ab ba =
      let before : entries_of (xs ++ a ∷ b ∷ ys) ≡ entries_of xs ++ a.0 ∷ b.0 ∷ entries_of ys = map-append (λ (p : Row s). p.0) xs (a ∷ b ∷ ys) in
      let after : entries_of xs ++ b.0 ∷ a.0 ∷ entries_of ys ≡ entries_of (xs ++ b ∷ a ∷ ys) = sym (map-append (λ (p : Row s). p.0) xs (b ∷ a ∷ ys)) in
      let good : Good s start (live_set s) (entries_of xs ++ a.0 ∷ b.0 ∷ entries_of ys) (contents s state) = subst (λ es. Good s start (live_set s) es (contents s state)) before h.good in
      let chained : Chained s (entries_of xs ++ a.0 ∷ b.0 ∷ entries_of ys) = subst (Chained s) before h.chained in
      record {
        good = subst (λ es. Good s start (live_set s) es (contents s state)) after (good_swap s l a.0 b.0 (entries_of ys) ab (no_cause s l a.0 b.0 (entries_of ys) ab ba (entries_of xs) chained) (entries_of xs) good);
        named = subst (Named s next) after (named_swap s a.0 b.0 (entries_of ys) (entries_of xs) (subst (Named s next) before h.named));
        follows = follows_swap s l start (live_set s) a b ys ab xs state h.follows;
        chained = subst (Chained s) after (chained_swap s l a.0 b.0 (entries_of ys) ab ba (entries_of xs) good.ordered chained);
      }

  pub chains_stand : {start : World s} {next : ℕ} {rows : List (Row s)} {state : State s} → Stands s start next rows state →
      AllByRecursion (λ e. AllByRecursion (λ a. caused s e a ≡ list_any (λ p. named s (chain s p.0 p.1 (entries_of rows)) a) e.lasts) (entries_of rows)) (entries_of rows)
  chains_stand {rows = rows} h = causes_on_chains s l (entries_of rows) h.named.distinct h.good.ordered h.named.own h.chained

  pub chain_stands : {start : World s} {next : ℕ} {rows : List (Row s)} {state : State s} → Stands s start next rows state → (k : s.Key) (xs ys : List (Entry s)) (a : Entry s) → entries_of rows ≡ xs ++ a ∷ ys →
      (chain s k (Some (name_of s a)) (entries_of rows) ≡ name_of s a ∷ chain s k (last_of s a k) (entries_of rows)) ×
      ((n : ℕ) → last_of s a k ≡ Some n → list_any (λ b. name_of s b == n) ys ≡ true) × AllByRecursion (λ p. last_of s a p.0 ≡ p.1) a.lasts
  chain_stands h k xs ys a is =
      let chained : Chained s (xs ++ a ∷ ys) = subst (Chained s) is h.chained in
      let distinct : Distinct s (xs ++ a ∷ ys) = subst (Distinct s) is h.named.distinct in
      (rw is (chain_followed s l k xs ys a distinct chained), last_older s l k xs ys a chained, lasts_at s l xs ys a chained)
