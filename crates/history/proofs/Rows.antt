-- Rows of which some are exchanged with a state: it, and the records, are as they should be.
use Rattle.std.proofs.Common.{◌≡◌, ℕ, Bool, true, false, cond, ◌&&◌, List, [], ◌∷◌, Option, Some, None, map, unwrap_or, option_map, is_some, inr, ◌∙◌, refl, sym, ap, ap₂, subst}
use Rattle.std.specs.List.{AllByRecursion}
use Rattle.std.proofs.lemmas.Bool.{false≢true, both_ways}
use Rattle.history.specs.Subject.{Subject, Laws, World, Foot, new, meets}
use Rattle.history.specs.Journal.{Entry, name_of, caused, without, Part, over, HasCauses, Sound, Closed}
use Rattle.history.specs.Records.{Seen, State, Record, Row, contents, entries_of, swap_state, swap_record, Fits, leaves, Writes, cell, left_by, held, Kept, Follows, undo_state, redo_state}
use Rattle.history.proofs.Lists.{all_map}
use Rattle.history.proofs.Cells.{back, back_rows, forth, forth_rows, Unwritten, Right, Ready, cell_agree, back_is, forth_is, back_right, forth_right}
use Rattle.history.proofs.Core.{puts, at_over}
use Rattle.history.proofs.Writing.{meets_new, new_touches}
use Rattle.history.proofs.Exchanges.{is_some-map, seen_exchange, held_exchange, fits_exchange, writes_fit}

-- the rows with their records exchanged, and the marks as they were
abbrev pub undo_kept : (s : Subject) → (Entry s → Bool) → List (Row s) → State s → List (Row s)
undo_kept s c [] w = []
undo_kept s c (p ∷ ps) w = (p.0, cond (c p.0) (swap_record s p.1 w) p.1) ∷ undo_kept s c ps (cond (c p.0) (swap_state s p.1 w) w)

abbrev pub redo_kept : (s : Subject) → (Entry s → Bool) → List (Row s) → State s → List (Row s)
redo_kept s c [] w = []
redo_kept s c (p ∷ ps) w = (p.0, cond (c p.0) (swap_record s p.1 (redo_state s c ps w)) p.1) ∷ redo_kept s c ps w

-- each record fits its entry
abbrev pub Fit : (s : Subject) → List (Row s) → Type 0
Fit s rows = AllByRecursion (λ p. Fits s p.0.foot p.1) rows

module _ (s : Subject) where
  -- what an entry leaves in a cell
  abbrev pub leaves_of : s.Key → Entry s → Option (Seen s)
  leaves_of k e = leaves s (name_of s e) e.foot k

  abbrev rows_at : s.Key → List (Row s) → List (Entry s × Seen s)
  rows_at k ps = map (λ p. (p.0, held s p.1 k)) ps

  entries_at : (k : s.Key) (ps : List (Row s)) → entries_of (rows_at k ps) ≡ entries_of ps
  entries_at k [] = refl
  entries_at k (p ∷ ps) = ap (λ r. p.0 ∷ r) (entries_at k ps)

  kept_right : (start : World s) (t : Entry s → Bool) (ps : List (Row s)) → Kept s start t ps → (k : s.Key) → Right (leaves_of k) (start k, None) t (rows_at k ps)
  kept_right start t [] h k = tt
  kept_right start t (p ∷ ps) (q, h) k = (λ x is. rw (entries_at k ps) (q k x is), kept_right start t ps h k)

  right_kept : (start : World s) (t : Entry s → Bool) (ps : List (Row s)) → ((k : s.Key) → Right (leaves_of k) (start k, None) t (rows_at k ps)) → Kept s start t ps
  right_kept start t [] h = tt
  right_kept start t (p ∷ ps) h = (λ k x is. rw (entries_at k ps) at ((h k).0 x is), right_kept start t ps (λ k. (h k).1))

  some_leaves : (e : Entry s) (k : s.Key) → is_some (leaves_of k e) ≡ is_some (new s e.foot k)
  some_leaves e k = is_some-map {B = Seen s} (λ v. (Some v, Some (name_of s e))) (new s e.foot k)

  pub entries_undo_kept : (c : Entry s → Bool) (ps : List (Row s)) (w : State s) → entries_of (undo_kept s c ps w) ≡ entries_of ps
  entries_undo_kept c [] w = refl
  entries_undo_kept c (p ∷ ps) w = ap (λ r. p.0 ∷ r) (entries_undo_kept c ps _)

  pub entries_redo_kept : (c : Entry s → Bool) (ps : List (Row s)) (w : State s) → entries_of (redo_kept s c ps w) ≡ entries_of ps
  entries_redo_kept c [] w = refl
  entries_redo_kept c (p ∷ ps) w = ap (λ r. p.0 ∷ r) (entries_redo_kept c ps w)

  -- the content that should be seen is that of the world
  pub left_content : (start : World s) (k : s.Key) (t : Entry s → Bool) (es : List (Entry s)) → (left_by s start t es k).0 ≡ over s start t es k
  left_content start k t es = all es ∙ sym (at_over s start t es k)
    where
      step : (b : Bool) (e : Entry s) (o : Option s.Content) (y : Seen s) (z : Option s.Content) → y.0 ≡ z
          → (cond b (unwrap_or (option_map (λ v. (Some v, Some (name_of s e))) o) y) y).0 ≡ cond b (unwrap_or (option_map (λ v. Some v) o) z) z
      step true e None y z h = h
      step true e (Some v) y z h = refl
      step false e o y z h = h

      all : (fs : List (Entry s)) → (left_by s start t fs k).0 ≡ cell (puts s k) (start k) t fs
      all [] = refl
      all (e ∷ fs) = step (t e) e (new s e.foot k) _ _ (all fs)

  -- what a state that follows shows
  pub contents_left : {start : World s} {t : Entry s → Bool} {rows : List (Row s)} {w : State s} → Follows s start t rows w → contents s w ≡ over s start t (entries_of rows)
  contents_left {start = start} {t = t} {rows = rows} f = λ i k. (ap (λ (x : Seen s). x.0) (f.seen k) ∙ left_content start k t (entries_of rows)) i

  -- sets of the same entries leave the same
  pub left_same : (start : World s) (t r : Entry s → Bool) (k : s.Key) (es : List (Entry s)) → AllByRecursion (λ a. t a ≡ r a) es → left_by s start t es k ≡ left_by s start r es k
  left_same start t r k es h = cell_agree (leaves_of k) (start k, None) t r es (all_map _ _ es (λ a p. inr p) h)

  kept_same : (start : World s) (t r : Entry s → Bool) (ps : List (Row s)) → AllByRecursion (λ a. t a ≡ r a) (entries_of ps) → Kept s start t ps → Kept s start r ps
  kept_same start t r [] h g = tt
  kept_same start t r (p ∷ ps) (h, hs) (g, gs) = (λ k y is. g k y is ∙ ap₂ (λ b z. cond b z y) h (left_same start t r k (entries_of ps) hs), kept_same start t r ps hs gs)

  pub follows_same : {start : World s} {t : Entry s → Bool} (r : Entry s → Bool) {rows : List (Row s)} {w : State s} → AllByRecursion (λ a. t a ≡ r a) (entries_of rows) → Follows s start t rows w → Follows s start r rows w
  follows_same {start = start} {t = t} r {rows = rows} h f = record {
    seen = λ k. f.seen k ∙ left_same start t r k (entries_of rows) h;
    records = kept_same start t r rows h f.records;
    fit = f.fit;
  }

module _ (s : Subject) (l : Laws s) where
  -- one cell of the rows and of the state, as records are exchanged
  module _ (c : Entry s → Bool) (k : s.Key) where
    step_seen : (e : Entry s) (b : Bool) (w : State s) (r : Record s) → Fits s e.foot r → cond b (swap_state s r w) w k ≡ cond (b && is_some (leaves_of s k e)) (held s r k) (w k)
    step_seen e true w r h = rw (some_leaves s e k) (seen_exchange s l e.foot w r h k)
    step_seen e false w r h = refl

    step_held : (e : Entry s) (b : Bool) (w : State s) (r : Record s) → Fits s e.foot r → held s (cond b (swap_record s r w) r) k ≡ cond (b && is_some (leaves_of s k e)) (w k) (held s r k)
    step_held e true w r h = rw (some_leaves s e k) (held_exchange s l e.foot w r h k)
    step_held e false w r h = refl

    undo_seen : (ps : List (Row s)) (w : State s) → Fit s ps → undo_state s c ps w k ≡ back (leaves_of s k) c (rows_at s k ps) (w k)
    undo_seen [] w h = refl
    undo_seen (p ∷ ps) w (h, hs) = undo_seen ps _ hs ∙ ap (back (leaves_of s k) c (rows_at s k ps)) (step_seen p.0 (c p.0) w p.1 h)

    undo_rows_at : (ps : List (Row s)) (w : State s) → Fit s ps → rows_at s k (undo_kept s c ps w) ≡ back_rows (leaves_of s k) c (rows_at s k ps) (w k)
    undo_rows_at [] w h = refl
    undo_rows_at (p ∷ ps) w (h, hs) = ap₂ (λ h r. (p.0, h) ∷ r) (step_held p.0 (c p.0) w p.1 h) (undo_rows_at ps _ hs ∙ ap (back_rows (leaves_of s k) c (rows_at s k ps)) (step_seen p.0 (c p.0) w p.1 h))

    redo_seen : (ps : List (Row s)) (w : State s) → Fit s ps → redo_state s c ps w k ≡ forth (leaves_of s k) c (rows_at s k ps) (w k)
    redo_seen [] w h = refl
    redo_seen (p ∷ ps) w (h, hs) = step_seen p.0 (c p.0) _ p.1 h ∙ ap (cond (c p.0 && is_some (leaves_of s k p.0)) (held s p.1 k)) (redo_seen ps w hs)

    redo_rows_at : (ps : List (Row s)) (w : State s) → Fit s ps → rows_at s k (redo_kept s c ps w) ≡ forth_rows (leaves_of s k) c (rows_at s k ps) (w k)
    redo_rows_at [] w h = refl
    redo_rows_at (p ∷ ps) w (h, hs) = ap₂ (λ h r. (p.0, h) ∷ r) (step_held p.0 (c p.0) _ p.1 h ∙ ap (λ y. cond (c p.0 && is_some (leaves_of s k p.0)) y (held s p.1 k)) (redo_seen ps w hs)) (redo_rows_at ps w hs)

  fit_step : (b : Bool) (f : Foot s) (w : State s) (r : Record s) → Fits s f r → Fits s f (cond b (swap_record s r w) r)
  fit_step true f w r h = fits_exchange s l f w r h
  fit_step false f w r h = h

  fit_undo : (c : Entry s → Bool) (ps : List (Row s)) (w : State s) → Fit s ps → Fit s (undo_kept s c ps w)
  fit_undo c [] w h = tt
  fit_undo c (p ∷ ps) w (h, hs) = (fit_step (c p.0) _ w p.1 h, fit_undo c ps _ hs)

  fit_redo : (c : Entry s → Bool) (ps : List (Row s)) (w : State s) → Fit s ps → Fit s (redo_kept s c ps w)
  fit_redo c [] w h = tt
  fit_redo c (p ∷ ps) w (h, hs) = (fit_step (c p.0) _ _ p.1 h, fit_redo c ps w hs)

  module _ (t c : Entry s → Bool) (k : s.Key) where
    -- a writer that is kept has no older writer in c
    not_older : (e a : Entry s) (ta ca : Bool) (o p : Option s.Content) → new s e.foot k ≡ o → new s a.foot k ≡ p → is_some o ≡ true → c e ≡ false
        → (ca ≡ true → ta ≡ true) → caused s e a ≡ (ta && meets s a.foot e.foot) → (ca ≡ true → caused s e a ≡ true → c e ≡ true) → (ca && is_some p) ≡ false
    not_older e a ta false o p oe pe ws out sub cause closed = refl
    not_older e a ta true o None oe pe ws out sub cause closed = refl
    not_older e a ta true None (Some y) oe pe ws out sub cause closed = absurd (false≢true ws)
    not_older e a ta true (Some x) (Some y) oe pe ws out sub cause closed =
        let met = meets_new s l a.foot e.foot k y pe (new_touches s l e.foot k x oe) in
        absurd (both_ways _ out (closed refl (rw (sub refl, met) at cause)))

    clear_rows : (e : Entry s) → is_some (new s e.foot k) ≡ true → c e ≡ false → (ps : List (Row s)) → HasCauses s t e (entries_of ps)
        → AllByRecursion (λ a. c a ≡ true → caused s e a ≡ true → c e ≡ true) (entries_of ps) → Part c t (entries_of ps)
        → Unwritten (leaves_of s k) c (rows_at s k ps)
    clear_rows e ws out [] h g b = tt
    clear_rows e ws out (p ∷ ps) (h, hs) (g, gs) (b, bs) = (
      rw (some_leaves s p.0 k) (not_older e p.0 (t p.0) (c p.0) _ _ refl refl ws out b h g),
      clear_rows e ws out ps hs gs bs,
    )

    ready : (ps : List (Row s)) → Sound s t (entries_of ps) → Closed s t c (entries_of ps) → Part c t (entries_of ps) → Ready (leaves_of s k) t c (rows_at s k ps)
    ready [] h g b = tt
    ready (p ∷ ps) (h, hs) (g, gs) (b, bs) = (
      b,
      λ member out ws. clear_rows p.0 (sym (some_leaves s p.0 k) ∙ ws) out ps (h member) (g member) bs,
      ready ps hs gs bs,
    )

-- a closed part of a sound set
module _ (s : Subject) (l : Laws s) (start : World s) (t c : Entry s → Bool) (rows : List (Row s)) (w : State s)
    (sound : Sound s t (entries_of rows)) (closed : Closed s t c (entries_of rows)) (part : Part c t (entries_of rows)) where
  at_entries : (k : s.Key) (r : Entry s → Bool) → cell (leaves_of s k) (start k, None) r (entries_of (rows_at s k rows)) ≡ left_by s start r (entries_of rows) k
  at_entries k r = ap (λ es. left_by s start r es k) (entries_at s k rows)

  -- its records are exchanged from the newest to the oldest
  pub undone_follows : Follows s start t rows w → Follows s start (without t c) (undo_kept s c rows w) (undo_state s c rows w)
  undone_follows f = record {
    seen = λ k. rw (entries_undo_kept s c rows w) (undo_seen s l c k rows w f.fit ∙ ap (back (leaves_of s k) c (rows_at s k rows)) (seen k) ∙ back_is _ _ t c _ (ready s l t c k rows sound closed part) (kept_right s start t rows f.records k) ∙ at_entries k (without t c));
    records = right_kept s start (without t c) _ (λ k. subst (Right (leaves_of s k) (start k, None) (without t c)) (sym (undo_rows_at s l c k rows w f.fit)) (back_right _ _ t c _ _ (inr (seen k)) (ready s l t c k rows sound closed part) (kept_right s start t rows f.records k)));
    fit = fit_undo s l c rows w f.fit;
  }
    where
      seen : (k : s.Key) → w k ≡ cell (leaves_of s k) (start k, None) t (entries_of (rows_at s k rows))
      seen k = f.seen k ∙ sym (at_entries k t)

  -- and back, from the oldest to the newest
  pub redone_follows : Follows s start (without t c) rows w → Follows s start t (redo_kept s c rows w) (redo_state s c rows w)
  redone_follows f = record {
    seen = λ k. rw (entries_redo_kept s c rows w) (redo_seen s l c k rows w f.fit ∙ ap (forth (leaves_of s k) c (rows_at s k rows)) (seen k) ∙ forth_is _ _ t c _ (ready s l t c k rows sound closed part) (kept_right s start (without t c) rows f.records k) ∙ at_entries k t);
    records = right_kept s start t _ (λ k. subst (Right (leaves_of s k) (start k, None) t) (sym (redo_rows_at s l c k rows w f.fit)) (forth_right _ _ t c _ _ (inr (seen k)) (ready s l t c k rows sound closed part) (kept_right s start (without t c) rows f.records k)));
    fit = fit_redo s l c rows w f.fit;
  }
    where
      seen : (k : s.Key) → w k ≡ cell (leaves_of s k) (start k, None) (without t c) (entries_of (rows_at s k rows))
      seen k = f.seen k ∙ sym (at_entries k (without t c))

-- an event is done: a record of what it writes is exchanged with the state
module _ (s : Subject) (l : Laws s) where
  held_written : (n : ℕ) (o : Option s.Content) (a b y : Seen s) (z : Option (Seen s)) → z ≡ option_map (λ v. (Some v, Some n)) o → option_map (λ v. (Some v, Some n)) o ≡ Some y → cond (is_some o) a b ≡ a
  held_written n None a b y z e h = cc
  held_written n (Some v) a b y z e h = refl

  seen_written : (n : ℕ) (o : Option s.Content) (z : Option (Seen s)) (a b : Seen s) → z ≡ option_map (λ v. (Some v, Some n)) o → a ≡ b
      → cond (is_some o) (unwrap_or z (None, None)) a ≡ unwrap_or (option_map (λ v. (Some v, Some n)) o) b
  seen_written n None z a b e h = h
  seen_written n (Some v) z a b e h = ap (λ q. unwrap_or q (None, None)) e

  pub appended_follows : {start : World s} (t : Entry s → Bool) (e : Entry s) (p : Record s) (rows : List (Row s)) (w : State s) → Follows s start t rows w → Writes s (name_of s e) e.foot p → t e ≡ true
      → Follows s start t ((e, swap_record s p w) ∷ rows) (swap_state s p w)
  appended_follows t e p rows w f h member = record {
    seen = λ k. seen_exchange s l e.foot w p fits k ∙ rw member (seen_written (name_of s e) (new s e.foot k) _ _ _ (h.cells k) (f.seen k));
    records = (λ k y is. held_exchange s l e.foot w p fits k ∙ held_written (name_of s e) (new s e.foot k) _ _ y _ (h.cells k) is ∙ rw member (f.seen k), f.records);
    fit = (fits_exchange s l e.foot w p fits, f.fit);
  }
    where
      fits : Fits s e.foot p
      fits = writes_fit s l h
