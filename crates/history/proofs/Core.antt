-- Sets of entries that are sound run.
use Rattle.std.proofs.Common.{◌≡◌, Bool, true, false, cond, ◌&&◌, List, [], ◌∷◌, Option, Some, None, map, filter, unwrap_or, option_map, ◌⊎◌, inl, inr, ◌∙◌, refl, sym, ap, subst}
use Rattle.std.specs.List.{list_any, AllByRecursion}
use Rattle.std.proofs.lemmas.Bool.{or_left, or_right}
use Rattle.history.specs.Subject.{Subject, Laws, World, after, new, touches, meets, Alike, Run, run_none, run_more}
use Rattle.history.specs.Journal.{Entry, caused, over, Runs, runs_none, runs_more, HasCauses, Sound, Recorded}
use Rattle.history.specs.Records.{cell}
use Rattle.history.proofs.Lists.{all_map}
use Rattle.history.proofs.Cells.{cell_agree}
use Rattle.history.proofs.Writing.{at_after, after_alike, meets_new}

module _ (s : Subject) where
  -- the content that an entry writes in a cell
  abbrev pub puts : s.Key → Entry s → Option (Option s.Content)
  puts k e = option_map (λ v. Some v) (new s e.foot k)

  pub at_over : (start : World s) (t : Entry s → Bool) (es : List (Entry s)) (k : s.Key) → over s start t es k ≡ cell (puts k) (start k) t es
  at_over start t [] k = refl
  at_over start t (e ∷ es) k = entry (t e) (at_over start t es k)
    where
      entry : (b : Bool) → over s start t es k ≡ cell (puts k) (start k) t es
          → cond b (after s e.foot (over s start t es)) (over s start t es) k ≡ cond b (unwrap_or (puts k e) (cell (puts k) (start k) t es)) (cell (puts k) (start k) t es)
      entry true ih = at_after s e.foot _ k ∙ ap (unwrap_or (puts k e)) ih
      entry false ih = ih

  -- sets that agree on the writers of a cell leave the same in it
  pub over_agree : (start : World s) (t r : Entry s → Bool) (es : List (Entry s)) (k : s.Key) → AllByRecursion (λ a. (new s a.foot k ≡ None) ⊎ (t a ≡ r a)) es → over s start t es k ≡ over s start r es k
  over_agree start t r es k h = at_over start t es k ∙ cell_agree (puts k) (start k) t r es (all_map _ _ es (λ a p. silent a p) h) ∙ sym (at_over start r es k)
    where
      silent : (a : Entry s) → (new s a.foot k ≡ None) ⊎ (t a ≡ r a) → (puts k a ≡ None) ⊎ (t a ≡ r a)
      silent a (inl h) = inl (ap (option_map (λ v. Some v)) h)
      silent a (inr h) = inr h

  -- what runs entry by entry is the run of the events
  pub run_of : {start w : World s} {es : List (Entry s)} → Runs s start es w → Run s start (map (λ e. e.event) es) w
  run_of runs_none = run_none
  run_of (runs_more h d) = run_more (run_of h) d

module _ (s : Subject) (l : Laws s) where
  -- e's causes and the set that it was made in agree on the writers of a cell that e touches
  cause_or_apart : (e a : Entry s) (k : s.Key) (b : Bool) → touches s e.foot k ≡ true → caused s e a ≡ (b && meets s a.foot e.foot) → (o : Option s.Content) → new s a.foot k ≡ o → (new s a.foot k ≡ None) ⊎ (b ≡ caused s e a)
  cause_or_apart e a k b q h None is = inl is
  cause_or_apart e a k true q h (Some v) is = inr (sym (h ∙ meets_new s l a.foot e.foot k v is q))
  cause_or_apart e a k false q h (Some v) is = inr (sym h)

  -- the worlds that the set and e's causes leave hold the same in a cell that e touches
  same_where_touched : (start : World s) (t : Entry s → Bool) (e : Entry s) (es : List (Entry s)) → HasCauses s t e es → (k : s.Key) → touches s e.foot k ≡ true → over s start t es k ≡ over s start (caused s e) es k
  same_where_touched start t e es h k q =
      over_agree s start t (caused s e) es k (all_map _ _ es (λ a p. cause_or_apart e a k (t a) q p (new s a.foot k) refl) h)

  -- what holds of each key that is found holds of all
  each_found : (P : s.Key → Type 0) (ks : List s.Key) → ((k : s.Key) → list_any (λ c. s.same k c) ks ≡ true → P k) → AllByRecursion P ks
  each_found P [] f = tt
  each_found P (k ∷ ks) f = (f k (or_left _ _ (l.same_self k)), each_found P ks (λ c h. f c (or_right (s.same c k) _ h)))

  -- a recorded entry is possible after a set in which it has its causes
  pub possible : (start : World s) (t : Entry s → Bool) (e : Entry s) (es : List (Entry s)) → HasCauses s t e es → s.Does e.event (over s start (caused s e) es) e.foot → s.Does e.event (over s start t es) e.foot
  possible start t e es h d = l.law e.event e.foot _ _ d (each_found _ _ (same_where_touched start t e es h))

  -- a new entry is possible where its causes alone have written
  pub recorded_new : (start : World s) (t : Entry s → Bool) (e : Entry s) (es : List (Entry s)) → HasCauses s t e es → s.Does e.event (over s start t es) e.foot → s.Does e.event (over s start (caused s e) es) e.foot
  recorded_new start t e es h d = l.law e.event e.foot _ _ d (each_found _ _ (λ k q. sym (same_where_touched start t e es h k q)))

  -- THE MAIN LEMMA: a sound set runs, each event with the footprint of its entry, to the world that it leaves
  pub sound_runs : (start : World s) (t : Entry s → Bool) (es : List (Entry s)) → Recorded s start es → Sound s t es → Runs s start (filter t es) (over s start t es)
  sound_runs start t [] r h = runs_none
  sound_runs start t (e ∷ es) (d, r) (c, h) =
      elim (t e) as (λ b. (b ≡ true → HasCauses s t e es) → Runs s start (cond b (e ∷ filter t es) (filter t es)) (cond b (after s e.foot (over s start t es)) (over s start t es))) [
        | true ↦ λ q. runs_more (sound_runs start t es r h) (possible start t e es (q refl) d)
        | false ↦ λ q. sound_runs start t es r h
      ] c

  -- events lead from a world to at most one world
  pub runs_are_one : {start w v : World s} {es : List s.Event} → Run s start es w → Run s start es v → w ≡ v
  runs_are_one run_none run_none = refl
  runs_are_one (run_more {e = e} {w = w} {f = f} r d) (run_more {w = v} {f = g} q c) =
      let same : w ≡ v = runs_are_one r q in
      let alike : Alike s f g = l.once e v f g (subst (λ u. s.Does e u f) same d) c in
      ap (after s f) same ∙ after_alike s f g v alike
