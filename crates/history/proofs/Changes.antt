-- Appending, undoing and redoing keep a journal good.
use Rattle.std.proofs.Common.{◌≡◌, ℕ, Bool, true, false, ◌&&◌, not, List, [], ◌∷◌, Option, filter, map, ◌∙◌, refl, sym, ap, subst}
use Rattle.std.specs.List.{AllByRecursion}
use Rattle.std.proofs.lemmas.Bool.{both_ways, and_parts, not-true, false≢true}
use Rattle.history.specs.Subject.{Subject, Laws, World, Foot, after, meets, Run}
use Rattle.history.specs.Journal.{Entry, caused, live_set, without, Runs, HasCauses, Sound, Good, new_entry, Closed}
use Rattle.history.proofs.Lists.{all_map, all_both, all_of, kept_cause}
use Rattle.history.proofs.Core.{sound_runs, run_of, recorded_new}

module _ (s : Subject) where
  causes_same : (t r : Entry s → Bool) (e : Entry s) (es : List (Entry s)) → AllByRecursion (λ a. t a ≡ r a) es → HasCauses s t e es → HasCauses s r e es
  causes_same t r e es = all_both _ _ _ es (λ a p q. q ∙ ap (λ b. b && meets s a.foot e.foot) p)

  -- sets of the same entries are sound alike
  pub sound_same : (t r : Entry s → Bool) (es : List (Entry s)) → AllByRecursion (λ a. t a ≡ r a) es → Sound s t es → Sound s r es
  sound_same t r [] h g = tt
  sound_same t r (e ∷ es) (p, h) (c, g) = (λ q. causes_same t r e es h (c (p ∙ q)), sound_same t r es h g)

  -- what is left of a sound set without a closed one is sound
  pub sound_without : (t c : Entry s → Bool) (es : List (Entry s)) → Closed s t c es → Sound s t es → Sound s (without t c) es
  sound_without t c [] h g = tt
  sound_without t c (e ∷ es) (p, h) (q, g) = (
    λ is. let parts = and_parts (t e) (not (c e)) is in
        all_both _ _ _ es (λ a closed has. kept_cause (caused s e a) (t a) (c a) (meets s a.foot e.foot) has (λ x y. both_ways _ (not-true (c e) parts.1) (closed x y))) (p parts.0) (q parts.0),
    sound_without t c es h g,
  )

  -- what is made sound by a set is closed in it
  not_caused : (t c m x : Bool) → x ≡ ((t && not c) && m) → c ≡ true → x ≡ true → ⊥
  not_caused false c m x h is q = both_ways _ h q
  not_caused true true m x h is q = both_ways _ h q
  not_caused true false m x h is q = false≢true is

  closed_at : (t c : Entry s → Bool) (e : Entry s) (es : List (Entry s)) (b : Bool) → c e ≡ b → t e ≡ true → (without t c e ≡ true → HasCauses s (without t c) e es)
      → AllByRecursion (λ a. c a ≡ true → caused s e a ≡ true → c e ≡ true) es
  closed_at t c e es true is member h = all_of _ es (λ a d cause. is)
  closed_at t c e es false is member h = all_map _ _ es (λ a p d cause. absurd (not_caused (t a) (c a) _ _ p d cause)) (h (rw (member, is)))

  -- what lies between two sound sets is closed in the greater
  pub closed_of_sound : (t c : Entry s → Bool) (es : List (Entry s)) → Sound s t es → Sound s (without t c) es → Closed s t c es
  closed_of_sound t c [] h g = tt
  closed_of_sound t c (e ∷ es) (h, hs) (g, gs) = (λ member. closed_at t c e es (c e) refl member g, closed_of_sound t c es hs gs)

module _ (s : Subject) (l : Laws s) where
  -- the entries of a good set run to its world, each with its footprint
  pub good_runs : {start w : World s} {t : Entry s → Bool} {es : List (Entry s)} → Good s start t es w → Runs s start (filter t es) w
  good_runs {start = start} {t = t} {es = es} g = subst (Runs s start (filter t es)) (sym g.world) (sound_runs s l start t es g.recorded g.sound)

  -- so do their events
  pub good_run : {start w : World s} {t : Entry s → Bool} {es : List (Entry s)} → Good s start t es w → Run s start (map (λ e. e.event) (filter t es)) w
  good_run g = run_of s (good_runs g)

  -- an event that is possible is appended with its footprint and its causes
  pub appended_good : {start w : World s} {es : List (Entry s)} (e : s.Event) (f : Foot s) (ns : List ℕ) (ls : List (s.Key × Option ℕ)) → Good s start (live_set s) es w → s.Does e w f →
      HasCauses s (live_set s) (new_entry s e f ns ls) es → AllByRecursion (λ a. caused s a (new_entry s e f ns ls) ≡ false) es →
      Good s start (live_set s) (new_entry s e f ns ls ∷ es) (after s f w)
  appended_good {start = start} {es = es} e f ns ls g d causes older = record {
    recorded = (recorded_new s l start (live_set s) (new_entry s e f ns ls) es causes (subst (λ v. s.Does e v f) g.world d), g.recorded);
    sound = (λ _. causes, g.sound);
    ordered = (older, g.ordered);
    world = ap (after s f) g.world;
  }
