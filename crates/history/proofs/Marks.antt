-- What does not read marks: the records, soundness, order and names.
use Rattle.std.proofs.Common.{◌≡◌, ℕ, Bool, List, [], ◌∷◌, cond, ◌∙◌, refl, sym, ap, subst}
use Rattle.history.specs.Subject.{Subject, World, after}
use Rattle.history.specs.Journal.{Entry, caused, live_set, mark, marked, over, Sound, Recorded, Ordered, Good, Distinct, Below, NoneNamesItself, Free, Named}
use Rattle.history.proofs.Lists.{all_mapped}

module _ (s : Subject) (t : Entry s → Bool) where
  -- a set of marked entries leaves what the entries that are in it once marked do
  pub over_marked : (start : World s) (r : Entry s → Bool) (es : List (Entry s)) → over s start r (marked s t es) ≡ over s start (λ e. r (mark s t e)) es
  over_marked start r [] = refl
  over_marked start r (e ∷ es) = ap (λ w. cond (r (mark s t e)) (after s e.foot w) w) (over_marked start r es)

  pub recorded_marked : (start : World s) (es : List (Entry s)) → Recorded s start es → Recorded s start (marked s t es)
  recorded_marked start [] h = tt
  recorded_marked start (e ∷ es) (d, h) = (subst (λ w. s.Does e.event w e.foot) (sym (over_marked start (caused s (mark s t e)) es)) d, recorded_marked start es h)

  pub sound_marked : (r : Entry s → Bool) (es : List (Entry s)) → Sound s (λ e. r (mark s t e)) es → Sound s r (marked s t es)
  sound_marked r [] h = tt
  sound_marked r (e ∷ es) (c, h) = (λ q. all_mapped (mark s t) _ es (c q), sound_marked r es h)

  pub ordered_marked : (es : List (Entry s)) → Ordered s es → Ordered s (marked s t es)
  ordered_marked [] h = tt
  ordered_marked (e ∷ es) (c, h) = (all_mapped (mark s t) _ es c, ordered_marked es h)

  pub distinct_marked : (es : List (Entry s)) → Distinct s es → Distinct s (marked s t es)
  distinct_marked [] h = tt
  distinct_marked (e ∷ es) (d, h) = (all_mapped (mark s t) _ es d, distinct_marked es h)

  pub below_marked : (next : ℕ) (es : List (Entry s)) → Below s next es → Below s next (marked s t es)
  below_marked next es h = all_mapped (mark s t) _ es h

  pub own_marked : (es : List (Entry s)) → NoneNamesItself s es → NoneNamesItself s (marked s t es)
  own_marked es h = all_mapped (mark s t) _ es h

  pub free_marked : (n : ℕ) (es : List (Entry s)) → Free s n es → Free s n (marked s t es)
  free_marked n es h = all_mapped (mark s t) _ es h

  pub named_marked : {next : ℕ} {es : List (Entry s)} → Named s next es → Named s next (marked s t es)
  named_marked {next = next} {es = es} h = record { distinct = distinct_marked es h.distinct; below = below_marked next es h.below; own = own_marked es h.own }

  -- a set that is good is good as the live set, once its entries are marked
  pub good_marked : {start w : World s} {es : List (Entry s)} → Good s start t es w → Good s start (live_set s) (marked s t es) w
  good_marked {start = start} {es = es} g = record {
    recorded = recorded_marked start es g.recorded;
    sound = sound_marked (live_set s) es g.sound;
    ordered = ordered_marked es g.ordered;
    world = g.world ∙ sym (over_marked start (live_set s) es);
  }
