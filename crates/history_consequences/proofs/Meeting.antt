-- The first crossing is that with an heir of what an entry found.
use Rattle.std.proofs.Common.{◌≡◌, ℕ, Bool, true, false, cond, ◌&&◌, ◌||◌, not, List, [], ◌∷◌, Option, None, ◌⊎◌, inl, inr, refl, sym, ap, ◌∙◌, subst}
use Rattle.std.specs.List.{AllByRecursion}
use Rattle.std.proofs.lemmas.Bool.{both_ways, or_left, or_right, and_from, and_parts, false_from_ne_true, not_from_false, not-true}
use Rattle.history.specs.Subject.{Subject, Laws, touches, meets}
use Rattle.history.specs.Journal.{Entry, name_of, is_in, caused, Sound, Distinct}
use Rattle.history.specs.Chains.{wrote, last_writer, last_of, is_name, Linked, Traced, Chained}
use Rattle.history_consequences.specs.Versions.{is_one, overtakes}
use Rattle.history_consequences.specs.Sets.{is_there, HasLastWriters, MissesNone, CrossesNone}
use Rattle.history_consequences.specs.Refusals.{oldest, first_pair, crossed, overtaken}
use Rattle.history_consequences.proofs.Members.{In, all_in, in_all}
use Rattle.history_consequences.proofs.Writers.{meets_wrote, meets_at, touched_of, lasts_touched, item_of, last_in, last_is, last_sound}
use Rattle.history_consequences.proofs.Crossing.{one_self, there_older, last_or_heir, last_wrote, heir_not_last, not_overtaken, overtakes_at, at_overtakes, all_there, has_last}
use Rattle.history_consequences.proofs.Indexing.{same_from}
use Rattle.history_consequences.proofs.Oldest.{none_older, oldest_more, pair_more, none_paired}

module _ (s : Subject) (l : Laws s) (t : Entry s → Bool) where
  -- a member that wrote a cell that an entry touches, and is no cause of it
  abbrev meeting : Entry s → Entry s → Bool
  meeting e f = t f && (meets s f.foot e.foot && not (caused s e f))

  -- whoever wrote over what an entry found is such a member
  overtaking_meets : (e : Entry s) (es : List (Entry s)) → Distinct s es → Chained s es → Traced s e es → (f : Entry s) → In f es → t f ≡ true → overtakes s f e ≡ true → meeting e f ≡ true
  overtaking_meets e es d gs g f i tf h =
      let p = overtakes_at s l f e h in
      and_from _ _ tf (and_from _ _
      (meets_wrote s l f e.foot (p.0).0 p.4 (all_in _ e.lasts (lasts_touched s l e.foot e.lasts g.cells) p.0 p.1))
      (not_from_false _ (false_from_ne_true _ (λ cause. both_ways _ (heir_not_last s l (p.0).0 (caused s e) es d gs f i cause p.4)
      (ap (is_one (last_of s f (p.0).0)) (sym (all_in _ e.lasts g.lasts p.0 p.1)) ∙ ap (λ o. is_one o (p.0).1) p.3 ∙ one_self (p.0).1)))))

  -- what is known of an item of an entry among some of the older ones: its writer is there, or all members that wrote the cell are causes
  abbrev Known : Entry s → List (Entry s) → s.Key × Option ℕ → Type 0
  Known e fs p = (is_there s t p.1 fs ≡ true) ⊎ ((f : Entry s) → In f fs → t f ≡ true → wrote s p.0 f ≡ true → caused s e f ≡ true)

  module _ (e : Entry s) (c : Entry s → Bool) (whole : List (Entry s)) (d : Distinct s whole) (g : Traced s e whole) (all : Chained s whole)
      (some : (f : Entry s) → In f whole → t f ≡ true → overtakes s f e ≡ true → (c e || c f) ≡ true) where
    abbrev over : Entry s → Bool
    over f = (t f && (c e || c f)) && overtakes s f e

    over_meets : (f : Entry s) → In f whole → over f ≡ true → meeting e f ≡ true
    over_meets f i h = let u = and_parts (t f && (c e || c f)) (overtakes s f e) h in
        overtaking_meets e whole d all g f i (and_parts (t f) (c e || c f) u.0).0 u.1

    meets_over : (f : Entry s) → In f whole → t f ≡ true → overtakes s f e ≡ true → over f ≡ true
    meets_over f i tf h = and_from _ _ (and_from _ _ tf (some f i tf h)) h

    -- a last writer is a cause
    named_caused : (p : s.Key × Option ℕ) → In p e.lasts → (f : Entry s) → is_name p.1 (name_of s f) ≡ true → caused s e f ≡ true
    named_caused p j f is =
        let b = last_in s p.0 (caused s e) whole (name_of s f) (sym (ap (λ o. is_name o (name_of s f)) (all_in _ e.lasts g.lasts p j)) ∙ is) in
        subst (λ m. is_in e.causes m ≡ true) b.4 b.2

    along : (fs : List (Entry s)) → ((f : Entry s) → In f fs → In f whole) → Chained s fs → Sound s t fs → HasLastWriters s t fs
        → ((k : s.Key) → touches s e.foot k ≡ true → Linked s k (caused s e) fs)
        → AllByRecursion (Known e fs) e.lasts
        → oldest s (meeting e) fs ≡ oldest s over fs
    along [] sub gs sound lasts linked known = refl
    along (f ∷ fs) sub (gf, gs) (causes, sound) (last, lasts) linked known =
        oldest_more s (meeting e) over f fs
        (along fs (λ x i. sub x (inr i)) gs sound lasts (λ k q. (linked k q).1) (in_all _ e.lasts (λ p j. tail p j (all_in _ e.lasts known p j))))
        (λ none. same_from _ _ (head none) (over_meets f (sub f (inl refl))))
      where
        -- the cell of an item is touched, and its writer wrote it
        touched : (p : s.Key × Option ℕ) → In p e.lasts → touches s e.foot p.0 ≡ true
        touched p j = all_in _ e.lasts (lasts_touched s l e.foot e.lasts g.cells) p j

        wrote_it : (p : s.Key × Option ℕ) → In p e.lasts → (a : Entry s) → In a (f ∷ fs) → is_name p.1 (name_of s a) ≡ true → wrote s p.0 a ≡ true
        wrote_it p j a i is = last_wrote s l e whole d g p j a (sub a i) is

        -- once the writer is passed, all are causes
        passed : (p : s.Key × Option ℕ) → In p e.lasts → t f ≡ true → is_name p.1 (name_of s f) ≡ true → (h : Entry s) → In h fs → t h ≡ true → wrote s p.0 h ≡ true → caused s e h ≡ true
        passed p j tf is h i th wh =
            let wf = wrote_it p j f (inl refl) is in
            let cf = all_in _ fs (causes tf) h i ∙ and_from _ _ th (meets_wrote s l h f.foot p.0 wh (touched_of s l p.0 f wf)) in
            (and_parts (caused s e h) (wrote s p.0 h) (sym (all_in _ fs ((linked p.0 (touched p j)).0 (named_caused p j f is) wf) h i) ∙ and_from _ _ cf wh)).0

        tail : (p : s.Key × Option ℕ) → In p e.lasts → Known e (f ∷ fs) p → Known e fs p
        tail p j (inl there) = by (t f) (is_name p.1 (name_of s f)) refl refl
          where
            by : (x y : Bool) → t f ≡ x → is_name p.1 (name_of s f) ≡ y → Known e fs p
            by true true tf is = inr (passed p j tf is)
            by true false tf is = inl (there_older s t p.1 f fs there (λ _ q. both_ways _ is q))
            by false y tf is = inl (there_older s t p.1 f fs there (λ q _. both_ways _ tf q))
        tail p j (inr each) = inr (λ h i. each h (inr i))

        -- the oldest member that meets the entry wrote over what it found
        head : ((a : Entry s) → In a fs → meeting e a ≡ false) → meeting e f ≡ true → over f ≡ true
        head none h =
            let u = and_parts (t f) (meets s f.foot e.foot && not (caused s e f)) h in
            let v = and_parts (meets s f.foot e.foot) (not (caused s e f)) u.1 in
            let k = meets_at s l f e.foot v.0 in
            let p = item_of s l e.foot e.lasts g.cells k.0 k.2 in
            at p.0 p.1 u.0 (not-true _ v.1) (ap (λ q. wrote s q f) (sym p.2) ∙ k.1) (all_in _ e.lasts known p.0 p.1)
          where
            at : (p : s.Key × Option ℕ) → In p e.lasts → t f ≡ true → caused s e f ≡ false → wrote s p.0 f ≡ true → Known e (f ∷ fs) p → over f ≡ true
            at p j tf never wf (inr each) = absurd (both_ways _ never (each f (inl refl) tf wf))
            at p j tf never wf (inl there) =
                elim (last_or_heir s l p.0 t p.1 fs gs lasts (there_older s t p.1 f fs there (λ _ is. both_ways _ never (named_caused p j f is))) (λ a i is. wrote_it p j a (inr i) is)) [
                  | inl q ↦ meets_over f (sub f (inl refl)) tf (at_overtakes s l f e p j (last_is s l (λ c. last_writer s c t fs) f gf.cells (last tf) p.0 (touched_of s l p.0 f wf) ∙ q) wf)
                  | inr q ↦ absurd (both_ways _ (none q.0 q.1) (overtaking_meets e whole d all g q.0 (sub q.0 (inr q.1)) q.2 (at_overtakes s l q.0 e p j q.4 q.3)))
                ]

-- THE FIRST CROSSING
module _ (s : Subject) (l : Laws s) (t r c : Entry s → Bool) (one : (a : Entry s) → t a ≡ true → (c a ≡ true) ⊎ (r a ≡ true)) (other : (a : Entry s) → r a ≡ true → t a ≡ true) where
  abbrev asked : Entry s → List (Entry s) → Option ℕ
  asked e es = cond (t e) (crossed s t e es) None

  abbrev answered : Entry s → List (Entry s) → Option ℕ
  answered e es = cond (t e) (overtaken s t c e es) None

  none_crossed : (es : List (Entry s)) → first_pair s answered es ≡ None → CrossesNone s t c es
  none_crossed [] h = tt
  none_crossed (e ∷ es) h = (
    λ te. in_all _ es (λ f i tf some. false_from_ne_true _ (λ over. both_ways _
        (none_older s (λ f. (t f && (c e || c f)) && overtakes s f e) es (sym (ap (λ u. cond u (overtaken s t c e es) None) te) ∙ (none_paired s answered e es h).1) f i)
        (and_from _ _ (and_from _ _ tf some) over))),
    none_crossed es (none_paired s answered e es h).0,
  )

  pub first_crossed : (es : List (Entry s)) → Distinct s es → Chained s es → HasLastWriters s r es → MissesNone s t c es → first_pair s asked es ≡ first_pair s answered es
  first_crossed [] d g live m = refl
  first_crossed (e ∷ es) (d, ds) (g, gs) (live, lives) (m, ms) = pair_more s asked answered e es (first_crossed es ds gs lives ms) (λ none. go (t e) refl (has_last s l t r c one other es ds gs lives ms (none_crossed es none)))
    where
      -- of what is live, nothing overtakes
      some : t e ≡ true → (f : Entry s) → In f es → t f ≡ true → overtakes s f e ≡ true → (c e || c f) ≡ true
      some te f i tf over = elim (one e te) [
        | inl ce ↦ or_left _ _ ce
        | inr re ↦ elim (one f tf) [
          | inl cf ↦ or_right (c e) _ cf
          | inr rf ↦ absurd (both_ways _ (not_overtaken s l r e es ds gs (live re) f i rf) over)
        ]
      ]

      go : (x : Bool) → t e ≡ x → HasLastWriters s t es → cond x (crossed s t e es) None ≡ cond x (overtaken s t c e es) None
      go false te lasts = refl
      go true te lasts = along s l t e c es ds g gs (some te) es (λ f i. i) gs (last_sound s l t es ds gs lasts) lasts g.linked
          (in_all _ e.lasts (λ p i. inl (all_in _ e.lasts (all_there s l t r c one other e es m live (one e te)) p i)))
