-- A version has one heir in a sound set, and it is on the chain of the cell.
use Rattle.std.proofs.Common.{◌≡◌, ℕ, Bool, true, false, cond, ◌&&◌, ◌==◌, List, [], ◌∷◌, Option, Some, inl, inr, refl, sym, ap, ◌∙◌, eq-eqb}
use Rattle.std.specs.List.{list_any}
use Rattle.std.proofs.lemmas.Bool.{both_ways, or_right, and_from, and_parts}
use Rattle.history.specs.Subject.{Subject, Laws, touches}
use Rattle.history.specs.Journal.{Entry, name_of, is_in, caused, Distinct}
use Rattle.history.specs.Chains.{wrote, last_writer, last_of, is_name, chain, Chained}
use Rattle.history_consequences.specs.Versions.{Version, is_one, found_as, wrote_over, overtakes}
use Rattle.history_consequences.specs.Sets.{HasLastWriters}
use Rattle.history_consequences.proofs.Members.{In, all_in, any_in, in_any}
use Rattle.history_consequences.proofs.Writers.{not_last, lasts_touched, last_is, touched_of}
use Rattle.history_consequences.proofs.Crossing.{one_same, one_self, heir_not_last, overtakes_at, at_overtakes}
use Rattle.history_consequences.proofs.Indexing.{same_from}
use Rattle.history_consequences.proofs.Missing.{head_named}
use Rattle.history_consequences.proofs.Settling.{traced_in, item_at}

module _ (s : Subject) (l : Laws s) where
  -- what an entry that found a version has
  found_at : (v : Version s) (r : Entry s) → found_as s v r ≡ true → (touches s r.foot v.0 ≡ true) × (last_of s r v.0 ≡ v.1)
  found_at v r h = let u = and_parts (touches s r.foot v.0) (is_one (last_of s r v.0) v.1) h in (u.0, one_same (last_of s r v.0) v.1 u.1)

  at_found : (v : Version s) (r : Entry s) → touches s r.foot v.0 ≡ true → last_of s r v.0 ≡ v.1 → found_as s v r ≡ true
  at_found v r touched is = and_from _ _ touched (ap (λ o. is_one o v.1) is ∙ one_self v.1)

  -- ONE HEIR
  pub one_heir : (t : Entry s → Bool) (v : Version s) (es : List (Entry s)) → Distinct s es → Chained s es → HasLastWriters s t es → (f g : Entry s) → In f es → In g es
      → t f ≡ true → t g ≡ true → wrote_over s v f ≡ true → wrote_over s v g ≡ true → f ≡ g
  one_heir t v [] d c h f g i j tf tg wf wg = absurd i
  one_heir t v (x ∷ es) (d, ds) (c, cs) (h, hs) f g i j tf tg wf wg = go i j (λ p q. one_heir t v es ds cs hs f g p q tf tg wf wg)
    where
      -- an older member wrote over what the newest one found
      older : (y : Entry s) → In y es → t y ≡ true → wrote_over s v y ≡ true → t x ≡ true → wrote_over s v x ≡ true → ⊥
      older y p ty wy tx wx =
          let a = and_parts (found_as s v y) (wrote s v.0 y) wy in
          let b = and_parts (found_as s v x) (wrote s v.0 x) wx in
          let u = found_at v y a.0 in
          let w = found_at v x b.0 in
          both_ways _ (heir_not_last s l v.0 t es ds cs y p ty a.1)
          (ap (is_one (last_of s y v.0)) (sym (last_is s l (λ k. last_writer s k t es) x c.cells (h tx) v.0 w.0) ∙ w.1 ∙ sym u.1) ∙ one_self (last_of s y v.0))

      go : In f (x ∷ es) → In g (x ∷ es) → (In f es → In g es → f ≡ g) → f ≡ g
      go (inl p) (inl q) ih = sym p ∙ q
      go (inl p) (inr q) ih = absurd (older g q tg wg (ap t p ∙ tf) (ap (wrote_over s v) p ∙ wf))
      go (inr p) (inl q) ih = absurd (older f p tf wf (ap t q ∙ tg) (ap (wrote_over s v) q ∙ wg))
      go (inr p) (inr q) ih = ih p q

  -- ON THE CHAIN
  pub on_chain : (k : s.Key) (t : Entry s → Bool) (es : List (Entry s)) → Distinct s es → Chained s es → HasLastWriters s t es → (f : Entry s) → In f es → t f ≡ true → wrote s k f ≡ true
      → is_in (chain s k (last_writer s k t es) es) (name_of s f) ≡ true
  on_chain k t [] d c h f i tf wf = absurd i
  on_chain k t (b ∷ es) (d, ds) (c, cs) (h, hs) f i tf wf = go (t b) (wrote s k b) refl refl i (λ j. on_chain k t es ds cs hs f j tf wf)
    where
      head : (j : In f (b ∷ es)) → t b ≡ true → wrote s k b ≡ true → (In f es → is_in (chain s k (last_writer s k t es) es) (name_of s f) ≡ true)
          → is_in (cond (is_name (Some (name_of s b)) (name_of s b)) (name_of s b ∷ chain s k (last_of s b k) es) (chain s k (Some (name_of s b)) es)) (name_of s f) ≡ true
      head (inl e) tb wb ih = ap (λ x. is_in (cond x (name_of s b ∷ chain s k (last_of s b k) es) (chain s k (Some (name_of s b)) es)) (name_of s f)) (eq-eqb (name_of s b) (name_of s b) refl)
          ∙ head_named (name_of s b) (chain s k (last_of s b k) es) (name_of s f) (ap (name_of s) e)
      head (inr j) tb wb ih = ap (λ x. is_in (cond x (name_of s b ∷ chain s k (last_of s b k) es) (chain s k (Some (name_of s b)) es)) (name_of s f)) (eq-eqb (name_of s b) (name_of s b) refl)
          ∙ or_right (name_of s b == name_of s f) _ (ap (λ o. is_in (chain s k o es) (name_of s f)) (last_is s l (λ q. last_writer s q t es) b c.cells (h tb) k (touched_of s l k b wb)) ∙ ih j)

      skip : is_in (chain s k (last_writer s k t es) es) (name_of s f) ≡ true
          → is_in (cond (is_name (last_writer s k t es) (name_of s b)) (name_of s b ∷ chain s k (last_of s b k) es) (chain s k (last_writer s k t es) es)) (name_of s f) ≡ true
      skip q = ap (λ x. is_in (cond x (name_of s b ∷ chain s k (last_of s b k) es) (chain s k (last_writer s k t es) es)) (name_of s f)) (not_last s k t (name_of s b) es d) ∙ q

      go : (x w : Bool) → t b ≡ x → wrote s k b ≡ w → In f (b ∷ es) → (In f es → is_in (chain s k (last_writer s k t es) es) (name_of s f) ≡ true)
          → is_in (chain s k (cond (x && w) (Some (name_of s b)) (last_writer s k t es)) (b ∷ es)) (name_of s f) ≡ true
      go true true tb wb j ih = head j tb wb ih
      go true false tb wb (inl e) ih = absurd (both_ways _ (sym (ap (wrote s k) e) ∙ wb) wf)
      go true false tb wb (inr j) ih = skip (ih j)
      go false w tb wb (inl e) ih = absurd (both_ways _ (sym (ap t e) ∙ tb) tf)
      go false w tb wb (inr j) ih = skip (ih j)

  -- an entry found its versions
  pub own_found : (es : List (Entry s)) → Chained s es → (r : Entry s) → In r es → (p : s.Key × Option ℕ) → In p r.lasts → (touches s r.foot p.0 ≡ true) × (last_of s r p.0 ≡ p.1)
  own_found es c r i p j =
      let o = traced_in s es c r i in
      let touched : touches s r.foot p.0 ≡ true = all_in _ r.lasts (lasts_touched s l r.foot r.lasts (o.1).cells) p j in
      (touched, last_is s l (λ q. last_writer s q (caused s r) o.0) r (o.1).cells (o.1).lasts p.0 touched ∙ sym (all_in _ r.lasts (o.1).lasts p j))

  -- who overtakes is told by its own versions too
  pub overtakes_turned : (es : List (Entry s)) → Chained s es → (f e : Entry s) → In f es → In e es → overtakes s f e ≡ list_any (λ v. wrote s v.0 f && found_as s v e) f.lasts
  overtakes_turned es c f e i j = same_from _ _ forth back
    where
      forth : overtakes s f e ≡ true → list_any (λ v. wrote s v.0 f && found_as s v e) f.lasts ≡ true
      forth h =
          let p = overtakes_at s l f e h in
          let q = item_at s l es c f i (p.0).0 p.2 in
          let o = own_found es c e j p.0 p.1 in
          any_in (λ v. wrote s v.0 f && found_as s v e) f.lasts q.0 q.1 (and_from _ _ (ap (λ k. wrote s k f) (sym q.2) ∙ p.4)
          (at_found q.0 e (ap (touches s e.foot) (sym q.2) ∙ o.0) (ap (last_of s e) (sym q.2) ∙ o.1 ∙ sym p.3 ∙ sym q.3)))

      back : list_any (λ v. wrote s v.0 f && found_as s v e) f.lasts ≡ true → overtakes s f e ≡ true
      back h =
          let v = in_any (λ v. wrote s v.0 f && found_as s v e) f.lasts h in
          let u = and_parts (wrote s (v.0).0 f) (found_as s v.0 e) v.2 in
          let w = found_at v.0 e u.1 in
          let q = item_at s l es c e j (v.0).0 w.0 in
          at_overtakes s l f e q.0 q.1 (ap (last_of s f) (sym q.2) ∙ (own_found es c f i v.0 v.1).1 ∙ sym w.1 ∙ sym q.3) (ap (λ k. wrote s k f) (sym q.2) ∙ u.0)
