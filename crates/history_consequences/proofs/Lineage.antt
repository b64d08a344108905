-- An entry is of the line of another where the other is met walking back from it, as long as members are met.
use Rattle.std.proofs.Common.{◌≡◌, ◌≢◌, ℕ, Bool, true, false, cond, ◌&&◌, ◌||◌, ◌==◌, not, List, [], ◌∷◌, Option, Some, None, ◌⊎◌, inl, inr, refl, sym, ap, ap₂, ◌∙◌, ne_eqb, eq-eqb, eqb-true, subst}
use Rattle.std.specs.List.{AllByRecursion}
use Rattle.std.proofs.lemmas.Bool.{false≢true, both_ways, and_from, false_from_ne_true}
use Rattle.history.specs.Subject.{Subject, Laws}
use Rattle.history.specs.Journal.{Entry, name_of, is_in, caused, Distinct}
use Rattle.history.specs.Chains.{wrote, last_writer, last_of, is_name, Traced, Chained}
use Rattle.history_consequences.specs.Refusals.{lacking, is_of, lineage}
use Rattle.history_consequences.proofs.Members.{In, all_in}
use Rattle.history_consequences.proofs.Writers.{item_of, last_is, touched_of}
use Rattle.history_consequences.proofs.Closing.{one_named}
use Rattle.history_consequences.proofs.Crossing.{name_same, last_not_own, last_wrote}
use Rattle.history_consequences.proofs.Missing.{head_named, lacking_unnamed}
use Rattle.history_consequences.proofs.Outsiders.{of_some, starts, parts_of, kept}

module _ (s : Subject) (l : Laws s) (c : Entry s → Bool) (k : s.Key) (n : ℕ) where
  -- a name of the line is the first, or that of one of these
  unnamed : (es : List (Entry s)) (m : ℕ) → n ≢ m → AllByRecursion (λ a. name_of s a ≢ m) es → is_in (lineage s c k n es) m ≡ false
  unnamed [] m ne h = ap (λ b. b || false) (ne_eqb n m ne)
  unnamed (x ∷ es) m ne (h, hs) = false_from_ne_true _ (λ q. told (unnamed es m ne hs) (parts_of s l c k n x es m q))
    where
      told : is_in (lineage s c k n es) m ≡ false → ((name_of s x ≡ m) × (wrote s k x ≡ true) × (is_of (lineage s c k n es) (last_of s x k) ≡ true)) ⊎ (is_in (lineage s c k n es) m ≡ true) → ⊥
      told ih (inl u) = h u.0
      told ih (inr u) = both_ways _ ih u

  -- behind the entry of the first name the line has no other
  alone : (es : List (Entry s)) → Chained s es → AllByRecursion (λ a. name_of s a ≢ n) es → (m : ℕ) → is_in (lineage s c k n es) m ≡ true → n ≡ m
  alone [] g h m q = first (n == m) refl q
    where
      first : (b : Bool) → (n == m) ≡ b → (b || false) ≡ true → n ≡ m
      first true e f = eqb-true n m e
      first false e f = absurd (false≢true f)
  alone (x ∷ es) (g, gs) (h, hs) m q = told (λ p. alone es gs hs p) (parts_of s l c k n x es m q)
    where
      told : ((p : ℕ) → is_in (lineage s c k n es) p ≡ true → n ≡ p) → ((name_of s x ≡ m) × (wrote s k x ≡ true) × (is_of (lineage s c k n es) (last_of s x k) ≡ true)) ⊎ (is_in (lineage s c k n es) m ≡ true) → n ≡ m
      told ih (inl u) =
          let o = of_some (lineage s c k n es) (last_of s x k) u.2 in
          absurd (both_ways _ (last_not_own s l k n x es g hs (touched_of s l k x u.1)) (ap (λ q. is_name q n) o.1 ∙ eq-eqb o.0 n (sym (ih o.0 o.2))))
      told ih (inr u) = ih m u

  -- the same with the entry itself in front
  alone_front : (e : Entry s) (es : List (Entry s)) → Distinct s (e ∷ es) → Chained s (e ∷ es) → name_of s e ≡ n → (m : ℕ) → is_in (lineage s c k n (e ∷ es)) m ≡ true → n ≡ m
  alone_front e es (d, ds) (g, gs) is m q = told (parts_of s l c k n e es m q)
    where
      apart : AllByRecursion (λ a. name_of s a ≢ n) es
      apart = subst (λ p. AllByRecursion (λ a. name_of s a ≢ p) es) is d

      told : ((name_of s e ≡ m) × (wrote s k e ≡ true) × (is_of (lineage s c k n es) (last_of s e k) ≡ true)) ⊎ (is_in (lineage s c k n es) m ≡ true) → n ≡ m
      told (inl u) = sym is ∙ u.0
      told (inr u) = alone es gs apart m u

  -- a line with one more in front, asked for another
  behind : (x : Entry s) (es : List (Entry s)) (o : Option ℕ) → is_name o (name_of s x) ≡ false → is_of (lineage s c k n (x ∷ es)) o ≡ is_of (lineage s c k n es) o
  behind x es None apart = refl
  behind x es (Some m) apart = by (is_in (lineage s c k n es) m) refl
    where
      by : (b : Bool) → is_in (lineage s c k n es) m ≡ b → is_in (lineage s c k n (x ∷ es)) m ≡ is_in (lineage s c k n es) m
      by true e = kept s l c k n x es m e ∙ sym e
      by false e = false_from_ne_true _ (λ q. told (parts_of s l c k n x es m q)) ∙ sym e
        where
          told : ((name_of s x ≡ m) × (wrote s k x ≡ true) × (is_of (lineage s c k n es) (last_of s x k) ≡ true)) ⊎ (is_in (lineage s c k n es) m ≡ true) → ⊥
          told (inl u) = both_ways _ apart (eq-eqb m (name_of s x) (sym u.0))
          told (inr u) = both_ways _ e u

-- WALKED BACK
module _ (s : Subject) (l : Laws s) (c : Entry s → Bool) (k : s.Key) (e : Entry s) (ce : c e ≡ true) where
  abbrev line : List (Entry s) → List ℕ
  line es = lineage s c k (name_of s e) es

  abbrev back : Option ℕ → List (Entry s) → List ℕ
  back o es = lacking s (λ a. not (c a)) k o es

  -- whom the last writer of an entry that wrote the cell names wrote it too
  last_writes : (x : Entry s) (es : List (Entry s)) → Distinct s es → Traced s x es → wrote s k x ≡ true → (a : Entry s) → In a es → is_name (last_of s x k) (name_of s a) ≡ true → wrote s k a ≡ true
  last_writes x es d g wx a i is =
      let touched = touched_of s l k x wx in
      let p = item_of s l x.foot x.lasts g.cells k touched in
      let same : (p.0).1 ≡ last_of s x k = all_in _ x.lasts g.lasts p.0 p.1 ∙ ap (λ q. last_writer s q (caused s x) es) (sym p.2) ∙ sym (last_is s l (λ q. last_writer s q (caused s x) es) x g.cells g.lasts k touched) in
      ap (λ q. wrote s q a) p.2 ∙ last_wrote s l x es d g p.0 p.1 a i (ap (λ q. is_name q (name_of s a)) same ∙ is)

  walked : (es : List (Entry s)) → Distinct s es → Chained s es → In e es → (o : Option ℕ) → ((a : Entry s) → In a es → is_name o (name_of s a) ≡ true → wrote s k a ≡ true)
      → is_of (line es) o ≡ is_in (back o es) (name_of s e)
  walked [] d g i o w = absurd i
  walked (x ∷ es) (d, ds) (g, gs) (inl p) o w = by (is_name o (name_of s x)) refl
    where
      here : (q : Option ℕ) → is_name q (name_of s x) ≡ false → is_of (line (x ∷ es)) q ≡ false
      here None f = refl
      here (Some m) f = false_from_ne_true _ (λ u. both_ways _ f (eq-eqb m (name_of s x) (sym (alone_front s l c k (name_of s e) x es (d, ds) (g, gs) (ap (name_of s) p) m u) ∙ sym (ap (name_of s) p))))

      by : (b : Bool) → is_name o (name_of s x) ≡ b → is_of (line (x ∷ es)) o ≡ is_in (cond b (cond (not (c x)) [] (name_of s x ∷ back (last_of s x k) es)) (back o es)) (name_of s e)
      by true f = ap (is_of (line (x ∷ es))) (name_same o (name_of s x) f) ∙ ap (is_in (line (x ∷ es))) (ap (name_of s) p) ∙ starts s l c k (name_of s e) (x ∷ es)
          ∙ sym (ap (λ b. is_in (cond (not b) [] (name_of s x ∷ back (last_of s x k) es)) (name_of s e)) (ap c p ∙ ce) ∙ head_named (name_of s x) (back (last_of s x k) es) (name_of s e) (ap (name_of s) p))
      by false f = here o f ∙ sym (lacking_unnamed s (λ a. not (c a)) k (name_of s e) es o (subst (λ m. AllByRecursion (λ a. name_of s a ≢ m) es) (ap (name_of s) p) d))
  walked (x ∷ es) (d, ds) (g, gs) (inr i) o w = by (is_name o (name_of s x)) refl (λ q v. walked es ds gs i q v)
    where
      apart : name_of s e ≢ name_of s x
      apart = all_in _ es d e i

      by : (b : Bool) → is_name o (name_of s x) ≡ b → ((q : Option ℕ) → ((a : Entry s) → In a es → is_name q (name_of s a) ≡ true → wrote s k a ≡ true) → is_of (line es) q ≡ is_in (back q es) (name_of s e))
          → is_of (line (x ∷ es)) o ≡ is_in (cond b (cond (not (c x)) [] (name_of s x ∷ back (last_of s x k) es)) (back o es)) (name_of s e)
      by false f ih = behind s l c k (name_of s e) x es o f ∙ ih o (λ a j. w a (inr j))
      by true f ih = ap (is_of (line (x ∷ es))) (name_same o (name_of s x) f) ∙ at (c x) (is_of (line es) (last_of s x k)) refl refl
        where
          wx : wrote s k x ≡ true
          wx = w x (inl refl) f

          older : is_in (line es) (name_of s x) ≡ false
          older = unnamed s l c k (name_of s e) es (name_of s x) apart d

          rest : is_of (line es) (last_of s x k) ≡ is_in (back (last_of s x k) es) (name_of s e)
          rest = ih (last_of s x k) (last_writes x es ds g wx)

          at : (u v : Bool) → c x ≡ u → is_of (line es) (last_of s x k) ≡ v
              → is_in (cond (c x && (wrote s k x && is_of (line es) (last_of s x k))) (name_of s x ∷ line es) (line es)) (name_of s x) ≡ is_in (cond (not (c x)) [] (name_of s x ∷ back (last_of s x k) es)) (name_of s e)
          at true true cx of = ap (λ b. is_in (cond b (name_of s x ∷ line es) (line es)) (name_of s x)) (and_from _ _ cx (and_from _ _ wx of)) ∙ head_named (name_of s x) (line es) (name_of s x) refl
              ∙ sym (ap (λ b. is_in (cond (not b) [] (name_of s x ∷ back (last_of s x k) es)) (name_of s e)) cx ∙ ap (λ b. b || is_in (back (last_of s x k) es) (name_of s e)) (ne_eqb (name_of s x) (name_of s e) (λ q. apart (sym q))) ∙ sym rest ∙ of)
          at true false cx of = ap₂ (λ a b. is_in (cond (a && (wrote s k x && b)) (name_of s x ∷ line es) (line es)) (name_of s x)) cx of ∙ none (wrote s k x)
              ∙ sym (ap (λ b. is_in (cond (not b) [] (name_of s x ∷ back (last_of s x k) es)) (name_of s e)) cx ∙ ap (λ b. b || is_in (back (last_of s x k) es) (name_of s e)) (ne_eqb (name_of s x) (name_of s e) (λ q. apart (sym q))) ∙ sym rest ∙ of)
            where
              none : (a : Bool) → is_in (cond (true && (a && false)) (name_of s x ∷ line es) (line es)) (name_of s x) ≡ false
              none true = older
              none false = older
          at false v cx of = ap (λ a. is_in (cond (a && (wrote s k x && is_of (line es) (last_of s x k))) (name_of s x ∷ line es) (line es)) (name_of s x)) cx ∙ older
              ∙ sym (ap (λ b. is_in (cond (not b) [] (name_of s x ∷ back (last_of s x k) es)) (name_of s e)) cx)

  pub walked_back : (es : List (Entry s)) → Distinct s es → Chained s es → In e es → (h : Entry s) → In h es → wrote s k h ≡ true → is_in (line es) (name_of s h) ≡ is_in (back (Some (name_of s h)) es) (name_of s e)
  walked_back es d g i h j wh = walked es d g i (Some (name_of s h)) (λ a u is. ap (wrote s k) (one_named s es d a h u j (sym (eqb-true (name_of s h) (name_of s a) is))) ∙ wh)
