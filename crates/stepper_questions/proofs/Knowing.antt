-- What is known of chains from one line on, line after line.
use Rattle.std.proofs.Common.{◌≡◌, ◌⊎◌, inl, inr, ℕ, suc, ◌+◌, ◌<◌, ◌≤◌, ◌==◌, Bool, true, false, cond, eqb-true, eq-eqb, ne_eqb, List, [], ◌∷◌, Option, Some, None, is_some, length, slice_get, refl, sym, ap, ◌∙◌, subst, arith}
use Rattle.std.proofs.lemmas.Bool.{false≢true}
use Rattle.ids.specs.declared.cells.CellKey.{CellKey}
use Rattle.ids.specs.declared.names.EventName.{EventName}
use Rattle.journal.specs.Lines.{Line}
use Rattle.causality.specs.Selections.{name_of}
use Rattle.causality.proofs.Telling.{Tells}
use Rattle.stepper_questions.specs.Chains.{Step, Chain, chain_none, chain_more, NoLater, Nearest}
use Rattle.stepper_questions.specs.ChainView.{Known, known_writer, best_of, start_at, next_at, reached_by, Back, Found, Knows}
use Rattle.stepper_questions.specs.declared.chain.Near.{Near}
use Rattle.stepper_questions.proofs.Choosing.{AsNear, best_over, best_some, best_writer}
use Rattle.stepper_questions.proofs.Places.{one_item, one_name, less_or_not}
use Rattle.stepper_questions.proofs.Stepping.{step_rises, step_kept, step_keeps, chain_rises, chain_parts}

none_later : (qs : List ℕ) → NoLater qs []
none_later [] = tt
none_later (q ∷ qs) = tt

no_near : (x : Near) → ◌≡◌ {A = Option Near} None (Some x) → ⊥
no_near x h = cc

one_near : (x y : Near) → ◌≡◌ {A = Option Near} (Some x) (Some y) → x ≡ y
one_near x y h = cc

some_near : (o : Option Near) → is_some o ≡ true → (y : Near) × (o ≡ Some y)
some_near None h = absurd (false≢true h)
some_near (Some y) h = (y, refl)

-- names of one number are one
one_event : (e f : EventName) → (e.0 == f.0) ≡ true → e ≡ f
one_event e f same = λ j. record { 0 = eqb-true e.0 f.0 same j }

-- the known writer is known by a name
writer_name : (known : Known) (o : Option ℕ) (b : Near) → known_writer known o ≡ Some b → (n : ℕ) × (o ≡ Some n) × (known (record { 0 = n }) ≡ Some b)
writer_name known None b h = absurd (no_near b h)
writer_name known (Some n) b h = (n, refl, h)

-- of a chain to a line: the line before it, and how that is known
record Rival (lines : List Line) (s : ℕ) (known : Known) (l : Line) (qs : List ℕ) : Type 0 where
  p : ℕ
  ps : List ℕ
  is : qs ≡ p ∷ ps
  y : Near
  i : ℕ
  c : CellKey × Option ℕ
  there : slice_get l.entry.lasts i ≡ Some c
  writes : known_writer known c.1 ≡ Some y
  place : y.place ≡ p
  chain : Chain lines s (p ∷ ps)
  long : y.steps ≤ length ps

module _ (lines : List Line) (h : Tells lines) (s : ℕ) where
  -- only the line at the start is reached before the next one
  pub knows_begin : (a : Line) → slice_get lines s ≡ Some a → (known : Known) → ((e : EventName) → known e ≡ cond (e.0 == (name_of a).0) (Some (start_at (name_of a) s)) None) → Knows lines s (s + 1) known
  knows_begin a at known only = record {
    right = λ e x is. right_by e x (e.0 == (name_of a).0) refl (sym (only e) ∙ is);
    all = λ q qs l chain below there.
        let le : s ≤ q = chain_rises lines h chain in
        let same : q ≡ s = omega arith in
        let one : l ≡ a = one_item lines s l a (subst (λ r. slice_get lines r ≡ Some l) same there) at in
        ap (λ (m : Line). is_some (known (name_of m))) one ∙ ap is_some (only (name_of a))
        ∙ ap (λ t. is_some (cond t (Some (start_at (name_of a) s)) None)) (eq-eqb (name_of a).0 (name_of a).0 refl);
  }
    where
      begun : (e : EventName) → e ≡ name_of a → Found lines s (s + 1) known e (start_at (name_of a) s)
      begun e is = record {
        line = a;
        at = at;
        named = sym is;
        event = sym is;
        below = omega arith;
        back = [];
        nearest = record { chain = chain_none; least = λ qs chain. let le : 0 ≤ length qs = omega arith in le; nearest = λ qs chain same. none_later qs };
        count = refl;
        behind = refl;
      }

      right_by : (e : EventName) (x : Near) (t : Bool) → (e.0 == (name_of a).0) ≡ t → cond (e.0 == (name_of a).0) (Some (start_at (name_of a) s)) None ≡ Some x → Found lines s (s + 1) known e x
      right_by e x true same is =
          let one : start_at (name_of a) s ≡ x = one_near (start_at (name_of a) s) x (ap (λ t. cond t (Some (start_at (name_of a) s)) None) (sym same) ∙ is) in
          subst (λ (y : Near). Found lines s (s + 1) known e y) one (begun e (one_event e (name_of a) same))
      right_by e x false same is = absurd (no_near x (ap (λ t. cond t (Some (start_at (name_of a) s)) None) (sym same) ∙ is))

  module _ (bound : ℕ) (behind : s < bound) (known : Known) (k : Knows lines s bound known) (l : Line) (at : slice_get lines bound ≡ Some l) where
    rival : (qs : List ℕ) → Chain lines s (bound ∷ qs) → Rival lines s known l qs
    rival qs chain = elim (chain_parts lines h chain) [
      | inl e ↦ let same : bound ≡ s = e.0 in absurd (omega arith)
      | inr d ↦
          let p = d.0 in
          let ps = d.1 in
          let step : Step lines p d.2 bound = d.5 in
          let before : Chain lines s (p ∷ ps) = d.4 in
          let kept = step_keeps lines h p bound d.2 step in
          let one : step.to ≡ l = one_item lines bound step.to l step.ends at in
          let known_from = some_near (known (name_of step.from)) (k.all p ps step.from before (step_rises lines h p bound d.2 step) step.starts) in
          let y = known_from.0 in
          let f = k.right (name_of step.from) y known_from.1 in
          let same : y.place ≡ p = one_name lines h y.place p f.line step.from f.at step.starts (ap (λ (e : EventName). e.0) f.named) in
          let least : length f.back ≤ length ps = f.nearest.least ps (subst (λ r. Chain lines s (r ∷ ps)) (sym same) before) in
          let count : length f.back ≡ y.steps = f.count in
          record {
            p = p;
            ps = ps;
            is = d.3;
            y = y;
            i = kept.0;
            c = kept.1;
            there = subst (λ (m : Line). slice_get m.entry.lasts kept.0 ≡ Some kept.1) one kept.2;
            writes = ap (known_writer known) kept.3 ∙ known_from.1;
            place = same;
            chain = before;
            long = omega arith;
          }
    ]

    -- where no writer is known the line is not reached
    pub knows_same : best_of known None l.entry.lasts ≡ None → Knows lines s (bound + 1) known
    knows_same none = record {
      right = λ e x is. let f = k.right e x is in let lt : x.place < bound = f.below in
          record { line = f.line; at = f.at; named = f.named; event = f.event; below = omega arith; back = f.back; nearest = f.nearest; count = f.count; behind = f.behind };
      all = λ q qs m chain below there. by q qs m chain there (less_or_not q bound) below;
    }
      where
        by : (q : ℕ) (qs : List ℕ) (m : Line) → Chain lines s (q ∷ qs) → slice_get lines q ≡ Some m → (q < bound) ⊎ (bound ≤ q) → q < bound + 1 → is_some (known (name_of m)) ≡ true
        by q qs m chain there (inl lt) below = k.all q qs m chain lt there
        by q qs m chain there (inr le) below =
            let same : q ≡ bound = omega arith in
            let r = rival qs (subst (λ z. Chain lines s (z ∷ qs)) same chain) in
            absurd (false≢true (ap is_some (sym none) ∙ best_some known None l.entry.lasts r.i r.c r.there (ap is_some r.writes)))

    module _ (b : Near) (best : best_of known None l.entry.lasts ≡ Some b) (now : Known) (put : (e : EventName) → now e ≡ cond (e.0 == (name_of l).0) (Some (next_at (name_of l) bound b)) (known e)) where
      -- what was known is still known
      kept : (e : EventName) (y : Near) → known e ≡ Some y → now e ≡ Some y
      kept e y is =
          let f = k.right e y is in
          let lt : y.place < bound = f.below in
          let apart : (e.0 ≡ (name_of l).0) → ⊥ = λ same. (let one : y.place ≡ bound = one_name lines h y.place bound f.line l f.at at (ap (λ (n : EventName). n.0) f.named ∙ same) in absurd (omega arith)) in
          put e ∙ ap (λ t. cond t (Some (next_at (name_of l) bound b)) (known e)) (ne_eqb e.0 (name_of l).0 apart) ∙ is

      back_kept : (x : Near) (ps : List ℕ) → Back known x ps → Back now x ps
      back_kept x [] d = d
      back_kept x (p ∷ ps) d = (d.0, d.1, kept d.0.event d.0 d.2, d.3, back_kept d.0 ps d.4)

      found_kept : (e : EventName) (x : Near) → Found lines s bound known e x → Found lines s (bound + 1) now e x
      found_kept e x f =
          let lt : x.place < bound = f.below in
          record { line = f.line; at = f.at; named = f.named; event = f.event; below = omega arith; back = f.back; nearest = f.nearest; count = f.count; behind = back_kept x f.back f.behind }

      found_next : Found lines s (bound + 1) now (name_of l) (next_at (name_of l) bound b)
      found_next =
          let w = best_writer known l.entry.lasts b best in
          let i = w.0 in
          let c = w.1 in
          let n = writer_name known c.1 b w.3 in
          let f = k.right (record { 0 = n.0 }) b n.2 in
          let count : length f.back ≡ b.steps = f.count in
          let from : c.1 ≡ Some ((name_of f.line).0) = n.1 ∙ ap (λ (e : EventName). let o : Option ℕ = Some e.0 in o) (sym f.named) in
          let chain : Chain lines s (bound ∷ b.place ∷ f.back) = chain_more c.0 f.nearest.chain (step_kept lines h b.place bound f.line l i c f.at at w.2 from) in
          record {
            line = l;
            at = at;
            named = refl;
            event = refl;
            below = omega arith;
            back = b.place ∷ f.back;
            nearest = record {
              chain = chain;
              least = λ qs other. least f.back count (rival qs other);
              nearest = λ qs other same. nearest f.back count f.nearest (rival qs other) same;
            };
            count = omega arith;
            behind = (b, refl, subst (λ (e : EventName). now e ≡ Some b) (sym f.event) (kept (record { 0 = n.0 }) b n.2), refl, back_kept b f.back f.behind);
          }
        where
          as_near : {qs : List ℕ} (r : Rival lines s known l qs) → AsNear r.y b
          as_near r = best_over known None l.entry.lasts b best r.i r.c r.y r.there r.writes

          steps_at_least : {qs : List ℕ} (r : Rival lines s known l qs) → b.steps ≤ length r.ps
          steps_at_least r =
              let long : r.y.steps ≤ length r.ps = r.long in
              elim (as_near r) [ inl lt ↦ omega arith | inr same ↦ let e = same.0 in omega arith ]

          least : {qs : List ℕ} (back : List ℕ) → length back ≡ b.steps → Rival lines s known l qs → length (b.place ∷ back) ≤ length qs
          least back count r =
              let le : b.steps ≤ length r.ps = steps_at_least r in
              subst (λ us. length (b.place ∷ back) ≤ length us) (sym r.is) (let all : suc (length back) ≤ suc (length r.ps) = omega arith in all)

          nearest : {qs : List ℕ} (back : List ℕ) → length back ≡ b.steps → Nearest lines s b.place back → Rival lines s known l qs → length qs ≡ length (b.place ∷ back) → NoLater qs (b.place ∷ back)
          nearest back count near r same =
              let long : r.y.steps ≤ length r.ps = r.long in
              let place : r.y.place ≡ r.p = r.place in
              let many : suc (length r.ps) ≡ suc (length back) = sym (ap length r.is) ∙ same in
              subst (λ us. NoLater us (b.place ∷ back)) (sym r.is)
              (elim (as_near r) [
                | inl lt ↦ absurd (omega arith)
                | inr same_steps ↦ elim (less_or_not r.p b.place) [
                  | inl before ↦ inl before
                  | inr behind ↦
                      let e : r.y.place ≤ b.place = same_steps.1 in
                      let one : r.p ≡ b.place = omega arith in
                      let few : length r.ps ≡ length back = omega arith in
                      inr (one, near.nearest r.ps (subst (λ z. Chain lines s (z ∷ r.ps)) one r.chain) few)
                ]
              ])

      -- the line is reached by its nearest writer
      pub knows_more : Knows lines s (bound + 1) now
      knows_more = record {
        right = λ e x is. right_by e x (e.0 == (name_of l).0) refl (sym (put e) ∙ is);
        all = λ q qs m chain below there. all_by q qs m chain there (less_or_not q bound) below;
      }
        where
          right_by : (e : EventName) (x : Near) (t : Bool) → (e.0 == (name_of l).0) ≡ t → cond (e.0 == (name_of l).0) (Some (next_at (name_of l) bound b)) (known e) ≡ Some x → Found lines s (bound + 1) now e x
          right_by e x true same is =
              let one : next_at (name_of l) bound b ≡ x = one_near (next_at (name_of l) bound b) x (ap (λ t. cond t (Some (next_at (name_of l) bound b)) (known e)) (sym same) ∙ is) in
              subst (λ (f : EventName). Found lines s (bound + 1) now f x) (sym (one_event e (name_of l) same))
              (subst (λ (y : Near). Found lines s (bound + 1) now (name_of l) y) one found_next)
          right_by e x false same is = found_kept e x (k.right e x (ap (λ t. cond t (Some (next_at (name_of l) bound b)) (known e)) (sym same) ∙ is))

          some_now : (m : Line) (t : Bool) → ((name_of m).0 == (name_of l).0) ≡ t → (t ≡ false → is_some (known (name_of m)) ≡ true) → is_some (now (name_of m)) ≡ true
          some_now m true same was = ap is_some (put (name_of m)) ∙ ap (λ t. is_some (cond t (Some (next_at (name_of l) bound b)) (known (name_of m)))) same
          some_now m false same was = ap is_some (put (name_of m)) ∙ ap (λ t. is_some (cond t (Some (next_at (name_of l) bound b)) (known (name_of m)))) same ∙ was refl

          all_by : (q : ℕ) (qs : List ℕ) (m : Line) → Chain lines s (q ∷ qs) → slice_get lines q ≡ Some m → (q < bound) ⊎ (bound ≤ q) → q < bound + 1 → is_some (now (name_of m)) ≡ true
          all_by q qs m chain there (inl lt) below = some_now m ((name_of m).0 == (name_of l).0) refl (λ _. k.all q qs m chain lt there)
          all_by q qs m chain there (inr le) below =
              let same : q ≡ bound = omega arith in
              let one : m ≡ l = one_item lines bound m l (subst (λ r. slice_get lines r ≡ Some m) same there) at in
              some_now m ((name_of m).0 == (name_of l).0) refl (λ apart. absurd (false≢true (sym apart ∙ eq-eqb (name_of m).0 (name_of l).0 (ap (λ (z : Line). (name_of z).0) one))))

-- either way
pub knows_next : (lines : List Line) (h : Tells lines) (s bound : ℕ) (behind : s < bound) (known : Known) (k : Knows lines s bound known) (l : Line) → slice_get lines bound ≡ Some l
    → (now : Known) → ((e : EventName) → now e ≡ reached_by (name_of l) bound (best_of known None l.entry.lasts) known e) → Knows lines s (bound + 1) now
knows_next lines h s bound behind known k l at now put = by (best_of known None l.entry.lasts) refl put
  where
    by : (o : Option Near) → best_of known None l.entry.lasts ≡ o → ((e : EventName) → now e ≡ reached_by (name_of l) bound o known e) → Knows lines s (bound + 1) now
    by None none same = subst (Knows lines s (bound + 1)) (sym (λ j e. same e j)) (knows_same lines h s bound behind known k l at none)
    by (Some b) some same = knows_more lines h s bound behind known k l at b some now same

-- a chain has no more steps than its last place tells
chain_long : {lines : List Line} {s : ℕ} → Tells lines → {q : ℕ} {qs : List ℕ} → Chain lines s (q ∷ qs) → length qs ≤ q
chain_long h chain_none = omega arith
chain_long {lines = lines} h (chain_more {p = p} {q = q} {ps = ps} k c step) =
    let few : length ps ≤ p = chain_long h c in
    let lt : p < q = step_rises lines h p q k step in
    let all : suc (length ps) ≤ q = omega arith in all

-- what is known is reached in fewer steps than the place is
pub known_long : (lines : List Line) (h : Tells lines) (s bound : ℕ) (known : Known) → Knows lines s bound known → (e : EventName) (x : Near) → known e ≡ Some x → x.steps < bound
known_long lines h s bound known k e x is =
    let f = k.right e x is in
    let few : length f.back ≤ x.place = chain_long h f.nearest.chain in
    let count : length f.back ≡ x.steps = f.count in
    let below : x.place < bound = f.below in
    omega arith

-- at the end: the nearest chain to a line, or that there is none
pub chain_found : (lines : List Line) (s l bound : ℕ) (known : Known) → Knows lines s bound known → (a : Line) → slice_get lines l ≡ Some a → Tells lines → (x : Near) → known (name_of a) ≡ Some x
    → (ps : List ℕ) × Back known x ps × (length ps ≡ x.steps) × Nearest lines s l ps × (x.place ≡ l)
chain_found lines s l bound known k a at h x is =
    let f = k.right (name_of a) x is in
    let same : x.place ≡ l = one_name lines h x.place l f.line a f.at at (ap (λ (e : EventName). e.0) f.named) in
    (f.back, f.behind, f.count, subst (λ p. Nearest lines s p f.back) same f.nearest, same)

pub no_chain : (lines : List Line) (s l bound : ℕ) (known : Known) → Knows lines s bound known → l < bound → (a : Line) → slice_get lines l ≡ Some a → known (name_of a) ≡ None → (ps : List ℕ) → Chain lines s (l ∷ ps) → ⊥
no_chain lines s l bound known k below a at none ps chain = false≢true (ap is_some (sym none) ∙ k.all l ps a chain below at)

-- the best writer is known by a name
pub best_known : (known : Known) (cs : List (CellKey × Option ℕ)) (b : Near) → best_of known None cs ≡ Some b → (e : EventName) × (known e ≡ Some b)
best_known known cs b h =
    let w = best_writer known cs b h in
    let n = writer_name known w.1.1 b w.3 in
    (record { 0 = n.0 }, n.2)
