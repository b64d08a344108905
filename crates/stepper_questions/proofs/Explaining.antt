-- What is refused is explained.
use Rattle.std.proofs.Common.{◌≡◌, ℕ, zero, suc, ◌+◌, ◌<◌, Bool, true, false, cond, ◌&&◌, List, [], ◌∷◌, ◌++◌, Option, Some, None, map, is_some, slice_get, refl, sym, ap, ◌∙◌, subst, arith, append_assoc, length}
use Rattle.std.specs.Prelude.{not}
use Rattle.std.specs.List.{list_any}
use Rattle.std.specs.Option.{option_map, option_or}
use Rattle.std.proofs.lemmas.Bool.{and_parts, or_left, or_right}
use Rattle.std.proofs.lemmas.Option.{slice_get-map, slice_get_within}
use Rattle.history.specs.Journal.{caused}
use Rattle.history.specs.Subject.{found, meets, touches}
use Rattle.history.specs.Chains.{wrote}
use Rattle.ids.specs.CellKeys.{same_key}
use Rattle.ids.specs.declared.cells.CellKey.{CellKey}
use Rattle.ids.specs.declared.names.EventName.{EventName}
use Rattle.ids.proofs.CellKeys.{same_self}
use Rattle.journal.specs.Items.{Item}
use Rattle.journal.specs.Lines.{plain, Line, lines_of}
use Rattle.causality.specs.Journals.{IsJournal}
use Rattle.causality.specs.Selections.{name_of, is_live, chosen, first_some, gap, consequence, first_gap, is_member, missing_cause, first_missing_cause, crossing, first_crossing_behind, first_crossing}
use Rattle.causality.specs.declared.selection.Gap.{Gap}
use Rattle.stepper_questions.specs.Laws.{Comes, crosses, Crosses, RefusalsAreExplained}
use Rattle.stepper_questions.proofs.Consequences.{cause_leads, item_of_line}
use Rattle.causality.proofs.Collecting.{before_there, behind_there}
use Rattle.stepper_questions.proofs.Places.{place_any, any_at}

-- the first answer along a list is that of one of it
first_place : {A B : Type 0} (f : A → Option B) (xs : List A) (b : B) → first_some f xs ≡ Some b → (p : ℕ) × (x : A) × (slice_get xs p ≡ Some x) × (f x ≡ Some b)
first_place f [] b h = cc
first_place {A = A} {B = B} f (x ∷ xs) b h = by (f x) refl h (first_place f xs b)
  where
    by : (o : Option B) → f x ≡ o → option_or o (first_some f xs) ≡ Some b → (first_some f xs ≡ Some b → (p : ℕ) × (y : A) × (slice_get xs p ≡ Some y) × (f y ≡ Some b))
        → (p : ℕ) × (y : A) × (slice_get (x ∷ xs) p ≡ Some y) × (f y ≡ Some b)
    by None is g rest = let r = rest g in (suc r.0, r.1, r.2, r.3)
    by (Some c) is g rest = (0, x, refl, is ∙ g)

-- a name that is told of a line that passes a test
told_name : (b : Bool) (e f : EventName) → cond b (Some e) None ≡ Some f → (b ≡ true) × (e ≡ f)
told_name true e f h = (refl, (let one : e ≡ f = cc in one))
told_name false e f h = cc

-- a gap that is told
told_gap : (b : Bool) (e : EventName) (o : Option EventName) (g : Gap) → cond b (option_map (gap e) o) None ≡ Some g → (b ≡ true) × (o ≡ Some g.other) × (e ≡ g.event)
told_gap true e None g h = cc
told_gap true e (Some f) g h = let one : gap e f ≡ g = cc in (refl, ap (λ (x : Gap). let n : Option EventName = Some x.other in n) one, ap (λ (x : Gap). x.event) one)
told_gap false e o g h = cc

-- what is written is found, and touched
written_found : (ws : List (CellKey × Unit {0})) (i : ℕ) (w : CellKey × Unit {0}) → slice_get ws i ≡ Some w → is_some (found plain ws w.0) ≡ true
written_found [] i w at = cc
written_found (v ∷ ws) zero w at = let one : v ≡ w = cc in ap (λ t. is_some (cond t (Some v.1) (found plain ws w.0))) (ap (λ (u : CellKey × Unit {0}). same_key u.0 w.0) one ∙ same_self w.0)
written_found (v ∷ ws) (suc i) w at = by (same_key v.0 w.0) (written_found ws i w at)
  where
    by : (t : Bool) → is_some (found plain ws w.0) ≡ true → is_some (cond t (Some v.1) (found plain ws w.0)) ≡ true
    by true h = refl
    by false h = h

any_behind : {A : Type 0} (test : A → Bool) (xs ys : List A) → list_any test ys ≡ true → list_any test (xs ++ ys) ≡ true
any_behind test [] ys h = h
any_behind test (x ∷ xs) ys h = or_right (test x) _ (any_behind test xs ys h)

-- what the first entry wrote and the second touched is a cell at which both cross
met : (a b : Line) → meets plain a.entry.foot b.entry.foot ≡ true → (k : CellKey) × (touches plain a.entry.foot k ≡ true) × (touches plain b.entry.foot k ≡ true) × (wrote plain k a.entry ≡ true)
met a b h =
    let g = place_any (λ (p : CellKey × Unit {0}). touches plain b.entry.foot p.0) a.entry.foot.writes h in
    let w = g.1 in
    let keys : List CellKey = map (λ (p : CellKey × Unit {0}). p.0) a.entry.foot.writes in
    let at : slice_get keys g.0 ≡ Some w.0 = slice_get-map (λ (p : CellKey × Unit {0}). p.0) a.entry.foot.writes g.0 ∙ ap (option_map (λ (p : CellKey × Unit {0}). p.0)) g.2 in (
      w.0,
      any_behind (λ c. same_key w.0 c) a.entry.foot.reads keys (any_at (λ c. same_key w.0 c) keys g.0 w.0 at (same_self w.0)),
      g.3,
      written_found a.entry.foot.writes g.0 w g.2,
    )

all_true : (x y z : Bool) → x ≡ true → y ≡ true → z ≡ true → (x && y && z) ≡ true
all_true x y z p q r = λ i. p i && q i && r i

cross_first : (a b : Line) → meets plain a.entry.foot b.entry.foot ≡ true → (k : CellKey) × (crosses a.entry b.entry k ≡ true)
cross_first a b h = let m = met a b h in (m.0, all_true (touches plain a.entry.foot m.0) (touches plain b.entry.foot m.0) _ m.1 m.2 (or_left (wrote plain m.0 a.entry) (wrote plain m.0 b.entry) m.3))

cross_second : (a b : Line) → meets plain b.entry.foot a.entry.foot ≡ true → (k : CellKey) × (crosses a.entry b.entry k ≡ true)
cross_second a b h = let m = met b a h in (m.0, all_true (touches plain a.entry.foot m.0) (touches plain b.entry.foot m.0) _ m.2 m.1 (or_right (wrote plain m.0 a.entry) (wrote plain m.0 b.entry) m.3))

-- where a line crosses one before it
record Crossing (all : List Line) (g : Gap) : Type 0 where
  p : ℕ
  q : ℕ
  f : Line
  e : Line
  first : slice_get all p ≡ Some f
  second : slice_get all q ≡ Some e
  order : p < q
  other : name_of f ≡ g.other
  event : name_of e ≡ g.event
  met : meets plain f.entry.foot e.entry.foot ≡ true

crossing_place : (names : List EventName) (all before lines : List Line) (g : Gap) → all ≡ before ++ lines → first_crossing_behind names before lines ≡ Some g → Crossing all g
crossing_place names all before [] g is h = cc
crossing_place names all before (e ∷ lines) g is h = by (cond (is_member names e) (option_map (gap (name_of e)) (crossing names before e)) None) refl h (λ r. crossing_place names all (before ++ e ∷ []) lines g (is ∙ sym (append_assoc before (e ∷ []) lines)) r)
  where
    by : (o : Option Gap) → cond (is_member names e) (option_map (gap (name_of e)) (crossing names before e)) None ≡ o → option_or o (first_crossing_behind names (before ++ e ∷ []) lines) ≡ Some g
        → (first_crossing_behind names (before ++ e ∷ []) lines ≡ Some g → Crossing all g) → Crossing all g
    by None e_is r rest = rest r
    by (Some x) e_is r rest =
        let told = told_gap (is_member names e) (name_of e) (crossing names before e) g (e_is ∙ r) in
        let one = first_place (λ f. cond (is_member names f && (meets plain f.entry.foot e.entry.foot && not (caused plain e.entry f.entry))) (Some (name_of f)) None) before g.other told.1 in
        let f = one.1 in
        let test = told_name (is_member names f && (meets plain f.entry.foot e.entry.foot && not (caused plain e.entry f.entry))) (name_of f) g.other one.3 in
        let meet = and_parts (meets plain f.entry.foot e.entry.foot) (not (caused plain e.entry f.entry)) (and_parts (is_member names f) (meets plain f.entry.foot e.entry.foot && not (caused plain e.entry f.entry)) test.0).1 in
        let within : one.0 < length before = slice_get_within before one.0 f one.2 in
        record {
          p = one.0;
          q = length before + 0;
          f = f;
          e = e;
          first = ap (λ ls. slice_get ls one.0) is ∙ before_there before (e ∷ lines) one.0 f one.2;
          second = ap (λ ls. slice_get ls (length before + 0)) is ∙ behind_there before (e ∷ lines) 0;
          order = omega arith;
          other = test.1;
          event = told.2;
          met = meet.0;
        }

crossings : (names : List EventName) (lines : List Line) (g : Gap) → first_crossing names lines ≡ Some g → Crosses lines g.other g.event
crossings names lines g h =
    let c = crossing_place names lines [] lines g refl h in
    let k = cross_first c.f c.e c.met in
    record { p = c.p; q = c.q; a = c.f; b = c.e; first = c.first; second = c.second; order = c.order; from = c.other; to = c.event; k = k.0; cross = k.1 }

module _ (items : List Item) (journal : IsJournal items) where
  -- a cause leads to what it caused
  comes : (p q : ℕ) (a b : Line) → slice_get (lines_of items) p ≡ Some a → slice_get (lines_of items) q ≡ Some b → caused plain b.entry a.entry ≡ true → Comes (lines_of items) (name_of a) (name_of b)
  comes p q a b at there is =
      let i = item_of_line items p a at in
      let led = cause_leads items journal p i.0 i.1 q b there (subst (λ (l : Line). caused plain b.entry l.entry ≡ true) (sym i.2) is) in
      record { p = p; q = q; a = a; b = b; first = at; second = there; from = refl; to = refl; before = led.0; places = led.1; chain = led.2 }

  named : (e f x y : EventName) → e ≡ x → f ≡ y → Comes (lines_of items) e f → Comes (lines_of items) x y
  named e f x y p q c = subst (λ n. Comes (lines_of items) x n) q (subst (λ n. Comes (lines_of items) n f) p c)

  gaps : (names : List EventName) (g : Gap) → first_gap names (lines_of items) ≡ Some g → Comes (lines_of items) g.event g.other
  gaps names g h =
      let lines : List Line = lines_of items in
      let one = first_place (λ e. cond (chosen names e) (option_map (gap (name_of e)) (consequence names lines e)) None) lines g h in
      let e = one.1 in
      let told = told_gap (chosen names e) (name_of e) (consequence names lines e) g one.3 in
      let two = first_place (λ l. cond (is_live l && (not (chosen names l) && caused plain l.entry e.entry)) (Some (name_of l)) None) lines g.other told.1 in
      let l = two.1 in
      let test = told_name (is_live l && (not (chosen names l) && caused plain l.entry e.entry)) (name_of l) g.other two.3 in
      let parts = and_parts (not (chosen names l)) (caused plain l.entry e.entry) (and_parts (is_live l) (not (chosen names l) && caused plain l.entry e.entry) test.0).1 in
      named (name_of e) (name_of l) g.event g.other told.2 test.1 (comes one.0 two.0 e l one.2 two.2 parts.1)

  missing : (names : List EventName) (g : Gap) → first_missing_cause names (lines_of items) ≡ Some g → Comes (lines_of items) g.other g.event
  missing names g h =
      let lines : List Line = lines_of items in
      let one = first_place (λ e. cond (is_member names e) (option_map (gap (name_of e)) (missing_cause names lines e)) None) lines g h in
      let e = one.1 in
      let told = told_gap (is_member names e) (name_of e) (missing_cause names lines e) g one.3 in
      let two = first_place (λ f. cond (caused plain e.entry f.entry && not (is_member names f)) (Some (name_of f)) None) lines g.other told.1 in
      let f = two.1 in
      let test = told_name (caused plain e.entry f.entry && not (is_member names f)) (name_of f) g.other two.3 in
      let parts = and_parts (caused plain e.entry f.entry) (not (is_member names f)) test.0 in
      named (name_of f) (name_of e) g.other g.event test.1 told.2 (comes two.0 one.0 f e two.2 one.2 parts.0)

-- neighbours that meet cross
neighbours_cross : (lines : List Line) (p : ℕ) (a b : Line) → slice_get lines p ≡ Some a → slice_get lines (p + 1) ≡ Some b → (k : CellKey) × (crosses a.entry b.entry k ≡ true) → Crosses lines (name_of a) (name_of b)
neighbours_cross lines p a b at there c = record { p = p; q = p + 1; a = a; b = b; first = at; second = there; order = omega arith; from = refl; to = refl; k = c.0; cross = c.1 }

-- THE LAW
pub refusals_are_explained : RefusalsAreExplained
refusals_are_explained = record {
  gaps = gaps;
  missing = missing;
  crossings = λ items names g h. crossings names (lines_of items) g h;
  neighbours = λ lines p a b at there h. neighbours_cross lines p a b at there (cross_first a b h);
  turned = λ lines p a b at there h. neighbours_cross lines p a b at there (cross_second a b h);
}
