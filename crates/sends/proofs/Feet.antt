-- What was touched on the way from some cells to others, one thing after another.
use Rattle.std.proofs.Common.{◌≡◌, Bool, true, false, ◌||◌, cond, List, [], ◌∷◌, ◌++◌, map, refl, sym, ap, ◌∙◌, subst}
use Rattle.std.specs.List.{list_any}
use Rattle.std.proofs.lemmas.List.Folds.{list_any-append}
use Rattle.ids.specs.References.{same_reference}
use Rattle.ids.specs.declared.names.PromId.{PromId}
use Rattle.ids.specs.declared.reference.Reference.{Reference}
use Rattle.ids.proofs.References.{reference_equal}
use Rattle.cells.specs.Doing.{over, Under, touching, holding, play, and_then}
use Rattle.heap.specs.State.{Cell, view_cell, fence_cell, Content, same_cell}
use Rattle.sends.specs.Vats.{Vat, and_reference, each_once}
use Rattle.sends.specs.Playing.{looked_at}
use Rattle.sends.specs.Table.{Foot, among, Goes, HasFoot, no_foot, looks, changes, both, of_each}
use Rattle.sends.proofs.Playing.{played}

regroup : (a b x : Bool) → (b || (a || x)) ≡ ((a || b) || x)
regroup true true x = refl
regroup true false x = refl
regroup false true x = refl
regroup false false x = refl

once : (a x : Bool) → (a || x) ≡ ((a || false) || x)
once true x = refl
once false x = refl

twice : (a x : Bool) → (a || (a || x)) ≡ ((a || false) || x)
twice true x = refl
twice false x = refl

pub among_both : (cs ds : List Cell) (c : Cell) → among (cs ++ ds) c ≡ (among cs c || among ds c)
among_both cs ds c = list_any-append (λ k. same_cell k c) cs ds

step : (a b x y z n : Bool) → y ≡ (a || x) → z ≡ (b || y) → n ≡ (a || b) → z ≡ (n || x)
step a b x y z n h i e = i ∙ ap (λ y. b || y) h ∙ regroup a b x ∙ ap (λ n. n || x) (sym e)

-- nothing was touched
pub stays : (u : Under Cell Content) → Goes no_foot u u
stays u = record { touched = λ c. refl; written = λ c. refl }

pub touched_one : (k : Cell) (u : Under Cell Content) → Goes (looks (k ∷ [])) u (touching same_cell k u)
touched_one k u = record { touched = λ c. once (same_cell k c) (u.touched c); written = λ c. refl }

pub written_one : (k : Cell) (x : Content) (u : Under Cell Content) → Goes (changes k) u (holding same_cell k x u)
written_one k x u = record { touched = λ c. once (same_cell k c) (u.touched c); written = λ c. once (same_cell k c) (u.written c) }

-- a cell was read, and then written
pub read_and_written : (k : Cell) (x : Content) (u : Under Cell Content) → Goes (changes k) u (holding same_cell k x (touching same_cell k u))
read_and_written k x u = record { touched = λ c. twice (same_cell k c) (u.touched c); written = λ c. once (same_cell k c) (u.written c) }

-- first this, then that
pub then_goes : (f g : Foot) (u v w : Under Cell Content) → Goes f u v → Goes g v w → Goes (both f g) u w
then_goes f g u v w h i = record {
  touched = λ c. step (among f.touched c) (among g.touched c) (u.touched c) (v.touched c) (w.touched c) (among (f.touched ++ g.touched) c) (h.touched c) (i.touched c) (among_both f.touched g.touched c);
  written = λ c. step (among f.written c) (among g.written c) (u.written c) (v.written c) (w.written c) (among (f.written ++ g.written) c) (h.written c) (i.written c) (among_both f.written g.written c);
}

-- so of what is done
pub foot_then : {A B : Type 0} (d : Vat A) (k : A → Vat B) (u v : Under Cell Content) (a : A) (f g : Foot) → play same_cell d u ≡ (a, v) → Goes f u v → HasFoot (k a) v g → HasFoot (and_then d k) u (both f g)
foot_then {A} {B} d k u v a f g h i j = subst (λ (p : B × Under Cell Content). Goes (both f g) u p.1) (sym (played d k u v a h)) (then_goes f g u v (play same_cell (k a) v).1 i j)

-- what follows touches nothing
pub foot_quiet : {A B : Type 0} (d : Vat A) (k : A → Vat B) (u : Under Cell Content) (f : Foot) → HasFoot d u f → ((a : A) (v : Under Cell Content) → (play same_cell (k a) v).1 ≡ v) → HasFoot (and_then d k) u f
foot_quiet {A} {B} d k u f h q =
    let p : A × Under Cell Content = play same_cell d u in
    subst (λ (v : Under Cell Content). Goes f u v) (sym (ap (λ r. r.1) (played d k u p.1 p.0 refl) ∙ q p.0 p.1)) h

-- what is made of the result touches nothing
pub foot_alone : {A B : Type 0} (d : Vat A) (k : A → B) (u : Under Cell Content) (f : Foot) → HasFoot d u f → HasFoot (and_then d (λ a. over (k a))) u f
foot_alone d k u f h = foot_quiet d (λ a. over (k a)) u f h (λ a v. refl)

-- views of promises were looked at
pub looked : (ps : List PromId) (u : Under Cell Content) → Goes (looks (map view_cell ps)) u (looked_at ps u)
looked [] u = stays u
looked (p ∷ ps) u =
    let v : Under Cell Content = touching same_cell (view_cell p) u in
    then_goes (looks (view_cell p ∷ [])) (looks (map view_cell ps)) u v (looked_at ps v) (touched_one (view_cell p) u) (looked ps v)

-- ---- feet of the same cells

pub record SameFoot (f g : Foot) : Type 0 where
  pub touched : (c : Cell) → among f.touched c ≡ among g.touched c
  pub written : (c : Cell) → among f.written c ≡ among g.written c

pub same_goes : (f g : Foot) (u v : Under Cell Content) → SameFoot f g → Goes f u v → Goes g u v
same_goes f g u v s h = record {
  touched = λ c. h.touched c ∙ ap (λ b. b || u.touched c) (s.touched c);
  written = λ c. h.written c ∙ ap (λ b. b || u.written c) (s.written c);
}

pub both_same : (f g h i : Foot) → SameFoot f g → SameFoot h i → SameFoot (both f h) (both g i)
both_same f g h i a b = record {
  touched = λ c. among_both f.touched h.touched c ∙ (λ j. a.touched c j || b.touched c j) ∙ sym (among_both g.touched i.touched c);
  written = λ c. among_both f.written h.written c ∙ (λ j. a.written c j || b.written c j) ∙ sym (among_both g.written i.written c);
}

-- ---- each reference once

or_true : (a b : Bool) → b ≡ true → (a || b) ≡ true
or_true true b h = refl
or_true false b h = h

or_none : (a b : Bool) → a ≡ true → (a || b) ≡ true
or_none true b h = refl
or_none false b h = absurd (cc)

one_here : (q : Reference → Bool) (r t : Reference) (rs : List Reference) (b x : Bool) → same_reference r t ≡ b → (b || x) ≡ true → q r ≡ true → (x ≡ true → list_any q rs ≡ true) → (q t || list_any q rs) ≡ true
one_here q r t rs true x e h i next = or_none (q t) (list_any q rs) (ap q (sym (reference_equal r t e)) ∙ i)
one_here q r t rs false x e h i next = or_true (q t) (list_any q rs) (next h)

one_of : (q : Reference → Bool) (r : Reference) (rs : List Reference) → list_any (same_reference r) rs ≡ true → q r ≡ true → list_any q rs ≡ true
one_of q r [] h i = absurd (cc)
one_of q r (t ∷ rs) h i = one_here q r t rs (same_reference r t) (list_any (same_reference r) rs) refl h i (λ h. one_of q r rs h i)

last : (b : Bool) → (b || false) ≡ b
last true = refl
last false = refl

absorbs : (a b : Bool) → (b ≡ true → a ≡ true) → a ≡ (a || b)
absorbs true b h = refl
absorbs false true h = h refl
absorbs false false h = refl

one_more : (q : Reference → Bool) (found : List Reference) (r : Reference) (b : Bool) → list_any (same_reference r) found ≡ b → list_any q (cond b found (found ++ r ∷ [])) ≡ (list_any q found || q r)
one_more q found r true e = absorbs (list_any q found) (q r) (one_of q r found e)
one_more q found r false e = list_any-append q found (r ∷ []) ∙ ap (λ b. list_any q found || b) (last (q r))

assoc : (a b c : Bool) → ((a || b) || c) ≡ (a || (b || c))
assoc true b c = refl
assoc false b c = refl

-- a test finds one among them where it finds one among all
once_alike : (q : Reference → Bool) (found rs : List Reference) → list_any q (each_once found rs) ≡ (list_any q found || list_any q rs)
once_alike q found [] = sym (last (list_any q found))
once_alike q found (r ∷ rs) =
    once_alike q (and_reference found r) rs
    ∙ ap (λ b. b || list_any q rs) (one_more q found r (list_any (same_reference r) found) refl)
    ∙ assoc (list_any q found) (q r) (list_any q rs)

each_touches : (f : Reference → Foot) (rs : List Reference) (c : Cell) → among (of_each f rs).touched c ≡ list_any (λ r. among (f r).touched c) rs
each_touches f [] c = refl
each_touches f (r ∷ rs) c = among_both (f r).touched (of_each f rs).touched c ∙ ap (λ b. among (f r).touched c || b) (each_touches f rs c)

each_writes : (f : Reference → Foot) (rs : List Reference) (c : Cell) → among (of_each f rs).written c ≡ list_any (λ r. among (f r).written c) rs
each_writes f [] c = refl
each_writes f (r ∷ rs) c = among_both (f r).written (of_each f rs).written c ∙ ap (λ b. among (f r).written c || b) (each_writes f rs c)

pub each_alike : (f : Reference → Foot) (rs : List Reference) → SameFoot (of_each f (each_once [] rs)) (of_each f rs)
each_alike f rs = record {
  touched = λ c. each_touches f (each_once [] rs) c ∙ once_alike (λ r. among (f r).touched c) [] rs ∙ sym (each_touches f rs c);
  written = λ c. each_writes f (each_once [] rs) c ∙ once_alike (λ r. among (f r).written c) [] rs ∙ sym (each_writes f rs c);
}

fences : (rs : List Reference) (c : Cell) → among (map fence_cell rs) c ≡ list_any (λ r. same_cell (fence_cell r) c) rs
fences [] c = refl
fences (r ∷ rs) c = ap (λ b. same_cell (fence_cell r) c || b) (fences rs c)

pub fences_alike : (rs : List Reference) → SameFoot (looks (map fence_cell (each_once [] rs))) (looks (map fence_cell rs))
fences_alike rs = record {
  touched = λ c. fences (each_once [] rs) c ∙ once_alike (λ r. same_cell (fence_cell r) c) [] rs ∙ sym (fences rs c);
  written = λ c. refl;
}
