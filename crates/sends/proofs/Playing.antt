-- What is done one after another under a turn.
use Rattle.std.proofs.Common.{◌≡◌, List, [], ◌∷◌, ◌++◌, refl, ap, ◌∙◌}
use Rattle.ids.specs.declared.names.PromId.{PromId}
use Rattle.cells.specs.Doing.{Under, touching, play, and_then}
use Rattle.cells.proofs.Doings.{one_after_another}
use Rattle.heap.specs.State.{Cell, view_cell, Content, same_cell}
use Rattle.heap.specs.Drafted.{Drafted}
use Rattle.sends.specs.Vats.{Vat}
use Rattle.sends.specs.Playing.{under, Did, IsSameTurn, looked_at}

-- what is played behind another
pub played : {A B : Type 0} (f : Vat A) (g : A → Vat B) (u v : Under Cell Content) (a : A) → play same_cell f u ≡ (a, v) → play same_cell (and_then f g) u ≡ play same_cell (g a) v
played {A} {B} f g u v a h = one_after_another Cell Content A B same_cell f g u ∙ ap (λ p. play same_cell (g p.0) p.1) h

-- what is done behind another
pub did_then : {A B : Type 0} (f : Vat A) (g : A → Vat B) (d e k : Drafted) (a : A) (b : B) → Did f d a e → Did (g a) e b k → Did (and_then f g) d b k
did_then f g d e k a b h i = played f g (under d) (under e) a h ∙ i

-- a turn that stays the same twice
pub same_turn : (d e k : Drafted) → IsSameTurn d e → IsSameTurn e k → IsSameTurn d k
same_turn d e k h i = record { counts = i.counts ∙ h.counts; began = i.began ∙ h.began }

-- looking changes no contents
pub looked_state : (ps : List PromId) (u : Under Cell Content) → (looked_at ps u).state ≡ u.state
looked_state [] u = refl
looked_state (p ∷ ps) u = looked_state ps (touching same_cell (view_cell p) u)

-- first at these, then at those
pub looked_on : (ps qs : List PromId) (u : Under Cell Content) → looked_at (ps ++ qs) u ≡ looked_at qs (looked_at ps u)
looked_on [] qs u = refl
looked_on (p ∷ ps) qs u = looked_on ps qs (touching same_cell (view_cell p) u)
