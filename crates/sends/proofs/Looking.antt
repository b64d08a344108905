-- Views of promises are looked at in a loop.
use Rattle.std.proofs.Common.{◌≡◌, ◌<◌, ◌≤◌, ◌+◌, ℕ, List, ◌∷◌, drop, length, get_or, sym, ap, ◌∙◌, add-one, drop-cons}
use Rattle.std.proofs.lemmas.List.{drop_all}
use Rattle.ids.specs.declared.names.PromId.{PromId}
use Rattle.cells.specs.Doing.{touching}
use Rattle.heap.specs.State.{view_cell, same_cell}
use Rattle.heap.specs.Drafted.{Drafted}
use Rattle.sends.specs.Playing.{under, looked_at}

-- what a loop over promises reads beyond them
abbrev pub no_promise : PromId
no_promise = record { event = record { 0 = 0 }; index = 0; home = record { 0 = record { 0 = 0 } } }

from_here : (ps : List PromId) (i : ℕ) → i < length ps → drop i ps ≡ get_or ps i no_promise ∷ drop (i + 1) ps
from_here ps i h = rw add-one (drop-cons ps i no_promise h)

-- one more was looked at
pub look_next : (ps : List PromId) (i : ℕ) (d e k : Drafted) → i < length ps → looked_at (drop i ps) (under e) ≡ looked_at ps (under d) → under k ≡ touching same_cell (view_cell (get_or ps i no_promise)) (under e) → looked_at (drop (i + 1) ps) (under k) ≡ looked_at ps (under d)
look_next ps i d e k h inv w = ap (λ u. looked_at (drop (i + 1) ps) u) w ∙ ap (λ qs. looked_at qs (under e)) (sym (from_here ps i h)) ∙ inv

-- none is left
pub look_last : (ps : List PromId) (i : ℕ) (d e : Drafted) → length ps ≤ i → looked_at (drop i ps) (under e) ≡ looked_at ps (under d) → under e ≡ looked_at ps (under d)
look_last ps i d e h inv = ap (λ qs. looked_at qs (under e)) (sym (drop_all i ps h)) ∙ inv
