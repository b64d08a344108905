-- Ends under a turn are those of the map that the views are.
use Rattle.std.proofs.Common.{◌≡◌, ℕ, zero, suc, Bool, true, false, cond, Option, Some, None, List, [], ◌∷◌, ◌++◌, refl}
use Rattle.std.specs.Option.{unwrap_or}
use Rattle.ids.specs.declared.names.PromId.{PromId}
use Rattle.cells.specs.Doing.{over, reads, Under, touching, play}
use Rattle.values.specs.Data.{Val}
use Rattle.values.specs.Promises.{promise_of}
use Rattle.heap.specs.State.{Cell, view_cell, Content, same_cell}
use Rattle.refs.specs.Walks.{Walk, came, circled, stepped, stopped, onward, most_walked}
use Rattle.refs.specs.Walks.{walk as walk_of}
use Rattle.sends.specs.Vats.{Vat, resolution_in, walked_on, walked_from, walked_no_more, walk}
use Rattle.sends.specs.Playing.{views_in, looked_at}
use Rattle.sends.specs.Laws.{EndsAreFollowed}
use Rattle.sends.proofs.Playing.{played}

-- what was played is this walk
abbrev Plays : Vat (Option Val) → Walk → Under Cell Content → Type 0
Plays f w u = play same_cell f u ≡ (w.end, looked_at w.through u)

stops : (v : Val) (o : Option PromId) (u : Under Cell Content) → Plays (walked_no_more v o) (stopped v o) u
stops v None u = refl
stops v (Some p) u = refl

goes_on : (p : PromId) (x : Option Val) (rest : Val → Vat (Option Val)) (walks : Val → Walk) (u : Under Cell Content) → ((w : Val) → Plays (rest w) (walks w) (touching same_cell (view_cell p) u))
    → play same_cell (walked_on p x rest) (touching same_cell (view_cell p) u) ≡ ((onward p x walks).end, looked_at (onward p x walks).through u)
goes_on p None rest walks u h = refl
goes_on p (Some w) rest walks u h = h w

steps : (b : Bool) (p : PromId) (rest : Val → Vat (Option Val)) (walks : Val → Walk) (u : Under Cell Content) → ((w : Val) → Plays (rest w) (walks w) (touching same_cell (view_cell p) u))
    → Plays (cond b (over None) (reads (view_cell p) (λ x. walked_on p (resolution_in x) rest))) (cond b circled (onward p (views_in u.state p) walks)) u
steps true p rest walks u h = refl
steps false p rest walks u h = goes_on p (views_in u.state p) rest walks u h

starts : (seen : List PromId) (v : Val) (o : Option PromId) (rest : PromId → Val → Vat (Option Val)) (walks : PromId → Val → Walk) (u : Under Cell Content)
    → ((p : PromId) (w : Val) → Plays (rest p w) (walks p w) (touching same_cell (view_cell p) u)) → Plays (walked_from seen v o rest) (stepped (views_in u.state) seen v o walks) u
starts seen v None rest walks u h = refl
starts seen v (Some p) rest walks u h = steps (came p seen) p (rest p) (walks p) u (h p)

pub walks_alike : (n : ℕ) (seen : List PromId) (v : Val) (u : Under Cell Content) → Plays (walk n seen v) (walk_of n (views_in u.state) seen v) u
unfolding walk walk_of
walks_alike zero seen v u = stops v (promise_of v) u
walks_alike (suc n) seen v u = starts seen v (promise_of v) (λ p w. walk n (seen ++ p ∷ []) w) (λ p w. walk_of n (views_in u.state) (seen ++ p ∷ []) w) u (λ p w. walks_alike n (seen ++ p ∷ []) w (touching same_cell (view_cell p) u))

pub ends_are_followed : EndsAreFollowed
ends_are_followed u v = played (walk most_walked [] v) (λ o. over (unwrap_or o v)) u (looked_at (walk_of most_walked (views_in u.state) [] v).through u) (walk_of most_walked (views_in u.state) [] v).end (walks_alike most_walked [] v u)
