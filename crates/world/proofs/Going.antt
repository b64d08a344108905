-- Runs of events that begin in another world.
use Rattle.std.proofs.Common.{◌≡◌, ℕ, ◌+◌, ◌<◌, List, [], ◌∷◌, ◌++◌, length, drop, get_or, reverse, sym, ap, ◌∙◌, subst}
use Rattle.std.proofs.Math.Logic.{∥∥₁_elim, ∥∥₁_map, ∥∥₁_prop}
use Rattle.std.proofs.lemmas.List.{reverse-append, at_drop_more}
use Rattle.history.specs.Subject.{Run, run_none, run_more, after}
use Rattle.history.proofs.Writing.{after_alike}
use Rattle.world_cells.specs.Events.{Event}
use Rattle.world_cells.specs.World.{World, empty}
use Rattle.event.specs.Events.{Foot, Does, events}
use Rattle.event.proofs.Law.{events_laws}
use Rattle.event.specs.Runs.{RunFrom, PlainRun}
use Rattle.world.specs.Reruns.{TellsRun}
use Rattle.world.specs.Steps.{StepsTo, TellsStep}
use Rattle.world.specs.declared.step.StepFault.{StepFault}
use Rattle.world.specs.declared.step.StepFault.TheVariants as faults

-- a first event, and then a run from the world that it leaves
run_after : {w : World} {f : Foot} (e : Event) → Does e w f → {es : List Event} {u : World} → Run events (after events f w) es u → Run events w (es ++ e ∷ []) u
run_after e d run_none = run_more run_none d
run_after e d (run_more r h) = run_more (run_after e d r) h

-- a run, taken apart at its first event
pub record Parts (e : Event) (es : List Event) (w u : World) : Type 0 where
  pub foot : Foot
  pub does : Does e w foot
  pub rest : Run events (after events foot w) es u

run_parts : {w : World} (e : Event) (es : List Event) {u : World} → Run events w (es ++ e ∷ []) u → Parts e es w u
run_parts e [] (run_more run_none d) = record { foot = _; does = d; rest = run_none }
run_parts e (g ∷ es) (run_more r h) = let p = run_parts e es r in record { foot = p.foot; does = p.does; rest = run_more p.rest h }

first_last : (e : Event) (es : List Event) → reverse (e ∷ es) ≡ reverse es ++ e ∷ []
first_last e es = reverse-append (e ∷ []) es

-- from a world that an event leaves, the rest runs just where it runs with the event from before it
goes_on : (e : Event) (es : List Event) (f : Foot) (w v u : World) → ∥ Does e w f ∥₁ → v ≡ after events f w → RunFrom v es u → RunFrom w (e ∷ es) u
goes_on e es f w v u d is r =
    ∥∥₁_elim d ∥∥₁_prop (λ h. ∥∥₁_map r (λ a. subst (λ xs. Run events w xs u) (sym (first_last e es)) (run_after e h (subst (λ x. Run events x (reverse es) u) is a))))

came_from : (e : Event) (es : List Event) (f : Foot) (w v u : World) → ∥ Does e w f ∥₁ → v ≡ after events f w → RunFrom w (e ∷ es) u → RunFrom v es u
came_from e es f w v u d is r =
    ∥∥₁_elim d ∥∥₁_prop
    (λ h. ∥∥₁_map r
    (λ a. let p = run_parts e (reverse es) (subst (λ xs. Run events w xs u) (first_last e es) a) in
    subst (λ x. Run events x (reverse es) u) (after_alike events p.foot f w (events_laws.once e w p.foot f p.does h) ∙ sym is) p.rest))

-- an event that is impossible has no run
no_run : (e : Event) (es : List Event) (w u : World) → ((f : Foot) → Does e w f → ⊥) → RunFrom w (e ∷ es) u → ⊥
no_run e es w u h r =
    ∥∥₁_elim r (λ a. absurd a) (λ a. let p = run_parts e (reverse es) (subst (λ xs. Run events w xs u) (first_last e es) a) in h p.foot p.does)

-- from this world the events that are left run just where all run from the empty one
pub record Joined (w : World) (rest all : List Event) : Type 0 where
  pub on : (u : World) → RunFrom w rest u → PlainRun all u
  pub back : (u : World) → PlainRun all u → RunFrom w rest u

pub joined_start : (w : World) (all : List Event) → w ≡ empty → Joined w all all
joined_start w all h = record {
  on = λ u r. subst (λ (v : World). RunFrom v all u) h r;
  back = λ u r. subst (λ (v : World). RunFrom v all u) (sym h) r;
}

pub joined_step : (e : Event) (rest all : List Event) (w v : World) → Joined w (e ∷ rest) all → StepsTo e w v → Joined v rest all
joined_step e rest all w v j s = record {
  on = λ u r. j.on u (goes_on e rest s.foot w v u s.does s.step r);
  back = λ u r. came_from e rest s.foot w v u s.does s.step (j.back u r);
}

-- at the end there is a run; at an impossible event there is none
pub joined_end : (all : List Event) (w : World) → Joined w [] all → PlainRun all w
joined_end all w j = j.on w ∣ run_none ∣₁

-- what an impossible event tells of a whole run
pub tells_run : (fault : StepFault) (e : Event) (rest all : List Event) (w : World) → Joined w (e ∷ rest) all → TellsStep e w fault → TellsRun all fault
tells_run faults.Impossible e rest all w j h = λ u r. no_run e rest w u h (j.back u r)
tells_run faults.Memory e rest all w j h = tt

-- what is left of a list from an index on: the item there, and those behind it
pub from_here : {X Y : Type 0} (F : List X → Y) (xs : List X) (i : ℕ) (x : X) → i < length xs → x ≡ get_or xs i x → F (drop i xs) ≡ F (x ∷ drop (i + 1) xs)
from_here F xs i x h e = at_drop_more F xs i x h ∙ ap (λ y. F (y ∷ drop (i + 1) xs)) (sym e)
