-- What the program knows of chains from one line on.
use Rattle.std.specs.Prelude.{◌≡◌, ℕ, ◌+◌, ◌<◌, Bool, ◌&&◌, ◌||◌, ◌==◌, true, cond, nat_lt, List, [], ◌∷◌, length, Option, Some, None, is_some, slice_get}
use Rattle.std.specs.Map.{lookup}
use Rattle.ids.specs.declared.cells.CellKey.{CellKey}
use Rattle.ids.specs.declared.names.EventName.{EventName}
use Rattle.journal.specs.Lines.{Line}
use Rattle.causality.specs.Selections.{name_of}
use Rattle.stepper_questions.specs.Chains.{Chain, Nearest}
use Rattle.stepper_questions.specs.declared.chain.Near.{Near}
use Rattle.std.specs.declared.vec.Vec.{Vec}
use Rattle.std.specs.declared.alloc.Global.{Global}

-- how an entry is reached, by its name
abbrev pub Known : Type 0
Known = EventName → Option Near

-- what entries of a map have of a name
abbrev pub near_of : List (EventName × Near) → Known
near_of known e = lookup (λ n. n.0 == e.0) known

-- the one of fewer steps, or of as many the one that stands later
abbrev pub is_nearer : Near → Near → Bool
is_nearer y x = nat_lt y.steps x.steps || ((y.steps == x.steps) && nat_lt x.place y.place)

abbrev pub nearer : Option Near → Option Near → Option Near
nearer None other = other
nearer (Some x) None = Some x
nearer (Some x) (Some y) = cond (is_nearer y x) (Some y) (Some x)

abbrev pub known_writer : Known → Option ℕ → Option Near
known_writer known None = None
known_writer known (Some n) = known (record { 0 = n })

-- the nearest of these writers and of what is the nearest so far
abbrev pub best_of : Known → Option Near → List (CellKey × Option ℕ) → Option Near
best_of known best [] = best
best_of known best (c ∷ cs) = best_of known (nearer best (known_writer known c.1)) cs

-- where a chain begins
abbrev pub start_at : EventName → ℕ → Near
start_at e s = record { event = e; place = s; steps = 0; before = None }

-- a step behind another
abbrev pub next_at : EventName → ℕ → Near → Near
next_at e p b = record { event = e; place = p; steps = b.steps + 1; before = Some b.event }

-- an entry at a place is reached by its nearest writer, if one is reached
abbrev pub reached_by : EventName → ℕ → Option Near → Known → Known
reached_by name p None known = known
reached_by name p (Some b) known = λ e. cond (e.0 == name.0) (Some (next_at name p b)) (known e)

-- the places before an entry, the last one first, as they are known one from the other
abbrev pub Back : Known → Near → List ℕ → Type 0
Back known x [] = x.before ≡ None
Back known x (p ∷ ps) = (y : Near) × (x.before ≡ Some y.event) × (known y.event ≡ Some y) × (y.place ≡ p) × Back known y ps

-- an entry of this name is reached, by the nearest chain
pub record Found (lines : List Line) (s bound : ℕ) (known : Known) (e : EventName) (x : Near) : Type 0 where
  pub line : Line
  pub at : slice_get lines x.place ≡ Some line
  pub named : name_of line ≡ e
  pub event : x.event ≡ e
  pub below : x.place < bound
  pub back : List ℕ
  pub nearest : Nearest lines s x.place back
  pub count : length back ≡ x.steps
  pub behind : Back known x back

-- just those entries before a place are known that are reached from s
pub record Knows (lines : List Line) (s bound : ℕ) (known : Known) : Type 0 where
  pub right : (e : EventName) (x : Near) → known e ≡ Some x → Found lines s bound known e x
  pub all : (q : ℕ) (qs : List ℕ) (l : Line) → Chain lines s (q ∷ qs) → q < bound → slice_get lines q ≡ Some l → is_some (known (name_of l)) ≡ true

-- the nearest chain, the last place first, or that there is none
abbrev pub NearestOrNone : List Line → ℕ → ℕ → Option (Vec ℕ Global) → Type 0
NearestOrNone lines s l None = (ps : List ℕ) → Chain lines s (l ∷ ps) → ⊥
NearestOrNone lines s l (Some places) = (ps : List ℕ) × Nearest lines s l ps × (places.items ≡ l ∷ ps)
