-- What is told of an object: what it is, its vat, what its names stand for, and its methods.
use Rattle.std.specs.Prelude.{◌≡◌, ℕ, List, [], ◌∷◌, ◌++◌, Option, Some, None, codes}
use Rattle.ids.specs.Names.{object_text}
use Rattle.ids.specs.declared.cells.CellKey.TheVariants as key
use Rattle.ids.specs.declared.names.EventName.{EventName}
use Rattle.ids.specs.declared.names.ObjId.{ObjId}
use Rattle.ids.specs.declared.names.VatNo.{VatNo}
use Rattle.kernele.specs.Spelling.{method_text, spelled_items}
use Rattle.kernele.specs.Tree.{Name, Methods, no_methods, and_method}
use Rattle.heap.specs.State.{Object, plain, resolver, object_cell, made}
use Rattle.heap.specs.State as state
use Rattle.world_cells.specs.World.{World, vat_state}
use Rattle.stepper_printing.specs.Show.{ByBirth, content_text}
use Rattle.stepper_questions.specs.Deliveries.{captured_lines}
use Rattle.stepper_questions.specs.declared.unanswered.Unanswered.{Unanswered}
use Rattle.stepper_questions.specs.declared.unanswered.Unanswered.TheVariants as unanswered

-- the object of a vat with this name
abbrev pub object_id : EventName → ℕ → VatNo → ObjId
object_id e i v = record { event = e; index = i; vat = v }

-- what a cell of objects holds
abbrev pub object_in : Option state.Content → Option Object
object_in (Some (made o)) = Some o
object_in _ = None

abbrev pub object_of : World → EventName → ℕ → VatNo → Option Object
object_of w e i v = object_in (vat_state w v (object_cell (object_id e i v)))

-- an object with its vat, where that has it, or else another one
abbrev pub owned_or : VatNo × Name → Option Object → Option (VatNo × Name × Object) → Option (VatNo × Name × Object)
owned_or v (Some o) other = Some (v.0, v.1, o)
owned_or v None other = other

-- the first of these vats that has an object of this name, with its name and the object
abbrev pub found_in : World → EventName → ℕ → List (VatNo × Name) → Option (VatNo × Name × Object)
found_in w e i [] = None
found_in w e i (v ∷ vs) = owned_or v (object_of w e i v.0) (found_in w e i vs)

--  method VERB(NAMES) { .. }
abbrev pub method_lines : Methods → List ℕ
method_lines no_methods = []
method_lines (and_method verb ps body ms) = codes " " ++ (method_text verb ps (spelled_items body) ++ (10 ∷ method_lines ms))

-- what an object captured, and its methods; a resolver has neither
abbrev pub inside_lines : Object → List ℕ
inside_lines (plain p) = captured_lines p.captured ++ method_lines p.methods
inside_lines (resolver p) = []

-- object O WHAT,  at NAME, and what is inside
abbrev pub object_lines : EventName → ℕ → VatNo × Name × Object → List ℕ
object_lines e i (v, x, o) =
    codes "object " ++ (object_text (object_id e i v) ++ (codes " " ++ (content_text (made o) ++ (10 ∷ codes " at " ++ (x ++ (10 ∷ inside_lines o))))))

-- an object of this name in some vat
pub record ObjectTold (w : World) (e : EventName) (i : ℕ) (text : List ℕ) : Type 0 where
  pub vats : List (VatNo × Name)
  pub vats_listed : ByBirth (λ x. w (key.Name x)) vats
  pub found : VatNo × Name × Object
  pub is_there : found_in w e i vats ≡ Some found
  pub whole : text ≡ object_lines e i found

-- no vat has one
pub record NoObject (w : World) (e : EventName) (i : ℕ) : Type 0 where
  pub vats : List (VatNo × Name)
  pub vats_listed : ByBirth (λ x. w (key.Name x)) vats
  pub not_there : found_in w e i vats ≡ None

-- a fault tells that no vat has one; want of memory may come in place of any answer
abbrev pub LacksObject : World → EventName → ℕ → Unanswered → Type 0
LacksObject w e i unanswered.Memory = Unit {0}
LacksObject w e i (unanswered.NoObject f j) = (f ≡ e) × (j ≡ i) × NoObject w e i
LacksObject w e i _ = ⊥
