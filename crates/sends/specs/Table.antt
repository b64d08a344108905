-- The table of what is touched and written: a row for each thing that is done to the cells of a vat, by what they hold as it begins.
use Rattle.std.specs.Prelude.{◌≡◌, Bool, true, false, ◌||◌, Option, Some, None, List, [], ◌∷◌, ◌++◌, map}
use Rattle.std.specs.List.{list_any}
use Rattle.ids.specs.declared.names.MsgId.{MsgId}
use Rattle.ids.specs.declared.names.PromId.{PromId}
use Rattle.ids.specs.declared.names.ObjId.{ObjId}
use Rattle.ids.specs.declared.reference.Reference.{Reference}
use Rattle.ids.specs.declared.reference.Reference.TheVariants as reference
use Rattle.cells.specs.Doing.{Under, play}
use Rattle.eorder.specs.Carried.{Carried}
use Rattle.values.specs.Data.{Val, Vals, no_vals, and_val}
use Rattle.values.specs.Replies.{text_in}
use Rattle.heap.specs.State.{Cell, object_cell, view_cell, fence_cell, Content, viewed, resolved, State, same_cell, write}
use Rattle.refs.specs.Walks.{Resolutions, walked, followed}
use Rattle.refs.specs.Settling.{settling}
use Rattle.sends.specs.Vats.{Vat, reference_in, value_of, references, references_in, names_of, names_for}
use Rattle.sends.specs.Making.{Making, refused, makes, Sent, Published}
use Rattle.sends.specs.Playing.{views_in}

-- ---- cells

-- the cells that are touched, and those that are written
pub record Foot : Type 0 where
  pub touched : List Cell
  pub written : List Cell

-- whether a cell is among some
abbrev pub among : List Cell → Cell → Bool
among cs c = list_any (λ k. same_cell k c) cs

-- on the way from some cells to these just those of a foot were touched, beside what was touched before, and just those were written
pub record Goes (f : Foot) (u v : Under Cell Content) : Type 0 where
  pub touched : (c : Cell) → v.touched c ≡ (among f.touched c || u.touched c)
  pub written : (c : Cell) → v.written c ≡ (among f.written c || u.written c)

-- what is done from these cells has this foot
abbrev pub HasFoot : {R : Type 0} → Vat R → Under Cell Content → Foot → Type 0
HasFoot d u f = Goes f u (play same_cell d u).1

-- no cell
abbrev pub no_foot : Foot
no_foot = record { touched = []; written = [] }

-- cells that are only looked at
abbrev pub looks : List Cell → Foot
looks cs = record { touched = cs; written = [] }

-- a cell that is written, and so touched
abbrev pub changes : Cell → Foot
changes c = record { touched = c ∷ []; written = c ∷ [] }

-- a cell alone, where there is nothing in it
abbrev pub if_absent : Option Content → Cell → List Cell
if_absent None c = c ∷ []
if_absent (Some x) c = []

-- a cell that is looked at, and written where it is absent
abbrev pub fills : State → Cell → Foot
fills s c = record { touched = c ∷ []; written = if_absent (s c) c }

-- the cells of both
abbrev pub both : Foot → Foot → Foot
both f g = record { touched = f.touched ++ g.touched; written = f.written ++ g.written }

-- the cells of each
abbrev pub of_each : {X : Type 0} → (X → Foot) → List X → Foot
of_each f [] = no_foot
of_each f (x ∷ xs) = both (f x) (of_each f xs)

-- the cells of what there is
abbrev pub of_any : {X : Type 0} → (X → Foot) → Option X → Foot
of_any f None = no_foot
of_any f (Some x) = f x

-- the cells of what was made
abbrev pub of_made : {R : Type 0} → (R → Foot) → Making R → Foot
of_made f (refused why) = no_foot
of_made f (makes r) = f r

-- the cells of what is done where there is room
abbrev pub where_room : Bool → Foot → Foot
where_room true f = f
where_room false f = no_foot

-- ---- ends and settled forms, by what promises were resolved to

-- an end is taken: the View of each promise of the walk, the open one too
abbrev pub end_taken : Resolutions → Val → Foot
end_taken m v = looks (map view_cell (walked m v))

-- a settled form is taken: the View of each promise of its walks
abbrev pub form_taken : Resolutions → Val → Foot
form_taken m v = looks (map view_cell (settling m v).through)

-- those of values from the left, up to the first that has none
abbrev pub forms_taken : Resolutions → Vals → Foot
forms_taken m no_vals = no_foot
forms_taken m (and_val v vs) = both (form_taken m v) (of_any (λ w. forms_taken m vs) (settling m v).settled)

-- ---- what comes in

-- a promise comes in: its View, which is written where it is absent
abbrev pub promise_comes : State → PromId → Foot
promise_comes s p = fills s (view_cell p)

-- so does a reference that is a promise
abbrev pub reference_comes : State → Reference → Foot
reference_comes s (reference.Promise p) = promise_comes s p
reference_comes s _ = no_foot

-- names are added to the fence of a reference: the Fence is written, where there are any
abbrev pub fence_grows : List MsgId → Reference → Foot
fence_grows [] t = no_foot
fence_grows (m ∷ f) t = changes (fence_cell t)

-- they are added to that of the end of a value: the end is taken, whether there are names or not
abbrev pub end_grows : Resolutions → Val → List MsgId → Foot
end_grows m v f = both (end_taken m v) (of_any (fence_grows f) (reference_in (followed m v)))

-- references come in with fences: the promises among them, then the fence of each
abbrev pub references_come : State → Carried → List Reference → Foot
references_come s c rs = both (of_each (reference_comes s) rs) (of_each (λ r. end_grows (views_in s) (value_of r) (names_for c r)) rs)

-- ---- what is entered

-- a promise is entered as a value: its View is written, its Fence is looked at and added to that of the value's end, as the views are then
abbrev pub promise_entered : State → PromId → Val → Foot
promise_entered s p v =
    both (both (changes (view_cell p)) (looks (fence_cell (reference.Promise p) ∷ [])))
    (end_grows (views_in (write s (view_cell p) (viewed (resolved v)))) v (names_of (s (fence_cell (reference.Promise p)))))

-- ---- sends

-- references are passed: the Fence of each
abbrev pub references_pass : List Reference → Foot
references_pass rs = looks (map fence_cell rs)

-- a message is sent: the Fence of the reference that it is sent on is written, the references in its arguments are passed, and its result comes in
abbrev pub message_sent : State → Sent → Foot
message_sent s m = both (of_any (λ t. changes (fence_cell t)) (reference_in m.target)) (both (references_pass (references_in m.arguments)) (promise_comes s m.result))

-- a send: the settled form of the receiver is taken, and where it has one those of the arguments; then the message is sent, if it is
abbrev pub send_touches : State → Val → Vals → Making Sent → Foot
send_touches s v vs m = both (form_taken (views_in s) v) (both (of_any (λ t. forms_taken (views_in s) vs) (settling (views_in s) v).settled) (of_made (message_sent s) m))

-- a when: the end of its value is taken; then its result comes in, where there is room
abbrev pub when_touches : State → Bool → PromId → Val → Foot
when_touches s room p v = both (end_taken (views_in s) v) (where_room room (promise_comes s p))

-- a promise with its resolver: the promise comes in and the object is made, where there is room
abbrev pub pair_touches : State → Bool → PromId → ObjId → Foot
pair_touches s room p o = where_room room (both (promise_comes s p) (changes (object_cell o)))

-- ---- what is published

-- a promise is published as a value: the references in that are passed; the promise's View is looked at, absent or not, and where it is present
-- the promise is entered
abbrev pub promise_published : State → PromId → Val → Foot
promise_published s p v = both (references_pass (references v)) (both (looks (view_cell p ∷ [])) (of_any (λ x. promise_entered s p v) (s (view_cell p))))

-- a resolver is used with what is fit for it: its promise's View is looked at; then the promise is published, if it is
abbrev pub resolver_used : {X : Type 0} → State → PromId → Option X → Making Published → Foot
resolver_used s p o m = of_any (λ x. both (looks (view_cell p ∷ [])) (of_made (λ b. promise_published s p b.value) m)) o

-- it resolves its promise to a value, whose settled form is taken
abbrev pub resolve_touches : State → PromId → Val → Making Published → Foot
resolve_touches s p v m = both (form_taken (views_in s) v) (resolver_used s p (settling (views_in s) v).settled m)

-- it breaks it by a problem, whose end is taken
abbrev pub smash_touches : State → PromId → Val → Making Published → Foot
smash_touches s p v m = both (end_taken (views_in s) v) (resolver_used s p (text_in (followed (views_in s) v)) m)
