-- No promise is published twice in the world of a run.
use Rattle.std.specs.Prelude.{◌≡◌, ℕ, List, [], ◌∷◌, Some, None}
use Rattle.std.specs.List.{AllByRecursion}
use Rattle.history.specs.Records.{Row, State, contents}
use Rattle.history.specs.Stands.{Stands}
use Rattle.history.specs.Subject.{after}
use Rattle.ids.specs.declared.names.EventName.{EventName}
use Rattle.ids.specs.declared.names.MsgId.{MsgId}
use Rattle.ids.specs.declared.names.PromId.{PromId}
use Rattle.post.specs.Messages.{Published}
use Rattle.world_cells.specs.Events.{Event}
use Rattle.world_cells.specs.World.{World, empty, published_as}
use Rattle.event.specs.Events.{events, Foot, Turn, Turns, counted, Does, noted_events}
use Rattle.event_ordering.specs.Sending.{IsNewName, RanWithout}
use Rattle.event_ordering.specs.Theorems.{HaveOwnNames, live_events}

-- from the empty world these events ran to this one, the newest first, each with a name of its own, and none of them has this name
abbrev pub RanApartFrom : EventName → List Event → World → Type 0
RanApartFrom e es w = RanWithout e es w × HaveOwnNames es

-- in a world none of these promises was published
abbrev pub AreUnpublished : World → List (PromId × Published) → Type 0
AreUnpublished w bs = AllByRecursion (λ b. published_as w b.0 ≡ None) bs

-- no promise stands twice among these publications
abbrev pub EachOnce : List (PromId × Published) → Type 0
EachOnce [] = Unit {0}
EachOnce (b ∷ bs) = AllByRecursion (λ d. d.0 ≡ b.0 → ⊥) bs × EachOnce bs

-- what a turn publishes was not published before, and each promise is published once
abbrev pub PublishesNew : World → Turn → Type 0
PublishesNew w t = AreUnpublished w t.outcome.out.publications × EachOnce t.outcome.out.publications

-- so it is of each turn of this name there
abbrev pub PublishesNewPromises : Type 0
PublishesNewPromises = (e : EventName) (es : List Event) (w : World) → RanApartFrom e es w → (m : MsgId) (budget : ℕ) (t : Turn) → Turns e w m budget t → PublishesNew w t

-- and all that it publishes counts
abbrev pub AllCounts : Type 0
AllCounts = (e : EventName) (es : List Event) (w : World) → RanApartFrom e es w → (m : MsgId) (budget : ℕ) (t : Turn) → Turns e w m budget t
    → counted w t.outcome.out.publications ≡ t.outcome.out.publications

-- so it is of each turn of a new name in the world of a journal that stands, also after an undo, a redo or an exchange
abbrev pub JournalsPublishNewPromises : Type 0
JournalsPublishNewPromises = (next : ℕ) (rows : List (Row noted_events)) (state : State noted_events) → Stands noted_events empty next rows state → (e : EventName) → IsNewName e (live_events rows)
    → (m : MsgId) (budget : ℕ) (t : Turn) → Turns e (contents noted_events state) m budget t → PublishesNew (contents noted_events state) t

-- what was published stays as it is, whatever happens
abbrev pub PublicationsStay : Type 0
PublicationsStay = (e : Event) (w : World) (f : Foot) → Does e w f → (p : PromId) (b : Published) → published_as w p ≡ Some b → published_as (after events f w) p ≡ Some b
