-- Journals with undo, whose events do deeds.
use Rattle.std.specs.Prelude.{◌≡◌, Bool, List, map, filter}
use Rattle.history.specs.Subject.{Subject, World, Foot, after}
use Rattle.history.specs.Journal.{live_set}
use Rattle.history.specs.Records.{Row, State, contents, entries_of}
use Rattle.eorder.specs.Acts.{Fences}
use Rattle.eorder.specs.Deeds.{Deed}
use Rattle.eorder.specs.Worlds.{Worlds, Ran}
use Rattle.ids.specs.declared.names.MsgId.{MsgId}

-- what the events of a subject do by vats, and where its worlds have the fences
pub record Doing (s : Subject) : Type 1 where
  -- in a world the event does this
  pub deed : s.Event → World s → Deed → Type 0
  pub read : World s → Fences
  pub is_done : World s → MsgId → Bool

abbrev pub worlds_of : (s : Subject) → Doing s → Worlds
worlds_of s d = record {
  World = World s;
  Event = s.Event;
  step = λ e w u x. (f : Foot s) × s.Does e w f × (u ≡ after s f w) × d.deed e w x;
  read = d.read;
  is_done = d.is_done;
}

-- each event that is possible does something
abbrev pub AllDo : (s : Subject) → Doing s → Type 0
AllDo s d = (e : s.Event) (w : World s) (f : Foot s) → s.Does e w f → (x : Deed) × d.deed e w x

-- these are the live entries of a journal, each with its deed, and they ran from the start to the state
pub record LiveRun (s : Subject) (d : Doing s) (start : World s) (rows : List (Row s)) (state : State s) (ps : List (s.Event × Deed)) : Type 0 where
  pub events : map (λ p. p.0) ps ≡ map (λ e. e.event) (filter (live_set s) (entries_of rows))
  pub ran : Ran (worlds_of s d) start ps (contents s state)
