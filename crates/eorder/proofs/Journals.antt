-- The live entries of a journal run, each by a deed.
use Rattle.std.proofs.Common.{◌≡◌, List, [], ◌∷◌, map, refl, ap}
use Rattle.history.specs.Subject.{Subject, Laws, World, Run, run_none, run_more}
use Rattle.history.specs.Records.{contents}
use Rattle.history.proofs.Standing.{standing_run}
use Rattle.eorder.specs.Deeds.{Deed}
use Rattle.eorder.specs.Worlds.{StepLaw, Ran}
use Rattle.eorder.specs.Journals.{Doing, worlds_of, AllDo}
use Rattle.eorder.specs.Theorems.{LiveEntriesRan, LiveEntriesKeepOrder}
use Rattle.eorder.proofs.Worlds.{events_keep}

-- a run of events, with what they did
pub record Doings (s : Subject) (d : Doing s) (start : World s) (es : List s.Event) (w : World s) : Type 0 where
  pub deeds : List (s.Event × Deed)
  pub events : map (λ p. p.0) deeds ≡ es
  pub ran : Ran (worlds_of s d) start deeds w

module _ (s : Subject) (d : Doing s) where
  runs_do : AllDo s d → {start : World s} {es : List s.Event} {w : World s} → Run s start es w → Doings s d start es w
  runs_do a run_none = record { deeds = []; events = refl; ran = refl }
  runs_do a (run_more {e = e} {w = w} {f = f} r q) =
      let h = runs_do a r in
      let x = a e w f q in
      record { deeds = (e, x.0) ∷ h.deeds; events = ap (λ es. e ∷ es) h.events; ran = (w, h.ran, (f, q, refl, x.1)) }

  pub live_entries_ran : Laws s → AllDo s d → LiveEntriesRan s d
  live_entries_ran l a start next rows state h =
      let r = runs_do a (standing_run s l h) in
      (r.deeds, record { events = r.events; ran = r.ran })

  pub live_entries_keep : StepLaw (worlds_of s d) → LiveEntriesKeepOrder s d
  live_entries_keep t start rows state ps a b z r = events_keep (worlds_of s d) t start ps (contents s state) a b z r.ran
