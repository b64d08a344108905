-- A redo of what was just undone gives back the former journal and world.
use Rattle.std.proofs.Common.{◌≡◌, List, [], ◌∷◌, true, sym, ap, refl, ◌∙◌, subst}
use Rattle.std.specs.Prelude.{◌&&◌, ◌||◌, not}
use Rattle.std.specs.List.{AllByRecursion}
use Rattle.std.proofs.Math.Logic.{∥∥₁_elim}
use Rattle.history.proofs.Core.{runs_are_one}
use Rattle.history.proofs.Lists.{put_back}
use Rattle.ids.specs.declared.names.EventName.{EventName}
use Rattle.world_cells.specs.Events.{Event}
use Rattle.world_cells.specs.World.{World}
use Rattle.event.specs.Events.{events}
use Rattle.event.proofs.Law.{events_laws}
use Rattle.journal.specs.Lines.{Line}
use Rattle.causality.specs.Selections.{chosen, is_live}
use Rattle.event.specs.Runs.{PlainRun}
use Rattle.book.specs.Calls.{SameSet, RedoNextGivesBack, undone_in, redone_in, live_events}
use Rattle.book.proofs.Sets.{World-set}
use Rattle.book.proofs.Undoing.{live_set_of}

-- plain runs of the same events lead to one world
one_world : (es : List Event) (w v : World) → PlainRun es w → PlainRun es v → w ≡ v
one_world es w v r q = ∥∥₁_elim r (World-set w v) (λ a. ∥∥₁_elim q (World-set w v) (λ b. runs_are_one events events_laws a b))

-- lines that were live are so again
marked_back : (names others : List EventName) (lines : List Line) → AllByRecursion (λ l. chosen names l ≡ true → is_live l ≡ true) lines → SameSet names others lines → redone_in others (undone_in names lines) ≡ lines
marked_back names others [] h same = refl
marked_back names others (l ∷ lines) (h, hs) (e, es) = λ i.
    record l { entry = record (l.entry) { live = (ap (λ b. (is_live l && not (chosen names l)) || b) (sym e) ∙ put_back (is_live l) (chosen names l) h) i } } ∷ marked_back names others lines hs es i

-- THE THEOREM
pub gives_back : RedoNextGivesBack
gives_back names others before between now run ok undoes same redoes =
    let back : redone_in others between.journal ≡ before.journal = ap (redone_in others) undoes.marked ∙ marked_back names others before.journal (live_set_of names before.settled before.journal ok) same in (
      one_world (live_events before.journal) now.world before.world (subst (λ ls. PlainRun (live_events ls) now.world) back redoes.run) run,
      redoes.marked ∙ back,
    )
