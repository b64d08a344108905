use Rattle.history.proofs.Changes.{closed_of_sound}
use Rattle.history.proofs.Exchanges.{twice_state, twice_record}
use Rattle.history.proofs.Standing.{undone_stands, undone_contents, undone_elsewhere, redone_stands, redone_contents, entries_undone, entries_redone, back_state, back_rows, back_dead, back_sound, exchanged_stands}
use Rattle.history.proofs.undo_is_lawful.Goals as goal
use Rattle.history.specs.Journal.{live_set, both, Sound}
use Rattle.history.specs.Records.{entries_of}
use Rattle.std.proofs.Common.{◌≡◌, true, false, sym, subst}
use Rattle.std.specs.List.{AllByRecursion}

pub returns : goal.returns
returns g c = let s = g.S.Undoable.subject in let laws = g.S.Undoable.laws in record {
  undone = λ start next c rows state h closed part. (
    undone_stands s laws c rows state h closed part,
    undone_contents s laws c rows state h closed part,
  );
  entries_are_marked = λ c rows state. (
    entries_undone s c rows state,
    entries_redone s c rows state,
  );
  elsewhere = λ start next c rows state h k silent. undone_elsewhere s laws c k rows state h.follows.fit silent;
  closed_of_sound = closed_of_sound s;
  redone = λ start next c rows state h dead sound. (
    redone_stands s laws c rows state h dead sound,
    redone_contents s laws c rows state h dead sound,
  );
  redone_next = λ start next c d rows state h part same. (
    subst (AllByRecursion (λ a. d a ≡ true → a.live ≡ false)) (sym (entries_undone s c rows state)) (back_dead s laws c d (entries_of rows) same),
    subst (Sound s (both (live_set s) d)) (sym (entries_undone s c rows state)) (back_sound s laws c d (entries_of rows) same part h.good.sound),
    back_rows s laws c d rows state h.follows.fit same part,
    back_state s laws c d rows state h.follows.fit same,
  );
  exchanged_twice = λ p state apart. (
    twice_record s laws p state apart,
    twice_state s laws p state apart,
  );
  exchanged = λ start next xs ys a b state h ab ba. exchanged_stands s laws xs ys a b h ab ba;
}
