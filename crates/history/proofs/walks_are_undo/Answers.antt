use Rattle.history.proofs.Walking.{undo_walked, redo_walked}
use Rattle.history.proofs.walks_are_undo.Goals as goal

pub returns : goal.returns
returns g c = record { undo = undo_walked g.S.Undoable.subject; redo = redo_walked g.S.Undoable.subject }
