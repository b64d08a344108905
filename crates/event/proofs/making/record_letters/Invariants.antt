use Rattle.std.proofs.Common.{◌≡◌, ◌++◌, drop}
use Rattle.world_cells.specs.Theory.{kepts_of}
use Rattle.event.proofs.Adding.{letters_kept}
use Rattle.event.proofs.making.record_letters.Given as goal

-- the messages from the place on are left
abbrev pub invariant-loop-place : goal.invariant-loop-place
invariant-loop-place l = kepts_of l.initial.records.items ++ letters_kept l.event 0 l.letters ≡ kepts_of l.records.items ++ letters_kept l.event l.place (drop l.place l.letters)
