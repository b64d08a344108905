use Rattle.std.proofs.Common.{◌≡◌, ◌++◌, drop}
use Rattle.event.proofs.Adding.{keys_from}
use Rattle.event.proofs.making.touch_letters.Given as goal

-- the messages from the place on are left
abbrev pub invariant-loop-place : goal.invariant-loop-place
invariant-loop-place l = l.initial.touched.items ++ keys_from l.event 0 l.letters ≡ l.touched.items ++ keys_from l.event l.place (drop l.place l.letters)
