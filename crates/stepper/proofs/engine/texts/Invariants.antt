use Rattle.std.proofs.Common.{◌≡◌, ◌++◌, drop, map}
use Rattle.stepper_commands.specs.Words.{words_in}
use Rattle.stepper.proofs.engine.texts.Given as goal

-- the names so far, and those that are left
abbrev pub invariant-loop-name : goal.invariant-loop-name
invariant-loop-name l = l.texts.items ++ map (λ x. x.now) (drop l.name-index l.name-items) ≡ words_in l.words
