-- The text of what may be done.
use Rattle.std.specs.Prelude.{ℕ, List}
use Rattle.stepper_printing.specs.Steps.{enabled_text}
use Rattle.stepper_printing.specs.declared.choice.Choice.{Choice}

abbrev pub choice_text : Choice → List ℕ
choice_text c = enabled_text c.vats.entries c.steps.items
