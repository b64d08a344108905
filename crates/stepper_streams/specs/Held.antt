-- What was read and not taken yet.
use Rattle.std.specs.Prelude.{ℕ, List, slice_range}
use Rattle.stepper_streams.specs.declared.held.Held.{Held}

abbrev pub held_bytes : Held → List ℕ
held_bytes h = slice_range h.block.items h.start h.end
