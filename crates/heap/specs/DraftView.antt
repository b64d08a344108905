-- How the fields of a draft are seen.
use Rattle.std.specs.Prelude.{◌≤◌, length}
use Rattle.std.specs.Arc.{arc_value}
use Rattle.heap.specs.Drafted.{Drafted}
use Rattle.heap.specs.declared.draft.Draft.TheInside.{Inside}

abbrev pub drafted : Inside → Drafted
drafted d = record { began = arc_value d.base.state; footprint = d.base.footprint; event = d.event; vat = d.vat; slots = d.slots.items; objects = d.objects.items }

-- the number of each slot, and of each object, is a `u32`
pub record IsNumbered (d : Inside) : Type 0 where
  pub slots : length d.slots.items ≤ 4294967295
  pub objects : length d.objects.items ≤ 4294967295
