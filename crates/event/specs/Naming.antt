-- Vats by their names.
use Rattle.std.specs.Prelude.{◌≡◌, List, map}
use Rattle.ids.specs.declared.names.VatNo.{VatNo}
use Rattle.kernele.specs.Tree.{Name}
use Rattle.post.specs.Messages.{Vat}
use Rattle.world_cells.specs.World.{World}
use Rattle.event.specs.Events.{AreNamed}

-- the numbers of the vats of these names
pub record Numbers (w : World) (names : List Name) (numbers : List VatNo) : Type 0 where
  pub vats : List Vat
  pub named : AreNamed w names vats
  pub numbered : map (λ v. v.number) vats ≡ numbers
