-- Which bytes stand as they are between quotation marks, and how others are put one by one.
use Rattle.std.specs.Prelude.{◌≡◌, ◌-◌, ℕ, Bool, not, ◌==◌, ◌&&◌, List, ◌++◌, length, Option}
use Rattle.std.specs.List.{flat_map}
use Rattle.ids.specs.Quoted.{quoted_byte}
use Rattle.stepper_streams.specs.Outlet.{Tells}
use Rattle.stepper_streams.specs.declared.outlet.Outlet.{Outlet}

abbrev pub is_plain : ℕ → Bool
is_plain b = not (b == 34) && not (b == 92) && not (b == 10) && not (b == 9) && not (b == 13)

-- the first of these bytes is put, if there is one, and the others are left
pub record PutsFirst {W : Type 0} (contents : W → Option (List ℕ)) (out after : Outlet W) (bytes rest : List ℕ) : Type 0 where
  pub first : List ℕ
  pub cut : bytes ≡ first ++ rest
  pub less : length rest ≡ length bytes - 1
  pub tells : Tells contents out after (flat_map quoted_byte first)
