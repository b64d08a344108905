-- What a refusal does.
use Rattle.std.specs.Prelude.{◌≡◌, ℕ, List, Bool, ◌||◌, Option}
use Rattle.stepper_streams.specs.Outlet.{Tells}
use Rattle.stepper_streams.specs.declared.outlet.Outlet.{Outlet}
use Rattle.stepper.specs.declared.reply.Written.{Written}

-- this reply is given, a refusal or not
pub record Adds {W : Type 0} (contents : W → Option (List ℕ)) (old new : Written) (sink after : Outlet W) (reply : List ℕ) (refusal : Bool) : Type 0 where
  pub tells : Tells contents sink after reply
  pub refused : new.refused ≡ (old.refused || refusal)
