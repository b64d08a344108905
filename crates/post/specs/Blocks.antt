-- When the handler of a `when` fits the names that it begins with.
use Rattle.std.specs.Prelude.{false, ◌++◌, Option, Some, None}
use Rattle.std.proofs.Common.{refl}
use Rattle.kernele_scopes.specs.Scope.{name_of}
use Rattle.code.specs.Frames.{Frame, only_names, fits_all}
use Rattle.code.specs.Props.{fits_all-prop}
use Rattle.post.specs.declared.when.Handler.{Handler}

-- a handler begins with the captured names, and with the one that its problem is bound to
abbrev pub handler_fits : Frame → Option Handler → Type 0
handler_fits frame None = Unit {0}
handler_fits frame (Some h) = fits_all false (frame ++ only_names (name_of h.pattern)) h.block.value.items

-- which is a fact, and no choice
pub handler_fits-prop : (frame : Frame) (h : Option Handler) → IsProp (handler_fits frame h)
handler_fits-prop frame None a b = refl
handler_fits-prop frame (Some h) a b = fits_all-prop false (frame ++ only_names (name_of h.pattern)) h.block.value.items a b
