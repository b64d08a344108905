-- Expressions that have a right side, and what they make of its end.
use Rattle.std.specs.Prelude.{◌≡◌, Option, Some, None}
use Rattle.code.specs.Frames.{place_in}
use Rattle.code.specs.declared.code.Code as code
use Rattle.code.specs.declared.code.Code.{Code}
use Rattle.eval_rules.specs.At.{At}
use Rattle.eval_rules.specs.Fits.{frame_at}
use Rattle.eval_rules.specs.Doings.{datum_of, datum_read}
use Rattle.eval_rules.specs.Outcomes.{End}
use Rattle.eval_rules.specs.Rules.{defined, declared, declared_end, assigned, assigned_end, sought_slot, parts_of, parts_bound, parts_end, primitive_end}

-- the right side of a definition, a variable, an assignment and a primitive
abbrev pub right_side : Code → Option Code
right_side (code.Def' pattern p e) = Some e
right_side (code.Var' x p e) = Some e
right_side (code.Assign' x at p e) = Some e
right_side (code.DefList' patterns p e) = Some e
right_side (code.Primitive' q p e) = Some e
right_side _ = None

-- how an expression ends whose right side ended so ..
abbrev pub taken_end : Code → End → At → End
taken_end (code.Var' x p e) o a = declared_end o a
taken_end (code.Assign' x at p e) o a = assigned_end x o (sought_slot x a)
taken_end (code.DefList' patterns p e) o a = parts_end o (parts_of patterns.value.items (datum_of o a))
taken_end (code.Primitive' q p e) o a = primitive_end (datum_of o a) a.vat q
taken_end _ o a = o

-- .. and where
abbrev pub taken_at : Code → End → At → At
taken_at (code.Def' pattern p e) o a = defined pattern o a
taken_at (code.Var' x p e) o a = declared x o a
taken_at (code.Assign' x at p e) o a = assigned x o a
taken_at (code.DefList' patterns p e) o a = parts_bound patterns.value.items (parts_of patterns.value.items (datum_of o a)) (datum_read o a)
taken_at (code.Primitive' q p e) o a = datum_read o a
taken_at _ o a = a

-- the name that is assigned is at its place
abbrev pub is_placed : At → Code → Type 0
is_placed a (code.Assign' x at p e) = at ≡ place_in (frame_at a) x
is_placed a _ = Unit {0}
