use Rattle.std.proofs.Common.{ap, ◌∙◌}
use Rattle.kernele.specs.View.{tree_of}
use Rattle.code.specs.Frames.{Frame, place_in}
use Rattle.code_resolver.specs.Resolves.{right_side}
use Rattle.code_resolver.proofs.Made.{resolved_as, resolved_def, resolved_var, resolved_assign, resolved_primitive}
use Rattle.code_resolver.proofs.Sides.{same_side}
use Rattle.code_resolver.proofs.resolving.with_right.Goals as goal

pub returns-in_ok-share-in-Def : goal.returns-in_ok-share-in-Def
returns-in_ok-share-in-Def c = λ f r is h. resolved_as (ap tree_of c.in-Def.is) (resolved_def c.in_ok-share-in-Def.ensures (same_side (ap right_side c.in-Def.is) is h) c.in_ok-add_bound-in-Def.ensures)

pub returns-in_ok-share-in-Var : goal.returns-in_ok-share-in-Var
returns-in_ok-share-in-Var c = λ f r is h. resolved_as (ap tree_of c.in-Var.is) (resolved_var c.in_ok-share-in-Var.ensures (same_side (ap right_side c.in-Var.is) is h) c.in_ok-add_name-in-Var.ensures)

pub returns-in_ok-share-in-Assign : goal.returns-in_ok-share-in-Assign
returns-in_ok-share-in-Assign c =
    let at = c.find_place-place.ensures ∙ ap (λ (f : Frame). place_in f c.in-Assign.name) c.deref.ensures.value in
    λ f r is h. resolved_as (ap tree_of c.in-Assign.is) (resolved_assign c.in_ok-share-in-Assign.ensures (same_side (ap right_side c.in-Assign.is) is h) at)

pub returns-in-Primitive : goal.returns-in-Primitive
returns-in-Primitive c = λ f r is h. resolved_as (ap tree_of c.in-Primitive.is) (resolved_primitive _ (same_side (ap right_side c.in-Primitive.is) is h))
