use Rattle.std.proofs.Common.{sym, ap, refl}
use Rattle.kernele_scopes.specs.Parts.{third}
use Rattle.kernele.proofs.Walks.{tree_is_if, tree_is_when_catch}
use Rattle.kernele_scopes.proofs.parts.third_part.Goals as goal

pub returns-in-If : goal.returns-in-If
returns-in-If c = sym (ap third (tree_is_if c.in-If.field-0 c.in-If.field-1 c.in-If.body c.in-If.is refl refl refl c.deref.ensures c.deref-in-If.ensures.value))

pub returns-in-WhenCatch : goal.returns-in-WhenCatch
returns-in-WhenCatch c =
    sym (ap third (tree_is_when_catch c.in-WhenCatch.field-0 c.in-WhenCatch.field-1 c.in-WhenCatch.pattern c.in-WhenCatch.handler c.in-WhenCatch.is refl refl refl refl c.deref-in-WhenCatch.ensures c.deref-in-WhenCatch-2.ensures.value))
