use Rattle.std.proofs.Common.{sym, ap, refl}
use Rattle.kernele_scopes.specs.Parts.{second}
use Rattle.kernele.proofs.Walks.{tree_is_object}
use Rattle.kernele_scopes.proofs.Constructs.{second_is_arguments, second_is_block, second_is_bound_block}
use Rattle.kernele_scopes.proofs.parts.second_part.Goals as goal

pub returns-in-Call : goal.returns-in-Call
returns-in-Call c = second_is_arguments c.in-Call.args c.in-Call.is c.deref-in-Call.ensures c.deref-in-Call-2.ensures.value

pub returns-in-If : goal.returns-in-If
returns-in-If c = second_is_block c.in-If.body c.in-If.is c.deref-in-If.ensures c.deref-in-If-2.ensures.value

pub returns-in-For : goal.returns-in-For
returns-in-For c = second_is_bound_block c.in-For.pattern c.in-For.body c.in-For.is c.deref-in-For.ensures c.deref-in-For-2.ensures.value

pub returns-in-Object : goal.returns-in-Object
returns-in-Object c = sym (ap second (tree_is_object c.in-Object.field-0 c.in-Object.methods c.in-Object.is refl c.deref-in-Object.ensures c.deref-in-Object-2.ensures.value))
