use Rattle.std.proofs.Common.{sym, ap, refl}
use Rattle.kernele_scopes.specs.Parts.{first}
use Rattle.kernele.proofs.Walks.{tree_is_list, tree_is_escape}
use Rattle.kernele_scopes.proofs.Constructs.{first_is_block}
use Rattle.kernele_scopes.proofs.parts.first_part.Goals as goal

pub returns-in-List : goal.returns-in-List
returns-in-List c = sym (ap first (tree_is_list c.in-List.items c.in-List.is c.deref-in-List.ensures c.deref-in-List-2.ensures.value))

pub returns-in-Hide : goal.returns-in-Hide
returns-in-Hide c = first_is_block c.in-Hide.body c.in-Hide.is c.deref-in-Hide.ensures c.deref-in-Hide-2.ensures.value

pub returns-in-Escape : goal.returns-in-Escape
returns-in-Escape c = sym (ap first (tree_is_escape c.in-Escape.name c.in-Escape.body c.in-Escape.is refl c.deref-in-Escape.ensures c.deref-in-Escape-2.ensures.value))
