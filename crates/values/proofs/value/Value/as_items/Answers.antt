use Rattle.std.proofs.Common.{ap, sym}
use Rattle.values.specs.Replies.{items_in}
use Rattle.values.proofs.Views.{list_is}
use Rattle.values.proofs.value.Value.as_items.Goals as goal

pub returns-in-List : goal.returns-in-List
returns-in-List c = ap items_in (sym (list_is c.args.self.now c.in-List.items c.deref.result.now c.as_slice.result.now c.in-List.is c.deref.ensures c.as_slice.ensures))
