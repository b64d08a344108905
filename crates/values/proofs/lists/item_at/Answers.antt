use Rattle.std.proofs.Common.{ap, ◌∙◌, w64, to_z, of_z}
use Rattle.std.proofs.lemmas.Int.{to_z-of_z}
use Rattle.values.specs.Replies.{at_index}
use Rattle.values.specs.View.{vals_of}
use Rattle.values.proofs.Tables.{item_at-got, index_from}
use Rattle.values.proofs.lists.item_at.Goals as goal

pub returns : goal.returns
returns c =
    item_at-got c.get.result c.args.items.now c.in_ok-ok.field-0 c.get.ensures.lookup.1 c.get.ensures.lookup.3
    ∙ ap (at_index (vals_of c.args.items.now)) (index_from c.try_from.result (to_z w64 (of_z w64 c.args.index)) c.in_ok-ok.field-0 c.try_from.ensures c.in_ok-ok.ensures.value ∙ to_z-of_z w64 c.args.index c.ranges.index)
