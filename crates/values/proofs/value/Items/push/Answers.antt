use Rattle.std.proofs.Common.{ap, ◌∙◌, [], ◌∷◌}
use Rattle.values.specs.Data.{no_vals, and_val}
use Rattle.values.specs.Replies.{joined}
use Rattle.values.specs.View.{val_of, vals_of}
use Rattle.values.proofs.Tables.{joined-vals_of}
use Rattle.values.proofs.Weighing.{measured_more, one_holds, none_held}
use Rattle.values.proofs.value.Items.push.Goals as goal
use Rattle.values.proofs.value.Items.push.Goals.{then-self, else-self}

pub invariant_of-self-2 : goal.invariant_of-self-2
invariant_of-self-2 c =
    measured_more c.self.inside.weight c.self.inside.depth c.item_weight.result c.item_depth.result c.max-depth.result c.self.inside.promised c.if-self.promised c.self.inside.row.items c.push.new.self.items c.args.item c.args.self.now
    c.self.invariant c.self.view_is c.requires.light c.requires.shallow c.in_ok-push.ensures.items c.item_weight.ensures c.item_depth.ensures.depth c.max-depth.ensures (elim c.if-self.branch [ then-self w ↦ one_holds _ w.promised-is w.if-self.true | else-self w ↦ none_held w.promised-is w.has_promise-promised.ensures w.if-self.false ])

pub returns : goal.returns
returns c =
    ap vals_of c.in_ok-push.ensures.items ∙ joined-vals_of c.self.inside.row.items (c.args.item ∷ [])
    ∙ ap (λ vs. joined vs (and_val (val_of c.args.item) no_vals)) c.self.view_is
