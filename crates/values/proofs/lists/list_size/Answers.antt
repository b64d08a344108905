use Rattle.std.proofs.Common.{ap, sym, pos}
use Rattle.values.specs.Replies.{fitted}
use Rattle.values.proofs.Tables.{count_of-vals_of, replied}
use Rattle.values.proofs.lists.list_size.Goals as goal

pub returns : goal.returns
returns c = replied c.sized.result _ _ (ap (λ n. fitted (pos n)) (sym (count_of-vals_of c.args.items.now))) c.sized.ensures
