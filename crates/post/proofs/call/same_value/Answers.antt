use Rattle.values.specs.View.{val_of}
use Rattle.post.proofs.Arguments.{value_told}
use Rattle.post.proofs.call.same_value.Goals as goal

pub returns : goal.returns
returns c = value_told (val_of c.args.a.now) (val_of c.args.b.now) c.same.result c.same.ensures
