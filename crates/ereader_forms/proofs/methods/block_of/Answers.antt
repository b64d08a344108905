use Rattle.std.proofs.Common.{Bool, ap, sym}
use Rattle.kernele.specs.View.{trees_of}
use Rattle.ereader_forms.specs.Forms.{block_of}
use Rattle.ereader_forms.proofs.methods.block_of.Goals as goal

pub returns-else-returns : goal.returns-else-returns
returns-else-returns c = ap (λ (r : Bool). block_of r (trees_of c.args.body.items)) (sym c.if-returns.false)
