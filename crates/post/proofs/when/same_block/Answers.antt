use Rattle.std.proofs.Common.{sym, ◌∙◌}
use Rattle.code.specs.View.{trees_of_codes}
use Rattle.code.proofs.Alike.{blocks_told}
use Rattle.post.proofs.when.same_block.Goals as goal

pub returns : goal.returns
returns c =
    let told = blocks_told (trees_of_codes c.args.xs.now.value.items) (trees_of_codes c.args.ys.now.value.items) in
    (λ t. told.0 (sym c.same_codes.ensures ∙ t), λ e. c.same_codes.ensures ∙ told.1 e)
