use Rattle.std.proofs.Common.{ap, sym, ◌∙◌, cond, Some, None}
use Rattle.kernele.specs.View.{trees_of}
use Rattle.ereader_grammar.specs.Reading.{◌>>=◌, ended}
use Rattle.ereader_grammar.specs.View.{plain}
use Rattle.ereader_parser.proofs.Views.{is_empty-plain}
use Rattle.ereader.proofs.all_items.Goals as goal

-- tokens are left behind the block
pub returns-then-not-is_empty : goal.returns-then-not-is_empty
returns-then-not-is_empty c =
    let rest = c.block.new.self.rest.now in
    ap (λ o. o >>= ended) c.in_ok-items.ensures.gives
    ∙ ap (λ b. cond b (Some (trees_of c.in_ok-items.items.items, plain rest)) None) (sym (is_empty-plain rest) ∙ sym c.is_empty.ensures ∙ c.if-not-is_empty.true)
