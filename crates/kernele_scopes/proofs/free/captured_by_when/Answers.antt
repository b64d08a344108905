use Rattle.std.proofs.Common.{[], ◌++◌}
use Rattle.kernele.specs.View.{trees_of}
use Rattle.kernele_scopes.specs.Scope.{name_of}
use Rattle.kernele_scopes.specs.Free.{free_in}
use Rattle.kernele_scopes.proofs.Finding.{found_in_two}
use Rattle.kernele_scopes.proofs.free.captured_by_when.Goals as goal

pub returns : goal.returns
returns c =
    found_in_two (λ bs. free_in (trees_of c.args.body.now) (bs ++ [])) (λ bs. free_in (trees_of c.args.handler.now) (bs ++ name_of c.args.pattern.now))
    c.new-inside.ensures.items c.new-found.ensures.items c.in_ok-find_in_block.ensures.inside c.in_ok-find_in_block.ensures.found c.in_ok-find_in_block-2.ensures.found
