use Rattle.kernele_scopes.proofs.Names.{no_keys}
use Rattle.kernele_scopes.proofs.checking.Outer.for_script.Goals as goal

pub returns : goal.returns
returns c =
    let own = c.in_ok-own.ensures in
    let around = no_keys c.new-around.result c.new-around.ensures.empty in
    λ i. record { own = own i; around = around i }
