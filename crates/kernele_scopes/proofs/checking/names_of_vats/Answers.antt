use Rattle.std.proofs.Common.{refl, ap, ◌∙◌}
use Rattle.kernele_scopes.specs.Scope.{with_names, definitions, defined_name, no_names}
use Rattle.kernele_scopes.proofs.Names.{gathers, gathered, no_keys}
use Rattle.kernele_scopes.proofs.checking.names_of_vats.Goals as goal

pub loop-name-init : goal.loop-name-init
loop-name-init c = ap (with_names (definitions c.args.earlier.now)) (no_keys c.new-names.result c.new-names.ensures.empty)

pub loop-name-preserved : goal.loop-name-preserved
loop-name-preserved c =
    gathers definitions defined_name (λ x xs. refl) c.loop-name.names c.insert.new.self (defined_name _) c.args.earlier.now c.loop-name.name-index c.name-item.result c.loop-name-test.true c.name-item.is (ap defined_name c.in_ok-share.ensures) c.in_ok-insert.ensures.updates
    ∙ c.loop-name.invariant

pub returns : goal.returns
returns c = gathered definitions refl no_names c.loop-name.names c.args.earlier.now c.loop-name.name-index c.loop-name-test.false c.loop-name.invariant
