use Rattle.std.proofs.Common.{refl, ap, ◌∙◌}
use Rattle.kernele_scopes.specs.Scope.{with_names, names_in, definitions}
use Rattle.kernele_scopes.proofs.Names.{gathers, gathered, no_keys}
use Rattle.kernele_scopes.proofs.checking.Outer.for_asked.Goals as goal

pub loop-top-init : goal.loop-top-init
loop-top-init c = ap (with_names c.args.tops.now) c.in_ok-around.ensures

pub loop-top-preserved : goal.loop-top-preserved
loop-top-preserved c =
    gathers (λ ts. ts) (λ t. t) (λ t ts. refl) c.loop-top.around c.insert.new.self (record { name = _; kind = c.top-item.result.kind }) c.args.tops.now c.loop-top.top-index c.top-item.result c.loop-top-test.true c.top-item.is (λ i. record { name = c.in_ok-share.ensures i; kind = c.top-item.result.kind }) c.in_ok-insert.ensures.updates
    ∙ c.loop-top.invariant

pub returns : goal.returns
returns c =
    let around = gathered (λ ts. ts) refl (names_in (definitions c.args.earlier.now)) c.loop-top.around c.args.tops.now c.loop-top.top-index c.loop-top-test.false c.loop-top.invariant in
    let own = no_keys c.new-own.result c.new-own.ensures.empty in
    λ i. record { own = own i; around = around i }
