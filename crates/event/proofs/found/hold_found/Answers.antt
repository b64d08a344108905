use Rattle.std.proofs.Common.{refl, sym, ◌∙◌, arith}
use Rattle.std.specs.Option.{option_copied}
use Rattle.std.proofs.lemmas.Bool.{false≢true}
use Rattle.cells.specs.Seen.{seen}
use Rattle.event.proofs.Finding.{tests_same, found_next, found_all, found_there}
use Rattle.event.proofs.found.hold_found.Goals as goal

pub loop-place-preserved : goal.loop-place-preserved
loop-place-preserved g c =
    let eq = g.K.PartialEq.eq in
    let content = g.V.StandsFor.content in
    let touches = c.args.touches.now in
    let cells = c.args.cells.now in
    let k = c.at.result.0.now in
    let t = c.at.result.1.now in
    let tells = tests_same content (option_copied c.as_ref.result) (option_copied c.get.result) t.found (seen eq cells k).0 c.both_hold.result c.as_ref.ensures.value c.get.ensures c.both_hold.ensures in
    found_next eq content touches cells c.loop-place.place k t c.loop-place.invariant c.at.ensures (tells.0 c.if-not-both_hold.false)

pub returns : goal.returns
returns g c = (
  λ t. found_all g.K.PartialEq.eq g.V.StandsFor.content c.args.touches.now c.args.cells.now g.met.K.Key.exact c.loop-place.place (omega (arith, c.len-place-end.ensures.count)) c.loop-place.invariant,
  λ all. refl,
)

pub returns-then-not-both_hold : goal.returns-then-not-both_hold
returns-then-not-both_hold g c =
    let eq = g.K.PartialEq.eq in
    let content = g.V.StandsFor.content in
    let touches = c.args.touches.now in
    let cells = c.args.cells.now in
    let k = c.at.result.0.now in
    let t = c.at.result.1.now in
    let tells = tests_same content (option_copied c.as_ref.result) (option_copied c.get.result) t.found (seen eq cells k).0 c.both_hold.result c.as_ref.ensures.value c.get.ensures c.both_hold.ensures in (
      λ no. absurd (false≢true no),
      λ all. sym c.if-not-both_hold.true ∙ tells.1 (found_there eq content touches cells g.met.K.Eq.laws c.len-place-end.ensures.unique c.loop-place.place k t c.at.ensures all),
    )
