use Rattle.std.proofs.Common.{◌≡◌, suc, ◌-◌, Some, IfOk, length, slice_get, sym, subst, arith}
use Rattle.std.proofs.lemmas.Option.{slice_get_within}
use Rattle.world_cells.specs.View.{world_of}
use Rattle.event.proofs.Ends.{last_is}
use Rattle.event.proofs.walks.last_fences.Goals as goal

pub returns-in-Some : goal.returns-in-Some
returns-in-Some c =
    let ps = c.args.through.now in
    let p = c.in-Some.promise.now in
    let there : slice_get ps (length ps - 1) ≡ Some p = sym c.in-Some.ensures.value in
    let many : suc (length ps - 1) ≡ length ps = omega (arith, slice_get_within ps (length ps - 1) p there) in
    subst (λ f. IfOk c.fences_of.result (λ a. a.value ≡ f)) (sym (last_is (world_of c.args.world.now) ps (length ps - 1) p many there)) c.fences_of.ensures
