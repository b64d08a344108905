use Rattle.std.proofs.Common.{◌≡◌, [], not, is_some, IfOk, sym, ap, ◌∙◌, subst}
use Rattle.heap.specs.State.{State, view_cell}
use Rattle.refs.specs.Walks.{walk, most_walked}
use Rattle.sends.specs.Playing.{views_in}
use Rattle.sends.specs.Vats.{resolution_in}
use Rattle.values.specs.View.{val_of}
use Rattle.world_cells.specs.View.{world_of}
use Rattle.world_cells.specs.World.{vat_state}
use Rattle.event.specs.Walks.{is_known}
use Rattle.event.proofs.Ends.{known_is, none_told, nothing_followed}
use Rattle.event.proofs.ready.is_known_at.Goals as goal

pub returns-in-Some : goal.returns-in-Some
returns-in-Some c = subst (λ (s : State). IfOk c.is_known.result (λ b. b ≡ is_known (walk most_walked (views_in s) [] (val_of c.args.value.now)).end)) c.in-Some.ensures.there c.is_known.ensures

pub returns-in-None : goal.returns-in-None
returns-in-None c =
    let m = views_in (vat_state (world_of c.args.world.now) c.args.vat) in
    let v = val_of c.args.value.now in
    none_told c.as_promise.result c.is_none.result c.is_none.ensures ∙ ap (λ o. not (is_some o)) c.as_promise.ensures
    ∙ sym (known_is m v v (nothing_followed m v (λ p. ap (λ (s : State). resolution_in (s (view_cell p))) c.in-None.ensures.absent)))
