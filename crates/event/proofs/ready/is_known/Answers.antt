use Rattle.std.proofs.Common.{not, is_some, sym, ap, ◌∙◌}
use Rattle.heap.specs.View.{state_of}
use Rattle.sends.specs.Playing.{views_in}
use Rattle.values.specs.View.{val_of}
use Rattle.event.proofs.Ends.{known_is, none_told}
use Rattle.event.proofs.ready.is_known.Goals as goal

pub returns : goal.returns
returns c =
    none_told c.as_promise.result c.is_none.result c.is_none.ensures ∙ ap (λ o. not (is_some o)) c.as_promise.ensures
    ∙ sym (known_is (views_in (state_of c.args.state.now)) (val_of c.args.value.now) (val_of c.in_ok-end.end) c.in_ok-end.ensures.end)
