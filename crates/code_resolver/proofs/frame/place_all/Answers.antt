use Rattle.std.proofs.Common.{◌∙◌, ◌+◌, ◌++◌, ap, sym, subst, drop}
use Rattle.code.specs.Frames.{all_placed, captured_names_of, place_in}
use Rattle.code_resolver.proofs.Places.{captured-push, placed-push}
use Rattle.code_resolver.proofs.frame.place_all.Goals as goal

pub loop-name-preserved : goal.loop-name-preserved
loop-name-preserved c =
    let cs = c.loop-name.captures.items in
    let pushed = c.in_ok-push.ensures.items in
    let shared = c.in_ok-share.ensures in
    record {
      names = ap (λ ds. captured_names_of ds ++ drop (c.loop-name.name-index + 1) c.args.names.now) pushed
          ∙ captured-push cs _ c.args.names.now c.loop-name.name-index c.name-item.result c.loop-name-test.true c.name-item.is shared ∙ c.loop-name.invariant.names;
      places = subst (all_placed c.args.frame.now) (sym pushed) (placed-push c.args.frame.now cs _ c.loop-name.invariant.places (c.find_place-place.ensures ∙ ap (place_in c.args.frame.now) (sym shared)));
    }
