use Rattle.history.proofs.Cones.{cone_closed, cone_has_root, cone_least, cone_part, closed_outside, outside_closed}
use Rattle.history.proofs.cones_are_least.Goals as goal

pub returns : goal.returns
returns g c = let s = g.S.Undoable.subject in record {
  cone_is_closed = λ next t root es h. cone_closed s t root es h.distinct;
  cone_has_root = λ t root es. cone_has_root s t root es;
  cone_is_least = λ next t d root es h. cone_least s t d root es h.distinct;
  cone_is_part = λ next t root es h. cone_part s t root es h.distinct;
  closed_is_none_outside = λ next t d es h ordered. (
    closed_outside s t d es h.own ordered,
    outside_closed s t d es,
  );
}
