use Rattle.turn_deliveries.proofs.Begun.{none_leaves}
use Rattle.turn_deliveries.proofs.Turns.{delivery_same, delivery_somehow, delivery_within, delivery_framed, delivery_un, delivery_left, delivery_counted, delivery_deep, delivery_in_room}
use Rattle.turn_deliveries.proofs.theorems.turns_are_lawful.Goals as goal

pub returns : goal.returns
returns c = record {
  one_outcome = λ g f e v s n o p r q. delivery_same r q;
  has_an_outcome = delivery_somehow;
  writes_are_touched = λ g f e v s n o r. delivery_within r;
  frame = λ g f e v s n o r u m. delivery_framed r u m;
  others_stay = λ g f e v s n o r c h. delivery_un r c h;
  within_budget = λ g f e v s n o r. delivery_left r;
  budget_is_nodes = λ g f e v s n o r. delivery_counted r;
  none_runs_too_deep = λ g f e v s n o r. delivery_deep r;
  stays_in_room = λ g f e v s n o r. delivery_in_room r;
  no_ejection_leaves = λ d f e w s n b j v r. none_leaves r;
}
