use Rattle.refs.proofs.Rules.{what_ends_is_led, what_has_no_end_circles, what_is_led_ends, what_circles_has_no_end, one_end, no_end_in_a_ring}
use Rattle.refs.proofs.theorems.walks_are_lawful.Goals as goal

pub returns : goal.returns
returns c = record { led = what_ends_is_led; ringed = what_has_no_end_circles; found = what_is_led_ends; without_end = what_circles_has_no_end; one = one_end; exclusive = no_end_in_a_ring }
