use Rattle.std.proofs.Common.{subst}
use Rattle.heap.specs.State.{State}
use Rattle.stepper_printing.specs.Show.{StateLines}
use Rattle.stepper_printing.specs.PictureView.{contents_text}
use Rattle.stepper_printing.proofs.Listings.{nothing_shown}
use Rattle.stepper_printing.proofs.picture.held_by.Goals as goal

pub returns-in_ok-contents_of-in-Some : goal.returns-in_ok-contents_of-in-Some
returns-in_ok-contents_of-in-Some c = subst (λ (s : State). StateLines s (contents_text c.in_ok-contents_of-in-Some.field-0)) c.in-Some.ensures.there c.in_ok-contents_of-in-Some.ensures

pub returns-in-None : goal.returns-in-None
returns-in-None c = nothing_shown _ c.in-None.ensures.absent
