use Rattle.heap.specs.View.{state_of}
use Rattle.stepper_printing.proofs.Listings.{state_shown}
use Rattle.stepper_printing.proofs.picture.contents_of.Goals as goal

pub returns : goal.returns
returns c =
    let e = c.in_ok-contents.ensures in
    state_shown (state_of c.args.state.now) c.in_ok-contents.contents
    (record { nouns = e.nouns; slots = e.slots; objects = e.objects; views = e.views; fences = e.fences })
    c.in_order.ensures c.in_order-2.ensures c.in_order-3.ensures c.in_order-4.ensures c.in_order-5.ensures
