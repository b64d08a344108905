use Rattle.std.proofs.Common.{IsTrue, ◌↔◌, ◌∙◌, sym, subst}
use Rattle.heap.specs.Found.{Found}
use Rattle.heap.specs.State.{State}
use Rattle.book.proofs.tickets.is_found_at.Goals as goal

pub returns-in-Some : goal.returns-in-Some
returns-in-Some c = subst (λ (s : State). IsTrue c.is_found.result ↔ Found c.args.footprint.now s) c.in-Some.ensures.there c.is_found.ensures

pub returns-in-None : goal.returns-in-None
returns-in-None c = subst (λ (s : State). IsTrue c.is_found-in-None.result ↔ Found c.args.footprint.now s) (c.new.ensures.state ∙ sym c.in-None.ensures.absent) c.is_found-in-None.ensures
