use Rattle.std.proofs.Common.{sym, ap, ◌∙◌}
use Rattle.heap.specs.State.{State}
use Rattle.sends.specs.Playing.{views_in}
use Rattle.book_agenda.proofs.ways.VatViewsResolve.resolution.Goals as goal

pub returns-in-Some : goal.returns-in-Some
returns-in-Some c = c.known_in.ensures ∙ ap (λ (s : State). views_in s c.args.promise) c.in-Some.ensures.there

pub returns-in-None : goal.returns-in-None
returns-in-None c = sym (ap (λ (s : State). views_in s c.args.promise) c.in-None.ensures.absent)
