use Rattle.std.proofs.Common.{ap, rules, ◌∙◌}
use Rattle.std.specs.Map.Iter.{deref}
use Rattle.std.proofs.lemmas.Map.Iter.{rest_more, rest_all}
use Rattle.book_agenda.specs.AgendaView.{is_among}
use Rattle.book_agenda.proofs.Ranges.{vats_at, at_other_promise, vats_waiting, nothing_more}
use Rattle.book_agenda.proofs.agenda.Agenda.vats_that_wait.Goals as goal

pub returns-then-ne : goal.returns-then-ne
returns-then-ne c = λ v.
    let p = c.args.promise in
    let last = ap (vats_at p) (rest_more deref _ _ _ _ c.in-Some.is c.next.ensures.steps) ∙ at_other_promise p _ _ (search rules) in
    ap (λ vs. is_among vs v) (nothing_more _ _ _ last c.loop-open.invariant) ∙ vats_waiting p c.args.self.now.open c.range-open-items.ensures.ordered v

pub returns : goal.returns
returns c = λ v.
    let p = c.args.promise in
    let last = ap (vats_at p) (rest_all deref _ _ _ c.in-None.is c.next.ensures.steps) in
    ap (λ vs. is_among vs v) (nothing_more _ _ _ last c.loop-open.invariant) ∙ vats_waiting p c.args.self.now.open c.range-open-items.ensures.ordered v
