use Rattle.std.proofs.Common.{ap, rules, ◌∙◌}
use Rattle.std.specs.Map.Iter.{deref}
use Rattle.std.proofs.lemmas.Map.Iter.{rest_more, rest_all}
use Rattle.book_agenda.specs.AgendaView.{is_in}
use Rattle.book_agenda.proofs.Ranges.{messages_at, at_other_cue, messages_watching, nothing_more}
use Rattle.book_agenda.proofs.agenda.Agenda.watchers_of.Goals as goal

pub returns-then-ne : goal.returns-then-ne
returns-then-ne c = λ m.
    let n = c.args.cue in
    let last = ap (messages_at n) (rest_more deref _ _ _ _ c.in-Some.is c.next.ensures.steps) ∙ at_other_cue n _ _ (search rules) in
    ap (λ ms. is_in ms m) (nothing_more _ _ _ last c.loop-watcher.invariant) ∙ messages_watching n c.args.self.now.watchers c.range-watcher-items.ensures.ordered m

pub returns : goal.returns
returns c = λ m.
    let n = c.args.cue in
    let last = ap (messages_at n) (rest_all deref _ _ _ c.in-None.is c.next.ensures.steps) in
    ap (λ ms. is_in ms m) (nothing_more _ _ _ last c.loop-watcher.invariant) ∙ messages_watching n c.args.self.now.watchers c.range-watcher-items.ensures.ordered m
