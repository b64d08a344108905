use Rattle.std.proofs.Common.{◌+◌, length}
use Rattle.journal.specs.Journals.{items_of}
use Rattle.journal.specs.Lines.{lines_of}
use Rattle.stepper_questions.proofs.Reasons.{open_within}
use Rattle.stepper_questions.proofs.Standings.{open_place, pair_open}
use Rattle.stepper_questions.proofs.Writing.{why_told}
use Rattle.stepper_questions.proofs.why.why.Goals as goal

pub relation_between-requires-clause-first : goal.relation_between-requires-clause-first
relation_between-requires-clause-first c = open_within c.args.journal c.args.event c.in_ok-place.place c.in_ok-place.ensures.0

pub relation_between-requires-clause-second : goal.relation_between-requires-clause-second
relation_between-requires-clause-second c = open_within c.args.journal c.args.other c.in_ok-place.another c.in_ok-place.ensures.1

pub returns-clause-told : goal.returns-clause-told
returns-clause-told c =
    let j = c.args.journal in
    let n = length j.settled.now in
    let lines = lines_of (items_of j) in
    why_told lines c.args.event c.args.other (n + c.in_ok-place.place) (n + c.in_ok-place.another)
    (open_place n lines c.args.event c.in_ok-place.place c.in_ok-place.ensures.0) (open_place n lines c.args.other c.in_ok-place.another c.in_ok-place.ensures.1) _ c.in_ok-relation.ensures

pub returns-clause-open : goal.returns-clause-open
returns-clause-open c = pair_open (length c.args.journal.settled.now) (lines_of (items_of c.args.journal)) c.args.event c.args.other c.in_ok-place.place c.in_ok-place.another c.in_ok-place.ensures.0 c.in_ok-place.ensures.1
