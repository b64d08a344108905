use Rattle.std.proofs.Common.{◌≡◌, ◌+◌, ◌<◌, ◌≤◌, ◌==◌, cond, Some, length, get_or, ap, ◌∙◌, subst, arith}
use Rattle.journal.specs.Items.{item_of}
use Rattle.journal.specs.Journals.{items_of}
use Rattle.journal.specs.Lines.{line_of, lines_of}
use Rattle.causality.proofs.Telling.{journal_tells}
use Rattle.stepper_questions.specs.ChainView.{near_of, start_at, Knows}
use Rattle.stepper_questions.proofs.Looking.{put}
use Rattle.stepper_questions.proofs.Knowing.{knows_begin, knows_next, known_long}
use Rattle.stepper_questions.proofs.Reasons.{line_read}
use Rattle.stepper_questions.proofs.chain.reached.Goals as goal

pub loop-here-init : goal.loop-here-init
loop-here-init c =
    let j = c.args.journal in
    let lines = lines_of (items_of j) in
    let n = length j.settled.now in
    let from = c.args.from in
    let x = get_or j.entries.now from c.index-journal-from.result in
    let within : from < length j.entries.now = omega (arith, c.requires.order, c.requires.there) in
    let begun = knows_begin lines (journal_tells (items_of j) c.requires.journal) (n + from) (line_of (items_of j) (item_of x)) (line_read j from c.index-journal-from.result within)
    (near_of c.insert.new.self.entries)
    (λ e. put c.new-known.result.entries c.insert.new.self.entries x.event.name (start_at x.event.name (n + from)) c.in_ok-insert.ensures.updates.0 e
    ∙ ap (λ es. cond (e.0 == x.event.name.0) (Some (start_at x.event.name (n + from))) (near_of es e)) c.new-known.ensures.empty) in
    let next : n + from + 1 ≡ n + (from + 1) = omega arith in
    subst (λ b. Knows lines (n + from) b (near_of c.insert.new.self.entries)) next begun

pub reach-requires : goal.reach-requires
reach-requires c =
    let j = c.args.journal in
    known_long (lines_of (items_of j)) (journal_tells (items_of j) c.requires.journal) (length j.settled.now + c.args.from) (length j.settled.now + c.loop-here.here) (near_of c.loop-here.known.entries) c.loop-here.invariant

pub loop-here-preserved : goal.loop-here-preserved
loop-here-preserved c =
    let j = c.args.journal in
    let lines = lines_of (items_of j) in
    let n = length j.settled.now in
    let from = c.args.from in
    let here = c.loop-here.here in
    let x = get_or j.entries.now here c.index-journal-here.result in
    let within : here < length j.entries.now = omega (arith, c.loop-here-test.true, c.requires.there) in
    let low : from + 1 ≤ here = c.loop-here.auto.here in
    let behind : n + from < n + here = omega (arith, low) in
    let more = knows_next lines (journal_tells (items_of j) c.requires.journal) (n + from) (n + here) behind (near_of c.loop-here.known.entries) c.loop-here.invariant
    (line_of (items_of j) (item_of x)) (line_read j here c.index-journal-here.result within) (near_of c.reach.new.known.entries) c.in_ok-reach.ensures in
    let next : n + here + 1 ≡ n + (here + 1) = omega arith in
    subst (λ b. Knows lines (n + from) b (near_of c.reach.new.known.entries)) next more

pub returns : goal.returns
returns c =
    let j = c.args.journal in
    let n = length j.settled.now in
    let ends : n + c.loop-here.here ≡ n + c.args.to + 1 = omega (arith, c.loop-here-test.false, c.loop-here.auto.here-end, c.requires.order) in
    subst (λ b. Knows (lines_of (items_of j)) (n + c.args.from) b (near_of c.loop-here.known.entries)) ends c.loop-here.invariant
