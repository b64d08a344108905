use Rattle.std.proofs.Common.{◌≡◌, ◌+◌, ◌-◌, ◌<◌, ◌≤◌, ◌∙◌, length, sym, ap, arith}
use Rattle.std.specs.Option.{option_map}
use Rattle.journal.specs.Journals.{items_of}
use Rattle.book_refusals.specs.Refusals.{not_live}
use Rattle.book_refusals.proofs.Placed.{items_length, settles_settled, settles_open, all_live}
use Rattle.book_refusals.proofs.checks.check_settle.Goals as goal

pub returns-then-position-journal-clause-err : goal.returns-then-position-journal-clause-err
returns-then-position-journal-clause-err c =
    let j = c.args.journal in
    let some : 0 < c.args.position = omega (arith, c.if-position-eq0.false) in
    let within : c.args.position ≤ length (items_of j) = omega (arith, c.if-position-len.false, c.len.ensures) in
    settles_settled (length j.settled.now) c.args.position (items_of j) c.name_at.result some within c.if-position-journal.true c.name_at.ensures

pub returns-in-Some-clause-err : goal.returns-in-Some-clause-err
returns-in-Some-clause-err c =
    let j = c.args.journal in
    let count = c.args.position - length j.settled.now in
    let many = items_length j in
    let is : c.args.position ≡ length j.settled.now + count = omega (arith, c.if-position-journal.false) in
    let some : 0 < count = omega (arith, c.if-position-journal.false) in
    let few : count ≤ length j.entries.now = omega (arith, c.if-position-journal.false, c.if-position-len.false, c.len.ensures, many) in
    settles_open j c.args.position count is some few ∙ ap (option_map not_live) (sym c.first_undone.ensures ∙ c.in-Some.is)

pub returns-in-None-clause-live : goal.returns-in-None-clause-live
returns-in-None-clause-live c = all_live (c.args.position - length c.args.journal.settled.now) c.args.journal.entries.now (sym c.first_undone.ensures ∙ c.in-None.is)

pub returns-in-None-clause-ok : goal.returns-in-None-clause-ok
returns-in-None-clause-ok c =
    let j = c.args.journal in
    let count = c.args.position - length j.settled.now in
    let many = items_length j in
    let is : c.args.position ≡ length j.settled.now + count = omega (arith, c.if-position-journal.false) in
    let some : 0 < count = omega (arith, c.if-position-journal.false) in
    let few : count ≤ length j.entries.now = omega (arith, c.if-position-journal.false, c.if-position-len.false, c.len.ensures, many) in
    settles_open j c.args.position count is some few ∙ ap (option_map not_live) (sym c.first_undone.ensures ∙ c.in-None.is)
