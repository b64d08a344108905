use Rattle.std.proofs.Common.{◌<◌, ◌∙◌, length, ap, arith}
use Rattle.journal.specs.Items.{is_live}
use Rattle.journal.specs.Journals.{items_of}
use Rattle.book_refusals.proofs.Placed.{placed_settled, undone_first, undone_second, undone_neither, placed_is, stood_at, line, before_it, behind_it}
use Rattle.book_refusals.proofs.checks.check_exchange.Goals as goal

pub returns-then-position-journal-clause-err : goal.returns-then-position-journal-clause-err
returns-then-position-journal-clause-err c =
    let j = c.args.journal in
    let some : 0 < c.args.position = omega (arith, c.if-position-eq0.false) in
    let within : c.args.position < length (items_of j) = omega (arith, c.if-position-len.false, c.if-position-len-2.false, c.len.ensures, c.len-2.ensures) in
    placed_settled (length j.settled.now) c.args.position (items_of j) c.name_at.result some within c.if-position-journal.true c.name_at.ensures

pub returns-in-Undone-default-clause-err : goal.returns-in-Undone-default-clause-err
returns-in-Undone-default-clause-err c =
    let j = c.args.journal in
    let p = c.args.position in
    let d = c.index-journal-place.result in
    let e = c.index-journal-place-2.result in
    let behind : length j.settled.now < p = omega (arith, c.if-position-journal.false) in
    let within : p < length (items_of j) = omega (arith, c.if-position-len.false, c.if-position-len-2.false, c.len.ensures, c.len-2.ensures) in
    placed_is j p d e behind within
    ∙ undone_first (line j p d e behind within (before_it j p d e behind within)) (line j p d e behind within (behind_it j p d e behind within)) (ap is_live c.in-Undone-default.is-0)

pub returns-in_default-Undone-clause-err : goal.returns-in_default-Undone-clause-err
returns-in_default-Undone-clause-err c =
    let j = c.args.journal in
    let p = c.args.position in
    let d = c.index-journal-place.result in
    let e = c.index-journal-place-2.result in
    let behind : length j.settled.now < p = omega (arith, c.if-position-journal.false) in
    let within : p < length (items_of j) = omega (arith, c.if-position-len.false, c.if-position-len-2.false, c.len.ensures, c.len-2.ensures) in
    placed_is j p d e behind within
    ∙ undone_second (line j p d e behind within (before_it j p d e behind within)) (line j p d e behind within (behind_it j p d e behind within)) (ap is_live c.in_default-Undone.is-0) (ap is_live c.in_default-Undone.is-1)

pub returns-in-Live-Live-clause-stood : goal.returns-in-Live-Live-clause-stood
returns-in-Live-Live-clause-stood c =
    let j = c.args.journal in
    let p = c.args.position in
    let behind : length j.settled.now < p = omega (arith, c.if-position-journal.false) in
    let within : p < length (items_of j) = omega (arith, c.if-position-len.false, c.if-position-len-2.false, c.len.ensures, c.len-2.ensures) in
    stood_at j p c.index-journal-place.result c.index-journal-place-2.result behind within

pub returns-in-Live-Live-clause-ok : goal.returns-in-Live-Live-clause-ok
returns-in-Live-Live-clause-ok c =
    let j = c.args.journal in
    let p = c.args.position in
    let d = c.index-journal-place.result in
    let e = c.index-journal-place-2.result in
    let behind : length j.settled.now < p = omega (arith, c.if-position-journal.false) in
    let within : p < length (items_of j) = omega (arith, c.if-position-len.false, c.if-position-len-2.false, c.len.ensures, c.len-2.ensures) in
    placed_is j p d e behind within
    ∙ undone_neither (line j p d e behind within (before_it j p d e behind within)) (line j p d e behind within (behind_it j p d e behind within)) (ap is_live c.in-Live-Live.is-0) (ap is_live c.in-Live-Live.is-1)
