use Rattle.std.proofs.Common.{◌≡◌, ◌≤◌, ◌+◌, ◌∙◌, suc, cond, Some, ap, sym, drop, length, arith}
use Rattle.journal.specs.Journals.{items_of}
use Rattle.journal.specs.Lines.{lines_of}
use Rattle.stepper_questions.specs.Refusals.{place_from}
use Rattle.stepper_questions.proofs.Standings.{left_at, none_left}
use Rattle.stepper_questions.proofs.standing.place_of.Goals as goal

pub returns-then-is_named : goal.returns-then-is_named
returns-then-is_named c =
    let items = items_of c.args.journal in
    let p = c.loop-place.place in
    sym (left_at items p c.name_at.result c.args.event c.name_at.ensures
    ∙ ap (λ t. cond t (Some p) (place_from (suc p) (drop (suc p) (lines_of items)) c.args.event)) (sym c.is_named.ensures ∙ c.if-is_named.true))
    ∙ c.loop-place.invariant

pub loop-place-preserved : goal.loop-place-preserved
loop-place-preserved c =
    let items = items_of c.args.journal in
    let p = c.loop-place.place in
    let next : p + 1 ≡ suc p = omega arith in
    ap (λ n. place_from n (drop n (lines_of items)) c.args.event) next
    ∙ sym (left_at items p c.name_at.result c.args.event c.name_at.ensures
    ∙ ap (λ t. cond t (Some p) (place_from (suc p) (drop (suc p) (lines_of items)) c.args.event)) (sym c.is_named.ensures ∙ c.if-is_named.false))
    ∙ c.loop-place.invariant

pub returns : goal.returns
returns c =
    let items = items_of c.args.journal in
    let p = c.loop-place.place in
    let many : length items ≤ p = omega (arith, c.loop-place-test.false, c.len-place-end.ensures) in
    sym (none_left items p c.args.event many) ∙ c.loop-place.invariant
