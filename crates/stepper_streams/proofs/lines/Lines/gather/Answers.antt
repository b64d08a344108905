use Rattle.std.proofs.Common.{◌≡◌, true, false, refl, arith, ◌∙◌}
use Rattle.std.proofs.lemmas.Result.{err_from_is_err_and}
use Rattle.stepper_streams.proofs.Taking.{within_none, goes_on, comes_to_feed, reads_on, comes_to_end, fails, runs_out}
use Rattle.stepper_streams.proofs.lines.Lines.gather.Goals as goal

pub returns-then-branch-clause-ok : goal.returns-then-branch-clause-ok
returns-then-branch-clause-ok g c =
    let old = c.args.self.now in
    comes_to_feed g.R.Read.remaining old old _ c.new-line.result c.give_part.new.line (within_none g.R.Read.remaining old c.new-line.result c.new-line.ensures c.requires.open)
    c.ended.result c.in_ok-give_part.field-0 c.if-branch.true refl refl c.in_ok-give_part.ensures.ok c.ended.ensures.text c.ended.ensures.long

pub parts-init : goal.parts-init
parts-init g c =
    let old = c.args.self.now in
    let on = goes_on g.R.Read.remaining old old (record old { held = c.give_part.new.self }) c.new-line.result c.give_part.new.line
    (within_none g.R.Read.remaining old c.new-line.result c.new-line.ensures c.requires.open)
    c.in_ok-give_part.field-0 c.if-branch.false refl refl c.in_ok-give_part.ensures.ok in
    (on.0, on.1, refl, refl)

pub returns-in_err-read_more-clause-err : goal.returns-in_err-read_more-clause-err
returns-in_err-read_more-clause-err g c =
    let e = c.in_err-read_more.ensures in
    let p = err_from_is_err_and c.from_residual-in_err-read_more.result c.from_residual-in_err-read_more.ensures.1 in
    rw (p.1, p.2, e.reader) (fails g.R.Read.remaining c.args.self.now c.parts.self c.read_more.new.self c.parts.line c.parts.invariant.0 e.err e.still_open e.none_held e.one_failed)

pub returns-then-not-branch-clause-ok : goal.returns-then-not-branch-clause-ok
returns-then-not-branch-clause-ok g c =
    let e = c.in_ok-read_more.ensures in
    let ends : c.in_ok-read_more.field-0 ≡ false = grind (arith, c.if-not-branch.true) in
    comes_to_end g.R.Read.remaining c.args.self.now c.parts.self c.read_more.new.self c.parts.line c.parts.invariant.0 c.last.result
    e.kept (e.none ends).0 (e.none ends).1 e.none_failed c.last.ensures

pub returns-in_err-give_part-2-clause-err : goal.returns-in_err-give_part-2-clause-err
returns-in_err-give_part-2-clause-err g c =
    let e = c.in_ok-read_more.ensures in
    let more : c.in_ok-read_more.field-0 ≡ true = grind (arith, c.if-not-branch.false) in
    let read = c.read_more.new.self in
    let within = reads_on g.R.Read.remaining c.args.self.now c.parts.self read c.parts.line c.parts.invariant.0 c.parts.invariant.1 e.kept (e.more more) e.none_failed in
    let p = err_from_is_err_and c.from_residual-in_err-give_part-2.result c.from_residual-in_err-give_part-2.ensures.1 in
    rw (p.1, p.2) (runs_out g.R.Read.remaining c.args.self.now read (record read { held = c.give_part-in-parts.new.self }) c.parts.line within c.in_err-give_part-2.ensures.err refl refl)

pub returns-then-branch-2-clause-ok : goal.returns-then-branch-2-clause-ok
returns-then-branch-2-clause-ok g c =
    let e = c.in_ok-read_more.ensures in
    let more : c.in_ok-read_more.field-0 ≡ true = grind (arith, c.if-not-branch.false) in
    let read = c.read_more.new.self in
    let within = reads_on g.R.Read.remaining c.args.self.now c.parts.self read c.parts.line c.parts.invariant.0 c.parts.invariant.1 e.kept (e.more more) e.none_failed in
    comes_to_feed g.R.Read.remaining c.args.self.now read _ c.parts.line c.give_part-in-parts.new.line within c.ended-then-branch-2.result
    c.in_ok-give_part-2.field-0 c.if-branch-2.true refl refl c.in_ok-give_part-2.ensures.ok c.ended-then-branch-2.ensures.text c.ended-then-branch-2.ensures.long

pub parts-preserved : goal.parts-preserved
parts-preserved g c =
    let e = c.in_ok-read_more.ensures in
    let more : c.in_ok-read_more.field-0 ≡ true = grind (arith, c.if-not-branch.false) in
    let read = c.read_more.new.self in
    let within = reads_on g.R.Read.remaining c.args.self.now c.parts.self read c.parts.line c.parts.invariant.0 c.parts.invariant.1 e.kept (e.more more) e.none_failed in
    let on = goes_on g.R.Read.remaining c.args.self.now read (record read { held = c.give_part-in-parts.new.self }) c.parts.line c.give_part-in-parts.new.line within
    c.in_ok-give_part-2.field-0 c.if-branch-2.false refl refl c.in_ok-give_part-2.ensures.ok in
    (on.0, on.1, e.taken ∙ c.parts.invariant.2, e.refused ∙ c.parts.invariant.3)
