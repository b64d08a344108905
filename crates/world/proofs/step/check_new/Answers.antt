use Rattle.std.proofs.Common.{inl, inr, ◌<◌, length, map, arith}
use Rattle.std.proofs.lemmas.List.{length-map}
use Rattle.std.proofs.lemmas.Result.{err_from_is_err_and}
use Rattle.eval_rules.specs.OutboxView.{letter_of}
use Rattle.world_cells.specs.View.{world_of}
use Rattle.world.proofs.Numbering.{left_start, left_more, left_never}
use Rattle.world.proofs.step.check_new.Goals as goal

pub loop-place-init : goal.loop-place-init
loop-place-init c = left_start (world_of c.args.world.now) c.args.event (map letter_of c.args.letters.now)

pub loop-place-preserved : goal.loop-place-preserved
loop-place-preserved c =
    let ls = map letter_of c.args.letters.now in
    let h : c.loop-place.place < length ls = omega (arith, length-map c.args.letters.now letter_of) in
    left_more (world_of c.args.world.now) c.args.event ls c.loop-place.place h c.loop-place.invariant c.in_ok-check_free.ensures.ok

pub returns-in_err-check_free-clause-err : goal.returns-in_err-check_free-clause-err
returns-in_err-check_free-clause-err c =
    let ls = map letter_of c.args.letters.now in
    let h : c.loop-place.place < length ls = omega (arith, length-map c.args.letters.now letter_of) in
    let p = err_from_is_err_and c.from_residual.result c.from_residual.ensures.1 in
    rw (p.1, p.2) (elim c.in_err-check_free.ensures.err [ inl m ↦ inl m | inr old ↦ inr (left_never (world_of c.args.world.now) c.args.event ls c.loop-place.place h c.loop-place.invariant old) ])
