use Rattle.std.proofs.Common.{◌<◌, length, take, get_or, sym, arith}
use Rattle.std.proofs.lemmas.List.{take_more, take_all}
use Rattle.book_agenda.specs.declared.ways.Cue.TheVariants as cue
use Rattle.book_agenda.proofs.Noting.{keeps_none, keeps_more, told_keeps}
use Rattle.book_agenda.proofs.Ranges.{no_message}
use Rattle.book_agenda.proofs.agenda.keep_each.Goals as goal

pub loop-cue-init : goal.loop-cue-init
loop-cue-init c = keeps_none c.args.message c.args.stays _

pub loop-cue-preserved : goal.loop-cue-preserved
loop-cue-preserved c =
    let i = c.loop-cue.cue-index in
    let cues = c.args.cues.now in
    let h : i < length cues = omega arith in
    told_keeps c.args.message _ _ c.args.stays _ _ (sym (take_more cues i (cue.Message no_message) h))
    (keeps_more (take i cues) c.args.message (get_or cues i (cue.Message no_message)) c.args.stays _ _ _ c.loop-cue.invariant c.in_ok-keep.ensures)

pub returns : goal.returns
returns c = told_keeps c.args.message _ _ c.args.stays _ _ (take_all c.loop-cue.cue-index c.args.cues.now (omega arith)) c.loop-cue.invariant
