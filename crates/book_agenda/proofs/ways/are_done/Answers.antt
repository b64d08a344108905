use Rattle.std.proofs.Common.{◌<◌, length, is_none, get_or, sym, ap, ◌∙◌, arith}
use Rattle.ids.specs.declared.names.MsgId.{MsgId}
use Rattle.world_cells.specs.View.{world_of}
use Rattle.event.specs.Ready.{first_undone}
use Rattle.event.proofs.Waiting.{any_default, undone_next, undone_last}
use Rattle.book_agenda.proofs.Ranges.{no_message}
use Rattle.book_agenda.proofs.Stepping.{one_undone}
use Rattle.book_agenda.proofs.ways.are_done.Goals as goal

pub loop-name-preserved : goal.loop-name-preserved
loop-name-preserved c =
    let w = world_of c.args.world.now in
    let ms = c.args.names.now in
    let i = c.loop-name.name-index in
    let m : MsgId = get_or ms i no_message in
    let h : i < length ms = omega arith in
    undone_next w (first_undone w ms) ms i m h (any_default ms i no_message m h) c.loop-name.invariant (sym c.is_done.ensures ∙ c.if-not-is_done.false)

pub returns-then-not-is_done : goal.returns-then-not-is_done
returns-then-not-is_done c =
    let w = world_of c.args.world.now in
    let ms = c.args.names.now in
    let i = c.loop-name.name-index in
    let m : MsgId = get_or ms i no_message in
    let h : i < length ms = omega arith in
    sym (one_undone w ms i m h (any_default ms i no_message m h) c.loop-name.invariant (sym c.is_done.ensures ∙ c.if-not-is_done.true))

pub returns : goal.returns
returns c =
    let w = world_of c.args.world.now in
    let ms = c.args.names.now in
    sym (ap is_none (undone_last w (first_undone w ms) ms c.loop-name.name-index (omega arith) c.loop-name.invariant))
