use Rattle.std.proofs.Common.{◌<◌, length, sym, ap, ◌∙◌, arith}
use Rattle.world_cells.specs.View.{is_ready}
use Rattle.world_cells.specs.Theory.{kept_of}
use Rattle.undo.proofs.Looping.{made_more}
use Rattle.undo.proofs.records.make_rooms.Goals as goal

pub returns-in_err-make_room-clause-seen : goal.returns-in_err-make_room-clause-seen
returns-in_err-make_room-clause-seen c = c.make_room.ensures.seen ∙ c.loop-record.invariant.seen

pub returns-in_err-make_room-clause-counted : goal.returns-in_err-make_room-clause-counted
returns-in_err-make_room-clause-counted c = c.make_room.ensures.counted ∙ c.loop-record.invariant.counted

pub loop-record-preserved : goal.loop-record-preserved
loop-record-preserved c = record {
  seen = c.make_room.ensures.seen ∙ c.loop-record.invariant.seen;
  ready = λ k h. c.make_room.ensures.ready k (c.loop-record.invariant.ready k h);
  counted = c.make_room.ensures.counted ∙ c.loop-record.invariant.counted;
  made =
      let xs = c.args.records.now in
      let new = is_ready c.make_room.new.self in
      let h : c.loop-record.record-index < length xs = omega arith in
      made_more kept_of (is_ready c.loop-record.world) new xs c.loop-record.record-index c.record-item.result h c.make_room.ensures.ready (ap (λ r. new (kept_of r).0) (sym c.record-item.is) ∙ ap new (sym c.in_ok-key.ensures) ∙ c.in_ok-make_room.ensures.ok) c.loop-record.invariant.made;
}
