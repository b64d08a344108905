use Rattle.std.proofs.Common.{◌∙◌, ◌<◌, ◌^◌, length, get_or, ap, arith}
use Rattle.world_cells.specs.Records.{record_of}
use Rattle.world_cells.specs.View.{seen_of_world, is_ready, swaps_of}
use Rattle.world_cells.specs.Theory.{numbered, state_of_world, kept_of}
use Rattle.undo.proofs.Looping.{rest_more, done_more, fits_more, held, counted_more}
use Rattle.undo.proofs.records.swap_records.Goals as goal

pub loop-record-preserved : goal.loop-record-preserved
loop-record-preserved c =
    let i = c.loop-record.record-index in
    let xs = c.loop-record.records in
    let x = c.record-item.result in
    let y = c.swap_record.new.kept in
    let w = state_of_world c.loop-record.world in
    let v = state_of_world c.swap_record.new.self in
    let h : i < length xs = omega arith in
    let state = held (seen_of_world c.swap_record.new.self) (seen_of_world c.loop-record.world) (record_of (get_or xs i x)).0 (record_of (get_or xs i x)).1 c.swap_record.ensures.seen in
    let rec = ap (λ (r : _). (r.0, numbered r.1)) c.swap_record.ensures.exchanged in
    record {
      ready = c.swap_record.ensures.ready ∙ c.loop-record.invariant.ready;
      fits = rw (c.swap_record.ensures.ready) (fits_more kept_of xs i x y w v h state rec (is_ready c.loop-record.world) c.loop-record.invariant.fits);
      rest = rest_more kept_of xs i x y w v h state rec ∙ c.loop-record.invariant.rest;
      done = done_more kept_of xs i x y w v h state rec ∙ c.loop-record.invariant.done;
      counted = counted_more (2 ^ 64) (swaps_of c.loop-record.world) (swaps_of c.swap_record.new.self) (swaps_of c.args.world.now) i c.loop-record.invariant.counted c.swap_record.ensures.counted;
    }
