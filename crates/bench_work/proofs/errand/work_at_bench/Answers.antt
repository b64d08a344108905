-- An errand may be shared by threads: the Bench that it is for may be, and so may the count.
use denote.Param.Send.{sendable}
use Rattle.std.proofs.Crossing.{crosses}
use Rattle.std.proofs.sync.Mutex.TheSendSync as locks
use Rattle.std.proofs.sync.atomic.AtomicU64.TheSendSync as counts
use Rattle.crossbeam_utils.proofs.atomic.seq_cell.Wide.TheSendSync as cells
use Rattle.bench_work.proofs.crossing.Shared.{shared_send}
use Rattle.bench_work.proofs.errand.work_at_bench.Goals as goal

pub work_at-requires-sync-P : goal.work_at-requires-sync-P
work_at-requires-sync-P g c κs within = search (shared_send, locks.the_sync, cells.the_field_sync, counts.the_sync, sendable, crosses) depth 40
