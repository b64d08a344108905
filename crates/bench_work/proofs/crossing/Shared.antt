-- What workers share, a Bench or a workshop, and what they hand over, a seat with a turn that was run, may cross.
use mathlib.Core.List.{List, [], ◌∷◌}
use Prim.Native.Nat.{ℕ}
use denote.Ref.{NamedLft}
use denote.RattleType.{RattleType}
use denote.Struct.Field.{shr_ref_field, u64-field}
use denote.Struct.Tuple.{TupleAt, field_at, type_at}
use denote.Param.{param}
use denote.Param.Send.{IsSend, IsSync, param_sync, shr_send, plain_send, recorded_send, struct_send, sendable}
use denote.Struct.Declared.{shape}
use Rattle.std.proofs.Crossing.{crosses, frees as anywhere}
use Rattle.std.proofs.alloc.Global.TheSendSync as heaps
use Rattle.std.specs.contracts.alloc.Global as heap
use Rattle.std.specs.contracts.impls.GlobalAllocator.TheImpl.{ghosts}
use Rattle.std.proofs.marker.PhantomData.TheSendSync as phantoms
use Rattle.std.proofs.sync.ledger.Book.TheSendSync as ledgers
use Rattle.std.proofs.sync.ledger.Share.TheSendSync as shares
use Rattle.std.specs.declared.sync.ledger.Ledger.{Ghosts as Parts}
use Rattle.atomic_table.proofs.shared.Seat.TheSendSync as tokens
use Rattle.crossbeam_channel.specs.contracts.channel.Sender as sender
use Rattle.crossbeam_channel.specs.contracts.channel.Receiver as receiver
use Rattle.crossbeam_channel.proofs.channel.Sender.TheSendSync as senders
use Rattle.crossbeam_channel.proofs.channel.Receiver.TheSendSync as receivers
use Rattle.bench.specs.declared.seat.Opening.{Ghosts}
use Rattle.bench.specs.contracts.under_lock.SharedBook as shared
use Rattle.bench_work.specs.contracts.work.Busy as busy
use Rattle.bench_work.specs.contracts.work.Free as free
use Rattle.bench_work.proofs.work.Free.TheSendSync as frees
use Rattle.bench.proofs.seat.Seat.TheSendSync as seats
use Rattle.bench_work.proofs.crossing.Books.{book_crosses, returned_crosses}

module _ (L : RattleType) (g : Ghosts L.Denot) (parts : Parts L.Denot) where
  pub busy_send : IsSend (busy.the_row L g parts)
  busy_send = search (seats.the_send, returned_crosses, sendable, crosses) depth 40

  pub shared_send : IsSend (shared.the_row L g parts)
  shared_send = search (book_crosses, tokens.the_send, ledgers.the_send, shares.the_send, phantoms.the_field_send, sendable, crosses) depth 40

  -- what a worker holds: the runtime, its place, the gate, its number, its way to the committer, and the way back
  abbrev pub held : (place runtime gate : RattleType) (a b c : NamedLft) → List RattleType
  held place runtime gate a b c =
      (shr_ref_field a (param 3 runtime) tt).row ∷ (shr_ref_field b (param 1 place) tt).row ∷ (shr_ref_field c (param 2 gate) tt).row ∷ u64-field.row
      ∷ sender.the_row (busy.the_row L g parts) heap.the_row ghosts ∷ receiver.the_row (free.the_row L g parts) heap.the_row ghosts ∷ []

  pub worker_send : (place runtime gate : RattleType) (a b c : NamedLft) (name : List ℕ) → IsSync place → IsSync runtime → IsSync gate → IsSend (TupleAt name (held place runtime gate a b c))
  worker_send place runtime gate a b c name p r s =
      let rows : List RattleType = held place runtime gate a b c in
      let there = senders.the_send (busy.the_row L g parts) heap.the_row ghosts busy_send heaps.the_send heaps.the_sync anywhere in
      let back = receivers.the_send (free.the_row L g parts) heap.the_row ghosts (frees.the_send L g parts) heaps.the_send heaps.the_sync anywhere in
      recorded_send (field_at name rows).row _ _ (type_at name rows).to_one (struct_send (shape (type_at name rows)) (
        shr_send _ _ (param 3 runtime) (param_sync 3 runtime r),
        (
          shr_send _ _ (param 1 place) (param_sync 1 place p),
          (shr_send _ _ (param 2 gate) (param_sync 2 gate s), (plain_send _ _ _ _ _, (there, (back, tt)))),
        ),
      ))
