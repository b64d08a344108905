use Rattle.std.proofs.Common.{refl, ap}
use Rattle.world_cells.proofs.Worlds.{ready_alike}
use Rattle.world_cells.proofs.world.World.swap_record.Goals as goal

pub returns-in-Slot-clause-ready : goal.returns-in-Slot-clause-ready
returns-in-Slot-clause-ready c = ready_alike c.args.self.now (record (c.args.self.now) { homes = c.swap_slot.new.self; swaps = c.swap_slot.new.swaps }) (λ k. refl) (λ k. ap (λ f. f k) c.swap_slot.ensures.ready) (λ k. refl) (λ k. refl)

pub returns-in-Object-clause-ready : goal.returns-in-Object-clause-ready
returns-in-Object-clause-ready c = ready_alike c.args.self.now (record (c.args.self.now) { homes = c.swap_object.new.self; swaps = c.swap_object.new.swaps }) (λ k. refl) (λ k. ap (λ f. f k) c.swap_object.ensures.ready) (λ k. refl) (λ k. refl)

pub returns-in-Top-clause-ready : goal.returns-in-Top-clause-ready
returns-in-Top-clause-ready c = ready_alike c.args.self.now (record (c.args.self.now) { homes = c.swap_top.new.self; swaps = c.swap_top.new.swaps }) (λ k. refl) (λ k. ap (λ f. f k) c.swap_top.ensures.ready) (λ k. refl) (λ k. refl)

pub returns-in-View-clause-ready : goal.returns-in-View-clause-ready
returns-in-View-clause-ready c = ready_alike c.args.self.now (record (c.args.self.now) { homes = c.swap_view.new.self; swaps = c.swap_view.new.swaps }) (λ k. refl) (λ k. ap (λ f. f k) c.swap_view.ensures.ready) (λ k. refl) (λ k. refl)

pub returns-in-Fence-clause-ready : goal.returns-in-Fence-clause-ready
returns-in-Fence-clause-ready c = ready_alike c.args.self.now (record (c.args.self.now) { homes = c.swap_fence.new.self; swaps = c.swap_fence.new.swaps }) (λ k. refl) (λ k. ap (λ f. f k) c.swap_fence.ensures.ready) (λ k. refl) (λ k. refl)

pub returns-in-Msg-clause-exchanged : goal.returns-in-Msg-clause-exchanged
returns-in-Msg-clause-exchanged c = rw (c.in-Msg.is, c.swap_record-in-Msg.ensures.key, c.swap_record-in-Msg.ensures.content, c.swap_record-in-Msg.ensures.writer) refl

pub returns-in-Msg-clause-ready : goal.returns-in-Msg-clause-ready
returns-in-Msg-clause-ready c = ready_alike c.args.self.now (record (c.args.self.now) { messages = c.swap_record-in-Msg.new.self; swaps = c.swap_record-in-Msg.new.swaps }) (λ k. refl) (λ k. refl) c.swap_record-in-Msg.ensures.room (λ k. refl)

pub returns-in-Board-clause-exchanged : goal.returns-in-Board-clause-exchanged
returns-in-Board-clause-exchanged c = rw (c.in-Board.is, c.swap_record-in-Board.ensures.key, c.swap_record-in-Board.ensures.content, c.swap_record-in-Board.ensures.writer) refl

pub returns-in-Board-clause-ready : goal.returns-in-Board-clause-ready
returns-in-Board-clause-ready c = ready_alike c.args.self.now (record (c.args.self.now) { board = c.swap_record-in-Board.new.self; swaps = c.swap_record-in-Board.new.swaps }) (λ k. refl) (λ k. refl) (λ k. refl) c.swap_record-in-Board.ensures.room
