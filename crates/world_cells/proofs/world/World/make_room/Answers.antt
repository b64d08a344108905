use Rattle.std.proofs.Common.{refl, ap}
use Rattle.world_cells.proofs.Worlds.{seen_alike, ready_more}
use Rattle.world_cells.proofs.world.World.make_room.Goals as goal

pub returns-in-Slot-clause-ready : goal.returns-in-Slot-clause-ready
returns-in-Slot-clause-ready c = ready_more c.args.self.now (record (c.args.self.now) { homes = c.make_room_for_slot.new.self }) (λ k h. h) c.make_room_for_slot.ensures.ready (λ k h. h) (λ k h. h)

pub returns-in-Slot-clause-seen : goal.returns-in-Slot-clause-seen
returns-in-Slot-clause-seen c = seen_alike c.args.self.now (record (c.args.self.now) { homes = c.make_room_for_slot.new.self }) (λ k. refl) (λ k. ap (λ f. f k) c.make_room_for_slot.ensures.seen) (λ k. refl) (λ k. refl)

pub returns-in-Object-clause-ready : goal.returns-in-Object-clause-ready
returns-in-Object-clause-ready c = ready_more c.args.self.now (record (c.args.self.now) { homes = c.make_room_for_object.new.self }) (λ k h. h) c.make_room_for_object.ensures.ready (λ k h. h) (λ k h. h)

pub returns-in-Object-clause-seen : goal.returns-in-Object-clause-seen
returns-in-Object-clause-seen c = seen_alike c.args.self.now (record (c.args.self.now) { homes = c.make_room_for_object.new.self }) (λ k. refl) (λ k. ap (λ f. f k) c.make_room_for_object.ensures.seen) (λ k. refl) (λ k. refl)

pub returns-in-Top-clause-ready : goal.returns-in-Top-clause-ready
returns-in-Top-clause-ready c = ready_more c.args.self.now (record (c.args.self.now) { homes = c.make_room_for_top.new.self }) (λ k h. h) c.make_room_for_top.ensures.ready (λ k h. h) (λ k h. h)

pub returns-in-Top-clause-seen : goal.returns-in-Top-clause-seen
returns-in-Top-clause-seen c = seen_alike c.args.self.now (record (c.args.self.now) { homes = c.make_room_for_top.new.self }) (λ k. refl) (λ k. ap (λ f. f k) c.make_room_for_top.ensures.seen) (λ k. refl) (λ k. refl)

pub returns-in-View-clause-ready : goal.returns-in-View-clause-ready
returns-in-View-clause-ready c = ready_more c.args.self.now (record (c.args.self.now) { homes = c.make_room_for_view.new.self }) (λ k h. h) c.make_room_for_view.ensures.ready (λ k h. h) (λ k h. h)

pub returns-in-View-clause-seen : goal.returns-in-View-clause-seen
returns-in-View-clause-seen c = seen_alike c.args.self.now (record (c.args.self.now) { homes = c.make_room_for_view.new.self }) (λ k. refl) (λ k. ap (λ f. f k) c.make_room_for_view.ensures.seen) (λ k. refl) (λ k. refl)

pub returns-in-Fence-clause-ready : goal.returns-in-Fence-clause-ready
returns-in-Fence-clause-ready c = ready_more c.args.self.now (record (c.args.self.now) { homes = c.make_room_for_fence.new.self }) (λ k h. h) c.make_room_for_fence.ensures.ready (λ k h. h) (λ k h. h)

pub returns-in-Fence-clause-seen : goal.returns-in-Fence-clause-seen
returns-in-Fence-clause-seen c = seen_alike c.args.self.now (record (c.args.self.now) { homes = c.make_room_for_fence.new.self }) (λ k. refl) (λ k. ap (λ f. f k) c.make_room_for_fence.ensures.seen) (λ k. refl) (λ k. refl)

pub returns-in-Msg-clause-ready : goal.returns-in-Msg-clause-ready
returns-in-Msg-clause-ready c = ready_more c.args.self.now (record (c.args.self.now) { messages = c.make_room-in-Msg.new.self }) (λ k h. h) (λ k h. h) c.make_room-in-Msg.ensures.kept (λ k h. h)

pub returns-in-Msg-clause-seen : goal.returns-in-Msg-clause-seen
returns-in-Msg-clause-seen c = seen_alike c.args.self.now (record (c.args.self.now) { messages = c.make_room-in-Msg.new.self }) (λ k. refl) (λ k. refl) c.make_room-in-Msg.ensures.seen (λ k. refl)

pub returns-in-Board-clause-ready : goal.returns-in-Board-clause-ready
returns-in-Board-clause-ready c = ready_more c.args.self.now (record (c.args.self.now) { board = c.make_room-in-Board.new.self }) (λ k h. h) (λ k h. h) (λ k h. h) c.make_room-in-Board.ensures.kept

pub returns-in-Board-clause-seen : goal.returns-in-Board-clause-seen
returns-in-Board-clause-seen c = seen_alike c.args.self.now (record (c.args.self.now) { board = c.make_room-in-Board.new.self }) (λ k. refl) (λ k. refl) (λ k. refl) c.make_room-in-Board.ensures.seen
