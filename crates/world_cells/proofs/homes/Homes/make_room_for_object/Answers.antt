use Rattle.std.proofs.Common.{sym, ap, ◌∙◌}
use Rattle.std.specs.Option.{option_copied_mut}
use Rattle.world_cells.specs.Homes.{home_at}
use Rattle.world_cells.proofs.Changing.{ext, seen_same, ready_kept, own_same, seen_stays, ready_stays, written}
use Rattle.world_cells.proofs.homes.Homes.make_room_for_object.Goals as goal

pub invariant_of-self : goal.invariant_of-self
invariant_of-self c =
    let there = sym c.get_mut.ensures.value ∙ ap option_copied_mut c.in-Some.is in
    let new = c.make_room_for_object.new.self in
    let changed = (written there (c.get_mut.follows.holds new).3).0 in
    record {
      own_cells = own_same (home_at c.add.new.self.homes) (home_at (c.get_mut.follows.lender new))
          (seen_stays (home_at c.add.new.self.homes) (home_at (c.get_mut.follows.lender new)) c.args.object.vat c.in-Some.home.now new there changed c.make_room_for_object.ensures.seen) c.add.new.self.own_cells;
    }

pub returns-clause-ready : goal.returns-clause-ready
returns-clause-ready c k h =
    let there = sym c.get_mut.ensures.value ∙ ap option_copied_mut c.in-Some.is in
    let new = c.make_room_for_object.new.self in
    let changed = (written there (c.get_mut.follows.holds new).3).0 in
    ready_kept (home_at c.add.new.self.homes) (home_at (c.get_mut.follows.lender new))
    (ready_stays (home_at c.add.new.self.homes) (home_at (c.get_mut.follows.lender new)) c.args.object.vat c.in-Some.home.now new there changed c.make_room_for_object.ensures.ready) k
    (ready_kept (home_at c.args.self.now.homes) (home_at c.add.new.self.homes) c.add.ensures.ready k h)

pub returns-clause-seen : goal.returns-clause-seen
returns-clause-seen c =
    let there = sym c.get_mut.ensures.value ∙ ap option_copied_mut c.in-Some.is in
    let new = c.make_room_for_object.new.self in
    let changed = (written there (c.get_mut.follows.holds new).3).0 in
    ext _ _ (λ k. seen_same (home_at c.add.new.self.homes) (home_at (c.get_mut.follows.lender new))
    (seen_stays (home_at c.add.new.self.homes) (home_at (c.get_mut.follows.lender new)) c.args.object.vat c.in-Some.home.now new there changed c.make_room_for_object.ensures.seen) k
    ∙ seen_same (home_at c.args.self.now.homes) (home_at c.add.new.self.homes) c.add.ensures.seen k)
