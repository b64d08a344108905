use Rattle.std.proofs.Common.{◌≡◌, false, None, ap}
use Rattle.std.specs.Map.{lookup}
use Rattle.ids.specs.declared.names.VatNo.{VatNo}
use Rattle.heap.specs.State.{Cell}
use Rattle.world_cells.specs.World.{same_vat, lives_in}
use Rattle.world_cells.specs.Homes.{home_at, seen_at}
use Rattle.world_cells.specs.declared.home.Home.TheVariants as home
use Rattle.world_cells.proofs.Changing.{own_same, added_seen, added_ready, is_absent, either_way}
use Rattle.world_cells.proofs.homes.Homes.add.Goals as goal

pub invariant_of-self : goal.invariant_of-self
invariant_of-self c =
    let old = home_at c.args.self.now.homes in
    let new = home_at c.insert.new.self in
    let absent = is_absent c.contains_key.result (old c.args.vat) c.contains_key.ensures c.if-not-contains_key.true in
    record {
      own_cells = either_way c.insert.result _ _ ((v : VatNo) (k : Cell) → lives_in k v ≡ false → (seen_at (new v) k).0 ≡ None) c.insert.ensures.updates c.insert.ensures.err
          (λ u. own_same old new (added_seen old new c.args.vat (home.Own c.new.result) absent u.0 c.new.ensures.seen) c.args.self.now.own_cells)
          (λ u. own_same old new (λ v k. ap (λ es. seen_at (lookup (same_vat v) es) k) u) c.args.self.now.own_cells);
    }

pub returns-in_ok-insert-clause-seen : goal.returns-in_ok-insert-clause-seen
returns-in_ok-insert-clause-seen c =
    let old = home_at c.args.self.now.homes in
    let new = home_at c.insert.new.self in
    added_seen old new c.args.vat (home.Own c.new.result) (is_absent c.contains_key.result (old c.args.vat) c.contains_key.ensures c.if-not-contains_key.true) c.in_ok-insert.ensures.updates.0 c.new.ensures.seen

pub returns-in_ok-insert-clause-ready : goal.returns-in_ok-insert-clause-ready
returns-in_ok-insert-clause-ready c =
    let old = home_at c.args.self.now.homes in
    let new = home_at c.insert.new.self in
    added_ready old new c.args.vat (home.Own c.new.result) (is_absent c.contains_key.result (old c.args.vat) c.contains_key.ensures c.if-not-contains_key.true) c.in_ok-insert.ensures.updates.0
