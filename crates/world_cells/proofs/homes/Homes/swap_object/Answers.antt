use Rattle.std.proofs.Common.{sym, ap, ◌∙◌}
use Rattle.std.specs.Option.{option_copied_mut}
use Rattle.heap.specs.State.{object_cell, made}
use Rattle.heap.specs.View.{object_of, told}
use Rattle.world_cells.specs.Homes.{home_at}
use Rattle.world_cells.proofs.Changing.{ext, vat_self, ready_same, own_exchanged, seen_exchanged, ready_alike, written}
use Rattle.world_cells.proofs.homes.Homes.swap_object.Goals as goal

pub invariant_of-self : goal.invariant_of-self
invariant_of-self c =
    let there = sym c.get_mut.ensures.value ∙ ap option_copied_mut c.in-Some.is in
    let new = c.swap_object.new.self in
    let changed = (written there (c.get_mut.follows.holds new).3).0 in
    let x = told (λ m. made (object_of m)) (c.args.kept.now.content, c.args.kept.now.writer) in
    record {
      own_cells = own_exchanged (home_at c.args.self.now.homes) (home_at (c.get_mut.follows.lender new)) c.args.kept.now.key.vat c.in-Some.home.now new there changed (object_cell c.args.kept.now.key) x (vat_self c.args.kept.now.key.vat)
          c.swap_object.ensures.seen c.args.self.now.own_cells;
    }

pub returns-clause-seen : goal.returns-clause-seen
returns-clause-seen c =
    let there = sym c.get_mut.ensures.value ∙ ap option_copied_mut c.in-Some.is in
    let new = c.swap_object.new.self in
    let changed = (written there (c.get_mut.follows.holds new).3).0 in
    let x = told (λ m. made (object_of m)) (c.args.kept.now.content, c.args.kept.now.writer) in
    seen_exchanged (home_at c.args.self.now.homes) (home_at (c.get_mut.follows.lender new)) c.args.kept.now.key.vat c.in-Some.home.now new there changed (object_cell c.args.kept.now.key) x (vat_self c.args.kept.now.key.vat) c.swap_object.ensures.seen

pub returns-clause-ready : goal.returns-clause-ready
returns-clause-ready c =
    let there = sym c.get_mut.ensures.value ∙ ap option_copied_mut c.in-Some.is in
    let new = c.swap_object.new.self in
    let changed = (written there (c.get_mut.follows.holds new).3).0 in
    ext _ _ (ready_same (home_at c.args.self.now.homes) (home_at (c.get_mut.follows.lender new))
    (ready_alike (home_at c.args.self.now.homes) (home_at (c.get_mut.follows.lender new)) c.args.kept.now.key.vat c.in-Some.home.now new there changed c.swap_object.ensures.ready))
