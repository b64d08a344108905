use Rattle.std.proofs.Common.{◌∙◌, ap}
use Rattle.std.specs.Option.{option_map}
use Rattle.std.specs.Map.Iter.{deref_pair}
use Rattle.std.proofs.lemmas.Cmp.{nat_list_cmp_total}
use Rattle.std.proofs.lemmas.Map.Iter.{rest_more, rest_all, btree_map_turn}
use Rattle.world_cells.specs.Listed.{names_in}
use Rattle.post.specs.MessageView.{vat_of}
use Rattle.world_cells.specs.World.{vat}
use Rattle.stepper_printing.proofs.Births.{left_in, gathered_none, gathered_more, gathered_all}
use Rattle.stepper_printing.proofs.picture.vats_by_birth.Goals as goal

pub loop-name-init : goal.loop-name-init
loop-name-init c =
    gathered_none (names_in c.args.names.now) c.new-vats.result.entries c.into_iter-name-iterator.result c.new-vats.ensures.ordered c.new-vats.ensures.empty
    (λ x. ap (λ es. left_in es x) (c.into_iter-name-iterator.ensures.into_iter_gives ∙ c.iter-name-items.ensures.rest))

pub loop-name-preserved-in_ok-insert : goal.loop-name-preserved-in_ok-insert
loop-name-preserved-in_ok-insert c =
    let names = c.args.names.now in
    let turn = btree_map_turn deref_pair c.loop-name.yielded c.into_iter-name-iterator.result c.loop-name.name-iterator c.next.new.self c.next.result (c.in-Some.name, c.in-Some.vat) c.loop-name.yielded_by
    c.in-Some.is c.next.ensures.steps nat_list_cmp_total names (c.into_iter-name-iterator.ensures.into_iter_gives ∙ c.iter-name-items.ensures.rest) c.iter-name-items.ensures.ordered in
    let updates = c.in_ok-insert.ensures.updates in
    gathered_more (names_in names) c.in-Some.name.now c.in-Some.vat.now (ap (option_map (λ v. vat (vat_of v))) turn.1) c.loop-name.vats.entries c.insert.new.self.entries c.loop-name.name-iterator c.next.new.self _
    (rest_more deref_pair _ _ _ _ c.in-Some.is c.next.ensures.steps) c.insert.ensures.ordered updates.0 updates.1 c.in_ok-share.ensures c.loop-name.invariant

pub loop-name-preserved : goal.loop-name-preserved
loop-name-preserved c =
    let names = c.args.names.now in
    let turn = btree_map_turn deref_pair c.loop-name.yielded c.into_iter-name-iterator.result c.loop-name.name-iterator c.next.new.self c.next.result (c.in-Some.name, c.in-Some.vat) c.loop-name.yielded_by
    c.in-Some.is c.next.ensures.steps nat_list_cmp_total names (c.into_iter-name-iterator.ensures.into_iter_gives ∙ c.iter-name-items.ensures.rest) c.iter-name-items.ensures.ordered in
    let updates = c.in_ok-insert.ensures.updates in
    gathered_more (names_in names) c.in-Some.name.now c.in-Some.vat.now (ap (option_map (λ v. vat (vat_of v))) turn.1) c.loop-name.vats.entries c.insert.new.self.entries c.loop-name.name-iterator c.next.new.self _
    (rest_more deref_pair _ _ _ _ c.in-Some.is c.next.ensures.steps) c.insert.ensures.ordered updates.0 updates.1 c.in_ok-share.ensures c.loop-name.invariant

pub returns : goal.returns
returns c = gathered_all (names_in c.args.names.now) c.loop-name.vats.entries c.loop-name.name-iterator (rest_all deref_pair _ _ _ c.in-None.is c.next.ensures.steps) c.loop-name.invariant
