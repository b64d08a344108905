use Rattle.std.proofs.Common.{◌∙◌, ◌+◌, ◌-◌, ◌%◌, ◌^◌, ◌<◌, ◌≤◌, length, set, get_or, take, drop, ap, sym, arith}
use Rattle.std.specs.List.{list_all}
use Rattle.std.proofs.lemmas.List.{length-drop, length-set, take-set-le, drop-set-add, get_or-drop}
use Rattle.world_cells.specs.View.{is_ready, swaps_of}
use Rattle.world_cells.specs.Theory.{state_of_world, all_pass}
use Rattle.journal.specs.Items.{item_of, is_live, swap_item}
use Rattle.journal.specs.declared.entry.Entry.{Entry}
use Rattle.undo.specs.Emptied.{is_emptied}
use Rattle.undo.specs.OpenView.{opens}
use Rattle.undo.proofs.Entries.{get_there, ready_within, ready_at, count_at}
use Rattle.undo.proofs.open_entries.OpenEntries.swap.Goals as goal

pub overflow_add-self : goal.overflow_add-self
overflow_add-self c =
    let b = c.args.self.now in
    let xs = b.all.items in
    let within : c.args.place < length (opens b) = ready_within (is_ready c.args.world.now) (opens b) c.args.place c.requires in
    omega (arith, length-drop b.emptied xs, within, b.all.ok.0, b.all.ok.1, b.all.small)

pub index_mut-requires : goal.index_mut-requires
index_mut-requires c =
    let b = c.args.self.now in
    let xs = b.all.items in
    let within : c.args.place < length (opens b) = ready_within (is_ready c.args.world.now) (opens b) c.args.place c.requires in
    omega (arith, length-drop b.emptied xs, within, b.all.ok.0)

pub swap_one-requires : goal.swap_one-requires
swap_one-requires c =
    let b = c.args.self.now in
    let xs = b.all.items in
    let i = b.emptied + c.args.place in
    let x = c.index_mut.result.now in
    let room = is_ready c.args.world.now in
    ap (λ (e : Entry). all_pass room (item_of e).kept) (c.index_mut.ensures.value ∙ sym (get_or-drop b.emptied xs c.args.place x)) ∙ ready_at room (opens b) c.args.place x c.requires

pub invariant_of-self-clause-few : goal.invariant_of-self-clause-few
invariant_of-self-clause-few c =
    let b = c.args.self.now in
    omega (arith, b.few, length-set b.all.items (b.emptied + c.args.place) c.swap_one.new.entry)

pub invariant_of-self-clause-light : goal.invariant_of-self-clause-light
invariant_of-self-clause-light c =
    let b = c.args.self.now in
    let i = b.emptied + c.args.place in
    let first : b.emptied ≤ i = omega arith in
    ap (list_all is_emptied) (take-set-le b.emptied b.all.items i c.swap_one.new.entry first) ∙ b.light

pub returns-clause-entry : goal.returns-clause-entry
returns-clause-entry c =
    let b = c.args.self.now in
    let xs = b.all.items in
    let i = b.emptied + c.args.place in
    let y = c.swap_one.new.entry in
    let x = c.index_mut.result.now in
    let w = state_of_world c.args.world.now in
    let within : c.args.place < length (opens b) = ready_within (is_ready c.args.world.now) (opens b) c.args.place c.requires in
    let h : i < length xs = omega (arith, length-drop b.emptied xs, within) in
    record {
      entry = y;
      put = drop-set-add b.emptied xs c.args.place y;
      item = λ d. c.swap_one.ensures.item ∙ ap (λ (e : Entry). swap_item (is_live c.args.mark) (item_of e) w) (c.index_mut.ensures.value ∙ get_there xs i x d h ∙ sym (get_or-drop b.emptied xs c.args.place d));
    }

pub returns-clause-counted : goal.returns-clause-counted
returns-clause-counted c =
    let b = c.args.self.now in
    let xs = b.all.items in
    let x = c.index_mut.result.now in
    let within : c.args.place < length (opens b) = ready_within (is_ready c.args.world.now) (opens b) c.args.place c.requires in
    c.swap_one.ensures.counted
    ∙ ap (λ n. (swaps_of c.args.world.now + n) % 2 ^ 64) (ap (λ (e : Entry). length (item_of e).kept) (c.index_mut.ensures.value ∙ sym (get_or-drop b.emptied xs c.args.place x)) ∙ sym (count_at (opens b) c.args.place x within))
