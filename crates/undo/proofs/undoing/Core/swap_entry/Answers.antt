use Rattle.std.proofs.Common.{◌≡◌, ◌+◌, ◌-◌, ◌%◌, ◌^◌, true, List, [], ◌∷◌, ◌++◌, length, map, get_or, set, sym, ap, ◌∙◌, subst, arith}
use Rattle.std.proofs.lemmas.List.{length-map}
use Rattle.history.specs.Records.{State}
use Rattle.world_cells.specs.Theory.{cells, state_of_world}
use Rattle.journal.specs.Items.{Item, item_of, is_live, swap_item, keys_at, all_ready}
use Rattle.journal.specs.Journals.{settled_item}
use Rattle.journal.specs.declared.entry.Entry.{Entry}
use Rattle.undo.specs.OpenView.{opens}
use Rattle.undo.specs.CoreView.{ready_of, swaps_of}
use Rattle.undo.proofs.Behind.{step_behind, ready_behind, count_behind, keys_stay_behind}
use Rattle.undo.proofs.Entries.{stepped, ready_within, keys_stay, keys_after}
use Rattle.journal.specs.Settled.{written_by}
use Rattle.journal.proofs.Linked.{written_swapped}
use Rattle.undo.proofs.Linked.{Placed, Followed, Inherited, placed_set, followed_set, inherited_set}
use Rattle.undo.proofs.undoing.Core.swap_entry.Goals as goal

pub invariant_of-self : goal.invariant_of-self
invariant_of-self c =
    let b = c.args.self.now in
    let xs = opens b.entries in
    let place = c.args.position - c.len.result in
    let y = c.swap.ensures.entry.entry in
    let same = c.swap.ensures.entry.item y in
    let name = ap (λ (r : Item × State cells). r.0.event.name) same in
    record {
      placed = subst (Placed b.places b.settled.items) (sym c.swap.ensures.entry.put) (placed_set b.places b.settled.items xs place y y name b.placed);
      followed = subst (Followed b.followers) (sym c.swap.ensures.entry.put) (followed_set b.followers xs place y y name (ap (λ (r : Item × State cells). r.0.lasts) same) b.followed);
      inherited = subst (Inherited b.heirs b.settled.items) (sym c.swap.ensures.entry.put) (inherited_set b.heirs b.settled.items xs place y y name
          (ap (λ (r : Item × State cells). written_by r.0) same ∙ written_swapped (is_live c.args.mark) (item_of (get_or xs place y)) (state_of_world b.world)) b.inherited);
    }

pub swap-requires : goal.swap-requires
swap-requires c =
    let b = c.args.self.now in
    let xs = opens b.entries in
    let ss = map settled_item b.settled.items in
    let n = length-map b.settled.items settled_item in
    let place = c.args.position - c.len.result in
    let m : c.len.result ≡ length b.settled.items = omega arith in
    let at : c.args.position ≡ length ss + place = omega (arith, n, m, c.requires.behind) in
    sym (ready_behind (ready_of b) ss (map item_of xs) c.args.position place at) ∙ c.requires.ready

pub returns-clause-shown : goal.returns-clause-shown
returns-clause-shown c =
    let b = c.args.self.now in
    let xs = opens b.entries in
    let ss = map settled_item b.settled.items in
    let n = length-map b.settled.items settled_item in
    let place = c.args.position - c.len.result in
    let m : c.len.result ≡ length b.settled.items = omega arith in
    let at : c.args.position ≡ length ss + place = omega (arith, n, m, c.requires.behind) in
    let room : all_ready (ready_of b) (map item_of xs) (place ∷ []) ≡ true = sym (ready_behind (ready_of b) ss (map item_of xs) c.args.position place at) ∙ c.requires.ready in
    let w = state_of_world b.world in
    let v = state_of_world c.swap.new.world in
    let y = c.swap.ensures.entry.entry in
    let here = stepped item_of (swap_item (is_live c.args.mark)) xs place y y w v (ready_within (ready_of b) xs place room) (c.swap.ensures.entry.item y) in
    ap (λ (l : List Entry). (ss ++ map item_of l, v)) c.swap.ensures.entry.put
    ∙ (λ i. (ss ++ (here i).0, (here i).1)) ∙ sym (step_behind (swap_item (is_live c.args.mark)) ss (map item_of xs) c.args.position place w at)

pub returns-clause-keys : goal.returns-clause-keys
returns-clause-keys c =
    let b = c.args.self.now in
    let xs = opens b.entries in
    let ss = map settled_item b.settled.items in
    let n = length-map b.settled.items settled_item in
    let place = c.args.position - c.len.result in
    let m : c.len.result ≡ length b.settled.items = omega arith in
    let at : c.args.position ≡ length ss + place = omega (arith, n, m, c.requires.behind) in
    let room : all_ready (ready_of b) (map item_of xs) (place ∷ []) ≡ true = sym (ready_behind (ready_of b) ss (map item_of xs) c.args.position place at) ∙ c.requires.ready in
    let w = state_of_world b.world in
    let y = c.swap.ensures.entry.entry in
    let same = c.swap.ensures.entry.item y in
    let kept = keys_stay_behind ss (map item_of xs) (map item_of (set xs place y))
    (keys_stay xs place y y (ready_within (ready_of b) xs place room)
    (keys_after (item_of y) (item_of (get_or xs place y)) w (ap (λ (r : Item × State cells). r.0.kept) same))) in
    λ p. ap (λ (l : List Entry). keys_at (ss ++ map item_of l) p) c.swap.ensures.entry.put ∙ kept p

pub returns-clause-counted : goal.returns-clause-counted
returns-clause-counted c =
    let b = c.args.self.now in
    let xs = opens b.entries in
    let ss = map settled_item b.settled.items in
    let n = length-map b.settled.items settled_item in
    let place = c.args.position - c.len.result in
    let m : c.len.result ≡ length b.settled.items = omega arith in
    let at : c.args.position ≡ length ss + place = omega (arith, n, m, c.requires.behind) in
    c.swap.ensures.counted ∙ ap (λ n. (swaps_of b + n) % 2 ^ 64) (sym (count_behind ss (map item_of xs) c.args.position place at))
