use Rattle.std.proofs.Common.{◌≡◌, ◌+◌, ◌-◌, ◌<◌, ◌≤◌, ◌++◌, Some, List, length, get_or, map, sym, ap, ◌∙◌, arith}
use Rattle.std.proofs.lemmas.List.{length-append, length-map}
use Rattle.std.proofs.lemmas.List.Elements.{All-get_or}
use Rattle.ids.specs.declared.cells.CellKey.{CellKey}
use Rattle.world_cells.specs.Theory.{kepts_of}
use Rattle.undo.specs.OpenView.{opens}
use Rattle.undo.specs.CoreView.{items_of}
use Rattle.undo.specs.Written.{written_at}
use Rattle.journal.specs.Items.{item_of, keys_at}
use Rattle.journal.specs.Journals.{settled_item}
use Rattle.undo.proofs.Behind.{keys_behind}
use Rattle.undo.proofs.Written.{written_more, keys_there}
use Rattle.undo.proofs.undoing.Core.written_at.Goals as goal

pub loop-position-preserved : goal.loop-position-preserved
loop-position-preserved c =
    let ps = c.args.positions.now in
    let i = c.loop-position.position-index in
    let p = get_or ps i 0 in
    let xs = opens c.args.self.now.entries in
    let items = items_of c.args.self.now in
    let h : i < length ps = omega arith in
    let there : p < length items = All-get_or (λ q. q < length items) ps i 0 h c.requires.within in
    let ss = map settled_item c.args.self.now.settled.items in
    let many = length-map c.args.self.now.settled.items settled_item in
    let behind : length c.args.self.now.settled.items ≤ p = c.requires.behind i 0 h in
    let place = p - c.len.result in
    let m : c.len.result ≡ length c.args.self.now.settled.items = omega arith in
    let at : p ≡ length ss + place = omega (arith, many, m, behind) in
    let all = length-append ss (map item_of xs) in
    let within : place < length xs = omega (arith, all, many, m, length-map xs item_of, behind, there) in
    let x = c.at.result.now in
    let ks : List CellKey = map (λ r. r.0) (kepts_of c.deref.result.now) in
    let here : keys_at items p ≡ Some ks =
    keys_behind ss (map item_of xs) p place at ∙ keys_there xs place x within
    ∙ ap (λ e. Some (map (λ r. r.0) (item_of e).kept)) (sym c.at.ensures) ∙ ap (λ l. Some (map (λ r. r.0) (kepts_of l))) (sym c.deref.ensures.value) in
    c.in_ok-add_keys.ensures ∙ ap (λ l. l ++ ks) c.loop-position.invariant ∙ written_more items ps i ks h here
