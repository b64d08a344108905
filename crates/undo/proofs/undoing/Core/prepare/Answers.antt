use Rattle.std.proofs.Common.{◌≡◌, ◌+◌, ◌-◌, ◌<◌, ◌≤◌, true, length, get_or, map, sym, ap, ◌∙◌, arith}
use Rattle.std.proofs.lemmas.List.{length-append, length-map}
use Rattle.std.proofs.lemmas.List.Elements.{All-get_or}
use Rattle.world_cells.specs.View.{is_ready}
use Rattle.world_cells.specs.Theory.{numbered, kepts_of, all_pass}
use Rattle.undo.specs.OpenView.{opens}
use Rattle.undo.specs.CoreView.{items_of, ready_of}
use Rattle.journal.specs.Items.{item_of, keys_at, pass}
use Rattle.journal.specs.Journals.{items_in, settled_item}
use Rattle.undo.proofs.Behind.{keys_behind}
use Rattle.undo.proofs.Positions.{pass_kept, pass_more, ready_there}
use Rattle.undo.proofs.undoing.Core.prepare.Goals as goal

pub returns-in_err-make_rooms-clause-shown : goal.returns-in_err-make_rooms-clause-shown
returns-in_err-make_rooms-clause-shown c = λ j. (items_in (c.loop-position.invariant.settled j).items (opens (c.loop-position.invariant.entries j)), (ap (λ f k. numbered (f k)) c.make_rooms.ensures.seen ∙ c.loop-position.invariant.state) j)

pub returns-in_err-make_rooms-clause-counted : goal.returns-in_err-make_rooms-clause-counted
returns-in_err-make_rooms-clause-counted c = c.make_rooms.ensures.counted ∙ c.loop-position.invariant.counted

pub loop-position-preserved : goal.loop-position-preserved
loop-position-preserved c =
    let ps = c.args.positions.now in
    let i = c.loop-position.position-index in
    let p = get_or ps i 0 in
    let xs = opens c.args.self.now.entries in
    let items = items_of c.args.self.now in
    let was = ready_of c.loop-position.self in
    let now = is_ready c.make_rooms.new.world in
    let h : i < length ps = omega arith in
    let there : p < length items = All-get_or (λ q. q < length items) ps i 0 h c.requires.within in
    let ss = map settled_item c.args.self.now.settled.items in
    let many = length-map c.args.self.now.settled.items settled_item in
    let behind : length c.args.self.now.settled.items ≤ p = c.requires.behind i 0 h in
    let place = p - c.len.result in
    let m : c.len.result ≡ length c.args.self.now.settled.items = (let now : c.len.result ≡ length c.loop-position.self.settled.items = omega arith in now ∙ ap (λ v. length v.items) c.loop-position.invariant.settled) in
    let at : p ≡ length ss + place = omega (arith, many, m, behind) in
    let all = length-append ss (map item_of xs) in
    let within : place < length xs = omega (arith, all, many, m, length-map xs item_of, behind, there) in
    let x = c.at.result.now in
    let here : all_pass now (item_of (get_or xs place x)).kept ≡ true =
    ap (λ (es : _). all_pass now (item_of (get_or es place x)).kept) (ap opens (sym c.loop-position.invariant.entries)) ∙ ap (λ e. all_pass now (item_of e).kept) (sym c.at.ensures)
    ∙ ap (λ l. all_pass now (kepts_of l)) (sym c.deref.ensures.value) ∙ c.in_ok-make_rooms.ensures.ok in
    record {
      settled = c.loop-position.invariant.settled;
      counted = c.make_rooms.ensures.counted ∙ c.loop-position.invariant.counted;
      entries = c.loop-position.invariant.entries;
      state = ap (λ f k. numbered (f k)) c.make_rooms.ensures.seen ∙ c.loop-position.invariant.state;
      ready = λ k g. c.make_rooms.ensures.ready k (c.loop-position.invariant.ready k g);
      made = pass_more (λ q. pass was (keys_at items q)) (λ q. pass now (keys_at items q)) ps i h (λ q. pass_kept was now c.make_rooms.ensures.ready (keys_at items q)) (ap (pass now) (keys_behind ss (map item_of xs) p place at) ∙ ready_there now xs place x within here) c.loop-position.invariant.made;
    }
