use Rattle.std.proofs.Common.{◌≡◌, ◌+◌, ◌-◌, ◌<◌, ◌++◌, List, length, map, get_or, sym, ap, ap₂, ◌∙◌, subst, arith}
use Rattle.std.proofs.lemmas.List.{length-append, length-map}
use Rattle.journal_links.specs.Places.{HasRoom}
use Rattle.journal.specs.declared.entry.Entry.{Entry}
use Rattle.undo.specs.OpenView.{opens}
use Rattle.undo.specs.CoreView.{state_of}
use Rattle.journal.specs.Items.{item_of, may_exchange}
use Rattle.journal.specs.Journals.{settled_item}
use Rattle.journal.proofs.Neighbouring.{map-exchanged}
use Rattle.undo.proofs.Behind.{test_behind, turn_behind}
use Rattle.undo.proofs.Exchanging.{may_at, length_turned}
use Rattle.undo.proofs.Linked.{Placed, Followed, Inherited, placed_turned, followed_turned, inherited_turned, first_turned, second_turned, room_there}
use Rattle.undo.proofs.undoing.Core.exchange.Goals as goal

pub at-requires-3 : goal.at-requires-3
at-requires-3 c =
    let b = c.args.self.now in
    let xs = opens b.entries in
    let ss = b.settled.items in
    let place = c.args.position - c.len.result in
    let m : c.len.result ≡ length ss = omega arith in
    let n = length-map ss settled_item in
    let all = length-append (map settled_item ss) (map item_of xs) in
    let h : place + 1 < length xs = omega (arith, all, n, m, length-map xs item_of, c.requires.behind, c.requires.within) in
    let long = ap length c.exchange.ensures ∙ length_turned place xs in
    omega (arith, h, long)

pub at-requires-4 : goal.at-requires-4
at-requires-4 c =
    let b = c.args.self.now in
    let xs = opens b.entries in
    let ss = b.settled.items in
    let place = c.args.position - c.len.result in
    let m : c.len.result ≡ length ss = omega arith in
    let n = length-map ss settled_item in
    let all = length-append (map settled_item ss) (map item_of xs) in
    let h : place + 1 < length xs = omega (arith, all, n, m, length-map xs item_of, c.requires.behind, c.requires.within) in
    let long = ap length c.exchange.ensures ∙ length_turned place xs in
    omega (arith, h, long)

pub put-requires : goal.put-requires
put-requires c =
    let b = c.args.self.now in
    let xs = opens b.entries in
    let ss = b.settled.items in
    let place = c.args.position - c.len.result in
    let m : c.len.result ≡ length ss = omega arith in
    let next : c.args.position + 1 ≡ length ss + (place + 1) = omega (arith, m, c.requires.behind) in
    let n = length-map ss settled_item in
    let all = length-append (map settled_item ss) (map item_of xs) in
    let h : place + 1 < length xs = omega (arith, all, n, m, length-map xs item_of, c.requires.behind, c.requires.within) in
    let d = c.at-3.result.now in
    let is : d ≡ get_or xs (place + 1) d = c.at-3.ensures ∙ ap (λ (es : List Entry). get_or es place d) c.exchange.ensures ∙ first_turned xs place d h in
    subst (λ (x : Entry). HasRoom b.places x.event.name) (sym is) (room_there b.places ss xs (c.args.position + 1) (place + 1) d next h b.placed)

pub put-requires-2 : goal.put-requires-2
put-requires-2 c =
    let b = c.args.self.now in
    let xs = opens b.entries in
    let ss = b.settled.items in
    let place = c.args.position - c.len.result in
    let m : c.len.result ≡ length ss = omega arith in
    let at : c.args.position ≡ length ss + place = omega (arith, m, c.requires.behind) in
    let n = length-map ss settled_item in
    let all = length-append (map settled_item ss) (map item_of xs) in
    let h : place + 1 < length xs = omega (arith, all, n, m, length-map xs item_of, c.requires.behind, c.requires.within) in
    let here : place < length xs = omega (arith, h) in
    let d = c.at-4.result.now in
    let is : d ≡ get_or xs place d = c.at-4.ensures ∙ ap (λ (es : List Entry). get_or es (place + 1) d) c.exchange.ensures ∙ second_turned xs place d h in
    c.put.ensures.room d.event.name (subst (λ (x : Entry). HasRoom b.places x.event.name) (sym is) (room_there b.places ss xs c.args.position place d at here b.placed))

pub invariant_of-self-2 : goal.invariant_of-self-2
invariant_of-self-2 c =
    let b = c.args.self.now in
    let xs = opens b.entries in
    let ss = b.settled.items in
    let place = c.args.position - c.len.result in
    let m : c.len.result ≡ length ss = omega arith in
    let at : c.args.position ≡ length ss + place = omega (arith, m, c.requires.behind) in
    let n = length-map ss settled_item in
    let all = length-append (map settled_item ss) (map item_of xs) in
    let h : place + 1 < length xs = omega (arith, all, n, m, length-map xs item_of, c.requires.behind, c.requires.within) in
    let turned = c.exchange.ensures in
    let first = c.at-3.result.now in
    let second = c.at-4.result.now in
    let is_first : first ≡ get_or xs (place + 1) first = c.at-3.ensures ∙ ap (λ (es : List Entry). get_or es place first) turned ∙ first_turned xs place first h in
    let is_second : second ≡ get_or xs place second = c.at-4.ensures ∙ ap (λ (es : List Entry). get_or es (place + 1) second) turned ∙ second_turned xs place second h in
    record {
      placed = subst (Placed c.put-2.new.self ss) (sym turned)
          (placed_turned b.places c.put.new.self c.put-2.new.self ss xs c.args.position place second first second.event.name first.event.name at h
          (ap (λ (x : Entry). x.event.name) is_second) (ap (λ (x : Entry). x.event.name) is_first) c.put.ensures.put c.put-2.ensures.put b.placed);
      followed = subst (Followed b.followers) (sym turned) (followed_turned b.followers place xs b.followed);
      inherited = subst (Inherited b.heirs ss) (sym turned) (inherited_turned b.heirs ss place xs b.inherited);
    }

pub returns-then-not-may_exchange-clause-done : goal.returns-then-not-may_exchange-clause-done
returns-then-not-may_exchange-clause-done c =
    let b = c.args.self.now in
    let xs = opens b.entries in
    let ss = map settled_item b.settled.items in
    let n = length-map b.settled.items settled_item in
    let place = c.args.position - c.len.result in
    let m : c.len.result ≡ length b.settled.items = omega arith in
    let at : c.args.position ≡ length ss + place = omega (arith, n, m, c.requires.behind) in
    let all = length-append ss (map item_of xs) in
    let h : place + 1 < length xs = omega (arith, all, n, m, length-map xs item_of, c.requires.behind, c.requires.within) in
    sym c.if-not-may_exchange.true ∙ c.may_exchange.ensures ∙ ap₂ (λ a b. may_exchange (item_of a) (item_of b)) c.at.ensures c.at-2.ensures
    ∙ sym (may_at xs place c.at.result.now c.at-2.result.now h) ∙ sym (test_behind may_exchange ss (map item_of xs) c.args.position place at)

pub returns-clause-done : goal.returns-clause-done
returns-clause-done c =
    let b = c.args.self.now in
    let xs = opens b.entries in
    let ss = map settled_item b.settled.items in
    let n = length-map b.settled.items settled_item in
    let place = c.args.position - c.len.result in
    let m : c.len.result ≡ length b.settled.items = omega arith in
    let at : c.args.position ≡ length ss + place = omega (arith, n, m, c.requires.behind) in
    let all = length-append ss (map item_of xs) in
    let h : place + 1 < length xs = omega (arith, all, n, m, length-map xs item_of, c.requires.behind, c.requires.within) in
    sym c.if-not-may_exchange.false ∙ c.may_exchange.ensures ∙ ap₂ (λ a b. may_exchange (item_of a) (item_of b)) c.at.ensures c.at-2.ensures
    ∙ sym (may_at xs place c.at.result.now c.at-2.result.now h) ∙ sym (test_behind may_exchange ss (map item_of xs) c.args.position place at)

pub returns-clause-shown : goal.returns-clause-shown
returns-clause-shown c =
    let b = c.args.self.now in
    let xs = opens b.entries in
    let ss = map settled_item b.settled.items in
    let n = length-map b.settled.items settled_item in
    let place = c.args.position - c.len.result in
    let m : c.len.result ≡ length b.settled.items = omega arith in
    let at : c.args.position ≡ length ss + place = omega (arith, n, m, c.requires.behind) in
    let all = length-append ss (map item_of xs) in
    let h : place + 1 < length xs = omega (arith, all, n, m, length-map xs item_of, c.requires.behind, c.requires.within) in
    ap (λ l. (l, state_of b))
    (ap (λ l. ss ++ map item_of l) c.exchange.ensures ∙ ap (λ l. ss ++ l) (map-exchanged item_of place xs) ∙ sym (turn_behind ss (map item_of xs) c.args.position place at))
