use Rattle.std.proofs.Common.{◌≡◌, ◌∙◌, true, ◌++◌, List, map, take, drop, sym, ap, ap₂, subst}
use Rattle.std.specs.List.{AllByRecursion}
use Rattle.journal_links.specs.Followers.{IsLetGo}
use Rattle.journal.specs.Items.{Item, item_of}
use Rattle.journal.specs.Journals.{settled_item}
use Rattle.journal.specs.declared.entry.Entry.{Entry}
use Rattle.undo.specs.OpenView.{opens}
use Rattle.undo.specs.CoreView.{state_of}
use Rattle.undo.proofs.Settling.{map_take, all_stay, all_mapped}
use Rattle.undo.proofs.Linked.{Placed, Inherited, placed_settled, followed_settled, inherited_settled}
use Rattle.undo.proofs.undoing.Core.settle.Goals as goal

pub invariant_of-self-in-Break-branch-2 : goal.invariant_of-self-in-Break-branch-2
invariant_of-self-in-Break-branch-2 c =
    let b = c.args.self.now in
    record {
      placed = subst (λ ss. Placed b.places ss (opens b.entries)) (sym c.in_err-append.ensures.items) b.placed;
      followed = b.followed;
      inherited = subst (λ ss. Inherited b.heirs ss (opens b.entries)) (sym c.in_err-append.ensures.items) b.inherited;
    }

pub invariant_of-self-2 : goal.invariant_of-self-2
invariant_of-self-2 c =
    let b = c.args.self.now in
    let xs = opens b.entries in
    let n = c.args.count in
    let left : opens c.let_go-2.new.self ≡ drop n xs = c.let_go-2.ensures in
    let new : map settled_item c.in_ok-settled.settled.items ≡ map item_of (take n xs) = c.in_ok-settled.ensures ∙ ap (λ es. map item_of (take n es)) c.as_slice.ensures in
    let stay = ap₂ (λ ss es. map settled_item ss ++ map item_of es) c.in_ok-append.ensures.items left ∙ all_stay settled_item item_of b.settled.items c.in_ok-settled.settled.items n xs new in
    record {
      placed = placed_settled b.places b.settled.items c.append.new.self.items xs (opens c.let_go-2.new.self) stay b.placed;
      inherited = inherited_settled b.heirs b.settled.items c.append.new.self.items xs (opens c.let_go-2.new.self) stay b.inherited;
      followed = followed_settled b.followers c.let_go.new.followers n xs (opens c.let_go-2.new.self) left c.let_go.ensures.kept b.followed;
    }

pub of_all-requires : goal.of_all-requires
of_all-requires c =
    subst (λ es. AllByRecursion (λ (i : Item). i.live ≡ true) (map item_of (take c.args.count es))) (sym c.as_slice.ensures)
    (subst (AllByRecursion (λ (i : Item). i.live ≡ true)) (map_take item_of c.args.count (opens c.args.self.now.entries)) c.requires.live)

pub returns-clause-shown : goal.returns-clause-shown
returns-clause-shown c =
    let b = c.args.self.now in
    let xs = opens b.entries in
    let n = c.args.count in
    let new : map settled_item c.in_ok-settled.settled.items ≡ map item_of (take n xs) = c.in_ok-settled.ensures ∙ ap (λ es. map item_of (take n es)) c.as_slice.ensures in
    ap₂ (λ ss es. (map settled_item ss ++ map item_of es, state_of b)) c.in_ok-append.ensures.items c.let_go-2.ensures
    ∙ ap (λ l. (l, state_of b)) (all_stay settled_item item_of b.settled.items c.in_ok-settled.settled.items n xs new)

pub returns-clause-unlisted : goal.returns-clause-unlisted
returns-clause-unlisted c =
    let xs = opens c.args.self.now.entries in
    let n = c.args.count in
    let lists = c.let_go.new.followers in
    subst (AllByRecursion (λ (i : Item). IsLetGo lists i.event.name)) (sym (map_take item_of n xs))
    (all_mapped (λ (i : Item). IsLetGo lists i.event.name) item_of (take n xs)
    (subst (λ (es : List Entry). AllByRecursion (λ (x : Entry). IsLetGo lists x.event.name) (take n es)) c.as_slice.ensures c.let_go.ensures.gone))
