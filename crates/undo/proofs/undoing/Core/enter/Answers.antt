use Rattle.std.proofs.Common.{◌≡◌, ◌+◌, ◌%◌, ◌^◌, ◌==◌, true, cond, List, [], ◌∷◌, ◌++◌, Some, length, map, refl, sym, ap, ap₂, ◌∙◌, subst, arith}
use Rattle.std.proofs.lemmas.List.{length-map}
use Rattle.history.specs.Walks.{step_at}
use Rattle.history.specs.Records.{State}
use Rattle.eval_rules.specs.OutboxView.{note_of}
use Rattle.world_cells.specs.Events.{Noted, with_notes}
use Rattle.world_cells.specs.EventView.{event_of}
use Rattle.world_cells.specs.View.{is_ready}
use Rattle.world_cells.specs.Theory.{cells, numbered, state_of_world, kept_of, kepts_of, all_pass}
use Rattle.journal.specs.Journals.{items_in, settled_item}
use Rattle.undo.specs.OpenView.{opens}
use Rattle.undo.specs.CoreView.{items_of, shown, state_of}
use Rattle.journal.specs.Items.{Item, item_of, keys_at, pass, records_at, swap_item}
use Rattle.journal.specs.declared.entry.Entry.{Entry}
use Rattle.journal.specs.declared.entry.Mark.TheVariants as mark
use Rattle.undo.proofs.Behind.{step_behind, ready_behind, count_behind, entered_behind}
use Rattle.undo.proofs.Looping.{both_true}
use Rattle.undo.proofs.Positions.{on_err, entered_is, ready_last, count_last}
use Rattle.ids.specs.declared.names.EventName.{EventName}
use Rattle.journal_links.specs.Followers.{may_follow}
use Rattle.journal_links.specs.Heirs.{is_heir}
use Rattle.journal.specs.Items.{lasts_of}
use Rattle.journal.specs.Links.{IsListed}
use Rattle.journal.specs.Settled.{written_by, written_over}
use Rattle.journal.specs.declared.entry.Touched.{Touched}
use Rattle.world_cells.specs.declared.record.CellRecord.{CellRecord}
use Rattle.undo.proofs.Linked.{Placed, Followed, Inherited, placed_same, placed_more, followed_kept, followed_more, inherited_kept, inherited_more}
use Rattle.undo.proofs.undoing.Core.enter.Goals as goal

pub invariant_of-self-in-Break-branch-3 : goal.invariant_of-self-in-Break-branch-3
invariant_of-self-in-Break-branch-3 c =
    let b = c.args.self.now in
    record { placed = placed_same b.places c.make_room.new.self b.settled.items (opens b.entries) c.make_room.ensures.same b.placed; followed = b.followed; inherited = b.inherited }

pub invariant_of-self-in-Break-branch-4 : goal.invariant_of-self-in-Break-branch-4
invariant_of-self-in-Break-branch-4 c =
    let b = c.args.self.now in
    record {
      placed = placed_same b.places c.make_room.new.self b.settled.items (opens b.entries) c.make_room.ensures.same b.placed;
      followed = followed_kept b.followers c.list_follower.new.followers (opens b.entries) c.list_follower.ensures.kept b.followed;
      inherited = b.inherited;
    }

pub invariant_of-self-in-Break-branch-5 : goal.invariant_of-self-in-Break-branch-5
invariant_of-self-in-Break-branch-5 c =
    let b = c.args.self.now in
    record {
      placed = placed_same b.places c.make_room.new.self b.settled.items (opens b.entries) c.make_room.ensures.same b.placed;
      followed = followed_kept b.followers c.list_follower.new.followers (opens b.entries) c.list_follower.ensures.kept b.followed;
      inherited = inherited_kept b.heirs c.list_heir.new.heirs b.settled.items (opens b.entries) c.list_heir.ensures.kept b.inherited;
    }

pub invariant_of-self-in-Break-branch-6 : goal.invariant_of-self-in-Break-branch-6
invariant_of-self-in-Break-branch-6 c =
    let b = c.args.self.now in
    record {
      placed = subst (Placed c.make_room.new.self b.settled.items) (sym c.in_err-push.ensures.items) (placed_same b.places c.make_room.new.self b.settled.items (opens b.entries) c.make_room.ensures.same b.placed);
      followed = subst (Followed c.list_follower.new.followers) (sym c.in_err-push.ensures.items) (followed_kept b.followers c.list_follower.new.followers (opens b.entries) c.list_follower.ensures.kept b.followed);
      inherited = subst (Inherited c.list_heir.new.heirs b.settled.items) (sym c.in_err-push.ensures.items) (inherited_kept b.heirs c.list_heir.new.heirs b.settled.items (opens b.entries) c.list_heir.ensures.kept b.inherited);
    }

pub invariant_of-self-2 : goal.invariant_of-self-2
invariant_of-self-2 c =
    let b = c.args.self.now in
    let ss = b.settled.items in
    let xs = opens b.entries in
    let e : Entry = record { event = c.args.deed.event; notes = c.args.deed.notes; seat = c.args.deed.seat; mark = mark.Live; touched = c.in_ok-touched.touched; records = c.args.records } in
    let at : c.len.result + c.len-2.result ≡ length ss + length xs = omega arith in
    let put = λ (k : EventName). c.put.ensures.put k ∙ ap (λ o. cond (k.0 == e.event.name.0) (Some (c.len.result + c.len-2.result)) o) (c.make_room.ensures.same k) in
    let follows : IsListed (may_follow c.list_follower.new.followers) e.event.name (lasts_of e.touched.items) = subst (λ (ts : List Touched). IsListed (may_follow c.list_follower.new.followers) e.event.name (lasts_of ts)) c.deref-2.ensures.value c.in_ok-list_follower.ensures.ok in
    let inherits : IsListed (is_heir c.list_heir.new.heirs) e.event.name (written_by (item_of e)) =
    subst (λ (rs : List CellRecord). IsListed (is_heir c.list_heir.new.heirs) e.event.name (written_over (lasts_of e.touched.items) (kepts_of rs))) c.deref-4.ensures.value
    (subst (λ (ts : List Touched). IsListed (is_heir c.list_heir.new.heirs) e.event.name (written_over (lasts_of ts) (kepts_of c.deref-4.result.now))) c.deref-3.ensures.value c.in_ok-list_heir.ensures.ok) in
    record {
      placed = subst (Placed c.put.new.self ss) (sym c.in_ok-push.ensures.items) (placed_more b.places c.put.new.self ss xs e (c.len.result + c.len-2.result) at put b.placed);
      followed = subst (Followed c.list_follower.new.followers) (sym c.in_ok-push.ensures.items) (followed_more b.followers c.list_follower.new.followers xs e c.list_follower.ensures.kept follows b.followed);
      inherited = subst (Inherited c.list_heir.new.heirs ss) (sym c.in_ok-push.ensures.items) (inherited_more b.heirs c.list_heir.new.heirs ss xs e c.list_heir.ensures.kept inherits b.inherited);
    }

pub returns-in_err-make_rooms-clause-err : goal.returns-in_err-make_rooms-clause-err
returns-in_err-make_rooms-clause-err c =
    on_err (◌≡◌ {A = List Item × State cells} (items_of c.args.self.now, state_of_world c.make_rooms.new.world) (shown c.args.self.now)) _
    (λ j. (items_of c.args.self.now, λ k. numbered (c.make_rooms.ensures.seen j k)))

pub returns-in_err-touched-clause-err : goal.returns-in_err-touched-clause-err
returns-in_err-touched-clause-err c =
    on_err (◌≡◌ {A = List Item × State cells} (items_of c.args.self.now, state_of_world c.make_rooms.new.world) (shown c.args.self.now)) _
    (λ j. (items_of c.args.self.now, λ k. numbered (c.make_rooms.ensures.seen j k)))

pub returns-in_err-make_room-clause-err : goal.returns-in_err-make_room-clause-err
returns-in_err-make_room-clause-err c =
    on_err (◌≡◌ {A = List Item × State cells} (items_of c.args.self.now, state_of_world c.make_rooms.new.world) (shown c.args.self.now)) _
    (λ j. (items_of c.args.self.now, λ k. numbered (c.make_rooms.ensures.seen j k)))

pub returns-in_err-list_follower-clause-err : goal.returns-in_err-list_follower-clause-err
returns-in_err-list_follower-clause-err c =
    on_err (◌≡◌ {A = List Item × State cells} (items_of c.args.self.now, state_of_world c.make_rooms.new.world) (shown c.args.self.now)) _
    (λ j. (items_of c.args.self.now, λ k. numbered (c.make_rooms.ensures.seen j k)))

pub returns-in_err-list_heir-clause-err : goal.returns-in_err-list_heir-clause-err
returns-in_err-list_heir-clause-err c =
    on_err (◌≡◌ {A = List Item × State cells} (items_of c.args.self.now, state_of_world c.make_rooms.new.world) (shown c.args.self.now)) _
    (λ j. (items_of c.args.self.now, λ k. numbered (c.make_rooms.ensures.seen j k)))

pub returns-in_err-push-clause-err : goal.returns-in_err-push-clause-err
returns-in_err-push-clause-err c =
    on_err (◌≡◌ {A = List Item × State cells} (items_in c.args.self.now.settled.items (opens c.push.new.self), state_of_world c.make_rooms.new.world) (shown c.args.self.now)) _
    (λ j. (items_in c.args.self.now.settled.items (c.in_err-push.ensures.items j), λ k. numbered (c.make_rooms.ensures.seen j k)))

pub swap_entry-requires-clause-ready : goal.swap_entry-requires-clause-ready
swap_entry-requires-clause-ready c =
    let b = c.args.self.now in
    let xs = opens b.entries in
    let ss = map settled_item b.settled.items in
    let n = length-map b.settled.items settled_item in
    let e : Entry = record { event = c.args.deed.event; notes = c.args.deed.notes; seat = c.args.deed.seat; mark = mark.Live; touched = c.in_ok-touched.touched; records = c.args.records } in
    let room = is_ready c.make_rooms.new.world in
    let at : c.len.result + c.len-2.result ≡ length ss + length xs = omega (arith, n) in
    let here : all_pass room (item_of e).kept ≡ true = ap (λ l. all_pass room (kepts_of l)) (sym c.deref.ensures.value) ∙ c.in_ok-make_rooms.ensures.ok in
    ready_behind room ss (map item_of (opens c.push.new.self)) (c.len.result + c.len-2.result) (length xs) at
    ∙ both_true _ _ (ap (λ l. pass room (keys_at (map item_of l) (length xs))) c.in_ok-push.ensures.items ∙ ready_last room xs e here) refl

pub returns-clause-ok : goal.returns-clause-ok
returns-clause-ok c =
    let b = c.args.self.now in
    let xs = opens b.entries in
    let ss = map settled_item b.settled.items in
    let n = length-map b.settled.items settled_item in
    let e : Entry = record { event = c.args.deed.event; notes = c.args.deed.notes; seat = c.args.deed.seat; mark = mark.Live; touched = c.in_ok-touched.touched; records = c.args.records } in
    let at : c.len.result + c.len-2.result ≡ length ss + length xs = omega (arith, n) in
    let w = state_of b in
    let event : Noted = with_notes (event_of c.args.deed.event) (map note_of c.args.deed.notes.items) in
    let lasts = c.in_ok-touched.ensures ∙ ap (λ (f : State cells). map (λ k. (k, (f k).1)) c.args.touched.now) (λ j k. numbered (c.make_rooms.ensures.seen j k)) in
    let here = entered_is xs e event c.args.deed.seat c.args.touched.now (kepts_of c.args.records.items) w (length xs) refl
    (λ j. record { event = event; seat = c.args.deed.seat; live = true; lasts = lasts j; kept = kepts_of c.args.records.items }) in
    c.swap_entry.ensures.shown
    ∙ ap₂ (λ l v. step_at (swap_item true) (c.len.result + c.len-2.result) (ss ++ map item_of l, v)) c.in_ok-push.ensures.items (λ j k. numbered (c.make_rooms.ensures.seen j k))
    ∙ step_behind (swap_item true) ss (map item_of (xs ++ e ∷ [])) (c.len.result + c.len-2.result) (length xs) w at
    ∙ (λ j. (ss ++ (here j).0, (here j).1))
    ∙ entered_behind ss (map item_of xs) event c.args.deed.seat c.args.touched.now (kepts_of c.args.records.items) w

pub returns-clause-counted : goal.returns-clause-counted
returns-clause-counted c =
    let b = c.args.self.now in
    let xs = opens b.entries in
    let ss = map settled_item b.settled.items in
    let n = length-map b.settled.items settled_item in
    let e : Entry = record { event = c.args.deed.event; notes = c.args.deed.notes; seat = c.args.deed.seat; mark = mark.Live; touched = c.in_ok-touched.touched; records = c.args.records } in
    let at : c.len.result + c.len-2.result ≡ length ss + length xs = omega (arith, n) in
    c.swap_entry.ensures.counted
    ∙ ap₂ (λ s k. (s + k) % 2 ^ 64) c.make_rooms.ensures.counted (count_behind ss (map item_of (opens c.push.new.self)) (c.len.result + c.len-2.result) (length xs) at
    ∙ ap (λ l. records_at (map item_of l) (length xs ∷ [])) c.in_ok-push.ensures.items ∙ count_last xs e ∙ length-map c.args.records.items kept_of)
