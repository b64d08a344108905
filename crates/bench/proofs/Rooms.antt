-- Why what may be done is refused: there is no room for it.
use Rattle.std.proofs.Common.{◌≡◌, ◌&&◌, ℕ, Bool, true, false, is_some, not, List, Option, Some, inr, ap, ◌∙◌, subst}
use Rattle.std.specs.Option.{option_map}
use Rattle.ids.specs.declared.names.MsgId.{MsgId}
use Rattle.ids.specs.declared.names.PromId.{PromId}
use Rattle.ids.specs.declared.names.VatNo.{VatNo}
use Rattle.heap.specs.State as heap
use Rattle.heap.specs.State.{pending, view_cell}
use Rattle.post.specs.Messages.{Message, flies_to, waits_at}
use Rattle.world_cells.specs.World.{message_of, published_as, vat_state}
use Rattle.event.specs.Forwarding.{onward_of}
use Rattle.event.specs.Ready.{IsReady, lost_message, misplaced, early, place_of}
use Rattle.event.specs.declared.ready.Unready.{Unready}
use Rattle.book_agenda.specs.Agendas.{is_open}
use Rattle.book_agenda.specs.Enabled.{MayDo, may_arrive, may_forward, may_turn, may_learn}
use Rattle.book_agenda.specs.declared.agenda.Step.{Step}
use Rattle.book_agenda.specs.declared.agenda.Step.TheVariants as step
use Rattle.desk.specs.Desks.{has_vat}
use Rattle.book_refusals.specs.Fault.{Tells}
use Rattle.book_refusals.specs.declared.fault.BookFault.{BookFault}
use Rattle.book_refusals.specs.Refusals.{Refusal, first, refuse_where, refusal_of, not_there, not_ready, nothing_to_learn, vat_out}
use Rattle.book.specs.Books.{Book}
use Rattle.book.specs.Refusals.{budget_refusal, full_refusal, arrival_refusal, arrival_refusal_by, forward_refusal, onward_refusal, learning_refusal, move_refusal, checkout_refusal, vat_at_is_out, message_out}
use Rattle.bench.specs.Author.{FirstIn, no_room, RefusesPick}

-- why the call of the book that does a step, or lends a ticket for it, is refused
abbrev pub refusal_at : ℕ → Step → Book → Option Refusal
refusal_at budget (step.Move m) b = move_refusal b m
refusal_at budget (step.Turn m) b = checkout_refusal b m budget

arrival_room : (b : Book) (m : MsgId) (g : Message) (v : VatNo) → message_of b.world m ≡ Some g → flies_to g.place ≡ Some v → arrival_refusal b m ≡ full_refusal b
arrival_room b m g v there flies =
    ap (λ (o : Option Message). first (arrival_refusal_by m o) (full_refusal b)) there
    ∙ ap (λ (o : Option VatNo). first (refuse_where (not (is_some o)) not_there) (full_refusal b)) flies

forward_room : (b : Book) (m : MsgId) (g : Message) (v : VatNo) (r : VatNo × List PromId)
    → message_of b.world m ≡ Some g → waits_at g.place ≡ Some v → onward_of b.world v g ≡ Some r → forward_refusal b m ≡ full_refusal b
forward_room b m g v r there waits onward =
    ap (λ (o : Option Message). first (option_map (refusal_of m) (lost_message o)) (first (onward_refusal b.world o (place_of o)) (full_refusal b))) there
    ∙ ap (λ (o : Option VatNo). first (option_map (refusal_of m) (misplaced o)) (first (onward_refusal b.world (Some g) o) (full_refusal b))) waits
    ∙ ap (λ (o : Option (VatNo × List PromId)). first (refuse_where (not (is_some o)) not_ready) (full_refusal b)) onward

learning_room : (b : Book) (v : VatNo) (p : PromId) → vat_state b.world v (view_cell p) ≡ Some (heap.viewed pending) → is_some (published_as b.world p) ≡ true → learning_refusal b v p ≡ full_refusal b
learning_room b v p opened published =
    ap (λ (o : Option heap.Content). first (refuse_where (not (is_open o && is_some (published_as b.world p))) nothing_to_learn) (full_refusal b)) opened
    ∙ ap (λ (t : Bool). first (refuse_where (not t) nothing_to_learn) (full_refusal b)) published

turn_room : (budget : ℕ) (b : Book) (m : MsgId) (g : Message) (v : VatNo)
    → message_of b.world m ≡ Some g → waits_at g.place ≡ Some v → has_vat v b.out ≡ false → IsReady b.world m → checkout_refusal b m budget ≡ first (budget_refusal budget) (full_refusal b)
turn_room budget b m g v there waits free ready =
    let out : message_out (message_of b.world m) b.out ≡ false = ap (λ (o : Option Message). message_out o b.out) there ∙ ap (λ (o : Option VatNo). vat_at_is_out o b.out) waits ∙ free in
    ap (λ (o : Option Unready). first (budget_refusal budget) (first (option_map (refusal_of m) o) (first (refuse_where (message_out (message_of b.world m) b.out) vat_out) (first (option_map (refusal_of m) (early b.world m)) (full_refusal b))))) ready.at_a_vat
    ∙ ap (λ (t : Bool). first (budget_refusal budget) (first (refuse_where t vat_out) (first (option_map (refusal_of m) (early b.world m)) (full_refusal b)))) out
    ∙ ap (λ (o : Option Unready). first (budget_refusal budget) (first (option_map (refusal_of m) o) (full_refusal b))) ready.in_order

-- what may be done is refused only where there is no room for it
refused_for_room : (budget : ℕ) (b : Book) (s : Step) → MayDo b.world (λ v. has_vat v b.out) s → refusal_at budget s b ≡ no_room budget s b
refused_for_room budget b s (may_arrive {m = m} {g = g} {v = v} there flies) = arrival_room b m g v there flies
refused_for_room budget b s (may_forward {m = m} {g = g} {v = v} {r = r} there waits onward) = forward_room b m g v r there waits onward
refused_for_room budget b s (may_turn {m = m} {g = g} {v = v} there waits free ready) = turn_room budget b m g v there waits free ready
refused_for_room budget b s (may_learn {v = v} {p = p} opened published free) = learning_room b v p opened published

pub refuses_pick : (budget : ℕ) (b : Book) (s : Step) (fault : BookFault) → FirstIn b (Some s) → Tells fault (refusal_at budget s b) → RefusesPick budget b fault
refuses_pick budget b s fault may told = inr (s, may, subst (Tells fault) (refused_for_room budget b s may.0) told)
