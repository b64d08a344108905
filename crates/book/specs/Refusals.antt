-- When an event or a ticket is refused.
use Rattle.std.specs.Prelude.{ℕ, is_some, ◌||◌, ◌==◌, not, Bool, false, List, [], ◌∷◌, Option, Some, None, Ok, Err, nat_lt, nat_le}
use Rattle.std.specs.Option.{option_map}
use Rattle.kernele.specs.Tree.{Name, Trees}
use Rattle.kernele_scopes.specs.Scope.{Checked, checked_program, script_scopes, asked_scopes}
use Rattle.ids.specs.declared.names.VatNo.{VatNo}
use Rattle.ids.specs.declared.names.MsgId.{MsgId}
use Rattle.ids.specs.declared.names.PromId.{PromId}
use Rattle.post.specs.Messages.{Vat, flies_to, waits_at, Message}
use Rattle.world_cells.specs.World.{World, vat_named, message_of}
use Rattle.event.specs.Ready.{lost, early, place_of}
use Rattle.event.specs.Forwarding.{onward_of}
use Rattle.book_agenda.specs.Agendas.{can_learn}
use Rattle.book_agenda.specs.declared.agenda.Move.{Move}
use Rattle.book_agenda.specs.declared.agenda.Move.TheVariants as move
use Rattle.desk.specs.Desks.{Lent, has_vat}
use Rattle.book_refusals.specs.Refusals.{Refusal, no_vat, name_taken, no_message, not_there, not_ready, nothing_to_learn, full, vat_out, bad_budget, unchecked, first, refuse_where, refusal_of}
use Rattle.book.specs.Books.{Book, open_count}
use Rattle.book.specs.declared.book.TheConstants.{LAST_NAME, MOST_ENTRIES, MOST_STEPS}

-- the journal has no room behind what is settled
abbrev pub journal_full : Book → Option Refusal
journal_full b = refuse_where (nat_le MOST_ENTRIES (open_count b)) full

-- names are used up, or the journal has no room
abbrev pub full_refusal : Book → Option Refusal
full_refusal b = refuse_where (nat_lt LAST_NAME b.next || nat_le MOST_ENTRIES (open_count b)) full

abbrev pub check_refusal : Checked → Option Refusal
check_refusal (Ok s) = None
check_refusal (Err fault) = Some (unchecked fault)

abbrev pub taken_refusal : Name → Option Vat → Option Refusal
taken_refusal x None = None
taken_refusal x (Some v) = Some (name_taken x)

abbrev pub absent_refusal : Name → Option Vat → Option Refusal
absent_refusal x None = Some (no_vat x)
absent_refusal x (Some v) = None

-- an earlier vat that is not there
abbrev pub named_refusal : World → List Name → Option Refusal
named_refusal w [] = None
named_refusal w (x ∷ xs) = first (absent_refusal x (vat_named w x)) (named_refusal w xs)

-- a birth: the name is free, the earlier vats are there, the script passes the check among their names
abbrev pub birth_refusal : Book → Name → List Name → Trees → Option Refusal
birth_refusal b x earlier script =
    first (taken_refusal x (vat_named b.world x))
    (first (named_refusal b.world earlier) (first (check_refusal (checked_program script (script_scopes earlier))) (full_refusal b)))

abbrev pub ask_refusal_by : Option Vat → Book → Name → Trees → Option Refusal
ask_refusal_by None b x program = Some (no_vat x)
ask_refusal_by (Some v) b x program = first (check_refusal (checked_program program (asked_scopes v.earlier v.tops))) (full_refusal b)

-- an asked program: the vat is there, the program passes the check among the names of its earlier vats and those that its script defines
abbrev pub ask_refusal : Book → Name → Trees → Option Refusal
ask_refusal b x program = ask_refusal_by (vat_named b.world x) b x program

-- an arrival: the message is there, and on its way
abbrev pub arrival_refusal_by : MsgId → Option Message → Option Refusal
arrival_refusal_by m None = Some (no_message m)
arrival_refusal_by m (Some g) = refuse_where (not (is_some (flies_to g.place))) not_there

abbrev pub arrival_refusal : Book → MsgId → Option Refusal
arrival_refusal b m = first (arrival_refusal_by m (message_of b.world m)) (full_refusal b)

-- a forwarding: the message is at a vat, and its target leads to another one
abbrev pub onward_refusal : World → Option Message → Option VatNo → Option Refusal
onward_refusal w (Some g) (Some v) = refuse_where (not (is_some (onward_of w v g))) not_ready
onward_refusal w _ _ = None

abbrev pub forward_refusal : Book → MsgId → Option Refusal
forward_refusal b m =
    first (option_map (refusal_of m) (lost b.world m))
    (first (onward_refusal b.world (message_of b.world m) (place_of (message_of b.world m))) (full_refusal b))

-- what a vat learns: the promise is open in its view, and was published
abbrev pub learning_refusal : Book → VatNo → PromId → Option Refusal
learning_refusal b v p = first (refuse_where (not (can_learn b.world v p)) nothing_to_learn) (full_refusal b)

-- a move: that of an arrival, of a forwarding, or of what a vat learns
abbrev pub move_refusal : Book → Move → Option Refusal
move_refusal b (move.Arrive m) = arrival_refusal b m
move_refusal b (move.Forward m) = forward_refusal b m
move_refusal b (move.Learn v p) = learning_refusal b v p

abbrev pub learn_refusal_by : Option Vat → Book → Name → PromId → Option Refusal
learn_refusal_by None b x p = Some (no_vat x)
learn_refusal_by (Some v) b x p = learning_refusal b v.number p

abbrev pub learn_refusal : Book → Name → PromId → Option Refusal
learn_refusal b x p = learn_refusal_by (vat_named b.world x) b x p

-- a budget is 1 to 1,000,000
abbrev pub budget_refusal : ℕ → Option Refusal
budget_refusal budget = refuse_where (budget == 0 || nat_lt MOST_STEPS budget) bad_budget

abbrev pub vat_at_is_out : Option VatNo → List Lent → Bool
vat_at_is_out (Some v) out = has_vat v out
vat_at_is_out None out = false

abbrev pub message_out : Option Message → List Lent → Bool
message_out None out = false
message_out (Some g) out = vat_at_is_out (waits_at g.place) out

-- a checkout: the budget is good, the message is at a vat, no ticket of the vat is out, the message leads there, and what it waits for is done
abbrev pub checkout_refusal : Book → MsgId → ℕ → Option Refusal
checkout_refusal b m budget =
    first (budget_refusal budget) (first (option_map (refusal_of m) (lost b.world m))
    (first (refuse_where (message_out (message_of b.world m) b.out) vat_out)
    (first (option_map (refusal_of m) (early b.world m)) (full_refusal b))))
