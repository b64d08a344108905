-- Why a checkout is refused: the tests one after the other.
use Rattle.std.proofs.Common.{◌≡◌, ℕ, Bool, true, false, cond, Option, Some, None, refl, sym, ap, ◌∙◌}
use Rattle.std.specs.Option.{option_map}
use Rattle.ids.specs.declared.names.MsgId.{MsgId}
use Rattle.ids.specs.declared.names.VatNo.{VatNo}
use Rattle.ids.specs.declared.cells.CellKey.TheVariants as key
use Rattle.post.specs.Messages.{Message, Place, at_vat, waits_at}
use Rattle.world_cells.specs.World.{World, message, message_in, message_of}
use Rattle.event.specs.Ready.{lost, early, early_by, leads_there, first_undone, place_of, unready_at, unready_message}
use Rattle.event.specs.Walks.{awaited}
use Rattle.event.specs.ReadyView.{IsUnready}
use Rattle.event.specs.declared.ready.Delay.{Delay}
use Rattle.event.specs.declared.ready.Delay.TheVariants as delay
use Rattle.event.specs.declared.ready.Unready.{Unready}
use Rattle.event.specs.declared.ready.Unready.TheVariants as why
use Rattle.desk.specs.Desks.{has_vat}
use Rattle.book_refusals.specs.Fault.{delay_tells}
use Rattle.book_refusals.specs.Refusals.{Refusal, first, refuse_where, vat_out, refusal_of}
use Rattle.book.specs.Books.{Book}
use Rattle.book.proofs.Choosing.{neither}
use Rattle.book.specs.Refusals.{budget_refusal, message_out, vat_at_is_out, full_refusal, checkout_refusal}

-- the first does not refuse, so it is the next that counts
pub next_is : (a b : Option Refusal) → a ≡ None → first a b ≡ b
next_is a b e = ap (λ o. first o b) e

pub none_mapped : (m : MsgId) (o : Option Unready) → o ≡ None → option_map (refusal_of m) o ≡ None
none_mapped m o e = ap (option_map (refusal_of m)) e

not_where : (t : Bool) (refusal : Refusal) → refuse_where t refusal ≡ None → t ≡ false
not_where true refusal e = cc
not_where false refusal e = refl

-- where a checkout is not refused no ticket of the vat is out
pub vat_is_free : (b : Book) (m : MsgId) (budget : ℕ) (g : Message) (v : VatNo) → b.world (key.Msg m) ≡ Some (message g) → g.place ≡ at_vat v → checkout_refusal b m budget ≡ None → has_vat v b.out ≡ false
vat_is_free b m budget g v waiting there e =
    let lost_there = (neither (budget_refusal budget) _ e).1 in
    let out_there = (neither (option_map (refusal_of m) (lost b.world m)) _ lost_there).1 in
    sym (ap (λ (o : Option Message). message_out o b.out) (ap message_in waiting) ∙ ap (λ (p : Place). vat_at_is_out (waits_at p) b.out) there)
    ∙ not_where (message_out (message_of b.world m) b.out) vat_out (neither (refuse_where (message_out (message_of b.world m) b.out) vat_out) _ out_there).0

-- nothing is in the way of a message that leads to its vat and awaits nothing
pub nothing_unready : (w : World) (v : VatNo) (g : Message) → leads_there w v g ≡ true → first_undone w (awaited w g) ≡ None → unready_at w v g ≡ None
nothing_unready w v g leads done = one (leads_there w v g) (first_undone w (awaited w g)) leads done
  where
    one : (b : Bool) (o : Option MsgId) → b ≡ true → o ≡ None → cond b (early_by o) (Some why.NotReady) ≡ None
    one true None e h = refl
    one true (Some m) e h = cc
    one false o e h = cc

-- a book with this world, and a budget that is good
module _ (b : Book) (w : World) (same : w ≡ b.world) (m : MsgId) (budget : ℕ) (good : budget_refusal budget ≡ None) where
  -- the rest of the tests
  abbrev late : Option Refusal
  late = first (option_map (refusal_of m) (early b.world m)) (full_refusal b)

  abbrev placed : Option Refusal
  placed = first (refuse_where (message_out (message_of b.world m) b.out) vat_out) late

  pub lost_checkout : (reason : Unready) → lost w m ≡ Some reason → checkout_refusal b m budget ≡ Some (refusal_of m reason)
  lost_checkout reason e = next_is (budget_refusal budget) _ good ∙ ap (λ (o : Option Unready). first (option_map (refusal_of m) o) placed) (ap (λ (v : World). lost v m) (sym same) ∙ e)

  -- where the message is at a vat
  module _ (g : Message) (v : VatNo) (there : g.place ≡ at_vat v) (waiting : w (key.Msg m) ≡ Some (message g)) (found : lost w m ≡ None) where
    the_message : message_of b.world m ≡ Some g
    the_message = ap (λ (u : World). message_of u m) (sym same) ∙ ap message_in waiting

    here : checkout_refusal b m budget ≡ placed
    here = next_is (budget_refusal budget) _ good ∙ next_is (option_map (refusal_of m) (lost b.world m)) _ (none_mapped m (lost b.world m) (ap (λ (u : World). lost u m) (sym same) ∙ found))

    out_is : message_out (message_of b.world m) b.out ≡ has_vat v b.out
    out_is = ap (λ (o : Option Message). message_out o b.out) the_message ∙ ap (λ (p : Place). vat_at_is_out (waits_at p) b.out) there

    pub out_checkout : has_vat v b.out ≡ true → checkout_refusal b m budget ≡ Some vat_out
    out_checkout e = here ∙ ap (λ (t : Bool). first (refuse_where t vat_out) late) (out_is ∙ e)

    -- where no ticket of the vat is out
    module _ (free : has_vat v b.out ≡ false) where
      early_is : early b.world m ≡ unready_at w v g
      early_is =
          ap (λ (o : Option Message). unready_message b.world o (place_of o)) the_message ∙ ap (λ (p : Place). unready_message b.world (Some g) (waits_at p)) there
          ∙ ap (λ (u : World). unready_at u v g) (sym same)

      not_out : checkout_refusal b m budget ≡ late
      not_out = here ∙ ap (λ (t : Bool). first (refuse_where t vat_out) late) (out_is ∙ free)

      early_checkout : (reason : Unready) → unready_at w v g ≡ Some reason → checkout_refusal b m budget ≡ Some (refusal_of m reason)
      early_checkout reason e = not_out ∙ ap (λ (o : Option Unready). first (option_map (refusal_of m) o) (full_refusal b)) (early_is ∙ e)

      pub delayed_checkout : (d : Delay) → IsUnready w v g d → delay_tells m d (checkout_refusal b m budget)
      delayed_checkout delay.Memory h = tt
      delayed_checkout (delay.Unready reason) h = early_checkout reason h

      pub room_checkout : leads_there w v g ≡ true → first_undone w (awaited w g) ≡ None → checkout_refusal b m budget ≡ full_refusal b
      room_checkout leads done = not_out ∙ ap (λ (o : Option Unready). first (option_map (refusal_of m) o) (full_refusal b)) (early_is ∙ nothing_unready w v g leads done)
