-- What is told of events, messages and objects, from its parts.
use Rattle.std.proofs.Common.{◌≡◌, ℕ, ◌+◌, List, ◌∷◌, ◌++◌, map, length, get_or, Option, Some, None, slice_get, refl, sym, ap, ap₂, ◌∙◌, codes}
use Rattle.std.specs.BTreeMap.{BTreeMap, IsOrdered}
use Rattle.ids.specs.Names.{object_text}
use Rattle.ids.specs.declared.cells.CellKey.TheVariants as key
use Rattle.ids.specs.declared.names.EventName.{EventName}
use Rattle.ids.specs.declared.names.MsgId.{MsgId}
use Rattle.ids.specs.declared.names.VatNo.{VatNo}
use Rattle.kernele.specs.Tree.{Name}
use Rattle.std.specs.Option.{option_map}
use Rattle.cells.specs.Seen.{seen}
use Rattle.heap.specs.State.{State, object_cell, made, nothing}
use Rattle.heap.specs.View.{object_of, same_object, state_of}
use Rattle.heap.specs.declared.made.Made.{Made}
use Rattle.heap.specs.declared.state.VatState.{VatState}
use Rattle.post.specs.Messages.{Message}
use Rattle.world_cells.specs.World.{World, Content, message, message_of, message_in, vat_state}
use Rattle.journal.specs.Items.{Item, item_of}
use Rattle.journal.specs.Journals.{items_of}
use Rattle.journal.specs.Lines.{line_of, lines_of}
use Rattle.journal.specs.declared.entry.Entry.{Entry}
use Rattle.journal.specs.declared.journal.Journal.{Journal}
use Rattle.causality.specs.Journals.{IsJournal}
use Rattle.causality.proofs.Collecting.{item_at}
use Rattle.stepper_printing.specs.Listing.{born, entry_line}
use Rattle.stepper_printing.specs.Show.{ByBirth, content_text, message_line, names_text}
use Rattle.stepper_questions.specs.Cells.{key_of, cell_cmp}
use Rattle.stepper_questions.specs.Deliveries.{MessageTold, delivery_lines, message_refusal, unsent}
use Rattle.stepper_questions.specs.Events.{EventTold, told_lines}
use Rattle.stepper_questions.specs.Objects.{object_id, object_in, found_in, inside_lines, object_lines, ObjectTold, LacksObject}
use Rattle.stepper_questions.specs.Objects.{object_of as object_of_world}
use Rattle.stepper_questions.specs.Refusals.{standing_of}
use Rattle.stepper_questions.specs.TouchedView.{seen_as, told_entries, SeenIn}
use Rattle.stepper_questions.specs.ObjectView.{owned_of}
use Rattle.stepper_questions.specs.declared.cell.ToldCell.{ToldCell}
use Rattle.stepper_questions.specs.declared.object.Owned.{Owned}
use Rattle.stepper_questions.specs.declared.standing.Standing.TheVariants as standing
use Rattle.stepper_questions.specs.declared.touched.Seen.{Seen}
use Rattle.stepper_questions.specs.declared.unanswered.Unanswered.TheVariants as unanswered
use Rattle.stepper_questions.proofs.Reasons.{item_read, line_read, open_within}
use Rattle.stepper_questions.proofs.Standings.{open_place}
use Rattle.stepper_questions.proofs.Touching.{cells_told}

-- the line of an event, and its cells behind it
pub event_is : (j : Journal) → IsJournal (items_of j) → (e : EventName) (place : ℕ) (d : Entry) → standing_of (length j.settled.now) (lines_of (items_of j)) e ≡ standing.Open place
    → (m : BTreeMap ToldCell Seen) → IsOrdered cell_cmp m
    → ((c : ToldCell) → SeenIn (item_of (get_or j.entries.now place d)).lasts (item_of (get_or j.entries.now place d)).kept (key_of c) (seen_as m.entries c))
    → (line : List ℕ) → ((i : Item) → slice_get (map item_of j.entries.now) place ≡ Some i → line ≡ entry_line (born (lines_of (items_of j))) (length j.settled.now + place + 1) (line_of (items_of j) i))
    → EventTold (lines_of (items_of j)) e (line ++ told_lines (told_entries m.entries))
event_is j journal e place d stands m ordered seen line is =
    let items = items_of j in
    let within = open_within j e place stands in
    let x = item_of (get_or j.entries.now place d) in
    record {
      p = length j.settled.now + place;
      l = line_of items x;
      place = open_place (length j.settled.now) (lines_of items) e place stands;
      at = line_read j place d within;
      cells = told_entries m.entries;
      touched = cells_told items journal (length j.settled.now + place) x (item_read j place d within) m ordered seen;
      whole = ap (λ t. t ++ told_lines (told_entries m.entries)) (is x (item_at j.entries.now place d within));
    }

-- the line of a message, what must be done before it, and what it delivers
pub message_is : (w : World) (m : MsgId) (g : Message) → message_of w m ≡ Some g → (vats : List (VatNo × Name)) → ByBirth (λ x. w (key.Name x)) vats
    → (delivered : List ℕ) → delivered ≡ delivery_lines g.delivery → MessageTold w m (message_line vats (m, message g) ++ (codes " after" ++ (names_text g.after ++ (10 ∷ delivered))))
message_is w m g there vats by_birth delivered is = record {
  g = g;
  there = there;
  vats = vats;
  vats_listed = by_birth;
  whole = ap (λ t. message_line vats (m, message g) ++ (codes " after" ++ (names_text g.after ++ (10 ∷ t)))) is;
}

-- a message that is there, and one that is not
pub message_there : (w : World) (m : MsgId) (g : Message) → Some (message g) ≡ w (key.Msg m) → message_of w m ≡ Some g
message_there w m g is = ap message_in (sym is)

pub message_gone : (w : World) (m : MsgId) → None ≡ w (key.Msg m) → message_refusal w m ≡ Some (unanswered.NoMessage m)
message_gone w m is = ap (λ (o : Option Content). unsent m (message_in o)) (sym is)

-- ---- objects

in_content : (o : Option Made) → option_map object_of o ≡ object_in (option_map (λ m. made (object_of m)) o)
in_content None = refl
in_content (Some m) = refl

-- what a state has of an object
pub object_read : (s : VatState) (w : World) (e : EventName) (i : ℕ) (v : VatNo) (o : Option Made) → o ≡ (seen same_object s.objects (object_id e i v)).0 → state_of s ≡ vat_state w v → option_map object_of o ≡ object_of_world w e i v
object_read s w e i v o is same =
    ap (option_map object_of) is ∙ in_content ((seen same_object s.objects (object_id e i v)).0)
    ∙ ap (λ (t : State). object_in (t (object_cell (object_id e i v)))) same

pub object_absent : (w : World) (e : EventName) (i : ℕ) (v : VatNo) → vat_state w v ≡ nothing → None ≡ object_of_world w e i v
object_absent w e i v none = sym (ap (λ (t : State). object_in (t (object_cell (object_id e i v)))) none)

-- what an object is, its vat, and what is inside
pub object_is : (w : World) (e : EventName) (i : ℕ) (o : Owned) (vats : List (VatNo × Name)) → ByBirth (λ x. w (key.Name x)) vats → Some (owned_of o) ≡ found_in w e i vats → o.name.event ≡ e → o.name.index ≡ i
    → (owner : Name) → owner ≡ o.owner.now → (inside : List ℕ) → inside ≡ inside_lines (object_of o.object.now)
    → ObjectTold w e i (codes "object " ++ (object_text o.name ++ (codes " " ++ (content_text (made (object_of o.object.now)) ++ (codes "\n at " ++ (owner ++ (10 ∷ inside)))))))
object_is w e i o vats by_birth there event index owner name inside is = record {
  vats = vats;
  vats_listed = by_birth;
  found = owned_of o;
  is_there = sym there;
  whole =
      ap₂ (λ x t. codes "object " ++ (object_text o.name ++ (codes " " ++ (content_text (made (object_of o.object.now)) ++ (codes "\n at " ++ (x ++ (10 ∷ t))))))) name is
      ∙ (λ k. object_lines (event k) (index k) (owned_of o));
}

pub object_lacking : (w : World) (e : EventName) (i : ℕ) (vats : List (VatNo × Name)) → ByBirth (λ x. w (key.Name x)) vats → None ≡ found_in w e i vats → LacksObject w e i (unanswered.NoObject e i)
object_lacking w e i vats by_birth none = (refl, refl, record { vats = vats; vats_listed = by_birth; not_there = sym none })
