-- What is told of a message: where it is, what must be done before it, and what it delivers.
use Rattle.std.specs.Prelude.{◌≡◌, ℕ, List, [], ◌∷◌, ◌++◌, Option, Some, None, codes}
use Rattle.ids.specs.declared.cells.CellKey.TheVariants as key
use Rattle.ids.specs.declared.names.MsgId.{MsgId}
use Rattle.ids.specs.declared.names.VatNo.{VatNo}
use Rattle.kernele.specs.Spelling.{bound_name, in_braces, spelled_items, spelling}
use Rattle.kernele.specs.Tree.{Name, Trees, none, and_then}
use Rattle.values.specs.Shown.{shown, shown_items}
use Rattle.heap.specs.State.{Bind, Nouns, bound}
use Rattle.post.specs.Delivery.{Handler, Delivery, opening, asked, sent, waiting}
use Rattle.post.specs.Messages.{Message}
use Rattle.world_cells.specs.World.{World, message, message_of}
use Rattle.stepper_printing.specs.Show.{ByBirth, content_text, message_line, names_text}
use Rattle.stepper_questions.specs.declared.unanswered.Unanswered.{Unanswered}
use Rattle.stepper_questions.specs.declared.unanswered.Unanswered.TheVariants as unanswered

--  NAME = VALUE, or NAME = slot SLOT
abbrev pub captured_line : Name × Bind → List ℕ
captured_line n = codes " " ++ (n.0 ++ (codes " = " ++ (content_text (bound n.1) ++ (10 ∷ []))))

-- in the order in which they were captured: names stand the newest first
abbrev pub captured_lines : Nouns → List ℕ
captured_lines [] = []
captured_lines (n ∷ ns) = captured_lines ns ++ captured_line n

-- a word, and a program behind a blank, if it is not empty
abbrev pub program_line : List ℕ → Trees → List ℕ
program_line word none = word ++ (10 ∷ [])
program_line word (and_then t ts) = word ++ (codes " " ++ (spelling (and_then t ts) ++ (10 ∷ [])))

--  catch PAT { .. }
abbrev pub handler_text : Option Handler → List ℕ
handler_text None = []
handler_text (Some h) = codes " catch " ++ (bound_name h.pattern ++ (codes " " ++ in_braces (spelled_items h.block)))

-- what is delivered, in its own names; of a `when` also what its names stand for
abbrev pub delivery_lines : Delivery → List ℕ
delivery_lines (opening earlier program) = program_line (codes " opening") program
delivery_lines (asked program) = program_line (codes " asked") program
delivery_lines (sent c) = codes " sent " ++ (shown c.target ++ (codes " <- " ++ (c.verb ++ (codes "(" ++ (shown_items c.arguments ++ (codes ")" ++ (10 ∷ [])))))))
delivery_lines (waiting w) =
    codes " when " ++ (shown w.value ++ (codes " -> " ++ (in_braces (spelled_items w.block) ++ (handler_text w.handler ++ (10 ∷ captured_lines w.captured)))))

abbrev pub unsent : MsgId → Option Message → Option Unanswered
unsent m None = Some (unanswered.NoMessage m)
unsent m (Some g) = None

-- the message is there
abbrev pub message_refusal : World → MsgId → Option Unanswered
message_refusal w m = unsent m (message_of w m)

-- its line among the vats with their names, the messages that must be done before it, and what it delivers
pub record MessageTold (w : World) (m : MsgId) (text : List ℕ) : Type 0 where
  pub g : Message
  pub there : message_of w m ≡ Some g
  pub vats : List (VatNo × Name)
  pub vats_listed : ByBirth (λ x. w (key.Name x)) vats
  pub whole : text ≡ message_line vats (m, message g) ++ (codes " after" ++ (names_text g.after ++ (10 ∷ delivery_lines g.delivery)))
