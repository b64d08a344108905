-- Replies to questions: what is told, and what has no answer, which is refused as its fault tells.
use Rattle.std.proofs.Common.{◌≡◌, List, ℕ, Option, Some, None, true, false, sym, subst, ◌∙◌}
use Rattle.ids.specs.declared.names.EventName.{EventName}
use Rattle.ids.specs.declared.names.MsgId.{MsgId}
use Rattle.kernele_scopes.specs.Words.{no_memory}
use Rattle.journal.specs.Lines.{Line}
use Rattle.world_cells.specs.World.{World}
use Rattle.stepper_commands.specs.declared.numbers.ObjectName.{ObjectName}
use Rattle.stepper_commands.specs.Commands as commands
use Rattle.stepper_commands.specs.Commands.{Spelled}
use Rattle.stepper_questions.specs.Deliveries.{MessageTold, message_refusal}
use Rattle.stepper_questions.specs.Events.{EventTold}
use Rattle.stepper_questions.specs.Objects.{ObjectTold, LacksObject}
use Rattle.stepper_questions.specs.Refusals.{Refuses, pair_refusal, event_refusal, unanswered_text}
use Rattle.stepper_questions.specs.Why.{Why}
use Rattle.stepper_questions.specs.declared.unanswered.Unanswered.{Unanswered}
use Rattle.stepper_questions.specs.declared.unanswered.Unanswered.TheVariants as unanswered
use Rattle.book.specs.Books.{Book}
use Rattle.stepper.specs.Replies.{refused, Answers, why_without_memory, why_refused, why_told, event_without_memory, event_refused, event_told, message_without_memory, message_refused, message_told, object_without_memory, object_refused, object_told}
use Rattle.stepper.specs.declared.engine.Limits.{Limits}

module _ (limits : Limits) (b : Book) where
  -- a fault is want of memory, or the refusal that holds
  told : (question : Spelled) (fault : Unanswered) (refusal : Option Unanswered) → Refuses fault refusal → Answers limits b question (refused no_memory) true b
      → ((f : Unanswered) → refusal ≡ Some f → Answers limits b question (refused (unanswered_text f)) true b) → Answers limits b question (refused (unanswered_text fault)) true b
  told question unanswered.Memory refusal h want holds = want
  told question (unanswered.NoMessage m) refusal h want holds = holds (unanswered.NoMessage m) h
  told question (unanswered.NoEvent e) refusal h want holds = holds (unanswered.NoEvent e) h
  told question (unanswered.Settled e) refusal h want holds = holds (unanswered.Settled e) h
  told question (unanswered.NoObject e i) refusal h want holds = holds (unanswered.NoObject e i) h

  -- an object that no vat has
  lacked : (o : ObjectName) (fault : Unanswered) → LacksObject b.world o.event o.index fault → Answers limits b (commands.object o) (refused (unanswered_text fault)) true b
  lacked o unanswered.Memory h = object_without_memory
  lacked o (unanswered.NoObject e i) (one, same, none) =
      subst (λ e. Answers limits b (commands.object o) (refused (unanswered_text (unanswered.NoObject e i))) true b) (sym one)
      (subst (λ i. Answers limits b (commands.object o) (refused (unanswered_text (unanswered.NoObject o.event i))) true b) (sym same) (object_refused none))
  lacked o (unanswered.NoMessage m) h = absurd h
  lacked o (unanswered.NoEvent e) h = absurd h
  lacked o (unanswered.Settled e) h = absurd h

  -- questions about the journal
  module _ {n : ℕ} {lines : List Line} (many : n ≡ b.settled) (same : lines ≡ b.journal) where
    pub why_answered : {e f : EventName} {text : List ℕ} → pair_refusal n lines e f ≡ None → Why lines e f text → Answers limits b (commands.why e f) text false b
    why_answered {e = e} {f = f} {text = text} none why = why_told (sym (λ i. pair_refusal (many i) (same i) e f) ∙ none) (subst (λ ls. Why ls e f text) same why)

    pub why_fails : {e f : EventName} (fault : Unanswered) → Refuses fault (pair_refusal n lines e f) → Answers limits b (commands.why e f) (refused (unanswered_text fault)) true b
    why_fails {e = e} {f = f} fault h = told (commands.why e f) fault (pair_refusal n lines e f) h why_without_memory (λ g is. why_refused (sym (λ i. pair_refusal (many i) (same i) e f) ∙ is))

    pub event_answered : {e : EventName} {text : List ℕ} → event_refusal n lines e ≡ None → EventTold lines e text → Answers limits b (commands.event e) text false b
    event_answered {e = e} {text = text} none event = event_told (sym (λ i. event_refusal (many i) (same i) e) ∙ none) (subst (λ ls. EventTold ls e text) same event)

    pub event_fails : {e : EventName} (fault : Unanswered) → Refuses fault (event_refusal n lines e) → Answers limits b (commands.event e) (refused (unanswered_text fault)) true b
    event_fails {e = e} fault h = told (commands.event e) fault (event_refusal n lines e) h event_without_memory (λ g is. event_refused (sym (λ i. event_refusal (many i) (same i) e) ∙ is))

  -- questions about the world
  module _ {w : World} (same : w ≡ b.world) where
    pub message_answered : {m : MsgId} {text : List ℕ} → MessageTold w m text → Answers limits b (commands.message m) text false b
    message_answered {m = m} {text = text} h = message_told (subst (λ v. MessageTold v m text) same h)

    pub message_fails : {m : MsgId} (fault : Unanswered) → Refuses fault (message_refusal w m) → Answers limits b (commands.message m) (refused (unanswered_text fault)) true b
    message_fails {m = m} fault h = told (commands.message m) fault (message_refusal w m) h message_without_memory (λ g is. message_refused (sym (λ i. message_refusal (same i) m) ∙ is))

    pub object_answered : {o : ObjectName} {text : List ℕ} → ObjectTold w o.event o.index text → Answers limits b (commands.object o) text false b
    object_answered {o = o} {text = text} h = object_told (subst (λ v. ObjectTold v o.event o.index text) same h)

    pub object_fails : {o : ObjectName} (fault : Unanswered) → LacksObject w o.event o.index fault → Answers limits b (commands.object o) (refused (unanswered_text fault)) true b
    object_fails {o = o} fault h = lacked o fault (subst (λ v. LacksObject v o.event o.index fault) same h)
