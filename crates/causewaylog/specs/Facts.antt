-- What is recorded of a turn, as JSON.
use Rattle.std.specs.Prelude.{ℕ, List, ◌∷◌, ◌++◌, map, codes}
use Rattle.ids.specs.Names.{message_text, promise_text}
use Rattle.ids.specs.declared.names.MsgId.{MsgId}
use Rattle.kernele.specs.Tree.{Name}
use Rattle.eval_rules.specs.Outbox.{Note, sent_note, waits_note, resolved_note, comment_note}
use Rattle.serde_json.specs.Data.{Data, number, unsigned, string, array, object, item, no_items, Members, member, no_members}
use Rattle.causewaylog.specs.Turns.{Turn}

-- a fact: of which kind it is, and what is said of it, with the keys in the order of their bytes
pub record Fact : Type 0 where
  pub kind : List ℕ
  pub says : Members

-- a message was got
abbrev pub got_fact : MsgId → Fact
got_fact m = record { kind = codes "Got"; says = member (codes "message") (string (message_text m)) no_members }

-- a message was sent, at once or when a promise is known; a promise was resolved; the turn ended with a problem, or was abandoned for a reason
abbrev pub note_fact : Note → Fact
note_fact (sent_note m) = record { kind = codes "Sent"; says = member (codes "message") (string (message_text m)) no_members }
note_fact (waits_note p m) = record { kind = codes "SentIf"; says = member (codes "condition") (string (promise_text p)) (member (codes "message") (string (message_text m)) no_members) }
note_fact (resolved_note p) = record { kind = codes "Resolved"; says = member (codes "condition") (string (promise_text p)) no_members }
note_fact (comment_note words) = record { kind = codes "Comment"; says = member (codes "text") (string words) no_members }

-- the facts of a turn, in the order of making
abbrev pub facts_of : Turn → List Fact
facts_of t = got_fact t.got ∷ map note_fact t.notes

-- where a record stands: in the loop of this name, in which turn, and how many stand before it in that turn
abbrev pub anchor : Name → ℕ → ℕ → Data
anchor x n i =
    object (member (codes "number") (number (unsigned i))
    (member (codes "turn") (object (member (codes "loop") (string x) (member (codes "number") (number (unsigned n)) no_members))) no_members))

-- the classes of a record: its kind, and that it is an event
abbrev pub class : List ℕ → Data
class kind = array (item (string (codes "org.ref_send.log." ++ kind)) (item (string (codes "org.ref_send.log.Event")) no_items))

-- a fact as a record
abbrev pub record_at : Data → Fact → Data
record_at place f = object (member (codes "anchor") place (member (codes "class") (class f.kind) f.says))
