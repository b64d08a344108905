-- What a turn makes beside what it does to its vat's cells: messages, what it publishes, and notes for the log, each list in the order of
-- making.
use Rattle.std.specs.Prelude.{Bool, true, false, cond, ◌∷◌, ◌++◌, ℕ, List, []}
use Rattle.ids.specs.declared.names.MsgId.{MsgId}
use Rattle.ids.specs.declared.names.PromId.{PromId}
use Rattle.kernele.specs.Tree.{Name}
use Rattle.refs.specs.Walks.{same_promise}
use Rattle.post.specs.Messages.{Message, Published}

-- a note for the log: a message was sent, a when waits for a promise, a promise was resolved, or what a turn ended with
pub data Note : Type 0 where
  sent_note : (m : MsgId) → Note
  waits_note : (condition : PromId) → (m : MsgId) → Note
  resolved_note : (p : PromId) → Note
  comment_note : (words : Name) → Note

-- messages with their names, how many promises were made, what promises were published as, and notes
pub record Outbox : Type 0 where
  pub letters : List (MsgId × Message)
  pub promises : ℕ
  pub publications : List (PromId × Published)
  pub notes : List Note

-- whether a promise is among those that were published
abbrev pub is_published : PromId → List (PromId × Published) → Bool
is_published p [] = false
is_published p (b ∷ bs) = cond (same_promise p b.0) true (is_published p bs)

-- one more publication, unless the promise was published before
abbrev pub and_publication : PromId → Published → List (PromId × Published) → List (PromId × Published)
and_publication p b bs = cond (is_published p bs) bs (bs ++ (p, b) ∷ [])

-- nothing was made
abbrev pub empty_outbox : Outbox
empty_outbox = record { letters = []; promises = 0; publications = []; notes = [] }
