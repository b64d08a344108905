-- What the program's outbox stands for.
use Rattle.std.specs.Prelude.{map}
use Rattle.ids.specs.declared.names.MsgId.{MsgId}
use Rattle.post.specs.Messages.{Message}
use Rattle.post.specs.MessageView.{message_of}
use Rattle.eval_rules.specs.Outbox.{Note, sent_note, waits_note, resolved_note, comment_note, Outbox}
use Rattle.eval_rules.specs.PublicationsView.{publications_of}
use Rattle.eval_rules.specs.declared.outbox.Letter.{Letter}
use Rattle.eval_rules.specs.declared.outbox.Note as code-note
use Rattle.eval_rules.specs.declared.outbox.Note.TheVariants as note
use Rattle.eval_rules.specs.declared.outbox.Outbox as code

abbrev pub letter_of : Letter → MsgId × Message
letter_of l = (l.name, message_of l.message)

abbrev pub note_of : code-note.Note → Note
note_of (note.Sent m) = sent_note m
note_of (note.Waits p m) = waits_note p m
note_of (note.Resolved p) = resolved_note p
note_of (note.Comment words) = comment_note words

abbrev pub outbox_of : code.Outbox → Outbox
outbox_of o = record { letters = map letter_of o.letters.items; promises = o.promises; publications = publications_of o.publications; notes = map note_of o.notes.items }
