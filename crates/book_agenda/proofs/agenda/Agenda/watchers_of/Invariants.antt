use Rattle.std.proofs.Common.{◌≡◌, ◌++◌}
use Rattle.book_agenda.proofs.Ranges.{watchers_from, messages_at}
use Rattle.book_agenda.proofs.agenda.Agenda.watchers_of.Given as goal

-- those so far, and those that come
abbrev pub invariant-loop-watcher : goal.invariant-loop-watcher
invariant-loop-watcher l = l.names.items ++ messages_at l.cue l.watcher-iterator ≡ messages_at l.cue (watchers_from l.cue l.self.watchers)
