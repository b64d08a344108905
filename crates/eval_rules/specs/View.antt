-- What the program's halts and places stand for.
use Rattle.std.specs.Prelude.{List, [], ◌∷◌}
use Rattle.ids.specs.declared.names.EjId.{EjId}
use Rattle.values.specs.View.{val_of}
use Rattle.eval_rules.specs.At.{At}
use Rattle.eval_rules.specs.Locals.{captured_in, names_in}
use Rattle.heap.specs.Drafts.{draft_of, counts_of, began_with, touched_of, written_of}
use Rattle.eval_rules.specs.OutboxView.{outbox_of}
use Rattle.eval_rules.specs.Outcomes.{Cause, budget_spent, too_deep, too_large, Halt, thrown, ejected, abandoned}
use Rattle.eval_rules.specs.declared.working.Working.{Working}
use Rattle.eval_rules.specs.declared.end.Abandon.{Abandon}
use Rattle.eval_rules.specs.declared.end.Abandon.TheVariants as code-abandon
use Rattle.eval_rules.specs.declared.end.Halt as code
use Rattle.eval_rules.specs.declared.end.Halt.TheVariants as code-halt

abbrev pub cause_of : Abandon → Cause
cause_of code-abandon.Budget = budget_spent
cause_of code-abandon.Depth = too_deep
cause_of code-abandon.Size = too_large

abbrev pub halt_of : code.Halt → Halt
halt_of (code-halt.Thrown problem) = thrown problem
halt_of (code-halt.Ejected j v) = ejected j (val_of v)
halt_of (code-halt.Abandoned why) = abandoned (cause_of why)

-- ejectors, the newest first: the program pushes the newest at the end
abbrev pub ejectors_after : List EjId → List EjId → List EjId
ejectors_after js [] = js
ejectors_after js (i ∷ rest) = ejectors_after (i ∷ js) rest

abbrev pub opened_of : List EjId → List EjId
opened_of items = ejectors_after [] items

-- where the program stands
abbrev pub at : Working → At
at w = record { nouns = names_in (captured_in w.captured) w.older w.nouns.items; own_scope = w.own_scope; state = draft_of w.draft; left = w.steps; event = (counts_of w.draft).event; vat = (counts_of w.draft).vat; began = began_with w.draft; slots = (counts_of w.draft).slots; objects = (counts_of w.draft).objects; ejectors = w.ejectors; opened = opened_of w.opened.items; touched = touched_of w.draft; written = written_of w.draft; out = outbox_of w.out }
