use Rattle.std.proofs.Common.{sym, ap, ◌∙◌}
use Rattle.kernele.specs.Spelling.{spelling}
use Rattle.stepper_questions.proofs.Telling.{read_items, spelled_none, spelled_some}
use Rattle.stepper_questions.proofs.named.program_text.Goals as goal

pub returns-then-is_empty : goal.returns-then-is_empty
returns-then-is_empty c = spelled_none c.args.items.now.value.items c.as_slice-codes.result.now (read_items _ _ _ c.as_slice-codes.ensures.value c.deref.ensures) (sym c.if-is_empty.ensures)

pub returns : goal.returns
returns c =
    spelled_some c.args.items.now.value.items c.as_slice-codes.result.now _ (read_items _ _ _ c.as_slice-codes.ensures.value c.deref.ensures) (sym c.if-is_empty.ensures) (c.in_ok-print.ensures ∙ ap spelling c.in_ok-program.ensures)
