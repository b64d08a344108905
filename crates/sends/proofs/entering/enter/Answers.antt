use Rattle.std.proofs.Common.{ap, ◌∙◌}
use Rattle.cells.specs.Doing.{holding}
use Rattle.heap.specs.State.{view_cell, viewed, resolved, same_cell}
use Rattle.values.specs.View.{val_of}
use Rattle.sends.specs.Playing.{under}
use Rattle.sends.proofs.Did.{written_one, did_enter}
use Rattle.sends.proofs.entering.enter.Goals as goal

pub returns-clause-did : goal.returns-clause-did
returns-clause-did c =
    did_enter c.join_end.result c.args.promise (val_of c.args.value.now) c.in_ok-names.names c.args.draft.now c.write_view.new.self c.fence_of.new.draft c.join_end.new.draft
    (written_one (view_cell c.args.promise) (viewed (resolved (val_of c.in_ok-share.field-0))) c.args.draft.now c.write_view.new.self c.in_ok-write_view.ensures.ok c.in_ok-write_view.ensures.touched c.in_ok-write_view.ensures.written
    ∙ ap (λ v. holding same_cell (view_cell c.args.promise) (viewed (resolved v)) (under c.args.draft.now)) c.in_ok-share.ensures)
    c.in_ok-names.ensures.did c.join_end.ensures.did
