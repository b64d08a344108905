use Rattle.std.proofs.Common.{sym, ap, ◌∙◌}
use Rattle.values.specs.View.{val_of}
use Rattle.sends.specs.Making.{makes}
use Rattle.sends.specs.Playing.{under}
use Rattle.sends.proofs.Messages.{did_wait, no_wait}
use Rattle.sends.proofs.sending.wait.Goals as goal

pub returns-then-not-room-clause-did : goal.returns-then-not-room-clause-did
returns-then-not-room-clause-did c = no_wait c.args.room c.args.promise (val_of c.args.value.now) (val_of c.in_ok-end.end) c.args.draft.now c.end_of.new.draft c.in_ok-end.ensures.did c.if-not-room.true

pub returns-clause-did : goal.returns-clause-did
returns-clause-did c =
    did_wait c.args.room c.args.promise (val_of c.args.value.now) (val_of c.in_ok-end.end) c.args.draft.now c.end_of.new.draft c.come_in.new.draft c.in_ok-end.ensures.did c.if-not-room.false c.in_ok-come_in.ensures.did
    ∙ ap (λ p. (makes p, under c.come_in.new.draft)) (sym c.condition_of.ensures)
