use Rattle.std.proofs.Common.{arith}
use Rattle.values.specs.View.{val_of}
use Rattle.heap.specs.DraftView.{drafted}
use Rattle.heap.proofs.Growing.{own_grows, own_when}
use Rattle.heap.proofs.draft.Draft.grow_slot.Goals as goal

pub returns-then-is_own-clause-grown : goal.returns-then-is_own-clause-grown
returns-then-is_own-clause-grown c =
    let d = c.self.inside in rw (← c.self.view_is) (
    own_grows c.grow.result (drafted d) c.args.slot c.args.verb.now (val_of c.args.more.now) c.index_mut.result.now c.grow.new.held c.len.result c.is_own.result (omega (arith, c.len.ensures, d.slots.ok)) (rw (← c.self.view_is) at c.is_own.ensures) c.if-is_own.true c.index_mut.ensures.value c.grow.ensures.grown)

pub returns-then-is_own-clause-when : goal.returns-then-is_own-clause-when
returns-then-is_own-clause-when c =
    let d = c.self.inside in rw (← c.self.view_is) (
    own_when c.grow.result (drafted d) c.args.slot c.args.verb.now (val_of c.args.more.now) c.index_mut.result.now c.len.result c.is_own.result (omega (arith, c.len.ensures, d.slots.ok)) (rw (← c.self.view_is) at c.is_own.ensures) c.if-is_own.true c.index_mut.ensures.value c.grow.ensures.when)
