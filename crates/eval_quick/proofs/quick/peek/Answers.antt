use Rattle.std.proofs.Common.{ap, sym}
use Rattle.heap.specs.View.{bind_of}
use Rattle.heap.specs.Drafts.{draft_of}
use Rattle.eval_rules.specs.Rules.{found}
use Rattle.eval_rules.specs.View.{at}
use Rattle.eval_objects.proofs.Places.{within, told_at, sought_inside, peeked_outside}
use Rattle.eval_quick.proofs.quick.peek.Goals as goal

pub binding_at-requires : goal.binding_at-requires
binding_at-requires c = within (at c.args.w.now).nouns c.args.name.now c.args.place c.in-Frame.i c.requires c.in-Frame.is

pub returns-in-Frame : goal.returns-in-Frame
returns-in-Frame c = (
  ap (found (draft_of c.args.w.now.draft) c.args.name.now) (c.binding_at.ensures c.args.name.now (told_at (at c.args.w.now).nouns c.args.name.now c.args.place c.in-Frame.i c.requires c.in-Frame.is)),
  sym (sought_inside (at c.args.w.now).nouns c.args.name.now c.args.place c.in-Frame.i (at c.args.w.now) c.requires c.in-Frame.is),
)

pub returns-in-Top : goal.returns-in-Top
returns-in-Top c = peeked_outside (λ b. bind_of b.now) c.peek_top.result c.args.name.now c.args.place (at c.args.w.now) c.requires c.in-Top.is c.peek_top.ensures.touched c.peek_top.ensures.content
