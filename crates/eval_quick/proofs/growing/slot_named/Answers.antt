use Rattle.std.proofs.Common.{ap, sym, ◌∙◌, subst}
use Rattle.std.proofs.lemmas.Option.{IfSome_then}
use Rattle.std.proofs.lemmas.Slice.Eq.{bytes_eq-Decides}
use Rattle.kernele.specs.Tree.{noun}
use Rattle.code.specs.View.{tree_of_code}
use Rattle.heap.specs.State.{slot}
use Rattle.eval_rules.specs.View.{at}
use Rattle.eval_objects.specs.Finding.{StandsAtHand}
use Rattle.eval_quick.proofs.growing.slot_named.Goals as goal

pub returns-then-eq : goal.returns-then-eq
returns-then-eq c =
    let same = (bytes_eq-Decides c.args.name.now c.in-Noun.same).0 (sym c.if-eq.ensures) in
    IfSome_then c.slot_of.result c.slot_of.ensures (λ i h. (ap tree_of_code c.in-Noun.is ∙ ap noun (sym same), subst (λ x. StandsAtHand x (slot i) (at c.args.w.now)) (sym same) h))
