use Rattle.std.proofs.Common.{◌<◌, arith, ap, sym, ◌∙◌}
use Rattle.heap.specs.Drafts.{draft_of, counts_of, began_with, touched_of, written_of}
use Rattle.values.specs.Data.{object}
use Rattle.eval_rules.specs.Outcomes.{value}
use Rattle.eval_rules.specs.Rules.{placed, placed_end}
use Rattle.code.specs.View.{methods_of_codes}
use Rattle.heap.specs.View.{nouns_of}
use Rattle.eval_rules.specs.View.{at}
use Rattle.eval_rules.proofs.Answering.{halt_to}
use Rattle.eval_rules.proofs.Captures.{placed_there}
use Rattle.eval_rules.proofs.Scopes.{room, no_room}
use Rattle.eval_objects.proofs.Drafted.{drafted_object}
use Rattle.eval_objects.proofs.objects.place.Goals as goal

pub returns-then-object_count-ge-MAX_OBJECTS : goal.returns-then-object_count-ge-MAX_OBJECTS
returns-then-object_count-ge-MAX_OBJECTS c =
    let full = no_room _ (omega (arith, c.if-object_count-ge-MAX_OBJECTS.true)) in
    halt_to c.abandon.result c.abandon.new.w _ _ _ _ (ap (λ r. placed_end r (at c.args.w.now)) (sym full)) (ap (λ r. placed r c.args.pattern.now (record { own = c.args.pattern.now; captured = nouns_of c.args.nouns.items; methods = methods_of_codes c.args.methods.now.value.items }) (at c.args.w.now)) (sym full)) c.abandon.ensures.end

pub returns : goal.returns
returns c =
    let d = c.new_object.new.self in
    let e = c.in_ok-new_object.ensures in
    let is = drafted_object (at c.args.w.now) (draft_of d) (counts_of d) (began_with d) (touched_of d) (written_of d) _ _ e.named e.made e.counts e.began e.touched e.written in
    let some : (at c.args.w.now).objects < 4096 = omega (arith, c.if-object_count-ge-MAX_OBJECTS.false) in (
      ap (λ i. value (object i)) e.named ∙ ap (λ r. placed_end r (at c.args.w.now)) (sym (room _ some)),
      placed_there c.args.pattern.now _ _ _ (at c.args.w.now) _ _ some c.in_ok-made.ensures e.named is c.in_ok-match_pattern.ensures,
    )
