use Rattle.std.proofs.Common.{ap, sym, ◌-◌, ◌∙◌, length, Option, Some, subst}
use Rattle.std.specs.Option.{option_copied}
use Rattle.std.specs.Prelude.{IfSome}
use Rattle.heap.specs.State.{made}
use Rattle.heap.specs.View.{object_of}
use Rattle.eval_rules.specs.View.{at}
use Rattle.eval_rules.proofs.Steps.{slice_of}
use Rattle.eval_quick.specs.Direct.{NamesAtHand}
use Rattle.eval_objects.specs.Finding.{FindsForCount}
use Rattle.eval_quick.proofs.AtHand.{found_many, meets_method}
use Rattle.eval_quick.proofs.direct.meet_at_hand.Goals as goal

pub name_all-requires-clause-count : goal.name_all-requires-clause-count
name_all-requires-clause-count c =
    let ms = c.in-Some-Plain.object.methods.value.items in
    let found = subst (λ o. FindsForCount ms c.args.verb.now (length c.args.args.now) (option_copied o)) c.in-Some.is c.in_ok-method.ensures in
    found_many ms c.args.verb.now (length c.args.args.now) c.in-Some.method.now found ∙ ap length (sym (slice_of c.as_slice-parameters.ensures.value c.deref.ensures))

pub returns : goal.returns
returns c =
    let a = at c.args.w.now in
    let o = c.in-Some-Plain.object in
    let es = c.args.args.now in
    let ps = c.as_slice-parameters.result.now in
    let found = subst (λ o. FindsForCount c.in-Some-Plain.object.methods.value.items c.args.verb.now (length c.args.args.now) (option_copied o)) c.in-Some.is c.in_ok-method.ensures in
    let at_hand = subst (λ m. IfSome m (λ left. NamesAtHand a es (c.args.w.now.steps - 1) o.own c.args.id ps c.args.frame.now.items c.name_all.new.frame.items left)) c.in-Some-2.is c.in_ok-left.ensures in
    meets_method a c.args.id c.args.verb.now es _ o c.in-Some.method.now ps c.args.frame.now.items c.name_all.new.frame.items (c.in-Some-Plain.ensures.content ∙ ap (λ m. Some (made (object_of m))) c.in-Some-Plain.field-0-is) c.in-Some-Plain.ensures.touched
    found (slice_of c.as_slice-parameters.ensures.value c.deref.ensures) c.requires.empty at_hand c.in_ok-share_captured.ensures (ap (λ v. v.items) c.in_ok-try_clone.ensures)
