use Rattle.std.proofs.Common.{ap, refl, subst, length, ◌++◌}
use Rattle.std.specs.Option.{option_copied}
use Rattle.code.specs.Frames.{only_names}
use Rattle.kernele_scopes.specs.Scope.{name_of}
use Rattle.values.specs.Data.{object}
use Rattle.heap.specs.Names.{names_of}
use Rattle.eval_objects.specs.Finding.{FindsForCount}
use Rattle.eval_rules.proofs.Fitting.{method_fits}
use Rattle.eval_rules.proofs.Steps.{slice_of}
use Rattle.eval_objects.proofs.objects.method_entry.Goals as goal

pub invariant_of-result : goal.invariant_of-result
invariant_of-result c =
    let frame = names_of c.args.object.now.captured.value.items ++ only_names (name_of c.args.object.now.own) in
    let found = subst (λ o. FindsForCount c.args.object.now.methods.value.items c.args.verb.now (length c.args.args.now) (option_copied o)) c.in-Some.is c.in_ok-method.ensures c.args.args.now refl in
    let fit = found.fits frame c.args.object.now.fits in
    record {
      fits = method_fits c.in_ok-nouns-in-Some.nouns.items c.args.object.now.captured.value.items c.args.object.now.own (object c.args.id) c.args.args.now
          c.in_ok-nouns-in-Some.ensures (slice_of c.as_slice.ensures.value c.deref.ensures) found.count c.in_ok-captured-in-Some.ensures (ap (λ v. v.items) c.in_ok-body-in-Some.ensures) fit;
    }
