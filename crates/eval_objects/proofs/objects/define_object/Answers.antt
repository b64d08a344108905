use Rattle.std.proofs.Common.{◌≡◌, ap, sym, subst, ◌++◌, ◌∙◌, []}
use Rattle.code.specs.Frames.{captured_names_of, only_names, fits_methods}
use Rattle.code.specs.View.{methods_of_codes}
use Rattle.kernele_scopes.specs.Scope.{name_of}
use Rattle.kernele_scopes.specs.Free.{captures}
use Rattle.eval_rules.specs.Rules.{captured, all_captured, all_sought, with_object}
use Rattle.heap.specs.View.{nouns_of}
use Rattle.heap.proofs.Names.{frame_of_nouns}
use Rattle.eval_rules.specs.View.{at}
use Rattle.eval_rules.proofs.Answering.{end_to, handed_on}
use Rattle.eval_rules.proofs.Captures.{captured_frame, object_ends}
use Rattle.eval_rules.proofs.Steps.{slice_of}
use Rattle.eval_objects.proofs.Missing.{none_made}
use Rattle.eval_objects.proofs.objects.define_object.Goals as goal

pub place-requires : goal.place-requires
place-requires c =
    let found = c.in_ok-nouns.ensures.0 ∙ ap (λ cs. all_captured (captured []) (captured_names_of cs) (at c.args.w.now)) (slice_of c.as_slice.ensures.value c.deref.ensures) in
    let names = sym (frame_of_nouns c.in_ok-nouns.nouns.items) ∙ captured_frame [] (nouns_of c.in_ok-nouns.nouns.items) (captured_names_of c.args.captures.now.value.items) (at c.args.w.now) found in
    record { fits = subst (λ f. fits_methods (f ++ only_names (name_of c.args.pattern.now)) c.args.methods.now.value.items) (sym names) c.requires.fits.2; indexed = c.requires.fits.3 }

pub returns : goal.returns
returns c =
    let p = c.args.pattern.now in
    let ms = methods_of_codes c.args.methods.now.value.items in
    let a = at c.args.w.now in
    let names : captured_names_of c.as_slice.result.now ≡ captures p ms = ap captured_names_of (slice_of c.as_slice.ensures.value c.deref.ensures) ∙ c.requires.fits.0 in
    let q = c.in_ok-nouns.ensures.0 ∙ ap (λ xs. all_captured (captured []) xs a) names in
    let e = c.in_ok-nouns.ensures.1 ∙ ap (λ xs. all_sought (captured []) xs a) names in
    end_to c.place.result c.place.new.into c.place.new.w _ _ _ _ (object_ends p ms (nouns_of c.in_ok-nouns.nouns.items) _ a (at c.capture_all.new.w) q e) (λ i. with_object p ms (q i) (e i)) c.place.ensures

pub returns-in_err-nouns : goal.returns-in_err-nouns
returns-in_err-nouns c =
    let p = c.args.pattern.now in
    let ms = methods_of_codes c.args.methods.now.value.items in
    let a = at c.args.w.now in
    let names : captured_names_of c.as_slice.result.now ≡ captures p ms = ap captured_names_of (slice_of c.as_slice.ensures.value c.deref.ensures) ∙ c.requires.fits.0 in
    handed_on c.from_residual.result c.in_err-nouns.field-0.0 c.capture_all.new.w _ _ _ c.from_residual.ensures.1
    (none_made c.in_err-nouns.field-0.0 c.capture_all.new.w p ms _ _ a _ _ (ap (λ xs. all_captured (captured []) xs a) names) (ap (λ xs. all_sought (captured []) xs a) names) c.in_err-nouns.ensures) (λ h b p. p)
