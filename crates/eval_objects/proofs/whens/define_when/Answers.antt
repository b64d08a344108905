use Rattle.std.proofs.Common.{◌≡◌, false, [], sym, ap, subst, ◌∙◌, arith}
use Rattle.std.specs.Prelude.{option_map}
use Rattle.code.specs.Frames.{captured_names_of, fits_all}
use Rattle.code.specs.View.{trees_of_codes}
use Rattle.heap.specs.View.{nouns_of}
use Rattle.heap.proofs.Names.{frame_of_nouns}
use Rattle.post.specs.Blocks.{handler_fits}
use Rattle.post.specs.DeliveryView.{handler_of}
use Rattle.values.specs.View.{val_of}
use Rattle.eval_rules.specs.At.{At}
use Rattle.values.specs.declared.value.Value.{Value}
use Rattle.eval_rules.specs.Outcomes.{value}
use Rattle.eval_rules.specs.Rules.{captured, all_captured, when_end, when_made}
use Rattle.eval_rules.specs.View.{at}
use Rattle.eval_rules.proofs.Answering.{end_to, handed_on}
use Rattle.eval_rules.proofs.Captures.{captured_frame}
use Rattle.eval_rules.proofs.Seeking.{captures_read}
use Rattle.eval_rules.proofs.Steps.{slice_of}
use Rattle.eval_objects.proofs.Waiting.{waits_end, waits_place, none_waits}
use Rattle.eval_objects.proofs.whens.define_when.Goals as goal

pub make_when-requires : goal.make_when-requires
make_when-requires c =
    let a = at c.args.w.now in
    let found = c.in_ok-nouns.ensures.0 ∙ ap (λ cs. all_captured (captured []) (captured_names_of cs) a) (slice_of c.as_slice.ensures.value c.deref.ensures) in
    let names = sym (frame_of_nouns c.in_ok-nouns.nouns.items) ∙ captured_frame [] (nouns_of c.in_ok-nouns.nouns.items) (captured_names_of c.args.captures.now.value.items) a found in
    let reads = c.in_ok-nouns.ensures.1 ∙ captures_read (captured []) (captured_names_of c.as_slice.result.now) a in
    let promised = c.requires.promised in
    record {
      fits = subst (λ f. fits_all false f c.args.block.now.value.items) (sym names) c.requires.fits;
      handled = subst (λ f. handler_fits f c.args.handler) (sym names) c.requires.handled;
      promised = omega (arith, promised, ap (λ (b : At). b.left) reads, ap (λ (b : At). b.out.promises) reads);
    }

pub returns : goal.returns
returns c =
    let a = at c.args.w.now in
    let names : captured_names_of c.as_slice.result.now ≡ captured_names_of c.args.captures.now.value.items = ap captured_names_of (slice_of c.as_slice.ensures.value c.deref.ensures) in
    let body = trees_of_codes c.args.block.now.value.items in
    let handler = option_map handler_of c.args.handler in
    let ns = nouns_of c.in_ok-nouns.nouns.items in
    let v = val_of c.replace-value.result in
    let given = ap (λ (x : Value). val_of x) c.replace-value.ensures.value in
    end_to c.make_when.result c.make_when.new.into c.make_when.new.w _ _ _ _
    (waits_end body handler ns (captured_names_of c.as_slice.result.now) v a (at c.capture_all.new.w) (names ∙ c.requires.captures) c.in_ok-nouns.ensures.0 c.in_ok-nouns.ensures.1
    ∙ ap (λ u. when_end body handler (value u) a) given)
    (waits_place body handler ns (captured_names_of c.as_slice.result.now) v a (at c.capture_all.new.w) (names ∙ c.requires.captures) c.in_ok-nouns.ensures.0 c.in_ok-nouns.ensures.1
    ∙ ap (λ u. when_made body handler (value u) a) given)
    c.make_when.ensures

pub returns-in_err-nouns : goal.returns-in_err-nouns
returns-in_err-nouns c =
    let a = at c.args.w.now in
    let names : captured_names_of c.as_slice.result.now ≡ captured_names_of c.args.captures.now.value.items = ap captured_names_of (slice_of c.as_slice.ensures.value c.deref.ensures) in
    handed_on c.from_residual.result c.in_err-nouns.field-0.0 c.capture_all.new.w _ _ _ c.from_residual.ensures.1
    (none_waits c.in_err-nouns.field-0.0 c.capture_all.new.w (trees_of_codes c.args.block.now.value.items) (option_map handler_of c.args.handler) (captured_names_of c.as_slice.result.now) (val_of c.args.into.now) a (names ∙ c.requires.captures) c.in_err-nouns.ensures) (λ h b p. p)
