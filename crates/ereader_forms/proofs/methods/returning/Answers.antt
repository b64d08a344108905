use Rattle.std.proofs.Common.{◌≡◌, [], ◌∷◌, refl}
use Rattle.std.proofs.lemmas.Result.{IfOk-weaker}
use Rattle.kernele.specs.View.{trees_of}
use Rattle.ereader_forms.specs.Forms.{returning}
use Rattle.ereader_forms.proofs.Views.{trees_push}
use Rattle.ereader_forms.proofs.methods.returning.Goals as goal

pub returns : goal.returns
returns c =
    IfOk-weaker c.one.result (λ es. es.items ≡ c.in_ok-whole.whole ∷ []) (λ es. trees_of es.items ≡ returning (trees_of c.args.body.items))
    (λ es e. rw (e, c.in_ok-whole.ensures, c.in_ok-name.ensures, c.in_ok-push.ensures.items, trees_push) refl) c.one.ensures
