-- What the program's publications stand for.
use Rattle.std.specs.Prelude.{◌≡◌, false, List, [], ◌∷◌, map}
use Rattle.ids.specs.declared.names.PromId.{PromId}
use Rattle.post.specs.Messages.{Published}
use Rattle.post.specs.MessageView.{published_of}
use Rattle.eval_rules.specs.Outbox.{is_published}
use Rattle.eval_rules.specs.declared.publications.Publications as code

abbrev pub publications_of : code.Publications → List (PromId × Published)
publications_of p = map (λ e. (e.0, published_of e.1)) p.published

-- no promise stands twice
abbrev pub EachOnce : List (PromId × Published) → Type 0
EachOnce [] = Unit {0}
EachOnce (b ∷ bs) = (is_published b.0 bs ≡ false) × EachOnce bs
