-- No promise stands twice, since no key does.
use Rattle.std.proofs.Common.{◌≡◌, true, false, cond, List, [], ◌∷◌, map, refl, ap, ◌∙◌}
use Rattle.std.specs.List.{AllByRecursion, IsDistinct}
use Rattle.std.specs.Map.{keys_of}
use Rattle.std.proofs.lemmas.Map.Keys.{IsDistinct-head, IsDistinct-tail}
use Rattle.ids.specs.declared.names.PromId.{PromId}
use Rattle.post.specs.MessageView.{published_of}
use Rattle.post.specs.declared.published.Published as code
use Rattle.post.specs.Messages.{Published}
use Rattle.refs.specs.Walks.{same_promise}
use Rattle.eval_rules.specs.Outbox.{is_published}
use Rattle.eval_rules.specs.PublicationsView.{EachOnce}
use Rattle.eval_rules.proofs.publications.Publications.len.Goals as goal

none : (p : PromId) (es : List (PromId × code.Published)) → AllByRecursion (λ q. same_promise p q ≡ false) (keys_of es) → is_published p (map (λ e. (e.0, published_of e.1)) es) ≡ false
none p [] h = refl
none p (e ∷ es) h = ap (λ b. cond b true (is_published p (map (λ e. (e.0, published_of e.1)) es))) h.0 ∙ none p es h.1

once : (es : List (PromId × code.Published)) → IsDistinct same_promise (keys_of es) → EachOnce (map (λ e. (e.0, published_of e.1)) es)
once [] h = tt
once (e ∷ es) h = (none e.0 es (IsDistinct-head same_promise e.0 (keys_of es) h), once es (IsDistinct-tail same_promise e.0 (keys_of es) h))

pub returns-clause-each_once : goal.returns-clause-each_once
returns-clause-each_once c = once c.args.self.now.published c.len.ensures.unique
