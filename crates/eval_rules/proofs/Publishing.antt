-- What a map of promises with what they are published as does.
use Rattle.std.proofs.Common.{◌≡◌, Bool, true, false, cond, is_some, Option, Some, List, [], ◌∷◌, ◌++◌, map, refl, sym, ap, ◌∙◌}
use Rattle.std.specs.Map.{lookup}
use Rattle.std.proofs.lemmas.Bool.{true≢false}
use Rattle.indexmap.specs.IndexMap.{insert_entry}
use Rattle.ids.specs.declared.names.PromId.{PromId}
use Rattle.post.specs.MessageView.{published_of}
use Rattle.post.specs.declared.published.Published as code
use Rattle.post.specs.Messages.{Published}
use Rattle.refs.specs.Walks.{same_promise}
use Rattle.eval_rules.specs.Outbox.{and_publication, is_published}

-- entries of the map
abbrev pub Entries : Type 0
Entries = List (PromId × code.Published)

-- what they stand for
abbrev pub entry_of : PromId × code.Published → PromId × Published
entry_of e = (e.0, published_of e.1)

found : (b : Bool) (x : code.Published) (o : Option code.Published) (r : Bool) → is_some o ≡ r → is_some (cond b (Some x) o) ≡ cond b true r
found true x o r h = refl
found false x o r h = h

-- a look-up finds just what is published
pub looked_up : (p : PromId) (es : Entries) → is_some (lookup (same_promise p) es) ≡ is_published p (map entry_of es)
looked_up p [] = refl
looked_up p (e ∷ es) = found (same_promise p e.0) e.1 (lookup (same_promise p) es) (is_published p (map entry_of es)) (looked_up p es)

absent : (b r : Bool) → cond b true r ≡ false → (b ≡ false) × (r ≡ false)
absent true r h = absurd (true≢false h)
absent false r h = (refl, h)

-- a promise that is not published is put behind the others
pub inserted : (es : Entries) (p : PromId) (b : code.Published) → is_published p (map entry_of es) ≡ false → map entry_of (insert_entry same_promise es p b) ≡ map entry_of es ++ (p, published_of b) ∷ []
inserted [] p b h = refl
inserted (e ∷ es) p b h =
    let q = absent (same_promise p e.0) (is_published p (map entry_of es)) h in
    (λ i. map entry_of (cond (q.0 i) ((e.0, b) ∷ es) (e ∷ insert_entry same_promise es p b))) ∙ ap (λ x. entry_of e ∷ x) (inserted es p b q.1)

pub added : (bs : List (PromId × Published)) (p : PromId) (b : Published) → is_published p bs ≡ false → bs ++ (p, b) ∷ [] ≡ and_publication p b bs
added bs p b h = ap (λ c. cond c bs (bs ++ (p, b) ∷ [])) (sym h)

pub left_out : (bs : List (PromId × Published)) (p : PromId) (b : Published) → is_published p bs ≡ true → bs ≡ and_publication p b bs
left_out bs p b h = ap (λ c. cond c bs (bs ++ (p, b) ∷ [])) (sym h)
