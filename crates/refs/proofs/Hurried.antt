-- A walk that ends goes through no promise twice, so that none has to be looked up.
use Rattle.std.proofs.Common.{◌≡◌, ◌<◌, ◌^◌, List, [], ◌∷◌, ◌++◌, length, take, length-append, sym, ap, ◌∙◌, append_assoc, arith}
use Rattle.std.specs.Option.{unwrap_or}
use Rattle.std.proofs.Math.Seq.{take-append_seam}
use Rattle.ids.specs.declared.names.PromId.{PromId}
use Rattle.values.specs.Data.{Val, promise}
use Rattle.refs.specs.Walks.{Resolutions, walked, followed}
use Rattle.refs.specs.Leads.{Leads}
use Rattle.refs.proofs.Rules.{what_is_led_ends}

-- what the rules lead to behind others that were added
pub led_to : (m : Resolutions) (first : PromId) (w : Val) (old seen new ps : List PromId) → Leads m (promise first) (seen ++ ps) w → new ≡ old ++ (seen ++ ps) → length new < 2 ^ 64
    → (w ≡ followed m (promise first)) × (new ≡ old ++ walked m (promise first))
led_to m first w old seen new ps l e h =
    let f = what_is_led_ends m (promise first) w (seen ++ ps) l (omega (arith, h, ap length e, length-append old (seen ++ ps))) in
    (sym (ap (λ o. unwrap_or o (promise first)) f.1), e ∙ ap (λ qs. old ++ qs) (sym f.0))

pub added_behind : (old seen all new : List PromId) (p : PromId) → all ≡ old ++ seen → new ≡ all ++ p ∷ [] → new ≡ old ++ (seen ++ p ∷ [])
added_behind old seen all new p e f = f ∙ ap (λ xs. xs ++ p ∷ []) e ∙ append_assoc old seen (p ∷ [])

pub kept_before : (old seen new : List PromId) → new ≡ old ++ seen → take (length old) new ≡ old
kept_before old seen new e = ap (take (length old)) e ∙ take-append_seam old seen
