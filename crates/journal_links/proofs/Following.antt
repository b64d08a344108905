-- Lists that only grow, or are let go, still name all whom they named.
use Rattle.std.proofs.Common.{◌≡◌, ◌≢◌, ◌∙◌, ◌==◌, Bool, true, false, true≢false, IfSome, List, [], Option, eq-eqb, refl, sym, ap, subst}
use Rattle.std.specs.Option.{option_map_or}
use Rattle.ids.specs.declared.names.EventName.{EventName}
use Rattle.journal_links.specs.Followers.{followers_of, is_one, may_follow, IsLetGo}
use Rattle.journal_links.specs.declared.followers.Followers.{Followers}
use Rattle.journal_links.proofs.Placing.{one_name}

-- whom the lists named they name still, or are not kept
abbrev pub Keeps : (EventName → EventName → Bool) → (EventName → EventName → Bool) → Type 0
Keeps old new = (e f : EventName) → old e f ≡ true → new e f ≡ true

-- the list of an event is let go, and no other one
module _ (old new : Followers) (e : EventName) (others : (f : EventName) → f.0 ≢ e.0 → followers_of new f ≡ followers_of old f) where
  other : (d : EventName) → (d.0 == e.0) ≡ false → followers_of new d ≡ followers_of old d
  other d is = others d (λ same. true≢false (sym (eq-eqb d.0 e.0 same) ∙ is))

  -- one that was let go before stays so
  pub still_gone : IsLetGo new e → (d : EventName) → IsLetGo old d → IsLetGo new d
  still_gone gone d was = by (d.0 == e.0) refl
    where
      by : (b : Bool) → (d.0 == e.0) ≡ b → IsLetGo new d
      by true is = subst (IsLetGo new) (sym (one_name d e is)) gone
      by false is = subst (λ (o : Option (List EventName)). IfSome o (λ es. es ≡ [])) (sym (other d is)) was

  pub still_named : ((f : EventName) → may_follow old e f ≡ true → may_follow new e f ≡ true) → Keeps (may_follow old) (may_follow new)
  still_named kept d f was = by (d.0 == e.0) refl
    where
      by : (b : Bool) → (d.0 == e.0) ≡ b → may_follow new d f ≡ true
      by true is = subst (λ k. may_follow new k f ≡ true) (sym (one_name d e is)) (kept f (subst (λ k. may_follow old k f ≡ true) (one_name d e is) was))
      by false is = ap (λ (o : Option (List EventName)). option_map_or (λ es. is_one es f) o true) (other d is) ∙ was
