-- The order of deeds is the order of their histories.
use Rattle.std.proofs.Common.{◌≡◌, List, [], ◌∷◌, ◌⊎◌, refl, sym, ap, ap₂, subst, ◌∙◌}
use Rattle.eorder.specs.Acts.{Act, Entry, turned, Start}
use Rattle.eorder.specs.Order.{Done, Precedes}
use Rattle.eorder.specs.Deeds.{Deed, turn, learn, acted, history_of, HadTurn, TurnBefore}
use Rattle.eorder.specs.Theorems.{DeedsKeepOrder}
use Rattle.eorder.proofs.Keeping.{keeps}
use Rattle.ids.specs.declared.names.VatNo.{VatNo}
use Rattle.ids.specs.declared.names.MsgId.{MsgId}

module _ (s : Start) where
  pub done_acted : (v : VatNo) (acts : List Act) (es : List Entry) (m : MsgId) → Done s (acted v acts es) m ≡ Done s es m
  done_acted v [] es m = refl
  done_acted v (a ∷ acts) es m = done_acted v acts es m

  precedes_acted : (v : VatNo) (acts : List Act) (es : List Entry) (a b : MsgId) → Precedes s (acted v acts es) a b ≡ Precedes s es a b
  precedes_acted v [] es a b = refl
  precedes_acted v (x ∷ acts) es a b = precedes_acted v acts es a b

  done_deeds : (ds : List Deed) (m : MsgId) → Done s (history_of ds) m ≡ HadTurn s ds m
  done_deeds [] m = refl
  done_deeds (turn v b w acts ∷ ds) m = done_acted v acts (turned b w ∷ history_of ds) m ∙ ap (λ A. (b ≡ m) ⊎ A) (done_deeds ds m)
  done_deeds (learn v acts ∷ ds) m = done_acted v acts (history_of ds) m ∙ done_deeds ds m

  precedes_deeds : (ds : List Deed) (a b : MsgId) → Precedes s (history_of ds) a b ≡ TurnBefore s ds a b
  precedes_deeds [] a b = refl
  precedes_deeds (turn v m w acts ∷ ds) a b = precedes_acted v acts (turned m w ∷ history_of ds) a b ∙ ap₂ (λ A B. ((m ≡ b) × A) ⊎ B) (done_deeds ds a) (precedes_deeds ds a b)
  precedes_deeds (learn v acts ∷ ds) a b = precedes_acted v acts (history_of ds) a b ∙ precedes_deeds ds a b

pub deeds_keep : DeedsKeepOrder
deeds_keep s ds a b z p h d = subst (λ A. A) (precedes_deeds s ds a b) (keeps s (history_of ds) h z p (subst (λ A. A) (sym (done_deeds s ds b)) d))
