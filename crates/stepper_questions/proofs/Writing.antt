-- How one event came of another, put together from its parts.
use Rattle.std.proofs.Common.{◌≡◌, ℕ, suc, List, ◌∷◌, ◌++◌, Some, length, refl, ap, ◌∙◌, subst, arith, codes}
use Rattle.std.specs.Fmt.{decimal}
use Rattle.ids.specs.Names.{event_text}
use Rattle.ids.specs.declared.names.EventName.{EventName}
use Rattle.journal.specs.Lines.{Line}
use Rattle.stepper_questions.specs.Chains.{Nearest}
use Rattle.stepper_questions.specs.Why.{Steps, Reason, is_chained, ReasonBetween, Why}
use Rattle.stepper_questions.specs.Refusals.{place_of}
use Rattle.stepper_questions.specs.WhyView.{chain_text, links_text, AreLinks}
use Rattle.stepper_questions.specs.declared.reason.ChainLink.{ChainLink}

module _ (lines : List Line) where
  -- the steps of the nearest chain, behind how many they are
  pub reason_chained : (s l : ℕ) (ps places : List ℕ) (links : List ChainLink) → Nearest lines s l ps → places ≡ l ∷ ps → AreLinks lines places links → Reason lines s l (chain_text links)
  reason_chained s l ps places links nearest are along =
      let many : suc (length links) ≡ suc (length ps) = along.count ∙ ap length are in
      let count : length ps ≡ length links = omega arith in
      subst (λ (n : ℕ). Reason lines s l (decimal n ++ (10 ∷ links_text links))) count (is_chained nearest (subst (λ (xs : List ℕ). Steps lines xs (links_text links)) are along.steps))

  -- and what stands in front of it
  pub why_told : (e f : EventName) (p q : ℕ) → place_of lines e ≡ Some p → place_of lines f ≡ Some q → (reason : List ℕ) → ReasonBetween lines p q reason
      → Why lines e f (codes "why " ++ (event_text e ++ (codes " " ++ (event_text f ++ (codes " " ++ reason)))))
  why_told e f p q first second reason between = record { p = p; q = q; first = first; second = second; reason = reason; between = between; whole = refl }
