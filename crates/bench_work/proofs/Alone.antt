-- A ticket that is alone, and refusals that leave it open.
use Rattle.std.proofs.Common.{◌≡◌, List, [], ◌∷◌, cond, not, refl, ap, ◌∙◌}
use Rattle.ids.specs.declared.names.EventName.{EventName}
use Rattle.book_refusals.specs.declared.fault.BookFault.{BookFault}
use Rattle.book_refusals.specs.declared.fault.BookFault.TheVariants as fault
use Rattle.bench_pact.specs.Agree.{strike}
use Rattle.bench.specs.SharedBook.{Held, refused}
use Rattle.bench.proofs.Agrees.{same_test}

pub struck_alone : (n : EventName) (ns : List EventName) → ns ≡ n ∷ [] → strike n ns ≡ []
struck_alone n ns is = ap (strike n) is ∙ ap (λ b. cond (not b) (n ∷ []) []) (same_test n.0 n.0 refl)

pub stays_open : (f : BookFault) (n : EventName) (h : Held) → (f ≡ fault.Stale → ⊥) → refused f n h ≡ h
stays_open fault.Stale n h ne = absurd (ne refl)
stays_open _ n h ne = refl
