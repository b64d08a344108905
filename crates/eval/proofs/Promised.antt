-- Sends, whens and promises.
use Rattle.std.proofs.Common.{◌≡◌, ℕ, ◌+◌, ◌<◌, ◌≤◌, List, arith, sym, subst}
use Rattle.std.specs.Prelude.{Option, Some, Vec}
use Rattle.std.specs.declared.alloc.Global.{Global}
use Rattle.kernele.specs.Tree.{Tree}
use Rattle.kernele.specs.declared.tree.Pattern.{Pattern}
use Rattle.values.specs.Data.{Val}
use Rattle.code.specs.Frames.{after, all_placed}
use Rattle.code.specs.View.{trees_of_codes}
use Rattle.code.specs.declared.code.Capture.{Capture}
use Rattle.code.specs.declared.code.Code.{Code}
use Rattle.post.specs.Delivery.{Handler}
use Rattle.heap.specs.State.{frame_of}
use Rattle.eval_rules.specs.At.{At}
use Rattle.eval_rules.specs.Fits.{frame_at}
use Rattle.eval_rules.specs.Outcomes.{value}
use Rattle.eval_rules.specs.Rules.{Ends}
use Rattle.eval_rules.specs.View.{at}
use Rattle.eval_rules.specs.declared.working.Working.{Working}
use Rattle.eval_rules.proofs.Added.{ends_add}

-- there is a promise left where each that was made since was paid for
pub still_promised : (w u : Working) {n : ℕ} → (at u).out.promises + (at u).left ≤ (at w).out.promises + (at w).left → w.out.promises + w.steps < n → u.out.promises + u.steps < n
still_promised w u h g = omega (arith, h, g)

-- names that are at their places behind a tree are there once it has given a value
pub captures_then : {k : ℕ} {t : Tree} {a b : At} {v : Val} (captures : List Capture) → Ends k t a (value v) b → all_placed (after a.own_scope t (frame_of a.nouns)) captures → all_placed (frame_at b) captures
captures_then captures r h = subst (λ f. all_placed f captures) (sym (ends_add r).0) h

-- a handler that was shared is the same
pub handler_there : {p q : Pattern} {xs ys : Vec Code Global} → p ≡ q → xs ≡ ys → ◌≡◌ {A = Option Handler} (Some (record { pattern = p; block = trees_of_codes xs.items })) (Some (record { pattern = q; block = trees_of_codes ys.items }))
handler_there e f = λ i. Some (record { pattern = e i; block = trees_of_codes (f i).items })
