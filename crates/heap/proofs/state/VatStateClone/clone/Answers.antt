use Rattle.std.proofs.Common.{◌≡◌, ap}
use Rattle.values.specs.View.{val_of}
use Rattle.heap.specs.State.{Cell, top, slot_cell, object_cell, view_cell, fence_cell, bound, held, made, viewed, fenced}
use Rattle.heap.specs.View.{bind_of, object_of, view_of, seen_in}
use Rattle.heap.proofs.Reaching.{told_alike}
use Rattle.heap.proofs.state.VatStateClone.clone.Goals as goal

-- each kind of cell looks as it did
alike : (c : goal.In_ok-clone-5) (k : Cell) → seen_in (record { tops = c.in_ok-clone.field-0; slots = c.in_ok-clone-2.field-0; objects = c.in_ok-clone-3.field-0; views = c.in_ok-clone-4.field-0; fences = c.in_ok-clone-5.field-0 }) k ≡ seen_in c.args.self.now k
alike c (top x) = told_alike _ (λ b. bound (bind_of b)) (λ v w h. ap bound h) _ _ (c.in_ok-clone.ensures.cases x)
alike c (slot_cell i) = told_alike _ (λ v. held (val_of v)) (λ v w h. ap held h) _ _ (c.in_ok-clone-2.ensures.cases i)
alike c (object_cell i) = told_alike _ (λ m. made (object_of m)) (λ v w h. ap made h) _ _ (c.in_ok-clone-3.ensures.cases i)
alike c (view_cell p) = told_alike _ (λ k. viewed (view_of k)) (λ v w h. ap viewed h) _ _ (c.in_ok-clone-4.ensures.cases p)
alike c (fence_cell r) = told_alike _ fenced (λ v w h. ap fenced h) _ _ (c.in_ok-clone-5.ensures.cases r)

pub returns : goal.returns
returns c = record { cases = alike c }
