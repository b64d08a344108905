use Rattle.std.proofs.Common.{ap}
use Rattle.values.specs.View.{val_of}
use Rattle.heap.specs.State.{held, made, viewed, fenced}
use Rattle.heap.specs.View.{object_of, view_of}
use Rattle.heap.proofs.Reaching.{clones_alike}
use Rattle.heap.proofs.state.VatState.contents.Goals as goal

pub returns-clause-slots : goal.returns-clause-slots
returns-clause-slots c i = clones_alike _ (λ v. held (val_of v)) (λ v w h. ap held h) _ _ (c.in_ok-in_order-2.ensures i)

pub returns-clause-objects : goal.returns-clause-objects
returns-clause-objects c i = clones_alike _ (λ m. made (object_of m)) (λ v w h. ap made h) _ _ (c.in_ok-in_order-3.ensures i)

pub returns-clause-views : goal.returns-clause-views
returns-clause-views c i = clones_alike _ (λ k. viewed (view_of k)) (λ v w h. ap viewed h) _ _ (c.in_ok-in_order-4.ensures i)

pub returns-clause-fences : goal.returns-clause-fences
returns-clause-fences c i = clones_alike _ fenced (λ v w h. ap fenced h) _ _ (c.in_ok-in_order-5.ensures i)
