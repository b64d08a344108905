use Rattle.std.proofs.Common.{◌≡◌, true, ap₂, subst, ◌∙◌}
use Rattle.std.specs.Cmp.Lexicographic.{pointwise}
use Rattle.std.proofs.lemmas.Slice.Eq.{slice_eq-Decides}
use Rattle.ids.proofs.CellKeys.{messages_agree}
use Rattle.ids.proofs.Keys.{message_self}
use Rattle.ids.specs.KeyLaws.{same_two, exact_message}
use Rattle.ids.specs.declared.names.MsgId.{MsgId}
use Rattle.eorder.proofs.fence.Fence.is_same.Goals as goal

decides : (a b : MsgId) → (same_two a.event.0 b.event.0 a.index b.index ≡ true → a ≡ b) × (a ≡ b → same_two a.event.0 b.event.0 a.index b.index ≡ true)
decides a b = (exact_message a b, λ e. subst (λ x. same_two a.event.0 x.event.0 a.index x.index ≡ true) e (messages_agree a a ∙ message_self a))

pub returns : goal.returns
returns c =
    slice_eq-Decides decides c.args.self.now c.args.other.now c.eq.result
    (c.eq.ensures ∙ ap₂ (pointwise (λ (a b : MsgId). same_two a.event.0 b.event.0 a.index b.index)) c.names.ensures.names c.names-2.ensures.names)
