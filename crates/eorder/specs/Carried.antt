-- Fences that travel with references.
use Rattle.std.specs.Prelude.{◌≡◌, Bool, true, false, cond, Option, Some, None, is_some, List, [], ◌∷◌, ◌++◌}
use Rattle.ids.specs.References.{same_reference}
use Rattle.ids.specs.declared.names.MsgId.{MsgId}
use Rattle.ids.specs.declared.reference.Reference.{Reference}

-- references, each with the names of the fence that it left with
abbrev pub Carried : Type 0
Carried = List (Reference × List MsgId)

-- the fence that travels with a reference, if one does
abbrev pub fence_with : Carried → Reference → Option (List MsgId)
fence_with [] r = None
fence_with (e ∷ c) r = cond (same_reference r e.0) (Some e.1) (fence_with c r)

-- whether a fence travels with a reference
abbrev pub carries : Carried → Reference → Bool
carries c r = is_some (fence_with c r)

-- one more reference with its fence, behind the others: one that is there stays as it is, and an empty fence does not travel
abbrev pub with_fence : Carried → Reference → List MsgId → Carried
with_fence c r [] = c
with_fence c r (m ∷ f) = cond (carries c r) c (c ++ (r, m ∷ f) ∷ [])

-- whether a fence has names
abbrev pub has_names : List MsgId → Bool
has_names [] = false
has_names (m ∷ f) = true

-- each reference stands once, and no fence is empty
abbrev pub EachOnce : Carried → Type 0
EachOnce [] = Unit {0}
EachOnce (e ∷ c) = (carries c e.0 ≡ false) × (has_names e.1 ≡ true) × EachOnce c
