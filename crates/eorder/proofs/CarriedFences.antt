-- What a map of references with their fences does.
use Rattle.std.proofs.Common.{◌≡◌, ◌<◌, ℕ, suc, Bool, true, false, cond, Option, Some, None, is_some, List, [], ◌∷◌, ◌++◌, length, refl, sym, ap, ◌∙◌, arith}
use Rattle.std.specs.List.{slice_get}
use Rattle.std.specs.Map.{lookup}
use Rattle.std.proofs.lemmas.Bool.{true≢false}
use Rattle.indexmap.specs.IndexMap.{insert_entry}
use Rattle.ids.specs.References.{same_reference}
use Rattle.ids.specs.declared.names.MsgId.{MsgId}
use Rattle.ids.specs.declared.reference.Reference.{Reference}
use Rattle.ids.specs.contracts.reference.ReferencePartialEq.TheImpl as test
use Rattle.ids.proofs.CellKeys.{references_agree}
use Rattle.ids.proofs.References.{reference_equal, reference_self}
use Rattle.eorder.specs.Carried.{Carried, fence_with, carries, with_fence, has_names, EachOnce}

-- as the program tests it
abbrev pub same : Reference → Reference → Bool
same r t = (test.ghosts).eq r t

-- a look-up by the program's test finds the fence
pub looked_up : (c : Carried) (r : Reference) → lookup (same r) c ≡ fence_with c r
looked_up [] r = refl
looked_up (e ∷ c) r = λ i. cond (references_agree r e.0 i) (Some e.1) (looked_up c r i)

-- an entry that passes the test is there
tested : {X : Type 0} (b : Bool) (x : X) (o : Option X) → is_some (cond b (Some x) o) ≡ false → (b ≡ false) × (is_some o ≡ false)
tested true x o h = absurd (true≢false h)
tested false x o h = (refl, h)

-- a reference that is not there is put behind the others
pub inserted : (c : Carried) (r : Reference) (f : List MsgId) → carries c r ≡ false → insert_entry same c r f ≡ c ++ (r, f) ∷ []
inserted [] r f h = refl
inserted (e ∷ c) r f h =
    let p = tested (same_reference r e.0) e.1 (fence_with c r) h in
    (λ i. cond ((references_agree r e.0 ∙ p.0) i) ((e.0, f) ∷ c) (e ∷ insert_entry same c r f)) ∙ ap (λ x. e ∷ x) (inserted c r f p.1)

pub added : (c : Carried) (r : Reference) (f : List MsgId) → carries c r ≡ false → (f ≡ [] → ⊥) → insert_entry same c r f ≡ with_fence c r f
added c r [] h n = absurd (n refl)
added c r (m ∷ f) h n = inserted c r (m ∷ f) h ∙ (λ i. cond (sym h i) c (c ++ (r, m ∷ f) ∷ []))

-- nothing is added
pub left_out : (c : Carried) (r : Reference) (f : List MsgId) → f ≡ [] → c ≡ with_fence c r f
left_out c r [] h = refl
left_out c r (m ∷ f) h = absurd (cc)

pub there_already : (c : Carried) (r : Reference) (f : List MsgId) → carries c r ≡ true → c ≡ with_fence c r f
there_already c r [] h = refl
there_already c r (m ∷ f) h = λ i. cond (sym h i) c (c ++ (r, m ∷ f) ∷ [])

apart : (r t : Reference) (b : Bool) → same_reference t r ≡ b → same_reference r t ≡ false → b ≡ false
apart r t true e h = absurd (true≢false (sym (reference_self r) ∙ ap (λ x. same_reference r x) (sym (reference_equal t r e)) ∙ h))
apart r t false e h = refl

still_absent : (c : Carried) (k r : Reference) (f : List MsgId) → carries c k ≡ false → same_reference k r ≡ false → carries (c ++ (r, f) ∷ []) k ≡ false
still_absent [] k r f h n = λ i. is_some (cond (n i) (Some f) None)
still_absent (e ∷ c) k r f h n =
    let p = tested (same_reference k e.0) e.1 (fence_with c k) h in
    (λ i. is_some (cond (p.0 i) (Some e.1) (fence_with (c ++ (r, f) ∷ []) k))) ∙ still_absent c k r f p.1 n

-- each still stands once
pub once_more : (c : Carried) (r : Reference) (f : List MsgId) → EachOnce c → carries c r ≡ false → has_names f ≡ true → EachOnce (c ++ (r, f) ∷ [])
once_more [] r f o h n = (refl, n, tt)
once_more (e ∷ c) r f o h n =
    let p = tested (same_reference r e.0) e.1 (fence_with c r) h in
    (still_absent c e.0 r f o.0 (apart r e.0 (same_reference e.0 r) refl p.0), o.1, once_more c r f o.2 p.1 n)

pub has : (f : List MsgId) → (f ≡ [] → ⊥) → has_names f ≡ true
has [] h = absurd (h refl)
has (m ∷ f) h = refl

-- lists of one length with the same at each place are one
pub equal_by_place : {X : Type 0} (xs ys : List X) → length xs ≡ length ys → ((k : ℕ) → k < length xs → slice_get xs k ≡ slice_get ys k) → xs ≡ ys
equal_by_place [] [] l h = refl
equal_by_place [] (y ∷ ys) l h = absurd (omega arith)
equal_by_place (x ∷ xs) [] l h = absurd (omega arith)
equal_by_place (x ∷ xs) (y ∷ ys) l h =
    let first : Some x ≡ Some y = h 0 (omega arith) in
    let here : x ≡ y = cc in
    let rest : xs ≡ ys = equal_by_place xs ys (omega arith) (λ k i. h (suc k) (omega arith)) in
    λ i. here i ∷ rest i
