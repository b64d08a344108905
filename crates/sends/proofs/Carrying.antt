-- Fences are carried away in a loop.
use Rattle.std.proofs.Common.{◌≡◌, ◌<◌, ◌≤◌, ◌+◌, ℕ, List, [], ◌∷◌, drop, length, get_or, sym, ap, ◌∙◌, add-one, drop-cons}
use Rattle.std.proofs.lemmas.List.{drop_all}
use Rattle.ids.specs.declared.names.MsgId.{MsgId}
use Rattle.ids.specs.declared.reference.Reference.{Reference}
use Rattle.ids.specs.declared.reference.Reference.TheVariants as reference
use Rattle.eorder.specs.Carried.{Carried, with_fence}
use Rattle.cells.specs.Doing.{play}
use Rattle.heap.specs.State.{same_cell}
use Rattle.heap.specs.Drafted.{Drafted}
use Rattle.sends.specs.Vats.{fence_of, carried}
use Rattle.sends.specs.Playing.{under, Did}
use Rattle.sends.proofs.Playing.{played}
use Rattle.sends.proofs.Looking.{no_promise}

-- what is carried in all, by what is left
abbrev pub Carries : List Reference → Carried → List Reference → Drafted → Drafted → Type 0
Carries all row rest d e = play same_cell (carried row rest) (under e) ≡ play same_cell (carried [] all) (under d)

-- what a loop over references reads beyond them
abbrev pub no_reference : Reference
no_reference = reference.Promise no_promise

pub from_here : (rs : List Reference) (i : ℕ) → i < length rs → drop i rs ≡ get_or rs i no_reference ∷ drop (i + 1) rs
from_here rs i h = rw add-one (drop-cons rs i no_reference h)

-- one more is carried
pub carry_next : (all rs : List Reference) (i : ℕ) (row new : Carried) (f : List MsgId) (d e k : Drafted) → i < length rs → Carries all row (drop i rs) d e → Did (fence_of (get_or rs i no_reference)) e f k
    → new ≡ with_fence row (get_or rs i no_reference) f → Carries all new (drop (i + 1) rs) d k
carry_next all rs i row new f d e k h inv did s =
    let r : Reference = get_or rs i no_reference in
    ap (λ c. play same_cell (carried c (drop (i + 1) rs)) (under k)) s
    ∙ sym (played (fence_of r) (λ f. carried (with_fence row r f) (drop (i + 1) rs)) (under e) (under k) f did)
    ∙ ap (λ xs. play same_cell (carried row xs) (under e)) (sym (from_here rs i h))
    ∙ inv

-- none is left
pub carry_last : (all rs : List Reference) (i : ℕ) (row : Carried) (d e : Drafted) → length rs ≤ i → Carries all row (drop i rs) d e → Did (carried [] all) d row e
carry_last all rs i row d e h inv = sym inv ∙ ap (λ xs. play same_cell (carried row xs) (under e)) (drop_all i rs h)
