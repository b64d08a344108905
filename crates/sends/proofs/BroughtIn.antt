-- References come in in a loop.
use Rattle.std.proofs.Common.{◌≡◌, ◌<◌, ◌≤◌, ◌+◌, ℕ, Option, List, [], drop, length, get_or, Result, Ok, Err, IfOk, sym, ap, ◌∙◌, subst}
use Rattle.std.specs.Result.{OnOk}
use Rattle.std.proofs.lemmas.List.{drop_all}
use Rattle.ids.specs.declared.names.MsgId.{MsgId}
use Rattle.ids.specs.declared.reference.Reference.{Reference}
use Rattle.eorder.specs.Carried.{Carried}
use Rattle.cells.specs.Doing.{play}
use Rattle.values.specs.Data.{Val}
use Rattle.heap.specs.State.{same_cell}
use Rattle.heap.specs.Drafted.{Drafted}
use Rattle.sends.specs.Vats.{nothing, value_of, names_for, end_joined, brought, all_brought, received, arrived, each_once, coming_in}
use Rattle.sends.specs.Playing.{under, Did}
use Rattle.sends.proofs.Playing.{played, did_then}
use Rattle.sends.proofs.Carrying.{no_reference, from_here}

-- what comes in in all, by what is left
abbrev pub Brings : List Reference → List Reference → Drafted → Drafted → Type 0
Brings all rest d e = play same_cell (all_brought rest) (under e) ≡ play same_cell (all_brought all) (under d)

-- one more has come in
pub bring_next : (all rs : List Reference) (i : ℕ) (d e k : Drafted) → i < length rs → Brings all (drop i rs) d e → Did (brought (get_or rs i no_reference)) e nothing k → Brings all (drop (i + 1) rs) d k
bring_next all rs i d e k h inv did =
    sym (played (brought (get_or rs i no_reference)) (λ n. all_brought (drop (i + 1) rs)) (under e) (under k) nothing did)
    ∙ ap (λ xs. play same_cell (all_brought xs) (under e)) (sym (from_here rs i h))
    ∙ inv

-- none is left
pub bring_last : (all rs : List Reference) (i : ℕ) (d e : Drafted) → length rs ≤ i → Brings all (drop i rs) d e → Did (all_brought all) d nothing e
bring_last all rs i d e h inv = sym inv ∙ ap (λ xs. play same_cell (all_brought xs) (under e)) (drop_all i rs h)

-- the same of their fences
abbrev pub Receives : Carried → List Reference → List Reference → Drafted → Drafted → Type 0
Receives c all rest d e = play same_cell (received c rest) (under e) ≡ play same_cell (received c all) (under d)

pub receive_next : (c : Carried) (all rs : List Reference) (i : ℕ) (t : Option Reference) (d e k : Drafted) → i < length rs → Receives c all (drop i rs) d e
    → Did (end_joined (value_of (get_or rs i no_reference)) (names_for c (get_or rs i no_reference))) e t k → Receives c all (drop (i + 1) rs) d k
receive_next c all rs i t d e k h inv did =
    let r : Reference = get_or rs i no_reference in
    sym (played (end_joined (value_of r) (names_for c r)) (λ t. received c (drop (i + 1) rs)) (under e) (under k) t did)
    ∙ ap (λ xs. play same_cell (received c xs) (under e)) (sym (from_here rs i h))
    ∙ inv

pub receive_last : (c : Carried) (all rs : List Reference) (i : ℕ) (d e : Drafted) → length rs ≤ i → Receives c all (drop i rs) d e → Did (received c all) d nothing e
receive_last c all rs i d e h inv = sym inv ∙ ap (λ xs. play same_cell (received c xs) (under e)) (drop_all i rs h)

-- all promises, and then the fences
pub all_arrived : {X E : Type 0} (s : Result X E) (c : Carried) (rs : List Reference) (d e k : Drafted) → Did (all_brought rs) d nothing e → OnOk s (Did (received c rs) e nothing k) → OnOk s (Did (arrived c rs) d nothing k)
all_arrived (Ok x) c rs d e k h i = did_then (all_brought rs) (λ n. received c rs) d e k nothing nothing h i
all_arrived (Err x) c rs d e k h i = i

-- a fence came with the reference, or none did
pub came_with : {E : Type 0} (s : Result (Option Reference) E) (c : Carried) (r : Reference) (v : Val) (f : List MsgId) (d e : Drafted) → v ≡ value_of r → f ≡ names_for c r
    → IfOk s (λ t. Did (end_joined v f) d t e) → IfOk s (λ t. Did (end_joined (value_of r) (names_for c r)) d t e)
came_with (Ok t) c r v f d e h q i = subst (λ (p : Val × List MsgId). Did (end_joined p.0 p.1) d t e) (λ j. (h j, q j)) i
came_with (Err x) c r v f d e h q i = i

-- the references in a value come in
pub did_receive : {X E : Type 0} (s : Result X E) (c : Carried) (rs none found slice : List Reference) (d e : Drafted) → none ≡ [] → found ≡ each_once none rs → slice ≡ found → OnOk s (Did (arrived c slice) d nothing e) → OnOk s (Did (coming_in c rs) d nothing e)
did_receive (Ok x) c rs none found slice d e n h q i =
    let its : slice ≡ each_once [] rs = q ∙ h ∙ ap (λ n. each_once n rs) n in
    subst (λ (xs : List Reference). Did (arrived c xs) d nothing e) its i
did_receive (Err x) c rs none found slice d e n h q i = i
