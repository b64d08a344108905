-- The touched cell that is the one that is sought, and the test of the program for keys.
use Rattle.std.proofs.Common.{◌≡◌, ℕ, suc, ◌<◌, length, get_or, drop, List, Bool, true, ◌&&◌, cond, Option, Some, None, unwrap_or, slice_get, refl, sym, ap, ap₂, ◌∙◌, subst, eq-eqb}
use Rattle.std.proofs.lemmas.Bool.{and_parts}
use Rattle.std.proofs.lemmas.Option.{slice_get-get_or}
use Rattle.std.proofs.lemmas.Slice.Eq.{bytes_eq-Decides}
use Rattle.cells.proofs.Places.{drop_at}
use Rattle.history.specs.Subject.{found}
use Rattle.ids.specs.CellKeys.{same_key}
use Rattle.ids.specs.KeyLaws.{same_two, same_three, exact_text, exact_vat, exact_slot, exact_object, exact_message, exact_promise, exact_reference}
use Rattle.ids.specs.contracts.cells.CellKeyPartialEq.TheImpl as test
use Rattle.ids.specs.contracts.reference.ReferencePartialEq.TheImpl as tests
use Rattle.ids.specs.declared.reference.Reference.{Reference}
use Rattle.ids.specs.declared.reference.Reference.TheVariants as reference
use Rattle.ids.specs.declared.cells.CellKey.{CellKey}
use Rattle.ids.specs.declared.cells.CellKey.TheVariants as key
use Rattle.ids.proofs.CellKeys.{same_exact, same_self}
use Rattle.journal.specs.Items.{lasts_of, number_of}
use Rattle.journal.specs.Lines.{plain}
use Rattle.journal.proofs.Touching.{same_truth}
use Rattle.journal.specs.declared.entry.Touched.{Touched}

-- keys that the test of the program finds equal are one
key_exact : (k q : CellKey) → (test.ghosts).eq k q ≡ true → k ≡ q
key_exact (key.Name x) (key.Name y) h = ap key.Name (exact_text x y h)
key_exact (key.Slot s) (key.Slot t) h = ap key.Slot (exact_slot s t h)
key_exact (key.Object i) (key.Object j) h = ap key.Object (exact_object i j h)
key_exact (key.Top v x) (key.Top w y) h = let p = and_parts _ _ h in ap₂ key.Top (exact_vat v w p.0) (exact_text x y p.1)
key_exact (key.View v p) (key.View w q) h = let b = and_parts _ _ h in ap₂ key.View (exact_vat v w b.0) (exact_promise p q b.1)
key_exact (key.Fence v r) (key.Fence w t) h = let p = and_parts _ _ h in ap₂ key.Fence (exact_vat v w p.0) (exact_reference r t p.1)
key_exact (key.Msg m) (key.Msg n) h = ap key.Msg (exact_message m n h)
key_exact (key.Board p) (key.Board q) h = ap key.Board (exact_promise p q h)
key_exact _ _ h = cc

two_self : (e i : ℕ) → same_two e e i i ≡ true
two_self e i = ap₂ (λ a b. a && b) (eq-eqb e e refl) (eq-eqb i i refl)

three_self : (e i v : ℕ) → same_three e e i i v v ≡ true
three_self e i v = ap₂ (λ a b. a && b) (eq-eqb e e refl) (two_self i v)

target_self : (r : Reference) → (tests.ghosts).eq r r ≡ true
target_self (reference.Object i) = three_self i.event.0 i.index i.vat.0.0
target_self (reference.Ejector i) = three_self i.event.0 i.index i.vat.0.0
target_self (reference.Promise p) = three_self p.event.0 p.index p.home.0.0

-- and each equals itself
key_self : (k : CellKey) → (test.ghosts).eq k k ≡ true
key_self (key.Name x) = (bytes_eq-Decides x x).1 refl
key_self (key.Slot s) = three_self s.event.0 s.index s.vat.0.0
key_self (key.Object i) = three_self i.event.0 i.index i.vat.0.0
key_self (key.Top v x) = ap₂ (λ a b. a && b) (eq-eqb v.0.0 v.0.0 refl) ((bytes_eq-Decides x x).1 refl)
key_self (key.View v p) = ap₂ (λ a b. a && b) (eq-eqb v.0.0 v.0.0 refl) (three_self p.event.0 p.index p.home.0.0)
key_self (key.Fence v r) = ap₂ (λ a b. a && b) (eq-eqb v.0.0 v.0.0 refl) (target_self r)
key_self (key.Msg m) = two_self m.event.0 m.index
key_self (key.Board p) = three_self p.event.0 p.index p.home.0.0

-- the test of the program is the test of keys
pub test_is_same : (k q : CellKey) → (test.ghosts).eq k q ≡ same_key k q
test_is_same k q = same_truth _ _
    (λ h. subst (λ c. same_key k c ≡ true) (key_exact k q h) (same_self k))
    (λ h. subst (λ c. (test.ghosts).eq k c ≡ true) (same_exact k q h) (key_self k))

-- where no touched cell before it was the one, the writer of this is the writer of the cell
pub writer_there : (ts : List Touched) (i : ℕ) (t : Touched) (q : CellKey) → i < length ts → t ≡ get_or ts i t → (test.ghosts).eq t.key q ≡ true
    → found plain (lasts_of (drop i ts)) q ≡ found plain (lasts_of ts) q → number_of t.writer ≡ unwrap_or (found plain (lasts_of ts) q) None
writer_there ts i t q within at equal h =
    let there : slice_get ts i ≡ Some t = slice_get-get_or ts i t within ∙ ap Some (sym at) in
    let same : same_key t.key q ≡ true = sym (test_is_same t.key q) ∙ equal in
    ap (λ (o : Option (Option ℕ)). unwrap_or o None)
    (sym (sym h ∙ ap (λ us. found plain (lasts_of us) q) (drop_at ts (suc i) i t refl there) ∙ ap (λ b. cond b (Some (number_of t.writer)) (found plain (lasts_of (drop (suc i) ts)) q)) same))
