-- Names of vats are written by births alone, so in a world to which events with names of their own led, no two names stand for one vat.
use Rattle.std.proofs.Common.{◌≡◌, ◌⊎◌, ℕ, ◌+◌, Bool, true, false, cond, List, [], ◌∷◌, ◌++◌, Option, Some, inl, inr, refl, sym, ap, ◌∙◌, subst, append-nil}
use Rattle.std.specs.List.{AllByRecursion}
use Rattle.history.specs.Subject.{Run, run_none, run_more, written}
use Rattle.ids.specs.CellKeys.{same_key}
use Rattle.ids.specs.declared.names.EventName.{EventName}
use Rattle.ids.specs.declared.names.VatNo.{VatNo}
use Rattle.ids.specs.declared.names.MsgId.{MsgId}
use Rattle.ids.specs.declared.names.PromId.{PromId}
use Rattle.ids.specs.declared.cells.CellKey.{CellKey}
use Rattle.ids.specs.declared.cells.CellKey.TheVariants as key
use Rattle.ids.proofs.CellKeys.{same_exact as key_exact}
use Rattle.kernele.specs.Tree.{Name, Trees}
use Rattle.heap.specs.State as heap
use Rattle.heap.specs.State.{Cell, top, slot_cell, object_cell, view_cell, fence_cell}
use Rattle.kernele_scopes.specs.Scope.{own_names_in}
use Rattle.post.specs.Messages.{Vat, done, Message, Published}
use Rattle.world_cells.specs.Events.{Act, birth, ask, arrive, forward, learn, turn, Event}
use Rattle.world_cells.specs.World.{Content, vat, message, World, empty, vat_in, vat_named, cell_key}
use Rattle.event.specs.Events.{events, in_world, letters_from, on_the_board, counted, Turn, made_by, births, asks, arrives, forwards, learns, turns}
use Rattle.event_ordering.specs.Theorems.{HaveOwnNames}
use Rattle.event_ordering.proofs.Written.{Passes, passed, all_pass}
use Rattle.book.specs.Good.{NamesVatsOnce}

-- a birth under this name; the birth of the vat of this number; one of these events is that
abbrev Under : Name → Act → Type 0
Under x (birth y earlier script) = y ≡ x
Under x _ = ⊥

abbrev IsBirth : Name → VatNo → Event → Type 0
IsBirth x v e = (e.name ≡ v.0) × Under x e.act

abbrev Born : List Event → Name → VatNo → Type 0
Born [] x v = ⊥
Born (e ∷ es) x v = IsBirth x v e ⊎ Born es x v

-- ---- what events other than births leave

not_name : (v : VatNo) (x : Name) (c : Cell) → same_key (cell_key v c) (key.Name x) ≡ false
not_name v x (top y) = refl
not_name v x (slot_cell s) = refl
not_name v x (object_cell i) = refl
not_name v x (view_cell p) = refl
not_name v x (fence_cell r) = refl

letters_pass : (e : EventName) (i : ℕ) (ls : List (MsgId × Message)) (x : Name) → Passes (key.Name x) (letters_from e i ls)
letters_pass e i [] x = tt
letters_pass e i (l ∷ ls) x = (refl, letters_pass e (i + 1) ls x)

board_passes : (bs : List (PromId × Published)) (x : Name) → Passes (key.Name x) (on_the_board bs)
board_passes [] x = tt
board_passes (b ∷ bs) x = (refl, board_passes bs x)

learning_passes : (v : VatNo) (left : List (Cell × heap.Content)) (w : World) (x : Name) → written events (in_world v left) w (key.Name x) ≡ w (key.Name x)
learning_passes v left w x =
    ap (λ ps. written events ps w (key.Name x)) (sym (append-nil (in_world v left)))
    ∙ passed (in_world v left) [] w (key.Name x) (all_pass v left (key.Name x) (not_name v x))

turn_passes : (e : EventName) (w : World) (m : MsgId) (t : Turn) (left : List (Cell × heap.Content)) (x : Name) → written events (in_world t.vat left ++ made_by e w m t.message t.outcome) w (key.Name x) ≡ w (key.Name x)
turn_passes e w m t left x =
    let last : List (CellKey × Content) = (key.Msg m, message (record t.message { place = done e })) ∷ [] in
    let board = on_the_board (counted w t.outcome.out.publications) in
    let letters = letters_from e 0 t.outcome.out.letters in
    passed (in_world t.vat left) (letters ++ (board ++ last)) w (key.Name x) (all_pass t.vat left (key.Name x) (not_name t.vat x))
    ∙ (passed letters (board ++ last) w (key.Name x) (letters_pass e 0 t.outcome.out.letters x)
    ∙ passed board last w (key.Name x) (board_passes (counted w t.outcome.out.publications) x))

-- ---- each name is that of a birth

birth_case : (q : Bool) (es : List Event) (e : EventName) (x y : Name) (earlier : List Name) (script : Trees) (n u : Vat) (o : Option Content) → n.number.0 ≡ e → same_key (key.Name y) (key.Name x) ≡ q
    → (vat_in o ≡ Some u → Born es x u.number) → vat_in (cond q (Some (vat n)) o) ≡ Some u → Born (record { name = e; act = birth y earlier script } ∷ es) x u.number
birth_case true es e x y earlier script n u o its same before is =
    let one : n ≡ u = cc in
    let name : key.Name y ≡ key.Name x = key_exact (key.Name y) (key.Name x) same in
    inl (sym its ∙ ap (λ (v : Vat). v.number.0) one, (cc))
birth_case false es e x y earlier script n u o its same before is = inr (before is)

born : {es : List Event} {w : World} → Run events empty es w → (x : Name) (u : Vat) → vat_named w x ≡ Some u → Born es x u.number
born run_none x u is = absurd (cc)
born (run_more {w = w} r (births {e = e} {x = y} {earlier = earlier} vats {script = script} h i)) x u is =
    birth_case (same_key (key.Name y) (key.Name x)) _ e x y earlier script (record { number = record { 0 = e }; earlier = earlier; tops = own_names_in script }) u (w (key.Name x)) refl refl (born r x u) is
born (run_more r (asks h)) x u is = inr (born r x u is)
born (run_more r (arrives h i)) x u is = inr (born r x u is)
born (run_more r (forwards h i j k)) x u is = inr (born r x u is)
born (run_more {w = w} r (learns {v = v} {left = left} h i l)) x u is = inr (born r x u (ap vat_in (sym (learning_passes v left w x)) ∙ is))
born (run_more {w = w} r (turns {e = e} {m = m} {t = t} {left = left} h l)) x u is = inr (born r x u (ap vat_in (sym (turn_passes e w m t left x)) ∙ is))

-- ---- one name of a number

under_once : (a : Act) (x y : Name) → Under x a → Under y a → y ≡ x
under_once (birth z earlier script) x y h k = sym k ∙ h
under_once (ask z program) x y h k = absurd h
under_once (arrive m) x y h k = absurd h
under_once (forward m) x y h k = absurd h
under_once (learn v p) x y h k = absurd h
under_once (turn v m budget) x y h k = absurd h

not_born : (es : List Event) (n : EventName) → AllByRecursion (λ d. d.name ≡ n → ⊥) es → (x : Name) (v : VatNo) → v.0 ≡ n → Born es x v → ⊥
not_born [] n h x v e b = b
not_born (d ∷ es) n h x v e (inl b) = h.0 (b.0 ∙ e)
not_born (d ∷ es) n h x v e (inr b) = not_born es n h.1 x v e b

one_birth : (es : List Event) → HaveOwnNames es → (x y : Name) (v : VatNo) → Born es x v → Born es y v → y ≡ x
one_birth [] h x y v a b = absurd a
one_birth (e ∷ es) h x y v (inl a) (inl b) = under_once e.act x y a.1 b.1
one_birth (e ∷ es) h x y v (inl a) (inr b) = absurd (not_born es e.name h.0 y v (sym a.0) b)
one_birth (e ∷ es) h x y v (inr a) (inl b) = absurd (not_born es e.name h.0 x v (sym b.0) a)
one_birth (e ∷ es) h x y v (inr a) (inr b) = one_birth es h.1 x y v a b

-- events with names of their own lead to a world in which no two names stand for one vat
pub run_names_vats_once : (es : List Event) {w : World} → HaveOwnNames es → Run events empty es w → NamesVatsOnce w
run_names_vats_once es own r x y u v h k same = one_birth es own x y u.number (born r x u h) (subst (λ (n : VatNo). Born es y n) same (born r y v k))
