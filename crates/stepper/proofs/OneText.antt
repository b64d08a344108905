-- One text at most of what may be done, and of a world.
use Rattle.std.proofs.Common.{◌≡◌, ℕ, Bool, true, false, T, List, [], ◌∷◌, ◌++◌, map, Option, Some, None, Contains, is_some, refl, sym, ap, subst, ◌∙◌, ⊎_elim, cond}
use Rattle.std.specs.Prelude.{◌&&◌}
use Rattle.std.specs.List.{AllByRecursion}
use Rattle.std.specs.List.Sorted.{IsStrictlySortedBy}
use Rattle.std.specs.Map.{lookup}
use Rattle.std.specs.FinMap.Entries.{find, below_all, is_sorted, same_entries}
use Rattle.std.specs.Cmp.{IsTotalOrder}
use Rattle.std.specs.Ordering.{is_lt, is_eq}
use Rattle.std.specs.declared.cmp.Ordering.{Ordering}
use Rattle.std.specs.declared.cmp.Ordering.TheVariants.{Less}
use Rattle.std.proofs.lemmas.Bool.{false≢true}
use Rattle.std.proofs.lemmas.Cmp.{then_total, on_total, nat_cmp_total, nat_list_cmp_total}
use Rattle.std.proofs.lemmas.List.Elements.{All-contains, All-from_recursion}
use Rattle.std.proofs.lemmas.Map.Keys.{sorted_head, sorted_tail}
use Rattle.std.proofs.lemmas.Map.Lookups.{CmpEqualImpliesEq, exact_bytes}
use Rattle.ids.specs.Cells.{vat_cmp, slot_cmp, object_cmp}
use Rattle.ids.specs.declared.names.ObjId.{ObjId}
use Rattle.ids.specs.declared.names.SlotId.{SlotId}
use Rattle.ids.specs.declared.names.VatNo.{VatNo}
use Rattle.ids.specs.declared.cells.CellKey.TheVariants as key
use Rattle.ids.specs.contracts.reference.ReferenceOrd.TheImpl as reference_order
use Rattle.ids.specs.contracts.reference.ReferenceOrd.TheImpl.Laws.{total-law, matches_eq-law}
use Rattle.ids.specs.KeyLaws.{exact_reference}
use Rattle.ids.proofs.Keys.{exact_vats, exact_messages, exact_promises, exact_slots, exact_objects}
use Rattle.kernele.specs.Tree.{Name}
use Rattle.heap.specs.State.{State}
use Rattle.post.specs.Messages.{Vat}
use Rattle.world_cells.specs.World.{Content, vat, bound, held, made, viewed, fenced, message, published, vat_in, World}
use Rattle.book.specs.Good.{NamesVatsOnce}
use Rattle.book_agenda.specs.Enabled.{Out, Rises, Enabled, step_cmp}
use Rattle.book_agenda.specs.declared.agenda.Step.{Step}
use Rattle.book_agenda.proofs.Orders.{vat_total, message_total, promise_total}
use Rattle.book_agenda.proofs.Rising.{in_none, in_head, in_tail, in_cases}
use Rattle.stepper_printing.specs.Show.{Lists, noun_lines, slot_lines, object_lines, view_lines, fence_lines, StateLines, vat_line, VatLines, vat_lines_none, vat_lines_more, number_in, name_of, ByBirth, message_lines, board_lines, Shows}
use Rattle.stepper_printing.specs.Steps.{enabled_text, ShowsEnabled}
use Rattle.stepper.proofs.OneMove.{step_reversed}

-- ---- all that may be done

-- what is behind the first comes after it
behind : (x : Step) (xs : List Step) → AllByRecursion (λ t. step_cmp x t ≡ Less) xs → (s : Step) → Contains xs s → step_cmp x s ≡ Less
behind x xs h s in_xs = All-contains (λ t. step_cmp x t ≡ Less) xs s (All-from_recursion (λ t. step_cmp x t ≡ Less) xs h) in_xs

-- lists that rise and have the same in them have the same first
first_alike : (x y : Step) (xs ys : List Step) → Rises (x ∷ xs) → Rises (y ∷ ys) → Contains (y ∷ ys) x → Contains (x ∷ xs) y → y ≡ x
first_alike x y xs ys h k f g = ⊎_elim (λ e. e) (λ q. ⊎_elim (λ e. sym e) (λ p. absurd (step_reversed x y (behind x xs h.0 y p) (behind y ys k.0 x q))) (in_cases x y xs g)) (in_cases y x ys f)

-- what is behind the first is behind the same first
still_behind : (x y : Step) (xs ys : List Step) → y ≡ x → Rises (x ∷ xs) → ((s : Step) → Contains (x ∷ xs) s → Contains (y ∷ ys) s) → (s : Step) → Contains xs s → Contains ys s
still_behind x y xs ys same h f s p =
    ⊎_elim (λ e. let self : s ≡ x = sym e ∙ same in let less : step_cmp x x ≡ Less = subst (λ z. step_cmp x z ≡ Less) self (behind x xs h.0 s p) in absurd (step_reversed x x less less)) (λ q. q) (in_cases y s ys (f s (in_tail x s xs p)))

one_rise : (xs ys : List Step) → Rises xs → Rises ys → ((s : Step) → Contains xs s → Contains ys s) → ((s : Step) → Contains ys s → Contains xs s) → ys ≡ xs
one_rise [] [] h k f g = refl
one_rise [] (y ∷ ys) h k f g = absurd (in_none y (g y (in_head y ys)))
one_rise (x ∷ xs) [] h k f g = absurd (in_none x (f x (in_head x xs)))
one_rise (x ∷ xs) (y ∷ ys) h k f g =
    let same : y ≡ x = first_alike x y xs ys h k (f x (in_head x xs)) (g y (in_head y ys)) in
    let rest : ys ≡ xs = one_rise xs ys h.1 k.1 (still_behind x y xs ys same h f) (still_behind y x ys xs (sym same) k g) in
    λ i. same i ∷ rest i

pub enabled_once : {w : World} {out : Out} {ss ts : List Step} → Enabled w out ss → Enabled w out ts → ts ≡ ss
enabled_once {ss = ss} {ts = ts} h k = one_rise ss ts h.rise k.rise (λ s q. (k.each s).1 ((h.each s).0 q)) (λ s q. (h.each s).1 ((k.each s).0 q))

-- ---- what is listed in the order of its keys

both : (a b : Bool) → T a → T b → T (a && b)
both true b p q = q
both false b p q = p

module _ {K V : Type 0} (R : K → K → Ordering) where
  head_below : (x : K) (es : List (K × V)) → AllByRecursion (λ y. R x y ≡ Less) (map (λ e. e.0) es) → T (below_all R x es)
  head_below x [] h = tt
  head_below x (e ∷ es) h = subst (λ o. T (is_lt o && below_all R x es)) (sym h.0) (head_below x es h.1)

  in_order : (es : List (K × V)) → IsStrictlySortedBy R (map (λ e. e.0) es) → T (is_sorted R es)
  in_order [] h = tt
  in_order (e ∷ es) h = both _ _ (head_below e.0 es (sorted_head R e.0 (map (λ q. q.0) es) h)) (in_order es (sorted_tail R e.0 (map (λ q. q.0) es) h))

  found_so : (k : K) (es : List (K × V)) → find R k es ≡ lookup (λ q. is_eq (R k q)) es
  found_so k [] = refl
  found_so k (e ∷ es) = ap (cond (is_eq (R k e.0)) (Some e.1)) (found_so k es)

  one_listing : IsTotalOrder R → CmpEqualImpliesEq R → (es fs : List (K × V)) → IsStrictlySortedBy R (map (λ e. e.0) es) → IsStrictlySortedBy R (map (λ e. e.0) fs)
      → ((k : K) → lookup (λ q. is_eq (R k q)) fs ≡ lookup (λ q. is_eq (R k q)) es) → fs ≡ es
  one_listing o exact es fs h k same = same_entries R o exact fs es (in_order fs k) (in_order es h) (λ q. found_so q fs ∙ same q ∙ sym (found_so q es))

pub lists_once : {K V : Type 0} {R : K → K → Ordering} {at : K → Option V} {es fs : List (K × V)} → IsTotalOrder R → CmpEqualImpliesEq R → Lists R at es → Lists R at fs → fs ≡ es
lists_once {R = R} {es = es} {fs = fs} o exact h k = one_listing R o exact es fs h.ordered k.ordered (λ q. sym (k.listed q) ∙ h.listed q)

slot_total : IsTotalOrder slot_cmp
slot_total = then_total (on_total (λ (s : SlotId). s.event.0) nat_cmp_total) (then_total (on_total (λ (s : SlotId). s.index) nat_cmp_total) (on_total (λ (s : SlotId). s.vat) vat_total))

object_total : IsTotalOrder object_cmp
object_total = then_total (on_total (λ (o : ObjId). o.event.0) nat_cmp_total) (then_total (on_total (λ (o : ObjId). o.index) nat_cmp_total) (on_total (λ (o : ObjId). o.vat) vat_total))

exact_references : CmpEqualImpliesEq (reference_order.ghosts).cmp
exact_references r t h = exact_reference r t (matches_eq-law r t ∙ ap is_eq h)

-- ---- vats by birth

-- a number is that of a vat
vat_of_number : (o : Option Content) (v : VatNo) → number_in o ≡ Some v → (u : Vat) × (vat_in o ≡ Some u) × (u.number ≡ v)
vat_of_number None v h = absurd (cc)
vat_of_number (Some (vat x)) v h = (x, refl, (cc))
vat_of_number (Some (bound b)) v h = absurd (cc)
vat_of_number (Some (held a)) v h = absurd (cc)
vat_of_number (Some (made o)) v h = absurd (cc)
vat_of_number (Some (viewed k)) v h = absurd (cc)
vat_of_number (Some (fenced f)) v h = absurd (cc)
vat_of_number (Some (message g)) v h = absurd (cc)
vat_of_number (Some (published a)) v h = absurd (cc)

-- so no two names have one number
pub one_number : (w : World) → NamesVatsOnce w → (x y : Name) (v : VatNo) → number_in (w (key.Name x)) ≡ Some v → number_in (w (key.Name y)) ≡ Some v → y ≡ x
one_number w once x y v h k =
    let a = vat_of_number (w (key.Name x)) v h in
    let b = vat_of_number (w (key.Name y)) v k in
    once x y a.0 b.0 a.1 b.1 (b.2 ∙ sym a.2)

module _ {at : Name → Option Content} (once : (x y : Name) (v : VatNo) → number_in (at x) ≡ Some v → number_in (at y) ≡ Some v → y ≡ x) (vs ws : List (VatNo × Name)) (h : ByBirth at vs) (k : ByBirth at ws) where
  one_name : (v : VatNo) (o p : Option Name) → name_of vs v ≡ o → name_of ws v ≡ p → p ≡ o
  one_name v None None e f = refl
  one_name v (Some x) None e f = absurd (false≢true (sym (ap is_some f) ∙ k.all x v (h.named v x e)))
  one_name v None (Some y) e f = absurd (false≢true (sym (ap is_some e) ∙ h.all y v (k.named v y f)))
  one_name v (Some x) (Some y) e f = ap (λ z. Some z) (once x y v (h.named v x e) (k.named v y f))

  pub births_once : ws ≡ vs
  births_once = one_listing vat_cmp vat_total exact_vats vs ws h.ordered k.ordered (λ v. one_name v (name_of vs v) (name_of ws v) refl refl)

-- ---- states and worlds

state_once : {s : State} {ls ms : List ℕ} → StateLines s ls → StateLines s ms → ms ≡ ls
state_once h k =
    let nouns = lists_once nat_list_cmp_total exact_bytes h.nouns_listed k.nouns_listed in
    let slots = lists_once slot_total exact_slots h.slots_listed k.slots_listed in
    let objects = lists_once object_total exact_objects h.objects_listed k.objects_listed in
    let views = lists_once promise_total exact_promises h.views_listed k.views_listed in
    let fences = lists_once total-law exact_references h.fences_listed k.fences_listed in
    k.whole ∙ (λ i. noun_lines (nouns i) ++ (slot_lines (slots i) ++ (object_lines (objects i) ++ (view_lines (views i) ++ fence_lines (fences i))))) ∙ sym h.whole

vat_lines_once : {w : World} {vs : List (VatNo × Name)} {ls ms : List ℕ} → VatLines w vs ls → VatLines w vs ms → ms ≡ ls
vat_lines_once vat_lines_none vat_lines_none = refl
vat_lines_once (vat_lines_more {v = v} {x = x} a h) (vat_lines_more b k) = λ i. vat_line v x ++ (state_once a b i ++ vat_lines_once h k i)

pub shows_once : {w : World} {text other : List ℕ} → NamesVatsOnce w → Shows w text → Shows w other → other ≡ text
shows_once {w = w} once h k =
    let vats : k.vats ≡ h.vats = births_once (one_number w once) h.vats k.vats h.vats_listed k.vats_listed in
    let messages = lists_once message_total exact_messages h.messages_listed k.messages_listed in
    let board = lists_once promise_total exact_promises h.board_listed k.board_listed in
    let lines : k.lines ≡ h.lines = vat_lines_once h.vat_lines (subst (λ (vs : List (VatNo × Name)). VatLines w vs k.lines) vats k.vat_lines) in
    k.whole ∙ (λ i. lines i ++ (message_lines (vats i) (messages i) ++ board_lines (board i))) ∙ sym h.whole

pub shows_enabled_once : {w : World} {ss ts : List Step} {text other : List ℕ} → NamesVatsOnce w → ts ≡ ss → ShowsEnabled w ss text → ShowsEnabled w ts other → other ≡ text
shows_enabled_once {w = w} once same h k =
    let vats : k.vats ≡ h.vats = births_once (one_number w once) h.vats k.vats h.vats_listed k.vats_listed in
    k.whole ∙ (λ i. enabled_text (vats i) (same i)) ∙ sym h.whole
