-- What books that are the same have in common: what they refuse, what may be done first, and the causes of what is entered.
use Rattle.std.proofs.Common.{◌≡◌, ℕ, ◌-◌, Bool, true, false, List, [], ◌∷◌, Option, Some, None, map, filter, refl, sym, ap, subst, ◌∙◌, cond}
use Rattle.std.specs.Prelude.{◌&&◌, ◌||◌, not, is_some, nat_lt, nat_le, reverse}
use Rattle.std.specs.List.{list_any}
use Rattle.std.specs.Option.{option_map}
use Rattle.std.proofs.lemmas.Bool.{false≢true}
use Rattle.history.specs.Subject.{Foot, found, new, touches, meets}
use Rattle.history.specs.Journal.{Entry, causes_of, name_of}
use Rattle.history.proofs.Writing.{any_written}
use Rattle.ids.specs.CellKeys.{same_key}
use Rattle.ids.specs.declared.cells.CellKey.{CellKey}
use Rattle.ids.specs.declared.names.MsgId.{MsgId}
use Rattle.ids.specs.declared.names.PromId.{PromId}
use Rattle.ids.specs.declared.names.VatNo.{VatNo}
use Rattle.kernele.specs.Tree.{Name, Trees}
use Rattle.kernele_scopes.specs.Scope.{checked_program, script_scopes, asked_scopes}
use Rattle.post.specs.Messages.{Vat}
use Rattle.world_cells.specs.World.{World, vat_named, message_of}
use Rattle.event.specs.Ready.{lost, early, place_of}
use Rattle.book_agenda.specs.Agendas.{can_learn}
use Rattle.book_agenda.specs.Enabled.{First, Enabled}
use Rattle.book_agenda.specs.declared.agenda.Move.{Move}
use Rattle.book_agenda.specs.declared.agenda.Move.TheVariants as move
use Rattle.book_agenda.specs.declared.agenda.Step.{Step}
use Rattle.desk.specs.Desks.{Lent, has_vat}
use Rattle.journal.specs.Lines.{plain, Line, entries_in}
use Rattle.journal.proofs.Reversed.{map-reverse, filter-reverse}
use Rattle.journal.proofs.Touching.{same_truth}
use Rattle.causality.proofs.Writers.{plain_laws}
use Rattle.book_refusals.specs.Refusals.{first, refuse_where, full, nothing_to_learn, vat_out, refusal_of}
use Rattle.book.specs.Refusals.{full_refusal, arrival_refusal_by, arrival_refusal, onward_refusal, forward_refusal, learning_refusal, move_refusal, budget_refusal, message_out, checkout_refusal, check_refusal, taken_refusal, named_refusal, birth_refusal, ask_refusal_by, ask_refusal, learn_refusal_by, learn_refusal}
use Rattle.book.specs.Books.{Book}
use Rattle.stepper.specs.Replies.{FirstIn, EnabledIn}
use Rattle.stepper.specs.Laws.{SameLine, SameLines, SameBook}
use Rattle.stepper.proofs.SameLines.{same_length, same_lines_back}
use Rattle.book.specs.declared.book.TheConstants.{MOST_ENTRIES}

-- ---- causes

-- a write that passes a test is of a cell that passes
some_written : (test : CellKey → Bool) (ps : List (CellKey × Unit {0})) → list_any (λ p. test p.0) ps ≡ true → (k : CellKey) × (test k ≡ true) × (is_some (found plain ps k) ≡ true)
some_written test [] h = absurd (false≢true h)
some_written test (p ∷ ps) h = by (test p.0) refl (some_written test ps)
  where
    more : (k : CellKey) (b : Bool) → is_some (found plain ps k) ≡ true → is_some (cond b (Some p.1) (found plain ps k)) ≡ true
    more k true g = refl
    more k false g = g

    by : (b : Bool) → test p.0 ≡ b → (list_any (λ q. test q.0) ps ≡ true → (k : CellKey) × (test k ≡ true) × (is_some (found plain ps k) ≡ true))
        → (k : CellKey) × (test k ≡ true) × (is_some (found plain (p ∷ ps) k) ≡ true)
    by true e ih = (p.0, e, ap (λ b. is_some (cond b (Some p.1) (found plain ps p.0))) (plain_laws.same_self p.0))
    by false e ih = let g = ih (sym (ap (λ b. b || list_any (λ q. test q.0) ps) e) ∙ h) in (g.0, g.1, more g.0 (same_key p.0 g.0) g.2)

some_unit : (o : Option (Unit {0})) → is_some o ≡ true → o ≡ Some tt
some_unit None h = absurd (false≢true h)
some_unit (Some u) h = refl

-- what writes the same cells writes one that passes a test, where the other does
written_too : (test : CellKey → Bool) (f g : Foot plain) → ((k : CellKey) → is_some (new plain g k) ≡ is_some (new plain f k)) → list_any (λ p. test p.0) f.writes ≡ true → list_any (λ p. test p.0) g.writes ≡ true
written_too test f g same h = let k = some_written test f.writes h in any_written plain plain_laws test g.writes k.0 tt (some_unit _ (same k.0 ∙ k.2)) k.1

module _ (f g : Foot plain) (alike : (k : CellKey) → touches plain g k ≡ touches plain f k) where
  pub same_meets : (l m : Line) → SameLine l m → meets plain m.entry.foot g ≡ meets plain l.entry.foot f
  same_meets l m h =
      (λ i. list_any (λ p. alike p.0 i) m.entry.foot.writes)
      ∙ same_truth _ _ (written_too (touches plain f) m.entry.foot l.entry.foot (λ k. sym (h.written k))) (written_too (touches plain f) l.entry.foot m.entry.foot h.written)

  abbrev is_cause : Foot plain → Entry plain → Bool
  is_cause foot a = a.live && meets plain a.foot foot

  abbrev named : Foot plain → List Line → List ℕ
  named foot ls = map (name_of plain) (filter (is_cause foot) (map (λ (l : Line). l.entry) ls))

  named_more : (b : Bool) (a : Entry plain) (es : List (Entry plain)) → map (name_of plain) (cond b (a ∷ es) es) ≡ cond b (name_of plain a ∷ map (name_of plain) es) (map (name_of plain) es)
  named_more true a es = refl
  named_more false a es = refl

  same_named : (ls ms : List Line) → SameLines ls ms → named g ms ≡ named f ls
  same_named [] [] h = refl
  same_named [] (m ∷ ms) h = absurd h
  same_named (l ∷ ls) [] h = absurd h
  same_named (l ∷ ls) (m ∷ ms) h =
      let one : SameLine l m = h.0 in
      let rest : named g ms ≡ named f ls = same_named ls ms h.1 in
      named_more (is_cause g m.entry) m.entry (filter (is_cause g) (map (λ (x : Line). x.entry) ms))
      ∙ (λ i. cond (one.live i && same_meets l m one i) ((one.event i).name.0 ∷ rest i) (rest i))
      ∙ sym (named_more (is_cause f l.entry) l.entry (filter (is_cause f) (map (λ (x : Line). x.entry) ls)))

  backwards : (foot : Foot plain) (ls : List Line) → causes_of plain foot (entries_in ls) ≡ reverse (named foot ls)
  backwards foot ls =
      ap (map (name_of plain)) (filter-reverse (is_cause foot) (map (λ (l : Line). l.entry) ls))
      ∙ map-reverse (name_of plain) (filter (is_cause foot) (map (λ (l : Line). l.entry) ls))

  -- the causes go by the cells that are touched
  pub same_causes : (ls ms : List Line) → SameLines ls ms → causes_of plain g (entries_in ms) ≡ causes_of plain f (entries_in ls)
  same_causes ls ms h = backwards g ms ∙ ap reverse (same_named ls ms h) ∙ sym (backwards f ls)

-- ---- refusals

module _ {b c : Book} (h : SameBook b c) where
  same_full : full_refusal c ≡ full_refusal b
  same_full = λ i. refuse_where (nat_lt 4294967295 (h.next i) || nat_le MOST_ENTRIES (same_length b.journal c.journal h.journal i - h.settled i)) full

  same_arrival : (m : MsgId) → arrival_refusal c m ≡ arrival_refusal b m
  same_arrival m = λ i. first (arrival_refusal_by m (message_of (h.world i) m)) (same_full i)

  same_forward : (m : MsgId) → forward_refusal c m ≡ forward_refusal b m
  same_forward m = λ i.
      first (option_map (refusal_of m) (lost (h.world i) m))
      (first (onward_refusal (h.world i) (message_of (h.world i) m) (place_of (message_of (h.world i) m))) (same_full i))

  pub same_learning : (v : VatNo) (p : PromId) → learning_refusal c v p ≡ learning_refusal b v p
  same_learning v p = λ i. first (refuse_where (not (can_learn (h.world i) v p)) nothing_to_learn) (same_full i)

  pub same_move : (m : Move) → move_refusal c m ≡ move_refusal b m
  same_move (move.Arrive m) = same_arrival m
  same_move (move.Forward m) = same_forward m
  same_move (move.Learn v p) = same_learning v p

  pub same_checkout : (m : MsgId) (budget : ℕ) → checkout_refusal c m budget ≡ checkout_refusal b m budget
  same_checkout m budget = λ i.
      first (budget_refusal budget) (first (option_map (refusal_of m) (lost (h.world i) m))
      (first (refuse_where (message_out (message_of (h.world i) m) (h.out i)) vat_out)
      (first (option_map (refusal_of m) (early (h.world i) m)) (same_full i))))

  asked_by : (o : Option Vat) (x : Name) (program : Trees) → ask_refusal_by o c x program ≡ ask_refusal_by o b x program
  asked_by None x program = refl
  asked_by (Some v) x program = ap (first (check_refusal (checked_program program (asked_scopes v.earlier v.tops)))) same_full

  pub same_ask : (x : Name) (program : Trees) → ask_refusal c x program ≡ ask_refusal b x program
  same_ask x program = asked_by (vat_named c.world x) x program ∙ ap (λ (w : World). ask_refusal_by (vat_named w x) b x program) h.world

  pub same_birth : (x : Name) (earlier : List Name) (script : Trees) → birth_refusal c x earlier script ≡ birth_refusal b x earlier script
  same_birth x earlier script = λ i.
      first (taken_refusal x (vat_named (h.world i) x))
      (first (named_refusal (h.world i) earlier) (first (check_refusal (checked_program script (script_scopes earlier))) (same_full i)))

  learnt_by : (o : Option Vat) (x : Name) (p : PromId) → learn_refusal_by o c x p ≡ learn_refusal_by o b x p
  learnt_by None x p = refl
  learnt_by (Some v) x p = same_learning v.number p

  pub same_learn : (x : Name) (p : PromId) → learn_refusal c x p ≡ learn_refusal b x p
  same_learn x p = learnt_by (vat_named c.world x) x p ∙ ap (λ (w : World). learn_refusal_by (vat_named w x) b x p) h.world

  -- ---- what may be done first

  pub same_first : (o : Option Step) → FirstIn c o → FirstIn b o
  same_first o f = subst (λ (x : World × List Lent). First x.0 (λ v. has_vat v x.1) o) (λ i. (h.world i, h.out i)) f

  pub same_enabled : (found : List Step) → EnabledIn c found → EnabledIn b found
  same_enabled found f = subst (λ (x : World × List Lent). Enabled x.0 (λ v. has_vat v x.1) found) (λ i. (h.world i, h.out i)) f

  -- ---- the other way round

  pub same_book_back : SameBook c b
  same_book_back = record { world = sym h.world; settled = sym h.settled; next = sym h.next; out = sym h.out; journal = same_lines_back b.journal c.journal h.journal }
