-- One answer at most to a question, in books that are the same.
use Rattle.std.proofs.Common.{◌≡◌, ℕ, ◌+◌, ◌<◌, ◌≤◌, Bool, true, List, [], ◌∷◌, ◌++◌, length, map, cond, Option, Some, None, ⊎_elim, codes, refl, sym, ap, subst, ◌∙◌, arith}
use Rattle.std.specs.Prelude.{◌&&◌, ◌==◌, reverse, slice_get}
use Rattle.std.specs.Fmt.{decimal}
use Rattle.std.specs.Option.{option_or}
use Rattle.history.specs.Chains.{last_writer}
use Rattle.history.specs.Journal.{caused}
use Rattle.ids.specs.Names.{event_text}
use Rattle.ids.specs.declared.cells.CellKey.{CellKey}
use Rattle.ids.specs.declared.names.EventName.{EventName}
use Rattle.ids.specs.declared.names.MsgId.{MsgId}
use Rattle.world_cells.specs.World.{World, message}
use Rattle.journal.specs.Lines.{plain, Line}
use Rattle.journal.proofs.Reversed.{map-reverse}
use Rattle.book.specs.Books.{Book}
use Rattle.book.specs.Good.{NamesVatsOnce}
use Rattle.stepper_commands.specs.Commands as command
use Rattle.stepper_commands.specs.declared.numbers.ObjectName.{ObjectName}
use Rattle.stepper_printing.specs.Listing.{entry_line}
use Rattle.stepper_printing.specs.Show.{message_line, names_text}
use Rattle.stepper_printing.proofs.Listings.{lists_along}
use Rattle.stepper_questions.specs.Cells.{key_of, cell_cmp}
use Rattle.stepper_questions.specs.Chains.{Step, Chain, chain_none, chain_more, NoLater, Nearest}
use Rattle.stepper_questions.specs.Deliveries.{MessageTold, delivery_lines, message_refusal, unsent}
use Rattle.stepper_questions.specs.Events.{EventTold, told_lines}
use Rattle.stepper_questions.specs.Objects.{ObjectTold, NoObject, found_in, object_lines}
use Rattle.stepper_questions.specs.Refusals.{place_from, place_of, standing_at, standing_of, absent, settled, event_refusal, pair_refusal, unanswered_text}
use Rattle.stepper_questions.specs.Why.{step_text, is_by, crossed_with, first_crossed, Steps, steps_none, steps_more, Crossing, is_crossed, is_neither, Reason, is_chained, is_apart, ReasonBetween, in_order, turned, at_one, Why}
use Rattle.stepper_questions.specs.Writers.{Told, writer, told, Cells, first_cell}
use Rattle.stepper_questions.specs.contracts.cell.ToldCellOrd.TheImpl.Laws.{total-law}
use Rattle.stepper_questions.specs.declared.cell.ToldCell.{ToldCell}
use Rattle.stepper_questions.specs.declared.unanswered.Unanswered.{Unanswered}
use Rattle.stepper_questions.proofs.CellNames.{exact_cells}
use Rattle.stepper.specs.Replies.{refused, Answers, why_without_memory, why_refused, why_told, event_without_memory, event_refused, event_told, message_without_memory, message_refused, message_told, object_without_memory, object_refused, object_told}
use Rattle.stepper.specs.Laws.{SameLine, SameLines, SameBook, IsForWant, book_without_memory, SameAnswer}
use Rattle.stepper.specs.declared.engine.Limits.{Limits}
use Rattle.stepper.proofs.OneMove.{answer_once}
use Rattle.stepper.proofs.OneText.{lists_once, one_number, births_once}
use Rattle.stepper.proofs.SameChanges.{same_born}
use Rattle.stepper.proofs.SameLines.{same_by, same_lines_back, same_reverse, same_told, SameOption, same_get}

-- ---- lines that tell the same keep the same of cells

module _ (ls ms : List Line) (h : SameLines ls ms) where
  same_from : (e : EventName) (n : ℕ) → place_from n ms e ≡ place_from n ls e
  same_from e = same_by (λ xs ys. (n : ℕ) → place_from n ys e ≡ place_from n xs e) (λ n. refl) (λ l m xs ys one rest more n. λ i. cond (((one.event i).name).0 == e.0) (Some n) (more (n + 1) i)) ls ms h

  same_place : (e : EventName) → place_of ms e ≡ place_of ls e
  same_place e = same_from e 0

  same_standing : (n : ℕ) (e : EventName) → standing_of n ms e ≡ standing_of n ls e
  same_standing n e = ap (standing_at n) (same_place e)

  same_event : (n : ℕ) (e : EventName) → event_refusal n ms e ≡ event_refusal n ls e
  same_event n e = λ i. option_or (absent (same_standing n e i) e) (settled (same_standing n e i) e)

  same_pair : (n : ℕ) (e f : EventName) → pair_refusal n ms e f ≡ pair_refusal n ls e f
  same_pair n e f = λ i.
      option_or (absent (same_standing n e i) e) (option_or (absent (same_standing n f i) f)
      (option_or (settled (same_standing n e i) e) (settled (same_standing n f i) f)))

  -- the last writer among entries
  same_last : (l m : Line) → SameLine l m → (k : CellKey) → (xs ys : List Line) → SameLines xs ys
      → last_writer plain k (caused plain m.entry) (map (λ (z : Line). z.entry) ys) ≡ last_writer plain k (caused plain l.entry) (map (λ (z : Line). z.entry) xs)
  same_last l m one k =
      same_by (λ xs ys. last_writer plain k (caused plain m.entry) (map (λ (z : Line). z.entry) ys) ≡ last_writer plain k (caused plain l.entry) (map (λ (z : Line). z.entry) xs)) refl
      (λ x y xs ys also rest more. λ i. cond (caused plain (same_told one i).entry (same_told also i).entry && also.written k i) (Some ((also.event i).name.0)) (more i))

  same_writer : (l m : Line) → SameLine l m → (k : CellKey) → writer ms m.entry k ≡ writer ls l.entry k
  same_writer l m one k =
      ap (last_writer plain k (caused plain m.entry)) (sym (map-reverse (λ (z : Line). z.entry) ms))
      ∙ same_last l m one k (reverse ls) (reverse ms) (same_reverse ls ms h)
      ∙ ap (last_writer plain k (caused plain l.entry)) (map-reverse (λ (z : Line). z.entry) ls)

  same_cell : (l m : Line) → SameLine l m → (k : CellKey) → told ms m.entry k ≡ told ls l.entry k
  same_cell l m one k = λ i. cond (one.touched k i) (Some (record { writer = same_writer l m one k i; written = one.written k i })) None

  one_cells : (l m : Line) → SameLine l m → {cells others : List (ToldCell × Told)} → Cells ls l.entry cells → Cells ms m.entry others → others ≡ cells
  one_cells l m one {others = others} a b =
      lists_once total-law exact_cells a (lists_along cell_cmp (λ c. told ms m.entry (key_of c)) (λ c. told ls l.entry (key_of c)) others (λ c. same_cell l m one (key_of c)) b)

  -- the lines at a place
  same_at : (p : ℕ) (l m : Line) → slice_get ls p ≡ Some l → slice_get ms p ≡ Some m → SameLine l m
  same_at p l m at there = subst (λ (z : Option Line × Option Line). SameOption z.0 z.1) (λ i. (at i, there i)) (same_get p ls ms h)

  line_there : (p : ℕ) (m : Line) → slice_get ms p ≡ Some m → (l : Line) × (slice_get ls p ≡ Some l)
  line_there p m there = by (slice_get ls p) refl (subst (λ (o : Option Line). SameOption (slice_get ls p) o) there (same_get p ls ms h))
    where
      by : (o : Option Line) → slice_get ls p ≡ o → SameOption (slice_get ls p) (Some m) → (l : Line) × (slice_get ls p ≡ Some l)
      by None at one = absurd (subst (λ (o : Option Line). SameOption o (Some m)) at one)
      by (Some l) at one = (l, at)

  -- ---- chains

  step_back : (p : ℕ) (k : CellKey) (q : ℕ) → Step ms p k q → Step ls p k q
  step_back p k q s =
      let a = line_there p s.from s.starts in
      let b = line_there q s.to s.ends in
      let also : SameLine a.0 s.from = same_at p a.0 s.from a.1 s.starts in
      let one : SameLine b.0 s.to = same_at q b.0 s.to b.1 s.ends in
      let from : Some ((s.from).entry.event.name.0) ≡ Some ((a.0).entry.event.name.0) = λ i. Some ((also.event i).name.0) in
      record { from = a.0; to = b.0; starts = a.1; ends = b.1; touched = sym (one.touched k) ∙ s.touched; by = sym (same_writer b.0 s.to one k) ∙ s.by ∙ from }

  chain_back : {s : ℕ} {ps : List ℕ} → Chain ms s ps → Chain ls s ps
  chain_back chain_none = chain_none
  chain_back (chain_more {p = p} {q = q} k c step) = chain_more k (chain_back c) (step_back p k q step)

-- rows of places that differ nowhere
no_later_both : (ps qs : List ℕ) → length qs ≡ length ps → NoLater qs ps → NoLater ps qs → qs ≡ ps
no_later_both [] [] e a b = refl
no_later_both [] (q ∷ qs) e a b = absurd (omega arith)
no_later_both (p ∷ ps) [] e a b = absurd (omega arith)
no_later_both (p ∷ ps) (q ∷ qs) e a b =
    ⊎_elim (λ (lt : q < p). ⊎_elim (λ (gt : p < q). absurd (omega arith)) (λ (g : (p ≡ q) × NoLater ps qs). let same : p ≡ q = g.0 in absurd (omega arith)) b)
    (λ (t : (q ≡ p) × NoLater qs ps). ⊎_elim (λ (gt : p < q). let same : q ≡ p = t.0 in absurd (omega arith)) (λ (g : (p ≡ q) × NoLater ps qs).
    let rest : qs ≡ ps = no_later_both ps qs (omega arith) t.1 g.1 in λ i. t.0 i ∷ rest i) b) a

module _ (ls ms : List Line) (h : SameLines ls ms) where
  chain_on : {s : ℕ} {ps : List ℕ} → Chain ls s ps → Chain ms s ps
  chain_on c = chain_back ms ls (same_lines_back ls ms h) c

  nearest_once : {s l : ℕ} {ps qs : List ℕ} → Nearest ls s l ps → Nearest ms s l qs → qs ≡ ps
  nearest_once {ps = ps} {qs = qs} a b =
      let low : length ps ≤ length qs = a.least qs (chain_back ls ms h b.chain) in
      let high : length qs ≤ length ps = b.least ps (chain_on a.chain) in
      let many : length qs ≡ length ps = omega arith in
      no_later_both ps qs many (a.nearest qs (chain_back ls ms h b.chain) many) (b.nearest ps (chain_on a.chain) (sym many))

  -- the first cell by which an event leads to another
  one_first : (a b : Line) → SameLine a b → (cells others : List (ToldCell × Told)) → others ≡ cells → (c d : ToldCell) → first_cell (is_by (a.entry.event.name)) cells ≡ Some c → first_cell (is_by (b.entry.event.name)) others ≡ Some d → d ≡ c
  one_first a b one cells others same c d first also =
      let both : first_cell (is_by (b.entry.event.name)) others ≡ first_cell (is_by (a.entry.event.name)) cells = λ i. first_cell (is_by ((one.event i).name)) (same i) in cc

  steps_once : {ps t u : List ℕ} → Steps ls ps t → Steps ms ps u → u ≡ t
  steps_once steps_none steps_none = refl
  steps_once (steps_more {p = p} {q = q} {a = a} {b = b} {cells = cells} {c = c} w at there listed first) (steps_more {a = x} {b = y} {cells = others} {c = d} v at' there' listed' first') =
      let also = same_at ls ms h p a x at at' in
      let one = same_at ls ms h q b y there there' in
      let same : others ≡ cells = one_cells ls ms h b y one listed listed' in
      let cell : d ≡ c = one_first a x also cells others same c d first first' in
      let rest = steps_once w v in λ i. rest i ++ step_text ((also.event i).name) ((one.event i).name) (cell i)

  -- where entries cross
  one_crossed : (a x : Line) → SameLine a x → (cells others : List (ToldCell × Told)) → others ≡ cells → first_crossed ms x.entry others ≡ first_crossed ls a.entry cells
  one_crossed a x also cells others same = λ i. first_cell (λ c t. crossed_with (same_cell ls ms h a x also (key_of c) i) t) (same i)

  crossing_once : {s l : ℕ} {t u : List ℕ} → Crossing ls s l t → Crossing ms s l u → u ≡ t
  crossing_once {s = s} {l = l} (is_crossed {a = a} {b = b} {cells = cells} {c = c} at there listed first) (is_crossed {a = x} {b = y} {cells = others} {c = d} at' there' listed' first') =
      let also = same_at ls ms h s a x at at' in
      let one = same_at ls ms h l b y there there' in
      let cross = one_crossed a x also cells others (one_cells ls ms h b y one listed listed') in
      let cell : d ≡ c = cc in λ i. codes "crossed\n" ++ step_text ((also.event i).name) ((one.event i).name) (cell i)
  crossing_once {s = s} {l = l} (is_crossed {a = a} {b = b} {cells = cells} {c = c} at there listed first) (is_neither {a = x} {b = y} {cells = others} at' there' listed' first') =
      let cross = one_crossed a x (same_at ls ms h s a x at at') cells others (one_cells ls ms h b y (same_at ls ms h l b y there there') listed listed') in absurd (cc)
  crossing_once {s = s} {l = l} (is_neither {a = a} {b = b} {cells = cells} at there listed first) (is_crossed {a = x} {b = y} {cells = others} {c = d} at' there' listed' first') =
      let cross = one_crossed a x (same_at ls ms h s a x at at') cells others (one_cells ls ms h b y (same_at ls ms h l b y there there') listed listed') in absurd (cc)
  crossing_once (is_neither at there listed first) (is_neither at' there' listed' first') = refl

  reason_once : {s l : ℕ} {t u : List ℕ} → Reason ls s l t → Reason ms s l u → u ≡ t
  reason_once {l = l} (is_chained {ps = ps} {text = text} near steps) (is_chained {ps = qs} {text = other} near' steps') =
      let same : qs ≡ ps = nearest_once near near' in
      let lines : other ≡ text = steps_once steps (subst (λ (xs : List ℕ). Steps ms (l ∷ xs) other) same steps') in λ i. decimal (length (same i)) ++ (10 ∷ lines i)
  reason_once (is_chained {ps = ps} near steps) (is_apart none crossing) = absurd (none ps (chain_on near.chain))
  reason_once (is_apart none crossing) (is_chained {ps = qs} near steps) = absurd (none qs (chain_back ls ms h near.chain))
  reason_once (is_apart none crossing) (is_apart none' crossing') = crossing_once crossing crossing'

  between_once : {p q : ℕ} {t u : List ℕ} → ReasonBetween ls p q t → ReasonBetween ms p q u → u ≡ t
  between_once (in_order lt r) (in_order lt' r') = reason_once r r'
  between_once (in_order lt r) (turned gt r') = absurd (omega arith)
  between_once (in_order lt r) (at_one e is) = absurd (omega arith)
  between_once (turned gt r) (in_order lt r') = absurd (omega arith)
  between_once (turned gt r) (turned gt' r') = reason_once r r'
  between_once (turned gt r) (at_one e is) = absurd (omega arith)
  between_once (at_one e is) (in_order lt r') = absurd (omega arith)
  between_once (at_one e is) (turned gt r') = absurd (omega arith)
  between_once (at_one e is) (at_one e' is') = is' ∙ sym is

  -- ---- what is told of the journal

  one_place : (e : EventName) (p q : ℕ) → place_of ls e ≡ Some p → place_of ms e ≡ Some q → q ≡ p
  one_place e p q a b = let same = same_place ls ms h e in cc

  why_once : {e f : EventName} {t u : List ℕ} → Why ls e f t → Why ms e f u → u ≡ t
  why_once {e = e} {f = f} a b =
      let first : b.p ≡ a.p = one_place e a.p b.p a.first b.first in
      let second : b.q ≡ a.q = one_place f a.q b.q a.second b.second in
      let reason : b.reason ≡ a.reason = between_once a.between (subst (λ n. ReasonBetween ms a.p n b.reason) second (subst (λ n. ReasonBetween ms n b.q b.reason) first b.between)) in
      b.whole ∙ ap (λ r. codes "why " ++ (event_text e ++ (codes " " ++ (event_text f ++ (codes " " ++ r))))) reason ∙ sym a.whole

  event_once : {e : EventName} {t u : List ℕ} → EventTold ls e t → EventTold ms e u → u ≡ t
  event_once {e = e} a b =
      let place : b.p ≡ a.p = one_place e a.p b.p a.place b.place in
      let there : slice_get ms a.p ≡ Some b.l = ap (slice_get ms) (sym place) ∙ b.at in
      let one : SameLine a.l b.l = same_at ls ms h a.p a.l b.l a.at there in
      let cells : b.cells ≡ a.cells = one_cells ls ms h a.l b.l one a.touched b.touched in
      b.whole ∙ (λ i. entry_line (λ v. same_born ls ms h v None i) (place i + 1) (same_told one i) ++ told_lines (cells i)) ∙ sym a.whole

-- ---- what is told of the world

message_once : {w : World} {m : MsgId} {t u : List ℕ} → NamesVatsOnce w → MessageTold w m t → MessageTold w m u → u ≡ t
message_once {w = w} {m = m} once a b =
    let is : Some a.g ≡ Some b.g = sym a.there ∙ b.there in
    let same : b.g ≡ a.g = cc in
    let vats : b.vats ≡ a.vats = births_once (one_number w once) a.vats b.vats a.vats_listed b.vats_listed in
    b.whole ∙ (λ i. message_line (vats i) (m, message (same i)) ++ (codes " after" ++ (names_text ((same i).after) ++ (10 ∷ delivery_lines ((same i).delivery))))) ∙ sym a.whole

-- a message that is there is not refused
message_is_there : {A : Type 0} {w : World} {m : MsgId} {t : List ℕ} {fault : Unanswered} → MessageTold w m t → message_refusal w m ≡ Some fault → A
message_is_there {m = m} a is = let none = ap (unsent m) a.there in absurd (cc)

object_once : {w : World} {e : EventName} {n : ℕ} {t u : List ℕ} → NamesVatsOnce w → ObjectTold w e n t → ObjectTold w e n u → u ≡ t
object_once {w = w} {e = e} {n = n} once a b =
    let vats : b.vats ≡ a.vats = births_once (one_number w once) a.vats b.vats a.vats_listed b.vats_listed in
    let is : Some b.found ≡ Some a.found = sym b.is_there ∙ ap (found_in w e n) vats ∙ a.is_there in
    let same : b.found ≡ a.found = cc in
    b.whole ∙ ap (object_lines e n) same ∙ sym a.whole

object_is_there : {A : Type 0} {w : World} {e : EventName} {n : ℕ} {t : List ℕ} → NamesVatsOnce w → ObjectTold w e n t → NoObject w e n → A
object_is_there {w = w} {e = e} {n = n} once a b =
    let vats : b.vats ≡ a.vats = births_once (one_number w once) a.vats b.vats a.vats_listed b.vats_listed in
    let is : None ≡ Some a.found = sym b.not_there ∙ ap (found_in w e n) vats ∙ a.is_there in
    absurd (cc)

-- ---- the four questions

unanswered_once : {o p : Option Unanswered} {r s : Unanswered} {b c : Book} → SameBook b c → p ≡ o → o ≡ Some r → p ≡ Some s → SameAnswer (refused (unanswered_text r)) true b (refused (unanswered_text s)) true c
unanswered_once {r = r} {s = s} same alike h k = let one : s ≡ r = cc in answer_once (ap (λ z. refused (unanswered_text z)) one) same

not_told : {A : Type 0} {o p : Option Unanswered} {r : Unanswered} → p ≡ o → o ≡ Some r → p ≡ None → A
not_told alike h k = absurd (cc)

not_unanswered : {A : Type 0} {o p : Option Unanswered} {r : Unanswered} → p ≡ o → o ≡ None → p ≡ Some r → A
not_unanswered alike h k = absurd (cc)

module _ {b c : Book} (same : SameBook b c) where
  pair_alike : (e f : EventName) → pair_refusal c.settled c.journal e f ≡ pair_refusal b.settled b.journal e f
  pair_alike e f = ap (λ n. pair_refusal n c.journal e f) same.settled ∙ same_pair b.journal c.journal same.journal b.settled e f

  event_alike : (e : EventName) → event_refusal c.settled c.journal e ≡ event_refusal b.settled b.journal e
  event_alike e = ap (λ n. event_refusal n c.journal e) same.settled ∙ same_event b.journal c.journal same.journal b.settled e

pub one_why : {limits : Limits} {b c d e : Book} {x y : EventName} {r t : List ℕ} {q p : Bool} → SameBook b c → Answers limits b (command.why x y) r q d → Answers limits c (command.why x y) t p e
    → ¬ IsForWant r → ¬ IsForWant t → SameAnswer r q d t p e
one_why same why_without_memory k n m = absurd (n book_without_memory)
one_why same h why_without_memory n m = absurd (m book_without_memory)
one_why {x = x} {y = y} same (why_refused h) (why_refused k) n m = unanswered_once same (pair_alike same x y) h k
one_why {x = x} {y = y} same (why_refused h) (why_told k w) n m = not_told (pair_alike same x y) h k
one_why {x = x} {y = y} same (why_told h v) (why_refused k) n m = not_unanswered (pair_alike same x y) h k
one_why {b = b} {c = c} same (why_told h v) (why_told k w) n m = answer_once (why_once b.journal c.journal same.journal v w) same

pub one_event : {limits : Limits} {b c d e : Book} {x : EventName} {r t : List ℕ} {q p : Bool} → SameBook b c → Answers limits b (command.event x) r q d → Answers limits c (command.event x) t p e
    → ¬ IsForWant r → ¬ IsForWant t → SameAnswer r q d t p e
one_event same event_without_memory k n m = absurd (n book_without_memory)
one_event same h event_without_memory n m = absurd (m book_without_memory)
one_event {x = x} same (event_refused h) (event_refused k) n m = unanswered_once same (event_alike same x) h k
one_event {x = x} same (event_refused h) (event_told k w) n m = not_told (event_alike same x) h k
one_event {x = x} same (event_told h v) (event_refused k) n m = not_unanswered (event_alike same x) h k
one_event {b = b} {c = c} same (event_told h v) (event_told k w) n m = answer_once (event_once b.journal c.journal same.journal v w) same

pub one_message : {limits : Limits} {b c d e : Book} {x : MsgId} {r t : List ℕ} {q p : Bool} → NamesVatsOnce b.world → SameBook b c → Answers limits b (command.message x) r q d → Answers limits c (command.message x) t p e
    → ¬ IsForWant r → ¬ IsForWant t → SameAnswer r q d t p e
one_message once same message_without_memory k n m = absurd (n book_without_memory)
one_message once same h message_without_memory n m = absurd (m book_without_memory)
one_message {x = x} once same (message_refused h) (message_refused k) n m = unanswered_once same (λ i. message_refusal (same.world i) x) h k
one_message {x = x} once same (message_refused h) (message_told {text = text} k) n m = message_is_there (subst (λ (w : World). MessageTold w x text) same.world k) h
one_message {b = b} {c = c} {x = x} once same (message_told {text = text} h) (message_refused k) n m = message_is_there h (sym (λ i. message_refusal (same.world i) x) ∙ k)
one_message {x = x} once same (message_told h) (message_told {text = text} k) n m = answer_once (message_once once h (subst (λ (w : World). MessageTold w x text) same.world k)) same

pub one_object : {limits : Limits} {b c d e : Book} {x : ObjectName} {r t : List ℕ} {q p : Bool} → NamesVatsOnce b.world → SameBook b c → Answers limits b (command.object x) r q d → Answers limits c (command.object x) t p e
    → ¬ IsForWant r → ¬ IsForWant t → SameAnswer r q d t p e
one_object once same object_without_memory k n m = absurd (n book_without_memory)
one_object once same h object_without_memory n m = absurd (m book_without_memory)
one_object once same (object_refused h) (object_refused k) n m = answer_once refl same
one_object {x = x} once same (object_refused h) (object_told {text = text} k) n m = object_is_there once (subst (λ (w : World). ObjectTold w x.event x.index text) same.world k) h
one_object {x = x} once same (object_told h) (object_refused k) n m = object_is_there once h (subst (λ (w : World). NoObject w x.event x.index) same.world k)
one_object {x = x} once same (object_told h) (object_told {text = text} k) n m = answer_once (object_once once h (subst (λ (w : World). ObjectTold w x.event x.index text) same.world k)) same
