-- Lines that tell the same are told by the same texts, and stay so when some are undone, made live again, or change places.
use Rattle.std.proofs.Common.{◌≡◌, ℕ, zero, suc, ◌+◌, List, [], ◌∷◌, ◌++◌, drop, Option, Some, None, map, refl, sym, ap, ap₂, ◌∙◌}
use Rattle.std.specs.Prelude.{slice_get}
use Rattle.std.specs.Option.{option_map}
use Rattle.history.specs.Journal.{caused}
use Rattle.ids.specs.declared.names.EventName.{EventName}
use Rattle.ids.specs.declared.names.VatNo.{VatNo}
use Rattle.kernele.specs.Tree.{Name}
use Rattle.world_cells.specs.Events.{Noted, event_in}
use Rattle.journal.specs.Items.{exchanged}
use Rattle.journal.specs.Lines.{plain, Line, in_order}
use Rattle.causality.specs.Selections.{name_of, is_live, chosen}
use Rattle.book_refusals.specs.Checks.{StoodAt}
use Rattle.book.specs.Calls.{undone, undone_in, redone, redone_in, live_events, rest_of}
use Rattle.causewaylog.specs.Turns.{live_in}
use Rattle.stepper_printing.specs.Listing.{born_as, born_among, born, entry_line, entry_lines, base_text, journal_text}
use Rattle.stepper.specs.Replies.{count_of}
use Rattle.stepper.specs.Laws.{SameLine, SameLines}
use Rattle.stepper.proofs.SameLines.{same_by, same_told, same_length, same_map, same_filter, same_drop, SameOption, same_get}

-- ---- texts

module _ (ls ms : List Line) (h : SameLines ls ms) where
  pub same_live_in : live_in ms ≡ live_in ls
  same_live_in = same_map _ _ (λ l m one. one.event) _ _ (same_filter is_live is_live (λ l m one. one.live) ls ms h)

  pub same_count : (names : List EventName) → count_of names ms ≡ count_of names ls
  same_count names = same_length _ _ (same_filter (chosen names) (chosen names) (λ l m one. ap (chosen names) (same_told one)) ls ms h)

  pub same_born : (v : VatNo) (known : Option Name) → born_among ms v known ≡ born_among ls v known
  same_born v = same_by (λ xs ys. (known : Option Name) → born_among ys v known ≡ born_among xs v known) (λ known. refl)
      (λ l m xs ys one rest more known. more (born_as v (event_in m.entry.event) known) ∙ ap (λ (e : Noted). born_among xs v (born_as v (event_in e) known)) one.event) ls ms h

  same_entries : (names : VatNo → Option Name) (position : ℕ) → entry_lines names position ms ≡ entry_lines names position ls
  same_entries names = same_by (λ xs ys. (position : ℕ) → entry_lines names position ys ≡ entry_lines names position xs) (λ position. refl)
      (λ l m xs ys one rest more position. λ i. entry_line names position (same_told one i) ++ more (position + 1) i) ls ms h

pub same_journal : (settled : ℕ) (ls ms : List Line) → SameLines ls ms → journal_text settled ms ≡ journal_text settled ls
same_journal settled ls ms h =
    ap (λ (names : VatNo → Option Name). base_text settled ++ entry_lines names (settled + 1) (drop settled ms)) (λ i v. same_born ls ms h v None i)
    ∙ ap (λ lines. base_text settled ++ lines) (same_entries (drop settled ls) (drop settled ms) (same_drop settled ls ms h) (born ls) (settled + 1))

-- ---- undone, and live again

module _ (names : List EventName) where
  undone_line : (l m : Line) → SameLine l m → SameLine (undone names l) (undone names m)
  undone_line l m one = record { event = one.event; seat = one.seat; live = ap (λ z. (undone names z).entry.live) (same_told one); causes = one.causes; touched = one.touched; written = one.written }

  redone_line : (l m : Line) → SameLine l m → SameLine (redone names l) (redone names m)
  redone_line l m one = record { event = one.event; seat = one.seat; live = ap (λ z. (redone names z).entry.live) (same_told one); causes = one.causes; touched = one.touched; written = one.written }

  pub same_undone_in : (ls ms : List Line) → SameLines ls ms → SameLines (undone_in names ls) (undone_in names ms)
  same_undone_in = same_by (λ ls ms. SameLines (undone_in names ls) (undone_in names ms)) tt (λ l m ls ms one rest more. (undone_line l m one, more))

  pub same_redone_in : (ls ms : List Line) → SameLines ls ms → SameLines (redone_in names ls) (redone_in names ms)
  same_redone_in = same_by (λ ls ms. SameLines (redone_in names ls) (redone_in names ms)) tt (λ l m ls ms one rest more. (redone_line l m one, more))

  pub same_rest : (ls ms : List Line) → SameLines ls ms → rest_of names ms ≡ rest_of names ls
  same_rest ls ms h = same_map _ _ (λ l m one. ap event_in one.event) _ _ (same_filter _ _ (λ l m one. ap (λ z. (undone names z).entry.live) (same_told one)) ls ms h)

pub same_live_events : (ls ms : List Line) → SameLines ls ms → live_events ms ≡ live_events ls
same_live_events ls ms h = same_map _ _ (λ l m one. ap event_in one.event) _ _ (same_filter is_live is_live (λ l m one. one.live) ls ms h)

-- ---- changed in places

same_exchanged : (n : ℕ) (ls ms : List Line) → SameLines ls ms → SameLines (exchanged n ls) (exchanged n ms)
same_exchanged n [] [] h = tt
same_exchanged n [] (m ∷ ms) h = absurd h
same_exchanged n (l ∷ ls) [] h = absurd h
same_exchanged n (l ∷ []) (m ∷ []) h = h
same_exchanged n (l ∷ []) (m ∷ y ∷ ms) h = absurd h.1
same_exchanged n (l ∷ x ∷ ls) (m ∷ []) h = absurd h.1
same_exchanged zero (l ∷ x ∷ ls) (m ∷ y ∷ ms) h = (h.1.0, (h.0, h.1.1))
same_exchanged (suc n) (l ∷ x ∷ ls) (m ∷ y ∷ ms) h = (h.0, same_exchanged n (x ∷ ls) (y ∷ ms) h.1)

-- with the causes in the order of lines that tell the same
module _ (xs ys : List Line) (all : SameLines xs ys) where
  ordered_line : (l m : Line) → SameLine l m → SameLine (in_order xs l) (in_order ys m)
  ordered_line l m one = record {
    event = one.event;
    seat = one.seat;
    live = one.live;
    causes = same_map _ _ (λ a b also. ap (λ (z : Line). z.entry.event.name.0) (same_told also)) _ _
        (same_filter _ _ (λ a b also. ap₂ (λ (y z : Line). caused plain y.entry z.entry) (same_told one) (same_told also)) xs ys all);
    touched = one.touched;
    written = one.written;
  }

  same_ordered : (ls ms : List Line) → SameLines ls ms → SameLines (map (in_order xs) ls) (map (in_order ys) ms)
  same_ordered = same_by (λ ls ms. SameLines (map (in_order xs) ls) (map (in_order ys) ms)) tt (λ l m ls ms one rest more. (ordered_line l m one, more))

pub same_places : (n : ℕ) (ls ms : List Line) → SameLines ls ms → SameLines (map (in_order (exchanged n ls)) (exchanged n ls)) (map (in_order (exchanged n ms)) (exchanged n ms))
same_places n ls ms h = let all = same_exchanged n ls ms h in same_ordered (exchanged n ls) (exchanged n ms) all (exchanged n ls) (exchanged n ms) all

pub same_stood : (position : ℕ) (ls ms : List Line) (e f : EventName) → SameLines ls ms → StoodAt position ms e f → StoodAt position ls e f
same_stood position ls ms e f h stood n at = (sym (name_at n) ∙ (stood n at).0, sym (name_at (n + 1)) ∙ (stood n at).1)
  where
    by : (o p : Option Line) → SameOption o p → option_map name_of p ≡ option_map name_of o
    by None None one = refl
    by None (Some m) one = absurd one
    by (Some l) None one = absurd one
    by (Some l) (Some m) one = λ i. Some ((one.event i).name)

    name_at : (n : ℕ) → option_map name_of (slice_get ms n) ≡ option_map name_of (slice_get ls n)
    name_at n = by (slice_get ls n) (slice_get ms n) (same_get n ls ms h)
