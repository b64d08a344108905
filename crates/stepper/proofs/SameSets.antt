-- Lines that tell the same refuse the same: an undo, a redo, a cone, an exchange and a settling; and they have the same cones.
use Rattle.std.proofs.Common.{◌≡◌, ℕ, zero, suc, true, List, [], ◌∷◌, ◌++◌, take, Option, Some, None, map, filter, refl, sym, ap, ap₂, subst, ◌∙◌, cond}
use Rattle.std.specs.Prelude.{◌&&◌, ◌||◌, ◌==◌, not, reverse, slice_get}
use Rattle.std.specs.List.{AllByRecursion}
use Rattle.std.specs.Option.{option_map, option_or}
use Rattle.history.specs.Journal.{caused, live_set, Closed}
use Rattle.ids.specs.declared.names.EventName.{EventName}
use Rattle.journal.specs.Lines.{plain, Line}
use Rattle.journal.specs.declared.entry.Mark.TheVariants as mark
use Rattle.journal.proofs.Reversed.{map-reverse}
use Rattle.causality.specs.Selections.{name_of, is_live, among, chosen, is_entered, least, first_settled, has_mark, first_marked, gap, consequence, first_gap, is_member, missing_cause, first_missing_cause, crossing, first_crossing_behind}
use Rattle.causality.specs.Exact.{ClosedIn, Cone}
use Rattle.book_refusals.specs.Refusals.{Refusal, first, refuse_where, no_event, is_settled, not_live, still_live, not_closed, crossed, cause_missing, dependent}
use Rattle.book_refusals.specs.Checks.{gap_refusal, undo_refusal, redo_refusal, cone_refusal, neighbours_by, settled_at, undone_neighbour, dependent_neighbour, exchange_refusal, first_undone, settle_refusal_by, settle_refusal}
use Rattle.stepper.specs.Laws.{SameLine, SameLines}
use Rattle.stepper.proofs.SameBooks.{same_meets}
use Rattle.stepper.proofs.SameLines.{same_by, lines_more, same_lines_back, same_reverse, same_told, Alike, same_map, same_any, same_some, same_first_name, same_all, same_filter, same_take, SameOption, same_get}

-- ---- gaps

module _ (names : List EventName) where
  pub same_chosen : Alike (chosen names) (chosen names)
  same_chosen l m one = ap (chosen names) (same_told one)

  same_member : Alike (is_member names) (is_member names)
  same_member l m one = ap (is_member names) (same_told one)

  -- of lines around a line
  module _ (ls ms : List Line) (h : SameLines ls ms) where
    same_entered : (e : EventName) → is_entered ms e ≡ is_entered ls e
    same_entered e = same_any _ _ (λ l m one. ap (λ (z : Line). (name_of z).0 == e.0) (same_told one)) ls ms h

    same_missing : least (filter (λ e. not (is_entered ms e)) names) ≡ least (filter (λ e. not (is_entered ls e)) names)
    same_missing = λ i. least (filter (λ e. not (same_entered e i)) names)

    same_settled : (n : ℕ) → first_settled names n ms ≡ first_settled names n ls
    same_settled n = same_first_name _ _ same_chosen (take n ls) (take n ms) (same_take n ls ms h)

    same_undone : first_marked mark.Undone names ms ≡ first_marked mark.Undone names ls
    same_undone = same_first_name _ _ (λ l m one. ap (λ z. chosen names z && has_mark mark.Undone z) (same_told one)) ls ms h

    same_live : first_marked mark.Live names ms ≡ first_marked mark.Live names ls
    same_live = same_first_name _ _ (λ l m one. ap (λ z. chosen names z && has_mark mark.Live z) (same_told one)) ls ms h

    same_consequence : (l m : Line) → SameLine l m → consequence names ms m ≡ consequence names ls l
    same_consequence l m one = same_first_name _ _ (λ x y also. ap₂ (λ a b. is_live a && (not (chosen names a) && caused plain a.entry b.entry)) (same_told also) (same_told one)) ls ms h

    same_gap : first_gap names ms ≡ first_gap names ls
    same_gap = same_some _ _ (λ l m one. λ i. cond (same_chosen l m one i) (option_map (gap ((one.event i).name)) (same_consequence l m one i)) None) ls ms h

    same_missing_cause : (l m : Line) → SameLine l m → missing_cause names ms m ≡ missing_cause names ls l
    same_missing_cause l m one = same_first_name _ _ (λ x y also. ap₂ (λ a b. caused plain b.entry a.entry && not (is_member names a)) (same_told also) (same_told one)) ls ms h

    same_first_missing : first_missing_cause names ms ≡ first_missing_cause names ls
    same_first_missing = same_some _ _ (λ l m one. λ i. cond (same_member l m one i) (option_map (gap ((one.event i).name)) (same_missing_cause l m one i)) None) ls ms h

    -- the lines before a line cross it alike: they wrote the same cells, and it touches the same
    same_crossing : (l m : Line) → SameLine l m → crossing names ms m ≡ crossing names ls l
    same_crossing l m one = same_first_name _ _ (λ x y also. λ i.
        same_member x y also i && (same_meets l.entry.foot m.entry.foot one.touched x y also i && not (caused plain (same_told one i).entry (same_told also i).entry))) ls ms h

  same_crossing_behind : (ls ms : List Line) → SameLines ls ms → (xs ys : List Line) → SameLines xs ys → first_crossing_behind names ys ms ≡ first_crossing_behind names xs ls
  same_crossing_behind = same_by (λ ls ms. (xs ys : List Line) → SameLines xs ys → first_crossing_behind names ys ms ≡ first_crossing_behind names xs ls) (λ xs ys h. refl) (λ l m ls ms one rest more xs ys h. λ i.
      option_or (cond (same_member l m one i) (option_map (gap ((one.event i).name)) (same_crossing xs ys h l m one i)) None) (more (xs ++ l ∷ []) (ys ++ m ∷ []) (lines_more xs ys l m h one) i))

-- ---- refusals of sets

module _ (n : ℕ) (ls ms : List Line) (h : SameLines ls ms) where
  pub same_undo : (names : List EventName) → undo_refusal n ms names ≡ undo_refusal n ls names
  same_undo names = λ i.
      first (first (option_map no_event (same_missing names ls ms h i)) (option_map is_settled (same_settled names ls ms h n i)))
      (first (option_map not_live (same_undone names ls ms h i)) (option_map (gap_refusal not_closed) (same_gap names ls ms h i)))

  pub same_redo : (names : List EventName) → redo_refusal n ms names ≡ redo_refusal n ls names
  same_redo names = λ i.
      first (first (option_map no_event (same_missing names ls ms h i)) (option_map is_settled (same_settled names ls ms h n i)))
      (first (option_map still_live (same_live names ls ms h i))
      (first (option_map (gap_refusal cause_missing) (same_first_missing names ls ms h i)) (option_map (gap_refusal crossed) (same_crossing_behind names ls ms h [] [] tt i))))

  pub same_cone : (e : EventName) → cone_refusal n ms e ≡ cone_refusal n ls e
  same_cone e = λ i.
      first (first (option_map no_event (same_missing (e ∷ []) ls ms h i)) (option_map is_settled (same_settled (e ∷ []) ls ms h n i)))
      (option_map not_live (same_undone (e ∷ []) ls ms h i))

  -- ---- refusals at a place

  same_neighbours : (test : Line → Line → Option Refusal) → ((l m x y : Line) → SameLine l m → SameLine x y → test m y ≡ test l x) → (p : ℕ) (a b c d : Option Line) → SameOption a c → SameOption b d → neighbours_by test p c d ≡ neighbours_by test p a b
  same_neighbours test alike p None b None d f g = refl
  same_neighbours test alike p None b (Some m) d f g = absurd f
  same_neighbours test alike p (Some l) b None d f g = absurd f
  same_neighbours test alike p (Some l) None (Some m) None f g = refl
  same_neighbours test alike p (Some l) None (Some m) (Some y) f g = absurd g
  same_neighbours test alike p (Some l) (Some x) (Some m) None f g = absurd g
  same_neighbours test alike p (Some l) (Some x) (Some m) (Some y) f g = alike l m x y f g

  same_dependent : (l m x y : Line) → SameLine l m → SameLine x y → dependent_neighbour m y ≡ dependent_neighbour l x
  same_dependent l m x y f g = λ i.
      refuse_where (same_meets x.entry.foot y.entry.foot g.touched l m f i || same_meets l.entry.foot m.entry.foot f.touched x y g i) (dependent ((f.event i).name) ((g.event i).name))

  pub same_exchange : (position : ℕ) → exchange_refusal n ms position ≡ exchange_refusal n ls position
  same_exchange zero = refl
  same_exchange (suc p) =
      same_neighbours (λ a b. first (first (settled_at n (suc p) a) (undone_neighbour a b)) (dependent_neighbour a b))
      (λ l m x y f g. λ i. first (first (settled_at n (suc p) (same_told f i)) (undone_neighbour (same_told f i) (same_told g i))) (same_dependent l m x y f g i))
      (suc p) (slice_get ls p) (slice_get ls (suc p)) (slice_get ms p) (slice_get ms (suc p)) (same_get p ls ms h) (same_get (suc p) ls ms h)

  same_first_undone : (p : ℕ) → first_undone (take p ms) ≡ first_undone (take p ls)
  same_first_undone p = same_first_name _ _ (λ l m one. ap (λ z. not (is_live z)) (same_told one)) (take p ls) (take p ms) (same_take p ls ms h)

  pub same_settle : (position : ℕ) → settle_refusal n ms position ≡ settle_refusal n ls position
  same_settle zero = refl
  same_settle (suc p) = by (slice_get ls p) (slice_get ms p) (same_get p ls ms h)
    where
      by : (a b : Option Line) → SameOption a b → settle_refusal_by n ms (suc p) b ≡ settle_refusal_by n ls (suc p) a
      by None None f = refl
      by None (Some m) f = absurd f
      by (Some l) None f = absurd f
      by (Some l) (Some m) f = λ i. first (settled_at n (suc p) (same_told f i)) (option_map not_live (same_first_undone (suc p) i))

-- ---- cones

-- a set that has all that come of it has them among lines that tell the same
closed_alike : (names : List EventName) (ls ms : List Line) → SameLines ls ms → Closed plain (live_set plain) (among names) (map (λ (m : Line). m.entry) ms) → Closed plain (live_set plain) (among names) (map (λ (l : Line). l.entry) ls)
closed_alike names = same_by (λ ls ms. Closed plain (live_set plain) (among names) (map (λ (m : Line). m.entry) ms) → Closed plain (live_set plain) (among names) (map (λ (l : Line). l.entry) ls)) (λ h. tt) (λ l m ls ms one rest more h. (
  λ live. older l m one ls ms rest (h.0 (one.live ∙ live)),
  more h.1,
))
  where
    older : (l m : Line) → SameLine l m → (ls ms : List Line) → SameLines ls ms
        → AllByRecursion (λ a. among names a ≡ true → caused plain m.entry a ≡ true → among names m.entry ≡ true) (map (λ (y : Line). y.entry) ms)
        → AllByRecursion (λ a. among names a ≡ true → caused plain l.entry a ≡ true → among names l.entry ≡ true) (map (λ (x : Line). x.entry) ls)
    older l m one = same_by (λ ls ms. AllByRecursion (λ a. among names a ≡ true → caused plain m.entry a ≡ true → among names m.entry ≡ true) (map (λ (y : Line). y.entry) ms)
        → AllByRecursion (λ a. among names a ≡ true → caused plain l.entry a ≡ true → among names l.entry ≡ true) (map (λ (x : Line). x.entry) ls)) (λ h. tt) (λ x y ls ms also rest more h. (
          subst (λ (z : Line × Line). chosen names z.0 ≡ true → caused plain z.1.entry z.0.entry ≡ true → chosen names z.1 ≡ true) (λ i. (same_told also i, same_told one i)) h.0,
          more h.1,
        ))

same_closed : (names : List EventName) (ls ms : List Line) → SameLines ls ms → ClosedIn names ms → ClosedIn names ls
same_closed names ls ms h c =
    subst (Closed plain (live_set plain) (among names)) (map-reverse (λ (l : Line). l.entry) ls)
    (closed_alike names (reverse ls) (reverse ms) (same_reverse ls ms h) (subst (Closed plain (live_set plain) (among names)) (sym (map-reverse (λ (l : Line). l.entry) ms)) c))

-- a cone among lines is one among lines that tell the same
pub same_cones : (ls ms : List Line) (root : EventName) (names : List EventName) → SameLines ls ms → Cone ms root names → Cone ls root names
same_cones ls ms root names h k = record {
  in_order = k.in_order ∙ same_map name_of name_of (λ l m one. ap name_of (same_told one)) _ _ (same_filter (chosen names) (chosen names) (same_chosen names) ls ms h);
  has_root = rooted names ls ms h k.has_root;
  live = same_all _ _ (λ l m one q. subst (λ (z : Line). chosen names z ≡ true → is_live z ≡ true) (same_told one) q) ls ms h k.live;
  closed = same_closed names ls ms h k.closed;
  least = λ others closed root_of.
      same_all _ _ (λ l m one q. subst (λ (z : Line). chosen names z ≡ true → chosen others z ≡ true) (same_told one) q) ls ms h
      (k.least others (same_closed others ms ls (same_lines_back ls ms h) closed) (rooted others ms ls (same_lines_back ls ms h) root_of));
}
  where
    rooted : (some : List EventName) (xs ys : List Line) → SameLines xs ys → AllByRecursion (λ m. (name_of m).0 ≡ root.0 → chosen some m ≡ true) ys → AllByRecursion (λ l. (name_of l).0 ≡ root.0 → chosen some l ≡ true) xs
    rooted some xs ys same = same_all _ _ (λ l m one q. subst (λ (z : Line). (name_of z).0 ≡ root.0 → chosen some z ≡ true) (same_told one) q) xs ys same
