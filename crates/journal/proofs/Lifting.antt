-- Sets of lines and sets of rows that stand: what is sound, closed or a part among the one is so among the other.
use Rattle.std.proofs.Common.{◌≡◌, ℕ, Bool, true, false, ◌&&◌, ◌||◌, not, List, map, refl, sym, ap₂, ◌∙◌, subst}
use Rattle.std.specs.List.{AllByRecursion}
use Rattle.history.specs.Subject.{Laws}
use Rattle.history.specs.Journal.{Entry, live_set, without, both, Part, Sound, Closed, Ordered, Distinct, NoneNamesItself}
use Rattle.history.specs.Records.{State, Row, entries_of}
use Rattle.history.proofs.Lists.{all_of, all_both, all_mapped}
use Rattle.journal.proofs.Reversed.{all_unmapped}
use Rattle.world_cells.specs.World.{World}
use Rattle.world_cells.specs.Theory.{Rule, subject, cells}
use Rattle.journal.specs.Items.{Item}
use Rattle.journal.specs.Lines.{plain, Line, entries_in, lines_of}
use Rattle.journal.specs.Standing.{ItemsStand}
use Rattle.journal.proofs.Alike.{SameCauses, SameMeets, SameSet, sound_alike, closed_alike, part_alike, ordered_alike, own_alike, distinct_alike, causes_turned, meets_turned, set_turned}
use Rattle.journal.proofs.Telling.{told_entry, entries_told, same_causes, same_meets}

-- lines as a journal tells them: names are apart, causes are older, and the live ones have their causes among the live ones, and no others
pub record PlainJournal (lines : List Line) : Type 0 where
  pub distinct : Distinct plain (entries_in lines)
  pub ordered : Ordered plain (entries_in lines)
  pub own : NoneNamesItself plain (entries_in lines)
  pub sound : Sound plain (live_set plain) (entries_in lines)

-- a set of told entries and a set of entries have the same members, among these rows
abbrev pub SameMembers : (does : Rule) → (Entry plain → Bool) → (Entry (subject does) → Bool) → List (Row (subject does)) → Type 0
SameMembers does t u rows = SameSet plain (subject does) (told_entry does (entries_of rows)) (λ p. p.0) t u rows

-- as they have where the tests agree on each row
pub same_members : (does : Rule) (t : Entry plain → Bool) (u : Entry (subject does) → Bool) (rows : List (Row (subject does))) → ((p : Row (subject does)) → t (told_entry does (entries_of rows) p) ≡ u p.0) → SameMembers does t u rows
same_members does t u rows h = all_of _ rows h

-- sets by names, live ones, and sets of these
pub named_members : (does : Rule) (test : ℕ → Bool) (rows : List (Row (subject does))) → SameMembers does (λ e. test e.event.name.0) (λ e. test e.event.name.0) rows
named_members does test rows = same_members does (λ e. test e.event.name.0) (λ e. test e.event.name.0) rows (λ p. refl)

pub live_members : (does : Rule) (rows : List (Row (subject does))) → SameMembers does (live_set plain) (live_set (subject does)) rows
live_members does rows = same_members does (live_set plain) (live_set (subject does)) rows (λ p. refl)

pub both_members : (does : Rule) (t c : Entry plain → Bool) (u d : Entry (subject does) → Bool) (rows : List (Row (subject does))) → SameMembers does t u rows → SameMembers does c d rows → SameMembers does (both t c) (both u d) rows
both_members does t c u d rows h g = all_both _ _ _ rows (λ p a b. ap₂ (λ x y. x || y) a b) h g

pub without_members : (does : Rule) (t c : Entry plain → Bool) (u d : Entry (subject does) → Bool) (rows : List (Row (subject does))) → SameMembers does t u rows → SameMembers does c d rows → SameMembers does (without t c) (without u d) rows
without_members does t c u d rows h g = all_both _ _ _ rows (λ p a b. ap₂ (λ x y. x && not y) a b) h g

module _ (does : Rule) (l : Laws (subject does)) {start : World} {next : ℕ} {rows : List (Row (subject does))} {items : List Item} {state : State cells} (h : ItemsStand does start next rows items state) where
  abbrev from_rows : (P : List (Entry plain) → Type 0) → P (map (told_entry does (entries_of rows)) rows) → P (entries_in (lines_of items))
  from_rows P q = subst P (sym (entries_told does l h)) q

  abbrev to_rows : (P : List (Entry plain) → Type 0) → P (entries_in (lines_of items)) → P (map (told_entry does (entries_of rows)) rows)
  to_rows P q = subst P (entries_told does l h) q

  back_causes : SameCauses (subject does) plain (λ p. p.0) (told_entry does (entries_of rows)) rows
  back_causes = causes_turned plain (subject does) (told_entry does (entries_of rows)) (λ p. p.0) rows (same_causes does l h)

  back_meets : SameMeets (subject does) plain (λ p. p.0) (told_entry does (entries_of rows)) rows
  back_meets = meets_turned plain (subject does) (told_entry does (entries_of rows)) (λ p. p.0) rows (same_meets does l h)

  back_set : (t : Entry plain → Bool) (u : Entry (subject does) → Bool) → SameMembers does t u rows → SameSet (subject does) plain (λ p. p.0) (told_entry does (entries_of rows)) u t rows
  back_set t u same = set_turned plain (subject does) (told_entry does (entries_of rows)) (λ p. p.0) t u rows same

  -- a sound set
  pub sound_of_lines : (t : Entry plain → Bool) (u : Entry (subject does) → Bool) → SameMembers does t u rows → Sound plain t (entries_in (lines_of items)) → Sound (subject does) u (entries_of rows)
  sound_of_lines t u same q = sound_alike plain (subject does) (told_entry does (entries_of rows)) (λ p. p.0) t u rows (same_causes does l h) (same_meets does l h) same (to_rows (Sound plain t) q)

  pub sound_of_rows : (t : Entry plain → Bool) (u : Entry (subject does) → Bool) → SameMembers does t u rows → Sound (subject does) u (entries_of rows) → Sound plain t (entries_in (lines_of items))
  sound_of_rows t u same q = from_rows (Sound plain t) (sound_alike (subject does) plain (λ p. p.0) (told_entry does (entries_of rows)) u t rows back_causes back_meets (back_set t u same) q)

  -- a closed set
  pub closed_of_lines : (t c : Entry plain → Bool) (u d : Entry (subject does) → Bool) → SameMembers does t u rows → SameMembers does c d rows
      → Closed plain t c (entries_in (lines_of items)) → Closed (subject does) u d (entries_of rows)
  closed_of_lines t c u d members same q = closed_alike plain (subject does) (told_entry does (entries_of rows)) (λ p. p.0) t c u d rows (same_causes does l h) members same (to_rows (Closed plain t c) q)

  pub closed_of_rows : (t c : Entry plain → Bool) (u d : Entry (subject does) → Bool) → SameMembers does t u rows → SameMembers does c d rows
      → Closed (subject does) u d (entries_of rows) → Closed plain t c (entries_in (lines_of items))
  closed_of_rows t c u d members same q = from_rows (Closed plain t c)
      (closed_alike (subject does) plain (λ p. p.0) (told_entry does (entries_of rows)) u d t c rows back_causes (back_set t u members) (back_set c d same) q)

  -- a part of a set
  pub part_of_lines : (t c : Entry plain → Bool) (u d : Entry (subject does) → Bool) → SameMembers does t u rows → SameMembers does c d rows
      → Part c t (entries_in (lines_of items)) → Part d u (entries_of rows)
  part_of_lines t c u d members same q = part_alike plain (subject does) (told_entry does (entries_of rows)) (λ p. p.0) t c u d rows members same (to_rows (Part c t) q)

  pub part_of_rows : (t c : Entry plain → Bool) (u d : Entry (subject does) → Bool) → SameMembers does t u rows → SameMembers does c d rows
      → Part d u (entries_of rows) → Part c t (entries_in (lines_of items))
  part_of_rows t c u d members same q = from_rows (Part c t)
      (part_alike (subject does) plain (λ p. p.0) (told_entry does (entries_of rows)) u d t c rows (back_set t u members) (back_set c d same) q)

  -- a set with no live member
  pub dead_of_lines : (c : Entry plain → Bool) (d : Entry (subject does) → Bool) → SameMembers does c d rows → AllByRecursion (λ e. c e ≡ true → e.live ≡ false) (entries_in (lines_of items))
      → AllByRecursion (λ e. d e ≡ true → e.live ≡ false) (entries_of rows)
  dead_of_lines c d same q = all_mapped (λ (p : Row (subject does)). p.0) _ rows
      (all_both _ _ _ rows (λ p is dead of_d. dead (is ∙ of_d)) same (all_unmapped (told_entry does (entries_of rows)) _ rows (to_rows (AllByRecursion (λ e. c e ≡ true → e.live ≡ false)) q)))

  -- THE LEMMA: what the journal tells is a journal
  pub plain_journal : PlainJournal (lines_of items)
  plain_journal = record {
    distinct = from_rows (Distinct plain) (distinct_alike (subject does) plain (λ p. p.0) (told_entry does (entries_of rows)) (λ p. refl) rows h.stands.named.distinct);
    ordered = from_rows (Ordered plain) (ordered_alike (subject does) plain (λ p. p.0) (told_entry does (entries_of rows)) rows back_causes h.stands.good.ordered);
    own = from_rows (NoneNamesItself plain) (own_alike (subject does) plain (λ p. p.0) (told_entry does (entries_of rows)) rows back_causes h.stands.named.own);
    sound = sound_of_rows (live_set plain) (live_set (subject does)) (same_members does (live_set plain) (live_set (subject does)) rows (λ p. refl)) h.stands.good.sound;
  }
