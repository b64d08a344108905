-- What a set of events, a list of their names, lacks for an undo or a redo.
use Rattle.std.specs.Prelude.{◌&&◌, ◌||◌, ◌==◌, ◌+◌, not, Bool, cond, ℕ, List, [], ◌∷◌, ◌++◌, map, filter, take, Option, Some, None, min}
use Rattle.std.specs.List.{list_any}
use Rattle.std.specs.Option.{option_map, option_or}
use Rattle.history.specs.Subject.{meets}
use Rattle.history.specs.Journal.{Entry, caused, is_in}
use Rattle.ids.specs.declared.names.EventName.{EventName}
use Rattle.journal.specs.Lines.{plain, Line}
use Rattle.journal.specs.declared.entry.Mark.{Mark}
use Rattle.journal.specs.declared.entry.Mark.TheVariants as mark
use Rattle.causality.specs.declared.selection.Gap.{Gap}

abbrev pub name_of : Line → EventName
name_of l = l.entry.event.name

abbrev pub is_live : Line → Bool
is_live l = l.entry.live

-- the numbers of names
abbrev pub numbers : List EventName → List ℕ
numbers names = map (λ e. e.0) names

-- an entry is of the set
abbrev pub among : List EventName → Entry plain → Bool
among names e = is_in (numbers names) e.event.name.0

abbrev pub chosen : List EventName → Line → Bool
chosen names l = among names l.entry

-- the journal has an event of this name
abbrev pub is_entered : List Line → EventName → Bool
is_entered lines e = list_any (λ l. (name_of l).0 == e.0) lines

-- the first answer along a list
abbrev pub first_some : {A B : Type 0} → (A → Option B) → List A → Option B
first_some f [] = None
first_some f (x ∷ xs) = option_or (f x) (first_some f xs)

-- the name of the first line that passes a test
abbrev pub first_name : (Line → Bool) → List Line → Option EventName
first_name test lines = first_some (λ l. cond (test l) (Some (name_of l)) None) lines

-- the first of the set that is settled, where so many lines are
abbrev pub first_settled : List EventName → ℕ → List Line → Option EventName
first_settled names n lines = first_name (chosen names) (take n lines)

-- the lesser of a name and what is least of others
abbrev pub lesser : EventName → Option EventName → Option EventName
lesser a None = Some a
lesser a (Some b) = Some (record { 0 = min a.0 b.0 })

-- the least name of a list
abbrev pub least : List EventName → Option EventName
least [] = None
least (e ∷ es) = lesser e (least es)

-- the least name that the journal does not have
abbrev pub least_missing : List EventName → List Line → Option EventName
least_missing names lines = least (filter (λ e. not (is_entered lines e)) names)

-- a line has this mark
abbrev pub has_mark : Mark → Line → Bool
has_mark mark.Live l = is_live l
has_mark mark.Undone l = not (is_live l)

-- the first of the set that has this mark
abbrev pub first_marked : Mark → List EventName → List Line → Option EventName
first_marked m names lines = first_name (λ l. chosen names l && has_mark m l) lines

-- the gap between an event and another
abbrev pub gap : EventName → EventName → Gap
gap e f = record { event = e; other = f }

-- of a set that is live: the first live line outside it that has this one as a cause
abbrev pub consequence : List EventName → List Line → Line → Option EventName
consequence names lines e = first_name (λ l. is_live l && (not (chosen names l) && caused plain l.entry e.entry)) lines

-- the first member with such a consequence, and the consequence
abbrev pub first_gap : List EventName → List Line → Option Gap
first_gap names lines = first_some (λ e. cond (chosen names e) (option_map (gap (name_of e)) (consequence names lines e)) None) lines

-- live, or of the set
abbrev pub is_member : List EventName → Line → Bool
is_member names l = is_live l || chosen names l

-- the first cause of a line that is no member
abbrev pub missing_cause : List EventName → List Line → Line → Option EventName
missing_cause names lines e = first_name (λ f. caused plain e.entry f.entry && not (is_member names f)) lines

-- the first member with such a cause, and the cause
abbrev pub first_missing_cause : List EventName → List Line → Option Gap
first_missing_cause names lines = first_some (λ e. cond (is_member names e) (option_map (gap (name_of e)) (missing_cause names lines e)) None) lines

-- the first member among these that wrote a cell that a line touches, and is no cause of it
abbrev pub crossing : List EventName → List Line → Line → Option EventName
crossing names before e = first_name (λ f. is_member names f && (meets plain f.entry.foot e.entry.foot && not (caused plain e.entry f.entry))) before

-- the first member with such a one before it, and that one; the lines before are known
abbrev pub first_crossing_behind : List EventName → List Line → List Line → Option Gap
first_crossing_behind names before [] = None
first_crossing_behind names before (e ∷ lines) =
    option_or (cond (is_member names e) (option_map (gap (name_of e)) (crossing names before e)) None) (first_crossing_behind names (before ++ e ∷ []) lines)

abbrev pub first_crossing : List EventName → List Line → Option Gap
first_crossing names lines = first_crossing_behind names [] lines

-- the positions, ascending, counted from n, of the lines of the set
abbrev pub places_from : ℕ → List EventName → List Line → List ℕ
places_from n names [] = []
places_from n names (l ∷ lines) = cond (chosen names l) (n ∷ places_from (n + 1) names lines) (places_from (n + 1) names lines)
