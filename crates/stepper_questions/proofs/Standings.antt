-- Where an event stands among lines.
use Rattle.std.proofs.Common.{◌≡◌, ◌≤◌, ◌<◌, ℕ, zero, suc, ◌+◌, ◌-◌, ◌==◌, Bool, true, false, cond, nat_lt, ltb-false, List, [], ◌∷◌, Option, Some, None, length, map, drop, slice_get, refl, ap, ap₂, ◌∙◌, arith}
use Rattle.std.proofs.lemmas.List.{drop_all, length-map}
use Rattle.ids.specs.declared.names.EventName.{EventName}
use Rattle.journal.specs.Items.{Item}
use Rattle.journal.specs.Lines.{Line, line_of, lines_of}
use Rattle.causality.specs.Selections.{name_of}
use Rattle.causality.proofs.Numbered.{names_told}
use Rattle.stepper_questions.specs.Refusals.{place_from, place_of, standing_at, standing_of, absent, settled, pair_refusal, event_refusal}
use Rattle.stepper_questions.specs.declared.standing.Standing.{Standing}
use Rattle.stepper_questions.specs.declared.standing.Standing.TheVariants as standing
use Rattle.std.specs.Option.{option_or}

-- the line at a place, and those behind it
left_line : (lines : List Line) (c p : ℕ) (n e : EventName) → slice_get (map name_of lines) p ≡ Some n → place_from c (drop p lines) e ≡ cond (n.0 == e.0) (Some c) (place_from (suc c) (drop (suc p) lines) e)
left_line [] c p n e at = cc
left_line (l ∷ lines) c zero n e at =
    let one : name_of l ≡ n = cc in
    let next : c + 1 ≡ suc c = omega arith in
    ap₂ (λ (m : EventName) k. cond (m.0 == e.0) (Some c) (place_from k lines e)) one next
left_line (l ∷ lines) c (suc p) n e at = left_line lines c p n e at

pub left_at : (items : List Item) (p : ℕ) (n e : EventName) → slice_get (map (λ (i : Item). i.event.name) items) p ≡ Some n
    → place_from p (drop p (lines_of items)) e ≡ cond (n.0 == e.0) (Some p) (place_from (suc p) (drop (suc p) (lines_of items)) e)
left_at items p n e at = left_line (lines_of items) p p n e (ap (λ (ns : List EventName). slice_get ns p) (names_told items) ∙ at)

pub none_left : (items : List Item) (p : ℕ) (e : EventName) → length items ≤ p → place_from p (drop p (lines_of items)) e ≡ None
none_left items p e many =
    let same : length (lines_of items) ≡ length items = length-map items (line_of items) in
    ap (λ (ls : List Line). place_from p ls e) (drop_all p (lines_of items) (omega arith))

-- what stands behind the settled ones has its place behind them
open_at : (n : ℕ) (o : Option ℕ) (p : ℕ) → standing_at n o ≡ standing.Open p → o ≡ Some (n + p)
open_at n None p is = cc
open_at n (Some q) p is = by (nat_lt q n) refl is
  where
    by : (b : Bool) → nat_lt q n ≡ b → cond b standing.Settled (standing.Open (q - n)) ≡ standing.Open p → Some q ≡ Some (n + p)
    by true below h = cc
    by false above h = let left : q - n ≡ p = cc in let le : n ≤ q = ltb-false q n above in ap (λ (k : ℕ). let o : Option ℕ = Some k in o) (omega (arith, le, left))

pub open_place : (n : ℕ) (lines : List Line) (e : EventName) (p : ℕ) → standing_of n lines e ≡ standing.Open p → place_of lines e ≡ Some (n + p)
open_place n lines e p is = open_at n (place_of lines e) p is

-- and stands among the lines
place_low : (lines : List Line) (c : ℕ) (e : EventName) (q : ℕ) → place_from c lines e ≡ Some q → q < c + length lines
place_low [] c e q is = cc
place_low (l ∷ lines) c e q is = by ((name_of l).0 == e.0) is (λ behind. place_low lines (c + 1) e q behind)
  where
    by : (b : Bool) → cond b (Some c) (place_from (c + 1) lines e) ≡ Some q → (place_from (c + 1) lines e ≡ Some q → q < (c + 1) + length lines) → q < c + suc (length lines)
    by true here further = let one : c ≡ q = cc in omega (arith, one)
    by false behind further = let more : q < (c + 1) + length lines = further behind in omega (arith, more)

pub open_below : (n : ℕ) (lines : List Line) (e : EventName) (p : ℕ) → standing_of n lines e ≡ standing.Open p → n + p < length lines
open_below n lines e p is = let low : n + p < 0 + length lines = place_low lines 0 e (n + p) (open_place n lines e p is) in omega (arith, low)

-- two such events are not refused
pub pair_open : (n : ℕ) (lines : List Line) (e f : EventName) (p q : ℕ) → standing_of n lines e ≡ standing.Open p → standing_of n lines f ≡ standing.Open q → pair_refusal n lines e f ≡ None
pair_open n lines e f p q first second = ap₂ (λ (a b : Standing). option_or (absent a e) (option_or (absent b f) (option_or (settled a e) (settled b f)))) first second

-- nor is one
pub event_open : (n : ℕ) (lines : List Line) (e : EventName) (p : ℕ) → standing_of n lines e ≡ standing.Open p → event_refusal n lines e ≡ None
event_open n lines e p is = ap (λ (a : Standing). option_or (absent a e) (settled a e)) is
