-- What is cut off an input is its first line as a text, and no other.
use Rattle.std.proofs.Common.{◌≡◌, ◌≢◌, ℕ, suc, ◌+◌, ◌-◌, ◌<◌, ◌≤◌, List, [], ◌∷◌, ◌++◌, append_assoc, length, map, take, drop, get_or, Bool, true, false, cond, Some, None, refl, sym, ap, subst, ◌∙◌, arith, zero, ◌==◌, nat_lt, length-append, length-take}
use Rattle.std.specs.List.{position_or_len}
use Rattle.std.proofs.Math.Seq.{take-suc, take-append_seam, drop-append-add, get_or-append_seam}
use Rattle.std.proofs.lemmas.List.{take_all, get_or-take, get_or_append_left}
use Rattle.std.proofs.lemmas.List.Elements.{All-take, All-from_get_or, All-get_or, All-append, All-cons, All-nil}
use Rattle.std.proofs.lemmas.List.Sums.{split_at_first, passes_at_first, fails_before_first, position_or_len_is}
use Rattle.stepper_commands.specs.Lines.{is_line_feed, line_end, line_to, line_of, rest_from, behind_line, without_return}
use Rattle.stepper_commands.specs.Scripts.{starts, behind_lines}
use Rattle.stepper_commands.specs.Inputs.{HasNoLineFeed, EndsReturned, BeginsWithLine, fed, returned, unended, HasLines, no_line, one_more, InputsAreLines, LinesAreTold}

-- no byte is a line feed
abbrev IsOther : ℕ → Type 0
IsOther b = b ≢ 10

other_byte : (b : ℕ) → is_line_feed b ≡ false → b ≢ 10
other_byte b e h = grind (arith, e, h)

line_feed : (b : ℕ) → is_line_feed b ≡ true → b ≡ 10
line_feed b e = grind (arith, e)

not_fed : (b : ℕ) → b ≢ 10 → (t : Bool) → is_line_feed b ≡ t → t ≡ false
not_fed b h true e = absurd (h (line_feed b e))
not_fed b h false e = refl

-- the last byte of a line, where it has one
last_byte : (line : List ℕ) → 0 < length line → line ≡ take (length line - 1) line ++ get_or line (length line - 1) 0 ∷ []
last_byte line h =
    let shorter : length line - 1 < length line = omega arith in
    let whole : suc (length line - 1) ≡ length line = omega arith in
    sym (take_all (length line) line (omega arith)) ∙ ap (λ n. take n line) (sym whole) ∙ take-suc line (length line - 1) 0 shorter

returned_byte : (line : List ℕ) → (get_or line (length line - 1) 0 == 13) ≡ true → line ≡ take (length line - 1) line ++ 13 ∷ []
returned_byte [] e = cc
returned_byte (b ∷ bs) e =
    let is : get_or (b ∷ bs) (length (b ∷ bs) - 1) 0 ≡ 13 = grind (arith, e) in
    last_byte (b ∷ bs) (omega arith) ∙ ap (λ c. take (length (b ∷ bs) - 1) (b ∷ bs) ++ c ∷ []) is

at_end : (head : List ℕ) (b : ℕ) → get_or (head ++ b ∷ []) (length (head ++ b ∷ []) - 1) 0 ≡ b
at_end head b =
    let place : length (head ++ b ∷ []) - 1 ≡ length head = omega (arith, length-append head (b ∷ [])) in
    ap (λ n. get_or (head ++ b ∷ []) n 0) place ∙ get_or-append_seam head b [] 0

not_returned : (line : List ℕ) → (get_or line (length line - 1) 0 == 13) ≡ false → ¬ EndsReturned line
not_returned line e h =
    let is : get_or line (length line - 1) 0 ≡ 13 = ap (λ l. get_or l (length l - 1) 0) h.1 ∙ at_end h.0 13 in
    absurd (grind (arith, e, is))

-- a line that a line feed ends, without a carriage return at its end
ended_case : (input line rest : List ℕ) (t : Bool) → (get_or line (length line - 1) 0 == 13) ≡ t → HasNoLineFeed line → input ≡ line ++ 10 ∷ rest
    → BeginsWithLine input (cond t (take (length line - 1) line) line) rest
ended_case input line rest true e h f =
    returned (All-take IsOther (length line - 1) line h) (f ∙ ap (λ l. l ++ 10 ∷ rest) (returned_byte line e) ∙ append_assoc (take (length line - 1) line) (13 ∷ []) (10 ∷ rest))
ended_case input line rest false e h f = fed h (not_returned line e) f

-- before the first line feed there is none
no_feed_before : (input : List ℕ) (n : ℕ) → n ≤ length input → ((k : ℕ) → k < n → is_line_feed (get_or input k 0) ≡ false) → HasNoLineFeed (take n input)
no_feed_before input n h before =
    All-from_get_or IsOther (take n input) 0
    (λ k within. let below : k < n = omega (arith, within, length-take n input) in subst IsOther (sym (get_or-take n input k 0 below)) (other_byte _ (before k below)))

-- the first line of an input, where a line feed is at this place or nowhere
cut_case : (input : List ℕ) (t : Bool) → nat_lt (position_or_len is_line_feed input) (length input) ≡ t
    → BeginsWithLine input (line_to (cond t (Some (position_or_len is_line_feed input)) None) input) (rest_from (cond t (Some (position_or_len is_line_feed input)) None) input)
cut_case input true e =
    let n : ℕ = position_or_len is_line_feed input in
    let within : n < length input = grind (arith, e) in
    let is : get_or input n 0 ≡ 10 = line_feed _ (passes_at_first is_line_feed input 0 within) in
    let line : List ℕ = take n input in
    ended_case input line (drop (n + 1) input) _ refl (no_feed_before input n (omega arith) (λ k h. fails_before_first is_line_feed input k 0 h))
    (split_at_first is_line_feed input 0 within ∙ ap (λ b. line ++ b ∷ drop (n + 1) input) is)
cut_case input false e =
    let n : ℕ = position_or_len is_line_feed input in
    let all : length input ≤ n = grind (arith, e) in
    unended (All-from_get_or IsOther input 0 (λ k h. other_byte _ (fails_before_first is_line_feed input k 0 (omega (arith, all, h))))) refl refl

pub cut_is_line : (input : List ℕ) → BeginsWithLine input (line_of input) (behind_line input)
cut_is_line input = cut_case input _ refl

-- behind bytes that are no line feeds, the first one is where they end
feed_behind : (line rest : List ℕ) → HasNoLineFeed line → position_or_len is_line_feed (line ++ 10 ∷ rest) ≡ length line
feed_behind line rest h =
    let long = length-append line (10 ∷ rest) in
    position_or_len_is is_line_feed (line ++ 10 ∷ rest) (length line) 0 (omega arith)
    (λ k below. ap is_line_feed (get_or_append_left line (10 ∷ rest) 0 k below) ∙ not_fed (get_or line k 0) (All-get_or IsOther line k 0 below h) _ refl)
    (λ within. ap is_line_feed (get_or-append_seam line 10 rest 0))

feed_within : (line rest : List ℕ) → nat_lt (length line) (length (line ++ 10 ∷ rest)) ≡ true
feed_within line rest = let long = length-append line (10 ∷ rest) in grind arith

feed_place : (line rest : List ℕ) → HasNoLineFeed line → line_end (line ++ 10 ∷ rest) ≡ Some (length line)
feed_place line rest h =
    ap (λ n. cond (nat_lt n (length (line ++ 10 ∷ rest))) (Some n) None) (feed_behind line rest h)
    ∙ ap (λ t. cond t (Some (length line)) None) (feed_within line rest)

line_before : (line rest : List ℕ) → HasNoLineFeed line → line_of (line ++ 10 ∷ rest) ≡ without_return line
line_before line rest h = ap (λ o. line_to o (line ++ 10 ∷ rest)) (feed_place line rest h) ∙ ap without_return (take-append_seam line (10 ∷ rest))

rest_behind : (line rest : List ℕ) → HasNoLineFeed line → behind_line (line ++ 10 ∷ rest) ≡ rest
rest_behind line rest h = ap (λ o. rest_from o (line ++ 10 ∷ rest)) (feed_place line rest h) ∙ drop-append-add line (10 ∷ rest) 1

-- a carriage return at the end is dropped, and nothing else
kept_case : (line : List ℕ) (t : Bool) → (get_or line (length line - 1) 0 == 13) ≡ t → ¬ EndsReturned line → cond t (take (length line - 1) line) line ≡ line
kept_case line true e h = absurd (h (take (length line - 1) line, returned_byte line e))
kept_case line false e h = refl

dropped : (line : List ℕ) → without_return (line ++ 13 ∷ []) ≡ line
dropped line =
    let place : length (line ++ 13 ∷ []) - 1 ≡ length line = omega (arith, length-append line (13 ∷ [])) in
    ap (λ b. cond (b == 13) (take (length (line ++ 13 ∷ []) - 1) (line ++ 13 ∷ [])) (line ++ 13 ∷ [])) (at_end line 13)
    ∙ ap (λ n. take n (line ++ 13 ∷ [])) place ∙ take-append_seam line (13 ∷ [])

with_return : (line : List ℕ) → HasNoLineFeed line → HasNoLineFeed (line ++ 13 ∷ [])
with_return line h = All-append IsOther line (13 ∷ []) h (All-cons IsOther 13 [] (λ e. cc) (All-nil IsOther))

-- where no byte is a line feed, none is found
no_feed : (input : List ℕ) → HasNoLineFeed input → line_end input ≡ None
no_feed input h =
    let none : position_or_len is_line_feed input ≡ length input =
    position_or_len_is is_line_feed input (length input) 0 (omega arith) (λ k below. not_fed (get_or input k 0) (All-get_or IsOther input k 0 below h) _ refl) (λ within. absurd (omega arith)) in
    let past : nat_lt (position_or_len is_line_feed input) (length input) ≡ false = grind (arith, none) in
    ap (λ t. cond t (Some (position_or_len is_line_feed input)) None) past

-- a line that an input begins with is the one that is cut off
told_line : (input line rest : List ℕ) → BeginsWithLine input line rest → (line ≡ line_of input) × (rest ≡ behind_line input)
told_line input line rest (fed h plain e) =
    (sym (ap line_of e ∙ line_before line rest h ∙ kept_case line _ refl plain), sym (ap behind_line e ∙ rest_behind line rest h))
told_line input line rest (returned h e) =
    let f : input ≡ (line ++ 13 ∷ []) ++ 10 ∷ rest = e ∙ sym (append_assoc line (13 ∷ []) (10 ∷ rest)) in
    let whole = with_return line h in
    (sym (ap line_of f ∙ line_before (line ++ 13 ∷ []) rest whole ∙ dropped line), sym (ap behind_line f ∙ rest_behind (line ++ 13 ∷ []) rest whole))
told_line input line rest (unended h e f) =
    let none : line_end input ≡ None = no_feed input (subst HasNoLineFeed (sym e) h) in
    (sym (ap (λ o. line_to o input) none ∙ e), f ∙ sym (ap (λ o. rest_from o input) none))

-- less is left behind a line
shorter_case : (input line rest : List ℕ) → 0 < length input → BeginsWithLine input line rest → length rest < length input
shorter_case input line rest some (fed h plain e) = omega (arith, ap length e, length-append line (10 ∷ rest))
shorter_case input line rest some (returned h e) = omega (arith, ap length e, length-append line (13 ∷ 10 ∷ rest))
shorter_case input line rest some (unended h e f) = omega (arith, ap length f)

-- so an input comes to its end
lines_within : (most : ℕ) (input : List ℕ) → length input ≤ most → (n : ℕ) × HasLines input (map line_of (starts n input)) × (behind_lines n input ≡ [])
lines_within most [] h = (0, no_line, refl)
lines_within zero (b ∷ bs) h = absurd (omega arith)
lines_within (suc most) (b ∷ bs) h =
    let input : List ℕ = b ∷ bs in
    let some : 0 < length input = omega arith in
    let first = cut_is_line input in
    let less = shorter_case input (line_of input) (behind_line input) some first in
    let later = lines_within most (behind_line input) (omega (arith, less, h)) in
    (suc later.0, one_more some first later.1, later.2)

pub inputs_are_lines : InputsAreLines
inputs_are_lines input = lines_within (length input) input (omega arith)

same_lines : {line other : List ℕ} {lines others : List (List ℕ)} → line ≡ other → lines ≡ others → line ∷ lines ≡ other ∷ others
same_lines e f = λ i. e i ∷ f i

-- lines of an empty input
none_told : (input : List ℕ) (others : List (List ℕ)) → input ≡ [] → HasLines input others → [] ≡ others
none_told input others e no_line = refl
none_told input others e (one_more some first later) = absurd (omega (arith, some, ap length e))

-- lines of an input that begins with this one
more_told : (input line rest : List ℕ) (lines others : List (List ℕ)) → 0 < length input → line ≡ line_of input → rest ≡ behind_line input
    → ((next : List (List ℕ)) → HasLines rest next → lines ≡ next) → HasLines input others → line ∷ lines ≡ others
more_told input line rest lines others some e f same no_line = absurd (omega arith)
more_told input line rest lines others some e f same (one_more {line = second} {rest = behind} {lines = next} more first later) =
    let is = told_line input second behind first in
    same_lines (e ∙ sym is.0) (same next (subst (λ (bs : List ℕ). HasLines bs next) (is.1 ∙ sym f) later))

pub lines_are_told : LinesAreTold
lines_are_told input lines others no_line h = none_told [] others refl h
lines_are_told input lines others (one_more {line = line} {rest = rest} {lines = next} some first later) h =
    let is = told_line input line rest first in
    more_told input line rest next others some is.0 is.1 (λ more k. lines_are_told rest next more later k) h
