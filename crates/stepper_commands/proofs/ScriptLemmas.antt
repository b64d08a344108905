-- On the lines of a script.
use Rattle.std.proofs.Common.{◌≡◌, ℕ, zero, suc, ◌+◌, ◌-◌, List, [], ◌∷◌, ◌++◌, length, map, Bool, true, false, ◌||◌, cond, Option, Some, None, Result, Ok, Err, refl, sym, ap, ◌∙◌, arith, append_assoc, append-nil, length-append, ◌<◌, nat_eq}
use Rattle.std.specs.Prelude.{IfOk}
use Rattle.std.specs.Borrow.{Bor}
use Rattle.stepper_commands.specs.ScriptView.{fault_at}
use Rattle.std.specs.List.{list_any, join_with_byte}
use Rattle.std.specs.Str.{IsUtf8, is_utf8}
use Rattle.std.proofs.lemmas.Str.{IsUtf8-from_is_utf8, is_utf8-from_IsUtf8}
use Rattle.stepper_commands.specs.Lines.{line_of, behind_line}
use Rattle.stepper_commands.specs.Commands.{is_empty}
use Rattle.stepper_commands.specs.Scripts.{fault_in, fault_of, starts, behind_lines, or_fault, first_fault, unless, script_of}
use Rattle.stepper_commands.specs.declared.command.LineFault.{LineFault}
use Rattle.stepper_commands.specs.declared.command.LineFault.TheVariants.{BadWord, Truncated}

-- a line that is text has no fault
pub no_fault : (line : List ℕ) (long : Bool) → long ≡ false → IsUtf8 line → fault_in line long ≡ None
no_fault line true h u = cc
no_fault line false h u = ap (λ b. cond b None (Some BadWord)) (is_utf8-from_IsUtf8 line u)

not_utf8 : (line : List ℕ) (b : Bool) → is_utf8 line ≡ b → (IsUtf8 line → ⊥) → cond b None (Some BadWord) ≡ Some BadWord
not_utf8 line true h n = absurd (n (IsUtf8-from_is_utf8 line h))
not_utf8 line false h n = refl

-- a line that is no text is a bad word
pub bad_word : (line : List ℕ) (long : Bool) → long ≡ false → (IsUtf8 line → ⊥) → fault_in line long ≡ Some BadWord
bad_word line true h n = cc
bad_word line false h n = not_utf8 line (is_utf8 line) refl n

-- Some lines were taken, and this is left: what was taken, its first fault, and its text where there is none.
pub record Taken (n : ℕ) (input : List ℕ) (taken : ℕ) (rest : List ℕ) (fault : Option LineFault) (text : List ℕ) : Type 0 where
  pub before : List (List ℕ)
  pub count : length before ≡ taken
  pub all : starts n input ≡ before ++ starts (n - taken) rest
  pub left : behind_lines n input ≡ behind_lines (n - taken) rest
  pub none_empty : list_any is_empty before ≡ false
  pub faulty : first_fault before ≡ fault
  pub joined : fault ≡ None → text ≡ join_with_byte 10 (map line_of before)

less_none : (n : ℕ) → n ≡ n - 0
less_none n = omega arith

pub taken_none : (n : ℕ) (input : List ℕ) → Taken n input 0 input None []
taken_none n input = record { before = []; count = refl; all = ap (λ m. starts m input) (less_none n); left = ap (λ m. behind_lines m input) (less_none n); none_empty = refl; faulty = refl; joined = λ e. refl }

or_assoc : (a b c : Option LineFault) → or_fault a (or_fault b c) ≡ or_fault (or_fault a b) c
or_assoc None b c = refl
or_assoc (Some a) b c = refl

first_fault-append : (xs ys : List (List ℕ)) → first_fault (xs ++ ys) ≡ or_fault (first_fault xs) (first_fault ys)
first_fault-append [] ys = refl
first_fault-append (x ∷ xs) ys = ap (or_fault (fault_of x)) (first_fault-append xs ys) ∙ or_assoc (fault_of x) (first_fault xs) (first_fault ys)

or_or : (a b c : Bool) → a || (b || c) ≡ (a || b) || c
or_or true b c = refl
or_or false b c = refl

list_any-append : (p : List ℕ → Bool) (xs ys : List (List ℕ)) → list_any p (xs ++ ys) ≡ list_any p xs || list_any p ys
list_any-append p [] ys = refl
list_any-append p (x ∷ xs) ys = ap (λ b. p x || b) (list_any-append p xs ys) ∙ or_or (p x) (list_any p xs) (list_any p ys)

map-append : (xs ys : List (List ℕ)) → map line_of (xs ++ ys) ≡ map line_of xs ++ map line_of ys
map-append [] ys = refl
map-append (x ∷ xs) ys = ap (λ zs. line_of x ∷ zs) (map-append xs ys)

-- one more piece at the end
join-push : (xs : List (List ℕ)) (y : List ℕ) → 0 < length xs → join_with_byte 10 (xs ++ y ∷ []) ≡ join_with_byte 10 xs ++ (10 ∷ y)
join-push [] y h = absurd (omega arith)
join-push (x ∷ []) y h = refl
join-push (x ∷ z ∷ xs) y h = ap (λ t. x ++ (10 ∷ t)) (join-push (z ∷ xs) y (omega arith)) ∙ sym (append_assoc x (10 ∷ join_with_byte 10 (z ∷ xs)) (10 ∷ y))

one_fewer : (n k : ℕ) → k < n → n - k ≡ suc (n - (k + 1))
one_fewer n k h = omega arith

both_none : (a b : Option LineFault) → or_fault a b ≡ None → (a ≡ None) × (b ≡ None)
both_none None b h = (refl, h)
both_none (Some f) b h = absurd (cc)

first_line : (xs : List (List ℕ)) (y : List ℕ) → length xs ≡ 0 → join_with_byte 10 (xs ++ y ∷ []) ≡ y
first_line [] y h = refl
first_line (x ∷ xs) y h = absurd (omega (arith, h))

nil_of_empty : (xs : List (List ℕ)) → length xs ≡ 0 → join_with_byte 10 (map line_of xs) ≡ []
nil_of_empty [] h = refl
nil_of_empty (x ∷ xs) h = absurd (omega (arith, h))

length-lines : (xs : List (List ℕ)) → length (map line_of xs) ≡ length xs
length-lines [] = refl
length-lines (x ∷ xs) = omega (arith, length-lines xs)

-- the text with one more line, which is the first or not
more_text : (xs : List (List ℕ)) (rest text more : List ℕ) (k : ℕ) (b : Bool) → nat_eq k 0 ≡ b → length xs ≡ k → text ≡ join_with_byte 10 (map line_of xs)
    → more ≡ text ++ (cond b [] (10 ∷ []) ++ line_of rest) → more ≡ join_with_byte 10 (map line_of (xs ++ rest ∷ []))
more_text xs rest text more k true e c t h =
    let z : length xs ≡ 0 = grind (arith, e, c) in
    h ∙ ap (λ u. u ++ line_of rest) (t ∙ nil_of_empty xs z) ∙ sym (ap (join_with_byte 10) (map-append xs (rest ∷ [])) ∙ first_line (map line_of xs) (line_of rest) (length-lines xs ∙ z))
more_text xs rest text more k false e c t h =
    let z : 0 < length xs = grind (arith, e, c) in
    let l : 0 < length (map line_of xs) = omega (arith, length-lines xs) in
    h ∙ ap (λ u. u ++ (10 ∷ line_of rest)) t ∙ sym (ap (join_with_byte 10) (map-append xs (rest ∷ [])) ∙ join-push (map line_of xs) (line_of rest) l)

or_none : (a : Option LineFault) → or_fault a None ≡ a
or_none None = refl
or_none (Some f) = refl

-- one more line is taken
pub taken_more : (n : ℕ) (input : List ℕ) (k : ℕ) (rest : List ℕ) (fault later : Option LineFault) (text more : List ℕ)
    → Taken n input k rest fault text → k < n → is_empty rest ≡ false → later ≡ or_fault fault (fault_of rest)
    → (fault_of rest ≡ None → more ≡ text ++ (cond (nat_eq k 0) [] (10 ∷ []) ++ line_of rest))
    → Taken n input (k + 1) (behind_line rest) later more
taken_more n input k rest fault later text more t h e f m = record {
  before = t.before ++ rest ∷ [];
  count = omega (arith, t.count, length-append t.before (rest ∷ []));
  all = t.all ∙ ap (λ j. t.before ++ starts j rest) (one_fewer n k h) ∙ sym (append_assoc t.before (rest ∷ []) (starts (n - (k + 1)) (behind_line rest)));
  left = t.left ∙ ap (λ j. behind_lines j rest) (one_fewer n k h);
  none_empty = list_any-append is_empty t.before (rest ∷ []) ∙ ap (λ b. b || (is_empty rest || false)) t.none_empty ∙ ap (λ b. b || false) e;
  faulty = first_fault-append t.before (rest ∷ []) ∙ ap (λ a. or_fault a (or_fault (fault_of rest) None)) t.faulty ∙ ap (or_fault fault) (or_none (fault_of rest)) ∙ sym f;
  joined = λ g. let both = both_none fault (fault_of rest) (sym f ∙ g) in more_text t.before rest text more k (nat_eq k 0) refl t.count (t.joined both.0) (m both.1);
}

or_true : (a : Bool) → a || true ≡ true
or_true true = refl
or_true false = refl

-- the input ended before all lines were taken
pub truncated : (n : ℕ) (input : List ℕ) (k : ℕ) (rest : List ℕ) (fault : Option LineFault) (text : List ℕ) → Taken n input k rest fault text → k < n → is_empty rest ≡ true → script_of n input ≡ Err Truncated
truncated n input k rest fault text t h e =
    let a : list_any is_empty (starts n input) ≡ true
    = ap (list_any is_empty) (t.all ∙ ap (λ j. t.before ++ starts j rest) (one_fewer n k h)) ∙ list_any-append is_empty t.before (rest ∷ starts (n - (k + 1)) (behind_line rest))
    ∙ ap (λ b. list_any is_empty t.before || (b || list_any is_empty (starts (n - (k + 1)) (behind_line rest)))) e ∙ or_true (list_any is_empty t.before) in
    ap (λ b. cond b (Err Truncated) (unless (first_fault (starts n input)) (join_with_byte 10 (map line_of (starts n input))))) a

-- nothing is behind the end of the input
pub behind_none : (n : ℕ) → behind_lines n [] ≡ []
behind_none zero = refl
behind_none (suc n) = behind_none n

-- what a line without fault adds
pub added : (r : Result (Bor (List ℕ)) LineFault) (line more text separator : List ℕ) → fault_at r ≡ None → IfOk r (λ t. t.now ≡ line) → IfOk r (λ t. more ≡ text ++ (separator ++ t.now)) → more ≡ text ++ (separator ++ line)
added (Ok t) line more text separator n e h = h ∙ ap (λ l. text ++ (separator ++ l)) e
added (Err f) line more text separator n e h = absurd (cc)

unless_by : (fault : Option LineFault) (text whole : List ℕ) → (fault ≡ None → text ≡ whole) → unless fault whole ≡ unless fault text
unless_by None text whole h = ap (λ t. Ok t) (sym (h refl))
unless_by (Some f) text whole h = refl

none_left : (n : ℕ) → n - n ≡ 0
none_left n = omega arith

no_more_starts : (n : ℕ) (rest : List ℕ) → starts (n - n) rest ≡ []
no_more_starts n rest = ap (λ m. starts m rest) (none_left n)

-- all lines were taken
pub finished : (n : ℕ) (input rest : List ℕ) (fault : Option LineFault) (text : List ℕ) → Taken n input n rest fault text → script_of n input ≡ unless fault text
finished n input rest fault text t =
    let whole : starts n input ≡ t.before = t.all ∙ ap (λ l. t.before ++ l) (no_more_starts n rest) ∙ append-nil t.before in
    ap (λ (l : List (List ℕ)). cond (list_any is_empty l) (Err Truncated) (unless (first_fault l) (join_with_byte 10 (map line_of l)))) whole
    ∙ ap (λ b. cond b (Err Truncated) (unless (first_fault t.before) (join_with_byte 10 (map line_of t.before)))) t.none_empty
    ∙ ap (λ f. unless f (join_with_byte 10 (map line_of t.before))) t.faulty
    ∙ unless_by fault text (join_with_byte 10 (map line_of t.before)) t.joined
