-- The earlier vats in the brackets of `vat`, and the number of lines behind them.
use Rattle.std.proofs.Common.{◌≡◌, ◌≢◌, ℕ, ◌+◌, ◌<◌, ◌≤◌, List, [], ◌∷◌, ◌++◌, length, take, drop, get_or, Bool, true, false, not, ◌&&◌, ◌||◌, cond, Option, Some, None, refl, sym, ap, subst, ◌∙◌, arith, ◌==◌, nat_le, nat_lt, length-append}
use Rattle.std.specs.Prelude.{All}
use Rattle.std.specs.Option.{option_map, option_and_then}
use Rattle.std.specs.List.{position_or_len, before_first, after_first}
use Rattle.std.proofs.Math.Seq.{take-append_seam, drop-append-add, get_or-append_seam}
use Rattle.std.proofs.lemmas.List.{get_or_append_left, drop_all}
use Rattle.std.proofs.lemmas.List.Elements.{All-get_or, All-nil, All-cons}
use Rattle.std.proofs.lemmas.List.Sums.{position_or_len_is, split_at_first, passes_at_first}
use Rattle.stepper_commands.specs.Words.{is_blank, is_bare, ends_blank, without_blanks, first_word, behind_word, words_in}
use Rattle.stepper_commands.specs.Numbers.{number_of, behind_tag}
use Rattle.stepper_commands.specs.Commands.{Spelled, birth, is_vat_name, are_vats, at_most, is_empty, is_closing, earlier_of, lines_of, birth_with, birth_in, birth_of}
use Rattle.stepper_commands.proofs.Wording.{one_more, skip_blank, not_true, behind, first_blank, first_other, behind_blank, blanks_gone, words_behind_blanks, words_cut}

abbrev IsOpen : ℕ → Type 0
IsOpen c = c ≢ 41

not_closing : (c : ℕ) → c ≢ 41 → (t : Bool) → is_closing c ≡ t → t ≡ false
not_closing c h true e = absurd (h (grind (arith, e)))
not_closing c h false e = refl

-- the first closing bracket stands behind what has none
closing_behind : (inside rest : List ℕ) → All (λ c. c ≢ 41) inside → position_or_len is_closing (inside ++ 41 ∷ rest) ≡ length inside
closing_behind inside rest h =
    let long = length-append inside (41 ∷ rest) in
    position_or_len_is is_closing (inside ++ 41 ∷ rest) (length inside) 0 (omega arith)
    (λ k below. ap is_closing (get_or_append_left inside (41 ∷ rest) 0 k below) ∙ not_closing (get_or inside k 0) (All-get_or IsOpen inside k 0 below h) _ refl)
    (λ within. ap is_closing (get_or-append_seam inside 41 rest 0))

before_closing : (inside rest : List ℕ) → All (λ c. c ≢ 41) inside → before_first is_closing (inside ++ 41 ∷ rest) ≡ inside
before_closing inside rest h = ap (λ n. take n (inside ++ 41 ∷ rest)) (closing_behind inside rest h) ∙ take-append_seam inside (41 ∷ rest)

after_closing : (inside rest : List ℕ) → All (λ c. c ≢ 41) inside → after_first is_closing (inside ++ 41 ∷ rest) ≡ rest
after_closing inside rest h = ap (λ n. drop (n + 1) (inside ++ 41 ∷ rest)) (closing_behind inside rest h) ∙ drop-append-add inside (41 ∷ rest) 1

-- what has no blank in front does not begin with one
front_is_bare : (inside : List ℕ) → is_bare inside ≡ true → (is_empty (first_word inside) && not (is_empty inside)) ≡ false
front_is_bare [] h = refl
front_is_bare (b ∷ bs) h = ap (λ w. is_empty w && not (is_empty (b ∷ bs))) (first_other b bs (not_true (is_blank b) h)) ∙ (let t : (length (b ∷ first_word bs) == 0) ≡ false = grind arith in ap (λ u. u && not (is_empty (b ∷ bs))) t)

earlier_are : (inside : List ℕ) (earlier : List (List ℕ)) → is_bare inside ≡ true → ends_blank inside ≡ false → earlier ≡ words_in inside → are_vats earlier ≡ true → earlier_of inside ≡ Some earlier
earlier_are inside earlier bare closed has vats =
    ap (λ t. cond (t || ends_blank inside) None (cond (are_vats (words_in inside)) (Some (words_in inside)) None)) (front_is_bare inside bare)
    ∙ ap (λ t. cond t None (cond (are_vats (words_in inside)) (Some (words_in inside)) None)) closed
    ∙ ap (λ ws. cond (are_vats ws) (Some ws) None) (sym has) ∙ ap (λ t. cond t (Some earlier) None) vats

number_few : (limit n : ℕ) → n ≤ limit → at_most limit n ≡ Some n
number_few limit n h = ap (λ t. cond t (Some n) None) (let t : nat_le n limit ≡ true = grind (arith, h) in t)

lines_are : (behind count : List ℕ) (n b : ℕ) → is_blank b ≡ true → first_word (without_blanks behind) ≡ count → behind_word (without_blanks behind) ≡ [] → number_of count ≡ Some n → n ≤ 4096 → lines_of (b ∷ behind) ≡ Some n
lines_are rest count n b blank w r number few =
    let same : behind_word (b ∷ rest) ≡ without_blanks rest = ap without_blanks (behind_blank b rest blank) ∙ skip_blank b rest blank in
    ap (λ u. cond (is_empty (first_word (b ∷ rest)) && is_empty (behind_word u)) (option_and_then (at_most 4096) (number_of (first_word u))) None) same
    ∙ ap (λ u. cond (is_empty u && is_empty (behind_word (without_blanks rest))) (option_and_then (at_most 4096) (number_of (first_word (without_blanks rest)))) None) (first_blank b rest blank)
    ∙ ap (λ u. cond (true && is_empty u) (option_and_then (at_most 4096) (number_of (first_word (without_blanks rest)))) None) r
    ∙ ap (λ u. option_and_then (at_most 4096) (number_of u)) w ∙ ap (option_and_then (at_most 4096)) number ∙ number_few 4096 n few

pub birth_is : (x more behind count inside : List ℕ) (earlier : List (List ℕ)) (n b : ℕ) → first_word more ≡ x → behind_word more ≡ 40 ∷ inside ++ 41 ∷ b ∷ behind → is_vat_name x ≡ true → All (λ c. c ≢ 41) inside
    → is_bare inside ≡ true → ends_blank inside ≡ false → earlier ≡ words_in inside → are_vats earlier ≡ true → is_blank b ≡ true
    → first_word (without_blanks behind) ≡ count → behind_word (without_blanks behind) ≡ [] → number_of count ≡ Some n → n ≤ 4096 → birth_of more ≡ Some (birth x earlier n)
birth_is x more rest count inside earlier n b w r name none bare closed has vats blank first last number few =
    ap (λ (y : List ℕ). cond (is_vat_name y) (birth_in y (behind_tag 40 (behind_word more))) None) w
    ∙ ap (λ t. cond t (birth_in x (behind_tag 40 (behind_word more))) None) name
    ∙ ap (λ (u : List ℕ). birth_in x (behind_tag 40 u)) r
    ∙ ap (λ (u : List ℕ). birth_with x (earlier_of u) (lines_of (after_first is_closing (inside ++ 41 ∷ b ∷ rest)))) (before_closing inside (b ∷ rest) none)
    ∙ ap (λ (u : List ℕ). birth_with x (earlier_of inside) (lines_of u)) (after_closing inside (b ∷ rest) none)
    ∙ ap (λ (o : Option (List (List ℕ))). birth_with x o (lines_of (b ∷ rest))) (earlier_are inside earlier bare closed has vats)
    ∙ ap (λ (o : Option ℕ). birth_with x (Some earlier) o) (lines_are rest count n b blank first last number few)

-- what a test and a choice tell
pub and_true : (a b : Bool) → (a && b) ≡ true → (a ≡ true) × (b ≡ true)
and_true true b h = (refl, h)
and_true false b h = absurd (cc h)

pub chosen : {A : Type 0} (t : Bool) (o : Option A) (x : A) → cond t o None ≡ Some x → (t ≡ true) × (o ≡ Some x)
chosen true o x h = (refl, h)
chosen false o x h = absurd (cc h)

refused : {A : Type 0} (t : Bool) (o : Option A) (x : A) → cond t None o ≡ Some x → (t ≡ false) × (o ≡ Some x)
refused true o x h = absurd (cc h)
refused false o x h = (refl, h)

pub mapped : {A B : Type 0} (f : A → B) (o : Option A) (y : B) → option_map f o ≡ Some y → (x : A) × (o ≡ Some x) × (f x ≡ y)
mapped f (Some x) y h = (x, refl, cc h)
mapped f None y h = absurd (cc h)

pub then_is : {A B : Type 0} (f : A → Option B) (o : Option A) (y : B) → option_and_then f o ≡ Some y → (x : A) × (o ≡ Some x) × (f x ≡ Some y)
then_is f (Some x) y h = (x, refl, h)
then_is f None y h = absurd (cc h)

pub nothing_is : (text : List ℕ) → is_empty text ≡ true → text ≡ []
nothing_is [] h = refl
nothing_is (b ∷ bs) h = absurd (grind (arith, h))

pub few_is : (limit n m : ℕ) → at_most limit n ≡ Some m → (n ≤ limit) × (n ≡ m)
few_is limit n m h =
    let both = chosen (nat_le n limit) (Some n) m h in
    (grind (arith, both.0), cc both.1)

-- the names and the number, from what is read
with_parts : (x : List ℕ) (o : Option (List (List ℕ))) (p : Option ℕ) (c : Spelled) → birth_with x o p ≡ Some c → (earlier : List (List ℕ)) × (n : ℕ) × (o ≡ Some earlier) × (p ≡ Some n) × (birth x earlier n ≡ c)
with_parts x None p c h = absurd (cc h)
with_parts x (Some earlier) None c h = absurd (cc h)
with_parts x (Some earlier) (Some n) c h = (earlier, n, refl, refl, cc h)

-- a closing bracket stands among these, where the number of lines stands behind it
none_behind : (text : List ℕ) → length text ≤ position_or_len is_closing text → after_first is_closing text ≡ []
none_behind text h = drop_all (position_or_len is_closing text + 1) text (omega (arith, h))

no_lines : (n : ℕ) → lines_of [] ≡ Some n → ⊥
no_lines n h = cc h

open_before : (text : List ℕ) → All (λ c. c ≢ 41) (before_first is_closing text)
open_before [] = All-nil IsOpen
open_before (b ∷ bs) = open_by b bs (is_closing b) refl (open_before bs)
  where
    open_by : (c : ℕ) (cs : List ℕ) (t : Bool) → is_closing c ≡ t → All (λ d. d ≢ 41) (before_first is_closing cs) → All (λ d. d ≢ 41) (take (cond (not t) (1 + position_or_len is_closing cs) 0) (c ∷ cs))
    open_by c cs true h k = All-nil IsOpen
    open_by c cs false h k = subst (λ (n : ℕ). All (λ d. d ≢ 41) (take n (c ∷ cs))) (sym (one_more (position_or_len is_closing cs))) (All-cons IsOpen c (take (position_or_len is_closing cs) cs) (λ e. grind (arith, h, e)) k)

split_case : (text : List ℕ) (n : ℕ) (t : Bool) → nat_lt (position_or_len is_closing text) (length text) ≡ t → lines_of (after_first is_closing text) ≡ Some n → text ≡ before_first is_closing text ++ 41 ∷ after_first is_closing text
split_case text n true h lines =
    let within : position_or_len is_closing text < length text = grind (arith, h) in
    let is : get_or text (position_or_len is_closing text) 0 ≡ 41 = closing_is _ (passes_at_first is_closing text 0 within) in
    split_at_first is_closing text 0 within ∙ ap (λ b. before_first is_closing text ++ b ∷ after_first is_closing text) is
  where
    closing_is : (c : ℕ) → is_closing c ≡ true → c ≡ 41
    closing_is c e = grind (arith, e)
split_case text n false h lines = absurd (no_lines n (sym (ap lines_of (none_behind text (grind (arith, h)))) ∙ lines))

-- what stands behind the closing bracket: a blank, and the number
record Counted (after : List ℕ) (n : ℕ) : Type 0 where
  b : ℕ
  behind_it : List ℕ
  count : List ℕ
  whole : after ≡ b ∷ behind_it
  blank : is_blank b ≡ true
  last : count ∷ [] ≡ words_in behind_it
  number : number_of count ≡ Some n
  few : n ≤ 4096

empty_first : (b : ℕ) (bs : List ℕ) (t : Bool) → is_blank b ≡ t → is_empty (first_word (b ∷ bs)) ≡ true → t ≡ true
empty_first b bs true h e = refl
empty_first b bs false h e = absurd (let f : is_empty (b ∷ first_word bs) ≡ true = ap is_empty (sym (first_other b bs h)) ∙ e in grind (arith, f))

counted : (after : List ℕ) (n : ℕ) → lines_of after ≡ Some n → Counted after n
counted [] n h = absurd (no_lines n h)
counted (b ∷ bs) n h =
    let count : List ℕ = behind_word (b ∷ bs) in
    let both = chosen (is_empty (first_word (b ∷ bs)) && is_empty (behind_word count)) (option_and_then (at_most 4096) (number_of (first_word count))) n h in
    let alone = and_true (is_empty (first_word (b ∷ bs))) (is_empty (behind_word count)) both.0 in
    let blank = empty_first b bs (is_blank b) refl alone.0 in
    let named = then_is (at_most 4096) (number_of (first_word count)) n both.1 in
    let few = few_is 4096 named.0 n named.2 in
    let same : count ≡ without_blanks bs = ap without_blanks (behind_blank b bs blank) ∙ skip_blank b bs blank in
    record {
      b = b;
      behind_it = bs;
      count = first_word count;
      whole = refl;
      blank = blank;
      last = last_count count named.0 (blanks_gone (behind (b ∷ bs))) named.1 (nothing_is _ alone.1) ∙ ap words_in same ∙ words_behind_blanks bs;
      number = named.1 ∙ ap Some few.1;
      few = subst (λ (m : ℕ). m ≤ 4096) few.1 few.0;
    }
  where
    last_count : (text : List ℕ) (m : ℕ) → is_bare text ≡ true → number_of (first_word text) ≡ Some m → behind_word text ≡ [] → first_word text ∷ [] ≡ words_in text
    last_count [] m bare e f = absurd (cc e)
    last_count (c ∷ cs) m bare e f = ap (λ ws. first_word (c ∷ cs) ∷ ws) (sym (ap words_in f)) ∙ sym (words_cut (c ∷ cs) bare (grind arith))

-- names inside brackets that stand against both
record Inside (text : List ℕ) (earlier : List (List ℕ)) : Type 0 where
  bare : is_bare text ≡ true
  closed : ends_blank text ≡ false
  has : earlier ≡ words_in text
  vats : are_vats earlier ≡ true

or_false : (a b : Bool) → (a || b) ≡ false → (a ≡ false) × (b ≡ false)
or_false true b h = absurd (cc h)
or_false false b h = (refl, h)

bare_by : (text : List ℕ) → (is_empty (first_word text) && not (is_empty text)) ≡ false → is_bare text ≡ true
bare_by [] h = refl
bare_by (b ∷ bs) h = by_blank (is_blank b) refl
  where
    by_blank : (t : Bool) → is_blank b ≡ t → not t ≡ true
    by_blank false e = refl
    by_blank true e =
        let f : (true && not (is_empty (b ∷ bs))) ≡ false = ap (λ w. is_empty w && not (is_empty (b ∷ bs))) (sym (first_blank b bs e)) ∙ h in
        let g : is_empty (b ∷ bs) ≡ false = grind arith in
        absurd (cc (f, g))

inside_is : (text : List ℕ) (earlier : List (List ℕ)) → earlier_of text ≡ Some earlier → Inside text earlier
inside_is text earlier h =
    let both = refused (is_empty (first_word text) && not (is_empty text) || ends_blank text) (cond (are_vats (words_in text)) (Some (words_in text)) None) earlier h in
    let ends = or_false (is_empty (first_word text) && not (is_empty text)) (ends_blank text) both.0 in
    let words = chosen (are_vats (words_in text)) (Some (words_in text)) earlier both.1 in
    let same : words_in text ≡ earlier = cc words.1 in
    record { bare = bare_by text ends.0; closed = ends.1; has = sym same; vats = ap are_vats (sym same) ∙ words.0 }

-- what a line says behind `vat`, where it is read as a birth
pub record Birth (more : List ℕ) (c : Spelled) : Type 0 where
  pub x : List ℕ
  pub inside : List ℕ
  pub b : ℕ
  pub behind_it : List ℕ
  pub count : List ℕ
  pub earlier : List (List ℕ)
  pub n : ℕ
  pub first : first_word more ≡ x
  pub next : behind_word more ≡ 40 ∷ inside ++ 41 ∷ b ∷ behind_it
  pub name : is_vat_name x ≡ true
  pub unclosed : All (λ c. c ≢ 41) inside
  pub bare : is_bare inside ≡ true
  pub closed : ends_blank inside ≡ false
  pub has : earlier ≡ words_in inside
  pub vats : are_vats earlier ≡ true
  pub blank : is_blank b ≡ true
  pub last : count ∷ [] ≡ words_in behind_it
  pub number : number_of count ≡ Some n
  pub few : n ≤ 4096
  pub is : birth x earlier n ≡ c

tag_is : (tag : ℕ) (word text : List ℕ) → behind_tag tag word ≡ Some text → word ≡ tag ∷ text
tag_is tag [] text h = absurd (cc h)
tag_is tag (b ∷ bs) text h =
    let both = chosen (b == tag) (Some bs) text h in
    let first : b ≡ tag = grind (arith, both.0) in
    let rest : bs ≡ text = cc both.1 in
    λ i. first i ∷ rest i

birth_text : (more text : List ℕ) (c : Spelled) → is_vat_name (first_word more) ≡ true → behind_word more ≡ 40 ∷ text → birth_with (first_word more) (earlier_of (before_first is_closing text)) (lines_of (after_first is_closing text)) ≡ Some c → Birth more c
birth_text more text c name next h =
    let parts = with_parts (first_word more) (earlier_of (before_first is_closing text)) (lines_of (after_first is_closing text)) c h in
    let inside = inside_is (before_first is_closing text) parts.0 parts.2 in
    let counted_it = counted (after_first is_closing text) parts.1 parts.3 in
    record {
      x = first_word more;
      inside = before_first is_closing text;
      b = counted_it.b;
      behind_it = counted_it.behind_it;
      count = counted_it.count;
      earlier = parts.0;
      n = parts.1;
      first = refl;
      next = next ∙ ap (λ t. 40 ∷ t) (split_case text parts.1 _ refl parts.3 ∙ ap (λ t. before_first is_closing text ++ 41 ∷ t) counted_it.whole);
      name = name;
      unclosed = open_before text;
      bare = inside.bare;
      closed = inside.closed;
      has = inside.has;
      vats = inside.vats;
      blank = counted_it.blank;
      last = counted_it.last;
      number = counted_it.number;
      few = counted_it.few;
      is = parts.4;
    }

birth_by : (more : List ℕ) (c : Spelled) (o : Option (List ℕ)) → behind_tag 40 (behind_word more) ≡ o → is_vat_name (first_word more) ≡ true → birth_in (first_word more) o ≡ Some c → Birth more c
birth_by more c None e name h = absurd (cc h)
birth_by more c (Some text) e name h = birth_text more text c name (tag_is 40 (behind_word more) text e) h

pub birth_back : (more : List ℕ) (c : Spelled) → birth_of more ≡ Some c → Birth more c
birth_back more c h =
    let both = chosen (is_vat_name (first_word more)) (birth_in (first_word more) (behind_tag 40 (behind_word more))) c h in
    birth_by more c _ refl both.0 both.1
