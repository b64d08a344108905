-- Where the first line feed of bytes stands.
use Rattle.std.proofs.Common.{◌≡◌, ℕ, suc, ◌+◌, ◌<◌, List, [], ◌∷◌, ◌++◌, length, take, drop, Bool, true, false, cond, Some, None, refl, sym, ap, ◌∙◌, arith, get_or, nat_lt, length-append, length-take-le, take-append-drop, get_or-take, eqb-true}
use Rattle.std.proofs.Math.Seq.{take-append_seam, drop-cons}
use Rattle.std.proofs.lemmas.List.Quantifiers.{position-Some}
use Rattle.std.proofs.Math.Numerals.{add-one}
use Rattle.std.specs.List.{position_or_len}
use Rattle.std.proofs.lemmas.List.Sums.{position_or_len_is}
use Rattle.stepper_commands.specs.Lines.{is_line_feed, line_end, line_of, line_to, behind_line, rest_from, is_long, long_to, without_return}
use Rattle.stepper_streams.specs.Pieces.{HasNoFeed}

-- a line feed is neither the first byte nor behind it
pub no_feed_here : (b : ℕ) (bs : List ℕ) (t : Bool) → is_line_feed b ≡ t → HasNoFeed (b ∷ bs) → (t ≡ false) × HasNoFeed bs
no_feed_here b bs true e h = absurd (grind (arith, e, h))
no_feed_here b bs false e h = (refl, grind (arith, e, h))

first_over : (b : ℕ) (bs : List ℕ) → is_line_feed b ≡ false → position_or_len is_line_feed (b ∷ bs) ≡ suc (position_or_len is_line_feed bs)
first_over b bs h = grind (arith, h)

place_of_feed : (body more : List ℕ) → HasNoFeed body → position_or_len is_line_feed (body ++ (10 ∷ more)) ≡ length body
place_of_feed [] more h = refl
place_of_feed (b ∷ bs) more h =
    let here = no_feed_here b bs (is_line_feed b) refl h in
    first_over b (bs ++ (10 ∷ more)) here.0 ∙ ap suc (place_of_feed bs more here.1)

-- a line with its line feed is not empty
pub longer : (body more : List ℕ) → length body < length (body ++ (10 ∷ more))
longer body more = omega (arith, length-append body (10 ∷ more))

found : (n m : ℕ) → n < m → cond (nat_lt n m) (Some n) None ≡ Some n
found n m h = grind (arith, h)

drop-over : (xs ys : List ℕ) → drop (suc (length xs)) (xs ++ (10 ∷ ys)) ≡ ys
drop-over [] ys = refl
drop-over (x ∷ xs) ys = drop-over xs ys

over : (xs ys : List ℕ) → drop (length xs + 1) (xs ++ (10 ∷ ys)) ≡ ys
over xs ys = rw add-one (drop-over xs ys)

-- the first line feed stands behind bytes that have none
pub feed_behind : (body more : List ℕ) → HasNoFeed body → line_end (body ++ (10 ∷ more)) ≡ Some (length body)
feed_behind body more h =
    ap (λ n. cond (nat_lt n (length (body ++ (10 ∷ more)))) (Some n) None) (place_of_feed body more h) ∙ found (length body) (length (body ++ (10 ∷ more))) (longer body more)

module _ (body more : List ℕ) (h : HasNoFeed body) where
  -- the first line is what stands before its line feed
  pub line_before_feed : line_of (body ++ (10 ∷ more)) ≡ without_return body
  line_before_feed = ap (λ e. line_to e (body ++ (10 ∷ more))) (feed_behind body more h) ∙ ap without_return (take-append_seam body (10 ∷ more))

  pub behind_feed : behind_line (body ++ (10 ∷ more)) ≡ more
  behind_feed = ap (λ e. rest_from e (body ++ (10 ∷ more))) (feed_behind body more h) ∙ over body more

  pub long_before_feed : is_long (body ++ (10 ∷ more)) ≡ nat_lt 65536 (length body)
  long_before_feed = ap (λ e. long_to e (body ++ (10 ∷ more))) (feed_behind body more h)

module _ (body : List ℕ) (h : HasNoFeed body) where
  -- the last line of an input, which no line feed ends
  pub line_without_feed : line_of body ≡ body
  line_without_feed = ap (λ e. line_to e body) h

  pub behind_no_feed : behind_line body ≡ []
  behind_no_feed = ap (λ e. rest_from e body) h

  pub long_without_feed : is_long body ≡ nat_lt 65536 (length body)
  long_without_feed = ap (λ e. long_to e body) h

place_of_none : (bs : List ℕ) → HasNoFeed bs → position_or_len is_line_feed bs ≡ length bs
place_of_none [] h = refl
place_of_none (b ∷ bs) h =
    let here = no_feed_here b bs (is_line_feed b) refl h in
    first_over b bs here.0 ∙ ap suc (place_of_none bs here.1)

not_found : (n m : ℕ) → n ≡ m → cond (nat_lt n m) (Some n) None ≡ None
not_found n m h = grind (arith, h)

-- two pieces without a line feed have none together
pub no_feed-append : (xs ys : List ℕ) → HasNoFeed xs → HasNoFeed ys → HasNoFeed (xs ++ ys)
no_feed-append [] ys h k = k
no_feed-append (b ∷ bs) ys h k =
    let here = no_feed_here b bs (is_line_feed b) refl h in
    not_found _ _ (first_over b (bs ++ ys) here.0 ∙ ap suc (place_of_none (bs ++ ys) (no_feed-append bs ys here.1 k)))

no_feed_before : (bs : List ℕ) (n : ℕ) → n < length bs → ((k : ℕ) → k < n → is_line_feed (get_or bs k 0) ≡ false) → HasNoFeed (take n bs)
no_feed_before bs n l h =
    let long : length (take n bs) ≡ n = length-take-le n bs (omega arith) in
    not_found _ _ (position_or_len_is is_line_feed (take n bs) (length (take n bs)) 0 (omega arith)
    (λ k m. ap is_line_feed (get_or-take n bs k 0 (omega (arith, long, m))) ∙ h k (omega (arith, long, m))) (λ m. absurd (omega arith)))

-- what stands before the first line feed has none, and the line feed is behind it
pub cut_at_feed : (bs : List ℕ) (n : ℕ) → line_end bs ≡ Some n → HasNoFeed (take n bs) × (bs ≡ take n bs ++ (10 ∷ drop (n + 1) bs))
cut_at_feed bs n h =
    let at = position-Some is_line_feed bs n 0 h in
    let here : n < length bs = at.0 in
    let feed : get_or bs n 0 ≡ 10 = eqb-true _ _ at.1 in
    let behind : drop n bs ≡ get_or bs n 0 ∷ drop (n + 1) bs = rw (add-one, drop-cons bs n 0) refl in
    (no_feed_before bs n here at.2, sym (take-append-drop n bs) ∙ ap (λ r. take n bs ++ r) (behind ∙ ap (λ b. b ∷ drop (n + 1) bs) feed))
