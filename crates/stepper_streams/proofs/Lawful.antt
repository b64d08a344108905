-- The line that is taken is the first of the bytes that were left.
use Rattle.std.proofs.Common.{◌≡◌, ℕ, ◌<◌, List, [], ◌∷◌, ◌++◌, length, Bool, true, cond, Option, Some, None, refl, sym, ap, ◌∙◌, arith, append_assoc, append-nil}
use Rattle.std.specs.Io.KnownBytes.{Consumes, IsAtEnd}
use Rattle.stepper_commands.specs.Lines.{line_of, behind_line, is_long}
use Rattle.stepper_streams.specs.declared.line.Line.{Line}
use Rattle.stepper_streams.specs.declared.lines.Lines.{Lines}
use Rattle.stepper_streams.specs.Pieces.{HasNoFeed, kept_of, Reads, IsOneLine, fed, last}
use Rattle.stepper_streams.specs.Lines.{unread, is_ended, TakesLine}
use Rattle.stepper_streams.proofs.Feeds.{longer, line_before_feed, behind_feed, long_before_feed, behind_no_feed}

left : (a b : Option (List ℕ)) (bs input : List ℕ) → a ≡ Some input → Consumes a b bs → (rest : List ℕ) × (b ≡ Some rest) × (input ≡ bs ++ rest)
left None b bs input e c = absurd (cc)
left (Some x) None bs input e c = absurd c
left (Some x) (Some y) bs input e c = let same : x ≡ input = cc in (y, refl, sym same ∙ c)

none_left : (b : Option (List ℕ)) (rest : List ℕ) → b ≡ Some rest → IsAtEnd b → rest ≡ []
none_left None rest e h = absurd (cc)
none_left (Some y) rest e h = let same : y ≡ rest = cc in sym same ∙ h

-- what is kept of a line does not depend on what is behind its line feed
kept_before_feed : (body more other : List ℕ) → HasNoFeed body → kept_of (body ++ (10 ∷ more)) ≡ kept_of (body ++ (10 ∷ other))
kept_before_feed body more other h =
    ap (λ b. cond b [] (line_of (body ++ (10 ∷ more)))) (long_before_feed body more h ∙ sym (long_before_feed body other h))
    ∙ ap (λ l. cond (is_long (body ++ (10 ∷ other))) [] l) (line_before_feed body more h ∙ sym (line_before_feed body other h))

first_by : (a b : Option (List ℕ)) (line : Line) (bytes input : List ℕ) (ended : Bool) → IsOneLine bytes ended → Consumes a b bytes → (ended ≡ true → IsAtEnd b)
    → a ≡ Some input → Reads line bytes → (0 < length input) × Reads line input × (b ≡ Some (behind_line input))
first_by a b line bytes input ended (fed body feedless e) c end told reads =
    let l = left a b bytes input told c in
    let cut : input ≡ body ++ (10 ∷ l.0) = l.2 ∙ ap (λ x. x ++ l.0) e ∙ append_assoc body (10 ∷ []) l.0 in (
      omega (arith, ap length cut, longer body l.0),
      record {
        long = reads.long ∙ ap is_long e ∙ long_before_feed body [] feedless ∙ sym (long_before_feed body l.0 feedless) ∙ ap is_long (sym cut);
        text = reads.text ∙ ap kept_of e ∙ kept_before_feed body [] l.0 feedless ∙ ap kept_of (sym cut);
      },
      l.1 ∙ ap (λ r. Some r) (sym (behind_feed body l.0 feedless) ∙ ap behind_line (sym cut)),
    )
first_by a b line bytes input ended (last feedless some) c end told reads =
    let l = left a b bytes input told c in
    let none = none_left b l.0 l.1 (end refl) in
    let whole : input ≡ bytes = l.2 ∙ ap (λ r. bytes ++ r) none ∙ append-nil bytes in (
      omega (arith, ap length whole),
      record { long = reads.long ∙ ap is_long (sym whole); text = reads.text ∙ ap kept_of (sym whole) },
      l.1 ∙ ap (λ r. Some r) (none ∙ sym (behind_no_feed bytes feedless) ∙ ap behind_line (sym whole)),
    )

pub first_is_taken : {R : Type 0} (remaining : R → Option (List ℕ)) (old new : Lines R) (line : Line) (input : List ℕ) → unread remaining old ≡ Some input
    → TakesLine remaining old new line → (0 < length input) × Reads line input × (unread remaining new ≡ Some (behind_line input))
first_is_taken remaining old new line input told t = first_by (unread remaining old) (unread remaining new) line t.bytes input (is_ended new) t.one t.taken t.sound told t.reads
