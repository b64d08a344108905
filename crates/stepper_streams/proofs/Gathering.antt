-- From the bytes that a line gathered to the line that is read.
use Rattle.std.proofs.Common.{◌≡◌, ℕ, ◌<◌, ◌≤◌, List, [], ◌∷◌, ◌++◌, length, Bool, true, false, cond, Some, None, ◌+◌, take, drop, refl, sym, ap, subst, ◌∙◌, arith, nat_lt}
use Rattle.std.proofs.Math.Seq.{drop-length}
use Rattle.stepper_commands.specs.Lines.{without_return, is_long, line_end}
use Rattle.stepper_streams.specs.Pieces.{HasNoFeed, Reads, Gathers, GathersMore, GivesPart, to_feed, all}
use Rattle.stepper_streams.specs.declared.line.Line.{Line}
use Rattle.stepper_streams.proofs.Feeds.{cut_at_feed, line_before_feed, long_before_feed, line_without_feed, long_without_feed}

flag_by : (b : Bool) (n : ℕ) → (b ≡ false → n ≤ 65536) → (b ≡ true → 65536 < n) → b ≡ nat_lt 65536 n
flag_by true n short long = let h = long refl in grind (arith, h)
flag_by false n short long = let h = short refl in grind (arith, h)

-- a line says whether it is too long
flag : (line : Line) (bytes : List ℕ) → Gathers line bytes → line.is_long ≡ nat_lt 65536 (length bytes)
flag line bytes g = flag_by line.is_long (length bytes) g.short g.long

-- it has its bytes, or nothing where it is too long
has : (b : Bool) (line : Line) (bytes : List ℕ) → Gathers line bytes → line.is_long ≡ b → line.text.items ≡ cond b [] bytes
has true line bytes g e = g.dropped e
has false line bytes g e = g.kept e

without_return_of : (b : Bool) (bytes : List ℕ) → without_return (cond b [] bytes) ≡ cond b [] (without_return bytes)
without_return_of true bytes = refl
without_return_of false bytes = refl

module _ (before after : Line) (bytes held new : List ℕ) (same : bytes ≡ held) where
  -- the bytes before the first line feed that is held go into the line
  pub part_to_feed : (at : ℕ) → line_end bytes ≡ Some at → new ≡ drop (at + 1) held → GathersMore before after (take at bytes) → GivesPart held new before after true
  part_to_feed at here behind more =
      let cut = cut_at_feed held at (ap line_end (sym same) ∙ here) in
      to_feed (take at held) cut.0 (cut.1 ∙ ap (λ r. take at held ++ (10 ∷ r)) (sym behind)) (λ b g. subst (λ p. Gathers after (b ++ take at p)) same (more b g))

  -- all that is held goes into the line
  pub part_of_all : line_end bytes ≡ None → new ≡ drop (length bytes) held → GathersMore before after bytes → GivesPart held new before after false
  part_of_all none behind more =
      all (ap line_end (sym same) ∙ none) (behind ∙ ap (λ n. drop n held) (ap length same) ∙ drop-length held) (λ b g. subst (λ p. Gathers after (b ++ p)) same (more b g))

-- a line whose line feed was found
pub reads_ended : (line result : Line) (bytes : List ℕ) → Gathers line bytes → HasNoFeed bytes
    → result.text.items ≡ without_return line.text.items → result.is_long ≡ line.is_long → Reads result (bytes ++ 10 ∷ [])
reads_ended line result bytes g feedless text long =
    let is : line.is_long ≡ is_long (bytes ++ 10 ∷ []) = flag line bytes g ∙ sym (long_before_feed bytes [] feedless) in
    record {
      long = long ∙ is;
      text = text ∙ ap without_return (has line.is_long line bytes g refl) ∙ without_return_of line.is_long bytes
          ∙ ap (λ b. cond b [] (without_return bytes)) is ∙ ap (λ l. cond (is_long (bytes ++ 10 ∷ [])) [] l) (sym (line_before_feed bytes [] feedless));
    }

-- a line that the input's end ends
pub reads_last : (line : Line) (bytes : List ℕ) → Gathers line bytes → HasNoFeed bytes → Reads line bytes
reads_last line bytes g feedless =
    let is : line.is_long ≡ is_long bytes = flag line bytes g ∙ sym (long_without_feed bytes feedless) in
    record {
      long = is;
      text = has line.is_long line bytes g refl ∙ ap (λ b. cond b [] bytes) is ∙ ap (λ l. cond (is_long bytes) [] l) (sym (line_without_feed bytes feedless));
    }
