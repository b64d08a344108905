use Rattle.std.proofs.Common.{rules, ◌≡◌, ◌∷◌, ap, ◌∙◌, arith, false}
use Rattle.std.proofs.lemmas.Bool.Decides.{nat_tests}
use Rattle.etoken.specs.Bytes.{is_blank, begins_with}
use Rattle.etoken.proofs.Runs.{blanks_begin, blanks_past_space, blanks_past_line, blanks_past_comment, blanks_end, is_space_from, no_blank_ascii}
use Rattle.etoken.proofs.bytes.blanks.Goals as goal
use Rattle.etoken.proofs.bytes.blanks.Goals.{in-Some+in_default-byte, in_default}

pub more-init : goal.more-init
more-init c = record { is_text = search rules; so_far = blanks_begin c.args.text.now }

pub more-preserved-in-32 : goal.more-preserved-in-32
more-preserved-in-32 c =
    record {
      is_text = search rules;
      so_far = blanks_past_space c.more.invariant.so_far c.in-Some.ensures.0 (is_space_from c.in-Some.byte c.in-32.is);
    }

pub more-preserved-in-10 : goal.more-preserved-in-10
more-preserved-in-10 c = record { is_text = search rules; so_far = blanks_past_line c.more.invariant.so_far (c.in-Some.ensures.0 ∙ ap (λ b. b ∷ c.in-Some.behind.now) c.in-10.is) }

pub more-preserved : goal.more-preserved
more-preserved c = record { is_text = search rules; so_far = blanks_past_comment c.more.invariant.so_far (c.in-Some.ensures.0 ∙ ap (λ b. b ∷ c.in-Some.behind.now) c.in-35.is) c.line.ensures }

pub returns : goal.returns
returns c = blanks_end c.more.invariant.so_far (elim c.match-split_ascii.branch [
  | in-Some+in_default-byte w ↦ let other : is_blank w.in-Some.byte ≡ false = grind (arith, nat_tests) in ap (begins_with is_blank) w.in-Some.ensures.0 ∙ other
  | in_default w ↦ no_blank_ascii c.more.rest.now w.in_default.ensures
])
