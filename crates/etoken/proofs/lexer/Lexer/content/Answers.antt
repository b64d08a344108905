use Rattle.std.proofs.Common.{rules, ◌<◌, ◌≡◌, ◌∷◌, ◌++◌, [], sym, ap, ◌∙◌, subst, is_ok}
use Rattle.std.specs.String.{string_bytes}
use Rattle.std.proofs.ResultArms.{chosen}
use Rattle.etoken.specs.Bytes.{is_plain, begins_with}
use Rattle.etoken.specs.declared.fault.TokenFault.TheVariants as fault
use Rattle.etoken.specs.Spelling.{Spoils}
use Rattle.etoken.proofs.Runs.{QuotedSoFar, quoted_begin, quoted_past_plain, quoted_past_escape}
use Rattle.etoken.proofs.Spelled.{text_spelled, text_unclosed, is_backslash, escape_spoiled}
use Rattle.etoken.proofs.lexer.Lexer.content.Goals as goal

pub more-init : goal.more-init
more-init c = record { is_text = search rules; so_far = subst (λ s. QuotedSoFar c.args.behind.now s c.args.behind.now) (sym c.new-content.ensures.bytes) (quoted_begin c.args.behind.now) }

pub returns-in_default : goal.returns-in_default
returns-in_default c = subst (λ o. Spoils c.args.self.now.length c.args.rest.now (fault.UnclosedText o)) (sym c.offset.ensures)
    (text_unclosed c.requires (quoted_past_plain c.more.invariant.so_far c.plain.ensures) c.plain.ensures.stops c.in_default.ensures)

pub returns-then-mark-eq34 : goal.returns-then-mark-eq34
returns-then-mark-eq34 c =
    text_spelled c.requires
    (subst (λ s. QuotedSoFar c.args.behind.now s c.plain.result.1.now) (sym (chosen _ _ _ _ c.push_str.ensures.bytes (ap is_ok c.in_ok-push_str.was)))
    (quoted_past_plain c.more.invariant.so_far c.plain.ensures))
    (c.in-Some.ensures.0 ∙ ap (λ b. b ∷ c.in-Some.behind.now) c.if-mark-eq34.true)

pub returns-in_default-escaped : goal.returns-in_default-escaped
returns-in_default-escaped c =
    let backslash = is_backslash c.in-Some.mark (sym (ap (begins_with is_plain) c.in-Some.ensures.0) ∙ c.plain.ensures.stops) c.if-mark-eq34.false in
    escape_spoiled c.args.self.now.length c.bad_escape.result c.requires (quoted_past_plain c.more.invariant.so_far c.plain.ensures)
    (c.in-Some.ensures.0 ∙ ap (λ b. b ∷ c.in-Some.behind.now) backslash) c.in_default-escaped.ensures c.bad_escape.ensures

pub more-preserved : goal.more-preserved
more-preserved c = record {
  is_text = search rules;
  so_far =
      let backslash = is_backslash c.in-Some.mark (sym (ap (begins_with is_plain) c.in-Some.ensures.0) ∙ c.plain.ensures.stops) c.if-mark-eq34.false in
      let letter = c.in-Some-escaped.ensures in
      let front = chosen _ _ _ _ c.push_str.ensures.bytes (ap is_ok c.in_ok-push_str.was) in
      let same : c.from.result ≡ c.in-Some-escaped.byte = search rules in
      let ascii = c.push.ensures.ascii (subst (λ n. n < 128) (sym same) letter.3) ∙ ap (λ n. n ∷ []) same in
      let added : string_bytes c.push.new.self ≡ (string_bytes c.more.content ++ c.plain.result.0.now) ++ c.in-Some-escaped.byte ∷ [] =
      c.in_ok-push.ensures.bytes ∙ (λ i. front i ++ ascii i) in
      subst (λ s. QuotedSoFar c.args.behind.now s c.in-Some-escaped.after.now) (sym added)
      (quoted_past_escape (quoted_past_plain c.more.invariant.so_far c.plain.ensures) (c.in-Some.ensures.0 ∙ (λ i. backslash i ∷ letter.1 i)) letter.2);
}
