use Rattle.std.proofs.Common.{refl, sym, ap, ◌∙◌, neg_ℤ, w64}
use Rattle.std.proofs.lemmas.Int.{to_z-of_z}
use Rattle.values.specs.Replies.{int_table}
use Rattle.values.proofs.Tables.{beyond_one, replied}
use Rattle.values.proofs.Rows.{found_word, alone_leads, one_item, fitted_so}
use Rattle.values.specs.declared.verb.Word.TheVariants as word
use Rattle.values.proofs.integers.int_call.Goals as goal

pub returns-in_default : goal.returns-in_default
returns-in_default c = replied c.no_method-in_default.result _ _ (sym (beyond_one (int_table c.args.x) c.args.verb.now (λ v w ws. refl) c.args.arguments.now c.in_default.len_at_least)) c.no_method-in_default.ensures

pub returns-in-Some-Negate : goal.returns-in-Some-Negate
returns-in-Some-Negate c =
    let verb = found_word c.args.verb.now word.Negate c.word.ensures c.in-Some-Negate.is c.in-Some-Negate.field-0-is in
    let negated = rw (to_z-of_z w64 c.args.x c.ranges.x) at c.checked_neg.ensures in
    replied c.fitting.result _ _ (alone_leads (int_table c.args.x) c.args.arguments.now verb c.in-empty.len_below) (fitted_so c.fitting.result c.checked_neg.result (neg_ℤ c.args.x) c.fitting.ensures negated)

pub returns-in-len1 : goal.returns-in-len1
returns-in-len1 c =
    let replies = rw (to_z-of_z w64 c.args.x c.ranges.x) at c.int_with.ensures in
    replied c.int_answer.result _ _ (replies ∙ ap (int_table c.args.x c.args.verb.now) (one_item c.args.arguments.now c.argument-item.result c.argument-item.is c.in-len1.len_at_least c.in-len1.len_below)) c.int_answer.ensures
