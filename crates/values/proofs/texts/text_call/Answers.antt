use Rattle.std.proofs.Common.{refl, sym, ap, ◌∙◌}
use Rattle.values.specs.Replies.{text_table, text_size, text_add}
use Rattle.values.specs.View.{val_of}
use Rattle.values.proofs.Tables.{beyond_one, replied}
use Rattle.values.proofs.Rows.{found_word, alone_leads, with_one_leads}
use Rattle.values.specs.declared.verb.Word.TheVariants as word
use Rattle.values.proofs.texts.text_call.Goals as goal

pub returns-in_default : goal.returns-in_default
returns-in_default c = replied c.no_method-in_default.result _ _ (sym (beyond_one (text_table c.args.text.now) c.args.verb.now (λ v w ws. refl) c.args.arguments.now c.in_default.len_at_least)) c.no_method-in_default.ensures

pub returns-in-Some-Size : goal.returns-in-Some-Size
returns-in-Some-Size c =
    let verb = found_word c.args.verb.now word.Size c.word.ensures c.in-Some-Size.is c.in-Some-Size.field-0-is in
    replied c.text_size.result _ _ (ap text_size c.as_str.ensures ∙ alone_leads (text_table c.args.text.now) c.args.arguments.now verb c.in-empty.len_below) c.text_size.ensures

pub returns-in-Some-Add : goal.returns-in-Some-Add
returns-in-Some-Add c =
    let verb = found_word c.args.verb.now word.Add c.word-in-len1.ensures c.in-Some-Add.is c.in-Some-Add.field-0-is in
    replied c.text_add.result _ _ (ap (λ s. text_add s (val_of c.argument-item.result)) c.as_str-in-Some-Add.ensures ∙ with_one_leads (text_table c.args.text.now) c.args.arguments.now c.argument-item.result verb c.argument-item.is c.in-len1.len_at_least c.in-len1.len_below) c.text_add.ensures
